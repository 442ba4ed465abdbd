use Rattle.std.proofs.Common.{◌≡◌, drop}
use Rattle.fortran_lines.specs.Contexts.{context_behind}
use Rattle.fortran_lines.proofs.context.context_behind.Given as goal

-- what is left leads on as the whole text does
abbrev pub invariant-loop-mark : goal.invariant-loop-mark
invariant-loop-mark l = context_behind l.now (drop l.mark-index l.text) ≡ context_behind l.fn.context l.text

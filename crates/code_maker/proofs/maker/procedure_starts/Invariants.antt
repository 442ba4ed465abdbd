use Rattle.std.proofs.Common.{◌≡◌, ◌++◌, drop}
use Rattle.std.specs.Prelude.{map}
use Rattle.checked_tree.specs.StatementViews as view
use Rattle.tree_meaning.specs.Forms.{bodies, procedure_bodies}
use Rattle.code_maker.specs.Programs.{starts_from, end_from}
use Rattle.code_maker.proofs.maker.procedure_starts.Given as goal

abbrev pub invariant-loop-procedure : goal.invariant-loop-procedure
invariant-loop-procedure l = record {
  places : l.places.items ++ starts_from l.end (procedure_bodies (view.program l.checked) (map view.procedure (drop l.procedure-index l.procedures))) ≡ starts_from 4 (bodies (view.program l.checked));
  end : end_from l.end (procedure_bodies (view.program l.checked) (map view.procedure (drop l.procedure-index l.procedures))) ≡ end_from 4 (bodies (view.program l.checked));
}

use Rattle.std.proofs.Common.{◌≡◌, drop}
use Rattle.std.specs.Prelude.{map}
use Rattle.checked_tree.specs.StatementViews as view
use Rattle.tree_meaning.specs.Forms.{procedure_bodies}
use Rattle.code_maker.specs.Programs.{HasLiterals, procedures_written}
use Rattle.code_maker.proofs.maker.push_procedures.Given as goal

abbrev pub invariant-loop-procedure : goal.invariant-loop-procedure
invariant-loop-procedure l =
    (procedures_written l.checked.end_line (procedure_bodies (view.program l.checked) (map view.procedure (drop l.procedure-index l.procedures))) l.draft ≡ procedures_written l.checked.end_line (procedure_bodies (view.program l.checked) (map view.procedure l.procedures)) l.initial.draft)
    × HasLiterals l.checked.literals.items l.draft

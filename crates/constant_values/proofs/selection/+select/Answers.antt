use Rattle.std.proofs.Common.{ap, ◌∙◌, arith}
use Rattle.constant_values.specs.Selections.{with_choice_of}
use Rattle.constant_values.proofs.Selections.{select_front}
use Rattle.constant_values.proofs.selection.+select.Goals as goal

pub returns : goal.returns
returns t c =
    c.in_ok-with_section.ensures ∙ ap (with_choice_of _ _) c.in_ok-rest.ensures ∙ select_front c.args.dims.now c.args.sections.now _ _ (omega arith) (omega arith)

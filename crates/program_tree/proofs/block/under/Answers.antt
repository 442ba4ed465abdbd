use Rattle.std.proofs.Common.{◌∷◌, ap, sym, ◌∙◌}
use Rattle.fortran_tree.specs.ActionViews.{action_if}
use Rattle.fortran_tree.specs.ExpressionViews.{expression}
use Rattle.statement_reader.specs.Parts as f
use Rattle.program_reader.specs.Nesting.{action_parts}
use Rattle.program_tree.specs.Blocks.{conditions_front, action_front}
use Rattle.program_tree.proofs.Fronts.{one_condition}
use Rattle.program_tree.proofs.block.under.Goals as goal

pub loop-outer-preserved : goal.loop-outer-preserved
loop-outer-preserved c = λ es.
    let outer = c.in-Some.outer in
    let box = c.in_ok-new.field-0 in
    c.loop-outer.invariant es
    ∙ (ap (λ z. conditions_front z (action_front c.loop-outer.whole es)) c.in-Some.ensures.items
    ∙ (one_condition c.pop.new.self.items outer (action_front c.loop-outer.whole es)
    ∙ (ap (λ z. conditions_front c.pop.new.self.items (f.condition_part (expression outer.condition) outer.at ∷ action_front z es)) (sym c.in_ok-new.ensures.ok)
    ∙ ap (λ z. conditions_front c.pop.new.self.items (action_parts z outer.at es)) (sym (action_if outer.condition box)))))

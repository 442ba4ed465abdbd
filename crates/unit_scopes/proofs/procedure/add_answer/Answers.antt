use Rattle.std.proofs.Common.{◌∙◌, ap, refl, sym}
use Rattle.fortran_tree.specs.UnitViews.{heading}
use Rattle.rule_definitions.specs.Judgements.{first_of}
use Rattle.rule_definitions.specs.Units.{headed}
use Rattle.unit_scopes.specs.Openings.{maybe_untyped}
use Rattle.unit_scopes.proofs.Chains.{answer_typed, answer_untyped}
use Rattle.unit_scopes.proofs.procedure.add_answer.Goals as goal

pub returns-then-is_typed_heading : goal.returns-then-is_typed_heading
returns-then-is_typed_heading c = λ p s h.
    answer_typed p s (headed (heading c.args.heading.now)) c.args.of_type c.args.grown.now (record { first = c.args.grown.now.first; own = c.add_typed.new.own; constants = c.args.grown.now.constants })
    (sym c.is_typed_heading.ensures ∙ c.if-is_typed_heading.true) h c.in_ok-add_typed.ensures refl refl

pub returns : goal.returns
returns c = λ p s h.
    answer_untyped p s (headed (heading c.args.heading.now)) c.args.grown.now (record { first = c.add_untyped.new.first; own = c.add_untyped.new.own; constants = c.args.grown.now.constants })
    (sym c.is_typed_heading.ensures ∙ c.if-is_typed_heading.false)
    (λ t. c.in_ok-add_untyped.ensures.first t ∙ ap (λ z. first_of c.args.grown.now.first (maybe_untyped z (record t { own = c.args.grown.now.own })).breaks) c.answer_in.ensures)
    (λ t. sym (ap (λ z. (maybe_untyped z (record t { own = c.args.grown.now.own })).scope) c.answer_in.ensures) ∙ c.in_ok-add_untyped.ensures.own t) refl

use Rattle.std.proofs.Common.{rules, ◌≡◌, [], ◌∷◌, ◌++◌, ap, sym, ◌∙◌, map}
use Rattle.fortran_tree.specs.ExpressionViews.{specifiers}
use Rattle.statement_reader.specs.Objects.{objects_of, specifiers_of}
use Rattle.action_reader.proofs.Turns.{map_append}
use Rattle.keyword_reader.specs.declared.object.Choice.TheVariants as held
use Rattle.keyword_reader.specs.Views.{choice_of}
use Rattle.keyword_reader.proofs.Objects.{and_last, held_pushed, object_pushed, object_same, specifier_pushed, specifier_same}
use Rattle.keyword_reader.proofs.object.parted.Goals as goal

pub loop-choice-preserved-in-Continue-branch-2 : goal.loop-choice-preserved-in-Continue-branch-2
loop-choice-preserved-in-Continue-branch-2 g c =
    let look = g.R.Reads.look in
    let grown : c.push-in-Object.new.self.items ≡ c.loop-choice.objects.items ++ c.in-Object.object ∷ [] = search rules in
    let is : c.in-Some.choice ≡ held.Object c.in-Object.object = search rules in
    let more : c.loop-choice.yielded ++ c.in-Some.choice ∷ [] ≡ c.loop-choice.yielded ++ held.Object c.in-Object.object ∷ [] = ap (λ x. c.loop-choice.yielded ++ x ∷ []) is in (
      ap (map look) grown
          ∙ (map_append look c.loop-choice.objects.items (c.in-Object.object ∷ [])
          ∙ (ap (λ z. z ++ look c.in-Object.object ∷ []) c.loop-choice.invariant.0
          ∙ ap (λ z. look c.args.first ∷ z) (sym (ap (λ z. objects_of (map (choice_of look) z)) more ∙ object_pushed look c.loop-choice.yielded c.in-Object.object)))),
      c.loop-choice.invariant.1 ∙ sym (ap (λ z. specifiers_of (map (choice_of look) z)) more ∙ specifier_same look c.loop-choice.yielded c.in-Object.object),
    )

pub loop-choice-preserved : goal.loop-choice-preserved
loop-choice-preserved g c =
    let look = g.R.Reads.look in
    let grown : c.push-in-Specifier.new.self.items ≡ c.loop-choice.specifiers.items ++ c.in-Specifier.specifier ∷ [] = search rules in
    let is : c.in-Some.choice ≡ held.Specifier c.in-Specifier.specifier = search rules in
    let more : c.loop-choice.yielded ++ c.in-Some.choice ∷ [] ≡ c.loop-choice.yielded ++ held.Specifier c.in-Specifier.specifier ∷ [] = ap (λ x. c.loop-choice.yielded ++ x ∷ []) is in (
      c.loop-choice.invariant.0
          ∙ ap (λ z. look c.args.first ∷ z) (sym (ap (λ z. objects_of (map (choice_of look) z)) more ∙ object_same look c.loop-choice.yielded c.in-Specifier.specifier)),
      ap specifiers grown
          ∙ (held_pushed c.loop-choice.specifiers.items c.in-Specifier.specifier
          ∙ (ap (λ qs. and_last qs c.in-Specifier.specifier) c.loop-choice.invariant.1
          ∙ sym (ap (λ z. specifiers_of (map (choice_of look) z)) more ∙ specifier_pushed look c.loop-choice.yielded c.in-Specifier.specifier))),
    )

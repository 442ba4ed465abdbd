-- What breaks in three arguments that are taken away one after the other.
use Rattle.std.proofs.Common.{◌≡◌, ◌∙◌, ap, List, []}
use Rattle.std.specs.Prelude.{◌++◌, Option, Some, None}
use Rattle.std.proofs.lemmas.List.{append_assoc}
use Rattle.checked_tree.specs.Expressions as t
use Rattle.rule_definitions.specs.declared.broken.Broken.{Broken}
use Rattle.rule_definitions.specs.Arguments.{Binding, given_to, maybe_given_to, value_for}
use Rattle.rule_definitions.specs.Judgements.{Judgement, fine, made_of, unknown}
use Rattle.rule_definitions.specs.Parts.{Placed}
use Rattle.call_rules.specs.Bindings.{without}
use Rattle.call_rules.proofs.Taking.{second_stays, third_stays}

abbrev under_rule : (Placed → Judgement t.Expression) → Option Placed → Judgement t.Expression
under_rule g o = elim o [ None ↦ unknown | Some x ↦ g x ]

abbrev maybe_under_rule : (Placed → Judgement t.Expression) → Option Placed → Judgement t.OptionalExpression
maybe_under_rule h o = elim o [ None ↦ fine t.missing | Some x ↦ made_of t.given (h x) ]

second_breaks : (g : Placed → Judgement t.Expression) (bs cs : List Binding) → cs ≡ without bs 0 → (given_to cs 1 g).breaks ≡ (given_to bs 1 g).breaks
second_breaks g bs cs e =
    ap (λ o. (under_rule g o).breaks) (ap (λ l. value_for l 1) e ∙ second_stays bs)

third_breaks : (h : Placed → Judgement t.Expression) (bs cs ds : List Binding) → cs ≡ without bs 0 → ds ≡ without cs 1
    → (maybe_given_to ds 2 h).breaks ≡ (maybe_given_to bs 2 h).breaks
third_breaks h bs cs ds e f =
    ap (λ o. (maybe_under_rule h o).breaks)
    (ap (λ l. value_for l 2) (f ∙ ap (λ l. without l 1) e) ∙ third_stays bs)

pub three_noted : (first : List Broken) (g h : Placed → Judgement t.Expression) (bs cs ds : List Binding) (none xs ys zs : List Broken)
    → none ≡ [] → xs ≡ none ++ first → ys ≡ xs ++ (given_to cs 1 g).breaks → zs ≡ ys ++ (maybe_given_to ds 2 h).breaks → cs ≡ without bs 0 → ds ≡ without cs 1
    → zs ≡ first ++ ((given_to bs 1 g).breaks ++ (maybe_given_to bs 2 h).breaks)
three_noted first g h bs cs ds none xs ys zs n i j k e f =
    k
    ∙ ap (λ l. l ++ (maybe_given_to ds 2 h).breaks) (j ∙ ap (λ l. l ++ (given_to cs 1 g).breaks) (i ∙ ap (λ l. l ++ first) n))
    ∙ ap (λ l. (first ++ (given_to cs 1 g).breaks) ++ l) (third_breaks h bs cs ds e f)
    ∙ ap (λ l. (first ++ l) ++ (maybe_given_to bs 2 h).breaks) (second_breaks g bs cs e)
    ∙ append_assoc first (given_to bs 1 g).breaks (maybe_given_to bs 2 h).breaks

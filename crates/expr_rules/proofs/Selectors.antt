-- An image selector by its cosubscripts and its specifiers.
use Rattle.std.proofs.Common.{◌≡◌, refl, ap, sym, ◌∙◌}
use Rattle.std.specs.Prelude.{ℕ, Bool, true, false, cond, List, ◌++◌, Option, Some, None, length}
use Rattle.std.proofs.lemmas.List.{append_assoc}
use Rattle.checked_tree.specs.Expressions as t
use Rattle.rule_definitions.specs.declared.broken.Broken.{Broken}
use Rattle.rule_definitions.specs.Expressions.{WrittenSelector, cosubscripts, selector_written}
use Rattle.rule_definitions.specs.Judgements.{both, is_nothing, three}
use Rattle.rule_definitions.specs.Parts.{Placed}
use Rattle.rule_definitions.specs.Specifiers.{Written, selected_team, selector_specifiers, stat_variable}
use Rattle.specifier_rules.specs.Meanings.{team_and_stat, team_with}
use Rattle.expr_rules.specs.Selections.{selector_with}

pub selector_breaks : (es : List Placed) (ws : List Written) → (selector_written es ws).judged.breaks ≡ (cosubscripts es).breaks ++ (team_and_stat ws).breaks
selector_breaks es ws = append_assoc (cosubscripts es).breaks ((selected_team ws).breaks ++ (stat_variable ws).breaks) (selector_specifiers ws)

of_parts : (b : Bool) (o : Option t.Expressions) (m : Option t.SelectedTeam) (r : Option t.OptionalResult)
    → cond b (three t.selector o m r) None ≡ both selector_with o (cond b (both team_with m r) None)
of_parts true None m r = refl
of_parts true (Some es) None r = refl
of_parts true (Some es) (Some m) None = refl
of_parts true (Some es) (Some m) (Some r) = refl
of_parts false None m r = refl
of_parts false (Some es) m r = refl

pub selector_meaning : (es : List Placed) (ws : List Written) → (selector_written es ws).judged.meaning ≡ both selector_with (cosubscripts es).meaning (team_and_stat ws).meaning
selector_meaning es ws = of_parts (is_nothing (selector_specifiers ws)) (cosubscripts es).meaning (selected_team ws).meaning (stat_variable ws).meaning

abbrev with_parts : ℕ → List Broken → Option t.Selector → WrittenSelector
with_parts k bs o = record { count = Some k; judged = record { breaks = bs; meaning = o } }

pub selector_is : (es : List Placed) (ws : List Written) (k : ℕ) (bs : List Broken) (o : Option t.Selector)
    → k ≡ length es → bs ≡ (cosubscripts es).breaks ++ (team_and_stat ws).breaks → o ≡ both selector_with (cosubscripts es).meaning (team_and_stat ws).meaning
    → with_parts k bs o ≡ selector_written es ws
selector_is es ws k bs o e f g =
    ap (λ n. with_parts n bs o) e
    ∙ ap (λ n. with_parts (length es) n o) (f ∙ sym (selector_breaks es ws))
    ∙ ap (with_parts (length es) (selector_written es ws).judged.breaks) (g ∙ sym (selector_meaning es ws))

-- What specifiers mean has its rank.
use Rattle.std.proofs.Common.{◌≡◌, ◌∙◌, ℕ, Bool, true, false, List, [], ◌∷◌, refl, sym, subst}
use Rattle.std.specs.Prelude.{bytes_eq, codes, cond, Option, Some, None}
use Rattle.std.specs.Bool.{Decides}
use Rattle.std.proofs.lemmas.Slice.Eq.{bytes_eq-Decides}
use Rattle.checked_tree.specs.Expressions as t
use Rattle.checked_tree.specs.Statements.{Procedure}
use Rattle.rule_definitions.specs.declared.broken.Broken.{Broken}
use Rattle.rule_definitions.specs.declared.taken.Taken.TheVariants.{Integers as integers, Logicals as logicals}
use Rattle.rule_definitions.specs.Judgements.{Judgement, made_of}
use Rattle.rule_definitions.specs.Parts.{Placed, integer, team, result_variable}
use Rattle.rule_definitions.specs.Specifiers.{Written, specifier_breaks, value_breaks, values_breaks, all_breaks, value_named, meant, stat_variable, acquired_variable, number_named, by_number, selected_team}
use Rattle.accepted_ranks.specs.Kinded as ranks
use Rattle.accepted_ranks.proofs.Means.{Means, left_nothing, right_nothing, none_some, some_same, fine_means, made_means}
use Rattle.accepted_ranks.proofs.Parts.{Good, integer_means, team_means, result_means}

-- what breaks in the value of a specifier with this name
abbrev breaks_as : List ℕ → Placed → List Broken
breaks_as n e = value_breaks (record { name = record { text = n; at = e.at }; value = e })

pick : (P : Placed → Type 0) (b : Bool) (d : Placed) (o : Option Placed) (e : Placed) → (b ≡ true → P d) → (o ≡ Some e → P e) → cond b (Some d) o ≡ Some e → P e
pick P true d o e f g h = subst P (some_same d e h) (f refl)
pick P false d o e f g h = g h

decided_same : (n m : List ℕ) (b : Bool) → Decides b (n ≡ m) → b ≡ true → n ≡ m
decided_same n m b d e = d.0 e

named_nothing : (n : List ℕ) (ws : List Written) (e : Placed) → values_breaks ws ≡ [] → value_named n ws ≡ Some e → breaks_as n e ≡ []
named_nothing n [] e h f = none_some e f
named_nothing n (w ∷ rest) e h f =
    let l = left_nothing (value_breaks w) (values_breaks rest) h in
    pick (λ x. breaks_as n x ≡ []) (bytes_eq w.name.text n) w.value (value_named n rest) e
    (λ k. subst (λ m. breaks_as m w.value ≡ []) (decided_same w.name.text n (bytes_eq w.name.text n) (bytes_eq-Decides w.name.text n) k) l)
    (named_nothing n rest e (right_nothing (value_breaks w) (values_breaks rest) h)) f

-- what is meant, where nothing breaks in it
meant_means : {T : Type 0} {P : T → Type 0} {j : Judgement T} → j.breaks ≡ [] → Means j P → Means (meant j) P
meant_means e h = record { means = λ b x f. h.means e x f }

found_means : {T : Type 0} {P : T → Type 0} (o : Option Placed) {j : Judgement T} (rule : Placed → Judgement T) → Means j P → ((e : Placed) → o ≡ Some e → Means (rule e) P × ((rule e).breaks ≡ []))
    → Means (elim o [ None ↦ j | Some e ↦ meant (rule e) ]) P
found_means None rule h k = h
found_means (Some e) rule h k = meant_means (k e refl).1 (k e refl).0

module _ (ps : List Procedure) where
  abbrev pub AllWritten : List Written → Type 0
  AllWritten [] = Unit {0}
  AllWritten (w ∷ rest) = Good ps w.value × AllWritten rest

  named_good : (n : List ℕ) (ws : List Written) (e : Placed) → AllWritten ws → value_named n ws ≡ Some e → Good ps e
  named_good n [] e h f = none_some e f
  named_good n (w ∷ rest) e h f = pick (Good ps) (bytes_eq w.name.text n) w.value (value_named n rest) e (λ k. h.0) (named_good n rest e h.1) f

  module _ (allowed : List (List ℕ)) (ws : List Written) (h : AllWritten ws) (u : all_breaks allowed ws ≡ []) where
    unbroken : values_breaks ws ≡ []
    unbroken = right_nothing (specifier_breaks allowed [] ws) (values_breaks ws) u

    pub stat_means : Means (stat_variable ws) (ranks.IsOptionalResult ps)
    stat_means = found_means (value_named (codes "stat") ws) (λ e. made_of t.result (result_variable integers e)) (fine_means t.no_result tt)
        (λ e f. (made_means t.result (result_means ps integers e (named_good (codes "stat") ws e h f)) (λ x k. k), named_nothing (codes "stat") ws e unbroken f))

    pub acquired_means : Means (acquired_variable ws) (ranks.IsOptionalResult ps)
    acquired_means = found_means (value_named (codes "acquired_lock") ws) (λ e. made_of t.result (result_variable logicals e)) (fine_means t.no_result tt)
        (λ e f. (made_means t.result (result_means ps logicals e (named_good (codes "acquired_lock") ws e h f)) (λ x k. k), named_nothing (codes "acquired_lock") ws e unbroken f))

    number_from : (n : List ℕ) → ((e : Placed) → breaks_as n e ≡ (integer 39 e).breaks) → Means (number_named n ws) (ranks.IsOptionalScalar ps)
    number_from n s = found_means (value_named n ws) (λ e. made_of t.given (integer 39 e)) (fine_means t.missing tt)
        (λ e f. (made_means t.given (integer_means ps 39 e (named_good n ws e h f)) (λ x k. k), sym (s e) ∙ named_nothing n ws e unbroken f))

    pub new_index_means : Means (number_named (codes "new_index") ws) (ranks.IsOptionalScalar ps)
    new_index_means = number_from (codes "new_index") (λ e. refl)

    pub until_count_means : Means (number_named (codes "until_count") ws) (ranks.IsOptionalScalar ps)
    until_count_means = number_from (codes "until_count") (λ e. refl)

    by_number_means : Means (by_number ws) (ranks.IsTeam ps)
    by_number_means = found_means (value_named (codes "team_number") ws) (λ e. made_of t.team_number (integer 39 e)) (fine_means t.current tt)
        (λ e f. (made_means t.team_number (integer_means ps 39 e (named_good (codes "team_number") ws e h f)) (λ x k. k), named_nothing (codes "team_number") ws e unbroken f))

    pub selected_means : Means (selected_team ws) (ranks.IsTeam ps)
    selected_means = found_means (value_named (codes "team") ws) (λ e. made_of t.team (team e)) by_number_means
        (λ e f. (made_means t.team (team_means ps 51 e (named_good (codes "team") ws e h f)) (λ x k. k), named_nothing (codes "team") ws e unbroken f))

-- Specifiers are judged soundly: what is meant by one has a meaning where nothing breaks in them.
use Rattle.std.proofs.Common.{◌≡◌, ◌∙◌, ℕ, Bool, true, false, List, [], ◌∷◌, refl, sym, subst}
use Rattle.std.specs.Prelude.{bytes_eq, codes, cond, not, ◌&&◌, ◌||◌, Option, Some, None}
use Rattle.std.specs.Bool.{Decides}
use Rattle.std.proofs.lemmas.Slice.Eq.{bytes_eq-Decides}
use Rattle.checked_tree.specs.Expressions as t
use Rattle.rule_definitions.specs.declared.broken.Broken.{Broken}
use Rattle.rule_definitions.specs.declared.taken.Taken.TheVariants.{Integers as integers, Logicals as logicals}
use Rattle.rule_definitions.specs.Judgements.{is_nothing, Judgement, fine, made_of}
use Rattle.rule_definitions.specs.Names.{is_among}
use Rattle.rule_definitions.specs.Parts.{Placed, plain, integer, team, result_variable}
use Rattle.rule_definitions.specs.Specifiers.{Written, is_repeated, name_breaks, specifier_breaks, value_breaks, values_breaks, all_breaks, value_named, meant, stat_variable, acquired_variable, number_named, by_number, selected_team}
use Rattle.rule_laws.proofs.Sound.{AreNumbered, IsSound, none_numbered, cond_numbered, unless_numbered, both_numbered, left_nothing, right_nothing, fine_sound, weaker, made_sound}
use Rattle.rule_laws.proofs.PartsSound.{plain_sound, integer_sound, team_of_sound, result_variable_sound}

abbrev pub AllWritten : Type 0 → List Written → Type 0
AllWritten H [] = Unit {0}
AllWritten H (w ∷ rest) = IsSound H w.value.judged × AllWritten H rest

name_numbered : (allowed seen : List (List ℕ)) (w : Written) → AreNumbered (name_breaks allowed seen w)
name_numbered allowed seen w = cond_numbered (is_nothing (plain w.value).breaks) (unless_numbered (is_among allowed w.name.text && not (is_repeated seen w.name.text)) 35 w.name.at refl) none_numbered

specifiers_numbered : (allowed seen : List (List ℕ)) (ws : List Written) → AreNumbered (specifier_breaks allowed seen ws)
specifiers_numbered allowed seen [] = none_numbered
specifiers_numbered allowed seen (w ∷ rest) = both_numbered (name_numbered allowed seen w) (specifiers_numbered allowed (w.name.text ∷ seen) rest)

-- what breaks in the value of a specifier with this name
abbrev breaks_as : List ℕ → Placed → List Broken
breaks_as n e = value_breaks (record { name = record { text = n; at = e.at }; value = e })

value_numbered : (H : Type 0) (n : List ℕ) (e : Placed) → IsSound H e.judged → AreNumbered (breaks_as n e)
value_numbered H n e h =
    cond_numbered (bytes_eq n (codes "stat")) (result_variable_sound integers e h).numbered
    (cond_numbered (bytes_eq n (codes "acquired_lock")) (result_variable_sound logicals e h).numbered
    (cond_numbered (bytes_eq n (codes "team")) (team_of_sound 51 refl e h).numbered
    (cond_numbered (bytes_eq n (codes "team_number") || (bytes_eq n (codes "new_index") || bytes_eq n (codes "until_count"))) (integer_sound 39 refl e h).numbered
    (plain_sound e h).numbered)))

values_numbered : (H : Type 0) (ws : List Written) → AllWritten H ws → AreNumbered (values_breaks ws)
values_numbered H [] h = none_numbered
values_numbered H (w ∷ rest) h = both_numbered (value_numbered H w.name.text w.value (h.0)) (values_numbered H rest (h.1))

pub all_numbered : (H : Type 0) (allowed : List (List ℕ)) (ws : List Written) → AllWritten H ws → AreNumbered (all_breaks allowed ws)
all_numbered H allowed ws h = both_numbered (specifiers_numbered allowed [] ws) (values_numbered H ws h)

-- The value of a specifier

same_placed : (d e : Placed) → Some d ≡ Some e → d ≡ e
same_placed d e f = cc

none_placed : (e : Placed) → None ≡ Some e → ⊥
none_placed e f = cc

-- what is wanted of the value that a name finds
pick : (P : Placed → Type 0) (b : Bool) (d : Placed) (o : Option Placed) (e : Placed) → (b ≡ true → P d) → (o ≡ Some e → P e) → cond b (Some d) o ≡ Some e → P e
pick P true d o e f g h = subst P (same_placed d e h) (f refl)
pick P false d o e f g h = g h

named_sound : (H : Type 0) (n : List ℕ) (ws : List Written) (e : Placed) → AllWritten H ws → value_named n ws ≡ Some e → IsSound H e.judged
named_sound H n [] e h f = absurd (none_placed e f)
named_sound H n (w ∷ rest) e h f = pick (λ x. IsSound H x.judged) (bytes_eq w.name.text n) w.value (value_named n rest) e (λ k. h.0) (named_sound H n rest e (h.1)) f

decided_same : (n m : List ℕ) (b : Bool) → Decides b (n ≡ m) → b ≡ true → n ≡ m
decided_same n m b d e = d.0 e

named_nothing : (n : List ℕ) (ws : List Written) (e : Placed) → values_breaks ws ≡ [] → value_named n ws ≡ Some e → breaks_as n e ≡ []
named_nothing n [] e h f = absurd (none_placed e f)
named_nothing n (w ∷ rest) e h f =
    let l = left_nothing (value_breaks w) (values_breaks rest) h in
    pick (λ x. breaks_as n x ≡ []) (bytes_eq w.name.text n) w.value (value_named n rest) e
    (λ k. subst (λ m. breaks_as m w.value ≡ []) (decided_same w.name.text n (bytes_eq w.name.text n) (bytes_eq-Decides w.name.text n) k) l)
    (named_nothing n rest e (right_nothing (value_breaks w) (values_breaks rest) h)) f

-- what is meant by a value, by the rule under which it stands
meant_sound : {H T : Type 0} (K : Type 0) (j : Judgement T) → IsSound H j → (K → j.breaks ≡ []) → IsSound (H × K) (meant j)
meant_sound K j s f = record { numbered = none_numbered; decided = λ h e. s.decided (h.0) (f (h.1)) }

found_sound : {H T : Type 0} (K : Type 0) (o : Option Placed) (x : T) (rule : Placed → Judgement T) → ((e : Placed) → o ≡ Some e → IsSound H (rule e) × (K → (rule e).breaks ≡ []))
    → IsSound (H × K) (elim o [ None ↦ fine x | Some e ↦ meant (rule e) ])
found_sound K None x rule h = fine_sound x
found_sound K (Some e) x rule h = meant_sound K (rule e) ((h e refl).0) ((h e refl).1)

abbrev Unbroken : List Written → Type 0
Unbroken ws = values_breaks ws ≡ []

stat_from : (H : Type 0) (ws : List Written) → AllWritten H ws → IsSound (H × Unbroken ws) (stat_variable ws)
stat_from H ws h = found_sound (Unbroken ws) (value_named (codes "stat") ws) t.no_result (λ e. made_of t.result (result_variable integers e))
    (λ e f. (made_sound t.result (result_variable_sound integers e (named_sound H (codes "stat") ws e h f)), λ k. named_nothing (codes "stat") ws e k f))

acquired_from : (H : Type 0) (ws : List Written) → AllWritten H ws → IsSound (H × Unbroken ws) (acquired_variable ws)
acquired_from H ws h = found_sound (Unbroken ws) (value_named (codes "acquired_lock") ws) t.no_result (λ e. made_of t.result (result_variable logicals e))
    (λ e f. (made_sound t.result (result_variable_sound logicals e (named_sound H (codes "acquired_lock") ws e h f)), λ k. named_nothing (codes "acquired_lock") ws e k f))

number_from : (H : Type 0) (n : List ℕ) (ws : List Written) → ((e : Placed) → breaks_as n e ≡ (integer 39 e).breaks) → AllWritten H ws → IsSound (H × Unbroken ws) (number_named n ws)
number_from H n ws s h = found_sound (Unbroken ws) (value_named n ws) t.missing (λ e. made_of t.given (integer 39 e))
    (λ e f. (made_sound t.given (integer_sound 39 refl e (named_sound H n ws e h f)), λ k. sym (s e) ∙ named_nothing n ws e k f))

by_number_from : (H : Type 0) (ws : List Written) → AllWritten H ws → IsSound (H × Unbroken ws) (by_number ws)
by_number_from H ws h = found_sound (Unbroken ws) (value_named (codes "team_number") ws) t.current (λ e. made_of t.team_number (integer 39 e))
    (λ e f. (made_sound t.team_number (integer_sound 39 refl e (named_sound H (codes "team_number") ws e h f)), λ k. named_nothing (codes "team_number") ws e k f))

else_sound : {H T : Type 0} (K : Type 0) (o : Option Placed) {j : Judgement T} (rule : Placed → Judgement T) → IsSound (H × K) j → ((e : Placed) → o ≡ Some e → IsSound H (rule e) × (K → (rule e).breaks ≡ []))
    → IsSound (H × K) (elim o [ None ↦ j | Some e ↦ meant (rule e) ])
else_sound K None rule s h = s
else_sound K (Some e) rule s h = meant_sound K (rule e) ((h e refl).0) ((h e refl).1)

selected_from : (H : Type 0) (ws : List Written) → AllWritten H ws → IsSound (H × Unbroken ws) (selected_team ws)
selected_from H ws h = else_sound (Unbroken ws) (value_named (codes "team") ws) (λ e. made_of t.team (team e)) (by_number_from H ws h)
    (λ e f. (made_sound t.team (team_of_sound 51 refl e (named_sound H (codes "team") ws e h f)), λ k. named_nothing (codes "team") ws e k f))

-- each under the rules of its statement

unbroken : (H : Type 0) (allowed : List (List ℕ)) (ws : List Written) → H × (all_breaks allowed ws ≡ []) → H × Unbroken ws
unbroken H allowed ws h = (h.0, right_nothing (specifier_breaks allowed [] ws) (values_breaks ws) (h.1))

pub stat_sound : (H : Type 0) (allowed : List (List ℕ)) (ws : List Written) → AllWritten H ws → IsSound (H × (all_breaks allowed ws ≡ [])) (stat_variable ws)
stat_sound H allowed ws h = weaker (unbroken H allowed ws) (stat_from H ws h)

pub acquired_sound : (H : Type 0) (allowed : List (List ℕ)) (ws : List Written) → AllWritten H ws → IsSound (H × (all_breaks allowed ws ≡ [])) (acquired_variable ws)
acquired_sound H allowed ws h = weaker (unbroken H allowed ws) (acquired_from H ws h)

pub new_index_sound : (H : Type 0) (allowed : List (List ℕ)) (ws : List Written) → AllWritten H ws → IsSound (H × (all_breaks allowed ws ≡ [])) (number_named (codes "new_index") ws)
new_index_sound H allowed ws h = weaker (unbroken H allowed ws) (number_from H (codes "new_index") ws (λ e. refl) h)

pub until_count_sound : (H : Type 0) (allowed : List (List ℕ)) (ws : List Written) → AllWritten H ws → IsSound (H × (all_breaks allowed ws ≡ [])) (number_named (codes "until_count") ws)
until_count_sound H allowed ws h = weaker (unbroken H allowed ws) (number_from H (codes "until_count") ws (λ e. refl) h)

pub selected_sound : (H : Type 0) (allowed : List (List ℕ)) (ws : List Written) → AllWritten H ws → IsSound (H × (all_breaks allowed ws ≡ [])) (selected_team ws)
selected_sound H allowed ws h = weaker (unbroken H allowed ws) (selected_from H ws h)

-- What an image brings to a round: its word, and what stands behind it.
use Rattle.std.proofs.Common.{◌≡◌, ℕ, true, ℤ, List, [], ◌∷◌, ◌++◌, flat_map, drop, refl, ap, sym, ◌∙◌, subst, codes}
use Rattle.std.proofs.Common.{append_assoc}
use Rattle.std.specs.List.{list_all}
use Rattle.caf_events.specs.declared.round.Allotted.{Allotted}
use Rattle.caf_events.specs.declared.round.Arriving.{Arriving}
use Rattle.caf_events.specs.declared.round.Arriving.TheVariants as arrivings
use Rattle.caf_text.specs.Numbers.{decimal_text}
use Rattle.trace_text.specs.TraceText.{name_text, spaced_name, allotted_text, arriving_text}
use Rattle.trace_forms.specs.Names.{AreNames}
use Rattle.trace_forms.specs.Ranges.{HasName}
use Rattle.trace_forms.proofs.Pieces.{name_some}
use Rattle.trace_forms.proofs.Fields.{name_field}
use Rattle.trace_fields.specs.Cutting.{other, IsCutAt}
use Rattle.trace_fields.specs.Words.{round_by}
use Rattle.trace_fields.specs.declared.words.RoundWord.{RoundWord}
use Rattle.trace_fields.specs.declared.words.RoundWord.TheVariants as rounds
use Rattle.trace_fields.proofs.Cut.{found}
use Rattle.trace_fields.proofs.Rows.{AreFields}

pub name_fields : (names : List (List ℕ)) → AreNames names → AreFields (HasName names) (name_text names)
name_fields names are = record { some = name_some names are; inside = (name_field names are).inside }

-- its word
abbrev pub arrival_word : Arriving → List ℕ
arrival_word arrivings.Sync = codes "sync"
arrival_word (arrivings.Form number new_index) = codes "form"
arrival_word arrivings.Change = codes "change"
arrival_word arrivings.End = codes "end"
arrival_word (arrivings.Allocate list) = codes "allocate"
arrival_word (arrivings.Deallocate list) = codes "deallocate"

-- what stands behind the blank that ends the word, up to the sign before a reply
abbrev pub behind_word : List (List ℕ) → Arriving → List ℕ → List ℕ
behind_word names (arrivings.Form number new_index) more =
    decimal_text number ++ (32 ∷ (decimal_text new_index ++ (32 ∷ (62 ∷ more))))
behind_word names (arrivings.Allocate list) more = drop 1 (flat_map (allotted_text names) list ++ (32 ∷ (62 ∷ more)))
behind_word names (arrivings.Deallocate list) more = drop 1 (flat_map (spaced_name names) list ++ (32 ∷ (62 ∷ more)))
behind_word names arriving more = 62 ∷ more

pub allotted_blank : (names : List (List ℕ)) (list : List Allotted) (more : List ℕ)
    → flat_map (allotted_text names) list ++ (32 ∷ (62 ∷ more)) ≡ 32 ∷ drop 1 (flat_map (allotted_text names) list ++ (32 ∷ (62 ∷ more)))
allotted_blank names [] more = refl
allotted_blank names (x ∷ xs) more = refl

pub names_blank : (names : List (List ℕ)) (list : List ℕ) (more : List ℕ) → flat_map (spaced_name names) list
    ++ (32 ∷ (62 ∷ more)) ≡ 32 ∷ drop 1 (flat_map (spaced_name names) list ++ (32 ∷ (62 ∷ more)))
names_blank names [] more = refl
names_blank names (x ∷ xs) more = refl

arrival_cut : (names : List (List ℕ)) (arriving : Arriving) (more : List ℕ) → arriving_text names arriving
    ++ (32 ∷ (62 ∷ more)) ≡ 32 ∷ (arrival_word arriving ++ (32 ∷ behind_word names arriving more))
arrival_cut names arrivings.Sync more = refl
arrival_cut names (arrivings.Form a b) more =
    ap (λ z. codes " form " ++ z) (append_assoc (decimal_text a ++ codes " ") (decimal_text b) (32 ∷ (62 ∷ more))
    ∙ append_assoc (decimal_text a) (codes " ") (decimal_text b ++ (32 ∷ (62 ∷ more))))
arrival_cut names arrivings.Change more = refl
arrival_cut names arrivings.End more = refl
arrival_cut names (arrivings.Allocate list) more = ap (λ z. codes " allocate" ++ z) (allotted_blank names list more)
arrival_cut names (arrivings.Deallocate list) more = ap (λ z. codes " deallocate" ++ z) (names_blank names list more)

word_clean : (arriving : Arriving) → list_all (other 32) (arrival_word arriving) ≡ true
word_clean arrivings.Sync = refl
word_clean (arrivings.Form number new_index) = refl
word_clean arrivings.Change = refl
word_clean arrivings.End = refl
word_clean (arrivings.Allocate list) = refl
word_clean (arrivings.Deallocate list) = refl

-- what a word begins
abbrev pub ArrivalOf : RoundWord → Arriving → Type 0
ArrivalOf rounds.Sync arriving = arriving ≡ arrivings.Sync
ArrivalOf rounds.Form arriving = (number : ℤ) × (new_index : ℤ) × (arriving ≡ arrivings.Form number new_index)
ArrivalOf rounds.Change arriving = arriving ≡ arrivings.Change
ArrivalOf rounds.End arriving = arriving ≡ arrivings.End
ArrivalOf rounds.Allocate arriving = (list : List Allotted) × (arriving ≡ arrivings.Allocate list)
ArrivalOf rounds.Deallocate arriving = (list : List ℕ) × (arriving ≡ arrivings.Deallocate list)

arrival_of : (arriving : Arriving) → ArrivalOf (round_by (arrival_word arriving)) arriving
arrival_of arrivings.Sync = refl
arrival_of (arrivings.Form number new_index) = (number, new_index, refl)
arrival_of arrivings.Change = refl
arrival_of arrivings.End = refl
arrival_of (arrivings.Allocate list) = (list, refl)
arrival_of (arrivings.Deallocate list) = (list, refl)

-- by its word, what it is and what is left
pub arrival_shown : (which : RoundWord) (names : List (List ℕ)) (arriving : Arriving) (more rest word behind : List ℕ)
    → IsCutAt 32 rest word behind → 32 ∷ rest ≡ arriving_text names arriving ++ (32 ∷ (62 ∷ more))
    → (told : RoundWord) → told ≡ round_by word → told ≡ which → ArrivalOf which arriving
    × (behind ≡ behind_word names arriving more)
arrival_shown which names arriving more rest word behind cut e told by is =
    let at = found 32 rest word behind (arrival_word arriving) (behind_word names arriving more) cut
    (word_clean arriving) (ap (drop 1) (e ∙ arrival_cut names arriving more)) in
    (subst (λ w. ArrivalOf w arriving) (sym (ap round_by at.0) ∙ sym by ∙ is) (arrival_of arriving), at.1)

-- Where an image's last event ends the run, and where none does.
use Rattle.std.proofs.Common.{◌≡◌, ℕ, zero, suc, ◌<◌, ◌≤◌, List, [], ◌∷◌, ◌++◌, length, refl, ap, sym, ◌∙◌, arith, Bool, true, false, inl, inr, IsTrue, ◌↔◌}
use Rattle.std.specs.Prelude.{slice_index_or}
use Rattle.std.proofs.lemmas.Bool.{cases_lt}
use Rattle.caf_events.specs.declared.event.Event.{Event}
use Rattle.caf_events.specs.Events.{EndsRun}
use Rattle.core_runs.specs.Lists.{list_at}
use Rattle.image_core.specs.Orders.{HasEnding}

has_last : {A : Type 0} (x : A) (xs : List A) → (before : List A) × (last : A) × (x ∷ xs ≡ before ++ last ∷ [])
has_last x [] = ([], x, refl)
has_last x (y ∷ xs) = let r = has_last y xs in (x ∷ r.0, r.1, ap (λ l. x ∷ l) r.2)

-- an image of which it is told that its last event ends the run
pub ending_here : (ls : List (List Event)) (k : ℕ) (events : List Event) → slice_index_or ls k [] ≡ events → (told : Bool) → ((es : List Event) (e : Event) → events ≡ es ++ e ∷ [] → (IsTrue told ↔ EndsRun e)) → (events ≡ [] → told ≡ false) → told ≡ true → (e : HasEnding ls) × (e.image ≡ suc k)
ending_here ls k [] at told last none is = absurd (let n = none refl in cc)
ending_here ls k (x ∷ xs) at told last none is =
    let l = has_last x xs in
    (record { image = suc k; before = l.0; last = l.1; form = at ∙ l.2; ends = (last l.0 l.1 l.2).0 is }, refl)

-- the last event of the image at a place, from 0, doesn't end the run
abbrev pub IsOpenAt : List (List Event) → ℕ → Type 0
IsOpenAt ls k = (es : List Event) (e : Event) → slice_index_or ls k [] ≡ es ++ e ∷ [] → EndsRun e → ⊥

-- an image of which it is told that its last event doesn't end the run
pub open_here : (ls : List (List Event)) (k : ℕ) (events : List Event) → slice_index_or ls k [] ≡ events → (told : Bool) → ((es : List Event) (e : Event) → events ≡ es ++ e ∷ [] → (IsTrue told ↔ EndsRun e)) → told ≡ false → IsOpenAt ls k
open_here ls k events at told last is es e form ends = absurd (let t = (last es e (sym at ∙ form)).1 ends in cc)

pub not_empty : (es : List Event) (e : Event) → [] ≡ es ++ e ∷ [] → ⊥
not_empty [] e h = absurd (cc)
not_empty (x ∷ es) e h = absurd (cc)

index_past : (ls : List (List Event)) (k : ℕ) → length ls ≤ k → slice_index_or ls k [] ≡ []
index_past [] k h = refl
index_past (x ∷ xs) zero h = absurd (omega arith)
index_past (x ∷ xs) (suc k) h = index_past xs k (omega arith)

-- where no image's last event ends the run there is no ending
pub open_all : (ls : List (List Event)) → ((k : ℕ) → k < length ls → IsOpenAt ls k) → HasEnding ls → ⊥
open_all ls each e = by_number e.image e.form
  where
    by_number : (n : ℕ) → list_at ls n ≡ e.before ++ e.last ∷ [] → ⊥
    by_number zero form = not_empty e.before e.last form
    by_number (suc k) form = elim (cases_lt k (length ls)) [
      | inl l ↦ each k l e.before e.last form e.ends
      | inr g ↦ not_empty e.before e.last (sym (index_past ls k g) ∙ form)
    ]

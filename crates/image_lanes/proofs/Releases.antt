-- The steps of a failure, one after the other.
use Rattle.std.proofs.Common.{sym, ◌≡◌, ℕ, zero, suc, ◌+◌, ◌<◌, List, [], ◌∷◌, ◌++◌, length, inl, inr, refl, ap, subst, arith}
use Rattle.std.specs.Prelude.{map, drop, not, option_map, slice_get, Some, None}
use Rattle.std.specs.List.{filter}
use Rattle.std.proofs.lemmas.Bool.{cases_Bool}
use Rattle.caf_base.specs.declared.place.Place.TheVariants.{Memory, Board}
use Rattle.caf_events.specs.declared.ask.Ask.{Ask}
use Rattle.caf_events.specs.declared.ask.Ask.TheVariants as asking
use Rattle.caf_events.specs.declared.walker.Next.TheVariants as nexts
use Rattle.core_runs.specs.Failures.{LockPlace, same_place, without, release_of}
use Rattle.image_lanes.specs.Holds.{place_of_lock, places_of_locks, first_of, PlaceIs, rest_of}
use Rattle.image_lanes.specs.declared.held.HeldLock.{HeldLock}

-- the releases from a number on, and the end
abbrev from : ℕ → List LockPlace → List Ask
from number held = map release_of (drop number held) ++ asking.Gone ∷ []

rest_suc : (number : ℕ) (held : List LockPlace) → number < length held → from (suc number) held ≡ rest_of (from number held)
rest_suc number [] h = absurd (omega arith)
rest_suc zero (p ∷ ps) h = refl
rest_suc (suc number) (p ∷ ps) h = rest_suc number ps (omega arith)

pub rest_release : (number : ℕ) (held : List LockPlace) → number < length held → from (number + 1) held ≡ rest_of (from number held)
rest_release number held h =
    let e : suc number ≡ number + 1 = omega arith in
    subst (λ m. from m held ≡ rest_of (from number held)) e (rest_suc number held h)

pub no_release : (number : ℕ) (held : List LockPlace) → (number < length held → ⊥) → [] ≡ rest_of (from number held)
no_release number [] h = none number
  where
    none : (k : ℕ) → [] ≡ rest_of (from k [])
    none zero = refl
    none (suc k) = refl
no_release zero (p ∷ ps) h = absurd (h (omega arith))
no_release (suc number) (p ∷ ps) h = no_release number ps (λ lt. h (omega arith))

pub first_release : (number : ℕ) (held : List LockPlace) (ask : Ask) → option_map release_of (slice_get held number) ≡ Some ask → Some ask ≡ first_of (from number held)
first_release zero [] ask h = absurd (cc)
first_release (suc number) [] ask h = absurd (cc)
first_release zero (p ∷ ps) ask h = sym h
first_release (suc number) (p ∷ ps) ask h = first_release number ps ask h

pub last_release : (number : ℕ) (held : List LockPlace) → option_map release_of (slice_get held number) ≡ None → Some asking.Gone ≡ first_of (from number held)
last_release zero [] h = refl
last_release (suc number) [] h = refl
last_release zero (p ∷ ps) h = absurd (cc)
last_release (suc number) (p ∷ ps) h = last_release number ps h

pub release_place : (number : ℕ) (held : List LockPlace) (owner : ℕ) → option_map (λ p. p.owner) (slice_get held number) ≡ Some owner → PlaceIs (from number held) (nexts.Ask (Memory (record { 0 = owner })))
release_place zero [] owner h = absurd (cc)
release_place (suc number) [] owner h = absurd (cc)
release_place zero (p ∷ ps) owner h = cc
release_place (suc number) (p ∷ ps) owner h = release_place number ps owner h

pub end_place : (number : ℕ) (held : List LockPlace) → option_map (λ p. p.owner) (slice_get held number) ≡ None → PlaceIs (from number held) (nexts.Ask Board)
end_place zero [] h = refl
end_place (suc number) [] h = refl
end_place zero (p ∷ ps) h = absurd (cc)
end_place (suc number) (p ∷ ps) h = end_place number ps h

-- the locks without one
pub without_lock : (lock : HeldLock) (held : List HeldLock) → places_of_locks (filter (λ h. not (same_place (place_of_lock h) (place_of_lock lock))) held) ≡ without (place_of_lock lock) (places_of_locks held)
without_lock lock [] = refl
without_lock lock (h ∷ hs) = elim (cases_Bool (same_place (place_of_lock h) (place_of_lock lock))) [
  | inl t ↦ rw t (without_lock lock hs)
  | inr f ↦ rw f (ap (λ (q : List LockPlace). place_of_lock h ∷ q) (without_lock lock hs))
]

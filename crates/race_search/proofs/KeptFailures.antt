-- One entry more keeps what the failures tell.
use Rattle.std.proofs.Common.{◌≡◌, ◌<◌, ℕ, Bool, true, false, ◌&&◌, ◌||◌, not, nat_eq, nat_lt, List, [], ◌∷◌, ◌++◌, min, inl, inr, refl, ap, sym, ◌∙◌, arith}
use Rattle.std.specs.List.{list_any}
use Rattle.std.proofs.lemmas.Bool.{cases_Bool, both_ways, lt-ltb, le-ltb, cases_lt}
use Rattle.std.proofs.lemmas.List.Folds.{list_any-append}
use Rattle.caf_events.specs.declared.event.Entry.{Entry}
use Rattle.order_axioms.specs.Closes.{is_gone, is_over, round_closed, gone_by}
use Rattle.order_axioms.specs.Missed.{fewest_joined, closed_rounds}
use Rattle.order_axioms.proofs.Gone.{gone_more}
use Rattle.order_axioms.proofs.MissedRounds.{closed_where}
use Rattle.race_search.specs.declared.failures.Failure.{Failure}
use Rattle.race_search.specs.Failures.{is_missing, AreFailures}

or_none : (a : Bool) → (a || false) ≡ a
or_none true = refl
or_none false = refl

and_none : (a : Bool) → (a && false) ≡ false
and_none true = refl
and_none false = refl

and_true : (a : Bool) → (a && true) ≡ a
and_true true = refl
and_true false = refl

-- no image that isn't over has joined fewer
pub fewest_below : (t : ℕ) (g : List Entry) (m : ℕ) (js : List ℕ) → min m (fewest_joined t g m js) ≡ fewest_joined t g m js
fewest_below t g m [] = omega arith
fewest_below t g m (j ∷ js) = let r = fewest_below t g m js in elim (cases_Bool (is_over j g)) [ inl o ↦ rw o r | inr f ↦ rw f (omega arith) ]

-- a round hasn't closed exactly where fewer have
open_where : (n k : ℕ) (g : List Entry) → 0 < k → nat_lt (closed_rounds n 1 g) k ≡ not (round_closed n 1 k g)
open_where n k g p =
    let w = closed_where n 1 k g p in
    elim (cases_Bool (round_closed n 1 k g)) [
      | inl c ↦ rw c (le-ltb (closed_rounds n 1 g) k (w.0 c))
      | inr o ↦ rw o (elim (cases_lt (closed_rounds n 1 g) k) [ inl l ↦ lt-ltb (closed_rounds n 1 g) k l | inr l ↦ absurd (both_ways (round_closed n 1 k g) o (w.1 l)) ])
    ]

-- an entry by which no image is gone
pub still : (n : ℕ) (g : List Entry) (fs : List Failure) (e : Entry) → is_gone e.event.ask ≡ false → AreFailures n g fs → AreFailures n (g ++ e ∷ []) fs
still n g fs e other old k j p =
    old k j p ∙ sym (gone_more (round_closed n 1 k) j g e ∙ ap (λ z. gone_by (round_closed n 1 k) g j || ((nat_eq e.image.0 j && z) && not (round_closed n 1 k g))) other
    ∙ ap (λ z. gone_by (round_closed n 1 k) g j || (z && not (round_closed n 1 k g))) (and_none (nat_eq e.image.0 j)) ∙ or_none (gone_by (round_closed n 1 k) g j))

-- an entry by which its image is gone
pub one_more : (n : ℕ) (g : List Entry) (fs : List Failure) (e : Entry) (f : Failure) → is_gone e.event.ask ≡ true → f.image ≡ e.image.0 → f.closed ≡ closed_rounds n 1 g → AreFailures n g fs → AreFailures n (g ++ e ∷ []) (fs ++ f ∷ [])
one_more n g fs e f gone image closed old k j p =
    list_any-append (is_missing k j) fs (f ∷ [])
    ∙ ap (λ z. list_any (is_missing k j) fs || z) (or_none (is_missing k j f))
    ∙ ap (λ z. z || is_missing k j f) (old k j p)
    ∙ ap (λ z. gone_by (round_closed n 1 k) g j || (nat_eq z j && nat_lt f.closed k)) image
    ∙ ap (λ z. gone_by (round_closed n 1 k) g j || (nat_eq e.image.0 j && nat_lt z k)) closed
    ∙ ap (λ z. gone_by (round_closed n 1 k) g j || (nat_eq e.image.0 j && z)) (open_where n k g p)
    ∙ ap (λ z. gone_by (round_closed n 1 k) g j || (z && not (round_closed n 1 k g))) (sym (and_true (nat_eq e.image.0 j)))
    ∙ ap (λ z. gone_by (round_closed n 1 k) g j || ((nat_eq e.image.0 j && z) && not (round_closed n 1 k g))) (sym gone)
    ∙ sym (gone_more (round_closed n 1 k) j g e)

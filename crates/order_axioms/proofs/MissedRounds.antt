-- How many rounds of a team have closed, and from which on an image that failed is missed.
use Rattle.std.proofs.Common.{◌≡◌, ℕ, ◌<◌, ◌≤◌, ◌↔◌, Bool, true, false, ◌&&◌, ◌||◌, not, nat_le, List, [], ◌∷◌, ◌++◌, inl, inr, refl, ap, sym, ◌∙◌, subst, arith}
use Rattle.std.specs.List.{list_all, list_any}
use Rattle.std.proofs.lemmas.Bool.{cases_Bool, cases_lt, or_cases, or_left, or_right, and_parts, both_ways, leb-true, le-leb, not-true}
use Rattle.caf_events.specs.declared.event.Entry.{Entry}
use Rattle.order_axioms.specs.Closes.{goes, joined_by, is_over, has_come, members, round_closed, gone_by}
use Rattle.order_axioms.specs.Missed.{most_joined, fewest_joined, closed_rounds, MissedFrom}
use Rattle.order_axioms.proofs.Gone.{gone_more}

-- one of the images has joined round k
any_joined : (t k : ℕ) (g : List Entry) (js : List ℕ) → 0 < k → (list_any (λ j. nat_le k (joined_by t j g)) js ≡ true) ↔ (k ≤ most_joined t g js)
any_joined t k g [] p = (λ h. absurd (cc), λ l. absurd (omega arith))
any_joined t k g (j ∷ js) p = let r = any_joined t k g js p in (
  λ h. elim (or_cases (nat_le k (joined_by t j g)) (list_any (λ j. nat_le k (joined_by t j g)) js) h) [
    | inl a ↦ (let l = leb-true k (joined_by t j g) a in omega arith)
    | inr b ↦ (let l = r.0 b in omega arith)
  ],
  λ l. elim (cases_lt (joined_by t j g) k) [
    | inl m ↦ or_right (nat_le k (joined_by t j g)) (list_any (λ j. nat_le k (joined_by t j g)) js) (r.1 (omega arith))
    | inr m ↦ or_left (nat_le k (joined_by t j g)) (list_any (λ j. nat_le k (joined_by t j g)) js) (le-leb k (joined_by t j g) m)
  ],
)

both_true : (a b : Bool) → b ≡ true → ((a || true) && b) ≡ true
both_true true b h = h
both_true false b h = h

only : (a : Bool) → (a || false) ≡ true → a ≡ true
only true h = refl
only false h = h

or_none : (a : Bool) → (a || false) ≡ a
or_none true = refl
or_none false = refl

-- each of them has, or is over
all_joined : (t k m : ℕ) (g : List Entry) (js : List ℕ) → ((list_all (has_come t k g) js ≡ true) × (k ≤ m)) ↔ (k ≤ fewest_joined t g m js)
all_joined t k m g [] = (λ h. h.1, λ l. (refl, l))
all_joined t k m g (j ∷ js) = let r = all_joined t k m g js in elim (cases_Bool (is_over j g)) [
  | inl o ↦ rw o (
    λ h. (let p = and_parts (nat_le k (joined_by t j g) || true) (list_all (has_come t k g) js) h.0 in r.0 (p.1, h.1)),
    λ l. (let z = r.1 l in (both_true (nat_le k (joined_by t j g)) (list_all (has_come t k g) js) z.0, z.1)),
  )
  | inr f ↦ rw f (
    λ h. (let p = and_parts (nat_le k (joined_by t j g) || false) (list_all (has_come t k g) js) h.0 in let l = leb-true k (joined_by t j g) (only (nat_le k (joined_by t j g)) p.0) in let z = r.0 (p.1, h.1) in omega arith),
    λ l. (let z = r.1 (omega arith) in (rw (le-leb k (joined_by t j g) (omega arith), z.0) refl, z.1)),
  )
]

-- A round has closed exactly where it is one of the first so many.
pub closed_where : (n t k : ℕ) (g : List Entry) → 0 < k → (round_closed n t k g ≡ true) ↔ (k ≤ closed_rounds n t g)
closed_where n t k g p =
    let a = any_joined t k g (members n t g) p in
    let b = all_joined t k (most_joined t g (members n t g)) g (members n t g) in (
      λ h. (let z = and_parts (list_any (λ j. nat_le k (joined_by t j g)) (members n t g)) (list_all (has_come t k g) (members n t g)) h in b.0 (z.1, a.0 z.0)),
      λ l. (let z = b.1 l in rw (a.1 z.1, z.0) refl),
    )

-- the entry by which an image is gone: it is missed from the first round on that has not closed
pub missed_now : (n t j : ℕ) (g : List Entry) (e : Entry) → goes j e ≡ true → ((k : ℕ) → gone_by (round_closed n t k) g j ≡ false) → MissedFrom n (g ++ e ∷ []) t j (closed_rounds n t g)
missed_now n t j g e is none = record {
  tells = λ k p.
      let more = gone_more (round_closed n t k) j g e in
      let same : gone_by (round_closed n t k) (g ++ e ∷ []) j ≡ not (round_closed n t k g) = more ∙ ap (λ z. z || (goes j e && not (round_closed n t k g))) (none k) ∙ ap (λ z. z && not (round_closed n t k g)) is in
      let w = closed_where n t k g p in (
        λ h. (elim (cases_lt (closed_rounds n t g) k) [
          | inl l ↦ l
          | inr l ↦ absurd (both_ways (round_closed n t k g) (not-true _ (sym same ∙ h)) (w.1 l))
        ]),
        λ l. (elim (cases_Bool (round_closed n t k g)) [
          | inl c ↦ absurd (let z = w.0 c in omega arith)
          | inr c ↦ same ∙ ap not c
        ]),
      );
}

-- every other entry leaves that
pub missed_on : (n t j number : ℕ) (g : List Entry) (e : Entry) → goes j e ≡ false → MissedFrom n g t j number → MissedFrom n (g ++ e ∷ []) t j number
missed_on n t j number g e other h = record {
  tells = λ k p. subst (λ z. (z ≡ true) ↔ (number < k)) (sym (gone_more (round_closed n t k) j g e ∙ ap (λ z. gone_by (round_closed n t k) g j || (z && not (round_closed n t k g))) other ∙ or_none (gone_by (round_closed n t k) g j))) (h.tells k p);
}

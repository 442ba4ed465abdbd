-- The images that were gone by a close: told entry by entry, and told of earlier rounds by later ones.
use Rattle.std.proofs.Common.{◌≡◌, ℕ, suc, Bool, true, false, ◌&&◌, ◌||◌, not, nat_le, List, [], ◌∷◌, ◌++◌, inl, inr, refl, ap, sym, ◌∙◌, arith, append_assoc}
use Rattle.std.proofs.lemmas.List.{append-nil}
use Rattle.std.proofs.lemmas.Bool.{or_cases, or_left, or_right, and_parts, leb-true, le-leb}
use Rattle.std.specs.List.{list_all, list_any}
use Rattle.caf_events.specs.declared.event.Entry.{Entry}
use Rattle.order_axioms.specs.Closes.{goes, joined_by, is_over, members, has_come, round_closed, gone_from, gone_by}

or_assoc : (a b c : Bool) → (a || (b || c)) ≡ ((a || b) || c)
or_assoc true b c = refl
or_assoc false b c = refl

or_none : (a : Bool) → (a || false) ≡ a
or_none true = refl
or_none false = refl

module _ (closed : List Entry → Bool) (j : ℕ) where
  gone_from_more : (b es : List Entry) (e : Entry) → gone_from closed j b (es ++ e ∷ []) ≡ (gone_from closed j b es || (goes j e && not (closed (b ++ es))))
  gone_from_more b [] e = or_none (goes j e && not (closed b)) ∙ ap (λ z. goes j e && not (closed z)) (sym (append-nil b))
  gone_from_more b (x ∷ es) e =
      ap (λ z. (goes j x && not (closed b)) || z) (gone_from_more (b ++ x ∷ []) es e ∙ ap (λ z. gone_from closed j (b ++ x ∷ []) es || (goes j e && not (closed z))) (append_assoc b (x ∷ []) es))
      ∙ or_assoc (goes j x && not (closed b)) (gone_from closed j (b ++ x ∷ []) es) (goes j e && not (closed (b ++ x ∷ es)))

  -- One more entry: the image is gone by the close where it was so before, or is gone by this entry and nothing had
  -- closed.
  pub gone_more : (g : List Entry) (e : Entry) → gone_by closed (g ++ e ∷ []) j ≡ (gone_by closed g j || (goes j e && not (closed g)))
  gone_more g e = gone_from_more [] g e

  -- an image that was gone by a close has an entry by which it is gone
  gone_from_tells : (b es : List Entry) → gone_from closed j b es ≡ true → (u : List Entry) × (e : Entry) × (r : List Entry) × (es ≡ u ++ e ∷ r) × (goes j e ≡ true)
  gone_from_tells b [] h = absurd (cc)
  gone_from_tells b (x ∷ es) h = elim (or_cases (goes j x && not (closed b)) (gone_from closed j (b ++ x ∷ []) es) h) [
    | inl a ↦ ([], x, es, refl, (and_parts (goes j x) (not (closed b)) a).0)
    | inr r ↦ (let z = gone_from_tells (b ++ x ∷ []) es r in (x ∷ z.0, z.1, z.2, ap (λ y. x ∷ y) z.3, z.4))
  ]

  pub gone_tells : (g : List Entry) → gone_by closed g j ≡ true → (u : List Entry) × (e : Entry) × (r : List Entry) × (g ≡ u ++ e ∷ r) × (goes j e ≡ true)
  gone_tells g h = gone_from_tells [] g h

any_falls : (p q : ℕ → Bool) → ((m : ℕ) → p m ≡ true → q m ≡ true) → (ms : List ℕ) → list_any p ms ≡ true → list_any q ms ≡ true
any_falls p q f [] h = h
any_falls p q f (m ∷ ms) h = elim (or_cases (p m) (list_any p ms) h) [ inl a ↦ or_left (q m) (list_any q ms) (f m a) | inr b ↦ or_right (q m) (list_any q ms) (any_falls p q f ms b) ]

all_falls : (p q : ℕ → Bool) → ((m : ℕ) → p m ≡ true → q m ≡ true) → (ms : List ℕ) → list_all p ms ≡ true → list_all q ms ≡ true
all_falls p q f [] h = h
all_falls p q f (m ∷ ms) h = let a = and_parts (p m) (list_all p ms) h in rw (f m a.0, all_falls p q f ms a.1) refl

arrived_falls : (k a : ℕ) → nat_le (suc k) a ≡ true → nat_le k a ≡ true
arrived_falls k a h = le-leb k a (let l = leb-true (suc k) a h in omega arith)

-- Where a round has closed, so have those before it: one number tells for each team which of its rounds an image's
-- failure came before.
pub closed_falls : (n t k : ℕ) (g : List Entry) → round_closed n t (suc k) g ≡ true → round_closed n t k g ≡ true
closed_falls n t k g h =
    let a = and_parts (list_any (λ j. nat_le (suc k) (joined_by t j g)) (members n t g)) (list_all (has_come t (suc k) g) (members n t g)) h in
    rw (
      any_falls (λ j. nat_le (suc k) (joined_by t j g)) (λ j. nat_le k (joined_by t j g)) (λ m x. arrived_falls k (joined_by t m g) x) (members n t g) a.0,
      all_falls (has_come t (suc k) g) (has_come t k g) (λ m x. elim (or_cases (nat_le (suc k) (joined_by t m g)) (is_over m g) x) [
        | inl y ↦ or_left (nat_le k (joined_by t m g)) (is_over m g) (arrived_falls k (joined_by t m g) y)
        | inr y ↦ or_right (nat_le k (joined_by t m g)) (is_over m g) y
      ]) (members n t g) a.1,
    ) refl

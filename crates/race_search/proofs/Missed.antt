-- The images that were gone by a close, one entry after the other.
use Rattle.std.proofs.Common.{◌≡◌, ℕ, Bool, true, false, ◌&&◌, ◌||◌, not, nat_eq, cond, List, [], ◌∷◌, ◌++◌, filter, inl, inr, refl, ap, sym, ◌∙◌}
use Rattle.std.proofs.lemmas.Bool.{eq-eqb, ne_eqb}
use Rattle.std.proofs.lemmas.Bool.Decides.{eqb_tells}
use Rattle.std.proofs.lemmas.List.Folds.{list_any-append}
use Rattle.caf_events.specs.declared.event.Entry.{Entry}
use Rattle.object_rules.specs.ImagePairs.{names}
use Rattle.order_axioms.specs.Closes.{is_gone, gone_by}
use Rattle.order_axioms.proofs.Gone.{gone_more}

eq_swap : (i j : ℕ) → nat_eq i j ≡ nat_eq j i
eq_swap i j = elim (eqb_tells i j) [ inl t ↦ t.0 ∙ sym (eq-eqb j i (sym t.1)) | inr f ↦ f.0 ∙ sym (ne_eqb j i (λ s. f.1 (sym s))) ]

or_none : (a : Bool) → (a || false) ≡ a
or_none true = refl
or_none false = refl

and_turned : (a b c : Bool) → ((b && c) && a) ≡ ((a && b) && c)
and_turned true true true = refl
and_turned true true false = refl
and_turned true false c = refl
and_turned false true true = refl
and_turned false true false = refl
and_turned false false c = refl

named_more : (gone : List ℕ) (i j : ℕ) (m : Bool) → names j (cond m (gone ++ i ∷ []) gone) ≡ (names j gone || (m && nat_eq i j))
named_more gone i j true = list_any-append (nat_eq j) gone (i ∷ []) ∙ ap (λ z. names j gone || z) (or_none (nat_eq j i) ∙ eq_swap j i)
named_more gone i j false = sym (or_none (names j gone))

-- one entry more: its image is one of them where it is gone by it and nothing had closed
pub missed_more : (closed : List Entry → Bool) (gone : List ℕ) (g : List Entry) (e : Entry) (m : Bool) → m ≡ (is_gone e.event.ask && not (closed g)) → ((j : ℕ) → names j gone ≡ gone_by closed g j)
    → (j : ℕ) → names j (cond m (gone ++ e.image.0 ∷ []) gone) ≡ gone_by closed (g ++ e ∷ []) j
missed_more closed gone g e m is old j =
    named_more gone e.image.0 j m
    ∙ ap (λ z. names j gone || (z && nat_eq e.image.0 j)) is
    ∙ ap (λ z. z || ((is_gone e.event.ask && not (closed g)) && nat_eq e.image.0 j)) (old j)
    ∙ ap (λ z. gone_by closed g j || z) (and_turned (nat_eq e.image.0 j) (is_gone e.event.ask) (not (closed g)))
    ∙ sym (gone_more closed j g e)

-- tests that agree filter the same
pub filter_agree : (p q : ℕ → Bool) → ((x : ℕ) → p x ≡ q x) → (xs : List ℕ) → filter p xs ≡ filter q xs
filter_agree p q h [] = refl
filter_agree p q h (x ∷ xs) = rw (h x, filter_agree p q h xs) refl

-- Where a text is cut at the first of a byte.
use Rattle.std.proofs.Common.{◌≡◌, ℕ, zero, suc, ◌+◌, ◌<◌, Bool, true, false, not, nat_eq, List, [], ◌∷◌}
use Rattle.std.proofs.Common.{◌++◌, inl, inr, length, take, drop, get_or, refl, ap, sym, ◌∙◌, arith}
use Rattle.std.proofs.Common.{true≢false, eqb-true, length-append}
use Rattle.std.specs.List.{list_all}
use Rattle.std.proofs.lemmas.Bool.{eq-eqb}
use Rattle.trace_forms.proofs.Cuts.{and_both, and_first, and_second, span_same}
use Rattle.trace_fields.specs.Cutting.{other, IsCutAt}

-- a byte isn't another than itself
pub same_byte : (b : ℕ) → not (other b b) ≡ true
same_byte b = ap (λ t. not (not t)) (eq-eqb b b refl)

-- a text around one of its bytes
pub around : (text : List ℕ) (k : ℕ) → k < length text → take k text ++ (get_or text k 0 ∷ drop (suc k) text) ≡ text
around [] k h = absurd (omega arith)
around (x ∷ xs) zero h = refl
around (x ∷ xs) (suc k) h = ap (λ z. x ∷ z) (around xs k (omega arith))

module _ (byte : ℕ) where
  -- a text without the byte isn't cut
  none_here : (text : List ℕ) → list_all (other byte) text ≡ true → (front behind : List ℕ) → text ≡ front
      ++ (byte ∷ behind) → ⊥
  none_here text none front behind e = by front (sym (ap (list_all (other byte)) e) ∙ none)
    where
      by : (xs : List ℕ) → list_all (other byte) (xs ++ (byte ∷ behind)) ≡ true → ⊥
      by [] q = true≢false (sym (same_byte byte) ∙ ap not (and_first (other byte byte) _ q))
      by (x ∷ xs) q = by xs (and_second (other byte x) _ q)

  -- one byte more that is another
  pub one_more : (text : List ℕ) (k : ℕ) → k < length text → (get_or text k 0 ≡ byte → ⊥)
      → list_all (other byte) (take k text) ≡ true → list_all (other byte) (take (suc k) text) ≡ true
  one_more [] k h others none = absurd (omega arith)
  one_more (x ∷ xs) zero h others none = and_both (other byte x) _ (by (nat_eq x byte) refl) refl
    where
      by : (t : Bool) → nat_eq x byte ≡ t → not t ≡ true
      by true e = absurd (others (eqb-true x byte e))
      by false e = refl
  one_more (x ∷ xs) (suc k) h others none = and_both (other byte x) _ (and_first (other byte x) _ none)
      (one_more xs k (omega arith) others (and_second (other byte x) _ none))

  -- a front without the byte is where the text is cut
  pub found : (text front behind f b : List ℕ) → IsCutAt byte text front behind → list_all (other byte) f ≡ true
      → text ≡ f ++ (byte ∷ b) → (front ≡ f) × (behind ≡ b)
  found text front behind f b cut all e = elim cut.place [
    | inl e' ↦ (
        let s = span_same (other byte) front f (byte ∷ behind) (byte ∷ b) cut.clean all (same_byte byte)
        (same_byte byte) (sym e' ∙ e) in
        (s.0, ap (drop 1) s.1))
    | inr p ↦ absurd (none_here front cut.clean f b (sym p.0 ∙ e))
  ]

  -- a text without the byte isn't cut
  pub whole : (text front behind : List ℕ) → IsCutAt byte text front behind → list_all (other byte) text ≡ true
      → (front ≡ text) × (behind ≡ [])
  whole text front behind cut all = elim cut.place [
    | inl e ↦ absurd (none_here text all front behind e)
    | inr p ↦ (sym p.0, p.1)
  ]

  -- what is behind is shorter
  pub shorter : (text front behind : List ℕ) → IsCutAt byte text front behind → 0 < length text
      → length behind < length text
  shorter text front behind cut some = elim cut.place [
    | inl e ↦ (let n : length text ≡ length front + suc (length behind) = ap length e ∙ length-append front
        (byte ∷ behind) in omega arith)
    | inr p ↦ (let n : length behind ≡ 0 = ap length p.1 in omega arith)
  ]

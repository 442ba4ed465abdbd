-- Lines that say the second form.
use Rattle.std.proofs.Common.{◌≡◌, ℕ, zero, suc, ◌+◌, ◌<◌, ◌≤◌, true≢false, Bool, true, false, ◌||◌, List, [], ◌++◌}
use Rattle.std.proofs.Common.{◌⊎◌}
use Rattle.std.proofs.Common.{inl, inr, refl, ap, sym, ◌∙◌, arith, codes, bytes_eq, decimal}
use Rattle.std.specs.List.{list_all, list_any, range_with_len}
use Rattle.std.proofs.lemmas.Slice.Eq.{bytes_eq-Decides}
use Rattle.trace_forms.specs.Ranges.{IsHalf}
use Rattle.trace_forms.specs.Files.{images_line, says_images, says_second}
use Rattle.trace_forms.proofs.Cuts.{all_append}
use Rattle.trace_fields.specs.Cutting.{other, IsCutAt}
use Rattle.trace_fields.proofs.Cut.{found, whole}
use Rattle.trace_fields.proofs.Parts.{digits_clean}

-- ---- the number of images
line_clean : (n : ℕ) → IsHalf n → list_all (other 10) (images_line n) ≡ true
line_clean n h = all_append (other 10) (codes "trace 2 images ") (decimal n) refl (digits_clean 10 n refl (omega arith))

-- the line up to its line feed
pub text_is : (n : ℕ) → IsHalf n → (line text behind : List ℕ) → IsCutAt 10 line text behind
    → (line ≡ images_line n ++ codes "\n") ⊎ (line ≡ images_line n) → text ≡ images_line n
text_is n h line text behind cut (inl fed) = (found 10 line text behind (images_line n) [] cut (line_clean n h) fed).0
text_is n h line text behind cut (inr bare) = (whole 10 line text behind cut (ap (list_all (other 10)) bare
    ∙ line_clean n h)).0 ∙ bare

-- ---- which line says the second form
either : (a b : Bool) → (a || b) ≡ true → (a ≡ true) ⊎ (b ≡ true)
either true b e = inl refl
either false b e = inr e

says : (line : List ℕ) (n : ℕ) → says_images line n ≡ true
    → (line ≡ images_line n ++ codes "\n") ⊎ (line ≡ images_line n)
says line n e = elim (either (bytes_eq line (images_line n ++ codes "\n")) (bytes_eq line (images_line n)) e) [
  | inl fed ↦ inl ((bytes_eq-Decides line (images_line n ++ codes "\n")).0 fed)
  | inr bare ↦ inr ((bytes_eq-Decides line (images_line n)).0 bare)
]

neither : (a b : Bool) → a ≡ false → b ≡ false → (a || b) ≡ false
neither a b p q = ap (λ t. t || b) p ∙ q

none : (f : ℕ → Bool) (from len : ℕ) → ((n : ℕ) → from ≤ n → n < from + len → f n ≡ true → ⊥)
    → list_any f (range_with_len from len) ≡ false
none f from zero out = refl
none f from (suc len) out = neither (f from) _ (by (f from) refl)
    (none f (from + 1) len (λ n l m e. out n (omega arith) (omega arith) e))
  where
    by : (t : Bool) → f from ≡ t → f from ≡ false
    by true e = absurd (out from (omega arith) (omega arith) e)
    by false e = e

apart : (f : ℕ → Bool) (m n : ℕ) → f m ≡ false → f n ≡ true → n ≡ m → ⊥
apart f m n no_m at_n same = true≢false (sym at_n ∙ ap f same ∙ no_m)

some : (f : ℕ → Bool) (from len n : ℕ) → from ≤ n → n < from + len → f n ≡ true
    → list_any f (range_with_len from len) ≡ true
some f from zero n l m e = absurd (omega arith)
some f from (suc len) n l m e = by (f from) refl (λ later. some f (from + 1) len n later (omega arith) e)
  where
    by : (t : Bool) → f from ≡ t → (from + 1 ≤ n → list_any f (range_with_len (from + 1) len) ≡ true)
        → (f from || list_any f (range_with_len (from + 1) len)) ≡ true
    by true is go = ap (λ t. t || list_any f (range_with_len (from + 1) len)) is
    by false is go = ap (λ t. t || list_any f (range_with_len (from + 1) len)) is
        ∙ go (let a : n ≡ from → ⊥ = apart f from n is e in omega arith)

-- ---- the line says it with the number that is read of it, or not at all
module _ (line : List ℕ) (images : ℕ)
    (reads : (n : ℕ) → IsHalf n → (line ≡ images_line n ++ codes "\n") ⊎ (line ≡ images_line n) → images ≡ n) where
  told : (n : ℕ) → n < 257 → says_images line n ≡ true → images ≡ n
  told n small e = reads n (omega arith) (says line n e)

  pub second_is : 1 ≤ images → images ≤ 256 → says_images line images ≡ says_second line
  second_is least most = by (says_images line images) refl
    where
      by : (t : Bool) → says_images line images ≡ t → says_images line images ≡ says_second line
      by true e = e ∙ sym (some (says_images line) 1 256 images least (omega arith) e)
      by false e = e ∙ sym (none (says_images line) 1 256 (λ n l m is. let same = told n (omega arith) is in
          (let q : false ≡ true = sym e ∙ ap (says_images line) same ∙ is in cc)))

  pub not_second : (1 ≤ images → images ≤ 256 → ⊥) → says_second line ≡ false
  not_second out = none (says_images line) 1 256 (λ n l m is. let same = told n (omega arith) is in
      out (omega arith) (omega arith))

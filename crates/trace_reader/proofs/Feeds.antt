-- The first line of some bytes.
use Rattle.std.proofs.Common.{◌≡◌, ℕ, zero, suc, ◌<◌, cond, List, [], ◌∷◌}
use Rattle.std.proofs.Common.{length, take, drop, get_or, refl, ap, ◌∙◌, arith}
use Rattle.std.proofs.lemmas.Bool.{eq-eqb, ne_eqb}
use Rattle.trace_forms.specs.Files.{with_byte, lines_of}

ends : (b : ℕ) (ls : List (List ℕ)) → b ≡ 10 → with_byte b ls ≡ (b ∷ []) ∷ ls
ends b [] is = refl
ends b (l ∷ ls) is = ap (λ t. cond t ((b ∷ []) ∷ l ∷ ls) ((b ∷ l) ∷ ls)) (eq-eqb b 10 is)

goes_on : (b : ℕ) (l : List ℕ) (ls : List (List ℕ)) → (b ≡ 10 → ⊥) → with_byte b (l ∷ ls) ≡ (b ∷ l) ∷ ls
goes_on b l ls apart = ap (λ t. cond t ((b ∷ []) ∷ l ∷ ls) ((b ∷ l) ∷ ls)) (ne_eqb b 10 apart)

-- up to the first line feed
pub feed_here : (bytes : List ℕ) (k : ℕ) → k < length bytes → get_or bytes k 0 ≡ 10 → ((j : ℕ) → j < k
    → get_or bytes j 0 ≡ 10 → ⊥) → lines_of bytes ≡ take (suc k) bytes ∷ lines_of (drop (suc k) bytes)
feed_here [] k h is none = absurd (omega arith)
feed_here (b ∷ bs) zero h is none = ends b (lines_of bs) is
feed_here (b ∷ bs) (suc k) h is none =
    ap (with_byte b) (feed_here bs k (omega arith) is (λ j l. none (suc j) (omega arith))) ∙ goes_on b (take
    (suc k) bs) (lines_of (drop (suc k) bs)) (none 0 (omega arith))

-- all of them where there is none
pub no_feed : (bytes : List ℕ) → 0 < length bytes → ((j : ℕ) → j < length bytes → get_or bytes j 0 ≡ 10 → ⊥)
    → lines_of bytes ≡ bytes ∷ []
no_feed [] some none = absurd (omega arith)
no_feed (b ∷ []) some none = refl
no_feed (b ∷ c ∷ cs) some none =
    ap (with_byte b) (no_feed (c ∷ cs) (omega arith) (λ j l. none (suc j) (omega arith))) ∙ goes_on b (c ∷ cs) []
    (none 0 (omega arith))

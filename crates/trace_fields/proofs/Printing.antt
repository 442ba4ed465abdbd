-- Printed bytes, read back from what stands for them.
use Rattle.std.proofs.Common.{◌≡◌, ℕ, suc, ◌+◌, ◌-◌, ◌<◌, Bool, true, false, cond, nat_eq, List, [], ◌∷◌, ◌++◌}
use Rattle.std.proofs.Common.{flat_map, length, take, drop, refl, ap, sym, ◌∙◌, arith, append_assoc, append-nil, length-append}
use Rattle.std.proofs.Common.{take_all}
use Rattle.trace_text.specs.TraceText.{escaped}

-- ---- texts
-- these are read, and what is left writes the others
pub record Printed (out rest all : List ℕ) : Type 0 where
  pub left : List ℕ
  pub sum : out ++ left ≡ all
  pub is : rest ≡ flat_map escaped left

-- something stands for each byte
some_written : (b : ℕ) (behind : List ℕ) → escaped b ++ behind ≡ [] → ⊥
some_written b behind = by (nat_eq b 10) (nat_eq b 92)
  where
    by : (f s : Bool) → cond f (92 ∷ (110 ∷ [])) (cond s (92 ∷ (92 ∷ [])) (b ∷ [])) ++ behind ≡ [] → ⊥
    by true s e = cc
    by false true e = cc
    by false false e = cc

pub all_printed : (out rest all : List ℕ) → rest ≡ [] → Printed out rest all → out ≡ all
all_printed out rest all none p = by p.left p.sum p.is
  where
    by : (left : List ℕ) → out ++ left ≡ all → rest ≡ flat_map escaped left → out ≡ all
    by [] w e = sym (append-nil out) ∙ w
    by (b ∷ bs) w e = absurd (some_written b (flat_map escaped bs) (sym e ∙ none))

pub next_printed : (out rest all : List ℕ) → Printed out rest all → (byte : ℕ) (behind : List ℕ)
    → length behind < length rest
    → ((b : ℕ) (further : List ℕ) → rest ≡ escaped b ++ further → (byte ≡ b) × (behind ≡ further))
    → (new : List ℕ) → new ≡ out ++ (byte ∷ []) → Printed new behind all
next_printed out rest all p byte behind shorter reads new grown = by p.left p.sum p.is
  where
    by : (left : List ℕ) → out ++ left ≡ all → rest ≡ flat_map escaped left → Printed new behind all
    by [] w e = absurd (let n : length rest ≡ 0 = ap length e in omega arith)
    by (b ∷ bs) w e =
        let r = reads b (flat_map escaped bs) e in
        record {
          left = bs;
          sum = ap (λ z. z ++ bs) grown ∙ append_assoc out (byte ∷ []) bs ∙ ap (λ v. out ++ (v ∷ bs)) r.0 ∙ w;
          is = r.1;
        }

-- ---- a text and what ends it
front_of : (xs ys : List ℕ) → take (length xs) (xs ++ ys) ≡ xs
front_of [] ys = refl
front_of (x ∷ xs) ys = ap (λ z. x ∷ z) (front_of xs ys)

back_of : (xs ys : List ℕ) → drop (suc (length xs)) (xs ++ (32 ∷ ys)) ≡ ys
back_of [] ys = refl
back_of (x ∷ xs) ys = back_of xs ys

pub print_front : (all text end : List ℕ) (n m : ℕ) → all ≡ text ++ (32 ∷ end) → length end ≡ 5
    → m ≡ length all - 5 → n ≡ m - 1 → take n all ≡ text
print_front all text end n m e five at before =
    let whole : length all ≡ length text + suc (length end) = ap length e ∙ length-append text (32 ∷ end) in
    let k : n ≡ length text = omega arith in
    (λ i. take (k i) (e i)) ∙ front_of text (32 ∷ end)

pub print_end : (all text end : List ℕ) (m : ℕ) → all ≡ text ++ (32 ∷ end) → length end ≡ 5
    → m ≡ length all - 5 → take (length all - m) (drop m all) ≡ end
print_end all text end m e five at =
    let whole : length all ≡ length text + suc (length end) = ap length e ∙ length-append text (32 ∷ end) in
    let j : m ≡ suc (length text) = omega arith in
    let k : length all - m ≡ 5 = omega arith in
    (λ i. take (k i) (drop (j i) (e i))) ∙ ap (take 5) (back_of text end) ∙ take_all 5 end (omega arith)

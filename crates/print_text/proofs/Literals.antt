-- The bytes of a literal in a format, one after another.
use Rattle.std.proofs.Common.{◌≡◌, ◌∙◌, ℕ, ◌+◌, Bool, true, false, cond, List, [], ◌∷◌, ◌++◌, length, reverse, refl, sym, ap, subst, arith, append_assoc, length-append}
use Rattle.std.proofs.lemmas.Bool.Decides.{nat_tests}
use Rattle.std.proofs.lemmas.List.{append-nil, reverse-append}
use Rattle.std.specs.Prelude.{nat_eq}
use Rattle.image_acts.specs.Formats.{in_literal, descriptors_in}
use Rattle.print_text.specs.Pieces.{characters}
use Rattle.print_text.proofs.Reading.{literal_next, literal_quote, quote_doubled}

same : (b q : ℕ) → b ≡ q → nat_eq b q ≡ true
same b q e = grind (arith, nat_tests)

other : (b q : ℕ) → (b ≡ q → ⊥) → nat_eq b q ≡ false
other b q e = grind (arith, nat_tests)

-- these bytes are whole characters: none is the first half of a doubled delimiter
abbrev pub Whole : ℕ → List ℕ → Type 0
Whole q xs = (zs : List ℕ) → characters q (xs ++ zs) ≡ characters q xs ++ characters q zs

-- so many bytes of a literal's text are read, and these are left
abbrev pub At : (q : ℕ) (text : List ℕ) (len : ℕ) (left : List ℕ) → Type 0
At q text len left =
    (pre : List ℕ) × (text ≡ pre ++ left) × (length pre ≡ len) × Whole q pre
    × (descriptors_in (in_literal q (reverse (characters q pre))) 0 left ≡ descriptors_in (in_literal q []) 0 text)

one_character : (q b : ℕ) (zs : List ℕ) → nat_eq b q ≡ false → characters q (b ∷ zs) ≡ b ∷ characters q zs
one_character q b [] e = refl
one_character q b (c ∷ zs) e = ap (λ (t : Bool). cond t (b ∷ characters q zs) (b ∷ characters q (c ∷ zs))) e

doubled_character : (q b c : ℕ) (zs : List ℕ) → nat_eq b q ≡ true → characters q (b ∷ c ∷ zs) ≡ b ∷ characters q zs
doubled_character q b c zs e = ap (λ (t : Bool). cond t (b ∷ characters q zs) (b ∷ characters q (c ∷ zs))) e

-- one character more, of one byte or two
module _ (q b : ℕ) (add rest : List ℕ) (one : (zs : List ℕ) → characters q (add ++ zs) ≡ b ∷ characters q zs)
    (step : (back : List ℕ) → descriptors_in (in_literal q back) 0 (add ++ rest) ≡ descriptors_in (in_literal q (b ∷ back)) 0 rest) where
  alone : characters q add ≡ b ∷ []
  alone = ap (characters q) (sym (append-nil add)) ∙ one []

  whole_more : (pre : List ℕ) → Whole q pre → Whole q (pre ++ add)
  whole_more pre w zs =
      ap (characters q) (append_assoc pre add zs)
      ∙ w (add ++ zs)
      ∙ ap (λ (l : List ℕ). characters q pre ++ l) (one zs)
      ∙ sym (append_assoc (characters q pre) (b ∷ []) (characters q zs))
      ∙ ap (λ (l : List ℕ). (characters q pre ++ l) ++ characters q zs) (sym alone)
      ∙ ap (λ (l : List ℕ). l ++ characters q zs) (sym (w add))

  back_more : (pre : List ℕ) → Whole q pre → reverse (characters q (pre ++ add)) ≡ b ∷ reverse (characters q pre)
  back_more pre w = ap reverse (w add ∙ ap (λ (l : List ℕ). characters q pre ++ l) alone) ∙ reverse-append (characters q pre) (b ∷ [])

  at_more : (text : List ℕ) (len : ℕ) → At q text len (add ++ rest) → At q text (len + length add) rest
  at_more text len (pre, t, n, w, d) = (
    pre ++ add,
    t ∙ sym (append_assoc pre add rest),
    length-append pre add ∙ ap (λ (k : ℕ). k + length add) n,
    whole_more pre w,
    ap (λ (l : List ℕ). descriptors_in (in_literal q l) 0 rest) (back_more pre w) ∙ sym (step (reverse (characters q pre))) ∙ d,
  )

pub at_character : (q b : ℕ) (text left rest : List ℕ) (len : ℕ) → left ≡ b ∷ rest → (b ≡ q → ⊥) → At q text len left → At q text (len + 1) rest
at_character q b text left rest len e h a =
    at_more q b (b ∷ []) rest (λ zs. one_character q b zs (other b q h)) (λ back. literal_next q b back rest (other b q h)) text len (subst (λ (l : List ℕ). At q text len l) e a)

doubled_step : (q b c : ℕ) (back rest : List ℕ) → b ≡ q → c ≡ q → descriptors_in (in_literal q back) 0 (b ∷ c ∷ rest) ≡ descriptors_in (in_literal q (b ∷ back)) 0 rest
doubled_step q b c back rest e f =
    literal_quote q b back (c ∷ rest) (same b q e) ∙ quote_doubled q c back rest (same c q f) ∙ ap (λ (k : ℕ). descriptors_in (in_literal q (k ∷ back)) 0 rest) (sym e)

pub at_doubled : (q b c : ℕ) (text left rest behind : List ℕ) (len : ℕ) → left ≡ b ∷ rest → rest ≡ c ∷ behind → b ≡ q → c ≡ q → At q text len left → At q text (len + 1 + 1) behind
at_doubled q b c text left rest behind len e f g h a =
    let both : len + 2 ≡ len + 1 + 1 = omega arith in
    subst (λ (k : ℕ). At q text k behind) both
    (at_more q b (b ∷ c ∷ []) behind (λ zs. doubled_character q b c zs (same b q g)) (λ back. doubled_step q b c back behind g h) text len
    (subst (λ (l : List ℕ). At q text len l) (e ∙ ap (λ (l : List ℕ). b ∷ l) f) a))

-- Numbers that are nothing but their digits.
use Rattle.std.proofs.Common.{◌≡◌, ◌∙◌, ℕ, ◌+◌, ◌-◌, Bool, true, false, List, [], ◌∷◌, length, map, refl, ap, arith}
use Rattle.std.proofs.lemmas.Bool.Decides.{nat_tests}
use Rattle.std.specs.Prelude.{cond, Some, None, nat_eq}
use Rattle.rule_definitions.specs.Formats.{Piece, sign, quoted, counted, with_digit, is_digit, number_alone, count_of, repeat_of, character_of}
use Rattle.format_rules.specs.declared.piece.Piece.{Piece as Held}
use Rattle.format_rules.specs.Views.{seen, digit_of}
use Rattle.format_rules.proofs.Cuts.{counted_by}

digit_back : (b a : ℕ) → is_digit b ≡ true → b - 48 ≡ a → b ≡ a + 48
digit_back b a h e = grind arith

digit_sign : (t : Bool) (b : ℕ) (xs : List Piece) (a : ℕ) → is_digit b ≡ t → cond t (Some (b - 48)) None ≡ Some a → counted_by t b xs ≡ with_digit (a + 48) (counted xs)
digit_sign true b xs a e h =
    let same : b - 48 ≡ a = cc in
    ap (λ (k : ℕ). with_digit k (counted xs)) (digit_back b a e same)
digit_sign false b xs a e h = cc

digit_first : (x : Piece) (xs : List Piece) (a : ℕ) → digit_of x ≡ Some a → counted (x ∷ xs) ≡ with_digit (a + 48) (counted xs)
digit_first (sign b) xs a h = digit_sign (is_digit b) b xs a refl h
digit_first (quoted w) xs a h = cc

-- counts

both_digits : (x y : Piece) (xs : List Piece) (a b : ℕ) → digit_of x ≡ Some a → digit_of y ≡ Some b → counted (x ∷ y ∷ xs) ≡ with_digit (a + 48) (with_digit (b + 48) (counted xs))
both_digits x y xs a b h g = digit_first x (y ∷ xs) a h ∙ ap (with_digit (a + 48)) (digit_first y xs b g)

long_rest : (j k m : ℕ) (ds : List ℕ) (r : List Piece) → number_alone count_of (record { digits = j ∷ k ∷ m ∷ ds; rest = r }) ≡ None
long_rest j k m ds [] = refl
long_rest j k m ds (x ∷ xs) = refl

long_sign : (t : Bool) (j k b : ℕ) (xs : List Piece) → number_alone count_of (with_digit j (with_digit k (counted_by t b xs))) ≡ None
long_sign true j k b xs = long_rest j k b (counted xs).digits (counted xs).rest
long_sign false j k b xs = refl

long_behind : (j k : ℕ) (x : Piece) (xs : List Piece) → number_alone count_of (with_digit j (with_digit k (counted (x ∷ xs)))) ≡ None
long_behind j k (sign b) xs = long_sign (is_digit b) j k b xs
long_behind j k (quoted w) xs = refl

long : (x y z : Piece) (xs : List Piece) (a b : ℕ) → digit_of x ≡ Some a → digit_of y ≡ Some b → number_alone count_of (counted (x ∷ y ∷ z ∷ xs)) ≡ None
long x y z xs a b h g = ap (number_alone count_of) (both_digits x y (z ∷ xs) a b h g) ∙ long_behind (a + 48) (b + 48) z xs

-- repeat counts

repeat_sign : (t : Bool) (b : ℕ) (xs : List Piece) → number_alone repeat_of (counted_by t b xs) ≡ number_alone count_of (counted_by t b xs)
repeat_sign true b xs = refl
repeat_sign false b xs = refl

written_repeat : (x : Piece) (xs : List Piece) → number_alone repeat_of (counted (x ∷ xs)) ≡ number_alone count_of (counted (x ∷ xs))
written_repeat (sign b) xs = repeat_sign (is_digit b) b xs
written_repeat (quoted w) xs = refl

character_sign : (t : Bool) (b : ℕ) (xs ys : List Piece) → (counted_by t b xs).rest ≡ [] → character_of (counted_by t b xs).digits ys ≡ None
character_sign true b xs ys h = refl
character_sign false b xs ys h = cc

no_character : (x : Piece) (xs ys : List Piece) → (counted (x ∷ xs)).rest ≡ [] → character_of (counted (x ∷ xs)).digits ys ≡ None
no_character (sign b) xs ys h = character_sign (is_digit b) b xs ys h
no_character (quoted w) xs ys h = cc

-- the same of pieces that are held

pub long_list : (ps bs cs : List Held) (x y : Held) (a b : ℕ) → ps ≡ x ∷ bs → bs ≡ y ∷ cs → digit_of (seen x) ≡ Some a → digit_of (seen y) ≡ Some b → nat_eq (length cs) 0 ≡ false
    → number_alone count_of (counted (map seen ps)) ≡ None
long_list ps bs [] x y a b p q h g e = cc
long_list ps bs (z ∷ cs) x y a b p q h g e =
    ap (λ (l : List Held). number_alone count_of (counted (map seen l))) (p ∙ ap (λ (l : List Held). x ∷ l) q)
    ∙ long (seen x) (seen y) (seen z) (map seen cs) a b h g

pub repeat_list : (ps : List Held) → nat_eq (length ps) 0 ≡ false → number_alone repeat_of (counted (map seen ps)) ≡ number_alone count_of (counted (map seen ps))
repeat_list [] e = cc
repeat_list (x ∷ ps) e = written_repeat (seen x) (map seen ps)

pub character_behind : (ps bs : List Held) → nat_eq (length ps) 0 ≡ true → nat_eq (length bs) 0 ≡ false → character_of (counted (map seen ps)).digits (map seen bs) ≡ None
character_behind [] [] e f = cc
character_behind [] (y ∷ bs) e f = refl
character_behind (x ∷ ps) bs e f = grind (arith, nat_tests)

-- there is no count before A
pub counted_character : (ps bs : List Held) → (counted (map seen ps)).rest ≡ [] → nat_eq (length ps) 0 ≡ false → character_of (counted (map seen ps)).digits (map seen bs) ≡ None
counted_character [] bs h e = cc
counted_character (x ∷ ps) bs h e = no_character (seen x) (map seen ps) (map seen bs) h

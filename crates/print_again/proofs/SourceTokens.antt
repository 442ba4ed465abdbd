-- The words of a source are tokens that a source can have.
use Rattle.std.proofs.Common.{◌≡◌, ℕ, suc, ◌+◌, ◌-◌, ◌≤◌, Bool, true, false, cond, not, ◌&&◌, ◌||◌, nat_eq, nat_le, nat_lt, List, [], ◌∷◌, ◌++◌, length, take, drop, map, Option, Some, None, refl, ap, sym, ◌∙◌, subst, arith}
use Rattle.std.specs.List.{list_all, prefix_len, position_or_len, take_while, AllByRecursion}
use Rattle.std.specs.Option.{option_map}
use Rattle.std.specs.Char.{to_ascii_lowercase}
use Rattle.std.specs.Str.{str_to_ascii_lowercase, bytes_eq}
use Rattle.std.proofs.lemmas.Bool.{and_parts, and_from, le-leb}
use Rattle.std.proofs.lemmas.Bool.Decides.{nat_tests}
use Rattle.std.proofs.lemmas.Slice.Eq.{bytes_eq-Decides}
use Rattle.std.proofs.lemmas.List.Folds.{list_all-append}
use Rattle.reader_theory.specs.Words.{Mark, bare}
use Rattle.fortran_lines.specs.declared.stmt.Stmt.{Stmt}
use Rattle.caf_base.specs.declared.place.Pos.{Pos}
use Rattle.fortran_tokens.specs.declared.cut.Piece.{Piece}
use Rattle.fortran_tokens.specs.declared.token.Sign.TheVariants.{Colon}
use Rattle.fortran_tokens.specs.declared.token.Token.{Token as Cut}
use Rattle.fortran_tokens.specs.declared.token.TokenKind.{TokenKind}
use Rattle.fortran_tokens.specs.declared.token.TokenKind.TheVariants.{Name, Number, Literal, Fixed}
use Rattle.fortran_tokens.specs.declared.fault.Excess.{Excess}
use Rattle.fortran_tokens.specs.declared.fault.Excess.TheVariants as excess
use Rattle.fortran_tokens.specs.Bytes.{is_letter, is_digit, is_name_byte, is_printing}
use Rattle.fortran_tokens.specs.Forms.{HasForm, is_empty, is_name, is_kind, is_number, is_number_rest, is_literal}
use Rattle.fortran_tokens.specs.Cuts.{IsCut, excess_of, value_of}
use Rattle.fortran_tokens.specs.Tokens.{AreTokens, depth_behind, halved, is_colons, piece_of, with_halves}
use Rattle.fortran_tree.specs.declared.expr.NumberKind.TheVariants as kinds
use Rattle.fortran_grammar.specs.Tokens as t
use Rattle.fortran_grammar.specs.Tokens.{Tok, Token}
use Rattle.expr_reader.specs.Plain as plain
use Rattle.expr_reader.specs.Plain.{seen, characters, kind_behind}
use Rattle.token_words.specs.Words.{AreSeen, AreWords, just_past}
use Rattle.print_again.specs.Spelled.{is_plain_name, is_plain_kind, is_plain}
use Rattle.print_again.proofs.Leads.{is_fit, fit_word}

-- names in lower case
lower_letter : (b : ℕ) → is_letter b ≡ true → is_letter (to_ascii_lowercase b) ≡ true
lower_letter b h = grind (arith, nat_tests)

lower_byte : (b : ℕ) → is_name_byte b ≡ true → is_name_byte (to_ascii_lowercase b) ≡ true
lower_byte b h = grind (arith, nat_tests)

lower_twice : (b : ℕ) → to_ascii_lowercase (to_ascii_lowercase b) ≡ to_ascii_lowercase b
lower_twice b = grind (arith, nat_tests)

lower_bytes : (w : List ℕ) → list_all is_name_byte w ≡ true → list_all is_name_byte (str_to_ascii_lowercase w) ≡ true
lower_bytes [] h = refl
lower_bytes (b ∷ w) h = let k = and_parts (is_name_byte b) (list_all is_name_byte w) h in and_from (is_name_byte (to_ascii_lowercase b)) (list_all is_name_byte (str_to_ascii_lowercase w)) (lower_byte b k.0) (lower_bytes w k.1)

lower_name : (w : List ℕ) → is_name w ≡ true → is_name (str_to_ascii_lowercase w) ≡ true
lower_name [] h = h
lower_name (b ∷ w) h = let k = and_parts (is_letter b) (list_all is_name_byte w) h in and_from (is_letter (to_ascii_lowercase b)) (list_all is_name_byte (str_to_ascii_lowercase w)) (lower_letter b k.0) (lower_bytes w k.1)

lower_length : (w : List ℕ) → length (str_to_ascii_lowercase w) ≡ length w
lower_length [] = refl
lower_length (b ∷ w) = ap suc (lower_length w)

lower_again : (w : List ℕ) → str_to_ascii_lowercase (str_to_ascii_lowercase w) ≡ str_to_ascii_lowercase w
lower_again [] = refl
lower_again (b ∷ w) = λ i. lower_twice b i ∷ lower_again w i

lower_plain : (w : List ℕ) → is_name w ≡ true → length w ≤ 63 → is_plain_name (str_to_ascii_lowercase w) ≡ true
lower_plain w h n =
    let l = str_to_ascii_lowercase w in
    let size = lower_length w in
    and_from (is_name l) (nat_le (length l) 63 && bytes_eq (str_to_ascii_lowercase l) l) (lower_name w h)
    (and_from (nat_le (length l) 63) (bytes_eq (str_to_ascii_lowercase l) l) (le-leb (length l) 63 (omega arith)) ((bytes_eq-Decides (str_to_ascii_lowercase l) l).1 (lower_again w)))

not_over : {E : Type 0} (b : Bool) (x : E) → cond b (Some x) None ≡ None → b ≡ false
not_over true x h = absurd (cc)
not_over false x h = refl

small : (a b : ℕ) → nat_lt a b ≡ false → b ≤ a
small a b h = grind (arith, nat_tests)

name_plain : (w : List ℕ) → is_name w ≡ true → excess_of Name w ≡ None → is_plain (plain.tok_of Name w) ≡ true
name_plain w h e = lower_plain w h (small 63 (length w) (not_over (nat_lt 63 (length w)) (excess.Character 63) e))

-- numbers
within : (wide : Bool) (x : Excess) (rest : Option Excess) → cond wide (Some x) rest ≡ None → (wide ≡ false) × (rest ≡ None)
within true x rest h = absurd (cc)
within false x rest h = (refl, h)

kind_named_plain : (w : List ℕ) → is_kind w ≡ true → length w ≤ 63 → is_plain_kind (plain.kind_named w) ≡ true
kind_named_plain [] h n = refl
kind_named_plain (b ∷ w) h n = by_first (nat_eq b 52) (nat_eq b 56) (is_letter b) refl refl refl h
  where
    by_first : (four eight letter : Bool) → four ≡ nat_eq b 52 → eight ≡ nat_eq b 56 → letter ≡ is_letter b → cond letter (list_all is_name_byte w) ((four || eight) && is_empty w) ≡ true
        → is_plain_kind (cond four kinds.Four (cond eight kinds.Eight (kinds.Named (str_to_ascii_lowercase (b ∷ w))))) ≡ true
    by_first true eight letter f g k e = refl
    by_first false true letter f g k e = refl
    by_first false false true f g k e = lower_plain (b ∷ w) (and_from (is_letter b) (list_all is_name_byte w) (sym k) e) n
    by_first false false false f g k e = absurd (cc)

-- what stands behind the digits
behind_digits : (w : List ℕ) → is_number_rest w ≡ true → (m : ℕ) → length w ≤ prefix_len is_digit w + m → m ≤ 64 → is_plain_kind (kind_behind (drop (prefix_len is_digit w) w)) ≡ true
behind_digits [] h m n k = refl
behind_digits (b ∷ w) h m n k = by_digit (behind_digits w) (is_digit b) (nat_eq b 95) h n
  where
    by_digit : (is_number_rest w ≡ true → (j : ℕ) → length w ≤ prefix_len is_digit w + j → j ≤ 64 → is_plain_kind (kind_behind (drop (prefix_len is_digit w) w)) ≡ true)
        → (digit under : Bool) → cond digit (is_number_rest w) (under && is_kind w) ≡ true → suc (length w) ≤ cond digit (1 + prefix_len is_digit w) 0 + m
        → is_plain_kind (kind_behind (drop (cond digit (1 + prefix_len is_digit w) 0) (b ∷ w))) ≡ true
    by_digit more true under e f =
        let next : 1 + prefix_len is_digit w ≡ suc (prefix_len is_digit w) = omega arith in
        ap (λ z. is_plain_kind (kind_behind (drop z (b ∷ w)))) next ∙ more e m (omega arith) k
    by_digit more false under e f = kind_named_plain w (and_parts under (is_kind w) e).1 (omega arith)

number_rest : (w : List ℕ) → is_number w ≡ true → is_number_rest w ≡ true
number_rest [] h = refl
number_rest (b ∷ w) h = let k = and_parts (is_digit b) (is_number_rest w) h in ap (λ z. cond z (is_number_rest w) (nat_eq b 95 && is_kind w)) k.0 ∙ k.1

prefix_within : (w : List ℕ) → length (take_while is_digit w) ≡ prefix_len is_digit w
prefix_within [] = refl
prefix_within (b ∷ w) = by_digit (prefix_within w) (is_digit b)
  where
    by_digit : length (take_while is_digit w) ≡ prefix_len is_digit w → (d : Bool) → length (take (cond d (1 + prefix_len is_digit w) 0) (b ∷ w)) ≡ cond d (1 + prefix_len is_digit w) 0
    by_digit more true =
        let next : 1 + prefix_len is_digit w ≡ suc (prefix_len is_digit w) = omega arith in
        ap (λ z. length (take z (b ∷ w))) next ∙ (ap suc more ∙ sym next)
    by_digit more false = refl

number_plain : (w : List ℕ) → is_number w ≡ true → excess_of Number w ≡ None → is_plain (plain.tok_of Number w) ≡ true
number_plain w h e =
    let digits = take_while is_digit w in
    let one = within (nat_lt 9223372036854775807 (value_of digits)) excess.Number (cond (nat_lt (length digits + 64) (length w)) (Some (excess.Character (length digits + 64))) None) e in
    let two = small (length digits + 64) (length w) (not_over (nat_lt (length digits + 64) (length w)) (excess.Character (length digits + 64)) one.1) in
    let size = prefix_within w in
    and_from (nat_le (value_of digits) 9223372036854775807) (is_plain_kind (kind_behind (drop (length digits) w))) (le-leb (value_of digits) 9223372036854775807 (small 9223372036854775807 (value_of digits) one.0))
    (ap (λ z. is_plain_kind (kind_behind (drop z w))) size ∙ behind_digits w (number_rest w h) 64 (omega arith) (omega arith))

-- literals
none_wrong : (w : List ℕ) → length w ≤ position_or_len (λ b. not (is_printing b)) w → list_all is_printing w ≡ true
none_wrong [] h = refl
none_wrong (b ∷ w) h = by_first (none_wrong w) (is_printing b) h
  where
    by_first : (length w ≤ position_or_len (λ x. not (is_printing x)) w → list_all is_printing w ≡ true) → (p : Bool) → suc (length w) ≤ cond (not (not p)) (1 + position_or_len (λ x. not (is_printing x)) w) 0 → (p && list_all is_printing w) ≡ true
    by_first more true k = more (omega arith)
    by_first more false k = absurd (omega arith)

no_position : (w : List ℕ) (b : Bool) (n : ℕ) → option_map excess.Character (cond b (Some n) None) ≡ None → b ≡ false
no_position w true n h = absurd (cc)
no_position w false n h = refl

characters_plain : (q : ℕ) (w : List ℕ) → list_all is_printing w ≡ true → list_all is_printing (characters q w) ≡ true
characters_plain q [] h = refl
characters_plain q (b ∷ []) h = by_last (nat_eq b q)
  where
    by_last : (e : Bool) → list_all is_printing (cond e [] (b ∷ [])) ≡ true
    by_last true = refl
    by_last false = h
characters_plain q (b ∷ c ∷ w) h =
    let k = and_parts (is_printing b) (is_printing c && list_all is_printing w) h in
    let m = and_parts (is_printing c) (list_all is_printing w) k.1 in
    and_from (is_printing b) (list_all is_printing (cond (nat_eq b q) (characters q w) (characters q (c ∷ w)))) k.0 (by_next (nat_eq b q) (characters_plain q w m.1) (characters_plain q (c ∷ w) k.1))
  where
    by_next : (e : Bool) → list_all is_printing (characters q w) ≡ true → list_all is_printing (characters q (c ∷ w)) ≡ true → list_all is_printing (cond e (characters q w) (characters q (c ∷ w))) ≡ true
    by_next true f g = f
    by_next false f g = g

literal_plain : (w : List ℕ) → is_literal w ≡ true → excess_of Literal w ≡ None → is_plain (plain.tok_of Literal w) ≡ true
literal_plain [] h e = refl
literal_plain (q ∷ w) h e =
    let n = position_or_len (λ b. not (is_printing b)) (q ∷ w) in
    let all = none_wrong (q ∷ w) (small n (length (q ∷ w)) (no_position (q ∷ w) (nat_lt n (length (q ∷ w))) n e)) in
    characters_plain q w (and_parts (is_printing q) (list_all is_printing w) all).1

tok_plain : (k : TokenKind) (w : List ℕ) → HasForm k w → excess_of k w ≡ None → is_plain (plain.tok_of k w) ≡ true
tok_plain Name w h e = name_plain w h e
tok_plain Number w h e = number_plain w h e
tok_plain Literal w h e = literal_plain w h e
tok_plain (Fixed s) w h e = refl

-- the tokens of a statement
abbrev Fine : List ℕ → Piece → Type 0
Fine text p = is_plain (plain.tok_of p.kind (take (p.to - p.from) (drop p.from text))) ≡ true

pieces_fine : (text : List ℕ) (from : ℕ) (ps : List Piece) (to : ℕ) → IsCut text from ps to → AllByRecursion (Fine text) ps
pieces_fine text from [] to h = tt
pieces_fine text from (p ∷ ps) to (b, n, s, t, rest) =
    let width : n ≡ p.to - p.from = omega arith in
    (subst (λ m. is_plain (plain.tok_of p.kind (take m (drop p.from text))) ≡ true) width (tok_plain p.kind (take n (drop p.from text)) t.longest.form t.allowed), pieces_fine text p.to ps to rest)

both_parts : {A : Type 0} (P : A → Type 0) (xs ys : List A) → AllByRecursion P xs → AllByRecursion P ys → AllByRecursion P (xs ++ ys)
both_parts P [] ys h k = k
both_parts P (x ∷ xs) ys h k = (h.0, both_parts P xs ys h.1 k)

halves_fine : (text : List ℕ) (p : Piece) → Fine text p → (b : Bool) → AllByRecursion (Fine text) (cond b (record { kind = Fixed Colon; from = p.from; to = p.from + 1 } ∷ record { kind = Fixed Colon; from = p.from + 1; to = p.to } ∷ []) (p ∷ []))
halves_fine text p f true = (refl, (refl, tt))
halves_fine text p f false = (f, tt)

with_halves_fine : (text : List ℕ) (d : ℕ) (ps : List Piece) → AllByRecursion (Fine text) ps → AllByRecursion (Fine text) (with_halves d ps)
with_halves_fine text d [] h = tt
with_halves_fine text d (p ∷ ps) h = both_parts (Fine text) (halved d p) (with_halves (depth_behind d p.kind) ps) (halves_fine text p h.0 (is_colons p.kind && nat_lt 0 d)) (with_halves_fine text (depth_behind d p.kind) ps h.1)

plain_fit : (x : Tok) → is_plain x ≡ true → is_fit x ≡ true
plain_fit (t.word x) h = h
plain_fit (t.integer n k) h = h
plain_fit (t.literal x) h = h
plain_fit (t.sign s) h = h
plain_fit t.over h = refl

abbrev all_fit : List Token → Bool
all_fit ys = list_all (λ y. is_fit y.tok) ys

seen_fit : (text : List ℕ) (end : Pos) (ts : List Cut) → AllByRecursion (Fine text) (map piece_of ts) → all_fit (seen text end ts) ≡ true
seen_fit text end [] h = refl
seen_fit text end (x ∷ ts) h = and_from (is_fit (plain.tok_of x.kind (take (x.to - x.from) (drop x.from text)))) (all_fit (seen text end ts)) (plain_fit (plain.tok_of x.kind (take (x.to - x.from) (drop x.from text))) h.0) (seen_fit text end ts h.1)

statement_fit : (s : Stmt) (ts : List Cut) (us : List Token) → AreTokens s ts → AreSeen s ts us → all_fit us ≡ true
statement_fit s [] us h e = ap all_fit e
statement_fit s (x ∷ ts) us h (p, a, b) =
    let fine = with_halves_fine s.text 0 h.cut.0 (pieces_fine s.text 0 h.cut.0 (length s.text) h.cut.1) in
    ap all_fit b ∙ seen_fit s.text (just_past p) (x ∷ ts) (subst (AllByRecursion (Fine s.text)) (sym h.cut.2) fine)

pub source_fit : (ss : List Stmt) (ts : List Token) → AreWords ss ts → all_fit ts ≡ true
source_fit [] ts e = ap all_fit e
source_fit (s ∷ ss) ts (xs, us, vs, a, b, c, d) =
    ap all_fit d ∙ (list_all-append (λ y. is_fit y.tok) us vs ∙ and_from (all_fit us) (all_fit vs) (statement_fit s xs us a b) (source_fit ss vs c))

word_fit : (w : List (Mark Token)) → fit_word w ≡ all_fit (bare w)
word_fit [] = refl
word_fit (m ∷ w) = ap (λ z. is_fit m.token.tok && z) (word_fit w)

pub read_fit : (ss : List Stmt) (ts : List Token) (w : List (Mark Token)) → AreWords ss ts → ts ≡ bare w → fit_word w ≡ true
read_fit ss ts w h e = word_fit w ∙ (ap all_fit (sym e) ∙ source_fit ss ts h)

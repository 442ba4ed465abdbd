-- The spelling of a token is cut into that token, and stands for it.
use Rattle.std.proofs.Common.{◌≡◌, ℕ, ◌+◌, ◌≤◌, Bool, true, false, cond, not, ◌&&◌, ◌||◌, nat_eq, nat_le, nat_lt, List, [], ◌∷◌, ◌++◌, length, take, drop, codes, Some, None, refl, ap, sym, ◌∙◌, subst, arith, append_assoc}
use Rattle.std.specs.Prelude.{flat_map, decimal}
use Rattle.std.specs.List.{list_all, prefix_len, position_or_len, take_while}
use Rattle.std.specs.Option.{option_map}
use Rattle.std.specs.Str.{str_to_ascii_lowercase, bytes_eq}
use Rattle.std.proofs.Math.Seq.{take-length}
use Rattle.std.proofs.lemmas.Bool.{and_parts, and_from, leb-true, le-ltb}
use Rattle.std.proofs.lemmas.Bool.Decides.{nat_tests}
use Rattle.std.proofs.lemmas.Slice.Eq.{bytes_eq-Decides}
use Rattle.std.proofs.lemmas.List.{length-append, take_at, drop_at}
use Rattle.fortran_tokens.specs.declared.token.TokenKind.{TokenKind}
use Rattle.fortran_tokens.specs.declared.token.TokenKind.TheVariants.{Name, Number, Literal, Fixed}
use Rattle.fortran_tokens.specs.declared.fault.Excess.TheVariants as excess
use Rattle.fortran_tokens.specs.Bytes.{is_letter, is_digit, is_name_byte, is_printing}
use Rattle.fortran_tokens.specs.Forms.{HasForm, is_empty, is_name, is_kind, is_number, is_number_rest, is_literal_rest}
use Rattle.fortran_tokens.specs.Cuts.{IsToken, excess_of, value_of}
use Rattle.fortran_tree.specs.declared.expr.NumberKind.{NumberKind}
use Rattle.fortran_tree.specs.declared.expr.NumberKind.TheVariants as kinds
use Rattle.fortran_grammar.specs.Tokens.{Tok, word, integer, literal, sign, over}
use Rattle.fortran_layout.specs.Spelling.{number_text, suffix, rep_char, literal_text}
use Rattle.fortran_layout.proofs.SignLemmas.{signs_are_spelled}
use Rattle.expr_reader.specs.Plain as plain
use Rattle.expr_reader.specs.Plain.{characters, kind_behind, tok_of}
use Rattle.print_again.specs.Spelled.{is_plain_name, is_plain_kind, is_plain}
use Rattle.print_again.proofs.Spellings.{spelling, Digits, digits_of, inked_literal}

-- what kind of token it is
abbrev pub kind_of : Tok → TokenKind
kind_of (word x) = Name
kind_of (integer n k) = Number
kind_of (literal x) = Literal
kind_of (sign s) = Fixed s
kind_of over = Name

-- a spelling that is cut into its token, which it stands for
pub record Again (k : TokenKind) (w : List ℕ) (t : Tok) : Type 0 where
  pub form : HasForm k w
  pub allowed : excess_of k w ≡ None
  pub stands : tok_of k w ≡ t

lower_same : (x : List ℕ) → (nat_le (length x) 63 && bytes_eq (str_to_ascii_lowercase x) x) ≡ true → str_to_ascii_lowercase x ≡ x
lower_same x h = (bytes_eq-Decides (str_to_ascii_lowercase x) x).0 (and_parts (nat_le (length x) 63) (bytes_eq (str_to_ascii_lowercase x) x) h).1

short_name : (x : List ℕ) → (nat_le (length x) 63 && bytes_eq (str_to_ascii_lowercase x) x) ≡ true → length x ≤ 63
short_name x h = leb-true (length x) 63 (and_parts (nat_le (length x) 63) (bytes_eq (str_to_ascii_lowercase x) x) h).0

name_again : (x : List ℕ) → is_plain_name x ≡ true → Again Name x (word x)
name_again x h =
    let k = and_parts (is_name x) (nat_le (length x) 63 && bytes_eq (str_to_ascii_lowercase x) x) h in
    record {
      form = k.0;
      allowed = ap (λ z. cond z (Some (excess.Character 63)) None) (le-ltb 63 (length x) (short_name x k.1));
      stands = ap word (lower_same x k.1);
    }

-- numbers
prefix_all : (p : ℕ → Bool) (a r : List ℕ) → list_all p a ≡ true → prefix_len p r ≡ 0 → prefix_len p (a ++ r) ≡ length a
prefix_all p [] r h e = e
prefix_all p (x ∷ a) r h e =
    let k = and_parts (p x) (list_all p a) h in
    ap (λ z. cond z (1 + prefix_len p (a ++ r)) 0) k.0 ∙ (ap (λ z. 1 + z) (prefix_all p a r k.1 e) ∙ (omega arith))

letter_not_digit : (b : ℕ) → is_letter b ≡ true → is_digit b ≡ false
letter_not_digit b h = grind (arith, nat_tests)

suffix_begins : (k : NumberKind) → prefix_len is_digit (suffix k) ≡ 0
suffix_begins kinds.Unstated = refl
suffix_begins kinds.Four = refl
suffix_begins kinds.Eight = refl
suffix_begins (kinds.Named x) = refl

digits_front : (n : ℕ) (k : NumberKind) → Digits n → take_while is_digit (number_text n k) ≡ decimal n
digits_front n k d =
    ap (λ z. take z (number_text n k)) (prefix_all is_digit (decimal n) (suffix k) d.digits (suffix_begins k)) ∙ take_at (decimal n) (suffix k) (length (decimal n)) refl

kind_name : (x : List ℕ) → is_name x ≡ true → is_kind x ≡ true
kind_name [] h = absurd (cc)
kind_name (b ∷ x) h =
    let k = and_parts (is_letter b) (list_all is_name_byte x) h in
    ap (λ z. cond z (list_all is_name_byte x) ((nat_eq b 52 || nat_eq b 56) && is_empty x)) k.0 ∙ k.1

suffix_form : (k : NumberKind) → is_plain_kind k ≡ true → is_number_rest (suffix k) ≡ true
suffix_form kinds.Unstated h = refl
suffix_form kinds.Four h = refl
suffix_form kinds.Eight h = refl
suffix_form (kinds.Named x) h = kind_name x (and_parts (is_name x) (nat_le (length x) 63 && bytes_eq (str_to_ascii_lowercase x) x) h).0

number_rest : (a r : List ℕ) → list_all is_digit a ≡ true → is_number_rest r ≡ true → is_number_rest (a ++ r) ≡ true
number_rest [] r h e = e
number_rest (b ∷ a) r h e =
    let k = and_parts (is_digit b) (list_all is_digit a) h in
    ap (λ z. cond z (is_number_rest (a ++ r)) (nat_eq b 95 && is_kind (a ++ r))) k.0 ∙ number_rest a r k.1 e

number_form : (a r : List ℕ) → list_all is_digit a ≡ true → 1 ≤ length a → is_number_rest r ≡ true → is_number (a ++ r) ≡ true
number_form [] r h s e = absurd (omega arith)
number_form (b ∷ a) r h s e =
    let k = and_parts (is_digit b) (list_all is_digit a) h in
    and_from (is_digit b) (is_number_rest (a ++ r)) k.0 (number_rest a r k.1 e)

letter_no_figure : (b : ℕ) → is_letter b ≡ true → (nat_eq b 52 ≡ false) × (nat_eq b 56 ≡ false)
letter_no_figure b h = (grind (arith, nat_tests), grind (arith, nat_tests))

kind_name_again : (x : List ℕ) → is_name x ≡ true → plain.kind_named x ≡ kinds.Named (str_to_ascii_lowercase x)
kind_name_again [] h = absurd (cc)
kind_name_again (b ∷ x) h =
    let k = letter_no_figure b (and_parts (is_letter b) (list_all is_name_byte x) h).0 in
    ap (λ z. cond z kinds.Four (cond (nat_eq b 56) kinds.Eight (kinds.Named (str_to_ascii_lowercase (b ∷ x))))) k.0
    ∙ ap (λ z. cond z kinds.Eight (kinds.Named (str_to_ascii_lowercase (b ∷ x)))) k.1

kind_again : (k : NumberKind) → is_plain_kind k ≡ true → kind_behind (suffix k) ≡ k
kind_again kinds.Unstated h = refl
kind_again kinds.Four h = refl
kind_again kinds.Eight h = refl
kind_again (kinds.Named x) h =
    let k = and_parts (is_name x) (nat_le (length x) 63 && bytes_eq (str_to_ascii_lowercase x) x) h in
    kind_name_again x k.0 ∙ ap kinds.Named (lower_same x k.1)

suffix_short : (k : NumberKind) → is_plain_kind k ≡ true → length (suffix k) ≤ 64
suffix_short kinds.Unstated h = omega arith
suffix_short kinds.Four h = omega arith
suffix_short kinds.Eight h = omega arith
suffix_short (kinds.Named x) h =
    let k = and_parts (is_name x) (nat_le (length x) 63 && bytes_eq (str_to_ascii_lowercase x) x) h in
    let n = short_name x k.1 in
    omega arith

number_again : (n : ℕ) (k : NumberKind) → (nat_le n 9223372036854775807 && is_plain_kind k) ≡ true → Again Number (number_text n k) (integer n k)
number_again n k h =
    let p = and_parts (nat_le n 9223372036854775807) (is_plain_kind k) h in
    let small = leb-true n 9223372036854775807 p.0 in
    let d = digits_of n small in
    let front = digits_front n k d in
    let size = length-append (decimal n) (suffix k) in
    let few = suffix_short k p.1 in
    record {
      form = number_form (decimal n) (suffix k) d.digits d.some (suffix_form k p.1);
      allowed =
          ap (λ z. cond (nat_lt 9223372036854775807 (value_of z)) (Some excess.Number) (cond (nat_lt (length z + 64) (length (number_text n k))) (Some (excess.Character (length z + 64))) None)) front
          ∙ (ap (λ z. cond (nat_lt 9223372036854775807 z) (Some excess.Number) (cond (nat_lt (length (decimal n) + 64) (length (number_text n k))) (Some (excess.Character (length (decimal n) + 64))) None)) d.value
          ∙ (ap (λ z. cond z (Some excess.Number) (cond (nat_lt (length (decimal n) + 64) (length (number_text n k))) (Some (excess.Character (length (decimal n) + 64))) None)) (le-ltb 9223372036854775807 n small)
          ∙ ap (λ z. cond z (Some (excess.Character (length (decimal n) + 64))) None) (le-ltb (length (decimal n) + 64) (length (number_text n k)) (omega arith))));
      stands =
          ap (λ z. integer (value_of z) (kind_behind (drop (length z) (number_text n k)))) front
          ∙ λ i. integer (d.value i) ((ap kind_behind (drop_at (decimal n) (suffix k) (length (decimal n)) refl) ∙ kind_again k p.1) i);
    }

-- literals
rep_rest : (c : ℕ) (b : Bool) (r : List ℕ) → nat_eq c 39 ≡ b → is_literal_rest 39 true r ≡ true → is_literal_rest 39 true (cond b (codes "''") (c ∷ []) ++ r) ≡ true
rep_rest c true r e h = h
rep_rest c false r e h = ap (λ z. is_literal_rest 39 (not z) r) e ∙ h

chars_rest : (x : List ℕ) → is_literal_rest 39 true (flat_map rep_char x ++ codes "'") ≡ true
chars_rest [] = refl
chars_rest (c ∷ x) = ap (is_literal_rest 39 true) (append_assoc (rep_char c) (flat_map rep_char x) (codes "'")) ∙ rep_rest c (nat_eq c 39) (flat_map rep_char x ++ codes "'") refl (chars_rest x)

one_character : (c : ℕ) (r : List ℕ) → nat_eq c 39 ≡ false → characters 39 (c ∷ (r ++ codes "'")) ≡ c ∷ characters 39 (r ++ codes "'")
one_character c [] e = ap (λ z. c ∷ cond z (characters 39 []) (characters 39 (39 ∷ []))) e
one_character c (d ∷ r) e = ap (λ z. c ∷ cond z (characters 39 (r ++ codes "'")) (characters 39 (d ∷ (r ++ codes "'")))) e

apostrophe : (c : ℕ) → nat_eq c 39 ≡ true → c ≡ 39
apostrophe c h = grind (arith, nat_tests)

rep_again : (c : ℕ) (b : Bool) (r : List ℕ) → nat_eq c 39 ≡ b → characters 39 (cond b (codes "''") (c ∷ []) ++ (r ++ codes "'")) ≡ c ∷ characters 39 (r ++ codes "'")
rep_again c true r e = ap (λ z. z ∷ characters 39 (r ++ codes "'")) (sym (apostrophe c e))
rep_again c false r e = one_character c r e

chars_again : (x : List ℕ) → characters 39 (flat_map rep_char x ++ codes "'") ≡ x
chars_again [] = refl
chars_again (c ∷ x) =
    ap (characters 39) (append_assoc (rep_char c) (flat_map rep_char x) (codes "'")) ∙ (rep_again c (nat_eq c 39) (flat_map rep_char x) refl ∙ ap (λ z. c ∷ z) (chars_again x))

none_wrong : (w : List ℕ) → list_all is_printing w ≡ true → position_or_len (λ b. not (is_printing b)) w ≡ length w
none_wrong [] h = refl
none_wrong (b ∷ w) h =
    let k = and_parts (is_printing b) (list_all is_printing w) h in
    ap (λ z. cond (not (not z)) (1 + position_or_len (λ x. not (is_printing x)) w) 0) k.0 ∙ (ap (λ z. 1 + z) (none_wrong w k.1) ∙ (omega arith))

literal_again : (x : List ℕ) → list_all is_printing x ≡ true → Again Literal (literal_text x) (literal x)
unfolding literal_text
literal_again x h =
    let w : List ℕ = 39 ∷ (flat_map rep_char x ++ codes "'") in
    let bytes : list_all is_printing w ≡ true = printing x h in
    record {
      form = chars_rest x;
      allowed =
          ap (λ z. option_map excess.Character (cond (nat_lt z (length w)) (Some z) None)) (none_wrong w bytes)
          ∙ ap (λ z. option_map excess.Character (cond z (Some (length w)) None)) (le-ltb (length w) (length w) (omega arith));
      stands = ap literal (chars_again x);
    }
  where
    printing : (y : List ℕ) → list_all is_printing y ≡ true → list_all is_printing (codes "'" ++ (flat_map rep_char y ++ codes "'")) ≡ true
    printing y k = (inked_literal y k).printing

pub again : (t : Tok) → is_plain t ≡ true → Again (kind_of t) (spelling t) t
again (word x) h = name_again x h
again (integer n k) h = number_again n k h
again (literal x) h = literal_again x h
again (sign s) h = record { form = signs_are_spelled s; allowed = refl; stands = refl }
again over h = absurd (cc)

-- so a text that begins with it, alone, begins with its token
pub token_alone : (k : TokenKind) (w : List ℕ) → HasForm k w → excess_of k w ≡ None → IsToken w k (length w)
token_alone k w f e = record {
  longest = record { within = omega arith; form = subst (HasForm k) (sym (take-length w)) f; most = λ j m h g. h };
  allowed = ap (excess_of k) (take-length w) ∙ e;
}

-- A token is the one that begins where it begins.
use Rattle.std.proofs.Common.{◌≡◌, ℕ, zero, suc, ◌+◌, ◌<◌, ◌≤◌, Bool, true, false, cond, not, ◌&&◌, List, [], ◌∷◌, length, take, drop, get_or, map, Option, Some, None, inl, inr, refl, ap, sym, ◌∙◌, subst, arith, add-one}
use Rattle.std.specs.Prelude.{slice_index}
use Rattle.std.specs.List.{list_all}
use Rattle.std.specs.Char.{to_ascii_lowercase}
use Rattle.std.specs.Str.{str_to_ascii_lowercase, bytes_eq}
use Rattle.std.proofs.Math.Seq.{drop-cons}
use Rattle.std.proofs.lemmas.Bool.{and_parts, cases_order}
use Rattle.std.proofs.lemmas.Bool.Decides.{nat_tests}
use Rattle.std.proofs.lemmas.List.{length-drop}
use Rattle.fortran_tokens.specs.declared.token.Sign.{Sign}
use Rattle.fortran_tokens.specs.declared.token.TokenKind.{TokenKind}
use Rattle.fortran_tokens.specs.declared.token.TokenKind.TheVariants.{Name, Number, Literal, Fixed}
use Rattle.fortran_tokens.specs.declared.cut.Piece.{Piece}
use Rattle.fortran_tokens.specs.Bytes.{is_letter, is_digit, is_quote, is_name_byte, is_blank}
use Rattle.fortran_tokens.specs.Forms.{HasForm, Spells, spellings, is_number_rest, is_literal_rest}
use Rattle.fortran_tokens.specs.Cuts.{IsLongest, IsToken, IsCut, AreBlanks}
use Rattle.fortran_tokens.proofs.Sorts.{sort_of_kind, form_begins, form_some}
use Rattle.fortran_tokens.proofs.Longest.{longest_some}

-- the sign that a table gives a spelling
abbrev sign_of : List (List ℕ × Sign) → List ℕ → Option Sign
sign_of [] w = None
sign_of (row ∷ rows) w = cond (bytes_eq row.0 w) (Some row.1) (sign_of rows w)

-- each row's spelling has that row's sign
one_sign : map (λ (row : List ℕ × Sign). sign_of spellings row.0) spellings ≡ map (λ (row : List ℕ × Sign). Some row.1) spellings
one_sign = refl

spells_rows : (rows : List (List ℕ × Sign)) (s : Sign) (w : List ℕ) → map (λ (row : List ℕ × Sign). sign_of spellings row.0) rows ≡ map (λ (row : List ℕ × Sign). Some row.1) rows
    → Spells rows s w → sign_of spellings (str_to_ascii_lowercase w) ≡ Some s
spells_rows [] s w e h = absurd h
spells_rows (row ∷ rows) s w e (inl (k, l)) =
    let first : sign_of spellings row.0 ≡ Some row.1 = cc in
    ap (sign_of spellings) l ∙ (first ∙ ap (λ z. Some z) k)
spells_rows (row ∷ rows) s w e (inr h) = let rest : map (λ (r : List ℕ × Sign). sign_of spellings r.0) rows ≡ map (λ (r : List ℕ × Sign). Some r.1) rows = cc in spells_rows rows s w rest h

-- a text spells one sign
one_spelled : (s t : Sign) (w : List ℕ) → Spells spellings s w → Spells spellings t w → s ≡ t
one_spelled s t w h k = let e : Some s ≡ Some t = sym (spells_rows spellings s w one_sign h) ∙ spells_rows spellings t w one_sign k in cc

-- a spelling begins with no blank
abbrev starts_ink : List ℕ → Bool
starts_ink [] = false
starts_ink (x ∷ xs) = not (is_letter x) && not (is_blank x)

all_ink : list_all (λ (row : List ℕ × Sign). starts_ink row.0) spellings ≡ true
all_ink = refl

ink_byte : (b x : ℕ) → to_ascii_lowercase b ≡ x → not (is_letter x) ≡ true → not (is_blank x) ≡ true → is_blank b ≡ false
ink_byte b x e h k = grind (arith, nat_tests)

ink_row : (row : List ℕ) (b : ℕ) (w : List ℕ) → starts_ink row ≡ true → str_to_ascii_lowercase (b ∷ w) ≡ row → is_blank b ≡ false
ink_row [] b w o e = absurd (cc)
ink_row (x ∷ xs) b w o e =
    let first : to_ascii_lowercase b ≡ x = cc in
    let parts = and_parts (not (is_letter x)) (not (is_blank x)) o in
    ink_byte b x first parts.0 parts.1

ink_rows : (rows : List (List ℕ × Sign)) (s : Sign) (b : ℕ) (w : List ℕ) → list_all (λ (row : List ℕ × Sign). starts_ink row.0) rows ≡ true → Spells rows s (b ∷ w) → is_blank b ≡ false
ink_rows [] s b w o h = absurd h
ink_rows (row ∷ rows) s b w o (inl (_, e)) = ink_row row.0 b w (and_parts (starts_ink row.0) (list_all (λ (r : List ℕ × Sign). starts_ink r.0) rows) o).0 e
ink_rows (row ∷ rows) s b w o (inr h) = ink_rows rows s b w (and_parts (starts_ink row.0) (list_all (λ (r : List ℕ × Sign). starts_ink r.0) rows) o).1 h

letter_ink : (b : ℕ) → is_letter b ≡ true → is_blank b ≡ false
letter_ink b h = grind (arith, nat_tests)

digit_ink : (b : ℕ) → is_digit b ≡ true → is_blank b ≡ false
digit_ink b h = grind (arith, nat_tests)

quote_ink : (b : ℕ) → is_quote b ≡ true → is_blank b ≡ false
quote_ink b h = grind (arith, nat_tests)

-- a token begins with no blank
form_ink : (k : TokenKind) (m b : ℕ) (t : List ℕ) → HasForm k (take m (b ∷ t)) → is_blank b ≡ false
form_ink k zero b t h = absurd (form_some k h)
form_ink Name (suc m) b t h = letter_ink b (and_parts (is_letter b) (list_all is_name_byte (take m t)) h).0
form_ink Number (suc m) b t h = digit_ink b (and_parts (is_digit b) (is_number_rest (take m t)) h).0
form_ink Literal (suc m) b t h = quote_ink b (and_parts (is_quote b) (is_literal_rest b true (take m t)) h).0
form_ink (Fixed s) (suc m) b t h = ink_rows spellings s b (take m t) all_ink h

-- a byte with which a token begins is no blank
token_ink : (text : List ℕ) (i : ℕ) (k : TokenKind) (n : ℕ) → i < length text → IsLongest (drop i text) k n → is_blank (slice_index text i) ≡ false
token_ink text i k n h l =
    let here : drop i text ≡ get_or text i 0 ∷ drop (i + 1) text = rw add-one (drop-cons text i 0 h) in
    form_ink k n (get_or text i 0) (drop (i + 1) text) (subst (λ t. HasForm k (take n t)) here l.form)

-- of one text, one kind
kinds_by : (k j : TokenKind) (m b : ℕ) (t : List ℕ) → HasForm k (take m (b ∷ t)) → HasForm j (take m (b ∷ t)) → sort_of_kind k ≡ sort_of_kind j → k ≡ j
kinds_by Name Name m b t h f s = refl
kinds_by Number Number m b t h f s = refl
kinds_by Literal Literal m b t h f s = refl
kinds_by (Fixed x) (Fixed y) m b t h f s = ap (λ z. Fixed z) (one_spelled x y (take m (b ∷ t)) h f)
kinds_by Name Number m b t h f s = absurd (cc)
kinds_by Name Literal m b t h f s = absurd (cc)
kinds_by Name (Fixed y) m b t h f s = absurd (cc)
kinds_by Number Name m b t h f s = absurd (cc)
kinds_by Number Literal m b t h f s = absurd (cc)
kinds_by Number (Fixed y) m b t h f s = absurd (cc)
kinds_by Literal Name m b t h f s = absurd (cc)
kinds_by Literal Number m b t h f s = absurd (cc)
kinds_by Literal (Fixed y) m b t h f s = absurd (cc)
kinds_by (Fixed x) Name m b t h f s = absurd (cc)
kinds_by (Fixed x) Number m b t h f s = absurd (cc)
kinds_by (Fixed x) Literal m b t h f s = absurd (cc)

pub one_kind : (k j : TokenKind) (m : ℕ) (text : List ℕ) → HasForm k (take m text) → HasForm j (take m text) → k ≡ j
one_kind k j zero text h f = absurd (form_some k h)
one_kind k j (suc m) [] h f = absurd (form_some k h)
one_kind k j (suc m) (b ∷ t) h f = kinds_by k j (suc m) b t h f (sym (form_begins k (suc m) b t h) ∙ form_begins j (suc m) b t f)

-- two longest forms of one text are one
pub same_length : (text : List ℕ) (k j : TokenKind) (m n : ℕ) → IsLongest text k m → IsLongest text j n → m ≡ n
same_length text k j m n h l =
    let a = h.most j n l.within l.form in
    let b = l.most k m h.within h.form in
    omega arith

pub same_kind : (text : List ℕ) (k j : TokenKind) (m n : ℕ) → IsLongest text k m → IsLongest text j n → k ≡ j
same_kind text k j m n h l = one_kind k j m text h.form (subst (λ i. HasForm j (take i text)) (sym (same_length text k j m n h l)) l.form)

-- a token of a text that is cut begins within the text
pub begins_within : (text : List ℕ) (from : ℕ) (p : Piece) (n : ℕ) → IsToken (drop p.from text) p.kind n → (1 ≤ n) × (p.from + n ≤ length text)
begins_within text from p n t =
    let some = longest_some (drop p.from text) p.kind n t.longest in
    let fits = t.longest.within in
    let size = length-drop p.from text in
    (omega arith, omega arith)

-- where a token begins, blanks end
pub not_later : (text : List ℕ) (from i j : ℕ) (k : TokenKind) (n : ℕ) → from ≤ i → i < length text → IsLongest (drop i text) k n → AreBlanks text from j → j ≤ i
not_later text from i j k n h w l b = elim (cases_order i j) [
  | inl e ↦ omega arith
  | inr c ↦ elim c [
    | inl less ↦ absurd (let ink = token_ink text i k n w l in let blank = b.blanks i h less in let e = sym ink ∙ blank in cc)
    | inr more ↦ omega arith
  ]
]

pub same_start : (text : List ℕ) (from : ℕ) (p q : Piece) (m n : ℕ) → AreBlanks text from p.from → AreBlanks text from q.from → IsToken (drop p.from text) p.kind m → IsToken (drop q.from text) q.kind n → p.from ≡ q.from
same_start text from p q m n b c t u =
    let pw = begins_within text from p m t in
    let qw = begins_within text from q n u in
    let bo = b.ordered in
    let co = c.ordered in
    let one = not_later text from p.from q.from p.kind m (omega arith) (omega arith) t.longest c in
    let two = not_later text from q.from p.from q.kind n (omega arith) (omega arith) u.longest b in
    omega arith

same_piece : (p q : Piece) → p.kind ≡ q.kind → p.from ≡ q.from → p.to ≡ q.to → p ≡ q
same_piece p q a b c =
    ap (λ k. let r : Piece = record { kind = k; from = p.from; to = p.to } in r) a
    ∙ (ap (λ i. let r : Piece = record { kind = q.kind; from = i; to = p.to } in r) b ∙ ap (λ i. let r : Piece = record { kind = q.kind; from = q.from; to = i } in r) c)

-- a rest of blanks has no token
pub blanks_alone : (text : List ℕ) (from to : ℕ) (q : Piece) (qs : List Piece) → AreBlanks text from (length text) → IsCut text from (q ∷ qs) to → ⊥
blanks_alone text from to q qs b (c, n, s, t, rest) =
    let w = begins_within text from q n t in
    let co = c.ordered in
    let late = not_later text from q.from (length text) q.kind n (omega arith) (omega arith) t.longest b in
    absurd (omega arith)

-- there is one cutting of a text
pub one_cut : (text : List ℕ) (from : ℕ) (ps qs : List Piece) → IsCut text from ps (length text) → IsCut text from qs (length text) → ps ≡ qs
one_cut text from [] [] h k = refl
one_cut text from [] (q ∷ qs) h k = absurd (blanks_alone text from (length text) q qs h k)
one_cut text from (p ∷ ps) [] h k = absurd (blanks_alone text from (length text) p ps k h)
one_cut text from (p ∷ ps) (q ∷ qs) (b, m, e, t, r) (c, n, f, u, s) =
    let start = same_start text from p q m n b c t u in
    let moved = subst (λ i. IsLongest (drop i text) q.kind n) (sym start) u.longest in
    let kind = same_kind (drop p.from text) p.kind q.kind m n t.longest moved in
    let size = same_length (drop p.from text) p.kind q.kind m n t.longest moved in
    let end : p.to ≡ q.to = omega arith in
    let rest = one_cut text p.to ps qs r (subst (λ i. IsCut text i qs (length text)) (sym end) s) in
    ap (λ z. z ∷ ps) (same_piece p q kind start end) ∙ ap (λ z. q ∷ z) rest

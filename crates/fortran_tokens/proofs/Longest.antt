-- What is found at the front of a text is the longest form there.
use Rattle.std.proofs.Common.{◌≡◌, ℕ, zero, suc, ◌+◌, ◌≤◌, true, List, [], ◌∷◌, length, take, Option, Some, None, refl, sym, ◌∙◌, subst, arith}
use Rattle.std.specs.List.{prefix_len}
use Rattle.std.specs.Prelude.{IfSome, IfNone}
use Rattle.std.specs.Option.{option_map}
use Rattle.std.proofs.Math.Numerals.{one-add}
use Rattle.std.proofs.lemmas.Bool.{and_parts, and_from}
use Rattle.std.proofs.lemmas.List.Sums.{prefix_len-le-length}
use Rattle.fortran_tokens.specs.declared.byte.Sort.{Sort}
use Rattle.fortran_tokens.specs.declared.byte.Sort.TheVariants.{Letter, Digit, Quote, Other}
use Rattle.fortran_tokens.specs.declared.token.Sign.{Sign}
use Rattle.fortran_tokens.specs.declared.token.TokenKind.{TokenKind}
use Rattle.fortran_tokens.specs.declared.token.TokenKind.TheVariants.{Name, Number, Literal, Fixed}
use Rattle.fortran_tokens.specs.Bytes.{is_quote, is_name_byte, sort_of}
use Rattle.fortran_tokens.specs.Forms.{HasForm, is_literal, is_literal_rest}
use Rattle.fortran_tokens.specs.Cuts.{IsLongest, NoForm}
use Rattle.fortran_tokens.specs.Scans.{number_rest_len, closes, sign_found, found_by, form_found}
use Rattle.fortran_tokens.proofs.Names.{name_most, name_form}
use Rattle.fortran_tokens.proofs.Numbers.{number_most, number_form, number_within}
use Rattle.fortran_tokens.proofs.Literals.{closes_none, closes_some}
use Rattle.fortran_tokens.proofs.Signs.{sign_most, sign_none, sign_form}
use Rattle.fortran_tokens.proofs.Sorts.{form_begins, form_some, letter_passes, digit_passes, quote_passes}

-- what must hold of the form that is found
abbrev Exact : List ℕ → Option (TokenKind × ℕ) → Type 0
Exact text None = NoForm text
Exact text (Some r) = IsLongest text r.0 r.1

name_only : (b : ℕ) (t : List ℕ) → Letter ≡ sort_of b → (j : TokenKind) (m : ℕ) → m ≤ length (b ∷ t) → HasForm j (take m (b ∷ t)) → m ≤ 1 + prefix_len is_name_byte t
name_only b t s Name m h f = name_most b t m h f
name_only b t s Number m h f = absurd (let k = s ∙ form_begins Number m b t f in cc)
name_only b t s Literal m h f = absurd (let k = s ∙ form_begins Literal m b t f in cc)
name_only b t s (Fixed g) m h f = absurd (let k = s ∙ form_begins (Fixed g) m b t f in cc)

number_only : (b : ℕ) (t : List ℕ) → Digit ≡ sort_of b → (j : TokenKind) (m : ℕ) → m ≤ length (b ∷ t) → HasForm j (take m (b ∷ t)) → m ≤ 1 + number_rest_len t
number_only b t s Number m h f = number_most b t m h f
number_only b t s Name m h f = absurd (let k = s ∙ form_begins Name m b t f in cc)
number_only b t s Literal m h f = absurd (let k = s ∙ form_begins Literal m b t f in cc)
number_only b t s (Fixed g) m h f = absurd (let k = s ∙ form_begins (Fixed g) m b t f in cc)

-- a front of a text that begins with a quote is a literal where the rest of it closes one
literal_rest : (b : ℕ) (t : List ℕ) (m : ℕ) → HasForm Literal (take m (b ∷ t)) → (n : ℕ) × (m ≡ suc n) × (is_literal_rest b true (take n t) ≡ true)
literal_rest b t zero f = absurd (cc)
literal_rest b t (suc n) f = (n, refl, (and_parts (is_quote b) (is_literal_rest b true (take n t)) f).1)

literal_only : (b : ℕ) (t : List ℕ) (n : ℕ) → Quote ≡ sort_of b → closes b true t ≡ Some n → (j : TokenKind) (m : ℕ) → m ≤ length (b ∷ t) → HasForm j (take m (b ∷ t)) → m ≤ 1 + n
literal_only b t n s e Literal m h f =
    let rest = literal_rest b t m f in
    let size = rest.1 in
    let k = (closes_some b t n e).2 rest.0 (omega arith) rest.2 in
    omega arith
literal_only b t n s e Name m h f = absurd (let k = s ∙ form_begins Name m b t f in cc)
literal_only b t n s e Number m h f = absurd (let k = s ∙ form_begins Number m b t f in cc)
literal_only b t n s e (Fixed g) m h f = absurd (let k = s ∙ form_begins (Fixed g) m b t f in cc)

literal_none : (b : ℕ) (t : List ℕ) → Quote ≡ sort_of b → closes b true t ≡ None → NoForm (b ∷ t)
literal_none b t s e Literal m h f =
    let rest = literal_rest b t m f in
    let size = rest.1 in
    closes_none b t e rest.0 (omega arith) rest.2
literal_none b t s e Name m h f = absurd (let k = s ∙ form_begins Name m b t f in cc)
literal_none b t s e Number m h f = absurd (let k = s ∙ form_begins Number m b t f in cc)
literal_none b t s e (Fixed g) m h f = absurd (let k = s ∙ form_begins (Fixed g) m b t f in cc)

sign_only : (b : ℕ) (t : List ℕ) (g : Sign) (n : ℕ) → Other ≡ sort_of b → sign_found (b ∷ t) ≡ Some (g, n) → (j : TokenKind) (m : ℕ) → m ≤ length (b ∷ t) → HasForm j (take m (b ∷ t)) → m ≤ n
sign_only b t g n s e (Fixed i) m h f = sign_most (b ∷ t) g n e i m h f
sign_only b t g n s e Name m h f = absurd (let k = s ∙ form_begins Name m b t f in cc)
sign_only b t g n s e Number m h f = absurd (let k = s ∙ form_begins Number m b t f in cc)
sign_only b t g n s e Literal m h f = absurd (let k = s ∙ form_begins Literal m b t f in cc)

no_sign : (b : ℕ) (t : List ℕ) → Other ≡ sort_of b → sign_found (b ∷ t) ≡ None → NoForm (b ∷ t)
no_sign b t s e (Fixed i) m h f = sign_none (b ∷ t) e i m h f
no_sign b t s e Name m h f = absurd (let k = s ∙ form_begins Name m b t f in cc)
no_sign b t s e Number m h f = absurd (let k = s ∙ form_begins Number m b t f in cc)
no_sign b t s e Literal m h f = absurd (let k = s ∙ form_begins Literal m b t f in cc)

literal_by : (b : ℕ) (t : List ℕ) → Quote ≡ sort_of b → (o : Option ℕ) → closes b true t ≡ o → Exact (b ∷ t) (option_map (λ n. (Literal, 1 + n)) o)
literal_by b t s None e = literal_none b t s e
literal_by b t s (Some n) e =
    let known = closes_some b t n e in
    let fits = known.0 in
    record {
      within = omega arith;
      form = subst (λ k. is_literal (take k (b ∷ t)) ≡ true) (sym (one-add n)) (and_from (is_quote b) (is_literal_rest b true (take n t)) (quote_passes b s) known.1);
      most = literal_only b t n s e;
    }

sign_by : (b : ℕ) (t : List ℕ) → Other ≡ sort_of b → (o : Option (Sign × ℕ)) → sign_found (b ∷ t) ≡ o → Exact (b ∷ t) (option_map (λ r. (Fixed r.0, r.1)) o)
sign_by b t s None e = no_sign b t s e
sign_by b t s (Some (g, n)) e =
    let known = sign_form (b ∷ t) g n e in
    record { within = known.1; form = known.0; most = sign_only b t g n s e }

exact_by : (s : Sort) (b : ℕ) (t : List ℕ) → s ≡ sort_of b → Exact (b ∷ t) (found_by s b t)
exact_by Letter b t s =
    let fits = prefix_len-le-length is_name_byte t in
    record { within = omega arith; form = name_form b t (letter_passes b s); most = name_only b t s }
exact_by Digit b t s = record { within = number_within b t; form = number_form b t (digit_passes b s); most = number_only b t s }
exact_by Quote b t s = literal_by b t s (closes b true t) refl
exact_by Other b t s = sign_by b t s (sign_found (b ∷ t)) refl

-- the form that is found is the longest one, and where none is found none begins the text
pub found_exact : (text : List ℕ) → Exact text (form_found text)
found_exact [] = empty
  where
    empty : NoForm []
    empty j zero h f = form_some j f
    empty j (suc m) h f = absurd (omega arith)
found_exact (b ∷ t) = exact_by (sort_of b) b t refl

pub none_found : (text : List ℕ) → form_found text ≡ None → NoForm text
none_found text e = subst (Exact text) e (found_exact text)

pub some_found : (text : List ℕ) (r : TokenKind × ℕ) → form_found text ≡ Some r → IsLongest text r.0 r.1
some_found text r e = subst (Exact text) e (found_exact text)

-- a longest form has a byte
pub longest_some : (text : List ℕ) (k : TokenKind) (n : ℕ) → IsLongest text k n → 1 ≤ n
longest_some text k zero h = absurd (form_some k h.form)
longest_some text k (suc n) h = omega arith

pub none_clause : (text : List ℕ) (o : Option (TokenKind × ℕ)) → o ≡ form_found text → IfNone o (NoForm text)
none_clause text None e = none_found text (sym e)
none_clause text (Some r) e = tt

pub some_clause : (text : List ℕ) (o : Option (TokenKind × ℕ)) → o ≡ form_found text → IfSome o (λ r. IsLongest text r.0 r.1)
some_clause text None e = tt
some_clause text (Some r) e = some_found text r (sym e)

pub positive_clause : (text : List ℕ) (o : Option (TokenKind × ℕ)) → o ≡ form_found text → IfSome o (λ r. 1 ≤ r.1)
positive_clause text None e = tt
positive_clause text (Some r) e = longest_some text r.0 r.1 (some_found text r (sym e))

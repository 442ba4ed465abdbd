-- What the first byte of a token says of its kind.
use Rattle.std.proofs.Common.{◌≡◌, ℕ, zero, suc, Bool, true, false, cond, List, [], ◌∷◌, take, refl, ap, ◌∙◌, arith}
use Rattle.std.specs.List.{list_all}
use Rattle.std.proofs.lemmas.Bool.{and_parts}
use Rattle.std.proofs.lemmas.Bool.Decides.{nat_tests}
use Rattle.fortran_tokens.specs.declared.byte.Sort.{Sort}
use Rattle.fortran_tokens.specs.declared.byte.Sort.TheVariants.{Letter, Digit, Quote, Other}
use Rattle.fortran_tokens.specs.declared.token.TokenKind.{TokenKind}
use Rattle.fortran_tokens.specs.declared.token.TokenKind.TheVariants.{Name, Number, Literal, Fixed}
use Rattle.fortran_tokens.specs.Bytes.{is_letter, is_digit, is_quote, is_name_byte, sort_of}
use Rattle.fortran_tokens.specs.Forms.{HasForm, is_number_rest, is_literal_rest}
use Rattle.fortran_tokens.proofs.Signs.{sign_begins, sign_some}

-- the sort of byte with which a token begins
abbrev pub sort_of_kind : TokenKind → Sort
sort_of_kind Name = Letter
sort_of_kind Number = Digit
sort_of_kind Literal = Quote
sort_of_kind (Fixed s) = Other

digit_no_letter : (b : ℕ) → is_digit b ≡ true → is_letter b ≡ false
digit_no_letter b h = grind (arith, nat_tests)

quote_no_letter : (b : ℕ) → is_quote b ≡ true → is_letter b ≡ false
quote_no_letter b h = grind (arith, nat_tests)

quote_no_digit : (b : ℕ) → is_quote b ≡ true → is_digit b ≡ false
quote_no_digit b h = grind (arith, nat_tests)

sort_letter : (b : ℕ) → is_letter b ≡ true → sort_of b ≡ Letter
sort_letter b h = ap (λ l. cond l Letter (cond (is_digit b) Digit (cond (is_quote b) Quote Other))) h

sort_digit : (b : ℕ) → is_digit b ≡ true → sort_of b ≡ Digit
sort_digit b h = ap (λ l. cond l Letter (cond (is_digit b) Digit (cond (is_quote b) Quote Other))) (digit_no_letter b h) ∙ ap (λ d. cond d Digit (cond (is_quote b) Quote Other)) h

sort_quote : (b : ℕ) → is_quote b ≡ true → sort_of b ≡ Quote
sort_quote b h =
    ap (λ l. cond l Letter (cond (is_digit b) Digit (cond (is_quote b) Quote Other))) (quote_no_letter b h)
    ∙ (ap (λ d. cond d Digit (cond (is_quote b) Quote Other)) (quote_no_digit b h) ∙ ap (λ q. cond q Quote Other) h)

-- no token is empty
pub form_some : (k : TokenKind) → HasForm k [] → ⊥
form_some Name e = cc
form_some Number e = cc
form_some Literal e = cc
form_some (Fixed s) h = sign_some s h

-- a token begins with a byte of its sort
pub form_begins : (k : TokenKind) (m b : ℕ) (t : List ℕ) → HasForm k (take m (b ∷ t)) → sort_of b ≡ sort_of_kind k
form_begins k zero b t h = absurd (form_some k h)
form_begins Name (suc m) b t h = sort_letter b (and_parts (is_letter b) (list_all is_name_byte (take m t)) h).0
form_begins Number (suc m) b t h = sort_digit b (and_parts (is_digit b) (is_number_rest (take m t)) h).0
form_begins Literal (suc m) b t h = sort_quote b (and_parts (is_quote b) (is_literal_rest b true (take m t)) h).0
form_begins (Fixed s) (suc m) b t h = sign_begins s b (take m t) h

-- the sort of a byte says which test it passes
pub letter_passes : (b : ℕ) → Letter ≡ sort_of b → is_letter b ≡ true
letter_passes b e = go (is_letter b) (is_digit b) (is_quote b) e
  where
    go : (l d q : Bool) → Letter ≡ cond l Letter (cond d Digit (cond q Quote Other)) → l ≡ true
    go true d q e = refl
    go false true q e = absurd (cc)
    go false false true e = absurd (cc)
    go false false false e = absurd (cc)

pub digit_passes : (b : ℕ) → Digit ≡ sort_of b → is_digit b ≡ true
digit_passes b e = go (is_letter b) (is_digit b) (is_quote b) e
  where
    go : (l d q : Bool) → Digit ≡ cond l Letter (cond d Digit (cond q Quote Other)) → d ≡ true
    go true d q e = absurd (cc)
    go false true q e = refl
    go false false true e = absurd (cc)
    go false false false e = absurd (cc)

pub quote_passes : (b : ℕ) → Quote ≡ sort_of b → is_quote b ≡ true
quote_passes b e = go (is_letter b) (is_digit b) (is_quote b) e
  where
    go : (l d q : Bool) → Quote ≡ cond l Letter (cond d Digit (cond q Quote Other)) → q ≡ true
    go true d q e = absurd (cc)
    go false true q e = absurd (cc)
    go false false true e = refl
    go false false false e = absurd (cc)

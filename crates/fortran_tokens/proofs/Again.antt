-- A token with a blank behind it is read again.
use Rattle.std.proofs.Common.{◌≡◌, ℕ, zero, suc, ◌+◌, ◌-◌, ◌<◌, ◌≤◌, Bool, true, false, cond, not, ◌&&◌, ◌||◌, nat_eq, List, [], ◌∷◌, ◌++◌, length, take, drop, get_or, inl, inr, refl, ap, sym, ◌∙◌, subst, arith, append_assoc, append-nil}
use Rattle.std.specs.Prelude.{slice_index}
use Rattle.std.specs.List.{list_all}
use Rattle.std.specs.Char.{to_ascii_lowercase}
use Rattle.std.specs.Str.{str_to_ascii_lowercase}
use Rattle.std.proofs.Math.Seq.{take-length}
use Rattle.std.proofs.lemmas.Bool.{and_parts, cases_lt}
use Rattle.std.proofs.lemmas.Bool.Decides.{nat_tests}
use Rattle.std.proofs.lemmas.List.{length-append, length-take-le, take_at, drop_at, get_or_at}
use Rattle.fortran_tokens.specs.declared.token.Sign.{Sign}
use Rattle.fortran_tokens.specs.declared.token.TokenKind.{TokenKind}
use Rattle.fortran_tokens.specs.declared.token.TokenKind.TheVariants.{Name, Number, Literal, Fixed}
use Rattle.fortran_tokens.specs.declared.cut.Piece.{Piece}
use Rattle.fortran_tokens.specs.Bytes.{is_letter, is_digit, is_quote, is_name_byte, is_blank, sort_of}
use Rattle.fortran_tokens.specs.Forms.{HasForm, Spells, spellings, is_empty, is_kind, is_number_rest, is_literal_rest}
use Rattle.fortran_tokens.specs.Cuts.{IsToken, IsCut, AreBlanks, excess_of}
use Rattle.fortran_tokens.specs.Words.{word_of, words_of, spaced}
use Rattle.fortran_tokens.proofs.Sorts.{sort_of_kind, form_begins, form_some}
use Rattle.fortran_tokens.proofs.Cutting.{blanks_none, blanks_earlier}

-- where all bytes pass, a blank among them passes
blank_passes : (p : ℕ → Bool) (u r : List ℕ) → list_all p (u ++ 32 ∷ r) ≡ true → p 32 ≡ true
blank_passes p [] r e = (and_parts (p 32) (list_all p r) e).0
blank_passes p (b ∷ u) r e = blank_passes p u r (and_parts (p b) (list_all p (u ++ 32 ∷ r)) e).1

no_name : (u r : List ℕ) → list_all is_name_byte (u ++ 32 ∷ r) ≡ true → ⊥
no_name u r e = let h : false ≡ true = blank_passes is_name_byte u r e in cc

no_empty : (u r : List ℕ) → is_empty (u ++ 32 ∷ r) ≡ true → ⊥
no_empty [] r e = cc
no_empty (b ∷ u) r e = cc

no_kind_by : (u r : List ℕ) (letter figure : Bool) → cond letter (list_all is_name_byte (u ++ 32 ∷ r)) (figure && is_empty (u ++ 32 ∷ r)) ≡ true → ⊥
no_kind_by u r true figure e = no_name u r e
no_kind_by u r false figure e = no_empty u r (and_parts figure (is_empty (u ++ 32 ∷ r)) e).1

no_kind : (u r : List ℕ) → is_kind (u ++ 32 ∷ r) ≡ true → ⊥
no_kind [] r e = cc
no_kind (b ∷ u) r e = no_kind_by u r (is_letter b) (nat_eq b 52 || nat_eq b 56) e

no_number_by : (u r : List ℕ) → (is_number_rest (u ++ 32 ∷ r) ≡ true → ⊥) → (digit under : Bool) → cond digit (is_number_rest (u ++ 32 ∷ r)) (under && is_kind (u ++ 32 ∷ r)) ≡ true → ⊥
no_number_by u r next true under e = next e
no_number_by u r next false under e = no_kind u r (and_parts under (is_kind (u ++ 32 ∷ r)) e).1

no_number : (u r : List ℕ) → is_number_rest (u ++ 32 ∷ r) ≡ true → ⊥
no_number [] r e = cc
no_number (b ∷ u) r e = no_number_by u r (no_number u r) (is_digit b) (nat_eq b 95) e

-- a literal that is closed does not go on behind a blank
no_literal : (q : ℕ) (inside : Bool) (u r : List ℕ) → nat_eq 32 q ≡ false → is_literal_rest q inside u ≡ true → is_literal_rest q inside (u ++ 32 ∷ r) ≡ true → ⊥
no_literal q true [] r n h e = cc
no_literal q false [] r n h e = let k = (and_parts (nat_eq 32 q) (is_literal_rest q true r) e).0 in cc
no_literal q true (b ∷ u) r n h e = no_literal q (not (nat_eq b q)) u r n h e
no_literal q false (b ∷ u) r n h e = no_literal q true u r n (and_parts (nat_eq b q) (is_literal_rest q true u) h).1 (and_parts (nat_eq b q) (is_literal_rest q true (u ++ 32 ∷ r)) e).1

-- no spelling has a blank
no_blanks : list_all (λ (row : List ℕ × Sign). list_all (λ x. not (nat_eq x 32)) row.0) spellings ≡ true
no_blanks = refl

lower_append : (u r : List ℕ) → str_to_ascii_lowercase (u ++ 32 ∷ r) ≡ str_to_ascii_lowercase u ++ 32 ∷ str_to_ascii_lowercase r
lower_append [] r = refl
lower_append (b ∷ u) r = ap (λ l. to_ascii_lowercase b ∷ l) (lower_append u r)

no_row : (row u r : List ℕ) → list_all (λ x. not (nat_eq x 32)) row ≡ true → str_to_ascii_lowercase (u ++ 32 ∷ r) ≡ row → ⊥
no_row row u r o e =
    let all : list_all (λ x. not (nat_eq x 32)) (str_to_ascii_lowercase u ++ 32 ∷ str_to_ascii_lowercase r) ≡ true = ap (list_all (λ x. not (nat_eq x 32))) (sym (lower_append u r) ∙ e) ∙ o in
    let h : false ≡ true = blank_passes (λ x. not (nat_eq x 32)) (str_to_ascii_lowercase u) (str_to_ascii_lowercase r) all in
    cc

no_sign : (rows : List (List ℕ × Sign)) (s : Sign) (u r : List ℕ) → list_all (λ (row : List ℕ × Sign). list_all (λ x. not (nat_eq x 32)) row.0) rows ≡ true → Spells rows s (u ++ 32 ∷ r) → ⊥
no_sign [] s u r o h = h
no_sign (row ∷ rows) s u r o (inl (_, e)) = no_row row.0 u r (and_parts (list_all (λ x. not (nat_eq x 32)) row.0) (list_all (λ (z : List ℕ × Sign). list_all (λ x. not (nat_eq x 32)) z.0) rows) o).0 e
no_sign (row ∷ rows) s u r o (inr h) = no_sign rows s u r (and_parts (list_all (λ x. not (nat_eq x 32)) row.0) (list_all (λ (z : List ℕ × Sign). list_all (λ x. not (nat_eq x 32)) z.0) rows) o).1 h

quote_no_blank : (q : ℕ) → is_quote q ≡ true → nat_eq 32 q ≡ false
quote_no_blank q h = grind (arith, nat_tests)

-- what is a token and has a blank behind it is none with the blank
no_longer : (k j : TokenKind) (b : ℕ) (u r : List ℕ) → HasForm k (b ∷ u) → HasForm j (b ∷ (u ++ 32 ∷ r)) → sort_of_kind k ≡ sort_of_kind j → ⊥
no_longer k Name b u r h f s = no_name u r (and_parts (is_letter b) (list_all is_name_byte (u ++ 32 ∷ r)) f).1
no_longer k Number b u r h f s = no_number u r (and_parts (is_digit b) (is_number_rest (u ++ 32 ∷ r)) f).1
no_longer k (Fixed g) b u r h f s = no_sign spellings g (b ∷ u) r no_blanks f
no_longer Literal Literal b u r h f s =
    let one = and_parts (is_quote b) (is_literal_rest b true u) h in
    let two = and_parts (is_quote b) (is_literal_rest b true (u ++ 32 ∷ r)) f in
    no_literal b true u r (quote_no_blank b one.0) one.1 two.1
no_longer Name Literal b u r h f s = cc
no_longer Number Literal b u r h f s = cc
no_longer (Fixed g) Literal b u r h f s = cc

take_past : (w r : List ℕ) (m : ℕ) → length w < m → take m (w ++ 32 ∷ r) ≡ w ++ 32 ∷ take (m - length w - 1) r
take_past [] r zero h = absurd (omega arith)
take_past [] r (suc m) h = ap (λ i. 32 ∷ take i r) (omega arith)
take_past (b ∷ w) r zero h = absurd (omega arith)
take_past (b ∷ w) r (suc m) h = ap (λ l. b ∷ l) (take_past w r m (omega arith) ∙ ap (λ i. w ++ 32 ∷ take i r) (omega arith))

most_again : (w r : List ℕ) (k : TokenKind) → HasForm k w → (j : TokenKind) (m : ℕ) → HasForm j (take m (w ++ 32 ∷ r)) → m ≤ length w
most_again [] r k h j m f = absurd (form_some k h)
most_again (b ∷ u) r k h j m f = elim (cases_lt (length (b ∷ u)) m) [
  | inr le ↦ le
  | inl more ↦ absurd (
      let longer = subst (HasForm j) (take_past (b ∷ u) r m more) f in
      let one : sort_of b ≡ sort_of_kind k = form_begins k (length (b ∷ u)) b u (subst (HasForm k) (sym (take-length (b ∷ u))) h) in
      let two : sort_of b ≡ sort_of_kind j = form_begins j m b (u ++ 32 ∷ r) f in
      no_longer k j b u (take (m - length (b ∷ u) - 1) r) h longer (sym one ∙ two))
]

-- a token's text with a blank behind it begins with that token
pub token_again : (text : List ℕ) (k : TokenKind) (n : ℕ) (r : List ℕ) → IsToken text k n → IsToken (take n text ++ 32 ∷ r) k n
token_again text k n r t =
    let w = take n text in
    let size = length-take-le n text t.longest.within in
    let both = length-append w (32 ∷ r) in
    let front : take n (w ++ 32 ∷ r) ≡ w = take_at w (32 ∷ r) n size in
    record {
      longest = record {
        within = omega arith;
        form = subst (HasForm k) (sym front) t.longest.form;
        most = λ j m h f. subst (λ i. m ≤ i) size (most_again w r k t.longest.form j m f);
      };
      allowed = ap (excess_of k) front ∙ t.allowed;
    }

-- a text that is cut behind a blank is cut from the blank on
cut_earlier : (text : List ℕ) (at : ℕ) (ps : List Piece) (to : ℕ) → is_blank (slice_index text at) ≡ true → IsCut text (at + 1) ps to → IsCut text at ps to
cut_earlier text at [] to e h = blanks_earlier text at to e h
cut_earlier text at (p ∷ ps) to e (b, n, s, t, rest) = (blanks_earlier text at p.from e b, n, s, t, rest)

-- what is read again of some tokens behind what is read already
pub record ReadAgain (done : List ℕ) (ws : List (TokenKind × List ℕ)) : Type 0 where
  pub again : List Piece
  pub cut : IsCut (done ++ spaced ws) (length done) again (length (done ++ spaced ws))
  pub same : words_of (done ++ spaced ws) again ≡ ws

again_none : (done : List ℕ) → ReadAgain done []
again_none done =
    let whole : length (done ++ []) ≡ length done = ap length (append-nil done) in
    record { again = []; cut = subst (λ i. AreBlanks (done ++ []) (length done) i) (sym whole) (blanks_none (done ++ []) (length done)); same = refl }

again_more : (done w : List ℕ) (k : TokenKind) (ws : List (TokenKind × List ℕ)) → IsToken (w ++ 32 ∷ spaced ws) k (length w) → ReadAgain (done ++ (w ++ 32 ∷ [])) ws → ReadAgain done ((k, w) ∷ ws)
again_more done w k ws t next =
    let n = length w in
    let s = spaced ws in
    let whole : (done ++ (w ++ 32 ∷ [])) ++ s ≡ done ++ (w ++ 32 ∷ s) = append_assoc done (w ++ 32 ∷ []) s ∙ ap (λ l. done ++ l) (append_assoc w (32 ∷ []) s) in
    let outer = length-append done (w ++ 32 ∷ []) in
    let inner = length-append w (32 ∷ []) in
    let size : length (done ++ (w ++ 32 ∷ [])) ≡ (length done + n) + 1 = omega arith in
    let behind : drop (length done) (done ++ (w ++ 32 ∷ s)) ≡ w ++ 32 ∷ s = drop_at done (w ++ 32 ∷ s) (length done) refl in
    let joint = length-append done w in
    let blank : get_or (done ++ (w ++ 32 ∷ s)) (length done + n) 0 ≡ 32 = ap (λ l. get_or l (length done + n) 0) (sym (append_assoc done w (32 ∷ s))) ∙ get_or_at (done ++ w) 32 s 0 (length done + n) joint in
    let moved = subst (λ z. IsCut z (length (done ++ (w ++ 32 ∷ []))) next.again (length z)) whole next.cut in
    let later = subst (λ i. IsCut (done ++ (w ++ 32 ∷ s)) i next.again (length (done ++ (w ++ 32 ∷ s)))) size moved in
    let word : take ((length done + n) - length done) (drop (length done) (done ++ (w ++ 32 ∷ s))) ≡ w = ap (λ i. take i (drop (length done) (done ++ (w ++ 32 ∷ s)))) (omega arith) ∙ (ap (take n) behind ∙ take_at w (32 ∷ s) n refl) in
    record {
      again = record { kind = k; from = length done; to = length done + n } ∷ next.again;
      cut = (blanks_none (done ++ (w ++ 32 ∷ s)) (length done), n, refl, subst (λ z. IsToken z k n) (sym behind) t, cut_earlier (done ++ (w ++ 32 ∷ s)) (length done + n) next.again (length (done ++ (w ++ 32 ∷ s))) (ap is_blank blank) later);
      same = ap (λ z. (k, z) ∷ words_of (done ++ (w ++ 32 ∷ s)) next.again) word ∙ ap (λ z. (k, w) ∷ z) (ap (λ z. words_of z next.again) (sym whole) ∙ next.same);
    }

-- the word of a token that is so long
word_is : (text : List ℕ) (p : Piece) (n : ℕ) → p.to ≡ p.from + n → word_of text p ≡ (p.kind, take n (drop p.from text))
word_is text p n e = ap (λ i. (p.kind, take i (drop p.from text))) (omega arith)

-- the texts of tokens with a blank behind each are read again
again_all : (text : List ℕ) (from : ℕ) (ps : List Piece) (to : ℕ) → IsCut text from ps to → (done : List ℕ) → ReadAgain done (words_of text ps)
again_all text from [] to h done = again_none done
again_all text from (p ∷ ps) to (b, n, e, t, rest) done =
    let w = take n (drop p.from text) in
    let size = length-take-le n (drop p.from text) t.longest.within in
    let token = subst (λ i. IsToken (w ++ 32 ∷ spaced (words_of text ps)) p.kind i) (sym size) (token_again (drop p.from text) p.kind n (spaced (words_of text ps)) t) in
    subst (λ x. ReadAgain done (x ∷ words_of text ps)) (sym (word_is text p n e)) (again_more done w p.kind (words_of text ps) token (again_all text p.to ps to rest (done ++ (w ++ 32 ∷ []))))

pub read_again : (text : List ℕ) (ps : List Piece) → IsCut text 0 ps (length text)
    → (qs : List Piece) × IsCut (spaced (words_of text ps)) 0 qs (length (spaced (words_of text ps))) × (words_of (spaced (words_of text ps)) qs ≡ words_of text ps)
read_again text ps h = let all = again_all text 0 ps (length text) h [] in (all.again, all.cut, all.same)

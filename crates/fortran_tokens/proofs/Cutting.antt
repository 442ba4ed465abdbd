-- A text that is cut step by step.
use Rattle.std.proofs.Common.{◌≡◌, ℕ, ◌+◌, ◌<◌, ◌≤◌, true, List, [], ◌∷◌, ◌++◌, length, take, drop, inl, inr, refl, ap, sym, ◌∙◌, arith}
use Rattle.std.specs.Prelude.{slice_index}
use Rattle.std.specs.List.{AllByRecursion}
use Rattle.std.proofs.lemmas.Bool.{cases_eq}
use Rattle.std.proofs.lemmas.List.{length-drop, length-take-le}
use Rattle.fortran_tokens.specs.declared.token.TokenKind.{TokenKind}
use Rattle.fortran_tokens.specs.declared.token.TokenKind.TheVariants.{Name, Number, Literal, Fixed}
use Rattle.fortran_tokens.specs.declared.cut.Piece.{Piece}
use Rattle.fortran_tokens.specs.Bytes.{is_blank}
use Rattle.fortran_tokens.specs.Cuts.{AreBlanks, IsCut, IsToken, IsLongest, LiesWithin}
use Rattle.fortran_tokens.specs.Tokens.{is_colons}
use Rattle.fortran_tokens.proofs.Longest.{longest_some}
use Rattle.fortran_tokens.proofs.Signs.{colons_two}

-- no bytes are blanks
pub blanks_none : (text : List ℕ) (at : ℕ) → AreBlanks text at at
blanks_none text at = record { ordered = omega arith; blanks = λ i h k. absurd (omega arith) }

blanks_more : (text : List ℕ) (from to : ℕ) → is_blank (slice_index text to) ≡ true → AreBlanks text from to → AreBlanks text from (to + 1)
blanks_more text from to e h = record { ordered = (let k = h.ordered in omega arith); blanks = each }
  where
    each : (i : ℕ) → from ≤ i → i < to + 1 → is_blank (slice_index text i) ≡ true
    each i a b = elim (cases_eq i to) [
      | inl s ↦ ap (λ j. is_blank (slice_index text j)) s ∙ e
      | inr n ↦ h.blanks i a (omega arith)
    ]

-- a text that is cut up to a blank is cut up to the next byte
pub cut_blank : (text : List ℕ) (from : ℕ) (ps : List Piece) (to : ℕ) → is_blank (slice_index text to) ≡ true → IsCut text from ps to → IsCut text from ps (to + 1)
cut_blank text from [] to e h = blanks_more text from to e h
cut_blank text from (p ∷ ps) to e (b, n, s, t, rest) = (b, n, s, t, cut_blank text p.to ps to e rest)

-- a text that is cut up to a token is cut up to the token's end
pub cut_token : (text : List ℕ) (from : ℕ) (ps : List Piece) (to : ℕ) (k : TokenKind) (n : ℕ) → IsToken (drop to text) k n → IsCut text from ps to
    → IsCut text from (ps ++ record { kind = k; from = to; to = to + n } ∷ []) (to + n)
cut_token text from [] to k n t h = (h, n, refl, t, blanks_none text (to + n))
cut_token text from (p ∷ ps) to k n t (b, m, s, u, rest) = (b, m, s, u, cut_token text p.to ps to k n t rest)

-- `::` has two bytes
two_bytes : (text : List ℕ) (k : TokenKind) (n : ℕ) → IsLongest text k n → is_colons k ≡ true → n ≡ 2
two_bytes text Name n h e = absurd (cc)
two_bytes text Number n h e = absurd (cc)
two_bytes text Literal n h e = absurd (cc)
two_bytes text (Fixed s) n h e = sym (length-take-le n text h.within) ∙ colons_two s (take n text) e h.form

-- each token lies within the text
pub cut_within : (text : List ℕ) (from : ℕ) (ps : List Piece) (to : ℕ) → IsCut text from ps to → AllByRecursion (λ p. LiesWithin (length text) p (is_colons p.kind)) ps
cut_within text from [] to h = tt
cut_within text from (p ∷ ps) to (b, n, s, t, rest) =
    let some = longest_some (drop p.from text) p.kind n t.longest in
    let fits = t.longest.within in
    let size = length-drop p.from text in
    (record { some = omega arith; within = omega arith; two = λ e. s ∙ ap (λ m. p.from + m) (two_bytes (drop p.from text) p.kind n t.longest e) }, cut_within text p.to ps to rest)

-- no more tokens than bytes
pub cut_few : (text : List ℕ) (from : ℕ) (ps : List Piece) (to : ℕ) → IsCut text from ps to → from + length ps ≤ to
cut_few text from [] to h = let k = h.ordered in omega arith
cut_few text from (p ∷ ps) to (b, n, s, t, rest) =
    let some = longest_some (drop p.from text) p.kind n t.longest in
    let next = cut_few text p.to ps to rest in
    let before = b.ordered in
    omega arith

-- blanks behind a blank are blanks from it on
pub blanks_earlier : (text : List ℕ) (at to : ℕ) → is_blank (slice_index text at) ≡ true → AreBlanks text (at + 1) to → AreBlanks text at to
blanks_earlier text at to e h = record { ordered = (let k = h.ordered in omega arith); blanks = each }
  where
    each : (i : ℕ) → at ≤ i → i < to → is_blank (slice_index text i) ≡ true
    each i a b = elim (cases_eq i at) [
      | inl s ↦ ap (λ j. is_blank (slice_index text j)) s ∙ e
      | inr n ↦ h.blanks i (omega arith) b
    ]

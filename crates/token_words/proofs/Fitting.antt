-- The tokens of a statement have bytes of its text, and their numbers are below 2^63.
use Rattle.std.proofs.Common.{◌≡◌, ℕ, ◌+◌, ◌-◌, ◌<◌, ◌≤◌, Bool, true, false, cond, ◌&&◌, nat_lt, List, [], ◌∷◌, ◌++◌, length, take, drop, map, Option, Some, None, refl, ap, sym, ◌∙◌, subst, arith}
use Rattle.std.specs.List.{AllByRecursion, take_while}
use Rattle.std.proofs.lemmas.Bool.Decides.{nat_tests}
use Rattle.std.proofs.lemmas.List.{length-drop}
use Rattle.fortran_lines.specs.declared.stmt.Stmt.{Stmt}
use Rattle.fortran_tokens.specs.declared.cut.Piece.{Piece}
use Rattle.fortran_tokens.specs.declared.fault.Excess.{Excess}
use Rattle.fortran_tokens.specs.declared.fault.Excess.TheVariants.{Character}
use Rattle.fortran_tokens.specs.declared.fault.Excess.TheVariants as excess
use Rattle.fortran_tokens.specs.declared.token.Sign.TheVariants.{Colon}
use Rattle.fortran_tokens.specs.declared.token.Token.{Token}
use Rattle.fortran_tokens.specs.declared.token.TokenKind.{TokenKind}
use Rattle.fortran_tokens.specs.declared.token.TokenKind.TheVariants.{Name, Number, Literal, Fixed}
use Rattle.fortran_tokens.specs.Bytes.{is_digit}
use Rattle.fortran_tokens.specs.Cuts.{IsCut, LiesWithin, excess_of, value_of}
use Rattle.fortran_tokens.specs.Tokens.{AreTokens, depth_behind, halved, is_colons, piece_of, with_halves}
use Rattle.fortran_tokens.proofs.Cutting.{cut_within}
use Rattle.fortran_tokens.proofs.Longest.{longest_some}
use Rattle.token_words.specs.Words.{Fits, IsNarrow}

-- the same of a token without its place
abbrev pub PieceFits : List ℕ → Piece → Type 0
PieceFits text p = (p.from < p.to) × (p.to ≤ length text) × IsNarrow p.kind (take (p.to - p.from) (drop p.from text))

-- a number that keeps the limits is below 2^63
kept_narrow : (k : TokenKind) (w : List ℕ) → excess_of k w ≡ None → IsNarrow k w
kept_narrow Number w h = λ e. by_width (nat_lt 9223372036854775807 (value_of (take_while is_digit w))) refl (cond (nat_lt (length (take_while is_digit w) + 64) (length w)) (Some (Character (length (take_while is_digit w) + 64))) None) h
  where
    by_width : (wide : Bool) → wide ≡ nat_lt 9223372036854775807 (value_of (take_while is_digit w)) → (other : Option Excess) → cond wide (Some excess.Number) other ≡ None → value_of (take_while is_digit w) ≤ 9223372036854775807
    by_width true e other h = absurd (cc)
    by_width false e other h = grind (arith, nat_tests)
kept_narrow k w h = λ e. absurd (cc)

pieces_fit : (text : List ℕ) (from : ℕ) (ps : List Piece) (to : ℕ) → IsCut text from ps to → AllByRecursion (PieceFits text) ps
pieces_fit text from [] to h = tt
pieces_fit text from (p ∷ ps) to (b, n, s, t, rest) =
    let some = longest_some (drop p.from text) p.kind n t.longest in
    let fits = t.longest.within in
    let size = length-drop p.from text in
    let width : n ≡ p.to - p.from = omega arith in
    ((omega arith, omega arith, subst (λ m. IsNarrow p.kind (take m (drop p.from text))) width (kept_narrow p.kind (take n (drop p.from text)) t.allowed)), pieces_fit text p.to ps to rest)

both_parts : {A : Type 0} (P : A → Type 0) (xs ys : List A) → AllByRecursion P xs → AllByRecursion P ys → AllByRecursion P (xs ++ ys)
both_parts P [] ys h k = k
both_parts P (x ∷ xs) ys h k = (h.0, both_parts P xs ys h.1 k)

halves_fit : (text : List ℕ) (d : ℕ) (p : Piece) → PieceFits text p → LiesWithin (length text) p (is_colons p.kind) → (is_two open_here : Bool) → is_two ≡ is_colons p.kind → AllByRecursion (PieceFits text) (cond (is_two && open_here) (record { kind = Fixed Colon; from = p.from; to = p.from + 1 } ∷ record { kind = Fixed Colon; from = p.from + 1; to = p.to } ∷ []) (p ∷ []))
halves_fit text d p f l true true e =
    let two = l.two (sym e) in
    let within = l.within in
    ((omega arith, omega arith, λ z. absurd (cc)), ((omega arith, omega arith, λ z. absurd (cc)), tt))
halves_fit text d p f l true false e = (f, tt)
halves_fit text d p f l false b e = (f, tt)

with_halves_fit : (text : List ℕ) (d : ℕ) (ps : List Piece) → AllByRecursion (PieceFits text) ps → AllByRecursion (λ p. LiesWithin (length text) p (is_colons p.kind)) ps → AllByRecursion (PieceFits text) (with_halves d ps)
with_halves_fit text d [] h k = tt
with_halves_fit text d (p ∷ ps) h k =
    both_parts (PieceFits text) (halved d p) (with_halves (depth_behind d p.kind) ps) (halves_fit text d p h.0 k.0 (is_colons p.kind) (nat_lt 0 d) refl) (with_halves_fit text (depth_behind d p.kind) ps h.1 k.1)

tokens_fit : (text : List ℕ) (ts : List Token) → AllByRecursion (PieceFits text) (map piece_of ts) → AllByRecursion (Fits text) ts
tokens_fit text [] h = tt
tokens_fit text (t ∷ ts) h = (record { some = h.0.0; within = h.0.1; narrow = h.0.2 }, tokens_fit text ts h.1)

pub statement_fits : (s : Stmt) (ts : List Token) → AreTokens s ts → AllByRecursion (Fits s.text) ts
statement_fits s ts h =
    let pieces = with_halves_fit s.text 0 h.cut.0 (pieces_fit s.text 0 h.cut.0 (length s.text) h.cut.1) (cut_within s.text 0 h.cut.0 (length s.text) h.cut.1) in
    tokens_fit s.text ts (subst (AllByRecursion (PieceFits s.text)) (sym h.cut.2) pieces)

-- The tokens of a line behind a number in it.
use Rattle.std.proofs.Common.{◌≡◌, ℕ, ◌+◌, ◌≤◌, Bool, List, [], ◌∷◌, ◌++◌, length, map, decimal, ap, ◌∙◌, arith}
use Rattle.fortran_tokens.specs.declared.token.TokenKind.TheVariants.{Number}
use Rattle.fortran_tree.specs.declared.expr.NumberKind.TheVariants as kinds
use Rattle.fortran_grammar.specs.Tokens as t
use Rattle.fortran_grammar.specs.Tokens.{Token}
use Rattle.expr_reader.specs.Plain.{tok_of}
use Rattle.plain_words.specs.Written.{Written, gap, tokens_from}
use Rattle.plain_words.proofs.Places.{here}
use Rattle.plain_words.proofs.Decimals.{decimal_tok}

-- so many columns further on
abbrev pub shifted : ℕ → Token → Token
shifted b y = record { tok = y.tok; at = here y.at.line (b + y.at.col) }

shift : (l b c k : ℕ) (ws : List Written) → k ≡ b + c → tokens_from l k ws ≡ map (shifted b) (tokens_from l c ws)
shift l b c k [] e = ap (λ x. record { tok = t.over; at = here l x } ∷ []) e
shift l b c k (w ∷ ws) e =
    let col : k + gap w.spaced ≡ b + (c + gap w.spaced) = omega (arith, e) in
    let next : (k + gap w.spaced) + length w.bytes ≡ b + ((c + gap w.spaced) + length w.bytes) = omega (arith, e) in
    ap (λ x. record { tok = tok_of w.kind w.bytes; at = here l x } ∷ tokens_from l ((k + gap w.spaced) + length w.bytes) ws) col
    ∙ ap (λ r. record { tok = tok_of w.kind w.bytes; at = here l (b + (c + gap w.spaced)) } ∷ r) (shift l b ((c + gap w.spaced) + length w.bytes) ((k + gap w.spaced) + length w.bytes) ws next)

-- the tokens of a line's front, and the column behind it
abbrev pub front_tokens : ℕ → ℕ → List Written → List Token
front_tokens l c [] = []
front_tokens l c (w ∷ ws) = record { tok = tok_of w.kind w.bytes; at = here l (c + gap w.spaced) } ∷ front_tokens l ((c + gap w.spaced) + length w.bytes) ws

abbrev pub column_behind : ℕ → List Written → ℕ
column_behind c [] = c
column_behind c (w ∷ ws) = column_behind ((c + gap w.spaced) + length w.bytes) ws

-- a number in decimal, with a blank before it or not
abbrev pub numeral : Bool → ℕ → Written
numeral b n = record { spaced = b; kind = Number; bytes = decimal n }

pub tokens_around : (l c n : ℕ) (b : Bool) (front rest : List Written) → n ≤ 2147483647
    → tokens_from l c (front ++ numeral b n ∷ rest)
    ≡ front_tokens l c front ++ record { tok = t.integer n kinds.Unstated; at = here l (column_behind c front + gap b) } ∷ map (shifted (length (decimal n))) (tokens_from l (column_behind c front + gap b) rest)
tokens_around l c n b [] rest h =
    let col = c + gap b in
    let next : col + length (decimal n) ≡ length (decimal n) + col = omega arith in
    ap (λ x. record { tok = x; at = here l col } ∷ tokens_from l (col + length (decimal n)) rest) (decimal_tok n h)
    ∙ ap (λ r. record { tok = t.integer n kinds.Unstated; at = here l col } ∷ r) (shift l (length (decimal n)) col (col + length (decimal n)) rest next)
tokens_around l c n b (x ∷ front) rest h =
    ap (λ r. record { tok = tok_of x.kind x.bytes; at = here l (c + gap x.spaced) } ∷ r) (tokens_around l ((c + gap x.spaced) + length x.bytes) n b front rest h)

-- What the tokens of a line stand for.
use Rattle.std.proofs.Common.{◌≡◌, ℕ, ◌+◌, ◌-◌, ◌≤◌, min, List, [], ◌∷◌, ◌++◌, length, take, drop, refl, ap, ◌∙◌, append-nil, arith}
use Rattle.std.proofs.Math.Seq.{take-append_seam}
use Rattle.caf_base.specs.declared.place.Pos.{Pos}
use Rattle.fortran_tokens.specs.declared.token.Token.{Token as Cut'}
use Rattle.fortran_tokens.specs.Tokens.{depth_behind}
use Rattle.fortran_grammar.specs.Tokens as grammar
use Rattle.expr_reader.specs.Plain.{tok_of, seen}
use Rattle.token_words.specs.Words.{just_past, last_end}
use Rattle.plain_words.specs.Written.{Written, space, gap, line_of, AreFound, tokens_from}
use Rattle.plain_words.proofs.Places.{here}
use Rattle.plain_words.proofs.Cut.{cuts, length-line, behind_it, next_seam, dropped}

-- the bytes of a token
taken : (text pre bytes rest : List ℕ) (p : ℕ) (w : Written) → length pre ≡ p → text ≡ pre ++ (space w.spaced ++ (w.bytes ++ rest))
    → take (((p + gap w.spaced) + length w.bytes) - (p + gap w.spaced)) (drop (p + gap w.spaced) text) ≡ w.bytes
taken text pre bytes rest p w e t =
    let n : ((p + gap w.spaced) + length w.bytes) - (p + gap w.spaced) ≡ length w.bytes = omega arith in
    ap (λ k. take k (drop (p + gap w.spaced) text)) n ∙ ap (take (length w.bytes)) (dropped text pre w.bytes rest p w.spaced e t) ∙ take-append_seam w.bytes rest

pub seen_here : (text pre : List ℕ) (l p c d : ℕ) (ws : List Written) (end : Pos) → length pre ≡ p → c ≡ 1 + p → text ≡ pre ++ line_of ws → AreFound d ws → end ≡ here l (1 + length text)
    → seen text end (cuts l p ws) ≡ tokens_from l c ws
seen_here text pre l p c d [] end e s t h z =
    let size : length text ≡ p = ap length t ∙ (ap length (append-nil pre) ∙ e) in
    let col : 1 + length text ≡ c = omega (arith, size, s) in
    ap (λ q. record { tok = grammar.over; at = q } ∷ []) (z ∙ ap (here l) col)
seen_here text pre l p c d (w ∷ ws) end e s t h z =
    let from = p + gap w.spaced in
    let to = from + length w.bytes in
    let col : 1 + from ≡ c + gap w.spaced = omega (arith, s) in
    let next : (c + gap w.spaced) + length w.bytes ≡ 1 + to = omega (arith, s) in
    ap (λ b. record { tok = tok_of w.kind b; at = here l (1 + from) } ∷ seen text end (cuts l to ws)) (taken text pre w.bytes (line_of ws) p w e t)
    ∙ ap (λ k. record { tok = tok_of w.kind w.bytes; at = here l k } ∷ seen text end (cuts l to ws)) col
    ∙ ap (λ r. record { tok = tok_of w.kind w.bytes; at = here l (c + gap w.spaced) } ∷ r)
    (seen_here text ((pre ++ space w.spaced) ++ w.bytes) l to ((c + gap w.spaced) + length w.bytes) (depth_behind d w.kind) ws end (behind_it pre w.bytes p w.spaced e) next (next_seam text pre w.bytes (line_of ws) w.spaced t) h.2 z)

-- where the last token ends
pub last_here : (l p : ℕ) (x : Cut') (ws : List Written) → x.to ≡ p → last_end x (cuts l p ws) ≡ p + length (line_of ws)
last_here l p x [] e = omega (arith, e)
last_here l p x (w ∷ ws) e =
    let from = p + gap w.spaced in
    let to = from + length w.bytes in
    last_here l to (record { kind = w.kind; from = from; to = to; at = here l (1 + from) }) ws refl ∙ omega (arith, length-line w ws)

-- and the place just past it
pub past_here : (l n e : ℕ) → e ≡ n → 1 ≤ n → n ≤ 1000 → just_past (here l (1 + (e - 1))) ≡ here l (1 + n)
past_here l n e s a b = let col : min ((1 + (e - 1)) + 1) 4294967295 ≡ 1 + n = omega (arith, s, a, b) in ap (here l) col

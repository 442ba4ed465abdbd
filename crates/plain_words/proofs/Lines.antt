-- The words of lines that are written token by token.
use Rattle.std.proofs.Common.{◌≡◌, ℕ, ◌+◌, ◌-◌, ◌<◌, List, [], ◌∷◌, length, map, Some, refl, ap, sym, ◌∙◌, arith}
use Rattle.std.specs.Prelude.{slice_get}
use Rattle.std.specs.List.{AllByRecursion}
use Rattle.fortran_lines.specs.declared.stmt.Stmt.{Stmt}
use Rattle.fortran_lines.specs.PlacedBytes.{placed_from, numbered}
use Rattle.fortran_lines.specs.Lines.{statements_of}
use Rattle.fortran_lines.specs.Statements.{placed_bytes}
use Rattle.fortran_tokens.specs.declared.token.Token.{Token as Cut'}
use Rattle.fortran_tokens.specs.Tokens.{AreTokens, piece_of}
use Rattle.token_words.specs.Words.{AreSeen, AreWords, last_end}
use Rattle.plain_lines.specs.PlainLines.{IsPlainLine, ended}
use Rattle.plain_lines.proofs.Joined.{statements_plain}
use Rattle.plain_words.specs.Written.{Written, gap, line_of, IsWrittenLine, tokens_from, tokens_of_lines}
use Rattle.plain_words.proofs.Places.{here, places, stmt_of, bytes-stmt, place_at}
use Rattle.plain_words.proofs.Cut.{cuts, length-line, cut_here, unhalved, size_here, stands_here, all_here}
use Rattle.plain_words.proofs.Seen.{seen_here, last_here, past_here}

tokens_here : (l : ℕ) (ws : List Written) → IsWrittenLine ws → AreTokens (stmt_of l (line_of ws)) (cuts l 0 ws)
tokens_here l ws h =
    let text = line_of ws in
    record {
      cut = (map piece_of (cuts l 0 ws), cut_here text [] l 0 0 ws refl refl h.found, sym (unhalved l 0 0 ws h.found));
      places = all_here (λ t. slice_get (places l 1 text) t.from ≡ Some t.at) (cuts l 0 ws) (stands_here text [] l 0 0 ws refl refl h.found);
    }

words_here : (l : ℕ) (ws : List Written) → IsWrittenLine ws → AreSeen (stmt_of l (line_of ws)) (cuts l 0 ws) (tokens_from l 1 ws)
words_here l [] h = absurd (let k = h.plain.inked in cc)
words_here l (w ∷ ws) h =
    let text = line_of (w ∷ ws) in
    let from = 0 + gap w.spaced in
    let to = from + length w.bytes in
    let first : Cut' = record { kind = w.kind; from = from; to = to; at = here l (1 + from) } in
    let last = last_end first (cuts l to ws) in
    let size : last ≡ length text = last_here l to first ws refl ∙ omega (arith, length-line w ws) in
    let some = size_here text [] 0 0 w ws refl refl h.found in
    let at_end : last - 1 < length text = omega (arith, size, some) in
    let past = past_here l (length text) last size (omega (arith, some)) h.plain.short in
    (here l (1 + (last - 1)), place_at l 1 text (last - 1) at_end, sym (seen_here text [] l 0 1 0 (w ∷ ws) _ refl refl refl h.found past))

-- the statements of lines
abbrev stmts : ℕ → List (List Written) → List Stmt
stmts n [] = []
stmts n (ws ∷ more) = stmt_of n (line_of ws) ∷ stmts (n + 1) more

all_words : (n : ℕ) (lines : List (List Written)) → AllByRecursion IsWrittenLine lines → AreWords (stmts n lines) (tokens_of_lines n lines)
all_words n [] h = refl
all_words n (ws ∷ more) h =
    (cuts n 0 ws, tokens_from n 1 ws, tokens_of_lines (n + 1) more, tokens_here n ws h.0, words_here n ws h.0, all_words (n + 1) more h.1, refl)

bytes_of : (n : ℕ) (lines : List (List Written)) → map placed_bytes (stmts n lines) ≡ numbered n (map line_of lines)
bytes_of n [] = refl
bytes_of n (ws ∷ more) =
    ap (λ x. x ∷ map placed_bytes (stmts (n + 1) more)) (bytes-stmt n (line_of ws)) ∙ ap (λ r. placed_from n 1 (line_of ws) ∷ r) (bytes_of (n + 1) more)

pub plain_all : (lines : List (List Written)) → AllByRecursion IsWrittenLine lines → AllByRecursion IsPlainLine (map line_of lines)
plain_all [] h = tt
plain_all (ws ∷ more) h = (h.0.plain, plain_all more h.1)

pub written : (lines : List (List Written)) → AllByRecursion IsWrittenLine lines
    → (ss : List Stmt) × (map placed_bytes ss ≡ statements_of (ended (map line_of lines))) × AreWords ss (tokens_of_lines 1 lines)
written lines h = (stmts 1 lines, bytes_of 1 lines ∙ sym (statements_plain (map line_of lines) (plain_all lines h)), all_words 1 lines h)

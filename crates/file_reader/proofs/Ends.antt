-- The last end of a statement among some words.
use Rattle.std.proofs.Common.{◌≡◌, ℕ, zero, suc, ◌<◌, true, List, [], ◌∷◌, length, take, get_or, arith}
use Rattle.expr_reader.specs.Words.{token_of, tokens_of}
use Rattle.expr_reader.specs.declared.word.Word.{Word}
use Rattle.statement_reader.specs.Heads.{is_over}
use Rattle.sequence_reader.specs.Statements.{whole_statements}

pub whole_at : (ws : List Word) (k : ℕ) (d : Word) → k < length ws → is_over (token_of (get_or ws k d)) ≡ true → whole_statements (tokens_of (take (suc k) ws)) ≡ true
whole_at [] k d l o = absurd (omega arith)
whole_at (w ∷ ws) zero d l o = o
whole_at (w ∷ []) (suc k) d l o = absurd (omega arith)
whole_at (w ∷ v ∷ ws) (suc k) d l o = whole_at (v ∷ ws) k d (omega arith) o

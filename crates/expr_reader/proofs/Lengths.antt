-- How many words there are.
use Rattle.std.proofs.Common.{◌≡◌, suc, List, [], ◌∷◌, length, refl, ap, arith}
use Rattle.expr_reader.specs.declared.word.Word.{Word}
use Rattle.expr_reader.specs.Words.{tokens_of}

pub words_length : (ws : List Word) → length (tokens_of ws) ≡ length ws
words_length [] = refl
words_length (w ∷ ws) = ap suc (words_length ws)

pub words_none : (ws : List Word) → length ws ≡ 0 → tokens_of ws ≡ []
words_none [] e = refl
words_none (w ∷ ws) e = absurd (omega arith)

pub ruleset words_laws = (words_length, words_none)

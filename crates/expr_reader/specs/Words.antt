-- The grammar's tokens that words in memory stand for.
use Rattle.std.specs.Prelude.{List, [], ◌∷◌}
use Rattle.fortran_grammar.specs.Tokens as t
use Rattle.fortran_grammar.specs.Tokens.{Tok, Token}
use Rattle.expr_reader.specs.declared.word.Word.{Word}
use Rattle.expr_reader.specs.declared.word.WordKind.{WordKind}
use Rattle.expr_reader.specs.declared.word.WordKind.TheVariants as words

abbrev pub tok_of : WordKind → Tok
tok_of (words.Name x) = t.word x
tok_of (words.Integer n k) = t.integer n k
tok_of (words.Literal x) = t.literal x
tok_of (words.Fixed s) = t.sign s
tok_of words.End = t.over

abbrev pub token_of : Word → Token
token_of x = record { tok = tok_of x.kind; at = x.at }

abbrev pub tokens_of : List Word → List Token
tokens_of [] = []
tokens_of (x ∷ xs) = token_of x ∷ tokens_of xs

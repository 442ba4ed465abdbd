-- The words of one statement.
use Rattle.std.specs.Prelude.{Bool, true, not, ◌&&◌, List, [], ◌∷◌}
use Rattle.fortran_grammar.specs.Tokens.{Token}
use Rattle.statement_reader.specs.Heads.{is_over}

-- none of the tokens ends a statement
abbrev pub no_end : List Token → Bool
no_end [] = true
no_end (y ∷ ts) = not (is_over y) && no_end ts

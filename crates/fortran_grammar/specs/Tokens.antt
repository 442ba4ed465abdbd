-- Tokens as plain data, with the kinds, values and characters that the tree has.
use Rattle.std.specs.Prelude.{ℕ, List}
use Rattle.caf_base.specs.declared.place.Pos.{Pos}
use Rattle.fortran_tokens.specs.declared.token.Sign.{Sign}
use Rattle.fortran_tree.specs.declared.expr.NumberKind.{NumberKind}

-- what a token is, without its place; a sign is that of `fortran_tokens`
pub data Tok : Type 0 where
  -- a name or a keyword, in lower case
  word : List ℕ → Tok
  -- an integer literal: its value and its kind (R708)
  integer : ℕ → NumberKind → Tok
  -- the characters of a character literal
  literal : List ℕ → Tok
  -- an operator, a logical literal or a delimiter
  sign : Sign → Tok
  -- the end of a statement; its place is just past the statement's last token
  over : Tok

-- a token at its place
pub record Token : Type 0 where
  pub tok : Tok
  pub at : Pos

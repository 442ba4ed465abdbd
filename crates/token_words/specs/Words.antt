-- The grammar's tokens that a source's statements stand for.
use Rattle.std.specs.Prelude.{ℕ, ◌≡◌, ◌+◌, ◌-◌, ◌<◌, ◌≤◌, min, List, [], ◌∷◌, ◌++◌, length, take, drop, slice_get, Some}
use Rattle.std.specs.List.{take_while}
use Rattle.caf_base.specs.declared.place.Pos.{Pos}
use Rattle.fortran_lines.specs.declared.stmt.Stmt.{Stmt}
use Rattle.fortran_tokens.specs.declared.fault.TokenFault.{TokenFault}
use Rattle.fortran_tokens.specs.declared.token.Token.{Token as Cut}
use Rattle.fortran_tokens.specs.declared.token.TokenKind.{TokenKind}
use Rattle.fortran_tokens.specs.declared.token.TokenKind.TheVariants.{Number}
use Rattle.fortran_tokens.specs.Bytes.{is_digit}
use Rattle.fortran_tokens.specs.Cuts.{value_of}
use Rattle.fortran_tokens.specs.Tokens.{AreTokens, IsRefused}
use Rattle.fortran_grammar.specs.Tokens.{Token}
use Rattle.expr_reader.specs.Plain.{plain, seen}

-- just past a byte: the next column, where columns are counted up to 4,294,967,295
abbrev pub just_past : Pos → Pos
just_past p = record { line = p.line; col = min (p.col + 1) 4294967295 }

-- where the last of some tokens ends
abbrev pub last_end : Cut → List Cut → ℕ
last_end t [] = t.to
last_end t (u ∷ us) = last_end u us

-- What a statement with these tokens stands for: one token of the grammar for each, and behind them the end, just past
-- the last byte of the last. Where there is no token there is no statement.
abbrev pub AreSeen : Stmt → List Cut → List Token → Type 0
AreSeen s [] ys = ys ≡ []
AreSeen s (t ∷ ts) ys = (p : Pos) × (slice_get s.at (last_end t ts - 1) ≡ Some p) × (ys ≡ seen s.text (just_past p) (t ∷ ts))

-- what statements stand for, one behind the other
abbrev pub AreWords : List Stmt → List Token → Type 0
AreWords [] ys = ys ≡ []
AreWords (s ∷ ss) ys = (ts : List Cut) × (us vs : List Token) × AreTokens s ts × AreSeen s ts us × AreWords ss vs × (ys ≡ us ++ vs)

-- the first statement that can't be cut is refused so: those before it can be
pub record IsFirstRefused (ss : List Stmt) (f : TokenFault) : Type 0 where
  pub before : List Stmt
  pub stmt : Stmt
  pub behind : List Stmt
  pub split : ss ≡ before ++ stmt ∷ behind
  pub words : List Token
  pub cut : AreWords before words
  pub refused : IsRefused stmt f

-- the bytes of a token
abbrev pub text_of : List ℕ → Cut → List ℕ
text_of text t = take (t.to - t.from) (drop t.from text)

-- a number of these bytes is below 2^63
abbrev pub IsNarrow : TokenKind → List ℕ → Type 0
IsNarrow k w = k ≡ Number → value_of (take_while is_digit w) ≤ 9223372036854775807

-- a token has bytes of a text, and its number is below 2^63
pub record Fits (text : List ℕ) (t : Cut) : Type 0 where
  pub some : t.from < t.to
  pub within : t.to ≤ length text
  pub narrow : IsNarrow t.kind (text_of text t)

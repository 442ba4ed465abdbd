-- How the words of a source are refused.
use Rattle.std.specs.Prelude.{ℕ, ◌≡◌, ◌<◌, List, [], ◌∷◌, ◌⊎◌, Some, length, slice_get}
use Rattle.caf_base.specs.declared.place.Pos.{Pos}
use Rattle.reader_theory.specs.Limits.{RefusedFor, no_word, level_at}
use Rattle.fortran_grammar.specs.Tokens.{Token}
use Rattle.fortran_grammar.specs.ProgramGrammar.{Sources}
use Rattle.program_reader.specs.Unfinished.{No_statement}
use Rattle.open_constructs.specs.Open.{IsInnermostOpen}
use Rattle.file_reader.specs.declared.fault.FileFault.{FileFault}
use Rattle.file_reader.specs.declared.fault.FileFault.TheVariants.{Expected, NotClosed, TooDeep}

-- No program begins with the words up to and with this token, whatever its levels; the end of a statement is a token,
-- just past its last one.
pub record IsExpectedAt (ts : List Token) (at : Pos) : Type 0 where
  pub token : Token
  pub rest : List Token
  pub refused : RefusedFor Sources ts no_word (token ∷ rest)
  pub place : at ≡ token.at

-- There are words, and programs go on from them, but none ends there; in each of those programs the innermost construct
-- that the words begin and don't end begins at this place.
pub record IsOpenAt (ts : List Token) (at : Pos) : Type 0 where
  pub some : 0 < length ts
  pub refused : RefusedFor Sources ts no_word []
  pub innermost : IsInnermostOpen ts at

-- Programs go on with the token at which the words are refused, but each has a level too deep by then; the first of
-- those levels begins at this token.
pub record IsTooDeepAt (ts : List Token) (at : Pos) : Type 0 where
  pub before : ℕ
  pub token : Token
  pub rest : List Token
  pub refused : RefusedFor Sources ts (level_at before) rest
  pub stands : slice_get ts before ≡ Some token
  pub place : at ≡ token.at

-- how the words of a source are refused
abbrev pub AreRefused : List Token → FileFault → Type 0
AreRefused ts (Expected at) = No_statement ts at ⊎ IsExpectedAt ts at
AreRefused ts (NotClosed at) = IsOpenAt ts at
AreRefused ts (TooDeep at) = IsTooDeepAt ts at

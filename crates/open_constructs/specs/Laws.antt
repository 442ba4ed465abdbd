-- What is proved of the construct that is open.
use Rattle.std.specs.Prelude.{◌≡◌, true, List}
use Rattle.caf_base.specs.declared.place.Pos.{Pos}
use Rattle.fortran_grammar.specs.Tokens.{Token}
use Rattle.program_reader.specs.Unfinished.{Unfinished}
use Rattle.sequence_reader.specs.Statements.{whole_statements}
use Rattle.open_constructs.specs.Open.{IsInnermostOpen}

-- where whole statements are parts that may follow one another, and more is needed, the place that a reader of parts
-- keeps for what is open innermost is that of the grammar
abbrev pub OpenIsTold : Type 0
OpenIsTold = (ts : List Token) (at : Pos) → whole_statements ts ≡ true → Unfinished 64 ts at → IsInnermostOpen ts at

-- no words have two such places
abbrev pub OpenOnce : Type 0
OpenOnce = (ts : List Token) (at there : Pos) → IsInnermostOpen ts at → IsInnermostOpen ts there → at ≡ there

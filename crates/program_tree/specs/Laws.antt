-- What is proved of parts that follow one another.
use Rattle.std.specs.Prelude.{ℕ, List}
use Rattle.reader_theory.specs.Words.{Mark}
use Rattle.fortran_grammar.specs.Tokens.{Token}
use Rattle.statement_reader.specs.Parts.{Part}
use Rattle.program_reader.specs.Sequence.{State, Rest_of_file}
use Rattle.program_tree.specs.Following.{MayFollow}

-- the parts of the rest of a file may follow one another from its place on
abbrev pub PartsMayFollow : Type 0
PartsMayFollow = (limit : ℕ) (s : State) (es : List Part) (w : List (Mark Token)) → Rest_of_file limit s es w → MayFollow s es

-- What it is that the bytes of a source spell a program.
use Rattle.std.specs.Prelude.{ℕ, ◌≡◌, ◌%◌, List, [], map}
use Rattle.fortran_lines.specs.declared.stmt.Stmt.{Stmt}
use Rattle.fortran_lines.specs.Lines.{statements_of}
use Rattle.fortran_lines.specs.Faults.{faults_of}
use Rattle.fortran_lines.specs.Statements.{placed_bytes}
use Rattle.reader_theory.specs.Refusals.{Reads}
use Rattle.fortran_tree.specs.Units.{Program}
use Rattle.fortran_grammar.specs.Tokens.{Token}
use Rattle.fortran_grammar.specs.ProgramGrammar.{Sources}
use Rattle.token_words.specs.Words.{AreWords}
use Rattle.work_maker.specs.MadeSource.{number_of}

-- the first values of the elements of a made program: the numbers of its seed, below 1000
abbrev pub values_of : ℕ → ℕ → ℕ
values_of seed j = number_of seed j % 1000

-- the lines of the bytes break no rule and join to statements, which are cut into words, and these spell the program
pub record IsSpelled (bytes : List ℕ) (x : Program) : Type 0 where
  pub statements : List Stmt
  pub joined : map placed_bytes statements ≡ statements_of bytes
  pub unbroken : faults_of bytes ≡ []
  pub words : List Token
  pub cut : AreWords statements words
  pub spelled : Reads Sources words x

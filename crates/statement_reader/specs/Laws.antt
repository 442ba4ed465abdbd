-- What is proved of the readers of parts.
use Rattle.std.specs.Prelude.{ℕ, List}
use Rattle.reader_theory.specs.Words.{Mark}
use Rattle.reader_theory.specs.Readers.{ended}
use Rattle.reader_theory.specs.Laws.{AnswersAll, OneReading}
use Rattle.fortran_grammar.specs.Tokens.{Token}
use Rattle.fortran_grammar.specs.Phrases.{Words}
use Rattle.statement_reader.specs.Parts.{Part, formed}
use Rattle.statement_reader.specs.Forms.{Place, part_reader}

-- the grammar's parts of the form that a place allows
abbrev pub Part_at : ℕ → Place → Part → List (Mark Token) → Type 0
Part_at limit i b w = Words (formed i.form i.conditions b) limit i.level w

-- each text of tokens gets the answer that is due: the part that it is, or the first token with which none goes on and
-- why
abbrev pub PartsAnswered : Type 0
PartsAnswered = (limit : ℕ) (i : Place) → AnswersAll (Part_at limit i) (ended (part_reader limit i))

-- no text is two parts of one form
abbrev pub PartsOnce : Type 0
PartsOnce = (limit : ℕ) (i : Place) → OneReading (Part_at limit i)

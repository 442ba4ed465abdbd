-- What a function that reads ensures.
use Rattle.std.specs.Prelude.{◌≡◌, List, length, Result, Ok, Err}
use Rattle.reader_theory.specs.Words.{Cause, expected, too_deep, Verdict, found, fault}
use Rattle.fortran_grammar.specs.Tokens.{Token}
use Rattle.expr_reader.specs.declared.error.Cause.{Cause as Named}
use Rattle.expr_reader.specs.declared.error.Cause.TheVariants as causes
use Rattle.expr_reader.specs.declared.error.Stop.{Stop}
use Rattle.expr_reader.specs.declared.error.ReadError.{ReadError}
use Rattle.expr_reader.specs.declared.error.ReadError.TheVariants as errors

abbrev pub cause_of : Named → Cause
cause_of causes.Expected = expected
cause_of causes.TooDeep = too_deep

-- the reader's fault is this one
abbrev pub Stands : {A : Type 0} → Stop → Verdict Token A → Type 0
Stands s v = (rest : List Token) × (v ≡ fault (cause_of s.cause) rest) × (length rest ≡ s.left)

abbrev pub Fails : {A : Type 0} → ReadError → Verdict Token A → Type 0
Fails errors.Memory v = Unit {0}
Fails (errors.Stopped s) v = Stands s v

-- the result, seen so, is the reader's answer, unless memory ran out
abbrev pub Gives : {X A : Type 0} → (X → A × List Token) → Result X ReadError → Verdict Token A → Type 0
Gives look (Ok x) v = v ≡ found (look x).0 (look x).1
Gives look (Err e) v = Fails e v

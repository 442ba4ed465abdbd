-- Whole statements.
use Rattle.std.specs.Prelude.{◌≡◌, ◌<◌, Bool, true, List, [], ◌∷◌, length}
use Rattle.fortran_grammar.specs.Tokens.{Token}
use Rattle.statement_reader.specs.Heads.{is_over}
use Rattle.expr_reader.specs.declared.error.Stop.{Stop}
use Rattle.expr_reader.specs.declared.error.ReadError.{ReadError}
use Rattle.expr_reader.specs.declared.error.ReadError.TheVariants as errors

-- there is no token, or the last one ends a statement
abbrev pub whole_statements : List Token → Bool
whole_statements [] = true
whole_statements (y ∷ []) = is_over y
whole_statements (y ∷ z ∷ ts) = whole_statements (z ∷ ts)

-- where there are tokens, and they are whole statements, the fault is none just past the last one
abbrev pub Before_the_end : List Token → Stop → Type 0
Before_the_end ts e = whole_statements ts ≡ true → 0 < length ts → 0 < e.left

abbrev pub Stops_before : List Token → ReadError → Type 0
Stops_before ts errors.Memory = Unit {0}
Stops_before ts (errors.Stopped s) = Before_the_end ts s

-- of whole statements, whole ones are left, and no fault so far stands just past them
abbrev pub On_the_way : List Token → List Token → Stop → Type 0
On_the_way every ts e = (whole_statements every ≡ true → whole_statements ts ≡ true) × Before_the_end every e

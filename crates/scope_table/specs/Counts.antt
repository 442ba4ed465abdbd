-- How many of the entries of a table are variables and coarrays.
use Rattle.std.specs.Prelude.{ℕ, ◌+◌, cond, nat_eq, List, [], ◌∷◌}
use Rattle.scope_table.specs.declared.symbol.Entry.{Entry}
use Rattle.scope_table.specs.declared.symbol.Entry.TheVariants as entries

abbrev pub variable_count : Entry → ℕ
variable_count (entries.Variable x) = 1
variable_count (entries.Constant x) = 0

abbrev pub coarray_count : Entry → ℕ
coarray_count (entries.Variable x) = cond (nat_eq x.corank 0) 0 1
coarray_count (entries.Constant x) = 0

abbrev pub variables_in : List Entry → ℕ
variables_in [] = 0
variables_in (e ∷ es) = variable_count e + variables_in es

abbrev pub coarrays_in : List Entry → ℕ
coarrays_in [] = 0
coarrays_in (e ∷ es) = coarray_count e + coarrays_in es

-- Typed variables, one behind the other, and the numbers of coarrays.
use Rattle.std.specs.Prelude.{ℕ, cond, nat_eq, List, [], ◌∷◌, ◌++◌, Option, Some, None, map}
use Rattle.checked_tree.specs.declared.data.Variable.{Variable}
use Rattle.rule_definitions.specs.Judgements.{all_made, made}
use Rattle.rule_definitions.specs.Names.{Symbol}
use Rattle.rule_definitions.specs.Units.{variable_of}
use Rattle.scope_table.specs.Symbols.{symbol}
use Rattle.scope_table.specs.declared.symbol.Entry.{Entry}
use Rattle.scope_table.specs.declared.symbol.Entry.TheVariants as entries

-- what a name declares among typed variables
abbrev pub typed_entry : Entry → Option (List Variable)
typed_entry (entries.Variable x) = made (λ v. v ∷ []) (variable_of (symbol x)).meaning
typed_entry (entries.Constant x) = Some []

abbrev pub typed_variables : List Symbol → Option (List Variable)
typed_variables xs = (all_made (map variable_of xs)).meaning

-- typed variables behind others
abbrev pub behind_variables : List Variable → Option (List Variable) → Option (List Variable)
behind_variables vs o = made (λ ws. vs ++ ws) o

-- the number of a variable, where it is a coarray
abbrev pub coarray_number : ℕ → Entry → List ℕ
coarray_number n (entries.Variable x) = cond (nat_eq x.corank 0) [] (n ∷ [])
coarray_number n (entries.Constant x) = []

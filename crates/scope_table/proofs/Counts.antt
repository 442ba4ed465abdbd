-- How many entries of a table are variables and coarrays.
use Rattle.std.proofs.Common.{◌≡◌, ℕ, ◌+◌, Bool, true, false, List, [], ◌∷◌, ◌++◌, length, refl, arith}
use Rattle.std.specs.Prelude.{cond, nat_eq, map}
use Rattle.rule_definitions.specs.Names.{variables_of}
use Rattle.rule_definitions.specs.Declarations.{count_coarrays}
use Rattle.scope_table.specs.Symbols.{entry}
use Rattle.scope_table.specs.Counts.{variable_count, coarray_count, variables_in, coarrays_in}
use Rattle.scope_table.specs.declared.symbol.Entry.{Entry}
use Rattle.scope_table.specs.declared.symbol.Entry.TheVariants as entries

pub variables_more : (es : List Entry) (e : Entry) → variables_in (es ++ e ∷ []) ≡ variables_in es + variable_count e
variables_more [] e = omega arith
variables_more (x ∷ es) e = let h = variables_more es e in omega (arith, h)

pub coarrays_more : (es : List Entry) (e : Entry) → coarrays_in (es ++ e ∷ []) ≡ coarrays_in es + coarray_count e
coarrays_more [] e = omega arith
coarrays_more (x ∷ es) e = let h = coarrays_more es e in omega (arith, h)

pub variables_are : (es : List Entry) → variables_in es ≡ length (variables_of (map entry es))
variables_are [] = refl
variables_are (entries.Variable x ∷ es) = let h = variables_are es in omega (arith, h)
variables_are (entries.Constant x ∷ es) = let h = variables_are es in omega (arith, h)

one_coarray : (b : Bool) (n m : ℕ) → n ≡ m → cond b 0 1 + n ≡ cond b m (m + 1)
one_coarray true n m h = omega (arith, h)
one_coarray false n m h = omega (arith, h)

pub coarrays_are : (es : List Entry) → coarrays_in es ≡ count_coarrays (variables_of (map entry es))
coarrays_are [] = refl
coarrays_are (entries.Variable x ∷ es) = one_coarray (nat_eq x.corank 0) (coarrays_in es) (count_coarrays (variables_of (map entry es))) (coarrays_are es)
coarrays_are (entries.Constant x ∷ es) = let h = coarrays_are es in omega (arith, h)

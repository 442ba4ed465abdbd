-- Cells, counted no further than the limit of rule 30.
use Rattle.std.specs.Prelude.{ℕ, ℤ, ◌+◌, ◌*◌, Bool, true, false, cond, nat_eq, nat_le, List, [], ◌∷◌, Option, Some, None}
use Rattle.coarray_types.specs.Places.{extent_of, size_of}
use Rattle.rule_definitions.specs.Names.{KnownBounds, Symbol}
use Rattle.rule_definitions.specs.Declarations.{cells_of, coarrays_among, locals_among, passing_breaks}
use Rattle.rule_definitions.specs.declared.broken.Broken.{Broken}
use Rattle.scope_table.specs.Symbols.{symbol}
use Rattle.scope_table.specs.declared.symbol.Entry.{Entry}
use Rattle.scope_table.specs.declared.symbol.Entry.TheVariants as entries

-- a number, 65,537 where it is above the limit
abbrev pub capped : ℕ → ℕ
capped n = cond (nat_le n 65536) n 65537

-- the cells of an array, times those of the dimensions before; none where a bound is unknown
abbrev pub cells_from : ℕ → Option (List (ℤ × ℤ)) → ℕ
cells_from k None = 0
cells_from k (Some ds) = capped (k * size_of ds)

-- so many cells times those of one dimension more
abbrev pub with_extent : ℕ → KnownBounds → ℕ
with_extent k None = 0
with_extent k (Some d) = capped (k * capped (extent_of d))

-- the coarrays among variables, or the others
abbrev pub chosen : Bool → List Symbol → List Symbol
chosen true xs = coarrays_among xs
chosen false xs = locals_among xs

abbrev pub is_chosen : Bool → Symbol → Bool
is_chosen true x = cond (nat_eq x.corank 0) false true
is_chosen false x = nat_eq x.corank 0

-- what the next entry of a table breaks, behind variables of so many cells, and how many cells there are behind it
abbrev pub next_breaks : Bool → ℕ → Entry → List Broken
next_breaks b s (entries.Variable x) = cond (is_chosen b (symbol x)) (passing_breaks s (cells_of (symbol x)) x.at) []
next_breaks b s (entries.Constant x) = []

abbrev pub next_sum : Bool → ℕ → Entry → ℕ
next_sum b s (entries.Variable x) = cond (is_chosen b (symbol x)) (capped (s + cells_of (symbol x))) s
next_sum b s (entries.Constant x) = s

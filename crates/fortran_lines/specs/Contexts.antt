-- Character contexts (ISO/IEC 1539-1:2018, 3.21): where a byte stands within a character literal (7.4.4), as comments
-- and continuations ask (6.3.2.3, 6.3.2.4).
use Rattle.std.specs.Prelude.{Bool, true, false, cond, nat_eq, List, fold}
use Rattle.fortran_lines.specs.declared.placed_byte.PlacedByte.{PlacedByte}
use Rattle.fortran_lines.specs.declared.context.Context.{Context}
use Rattle.fortran_lines.specs.declared.context.Context.TheVariants.{Outside, Inside, Closed}
use Rattle.fortran_lines.specs.PlacedBytes.{is_quote}

-- a literal is open
abbrev pub is_inside : Context → Bool
is_inside Outside = false
is_inside (Inside q) = true
is_inside (Closed q) = false

-- where no literal is open, a quote opens one
abbrev pub opened : PlacedByte → Context
opened m = cond (is_quote m) (Inside m) Outside

-- A literal ends at its own quote, and goes on where that quote follows at once.
abbrev pub behind : Context → PlacedByte → Context
behind Outside m = opened m
behind (Inside q) m = cond (nat_eq m.code q.code) (Closed q) (Inside q)
behind (Closed q) m = cond (nat_eq m.code q.code) (Inside q) (opened m)

-- the context behind some text
abbrev pub context_behind : Context → List PlacedByte → Context
context_behind k text = fold behind k text

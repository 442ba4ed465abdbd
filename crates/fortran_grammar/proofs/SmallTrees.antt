-- Names for small trees, in tries of the grammar and of the printer.
use Rattle.std.proofs.Common.{ℕ, List}
use Rattle.caf_base.specs.declared.place.Pos.{Pos}
use Rattle.fortran_tree.specs.declared.name.Name.{Name}
use Rattle.fortran_tree.specs.declared.name.Literal.{Literal}
use Rattle.fortran_tree.specs.declared.expr.NumberKind.TheVariants.{Unstated}
use Rattle.fortran_tree.specs.Expressions as s
use Rattle.fortran_tree.specs.Expressions.{Expression, Designator}

-- a column of line 1
abbrev pub here : ℕ → Pos
here c = record { line = 1; col = c }

-- a name, a variable without subscripts as a designator and as an expression, and a number, each at a column
abbrev pub n : List ℕ → ℕ → Name
n x c = record { text = x; at = here c }

abbrev pub d : List ℕ → ℕ → Designator
d x c = s.part_ref (n x c) s.no_section_subscripts s.no_image_selector

abbrev pub v : List ℕ → ℕ → Expression
v x c = s.designator (d x c)

abbrev pub i : ℕ → ℕ → Expression
i k c = s.number k Unstated (here c)

-- a character literal at a column
abbrev pub l : List ℕ → ℕ → Literal
l x c = record { text = x; at = here c }

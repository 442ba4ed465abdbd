-- Short names for pieces of checked trees.
use Rattle.std.proofs.Common.{ℕ, ℤ, pos, false, List, [], ◌∷◌}
use Rattle.caf_base.specs.declared.value.Kind.TheVariants as kinds
use Rattle.checked_tree.specs.declared.data.DataType.{DataType}
use Rattle.checked_tree.specs.declared.data.DataType.TheVariants as types
use Rattle.checked_tree.specs.declared.data.Home.TheVariants as homes
use Rattle.checked_tree.specs.declared.data.Local.{Local}
use Rattle.checked_tree.specs.declared.data.Object.TheVariants as objects
use Rattle.checked_tree.specs.declared.data.Dimensions.TheVariants as dimensions
use Rattle.checked_tree.specs.declared.data.Codimensions.{Codimensions}
use Rattle.checked_tree.specs.declared.data.Codimensions.TheVariants as codimensions
use Rattle.checked_tree.specs.declared.data.Initial.{Initial}
use Rattle.checked_tree.specs.declared.data.Initial.TheVariants as initials
use Rattle.checked_tree.specs.declared.data.Variable.{Variable}
use Rattle.checked_tree.specs.declared.expr.ArithmeticOperator.TheVariants as arithmetics
use Rattle.checked_tree.specs.declared.expr.RelationalOperator.TheVariants as relations
use Rattle.checked_tree.specs.Expressions as t
use Rattle.checked_tree.specs.Statements as s

abbrev pub int : DataType
int = types.Intrinsic kinds.I4

abbrev pub log : DataType
log = types.Intrinsic kinds.L4

-- a scalar, an array, a coarray
abbrev pub var : DataType → List (ℤ × ℤ) → Codimensions → Initial → Variable
var t ds co i = record { name = []; of_type = t; dimensions = dimensions.Explicit (record { dims = ds }); codimensions = co; is_allocatable = false; initial = i }

abbrev pub scalar : DataType → Variable
scalar t = var t [] codimensions.Absent initials.Unstated

abbrev pub array : DataType → ℤ → Variable
array t n = var t ((pos 1, n) ∷ []) codimensions.Absent initials.Unstated

abbrev pub co1 : Codimensions
co1 = codimensions.Explicit (record { lower = pos 1 ∷ []; extent = [] })

abbrev pub coscalar : DataType → Variable
coscalar t = var t [] co1 initials.Unstated

abbrev pub own : ℕ → Local
own n = record { home = homes.Own; variable = n }

abbrev pub of_host : ℕ → Local
of_host n = record { home = homes.Host; variable = n }

abbrev pub num : ℤ → t.Expression
num z = t.typed (t.number z) int 0

abbrev pub v : ℕ → t.Expression
v n = t.typed (t.designator (t.part (objects.Local (own n)) t.no_subscripts t.no_selector)) int 0

abbrev pub target : ℕ → t.Designator
target n = t.part (objects.Local (own n)) t.no_subscripts t.no_selector

abbrev pub co_target : ℕ → t.Designator
co_target c = t.part (objects.Coarray c) t.no_subscripts t.no_selector

abbrev pub one_sub : t.Expression → t.Subscripts
one_sub e = t.more_subscripts (t.element e) t.no_subscripts

abbrev pub el : ℕ → t.Expression → t.Designator
el n e = t.part (objects.Local (own n)) (one_sub e) t.no_selector

abbrev pub element_of : ℕ → t.Expression → t.Expression
element_of n e = t.typed (t.designator (el n e)) int 0

abbrev pub at_image : ℕ → t.Expressions → t.Expression
at_image c es = t.typed (t.designator (t.part (objects.Coarray c) t.no_subscripts (t.selector es t.current t.no_result))) int 0

abbrev pub co : ℕ → t.Expression
co c = t.typed (t.designator (co_target c)) int 0

abbrev pub one : t.Expression → t.Expressions
one e = t.more_expressions e t.no_expressions

abbrev pub two : t.Expression → t.Expression → t.Expressions
two e f = t.more_expressions e (one f)

abbrev pub me : t.Expression
me = t.typed (t.intrinsic (t.this_image t.missing)) int 0

abbrev pub count : t.Expression
count = t.typed (t.intrinsic (t.num_images t.missing)) int 0

abbrev pub huge : t.Expression
huge = t.typed (t.intrinsic t.huge) int 0

abbrev pub add : t.Expression → t.Expression → t.Expression
add a b = t.typed (t.arithmetic arithmetics.Add a b) int 0

abbrev pub sub : t.Expression → t.Expression → t.Expression
sub a b = t.typed (t.arithmetic arithmetics.Subtract a b) int 0

abbrev pub times : t.Expression → t.Expression → t.Expression
times a b = t.typed (t.arithmetic arithmetics.Multiply a b) int 0

abbrev pub eq : t.Expression → t.Expression → t.Expression
eq a b = t.typed (t.relation relations.Equal a b) log 0

-- statements at lines
abbrev pub block : List (ℕ × s.StatementForm) → s.Statements
block [] = s.no_statements
block (x ∷ xs) = s.more_statements (s.on_line x.1 x.0) (block xs)

abbrev pub if_then : t.Expression → ℕ → s.StatementForm → s.StatementForm
if_then c l f = s.if c (s.more_statements (s.on_line f l) s.no_statements) s.no_else_ifs s.no_statements

abbrev pub set : ℕ → t.Expression → s.StatementForm
set n e = s.assign (target n) int 0 e

abbrev pub put : ℕ → t.Expression → s.StatementForm
put c e = s.assign (co_target c) int 0 e

abbrev pub print : List s.Item → s.StatementForm
print xs = s.print s.free xs

abbrev pub sync : s.StatementForm
sync = s.sync_all t.no_result

abbrev pub unit : List Variable → ℕ → List (ℕ × s.StatementForm) → s.Unit'
unit vs h ss = record { variables = vs; hidden = h; statements = block ss }

abbrev pub program : List Variable → List ℕ → ℕ → List (ℕ × s.StatementForm) → ℕ → s.Program
program vs cs h ss end = record { main = unit vs h ss; end_line = end; procedures = []; coarrays = cs; constants = []; literals = []; criticals = 0 }

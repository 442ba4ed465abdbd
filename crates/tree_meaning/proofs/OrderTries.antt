-- Which of two faults comes first, and when the argument of a collective is read: what the walks of small programs ask,
-- worked out by hand.
use Rattle.std.proofs.Common.{◌≡◌, refl, ℕ, pos, true, List, [], ◌∷◌, ◌++◌, codes, Some}
use Rattle.std.specs.Fmt.{digits}
use Rattle.caf_base.specs.declared.value.Kind.TheVariants as kinds
use Rattle.caf_base.specs.declared.value.Value.TheVariants as values
use Rattle.caf_events.specs.declared.ask.Ask.{Ask}
use Rattle.caf_events.specs.declared.ask.Ask.TheVariants as asks
use Rattle.caf_events.specs.declared.fault.FaultKind.TheVariants as faulty
use Rattle.caf_events.specs.declared.reply.Reply.{Reply}
use Rattle.caf_events.specs.declared.round.Arriving.TheVariants as arrivals
use Rattle.caf_events.specs.declared.round.GatherOp.TheVariants as gathers
use Rattle.walk_theory.specs.Language as language
use Rattle.checked_tree.specs.declared.action.Combination.TheVariants as combinations
use Rattle.checked_tree.specs.declared.data.Codimensions.TheVariants as codimensions
use Rattle.checked_tree.specs.declared.data.DataType.TheVariants as types
use Rattle.checked_tree.specs.declared.data.Dimensions.TheVariants as dimensions
use Rattle.checked_tree.specs.declared.data.Initial.TheVariants as initials
use Rattle.checked_tree.specs.declared.data.Object.TheVariants as objects
use Rattle.checked_tree.specs.declared.data.Variable.{Variable}
use Rattle.checked_tree.specs.declared.expr.WrittenOrder.TheVariants as orders
use Rattle.checked_tree.specs.declared.program.Dummy.{Dummy}
use Rattle.checked_tree.specs.Expressions as t
use Rattle.checked_tree.specs.Statements as s
use Rattle.image_acts.specs.Acts as a
use Rattle.image_acts.specs.Core.{Core}
use Rattle.image_acts.specs.Faults.{shape_fault, not_allocated}
use Rattle.image_acts.specs.Operate.Variables.{variable_effect}
use Rattle.tree_meaning.specs.Start.{first_core}
use Rattle.tree_meaning.proofs.SmallTrees.{int, var, scalar, array, own, of_host, num, v, target, el, one, set, print, unit, program}
use Rattle.tree_meaning.proofs.SmallAsks.{ints, at, arrives, leaves, prints, stops, faults, done, round, left, took}
use Rattle.tree_meaning.proofs.Trying.{said, values_there}

allocatable : Variable
allocatable = record { name = []; of_type = int; dimensions = dimensions.Deferred 1; codimensions = codimensions.Absent; is_allocatable = true; initial = initials.Unstated }

-- five cells from the first on, of `integer :: u(2)` and of an array that isn't allocated
five_cells_of : Variable → Core
five_cells_of u = record (first_core (program (u ∷ []) [] 0 [] 1) 1 1) { values = pos 1 ∷ pos 5 ∷ pos 0 ∷ [] }

too_few_cells : variable_effect (a.load a.here 0 1) (five_cells_of (array int (pos 2))) ≡ language.faults shape_fault
unfolding five_cells_of
too_few_cells = refl

no_cells : variable_effect (a.load a.here 0 1) (five_cells_of allocatable) ≡ language.faults not_allocated
unfolding five_cells_of allocatable
no_cells = refl

-- The argument of a collective is allocated anew while another argument is evaluated: its values were read before, and
-- where they should go it has another shape. `integer, allocatable :: a(:)`, `allocate (a(5))`, `call co_sum(a, f())`,
-- `contains`, `integer function f()`, `deallocate (a)`, `allocate (a(2))`, `f = 1`, `end`, `end`; and without line 7.
upto : ℕ → s.AllocatedBounds
upto n = record { lower = t.missing; upper = num (pos n) }

frees : s.StatementForm
frees = s.deallocate (objects.Local (of_host 0) ∷ []) t.no_result

makes : s.StatementForm
makes = s.allocate (s.allocate_local (of_host 0) int (upto 2 ∷ []) ∷ []) t.no_result

function_of : List Dummy → List Variable → ℕ → List (ℕ × s.StatementForm) → s.Procedure
function_of ds vs answer ss = record { name = []; dummies = ds; answer = Some answer; unit = unit vs 0 ss }

-- `call co_sum(a, x)`
summed : ℕ → t.Expression → s.StatementForm
summed rank x = s.call_intrinsic (s.combine combinations.Sum (record { variable = target 0; kind = kinds.I4; rank = rank }) (t.given x) t.no_result) (record { dummies = 0 ∷ 1 ∷ 0 ∷ 0 ∷ 0 ∷ []; count = 2 })

f_of : t.Arguments → t.Expression
f_of es = t.typed (t.call 0 es) int 0

summing : s.Procedure → s.Program
summing f = record (program (allocatable ∷ []) [] 0 ((2, s.allocate (s.allocate_local (own 0) int (upto 5 ∷ []) ∷ []) t.no_result) ∷ (3, summed 1 (f_of t.no_arguments)) ∷ []) 10) { procedures = f ∷ [] }

gathers_five : Ask
gathers_five = asks.Gather (record { 0 = 1 }) gathers.Sum 1 kinds.I4 (ints (0 ∷ 0 ∷ 0 ∷ 0 ∷ 0 ∷ []))

allocated_anew : said (summing (function_of [] (scalar int ∷ []) 0 ((6, frees) ∷ (7, makes) ∷ (8, set 0 (num (pos 1))) ∷ []))) 100 1 1 (round 1 ∷ took (0 ∷ 0 ∷ 0 ∷ 0 ∷ 0 ∷ []) ∷ [])
    ≡ (gathers_five, 3) ∷ (asks.Take (record { 0 = 1 }) 1, 3) ∷ (faults faulty.Shape, 3) ∷ []
unfolding allocatable upto frees makes function_of summed f_of summing gathers_five
allocated_anew = refl

deallocated : said (summing (function_of [] (scalar int ∷ []) 0 ((6, frees) ∷ (8, set 0 (num (pos 1))) ∷ []))) 100 1 1 (round 1 ∷ took (0 ∷ 0 ∷ 0 ∷ 0 ∷ 0 ∷ []) ∷ [])
    ≡ (gathers_five, 3) ∷ (asks.Take (record { 0 = 1 }) 1, 3) ∷ (faults faulty.NotAllocated, 3) ∷ []
unfolding allocatable upto frees function_of summed f_of summing gathers_five
deallocated = refl

-- The event of an EVENT WAIT is allocated anew while its count is evaluated: the ask is for its cell as it is then, and
-- where there is none it is a fault. `type(event_type), allocatable :: e(:)[:]`, `allocate (e(3)[*])`,
-- `event wait (e(3), until_count=f())`, `contains`, `integer function f()`, `deallocate (e)`, `allocate (e(n)[*])`,
-- `f = 1`, `end`, `end`, with n = 3 and n = 1.
events : Variable
events = record { name = []; of_type = types.Event; dimensions = dimensions.Deferred 1; codimensions = codimensions.Deferred 1; is_allocatable = true; initial = initials.Unstated }

makes_events : ℕ → s.StatementForm
makes_events n = s.allocate (s.allocate_coarray 0 (upto n ∷ []) [] t.missing ∷ []) t.no_result

waiting : ℕ → s.Program
waiting n = record (program (events ∷ []) (0 ∷ []) 0
    ((2, makes_events 3) ∷ (3, s.event_wait (t.part (objects.Coarray 0) (t.more_subscripts (t.element (num (pos 3))) t.no_subscripts) t.no_selector) (t.given (f_of t.no_arguments)) t.no_result orders.Same) ∷ []) 10) {
      procedures = function_of [] (scalar int ∷ []) 0 ((6, s.deallocate (objects.Coarray 0 ∷ []) t.no_result) ∷ (7, makes_events n) ∷ (8, set 0 (num (pos 1))) ∷ []) ∷ [];
    }

-- what n events say that are allocated by round r on line l
made : (n r l : ℕ) → List (Ask × ℕ)
made n r l = (asks.Create (record { 0 = 1 }) 0 n, l) ∷ (arrives 1 (arrivals.Allocate (record { coarray = 0; dims = (pos 1, pos n) ∷ []; codims = []; last = pos 1 } ∷ [])), l) ∷ (leaves 1 r, l) ∷ []

freed : List (Ask × ℕ)
freed = (arrives 1 (arrivals.Deallocate (0 ∷ [])), 6) ∷ (leaves 1 2, 6) ∷ (asks.Delete (record { 0 = 1 }) 0, 6) ∷ []

all_made : List Reply
all_made = done ∷ round 1 ∷ left 0 ∷ round 2 ∷ left 0 ∷ done ∷ done ∷ round 3 ∷ left 0 ∷ []

event_anew : said (waiting 3) 100 1 1 all_made ≡ made 3 1 2 ++ (freed ++ (made 3 3 7 ++ (asks.Wait (record { 0 = 1 }) (at 0 2) 1, 3) ∷ []))
unfolding events upto makes_events function_of f_of waiting made freed all_made
event_anew = refl

event_gone : said (waiting 1) 100 1 1 all_made ≡ made 3 1 2 ++ (freed ++ (made 1 3 7 ++ (faults faulty.NotAllocated, 3) ∷ []))
unfolding events upto makes_events function_of f_of waiting made freed all_made
event_gone = refl

-- A scalar argument that the other one changes: `integer :: a = 1`, `call co_sum(a, f(a))`, `print *, a`, where f has
-- `x = 5`, `f = 1`, gathers and prints 1.
changed : s.Program
changed = record (program (var int [] codimensions.Absent (initials.All (values.Int (pos 1))) ∷ []) [] 0
    ((2, summed 0 (f_of (t.more_arguments (t.variable (target 0)) t.no_arguments))) ∷ (3, print (s.value (v 0) ∷ [])) ∷ []) 10) {
      procedures = function_of (record { variable = 0; is_copied_out = true } ∷ []) (scalar int ∷ scalar int ∷ []) 1 ((7, set 0 (num (pos 5))) ∷ (8, set 1 (num (pos 1))) ∷ []) ∷ [];
    }

read_as_written : said changed 100 1 1 (round 1 ∷ took (1 ∷ []) ∷ done ∷ [])
    ≡ (asks.Gather (record { 0 = 1 }) gathers.Sum 1 kinds.I4 (ints (1 ∷ [])), 2) ∷ (asks.Take (record { 0 = 1 }) 1, 2) ∷ (prints (codes "1"), 3) ∷ (stops, 10) ∷ []
unfolding changed function_of summed f_of digits
read_as_written = refl

-- A root that is no index of the team is a bad argument, and no value of the argument is left behind.
-- `integer :: u(2), s`, `call co_sum(u, 2, stat=s)`, `print *, u, s`
no_root : s.Program
no_root = program (array int (pos 2) ∷ scalar int ∷ []) [] 0
    ((
      2,
      s.call_intrinsic (s.combine combinations.Sum (record { variable = target 0; kind = kinds.I4; rank = 1 }) (t.given (num (pos 2))) (t.result (t.result_variable (own 1) t.no_expressions kinds.I4)))
          (record { dummies = 0 ∷ 1 ∷ 2 ∷ 0 ∷ 0 ∷ []; count = 3 }),
    )
    ∷ (3, print (s.value (t.typed (t.designator (target 0)) int 1) ∷ s.value (v 1) ∷ [])) ∷ []) 4

bad_root : said no_root 100 1 1 (done ∷ []) ≡ (prints (codes "0 0 6006"), 3) ∷ (stops, 4) ∷ []
unfolding no_root digits
bad_root = refl

nothing_left : values_there no_root 100 1 1 (done ∷ []) ≡ 0 ∷ []
unfolding no_root
nothing_left = refl

-- Overflow comes before NotAllocated: `integer, allocatable :: a(:)` with `a = 3000000000_8`, `a(1) = 3000000000_8`,
-- `a = [3000000000_8]`, `a(1) = 1_8`
wide : ℕ → t.Expression
wide n = t.typed (t.number (pos n)) (types.Intrinsic kinds.I8) 0

wide_row : t.Expression
wide_row = t.typed (t.array_constructor (one (wide 3000000000))) (types.Intrinsic kinds.I8) 1

assigning : Variable → t.Designator → ℕ → t.Expression → s.Program
assigning u d rank x = program (u ∷ []) [] 0 ((2, s.assign d int rank x) ∷ (3, print (s.value (t.typed (t.designator (target 0)) int 1) ∷ [])) ∷ []) 4

whole_too_great : said (assigning allocatable (target 0) 1 (wide 3000000000)) 100 1 1 [] ≡ (faults faulty.Overflow, 2) ∷ []
unfolding assigning allocatable wide
whole_too_great = refl

element_too_great : said (assigning allocatable (el 0 (num (pos 1))) 0 (wide 3000000000)) 100 1 1 [] ≡ (faults faulty.Overflow, 2) ∷ []
unfolding assigning allocatable wide
element_too_great = refl

row_too_great : said (assigning allocatable (target 0) 1 wide_row) 100 1 1 [] ≡ (faults faulty.Overflow, 2) ∷ []
unfolding assigning allocatable wide wide_row
row_too_great = refl

not_there : said (assigning allocatable (el 0 (num (pos 1))) 0 (wide 1)) 100 1 1 [] ≡ (faults faulty.NotAllocated, 2) ∷ []
unfolding assigning allocatable wide
not_there = refl

-- and behind Bounds, which are told with the subscripts: `integer :: u(2)` with `u(9) = 3000000000_8`,
-- `u(2) = 3000000000_8`, `u(2) = 7_8`
past_bounds : said (assigning (array int (pos 2)) (el 0 (num (pos 9))) 0 (wide 3000000000)) 100 1 1 [] ≡ (faults faulty.Bounds, 2) ∷ []
unfolding assigning wide
past_bounds = refl

within_bounds : said (assigning (array int (pos 2)) (el 0 (num (pos 2))) 0 (wide 3000000000)) 100 1 1 [] ≡ (faults faulty.Overflow, 2) ∷ []
unfolding assigning wide
within_bounds = refl

narrowed : said (assigning (array int (pos 2)) (el 0 (num (pos 2))) 0 (wide 7)) 100 1 1 (done ∷ []) ≡ (prints (codes "0 7"), 3) ∷ (stops, 4) ∷ []
unfolding assigning wide digits
narrowed = refl

-- What breaks in action statements (5.4.2), and the typed statements that they stand for.
use Rattle.std.specs.Prelude.{ℕ, zero, Bool, true, false, not, cond, nat_eq, bytes_eq, codes, length, List, [], ◌∷◌, ◌++◌, ◌+◌, ◌||◌, ◌&&◌, Option, Some, None, map}
use Rattle.caf_base.specs.declared.place.Pos.{Pos}
use Rattle.caf_base.specs.declared.value.Kind.{Kind}
use Rattle.fortran_tree.specs.Expressions as f
use Rattle.fortran_tree.specs.Statements as fs
use Rattle.fortran_tree.specs.declared.name.Name.{Name}
use Rattle.checked_tree.specs.Expressions as t
use Rattle.checked_tree.specs.Statements as ts
use Rattle.checked_tree.specs.declared.data.DataType.{DataType}
use Rattle.checked_tree.specs.declared.data.DataType.TheVariants.{Intrinsic, Lock}
use Rattle.checked_tree.specs.declared.data.Local.{Local}
use Rattle.checked_tree.specs.declared.data.Object.{Object}
use Rattle.checked_tree.specs.declared.data.Object.TheVariants as objects
use Rattle.checked_tree.specs.declared.statement.ListedImages.TheVariants.{Failed, Stopped}
use Rattle.checked_tree.specs.declared.format.Descriptor.{Descriptor}
use Rattle.rule_definitions.specs.declared.broken.Broken.{Broken}
use Rattle.rule_definitions.specs.Judgements.{breaks, unless, is_nothing, Judgement, fine, refused, refused_around, unknown, ruled, formed, under, made_of, made_of_both, made_of_three, then, said_of, all_made, or_else, is_there, item_at}
use Rattle.rule_definitions.specs.Names
use Rattle.rule_definitions.specs.Names.{Scope, Symbol, Meaning, Interface, denotes, is_procedure, symbol_of, intent_is_in, is_integer, is_team, is_event, is_lock, is_local}
use Rattle.rule_definitions.specs.Parts.{Placed, place_of, plain, is_listed, type_of, rank_of, condition, bound_or_code, integer, team, unlike_breaks, scalar_breaks}
use Rattle.rule_definitions.specs.Specifiers.{Written, all_breaks, stat_variable, acquired_variable, number_named, order_written}
use Rattle.rule_definitions.specs.Arguments.{Actual, arguments, breaks_in_all}
use Rattle.rule_definitions.specs.IntrinsicSubroutines.{intrinsic_call, an_event, an_own_event, is_coindexed_form, four}
use Rattle.rule_definitions.specs.IntrinsicFunctions.{is_allocatable_symbol}
use Rattle.rule_definitions.specs.Expressions.{judged_designator, judged_brackets, judged_selector, judged_arguments, judged_specifiers, placed}
use Rattle.rule_definitions.specs.Declarations.{is_like}
use Rattle.rule_definitions.specs.Formats.{descriptors, format_breaks}

-- a construct around a statement (11.1): a loop with its name and its variable, a SELECT, or one that no branch may
-- leave
pub data Around : Type 0 where
  loop : Option Name → Option Local → Around
  selection : Around
  critical : Around
  team_change : Around

-- where a statement stands: its scope, the constructs around it, outermost first, and how many literals stand before it
-- in the program
pub record Site : Type 0 where
  pub scope : Scope
  pub around : List Around
  pub literals : ℕ

-- Assignment (10.2.1)

abbrev pub place_of_designator : f.Designator → Pos
place_of_designator (f.part_ref n ss c) = n.at

abbrev pub is_selected : f.ImageSelector → Bool
is_selected f.no_image_selector = false
is_selected (f.image_selector es ps) = true

-- what breaks in brackets and in a selector
abbrev pub bracket_breaks : Scope → f.SectionSubscripts → f.ImageSelector → List Broken
bracket_breaks s ss c = breaks_in_all (judged_brackets s ss) ++ (judged_selector s c).judged.breaks

-- Rule 47: a procedure is no left side; rule 34: nor has it a selector
abbrev pub left_side : Scope → f.Designator → Judgement t.Expression
left_side s (f.part_ref n ss c) = cond (is_procedure (denotes s n.text))
    (refused_around (bracket_breaks s ss c) (cond (is_selected c) 34 47) n.at)
    (judged_designator s (f.part_ref n ss c))

abbrev pub is_loop_variable : Local → Around → Bool
is_loop_variable l (loop n (Some m)) = is_local l m
is_loop_variable l a = false

-- the variable of an enclosing loop (11.1.7.4.3)
abbrev pub is_active : Local → List Around → Bool
is_active l [] = false
is_active l (a ∷ rest) = is_loop_variable l a || is_active l rest

abbrev pub has_intent_in : Option Symbol → Bool
has_intent_in None = false
has_intent_in (Some x) = intent_is_in x.role

abbrev pub is_value_type : DataType → Bool
is_value_type y = not (is_event y || is_lock y)

abbrev pub is_definable_object : Site → Object → Bool
is_definable_object x (objects.Local l) = not (is_active l x.around) && not (has_intent_in (symbol_of x.scope (objects.Local l)))
is_definable_object x (objects.Coarray n) = true
is_definable_object x (objects.Constant n) = false

-- what may be assigned to: no constant, no IN dummy, no active DO variable, no lock, no event
abbrev pub is_definable : Site → t.Expression → Bool
is_definable x (t.typed (t.designator (t.part o ss c)) y r) = is_definable_object x o && is_value_type y
is_definable x e = false

abbrev pub is_listed_value : Option t.Expression → Bool
is_listed_value None = false
is_listed_value (Some v) = is_listed v

-- Rule 32 (10.2.1.2, 8.5.10, 11.1.7.4.3), at the statement; where a list of images is assigned rule 56 or 38 speaks
-- alone
abbrev pub definable_breaks : Site → Pos → Option t.Expression → t.Expression → List Broken
definable_breaks x p v e = unless (is_definable x e || is_listed_value v) 32 p

-- an array designator or a constructor
abbrev pub is_plain_array : t.Expression → Bool
is_plain_array (t.typed (t.designator d) y r) = true
is_plain_array (t.typed (t.array_constructor es) y r) = true
is_plain_array e = false

-- Rule 32 (10.2.1.2): unlike types, at the statement. Rule 37: an array for a scalar; rule 38: of another rank, or that
-- is computed; at the value
abbrev pub kindred_breaks : Pos → Pos → t.Expression → t.Expression → List Broken
kindred_breaks p q x v = cond (is_like (type_of x) (type_of v))
    (cond (nat_eq (rank_of v) 0) [] (cond (nat_eq (rank_of x) 0) (breaks 37 q) (unless (nat_eq (rank_of v) (rank_of x) && is_plain_array v) 38 q)))
    (breaks 32 p)

-- a whole local allocatable integer array of rank one
abbrev pub is_list_target : Site → t.Expression → Bool
is_list_target x (t.typed (t.designator (t.part (objects.Local l) t.no_subscripts t.no_selector)) y r) = is_integer y && (nat_eq r 1 && is_allocatable_symbol (symbol_of x.scope (objects.Local l)))
is_list_target x e = false

abbrev pub is_whole : t.Expression → Bool
is_whole (t.typed (t.designator (t.part o t.no_subscripts t.no_selector)) y r) = true
is_whole e = false

-- Rule 56: a list of images is given to such an array; rule 38 for a whole array of rank 2 or 3
abbrev pub list_breaks : Site → Pos → t.Expression → List Broken
list_breaks s q x = unless (is_list_target s x) (cond (is_whole x && not (nat_eq (rank_of x) 0 || nat_eq (rank_of x) 1)) 38 56) q

abbrev pub assigned_breaks : Site → Pos → Pos → t.Expression → t.Expression → List Broken
assigned_breaks s p q x v = cond (is_listed v) (list_breaks s q x) (kindred_breaks p q x v)

abbrev pub images_assigned : Local → Kind → t.Form → Option ts.StatementForm
images_assigned l k (t.intrinsic (t.failed_images m)) = Some (ts.assign_images l k Failed m)
images_assigned l k (t.intrinsic (t.stopped_images m)) = Some (ts.assign_images l k Stopped m)
images_assigned l k x = None

abbrev pub listed_assignment : t.Expression → t.Expression → Option ts.StatementForm
listed_assignment (t.typed (t.designator (t.part (objects.Local l) ss c)) (Intrinsic k) r) (t.typed v y q) = images_assigned l k v
listed_assignment x v = None

abbrev pub plain_assignment : t.Expression → t.Expression → Option ts.StatementForm
plain_assignment (t.typed (t.designator d) y r) v = Some (ts.assign d y r v)
plain_assignment x v = None

abbrev pub form_judged : Option ts.StatementForm → Judgement ts.StatementForm
form_judged None = unknown
form_judged (Some x) = fine x

abbrev pub assignment_of : t.Expression → t.Expression → Judgement ts.StatementForm
assignment_of x v = form_judged (cond (is_listed v) (listed_assignment x v) (plain_assignment x v))

abbrev pub assigned : Site → Pos → Pos → t.Expression → t.Expression → Judgement ts.StatementForm
assigned s p q x v = ruled (assignment_of x v) (assigned_breaks s p q x v)

-- nothing is said of what the left side is after a break in the value
abbrev pub target_breaks : Site → Pos → Placed → Option t.Expression → List Broken
target_breaks s p v x = cond (is_nothing v.judged.breaks) (said_of (definable_breaks s p v.judged.meaning) x) []

abbrev pub assignment : Site → Judgement t.Expression → Pos → Placed → Judgement ts.StatementForm
assignment s x p v = ruled (then {A = t.Expression × t.Expression} (made_of_both (λ a b. (a, b)) x v.judged) (λ m. assigned s p v.at m.0 m.1)) (target_breaks s p v x.meaning)

-- Calls (15.5.1)

abbrev pub called_with : Option Interface → Scope → ℕ → List Actual → Pos → Judgement ts.StatementForm
called_with None s n as' p = unknown
called_with (Some i) s n as' p = made_of (ts.call n) (arguments s i.dummies as' p)

-- Rule 20; rule 47: CALL of what is no subroutine
abbrev pub called : Scope → Option Meaning → List Actual → Pos → Judgement ts.StatementForm
called s None as' p = refused 20 p
called s (Some (Names.subroutine n)) as' p = called_with (item_at s.interfaces n) s n as' p
called s (Some (Names.intrinsic_subroutine n)) as' p = intrinsic_call n as' p
called s (Some m) as' p = refused_around (breaks_in_all as') 47 p

abbrev pub actuals_of : Scope → Option f.Arguments → List Actual
actuals_of s None = []
actuals_of s (Some as') = judged_arguments s as'

-- Output (12.6)

-- Rule 58 (12.6.3): an item of a type that isn't printed
abbrev pub item_breaks : Pos → t.Expression → List Broken
item_breaks p x = unless (not (is_event (type_of x) || (is_lock (type_of x) || is_team (type_of x)))) 58 p

abbrev pub printed : Placed → Judgement ts.Item
printed e = made_of ts.value (under (plain e) (item_breaks e.at))

-- the items, of which the first literal has this number
abbrev pub printed_all : Scope → ℕ → List fs.Item → Judgement (List ts.Item)
printed_all s n [] = fine []
printed_all s n (fs.quoted l ∷ rest) = made_of_both (λ x xs. x ∷ xs) (fine (ts.literal n)) (printed_all s (n + 1) rest)
printed_all s n (fs.value e ∷ rest) = made_of_both (λ x xs. x ∷ xs) (printed (placed s e)) (printed_all s n rest)

abbrev pub has_values : List fs.Item → Bool
has_values [] = false
has_values (x ∷ rest) = true

abbrev pub format_of : ℕ → Option (List Descriptor) → Judgement ts.Format
format_of n None = unknown
format_of n (Some ds) = fine (ts.written n ds)

abbrev pub format_judged : ℕ → fs.Format → List fs.Item → Judgement ts.Format
format_judged n fs.free is = fine ts.free
format_judged n (fs.written l) is = ruled (format_of n (descriptors l.text)) (format_breaks (descriptors l.text) (has_values is) l.at)

abbrev pub literals_of_format : fs.Format → ℕ
literals_of_format fs.free = 0
literals_of_format (fs.written l) = 1

abbrev pub print_judged : Site → fs.Format → List fs.Item → Judgement ts.StatementForm
print_judged x o is = made_of_both ts.print (format_judged x.literals o is) (printed_all x.scope (x.literals + literals_of_format o) is)

-- Branches (11.1.12, 11.1.7.4.4)

abbrev pub is_called : Name → Option Name → Bool
is_called n None = false
is_called n (Some m) = bytes_eq m.text n.text

-- the loop that EXIT or CYCLE means: of this name, else any
abbrev pub is_meant : Option Name → Around → Bool
is_meant None (loop m v) = true
is_meant (Some n) (loop m v) = is_called n m
is_meant n a = false

abbrev pub is_loop : Around → Bool
is_loop (loop n v) = true
is_loop a = false

abbrev pub is_boundary : Around → Bool
is_boundary critical = true
is_boundary team_change = true
is_boundary a = false

abbrev pub loops_in : List Around → ℕ
loops_in [] = 0
loops_in (a ∷ rest) = cond (is_loop a) (loops_in rest + 1) (loops_in rest)

abbrev pub has_boundary : List Around → Bool
has_boundary [] = false
has_boundary (a ∷ rest) = is_boundary a || has_boundary rest

abbrev pub is_in_critical : List Around → Bool
is_in_critical [] = false
is_in_critical (critical ∷ rest) = true
is_in_critical (a ∷ rest) = is_in_critical rest

-- how many loops out the innermost loop is that is meant
abbrev pub depth_of : Option Name → List Around → Option ℕ
depth_of n [] = None
depth_of n (a ∷ inner) = or_else (depth_of n inner) (cond (is_meant n a) (Some (loops_in inner)) None)

-- a construct that no branch may leave stands between
abbrev pub crosses : Option Name → List Around → Bool
crosses n [] = false
crosses n (a ∷ inner) = cond (is_there (depth_of n inner)) (crosses n inner) (is_meant n a && has_boundary inner)

abbrev pub place_of_name : Option Name → Pos → Pos
place_of_name None p = p
place_of_name (Some n) p = n.at

-- Rule 41 (11.1.7.4.4, 11.1.12): outside of a DO, at the statement; of no enclosing one of that name, at the name
abbrev pub absent_place : Option Name → List Around → Pos → Pos
absent_place n around p = cond (nat_eq (loops_in around) 0) p (place_of_name n p)

-- Rule 42 (11.1.5, 11.1.6): a branch out of a CRITICAL or CHANGE TEAM construct
abbrev pub leaving : (ℕ → ts.StatementForm) → Option Name → List Around → Pos → Judgement ts.StatementForm
leaving make n around p = elim (depth_of n around) [ None ↦ refused 41 (absent_place n around p) | Some k ↦ ruled (fine (make k)) (unless (not (crosses n around)) 42 p) ]

abbrev pub returning : List Around → Pos → Judgement ts.StatementForm
returning around p = ruled (fine ts.return) (unless (not (has_boundary around)) 42 p)

-- Rule 43 (11.1.6): an image control statement or RETURN in a CRITICAL block
abbrev pub control_breaks : Site → Pos → List Broken
control_breaks x p = unless (not (is_in_critical x.around)) 43 p

abbrev pub controlled : Site → Pos → Judgement ts.StatementForm → Judgement ts.StatementForm
controlled x p j = ruled j (control_breaks x p)

abbrev pub maybe : (Placed → Judgement t.Expression) → Scope → Option f.Expression → Judgement t.OptionalExpression
maybe rule s None = fine t.missing
maybe rule s (Some e) = made_of t.given (rule (placed s e))

-- ALLOCATE and DEALLOCATE (9.7)

-- Rule 39: a bound in ALLOCATE is a scalar integer
abbrev pub allocated_bounds : Scope → fs.Bounds → Judgement ts.AllocatedBounds
allocated_bounds s b = made_of_both (λ l u. record { lower = l; upper = u }) (maybe (integer 39) s b.lower) (integer 39 (placed s b.upper))

abbrev pub bounds_or_none : Scope → fs.Dimension → Judgement ts.AllocatedBounds
bounds_or_none s (fs.explicit b) = allocated_bounds s b
bounds_or_none s (fs.deferred p) = unknown

abbrev pub is_colon : fs.Dimension → Bool
is_colon (fs.deferred p) = true
is_colon (fs.explicit b) = false

abbrev pub has_colon : List fs.Dimension → Bool
has_colon [] = false
has_colon (x ∷ xs) = is_colon x || has_colon xs

-- the cobounds before the last, and the lower one of the last
pub record AllocatedCobounds : Type 0 where
  pub first : List ts.AllocatedBounds
  pub last : t.OptionalExpression

abbrev pub no_cobounds : AllocatedCobounds
no_cobounds = record { first = []; last = t.missing }

abbrev pub allocated_cobounds : Scope → Option fs.CoarraySpec → Judgement AllocatedCobounds
allocated_cobounds s None = fine no_cobounds
allocated_cobounds s (Some (fs.deferred_coshape n)) = fine no_cobounds
allocated_cobounds s (Some (fs.explicit_coshape bs l)) = made_of_both (λ xs x. record { first = xs; last = x }) (all_made (map (allocated_bounds s) bs)) (maybe (integer 39) s l)

-- Rule 55 (9.7.1.1): an array without bounds; rule 33: another number of bounds
abbrev pub shape_breaks : ℕ → List fs.Dimension → Pos → List Broken
shape_breaks zero [] p = []
shape_breaks zero (x ∷ xs) p = breaks (cond (has_colon (x ∷ xs)) 55 33) p
shape_breaks r [] p = breaks 55 p
shape_breaks r (x ∷ xs) p = cond (has_colon (x ∷ xs)) (breaks 55 p) (unless (nat_eq (length (x ∷ xs)) r) 33 p)

-- Rule 55 (9.7.1.1): a coarray without cobounds; rule 34: cobounds of what is no coarray; rule 33: another number of
-- them
abbrev pub cobounds_breaks : ℕ → Option fs.CoarraySpec → Pos → List Broken
cobounds_breaks zero None p = []
cobounds_breaks zero (Some c) p = breaks 34 p
cobounds_breaks r None p = breaks 55 p
cobounds_breaks r (Some (fs.deferred_coshape n)) p = breaks 55 p
cobounds_breaks r (Some (fs.explicit_coshape bs l)) p = unless (nat_eq (length bs + 1) r) 33 p

abbrev pub local_allocation : Local → Option DataType → List ts.AllocatedBounds → Judgement ts.Allocation
local_allocation l None bs = unknown
local_allocation l (Some y) bs = fine (ts.allocate_local l y bs)

abbrev pub allocation_of : Symbol → List ts.AllocatedBounds → AllocatedCobounds → Judgement ts.Allocation
allocation_of x bs c = elim x.object [ objects.Local l ↦ local_allocation l x.of_type bs | objects.Coarray n ↦ fine (ts.allocate_coarray n bs c.first c.last) | objects.Constant n ↦ unknown ]

-- Rule 20: a name that stands for nothing
abbrev pub variable_denoted : Option Meaning → Pos → Judgement Symbol
variable_denoted None p = refused 20 p
variable_denoted (Some (Names.variable x)) p = fine x
variable_denoted (Some m) p = unknown

-- Rule 55 (9.7.1.1, 9.7.3.1): what isn't allocatable
abbrev pub allocatable_breaks : Option Meaning → Pos → List Broken
allocatable_breaks None p = []
allocatable_breaks (Some (Names.variable x)) p = unless x.is_allocatable 55 p
allocatable_breaks (Some m) p = breaks 55 p

abbrev pub allocatable : Option Meaning → Pos → Judgement Symbol
allocatable m p = ruled (variable_denoted m p) (allocatable_breaks m p)

-- the bounds and the cobounds of an object of ALLOCATE
pub record AllocatedShape : Type 0 where
  pub bounds : List ts.AllocatedBounds
  pub cobounds : AllocatedCobounds

abbrev pub shape_judged : Scope → fs.Allocation → Judgement AllocatedShape
shape_judged s o = made_of_both (λ bs c. record { bounds = bs; cobounds = c }) (all_made (map (bounds_or_none s) o.bounds)) (allocated_cobounds s o.cobounds)

-- the rules on an object of ALLOCATE as a whole, told at its name
abbrev pub shape_rules : Option Meaning → fs.Allocation → List Broken
shape_rules (Some (Names.variable x)) o = shape_breaks (length x.bounds) o.bounds o.name.at ++ cobounds_breaks x.corank o.cobounds o.name.at
shape_rules m o = []

abbrev pub allocation_judged : Scope → fs.Allocation → Judgement ts.Allocation
allocation_judged s o = then
    (made_of_both (λ x c. allocation_of x c.bounds c.cobounds) (variable_denoted (denotes s o.name.text) o.name.at) (formed (shape_judged s o) (allocatable_breaks (denotes s o.name.text) o.name.at ++ shape_rules (denotes s o.name.text) o)))
    (λ j. j)

abbrev pub deallocated : Scope → Name → Judgement Object
deallocated s n = made_of (λ x. x.object) (allocatable (denotes s n.text) n.at)

abbrev pub is_coarray : Option Meaning → Bool
is_coarray (Some (Names.variable x)) = not (nat_eq x.corank 0)
is_coarray m = false

abbrev pub any_coarray : Scope → List Name → Bool
any_coarray s [] = false
any_coarray s (n ∷ ns) = is_coarray (denotes s n.text) || any_coarray s ns

-- ALLOCATE and DEALLOCATE of coarrays are image control statements (11.6.1)
abbrev pub controlled_if : Bool → Site → Pos → Judgement ts.StatementForm → Judgement ts.StatementForm
controlled_if b x p j = cond b (controlled x p j) j

-- Specifiers of a statement

abbrev pub stat_name : List (List ℕ)
stat_name = codes "stat" ∷ []

-- STAT= alone
abbrev pub with_stat : List Written → Judgement t.OptionalResult
with_stat ws = ruled (stat_variable ws) (all_breaks stat_name ws)

abbrev pub written_if : Scope → Option f.Specifiers → List Written
written_if s None = []
written_if s (Some ps) = judged_specifiers s ps

-- Image control statements (11.6)

-- Rule 52 (11.6.4): a set that is neither a scalar integer nor an integer array of rank one without a selector; rule 51
-- for a team
abbrev pub is_image_set : t.Expression → Bool
is_image_set x = is_integer (type_of x) && (nat_eq (rank_of x) 0 || (nat_eq (rank_of x) 1 && not (is_coindexed_form x)))

abbrev pub image_set_breaks : Pos → t.Expression → List Broken
image_set_breaks p x = cond (is_image_set x) [] (unlike_breaks 52 (type_of x) p)

abbrev pub image_set : Scope → fs.ImageSet → Judgement ts.ImageSet
image_set s fs.all_images = fine ts.all_images
image_set s (fs.images e) = made_of ts.images (under (plain (placed s e)) (image_set_breaks (place_of e)))

-- Rule 51 (11.6.9): FORM TEAM sets a variable of TEAM_TYPE; rule 37: no array
abbrev pub team_variable_breaks : Symbol → DataType → Pos → List Broken
team_variable_breaks x y p = unless (is_team y) 51 p ++ scalar_breaks (length x.bounds) p

abbrev pub team_local : Symbol → Pos → Judgement Local
team_local x p = elim x.of_type [ None ↦ unknown | Some y ↦ ruled (elim x.object [ objects.Local l ↦ fine l | o ↦ unknown ]) (team_variable_breaks x y p) ]

abbrev pub team_variable : Option Meaning → Pos → Judgement Local
team_variable None p = refused 20 p
team_variable (Some (Names.variable x)) p = team_local x p
team_variable (Some m) p = refused 51 p

abbrev pub form_team : Scope → f.Expression → Name → List Written → Judgement ts.StatementForm
form_team s e n ws = ruled
    (four (λ a l i r. ts.form_team a l i r (order_written (codes "new_index") (codes "stat") ws)) (integer 39 (placed s e)) (team_variable (denotes s n.text) n.at) (number_named (codes "new_index") ws) (stat_variable ws))
    (all_breaks (codes "new_index" ∷ stat_name) ws)

-- Rule 48 (11.6.10): LOCK and UNLOCK of what is no scalar of LOCK_TYPE
abbrev pub lock_of : t.Expression → Option t.Designator
lock_of (t.typed (t.designator d) Lock zero) = Some d
lock_of x = None

abbrev pub found_lock : Option t.Designator → Pos → Judgement t.Designator
found_lock None p = refused 48 p
found_lock (Some d) p = fine d

abbrev pub a_lock : Placed → Judgement t.Designator
a_lock e = then (plain e) (λ x. found_lock (lock_of x) e.at)

abbrev pub placed_designator : Scope → f.Designator → Placed
placed_designator s d = placed s (f.designator d)

abbrev pub lock_judged : Scope → f.Designator → List Written → Judgement ts.StatementForm
lock_judged s d ws = ruled
    (made_of_three (λ l a r. ts.lock l a r (order_written (codes "acquired_lock") (codes "stat") ws)) (a_lock (placed_designator s d)) (acquired_variable ws) (stat_variable ws))
    (all_breaks (codes "acquired_lock" ∷ stat_name) ws)

abbrev pub wait_judged : Scope → f.Designator → List Written → Judgement ts.StatementForm
wait_judged s d ws = ruled
    (made_of_three (λ v n r. ts.event_wait v n r (order_written (codes "until_count") (codes "stat") ws)) (an_own_event (placed_designator s d)) (number_named (codes "until_count") ws) (stat_variable ws))
    (all_breaks (codes "until_count" ∷ stat_name) ws)

-- one statement alone as a block, on this line
abbrev pub alone : ts.StatementForm → ℕ → ts.Statements
alone x l = ts.more_statements (ts.on_line x l) ts.no_statements

-- an action statement, at this place
abbrev pub judged_action : Site → fs.ActionStatement → Pos → Judgement ts.StatementForm
judged_action x (fs.assignment d e) p = assignment x (left_side x.scope d) p (placed x.scope e)
judged_action x (fs.call n as') p = called x.scope (denotes x.scope n.text) (actuals_of x.scope as') n.at
judged_action x (fs.print o is) p = print_judged x o is
judged_action x (fs.exit n) p = leaving ts.exit n x.around p
judged_action x (fs.cycle n) p = leaving ts.cycle n x.around p
judged_action x fs.return p = controlled x p (returning x.around p)
judged_action x (fs.stop e) p = controlled x p (made_of ts.stop (maybe bound_or_code x.scope e))
judged_action x (fs.error_stop e) p = made_of ts.error_stop (maybe bound_or_code x.scope e)
judged_action x fs.fail_image p = fine ts.fail_image
judged_action x (fs.allocate os ps) p = controlled_if (any_coarray x.scope (map (λ o. o.name) os)) x p (made_of_both ts.allocate (all_made (map (allocation_judged x.scope) os)) (with_stat (judged_specifiers x.scope ps)))
judged_action x (fs.deallocate ns ps) p = controlled_if (any_coarray x.scope ns) x p (made_of_both ts.deallocate (all_made (map (deallocated x.scope) ns)) (with_stat (judged_specifiers x.scope ps)))
judged_action x (fs.sync_all ps) p = controlled x p (made_of ts.sync_all (with_stat (written_if x.scope ps)))
judged_action x (fs.sync_memory ps) p = controlled x p (made_of ts.sync_memory (with_stat (written_if x.scope ps)))
judged_action x (fs.sync_images i ps) p = controlled x p (made_of_both ts.sync_images (image_set x.scope i) (with_stat (judged_specifiers x.scope ps)))
judged_action x (fs.sync_team e ps) p = controlled x p (made_of_both ts.sync_team (team (placed x.scope e)) (with_stat (judged_specifiers x.scope ps)))
judged_action x (fs.form_team e n ps) p = controlled x p (form_team x.scope e n (judged_specifiers x.scope ps))
judged_action x (fs.lock d ps) p = controlled x p (lock_judged x.scope d (judged_specifiers x.scope ps))
judged_action x (fs.unlock d ps) p = controlled x p (made_of_both ts.unlock (a_lock (placed_designator x.scope d)) (with_stat (judged_specifiers x.scope ps)))
judged_action x (fs.event_post d ps) p = controlled x p (made_of_both ts.event_post (an_event (placed_designator x.scope d)) (with_stat (judged_specifiers x.scope ps)))
judged_action x (fs.event_wait d ps) p = controlled x p (wait_judged x.scope d (judged_specifiers x.scope ps))
judged_action x (fs.if_statement e a q) p = made_of_both (λ c b. ts.if c (alone b q.line) ts.no_else_ifs ts.no_statements) (condition (placed x.scope e)) (judged_action x a q)

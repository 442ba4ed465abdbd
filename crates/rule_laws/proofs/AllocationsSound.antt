-- Allocations are judged soundly in a known scope.
use Rattle.std.proofs.Common.{◌≡◌, ◌∙◌, ℕ, zero, suc, ◌+◌, Bool, true, false, List, [], ◌∷◌, ◌++◌, refl, sym, subst}
use Rattle.std.specs.Prelude.{cond, nat_eq, ◌&&◌, Option, Some, None, length, map}
use Rattle.caf_base.specs.declared.place.Pos.{Pos}
use Rattle.fortran_tree.specs.Expressions as f
use Rattle.fortran_tree.specs.Statements as fs
use Rattle.fortran_tree.specs.declared.name.Name.{Name}
use Rattle.checked_tree.specs.Expressions as t
use Rattle.checked_tree.specs.Statements as ts
use Rattle.checked_tree.specs.declared.data.DataType.{DataType}
use Rattle.checked_tree.specs.declared.data.Local.{Local}
use Rattle.checked_tree.specs.declared.data.Object.{Object}
use Rattle.checked_tree.specs.declared.data.Object.TheVariants as objects
use Rattle.rule_definitions.specs.declared.broken.Broken.{Broken}
use Rattle.rule_definitions.specs.Judgements.{breaks, unless, is_nothing, Judgement, fine, unknown, formed, both, made_of_both, all_made, is_there, then}
use Rattle.rule_definitions.specs.Names
use Rattle.rule_definitions.specs.Names.{Scope, Symbol, Meaning, Interface, denotes, is_procedure, is_integer, is_team, is_event, is_lock, symbol_of}
use Rattle.rule_definitions.specs.Parts.{integer}
use Rattle.rule_definitions.specs.Expressions.{placed}
use Rattle.rule_definitions.specs.Actions.{maybe, AllocatedCobounds, no_cobounds, allocated_bounds, bounds_or_none, is_colon, has_colon, allocated_cobounds, shape_breaks, cobounds_breaks, local_allocation, allocation_of, variable_denoted, allocatable_breaks, AllocatedShape, shape_judged, shape_rules, allocation_judged, deallocated}
use Rattle.rule_laws.proofs.Sound.{is_numbered, AreNumbered, IsSound, none_numbered, breaks_numbered, cond_numbered, unless_numbered, both_numbered, left_nothing, right_nothing, cons_nil, breaks_some, fine_sound, refused_sound, unknown_sound, weaker, ruled_sound, formed_sound, made_sound, made_of_both_sound, made_of_both_given, made_of_both_after, then_sound, some_same, none_some}
use Rattle.rule_laws.proofs.Known.{is_placed, is_known_symbol, AreKnown, and_left, and_right, no}
use Rattle.rule_laws.proofs.Calls.{or_left, or_right}
use Rattle.rule_laws.proofs.PartsSound.{integer_sound}
use Rattle.rule_laws.proofs.AssignmentsSound.{IsSettled, settled_sound}

pub maybe_integer : (s : Scope) (o : Option f.Expression) → IsSound (IsSettled s) (maybe (integer 39) s o)
maybe_integer s None = fine_sound t.missing
maybe_integer s (Some e) = made_sound t.given (integer_sound 39 refl (placed s e) (settled_sound s e))

bounds_sound : (s : Scope) (b : fs.Bounds) → IsSound (IsSettled s) (allocated_bounds s b)
bounds_sound s b = made_of_both_sound (λ l u. record { lower = l; upper = u }) (maybe_integer s b.lower) (integer_sound 39 refl (placed s b.upper) (settled_sound s b.upper))

all_bounds_sound : (s : Scope) (bs : List fs.Bounds) → IsSound (IsSettled s) (all_made (map (allocated_bounds s) bs))
all_bounds_sound s [] = fine_sound []
all_bounds_sound s (b ∷ bs) = made_of_both_sound (λ x xs. x ∷ xs) (bounds_sound s b) (all_bounds_sound s bs)

dimension_sound : (s : Scope) (d : fs.Dimension) → IsSound (IsSettled s × (is_colon d ≡ false)) (bounds_or_none s d)
dimension_sound s (fs.explicit b) = weaker (λ h. h.0) (bounds_sound s b)
dimension_sound s (fs.deferred p) = unknown_sound (λ h. no (sym (h.1)))

dimensions_sound : (s : Scope) (ds : List fs.Dimension) → IsSound (IsSettled s × (has_colon ds ≡ false)) (all_made (map (bounds_or_none s) ds))
dimensions_sound s [] = fine_sound []
dimensions_sound s (d ∷ ds) = made_of_both_sound (λ x xs. x ∷ xs) (weaker (λ h. (h.0, or_left (is_colon d) (has_colon ds) (h.1))) (dimension_sound s d)) (weaker (λ h. (h.0, or_right (is_colon d) (has_colon ds) (h.1))) (dimensions_sound s ds))

cobounds_sound : (s : Scope) (c : Option fs.CoarraySpec) → IsSound (IsSettled s) (allocated_cobounds s c)
cobounds_sound s None = fine_sound no_cobounds
cobounds_sound s (Some (fs.deferred_coshape n)) = fine_sound no_cobounds
cobounds_sound s (Some (fs.explicit_coshape bs l)) = made_of_both_sound (λ xs x. record { first = xs; last = x }) (all_bounds_sound s bs) (maybe_integer s l)

shape_sound : (s : Scope) (o : fs.Allocation) → IsSound (IsSettled s × (has_colon o.bounds ≡ false)) (shape_judged s o)
shape_sound s o = made_of_both_sound (λ bs c. record { bounds = bs; cobounds = c }) (dimensions_sound s o.bounds) (weaker (λ h. h.0) (cobounds_sound s o.cobounds))

number_colon : (b : Bool) → is_numbered (cond b 55 33) ≡ true
number_colon true = refl
number_colon false = refl

shape_numbered : (r : ℕ) (ds : List fs.Dimension) (p : Pos) → AreNumbered (shape_breaks r ds p)
shape_numbered zero [] p = none_numbered
shape_numbered zero (x ∷ xs) p = breaks_numbered (cond (has_colon (x ∷ xs)) 55 33) p (number_colon (has_colon (x ∷ xs)))
shape_numbered (suc r) [] p = breaks_numbered 55 p refl
shape_numbered (suc r) (x ∷ xs) p = cond_numbered (has_colon (x ∷ xs)) (breaks_numbered 55 p refl) (unless_numbered (nat_eq (length (x ∷ xs)) (suc r)) 33 p refl)

cobounds_numbered : (r : ℕ) (c : Option fs.CoarraySpec) (p : Pos) → AreNumbered (cobounds_breaks r c p)
cobounds_numbered zero None p = none_numbered
cobounds_numbered zero (Some c) p = breaks_numbered 34 p refl
cobounds_numbered (suc r) None p = breaks_numbered 55 p refl
cobounds_numbered (suc r) (Some (fs.deferred_coshape n)) p = breaks_numbered 55 p refl
cobounds_numbered (suc r) (Some (fs.explicit_coshape bs l)) p = unless_numbered (nat_eq (length bs + 1) (suc r)) 33 p refl

cond_colon : (b : Bool) (p : Pos) (bs : List Broken) → cond b (breaks 55 p) bs ≡ [] → b ≡ false
cond_colon true p bs e = absurd (breaks_some 55 p e)
cond_colon false p bs e = refl

no_colon : (r : ℕ) (ds : List fs.Dimension) (p : Pos) → shape_breaks r ds p ≡ [] → has_colon ds ≡ false
no_colon zero [] p e = refl
no_colon zero (x ∷ xs) p e = absurd (breaks_some (cond (has_colon (x ∷ xs)) 55 33) p e)
no_colon (suc r) [] p e = refl
no_colon (suc r) (x ∷ xs) p e = cond_colon (has_colon (x ∷ xs)) p (unless (nat_eq (length (x ∷ xs)) (suc r)) 33 p) e

local_sound : {H : Type 0} (l : Local) (o : Option DataType) (bs : List ts.AllocatedBounds) → (H → is_there o ≡ true) → IsSound H (local_allocation l o bs)
local_sound l None bs h = unknown_sound (λ k. no (h k))
local_sound l (Some y) bs h = fine_sound (ts.allocate_local l y bs)

object_sound : {H : Type 0} (o : Object) (y : Option DataType) (bs : List ts.AllocatedBounds) (c : AllocatedCobounds) → (H → is_there y && is_placed y o ≡ true)
    → IsSound H (elim o [ objects.Local l ↦ local_allocation l y bs | objects.Coarray n ↦ fine (ts.allocate_coarray n bs c.first c.last) | objects.Constant n ↦ unknown {T = ts.Allocation} ])
object_sound (objects.Local l) y bs c h = local_sound l y bs (λ k. and_left (is_there y) true (h k))
object_sound (objects.Coarray n) y bs c h = fine_sound (ts.allocate_coarray n bs c.first c.last)
object_sound (objects.Constant n) y bs c h = unknown_sound (λ k. no (and_right (is_there y) false (h k)))

both_pick : {A B C : Type 0} (P : C → Type 0) (f : A → B → C) (x : A) (o : Option B) (j : C) → both f (Some x) o ≡ Some j → ((y : B) → P (f x y)) → P j
both_pick P f x None j e h = none_some j e
both_pick P f x (Some y) j e h = subst P (some_same (f x y) j e) (h y)

allocatable_numbered : (m : Option Meaning) (p : Pos) → AreNumbered (allocatable_breaks m p)
allocatable_numbered None p = none_numbered
allocatable_numbered (Some (Names.variable x)) p = unless_numbered x.is_allocatable 55 p refl
allocatable_numbered (Some m) p = breaks_numbered 55 p refl

rules_numbered : (m : Option Meaning) (o : fs.Allocation) → AreNumbered (shape_rules m o)
rules_numbered None o = none_numbered
rules_numbered (Some (Names.variable x)) o = both_numbered (shape_numbered (length x.bounds) o.bounds o.name.at) (cobounds_numbered x.corank o.cobounds o.name.at)
rules_numbered (Some m) o = none_numbered

abbrev joined : Symbol → AllocatedShape → Judgement ts.Allocation
joined x c = allocation_of x c.bounds c.cobounds

abbrev denoted_allocation : Scope → Option Meaning → fs.Allocation → Judgement (Judgement ts.Allocation)
denoted_allocation s m o = made_of_both joined (variable_denoted m o.name.at) (formed (shape_judged s o) (allocatable_breaks m o.name.at ++ shape_rules m o))

abbrev part_of : Scope → Option Meaning → fs.Allocation → Judgement AllocatedShape
part_of s m o = formed (shape_judged s o) (allocatable_breaks m o.name.at ++ shape_rules m o)

part_sound : (s : Scope) (m : Option Meaning) (o : fs.Allocation) → (allocatable_breaks m o.name.at ++ shape_rules m o ≡ [] → has_colon o.bounds ≡ false) → IsSound (IsSettled s) (part_of s m o)
part_sound s m o h = formed_sound (allocatable_breaks m o.name.at ++ shape_rules m o) (weaker (λ z. (z.0, h (z.1))) (shape_sound s o)) (both_numbered (allocatable_numbered m o.name.at) (rules_numbered m o))

colon_free : (x : Symbol) (o : fs.Allocation) → allocatable_breaks (Some (Names.variable x)) o.name.at ++ shape_rules (Some (Names.variable x)) o ≡ [] → has_colon o.bounds ≡ false
colon_free x o e =
    let xs = shape_breaks (length x.bounds) o.bounds o.name.at in
    let ys = cobounds_breaks x.corank o.cobounds o.name.at in
    no_colon (length x.bounds) o.bounds o.name.at (left_nothing xs ys (right_nothing (unless x.is_allocatable 55 o.name.at) (xs ++ ys) e))

variable_allocation : (H : Type 0) (s : Scope) (x : Symbol) (o : fs.Allocation) → (H → IsSettled s) → (H → is_known_symbol x ≡ true) → IsSound H (then (denoted_allocation s (Some (Names.variable x)) o) (λ j. j))
variable_allocation H s x o f g = then_sound (λ j. j) (made_of_both_sound joined (fine_sound x) (weaker f (part_sound s (Some (Names.variable x)) o (colon_free x o))))
    (λ j e. both_pick (IsSound (H × ((denoted_allocation s (Some (Names.variable x)) o).breaks ≡ []))) joined x ((part_of s (Some (Names.variable x)) o).meaning) j e (λ c. object_sound x.object x.of_type c.bounds c.cobounds (λ z. g (z.0))))

-- a name that is no variable breaks a rule
other_part : (H : Type 0) (s : Scope) (m : Option Meaning) (o : fs.Allocation) (r : ℕ) → breaks r o.name.at ++ [] ≡ allocatable_breaks m o.name.at ++ shape_rules m o → IsSound H (part_of s m o)
other_part H s m o r e = formed_sound (allocatable_breaks m o.name.at ++ shape_rules m o) (weaker (λ z. absurd (breaks_some r o.name.at (e ∙ z.1))) (shape_sound s o)) (both_numbered (allocatable_numbered m o.name.at) (rules_numbered m o))

nothing_formed : (xs bs : List Broken) → xs ++ cond (is_nothing xs) bs [] ≡ [] → bs ≡ []
nothing_formed [] bs e = e
nothing_formed (x ∷ xs) bs e = absurd (cons_nil x (xs ++ []) e)

unknown_variable : (H : Type 0) (s : Scope) (m : Option Meaning) (o : fs.Allocation) (r : ℕ) → breaks r o.name.at ++ [] ≡ allocatable_breaks m o.name.at ++ shape_rules m o → IsSound (H × ((part_of s m o).breaks ≡ [])) (unknown {T = Symbol})
unknown_variable H s m o r e = unknown_sound (λ z. breaks_some r o.name.at (e ∙ nothing_formed (shape_judged s o).breaks (allocatable_breaks m o.name.at ++ shape_rules m o) (z.1)))

both_none : {A B C : Type 0} (P : C → Type 0) (f : A → B → C) (o : Option B) (j : C) → both f None o ≡ Some j → P j
both_none P f o j e = none_some j e

shape_formed : (s : Scope) (o : fs.Allocation) → IsSound (IsSettled s × (has_colon o.bounds ≡ false)) (part_of s None o)
shape_formed s o = formed_sound [] (weaker (λ z. z.0) (shape_sound s o)) none_numbered

allocation_any : (H : Type 0) (s : Scope) (m : Option Meaning) (o : fs.Allocation) → (H → IsSettled s) → (H → AreKnown s.interfaces m) → IsSound H (then (denoted_allocation s m o) (λ j. j))
allocation_any H s None o f g = then_sound (λ j. j) (made_of_both_after joined (refused_sound 20 o.name.at refl) (weaker (λ z. absurd (breaks_some 20 o.name.at (z.1))) (shape_formed s o)))
    (λ j e. both_none (IsSound (H × ((denoted_allocation s None o).breaks ≡ []))) joined ((part_of s None o).meaning) j e)
allocation_any H s (Some (Names.variable x)) o f g = variable_allocation H s x o f (λ h. (g h).known (Names.variable x) refl)
allocation_any H s (Some m) o f g = then_sound (λ j. j) (made_of_both_given joined (unknown_variable H s (Some m) o 55 refl) (other_part H s (Some m) o 55 refl))
    (λ j e. both_none (IsSound (H × ((denoted_allocation s (Some m) o).breaks ≡ []))) joined ((part_of s (Some m) o).meaning) j e)

pub allocation_sound : (s : Scope) (o : fs.Allocation) → IsSound (IsSettled s) (allocation_judged s o)
allocation_sound s o = allocation_any (IsSettled s) s (denotes s o.name.text) o (λ h. h) (λ h. (h.0).known o.name.text)

pub allocations_sound : (s : Scope) (os : List fs.Allocation) → IsSound (IsSettled s) (all_made (map (allocation_judged s) os))
allocations_sound s [] = fine_sound []
allocations_sound s (o ∷ os) = made_of_both_sound (λ x xs. x ∷ xs) (allocation_sound s o) (allocations_sound s os)

-- DEALLOCATE

variable_any : {H : Type 0} (m : Option Meaning) (p : Pos) → IsSound (H × (allocatable_breaks m p ≡ [])) (variable_denoted m p)
variable_any None p = refused_sound 20 p refl
variable_any (Some (Names.variable x)) p = fine_sound x
variable_any (Some m) p = unknown_sound (λ z. breaks_some 55 p (z.1))

deallocated_sound : {H : Type 0} (s : Scope) (n : Name) → IsSound H (deallocated s n)
deallocated_sound s n = made_sound (λ x. x.object) (ruled_sound (allocatable_breaks (denotes s n.text) n.at) (variable_any (denotes s n.text) n.at) (allocatable_numbered (denotes s n.text) n.at))

pub deallocations_sound : {H : Type 0} (s : Scope) (ns : List Name) → IsSound H (all_made (map (deallocated s) ns))
deallocations_sound s [] = fine_sound []
deallocations_sound s (n ∷ ns) = made_of_both_sound (λ x xs. x ∷ xs) (deallocated_sound s n) (deallocations_sound s ns)

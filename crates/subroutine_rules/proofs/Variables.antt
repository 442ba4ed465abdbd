-- Rules on variables by the designators of their forms.
use Rattle.std.proofs.Common.{◌≡◌, refl, ap, sym}
use Rattle.std.specs.Prelude.{ℕ, zero, suc, Bool, true, false, cond, nat_eq, ◌&&◌, Option, Some, None}
use Rattle.std.proofs.Math.Dec.{eqb-suc-zero}
use Rattle.checked_tree.specs.Expressions as t
use Rattle.checked_tree.specs.declared.data.DataType.{DataType}
use Rattle.checked_tree.specs.declared.data.DataType.TheVariants.{Intrinsic, Team, Event, Lock}
use Rattle.checked_tree.specs.declared.data.Object.TheVariants as objects
use Rattle.rule_definitions.specs.declared.taken.Taken.{Taken}
use Rattle.rule_definitions.specs.Names.{is_event}
use Rattle.rule_definitions.specs.IntrinsicSubroutines.{Atom, event_of, atom_of, atom_kind, collected_of, is_own_variable, is_coindexed_form}
use Rattle.specifier_rules.specs.Variables.{designator_in}
use Rattle.subroutine_rules.specs.Variables.{atom_in, is_own_in, is_coindexed_in, collected_in}

abbrev no_designator : Option t.Designator
no_designator = None

abbrev no_atom : Option Atom
no_atom = None

nothing : (b : Bool) → no_designator ≡ cond b no_designator no_designator
nothing true = refl
nothing false = refl

nowhere : (b : Bool) → no_atom ≡ cond b no_atom no_atom
nowhere true = refl
nowhere false = refl

positive : (r : ℕ) → nat_eq (suc r) 0 ≡ false
positive r = eqb-suc-zero r

event_here : (d : t.Designator) (y : DataType) (r : ℕ) → event_of (t.typed (t.designator d) y r) ≡ cond (is_event y && nat_eq r 0) (Some d) None
event_here d Event zero = refl
event_here d Event (suc r) = ap (λ b. cond b (Some d) no_designator) (sym (positive r))
event_here d (Intrinsic k) r = refl
event_here d Team r = refl
event_here d Lock r = refl

pub event_by_designator : (x : t.Form) (y : DataType) (r : ℕ) → event_of (t.typed x y r) ≡ cond (is_event y && nat_eq r 0) (designator_in x) None
event_by_designator (t.number n) y r = nothing (is_event y && nat_eq r 0)
event_by_designator (t.logical b) y r = nothing (is_event y && nat_eq r 0)
event_by_designator (t.designator d) y r = event_here d y r
event_by_designator (t.call n as') y r = nothing (is_event y && nat_eq r 0)
event_by_designator (t.intrinsic f) y r = nothing (is_event y && nat_eq r 0)
event_by_designator (t.parenthesized e) y r = nothing (is_event y && nat_eq r 0)
event_by_designator (t.array_constructor es) y r = nothing (is_event y && nat_eq r 0)
event_by_designator (t.plus e) y r = nothing (is_event y && nat_eq r 0)
event_by_designator (t.minus e) y r = nothing (is_event y && nat_eq r 0)
event_by_designator (t.not e) y r = nothing (is_event y && nat_eq r 0)
event_by_designator (t.arithmetic o a b) y r = nothing (is_event y && nat_eq r 0)
event_by_designator (t.relation o a b) y r = nothing (is_event y && nat_eq r 0)
event_by_designator (t.logic o a b) y r = nothing (is_event y && nat_eq r 0)

atom_here : (w : Taken) (d : t.Designator) (y : DataType) (r : ℕ) → atom_of w (t.typed (t.designator d) y r) ≡ cond (nat_eq r 0) (atom_in (Some d) (atom_kind w y)) None
atom_here w (t.part (objects.Coarray n) ss c) y zero = refl
atom_here w (t.part (objects.Coarray n) ss c) y (suc r) = ap (λ b. cond b (atom_in (Some (t.part (objects.Coarray n) ss c)) (atom_kind w y)) no_atom) (sym (positive r))
atom_here w (t.part (objects.Local l) ss c) y zero = refl
atom_here w (t.part (objects.Local l) ss c) y (suc r) = nowhere (nat_eq (suc r) 0)
atom_here w (t.part (objects.Constant n) ss c) y zero = refl
atom_here w (t.part (objects.Constant n) ss c) y (suc r) = nowhere (nat_eq (suc r) 0)

pub atom_by_designator : (w : Taken) (x : t.Form) (y : DataType) (r : ℕ) → atom_of w (t.typed x y r) ≡ cond (nat_eq r 0) (atom_in (designator_in x) (atom_kind w y)) None
atom_by_designator w (t.number n) y r = nowhere (nat_eq r 0)
atom_by_designator w (t.logical b) y r = nowhere (nat_eq r 0)
atom_by_designator w (t.designator d) y r = atom_here w d y r
atom_by_designator w (t.call n as') y r = nowhere (nat_eq r 0)
atom_by_designator w (t.intrinsic f) y r = nowhere (nat_eq r 0)
atom_by_designator w (t.parenthesized e) y r = nowhere (nat_eq r 0)
atom_by_designator w (t.array_constructor es) y r = nowhere (nat_eq r 0)
atom_by_designator w (t.plus e) y r = nowhere (nat_eq r 0)
atom_by_designator w (t.minus e) y r = nowhere (nat_eq r 0)
atom_by_designator w (t.not e) y r = nowhere (nat_eq r 0)
atom_by_designator w (t.arithmetic o a b) y r = nowhere (nat_eq r 0)
atom_by_designator w (t.relation o a b) y r = nowhere (nat_eq r 0)
atom_by_designator w (t.logic o a b) y r = nowhere (nat_eq r 0)

pub collected_by_designator : (x : t.Form) (y : DataType) (r : ℕ) → collected_of (t.typed x y r) ≡ collected_in (designator_in x) y r
collected_by_designator (t.number n) y r = refl
collected_by_designator (t.logical b) y r = refl
collected_by_designator (t.designator d) y r = refl
collected_by_designator (t.call n as') y r = refl
collected_by_designator (t.intrinsic f) y r = refl
collected_by_designator (t.parenthesized e) y r = refl
collected_by_designator (t.array_constructor es) y r = refl
collected_by_designator (t.plus e) y r = refl
collected_by_designator (t.minus e) y r = refl
collected_by_designator (t.not e) y r = refl
collected_by_designator (t.arithmetic o a b) y r = refl
collected_by_designator (t.relation o a b) y r = refl
collected_by_designator (t.logic o a b) y r = refl

pub own_by_designator : (x : t.Form) (y : DataType) (r : ℕ) → is_own_variable (t.typed x y r) ≡ is_own_in (designator_in x)
own_by_designator (t.number n) y r = refl
own_by_designator (t.logical b) y r = refl
own_by_designator (t.designator (t.part (objects.Constant n) ss c)) y r = refl
own_by_designator (t.designator (t.part (objects.Local l) ss t.no_selector)) y r = refl
own_by_designator (t.designator (t.part (objects.Local l) ss (t.selector cs m s))) y r = refl
own_by_designator (t.designator (t.part (objects.Coarray n) ss t.no_selector)) y r = refl
own_by_designator (t.designator (t.part (objects.Coarray n) ss (t.selector cs m s))) y r = refl
own_by_designator (t.call n as') y r = refl
own_by_designator (t.intrinsic f) y r = refl
own_by_designator (t.parenthesized e) y r = refl
own_by_designator (t.array_constructor es) y r = refl
own_by_designator (t.plus e) y r = refl
own_by_designator (t.minus e) y r = refl
own_by_designator (t.not e) y r = refl
own_by_designator (t.arithmetic o a b) y r = refl
own_by_designator (t.relation o a b) y r = refl
own_by_designator (t.logic o a b) y r = refl

pub coindexed_by_designator : (x : t.Form) (y : DataType) (r : ℕ) → is_coindexed_form (t.typed x y r) ≡ is_coindexed_in (designator_in x)
coindexed_by_designator (t.number n) y r = refl
coindexed_by_designator (t.logical b) y r = refl
coindexed_by_designator (t.designator d) y r = refl
coindexed_by_designator (t.call n as') y r = refl
coindexed_by_designator (t.intrinsic f) y r = refl
coindexed_by_designator (t.parenthesized e) y r = refl
coindexed_by_designator (t.array_constructor es) y r = refl
coindexed_by_designator (t.plus e) y r = refl
coindexed_by_designator (t.minus e) y r = refl
coindexed_by_designator (t.not e) y r = refl
coindexed_by_designator (t.arithmetic o a b) y r = refl
coindexed_by_designator (t.relation o a b) y r = refl
coindexed_by_designator (t.logic o a b) y r = refl

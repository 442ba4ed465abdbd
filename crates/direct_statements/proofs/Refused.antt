-- Wrong acts to which the meaning of an assignment doesn't agree: an effect before its fault, faults in the other
-- order, a fault that isn't told, an operand from the wrong place, the wrong image. They are worked out on one core.
use Rattle.std.proofs.Common.{refl, ℕ, ◌==◌, pos, Bool, false, List, [], ◌∷◌}
use Rattle.caf_base.specs.declared.value.Kind.TheVariants as kinds
use Rattle.caf_events.specs.declared.ask.Ask.TheVariants as asked
use Rattle.checked_tree.specs.declared.data.DataType.TheVariants as types
use Rattle.checked_tree.specs.declared.data.Object.TheVariants as objects
use Rattle.checked_tree.specs.Expressions as t
use Rattle.image_acts.specs.Faults.{bounds_fault}
use Rattle.image_acts.specs.Acts as a
use Rattle.image_acts.specs.Acts.{Act, here, constant, stack, variable, operator, bounded, selector, ask}
use Rattle.image_acts.specs.Core.{Core}
use Rattle.tree_meaning.specs.Environment.{Environment}
use Rattle.tree_meaning.specs.Sequences.{doing}
use Rattle.tree_meaning.proofs.SmallTrees.{int, own, num, one_sub, one}
use Rattle.direct_meaning.specs.States.{state_of}
use Rattle.direct_meaning.specs.Outcomes.{Outcome, faults, asks, Does}
use Rattle.direct_meaning.specs.Told.{told}
use Rattle.direct_meaning.specs.Values.{Value}
use Rattle.direct_meaning.specs.Expressions.{Passed}
use Rattle.direct_meaning.specs.Statements.{assignment}
use Rattle.direct_agreement.specs.Agreeing.{Agrees}
use Rattle.direct_laws.proofs.Refused.{core, differs, is_fault, at_fault}
use Rattle.direct_statements.specs.Laws.{put_nothing}

-- these acts don't agree with the assignment
abbrev Refuses : t.Designator → ℕ → t.Expression → List Act → Type 0
Refuses d rank x as' = (limit : ℕ) (e : Environment) (calls : ℕ → List Passed → Does Value)
    → Agrees (put_nothing core) (assignment limit e calls d int rank x 1 (state_of core)) (told (doing as') 1 core) → ⊥

-- what is looked at
abbrev is_fault_of : ℕ → Outcome Core → Bool
is_fault_of n (faults k l z) = k == n
is_fault_of n o = false

abbrev writes_to : ℕ → Outcome Core → Bool
writes_to n (asks (asked.Write i s vs) l z f) = i.0 == n
writes_to n o = false

abbrev writes_at : ℕ → Outcome Core → Bool
writes_at n (asks (asked.Write i s vs) l z f) = s.start == n
writes_at n o = false

-- a number that isn't one of kind 4
abbrev wide : t.Expression
wide = t.typed (t.number (pos 5000000000)) (types.Intrinsic kinds.I8) 0

abbrev scalar_s : t.Designator
scalar_s = t.part (objects.Local (own 0)) t.no_subscripts t.no_selector

abbrev three : t.Expression
three = t.typed (t.array_constructor (t.more_expressions (num (pos 1)) (t.more_expressions (num (pos 2)) (one (num (pos 3)))))) int 1

-- s gets the number before Overflow is told
stored_before_its_fault : Refuses scalar_s 0 wide
    (constant (pos 5000000000) ∷ stack (a.copy 0 1) ∷ variable (a.store here 0) ∷ operator (a.fits kinds.I4 0) ∷ stack (a.drop 1) ∷ [])
stored_before_its_fault limit e calls h = differs (at_fault (pos 7)) h refl refl

-- s gets it, and no fault is told
overflow_untold : Refuses scalar_s 0 wide (constant (pos 5000000000) ∷ variable (a.store here 0) ∷ [])
overflow_untold limit e calls h = differs is_fault h refl refl

-- of a(9) = 5000000000 Overflow is told and not Bounds
overflow_first : Refuses (t.part (objects.Local (own 0)) (one_sub (num (pos 9))) t.no_selector) 0 wide
    (constant (pos 5000000000) ∷ operator (a.fits kinds.I4 0) ∷ constant (pos 9) ∷ bounded (a.section here 0 1) ∷ variable (a.put here 0 0)
    ∷ [])
overflow_first limit e calls h = differs (is_fault_of bounds_fault) h refl refl

-- a(1:4) = [1, 2, 3] without a look at the shape
shape_untold : Refuses (t.part (objects.Local (own 0)) t.no_subscripts t.no_selector) 1 three
    (stack a.empty_array ∷ constant (pos 1) ∷ stack a.take_cell ∷ stack a.append ∷ constant (pos 2) ∷ stack a.take_cell ∷ stack a.append ∷
    constant (pos 3) ∷ stack a.take_cell ∷ stack a.append ∷ bounded (a.section here 0 2) ∷ variable (a.put_array here 0 1) ∷ [])
shape_untold limit e calls h = differs is_fault h refl refl

-- x(2)[4] = 1 on this image
wrong_image : Refuses (t.part (objects.Coarray 0) (one_sub (num (pos 2))) (t.selector (one (num (pos 4))) t.current t.no_result)) 0
    (num (pos 1))
    (constant (pos 1) ∷ constant (pos 2) ∷ bounded (a.co_section 0 1) ∷ selector (a.own_image 0) ∷ ask (a.write 0 0 kinds.I4) ∷ stack
    a.accessed ∷ stack (a.drop 1) ∷ [])
wrong_image limit e calls h = differs (writes_to 4) h.1 refl refl

-- x(2)[4] = 1 at the cell that the value names
wrong_cell : Refuses (t.part (objects.Coarray 0) (one_sub (num (pos 2))) (t.selector (one (num (pos 4))) t.current t.no_result)) 0
    (num (pos 1))
    (constant (pos 2) ∷ constant (pos 1) ∷ bounded (a.co_section 0 1) ∷ constant (pos 4) ∷ selector a.this_team ∷ selector (a.owner 0 0 1) ∷
    ask (a.write 0 0 kinds.I4) ∷ stack a.accessed ∷ stack (a.drop 1) ∷ [])
wrong_cell limit e calls h = differs (writes_at 1) h.1 refl refl

-- Wrong acts, one of each family, to which an expression's meaning doesn't agree: operators exchanged, operands from
-- the wrong place, faults that aren't told, effects before their fault. They are worked out on one core.
use Rattle.std.proofs.Common.{arith, ◌≡◌, ap, sym, refl, ◌∙◌, ℕ, ◌==◌, ℤ, pos, negsuc, Bool, true, false, ◌&&◌, true≢false, List, [], ◌∷◌, None, Some}
use Rattle.std.specs.Ordering.{int_eq}
use Rattle.caf_events.specs.declared.ask.Ask.TheVariants as asked
use Rattle.caf_events.specs.declared.reply.Reply.{Reply}
use Rattle.caf_events.specs.declared.reply.Reply.TheVariants as replies
use Rattle.checked_tree.specs.declared.data.Object.TheVariants as objects
use Rattle.checked_tree.specs.declared.expr.WrittenOrder.TheVariants as orders
use Rattle.checked_tree.specs.Expressions as t
use Rattle.caf_base.specs.declared.value.Kind.TheVariants as kinds
use Rattle.image_acts.specs.Acts as a
use Rattle.image_acts.specs.Acts.{Act, here, constant, stack, variable, bounded, selector, ask}
use Rattle.image_acts.specs.Core.{Core}
use Rattle.tree_meaning.specs.Environment.{Environment}
use Rattle.tree_meaning.specs.Sequences.{doing}
use Rattle.tree_meaning.proofs.SmallTrees.{int, own, num, one_sub, one}
use Rattle.direct_meaning.specs.States.{state_of}
use Rattle.direct_meaning.specs.Outcomes.{Outcome, done, faults, asks, unsaid, Does}
use Rattle.direct_meaning.specs.Told.{told}
use Rattle.direct_meaning.specs.Values.{Value}
use Rattle.direct_meaning.specs.Expressions.{Passed, value}
use Rattle.direct_agreement.specs.Agreeing.{Agrees, put_down, HasSpare}

-- integer :: s = 7, a(4) = [10, 20, 30, 40], x(4)[*]; integer, allocatable :: b(:); on image 3 of 4
abbrev pub core : Core
core = record {
  values = [];
  arrays = [];
  printing = [];
  used = 0;
  frame = record {
    cells = pos 7 ∷ [];
    arrays = Some
        (record { bounds = (pos 1, pos 4) ∷ []; elements = pos 10 ∷ pos 20 ∷ pos 30 ∷ pos 40 ∷ [] }) ∷ None ∷ [];
    base = 0;
    need = 5;
  };
  callers = [];
  local_cells = 5;
  array_room = 100;
  coarrays = Some (record { bounds = (pos 1, pos 4) ∷ []; lowers = pos 1 ∷ []; extents = []; team = 1 }) ∷ [];
  coarray_cells = 4;
  teams = 1 ∷ [];
  known = record { team = 1; parent = 1; round = 0; number = negsuc 0; members = 1 ∷ 2 ∷ 3 ∷ 4 ∷ [] } ∷ [];
  round = None;
  formed = [];
  me = 3;
  images = 4;
}

-- the law speaks of this core
has_spare : HasSpare core
has_spare = (omega arith, omega arith)

-- these acts don't agree with the expression
abbrev Refuses : t.Expression → List Act → Type 0
Refuses x as' = (e : Environment) (calls : ℕ → List Passed → Does Value)
    → Agrees (put_down core) (value e calls x 1 (state_of core)) (told (doing as') 1 core) → ⊥

pub differs : (test : Outcome Core → Bool) {o u : Outcome Core} → o ≡ u → test o ≡ false → test u ≡ true → ⊥
differs test h i j = true≢false (sym j ∙ ap test (sym h) ∙ i)

-- what is looked at
abbrev pub top : ℤ → Outcome Core → Bool
top v (done c) = elim c.values [ [] ↦ false | w ∷ ws ↦ int_eq w v ]
top v o = false

abbrev same : List ℤ → List ℤ → Bool
same [] [] = true
same [] (w ∷ ws) = false
same (v ∷ vs) [] = false
same (v ∷ vs) (w ∷ ws) = int_eq v w && same vs ws

abbrev pub elements : List ℤ → Outcome Core → Bool
elements vs (done c) = elim c.arrays [ [] ↦ false | w ∷ ws ↦ same w.elements vs ]
elements vs o = false

abbrev pub in_use : ℕ → Outcome Core → Bool
in_use n (done c) = c.used == n
in_use n o = false

abbrev pub is_fault : Outcome Core → Bool
is_fault (faults k l z) = true
is_fault o = false

-- the scalar s where a fault comes
abbrev pub at_fault : ℤ → Outcome Core → Bool
at_fault v (faults k l z) = elim z.frame.cells [ [] ↦ false | w ∷ ws ↦ int_eq w v ]
at_fault v o = false

abbrev pub asks_of : ℕ → Outcome Core → Bool
asks_of n (asks (asked.Read i s) l z f) = i.0 == n
asks_of n o = false

abbrev pub heard : Reply → Outcome Core → Outcome Core
heard r (asks q l z f) = f r
heard r o = unsaid

abbrev pub array_a : ℕ → t.Expression
array_a n = t.typed (t.designator (t.part (objects.Local (own n)) t.no_subscripts t.no_selector)) int 1

-- LBOUND(a, 1) by the upper bound
lower_by_upper : Refuses (t.typed (t.intrinsic (t.lbound (array_a 0) (num (pos 1)) orders.Same)) int 0)
    (bounded (a.bounds here 0) ∷ constant (pos 1) ∷ bounded a.upper_bound ∷ [])
lower_by_upper e calls h = differs (top (pos 1)) h refl refl

-- a(2:3) with the first subscript in the place of the last
last_for_first : Refuses (t.typed (t.designator
    (t.part (objects.Local (own 0)) (t.more_subscripts (t.triplet (t.given (num (pos 2))) (t.given (num (pos 3))) t.missing)
    t.no_subscripts) t.no_selector)) int 1)
    (constant (pos 3) ∷ constant (pos 2) ∷ bounded (a.section here 0 5) ∷ variable (a.load here 0 1) ∷ stack a.take_cells ∷ [])
last_for_first e calls h = differs (elements (pos 20 ∷ pos 30 ∷ [])) h refl refl

-- a, whose elements take no evaluation cells
cells_not_taken : Refuses (array_a 0) (bounded (a.section here 0 2) ∷ variable (a.load here 0 1) ∷ [])
cells_not_taken e calls h = differs (in_use 4) h refl refl

-- SIZE(b), of an array that isn't allocated, as 0
untold : Refuses (t.typed (t.intrinsic (t.size (array_a 1) t.missing orders.Same)) int 0) (constant (pos 0) ∷ [])
untold e calls h = differs is_fault h refl refl

-- [1, 2] from right to left
backward : Refuses (t.typed (t.array_constructor (t.more_expressions (num (pos 1)) (one (num (pos 2))))) int 1)
    (stack a.empty_array ∷ constant (pos 2) ∷ stack a.take_cell ∷ stack a.append ∷ constant (pos 1) ∷ stack a.take_cell ∷ stack a.append ∷
    [])
backward e calls h = differs (elements (pos 1 ∷ pos 2 ∷ [])) h refl refl

-- x(1)[2] from this image
wrong_image : Refuses (t.typed (t.designator
    (t.part (objects.Coarray 0) (one_sub (num (pos 1))) (t.selector (one (num (pos 2))) t.current t.no_result))) int 0)
    (constant (pos 1) ∷ bounded (a.co_section 0 1) ∷ selector (a.own_image 0) ∷ ask (a.read 0 0) ∷ stack a.accessed ∷ stack (a.drop 1) ∷
    stack a.only_element ∷ [])
wrong_image e calls h = differs (asks_of 2) h.1 refl refl

-- x(1)[2, stat=s], where s gets the status before NotAllocated is told
set_before_its_fault : Refuses (t.typed (t.designator
    (t.part (objects.Coarray 0) (one_sub (num (pos 1)))
    (t.selector (one (num (pos 2))) t.current (t.result (t.result_variable (own 0) t.no_expressions kinds.I4))))) int 0)
    (constant (pos 1) ∷ bounded (a.co_section 0 1) ∷ constant (pos 2) ∷ selector a.this_team ∷ selector (a.owner 0 0 1) ∷ ask (a.read 0 0) ∷
    stack (a.copy 0 1) ∷ variable (a.store here 0) ∷ stack a.accessed ∷ stack (a.drop 1) ∷ stack a.only_element ∷ [])
set_before_its_fault e calls h = differs (at_fault (pos 7)) (ap (heard replies.Absent) h.1 ∙ h.2 replies.Absent) refl refl

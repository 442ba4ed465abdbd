-- Acts of calls: frames, and arrays that are copied into and out of their variables.
use Rattle.std.proofs.Common.{◌≡◌, ◌∙◌, ℕ, zero, suc, ◌+◌, ◌&&◌, List, [], ◌∷◌, ◌++◌, length, replicate, slice_get}
use Rattle.std.specs.Prelude.{ℤ, pos, ◌-◌, nat_lt, nat_le, ◌==◌, Option, None, Some}
use Rattle.trace_theory.specs.Entries.{Each}
use Rattle.caf_base.specs.declared.value.Kind.{Kind}
use Rattle.coarray_types.specs.Places.{size_of}
use Rattle.walk_theory.specs.Language.{goes_to, stuck}
use Rattle.object_rules.specs.Cells.{Declared}
use Rattle.image_acts.specs.Statuses.{most_cells, most_elements, most_frames}
use Rattle.image_acts.specs.Faults.{room, depth_fault, shape_fault}
use Rattle.image_acts.specs.Acts as a
use Rattle.image_acts.specs.Acts.{call, allocation}
use Rattle.image_acts.specs.Core.{Core, Frame, with_values, elements_in}
use Rattle.image_acts.specs.Frames.{array_in, with_array_in, zeros_in, pairs_in, cells_in_frames, arrays_of_frames}
use Rattle.image_acts.specs.Taking.{Acted, unless, put_down}
use Rattle.image_acts.specs.Operate.Variables.{if_room}
use Rattle.image_acts.specs.Operate.Bounds.{same_extents}
use Rattle.image_acts.specs.Operate.Allocating.{bounds_size, laid, allocation_effect}
use Rattle.image_acts.specs.Operate.Calling.{extents_of_bounds, has_extents, call_effect}
use Rattle.image_acts.specs.Meaning.{effect_of}
use Rattle.kind_walks.specs.Kinds.{Widens, IsOf, IsLocalOf, Begin, Layout, AllHold, Typing, with_array}
use Rattle.kind_walks.proofs.Numbers.{zero_of}
use Rattle.kind_walks.proofs.Effects.{with_numbers, push_array, there_as, so, settles, top, many, takes}
use Rattle.kind_walks.proofs.Frames.{all_widened, array_of, array_so}
use Rattle.kind_walks.proofs.StackActs.{Acts, To}
use Rattle.kind_expressions.proofs.VariableActs.{each_same}

zeros_begin : (ks : List (Option Kind)) (m : ℕ) → Begin IsOf ks (replicate m (pos 0))
zeros_begin [] m = tt
zeros_begin (k ∷ ks) zero = tt
zeros_begin (k ∷ ks) (suc m) = (zero_of k, zeros_begin ks m)

none_begin : (ks : List (Option Kind)) (m : ℕ) → Begin IsLocalOf ks (replicate m None)
none_begin [] m = tt
none_begin (k ∷ ks) zero = tt
none_begin (k ∷ ks) (suc m) = (tt, none_begin ks m)

-- in a procedure that was called
abbrev pub called_from : Layout → Typing → Typing
called_from y s = record s { running = y; callers = s.running ∷ s.callers }

module _ (coarrays : List Declared) (n : ℕ) where
  abbrev new_frame : (cells arrays need base : ℕ) → Frame
  new_frame cells arrays need base = record { cells = replicate cells (pos 0); arrays = replicate arrays None; base = base; need = need }

  pub acts_begin_frame : (cells arrays need : ℕ) (y : Layout) (s : Typing) → Acts coarrays n s (call (a.begin_frame cells arrays need)) (called_from y s)
  acts_begin_frame cells arrays need y s j c h =
      let d = record c { frame = new_frame cells arrays need c.used; callers = c.frame ∷ c.callers; local_cells = c.local_cells + need } in
      let inner = unless room (nat_le (c.local_cells + need) most_cells) (goes_to d) in
      settles n coarrays (called_from y s) j (call (a.begin_frame cells arrays need)) (call_effect (a.begin_frame cells arrays need) c)
      (so n coarrays (called_from y s) j depth_fault (nat_lt (length c.callers) most_frames) inner
      (so n coarrays (called_from y s) j room (nat_le (c.local_cells + need) most_cells) (goes_to d) (record {
        numbers = h.numbers;
        arrays = h.arrays;
        running = (zeros_begin y.scalars cells, none_begin y.arrays arrays);
        callers = (h.running, h.callers);
        images = h.images;
        known = h.known;
        formed = h.formed;
      })))

  abbrev to_caller : Core → List Frame → Acted
  to_caller c [] = stuck
  to_caller c (f ∷ fs) = goes_to (record c { frame = f; callers = fs; local_cells = c.local_cells - c.frame.need; used = c.frame.base })

  pub acts_end_frame : (y : Layout) (s : Typing) → Acts coarrays n (called_from y s) (call a.end_frame) s
  acts_end_frame y s j c h = settles n coarrays s j (call a.end_frame) (to_caller c c.callers) (by_frames c.callers h.callers)
    where
      by_frames : (fs : List Frame) → AllHold (s.running ∷ s.callers) fs → To coarrays n s j (to_caller c fs)
      by_frames [] x = absurd x
      by_frames (f ∷ fs) x = record { numbers = h.numbers; arrays = h.arrays; running = x.0; callers = x.1; images = h.images; known = h.known; formed = h.formed }

  -- bounds, and an array of zeros
  pub acts_lay_out : (x rank : ℕ) (ks : List (Option Kind)) → length ks ≡ bounds_size rank → (s : Typing) → Acts coarrays n (with_numbers ks s) (allocation (a.lay_out x rank)) s
  acts_lay_out x rank ks e s j c h =
      many n coarrays s j ks s c h (effect_of (allocation (a.lay_out x rank))) (λ xs d l g hd.
      let bs = pairs_in (put_down xs []) in
      let z = with_array_in a.here x (Some (zeros_in bs)) d in
      settles n coarrays s j (allocation (a.lay_out x rank)) (allocation_effect (a.lay_out x rank) (with_values d (xs ++ d.values)))
      (takes n coarrays s j (bounds_size rank) xs d.values (λ p. laid a.here x rank (pairs_in p.0) (with_values d p.1)) (l ∙ e)
      (so n coarrays s j room (nat_le rank 3) (if_room z) (so n coarrays s j room (nat_le (cells_in_frames (arrays_of_frames z)) z.array_room) (goes_to z)
      (array_so n s a.here x (Some (zeros_in bs)) d hd (λ k q. each_same (IsOf k) (size_of bs) (pos 0) (zero_of k)))))))

  pub acts_copy_in : (x : ℕ) (l : Option Kind) (s : Typing) → ((k : Option Kind) → slice_get s.running.arrays x ≡ Some k → Widens l k) → Acts coarrays n (with_array l s) (call (a.copy_in x)) s
  acts_copy_in x l s w j c h =
      top n coarrays s j l s c h (effect_of (call (a.copy_in x))) (λ y d hy hd.
      settles n coarrays s j (call (a.copy_in x)) (call_effect (a.copy_in x) (record d { arrays = y ∷ d.arrays }))
      (there_as n coarrays s j (array_in a.here x d) (λ l. unless shape_fault (same_extents y.extents (extents_of_bounds l) && (length y.elements == length l.elements)) (goes_to (with_array_in a.here x (Some (record l { elements = y.elements })) d)))
      (λ m f. so n coarrays s j shape_fault (same_extents y.extents (extents_of_bounds m) && (length y.elements == length m.elements)) (goes_to (with_array_in a.here x (Some (record m { elements = y.elements })) d))
      (array_so n s a.here x (Some (record m { elements = y.elements })) d hd (λ k q. all_widened l k (w k q) y.elements hy)))))

  pub acts_copy_out : (x : ℕ) (k : Option Kind) (s : Typing) → slice_get s.running.arrays x ≡ Some k → Acts coarrays n s (call (a.copy_out x)) (with_array k s)
  acts_copy_out x k s e j c h =
      let t = with_array k s in
      settles n coarrays t j (call (a.copy_out x)) (call_effect (a.copy_out x) c)
      (there_as n coarrays t j (array_in a.here x c)
      (λ l. unless room (has_extents l && nat_le (elements_in c.arrays + length l.elements) most_elements) (goes_to (record c { arrays = record { extents = extents_of_bounds l; elements = l.elements } ∷ c.arrays })))
      (λ l f. so n coarrays t j room (has_extents l && nat_le (elements_in c.arrays + length l.elements) most_elements) (goes_to (record c { arrays = record { extents = extents_of_bounds l; elements = l.elements } ∷ c.arrays }))
      (push_array n k s c (record { extents = extents_of_bounds l; elements = l.elements }) (array_of n s a.here x k e c l h f) h)))

  any_elements : (vs : List ℤ) → Each (IsOf None) vs
  any_elements [] = tt
  any_elements (v ∷ vs) = (tt, any_elements vs)

  -- of which nothing is known
  pub acts_copy_out_unknown : (x : ℕ) (s : Typing) → Acts coarrays n s (call (a.copy_out x)) (with_array None s)
  acts_copy_out_unknown x s j c h =
      let t = with_array None s in
      settles n coarrays t j (call (a.copy_out x)) (call_effect (a.copy_out x) c)
      (there_as n coarrays t j (array_in a.here x c)
      (λ l. unless room (has_extents l && nat_le (elements_in c.arrays + length l.elements) most_elements) (goes_to (record c { arrays = record { extents = extents_of_bounds l; elements = l.elements } ∷ c.arrays })))
      (λ l f. so n coarrays t j room (has_extents l && nat_le (elements_in c.arrays + length l.elements) most_elements) (goes_to (record c { arrays = record { extents = extents_of_bounds l; elements = l.elements } ∷ c.arrays }))
      (push_array n None s c (record { extents = extents_of_bounds l; elements = l.elements }) (any_elements l.elements) h)))

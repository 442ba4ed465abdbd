-- ALLOCATE and DEALLOCATE leave nothing.
use Rattle.std.proofs.Common.{◌≡◌, ℕ, ◌+◌, List, [], ◌∷◌, ◌++◌, length, refl, ap, ◌∙◌, subst, arith}
use Rattle.std.specs.Prelude.{pos}
use Rattle.checked_tree.specs.declared.data.Object.{Object}
use Rattle.checked_tree.specs.declared.data.Object.TheVariants as objects
use Rattle.checked_tree.specs.Expressions as t
use Rattle.checked_tree.specs.Statements as s
use Rattle.image_acts.specs.Acts as a
use Rattle.image_acts.specs.Acts.{Act, Scope}
use Rattle.image_acts.specs.Statuses.{bad_argument}
use Rattle.image_acts.specs.Operate.Allocating.{bounds_size}
use Rattle.image_code.specs.Sizes.{numbers, act_size}
use Rattle.tree_meaning.specs.Environment.{Environment}
use Rattle.tree_meaning.specs.Sequences.{doing}
use Rattle.tree_meaning.specs.Expressions as view
use Rattle.tree_meaning.specs.Allocation as alloc
use Rattle.made_code.specs.Ranks as ranks
use Rattle.made_code.proofs.Turns.{Turns, closes, ended, acts, ◌⨾◌, part, chosen, either_way}
use Rattle.made_code.proofs.Forms.{none, idle, one_act, dropped, pushed}
use Rattle.made_code.proofs.Expressions.{scalar_turns, place_turns}
use Rattle.made_code.proofs.Assignments.{settled}
use Rattle.made_code.proofs.ImageControl.{rounded, or_number}

planned_one : (x : s.Allocation) (depth : ℕ) → Turns (numbers (depth + 3 + alloc.object_size x) (depth + 3 + alloc.object_size x)) (alloc.planning_one x depth)
planned_one (s.allocate_local v type bs) depth = one_act
planned_one (s.allocate_coarray c bs cs l) depth = closes (acts ended) (omega arith)

planned : (xs : List s.Allocation) (above : ℕ) → Turns (numbers (alloc.object_sizes xs + above + 3) (alloc.object_sizes xs + above + 3)) (alloc.planning xs above)
planned [] above = closes ended (omega arith)
planned (x ∷ xs) above = closes (part (planned_one x (alloc.object_sizes xs + above)) ⨾ part (planned xs above)) (omega arith)

made_one : (x : s.Allocation) (depth : ℕ) → Turns (numbers (depth + alloc.object_size x) (depth + alloc.object_size x)) (alloc.making_one x depth)
made_one (s.allocate_local v type bs) depth = one_act
made_one (s.allocate_coarray c bs cs l) depth = closes (acts (acts ended)) (omega arith)

made : (xs : List s.Allocation) (above : ℕ) → Turns (numbers (alloc.object_sizes xs + above) (alloc.object_sizes xs + above)) (alloc.making xs above)
made [] above = closes ended (omega arith)
made (x ∷ xs) above = closes (part (made_one x (alloc.object_sizes xs + above)) ⨾ part (made xs above)) (omega arith)

-- numbers for an act that takes them
all_taken : (ns : List ℕ) (x : Act) (k : ℕ) → act_size x ≡ numbers (length ns + k) 0 → Turns (numbers k 0) (doing (alloc.numbers ns ++ (x ∷ [])))
all_taken [] x k e = (let f : act_size x ≡ numbers k 0 = e ∙ ap (λ m. numbers m 0) (let g : 0 + k ≡ k = omega arith in g) in subst (λ z. Turns z (doing (x ∷ []))) f one_act)
all_taken (n ∷ ns) x k e =
    closes (acts (part (all_taken ns x (k + 1) (e ∙ ap (λ m. numbers m 0) (let f : length (n ∷ ns) + k ≡ length ns + (k + 1) = omega arith in f))))) (omega arith)

allocated : (cs : List ℕ) → Turns (numbers 0 1) (alloc.allocate_round cs)
allocated [] = one_act
allocated (c ∷ cs) = rounded {n = 0} (all_taken (c ∷ cs) (a.ask (a.arrive_allocate (length (c ∷ cs)))) 1 refl)

deallocated : (cs : List ℕ) → Turns (numbers 0 1) (alloc.deallocate_round cs)
deallocated [] = one_act
deallocated (c ∷ cs) = rounded {n = 0} (all_taken (c ∷ cs) (a.ask (a.arrive_deallocate (length (c ∷ cs)))) 1 refl)

named : (xs : List Object) → Turns (numbers 1 1) (alloc.named_once xs)
named xs = either_way (alloc.has_twice xs) (closes (acts (acts ended)) (omega arith)) (closes ended (omega arith))

one_there : (x : Object) → Turns (numbers 1 1) (alloc.is_allocated x)
one_there (objects.Local v) = closes (acts (acts ended)) (omega arith)
one_there (objects.Coarray c) = closes (acts (acts ended)) (omega arith)
one_there (objects.Constant n) = closes ended (omega arith)

all_there : (xs : List Object) → Turns (numbers 1 1) (alloc.are_allocated xs)
all_there [] = closes ended (omega arith)
all_there (x ∷ xs) = closes (part (one_there x) ⨾ part (all_there xs)) (omega arith)

one_freed : (x : Object) → Turns none (alloc.freeing_one x)
one_freed (objects.Local v) = one_act
one_freed (objects.Coarray c) = closes (acts (acts ended)) (omega arith)
one_freed (objects.Constant n) = idle

all_freed : (xs : List Object) → Turns none (alloc.freeing xs)
all_freed [] = idle
all_freed (x ∷ xs) = closes (part (one_freed x) ⨾ part (all_freed xs)) (omega arith)

module _ (e : Environment) where
  bounds_turns : (bs : List s.AllocatedBounds) → ranks.AreBounds e.program.procedures bs → Turns (numbers 0 (bounds_size (length bs))) (alloc.bounds e bs)
  bounds_turns [] h = idle
  bounds_turns (b ∷ bs) h = closes (part (or_number e b.lower h.0 (pushed (pos 1))) ⨾ part (scalar_turns e b.upper h.1) ⨾ part (bounds_turns bs h.2)) (omega arith)

  object_turns : (x : s.Allocation) → ranks.IsAllocation e.program.procedures x → Turns (numbers 0 (alloc.object_size x)) (alloc.object_bounds e x)
  object_turns (s.allocate_local v type bs) h = bounds_turns bs h
  object_turns (s.allocate_coarray c bs cs l) h = closes (part (bounds_turns bs h.0) ⨾ part (bounds_turns cs h.1) ⨾ part (or_number e l h.2 (pushed (pos 1)))) (omega arith)

  objects_turns : (xs : List s.Allocation) → ranks.AreAllocations e.program.procedures xs → Turns (numbers 0 (alloc.object_sizes xs)) (alloc.objects_bounds e xs)
  objects_turns [] h = idle
  objects_turns (x ∷ xs) h = closes (part (object_turns x h.0) ⨾ part (objects_turns xs h.1)) (omega arith)

  pub allocate_turns : (xs : List s.Allocation) (stat : t.OptionalResult) → ranks.AreAllocations e.program.procedures xs → ranks.IsOptionalResult e.program.procedures stat → Turns none (alloc.allocate e xs stat)
  allocate_turns xs stat g h =
      let o = view.optional_size stat in
      let n = alloc.object_sizes xs in
      closes (part (objects_turns xs g) ⨾ part (place_turns e stat h) ⨾ acts ended ⨾ part (planned xs o) ⨾ acts ended ⨾ part (named (alloc.objects_of xs))
      ⨾ chosen {z = numbers (n + o) (n + o + 1)} (closes (part (made xs o) ⨾ part (allocated (alloc.coarrays_in (alloc.objects_of xs)))) (omega arith)) (closes (part (pushed bad_argument)) (omega arith))
      ⨾ part (settled stat 1 o [] (omega arith) (omega arith)) ⨾ part (dropped (n + o))) (omega arith)

  pub deallocate_turns : (xs : List Object) (stat : t.OptionalResult) → ranks.IsOptionalResult e.program.procedures stat → Turns none (alloc.deallocate e xs stat)
  deallocate_turns xs stat h =
      let o = view.optional_size stat in
      closes (part (place_turns e stat h) ⨾ part (pushed (pos 1)) ⨾ part (all_there xs) ⨾ part (named xs)
      ⨾ chosen {z = numbers 0 1} (closes (part (deallocated (alloc.coarrays_in xs)) ⨾ part (all_freed xs)) (omega arith)) (pushed bad_argument)
      ⨾ part (settled stat 1 o [] (omega arith) (omega arith)) ⨾ part (dropped o)) (omega arith)

-- A program whose statements allocate and deallocate coarrays of a set alone has acts that do so.
use Rattle.std.proofs.Common.{◌≡◌, ℕ, ◌+◌, Bool, true, false, cond, List, [], ◌∷◌, ◌++◌, length}
use Rattle.std.specs.Prelude.{◌==◌, pos}
use Rattle.checked_tree.specs.declared.data.Object.{Object}
use Rattle.checked_tree.specs.declared.data.Object.TheVariants as objects
use Rattle.checked_tree.specs.Statements as s
use Rattle.walk_theory.specs.Syntax.{Parts, end_parts, Form, simple, choose, loop, around, exit, cycle, return, Branches, otherwise, branch, Steps, stop, also}
use Rattle.image_acts.specs.Acts as a
use Rattle.image_acts.specs.Acts.{Act, constant, stack, operator, selector, ask}
use Rattle.tree_meaning.specs.Sequences.{◌▸◌, doing, copying}
use Rattle.tree_meaning.specs.ImageControl.{round}
use Rattle.tree_meaning.specs.Allocation as alloc
use Rattle.tree_meaning.specs.Forms.{bodies}
use Rattle.told_walks.proofs.Acts.{IsFree}
use Rattle.told_parts.specs.Allocating.{ActsOn, PartsActOn, FormActsOn, BranchesActOn, StepsActOn, BodiesActOn}
use Rattle.told_programs.specs.Allowed.{MakesOf, FreesOf, AllocatesOf}
use Rattle.told_programs.proofs.Closed.{Closed, IsListing, listing}
use Rattle.told_programs.proofs.Statements.{FormSafe, BranchesSafe, StepsSafe, BodiesSafe, bodies_safe}

module _ (f : ℕ → Bool) where
  abbrev On : Parts Act → Type 0
  On p = PartsActOn f p

  free_on : (x : Act) → IsFree x → ActsOn f x
  free_on (ask (a.create c depth rank)) h = absurd h
  free_on (ask (a.delete c)) h = absurd h
  free_on x h = tt

  either_on : (b : Bool) (p q : Parts Act) → On p → On q → On (cond b p q)
  either_on true p q h g = h
  either_on false p q h g = g

  copying_on : (depth n : ℕ) → On (copying depth n)
  copying_on depth n = either_on (n == 0) end_parts (doing (stack (a.copy depth n) ∷ [])) tt (tt, tt)

  listing_on : (x : a.AskAct) → IsListing x → On (listing x)
  listing_on a.failed h = (tt, (tt, tt))
  listing_on a.stopped h = (tt, (tt, tt))
  listing_on x h = absurd h

  round_on : (p : Parts Act) → On p → On (round p)
  round_on p h = ((tt, tt), (h, (tt, (tt, tt))))

  -- ---- ALLOCATE
  planning_on : (xs : List s.Allocation) (n : ℕ) → On (alloc.planning xs n)
  planning_on [] n = tt
  planning_on (s.allocate_local v type bs ∷ xs) n = ((tt, tt), planning_on xs n)
  planning_on (s.allocate_coarray c bs cs l ∷ xs) n = ((tt, tt), planning_on xs n)

  making_on : (xs : List s.Allocation) (n : ℕ) → MakesOf f xs → On (alloc.making xs n)
  making_on [] n h = tt
  making_on (s.allocate_local v type bs ∷ xs) n h = ((tt, tt), making_on xs n h)
  making_on (s.allocate_coarray c bs cs l ∷ xs) n h = ((h.0, (tt, tt)), making_on xs n h.1)

  numbers_on : (ns : List ℕ) (x : Act) → ActsOn f x → On (doing (alloc.numbers ns ++ (x ∷ [])))
  numbers_on [] x h = (h, tt)
  numbers_on (n ∷ ns) x h = (tt, numbers_on ns x h)

  allocated_on : (ns : List ℕ) → On (alloc.allocate_round ns)
  allocated_on [] = (tt, tt)
  allocated_on (n ∷ ns) = round_on (doing (alloc.numbers (n ∷ ns) ++ (ask (a.arrive_allocate (length (n ∷ ns))) ∷ []))) (numbers_on (n ∷ ns) (ask (a.arrive_allocate (length (n ∷ ns)))) tt)

  deallocated_on : (ns : List ℕ) → On (alloc.deallocate_round ns)
  deallocated_on [] = (tt, tt)
  deallocated_on (n ∷ ns) = round_on (doing (alloc.numbers (n ∷ ns) ++ (ask (a.arrive_deallocate (length (n ∷ ns))) ∷ []))) (numbers_on (n ∷ ns) (ask (a.arrive_deallocate (length (n ∷ ns)))) tt)

  once_on : (xs : List Object) → On (alloc.named_once xs)
  once_on xs = either_on (alloc.has_twice xs) (doing (constant (pos 0) ∷ operator a.both ∷ [])) end_parts (tt, (tt, tt)) tt

  are_on : (xs : List Object) → On (alloc.are_allocated xs)
  are_on [] = tt
  are_on (objects.Local v ∷ xs) = ((tt, (tt, tt)), are_on xs)
  are_on (objects.Constant n ∷ xs) = (tt, are_on xs)
  are_on (objects.Coarray c ∷ xs) = ((tt, (tt, tt)), are_on xs)

  freeing_on : (xs : List Object) → FreesOf f xs → On (alloc.freeing xs)
  freeing_on [] h = tt
  freeing_on (objects.Local v ∷ xs) h = ((tt, tt), freeing_on xs h)
  freeing_on (objects.Constant n ∷ xs) h = (tt, freeing_on xs h)
  freeing_on (objects.Coarray c ∷ xs) h = ((h.0, (tt, tt)), freeing_on xs h.1)

  closed_on : Closed On (MakesOf f) (FreesOf f) (λ c. f c ≡ true)
  closed_on = record {
    no_parts = tt;
    acts = λ {x} {q} free h. (free_on x free, h);
    both = λ h g. (h, g);
    fork = λ h g j. (h, g, j);
    entering = λ n h. h;
    sync_round = round_on (doing (ask a.arrive_sync ∷ [])) (tt, tt);
    end_round = round_on (doing (ask a.arrive_end ∷ [])) (tt, tt);
    form_round = λ depth. round_on (copying depth 2 ▸ doing (ask a.arrive_form ∷ [])) (copying_on depth 2, (tt, tt));
    sync_arrives = (tt, (tt, tt));
    change_safe = λ m tail h. (copying_on m 1, ((tt, (tt, tt)), (copying_on m 1, ((tt, tt), (copying_on (m + 1) 1, ((tt, tt), h))))));
    status_asked = (tt, (tt, tt));
    listed_here = λ x h. ((tt, tt), listing_on x h);
    listed_there = λ x h p g. ((g, (tt, tt)), listing_on x h);
    listed_here_then = λ x h q g. ((tt, tt), (listing_on x h, g));
    listed_there_then = λ x h p q g j. ((g, (tt, tt)), (listing_on x h, j));
    pairs_safe = λ rest h. ((tt, tt), (((tt, (tt, tt)), ((tt, tt), (tt, tt)), tt), h));
    allocating_safe = λ xs n rest made h. ((tt, tt), (planning_on xs n, ((tt, tt), (once_on (alloc.objects_of xs), (((making_on xs n made, allocated_on (alloc.coarrays_in (alloc.objects_of xs))), (tt, tt), tt), h)))));
    deallocating_safe = λ xs rest freed h. ((tt, tt), (are_on xs, (once_on xs, (((deallocated_on (alloc.coarrays_in xs), freeing_on xs freed), (tt, tt), tt), h))));
    deleting_safe = λ y ended. ((tt, tt), ((ended, (tt, tt)), tt, tt));
  }

  -- ---- so do the acts of each body
  abbrev FormOn : Form Act → Type 0
  FormOn x = FormSafe On (MakesOf f) (FreesOf f) (λ c. f c ≡ true) closed_on x

  abbrev BranchesOn : Branches Act → Type 0
  BranchesOn bs = BranchesSafe On (MakesOf f) (FreesOf f) (λ c. f c ≡ true) closed_on bs

  abbrev StepsOn : Steps Act → Type 0
  StepsOn ss = StepsSafe On (MakesOf f) (FreesOf f) (λ c. f c ≡ true) closed_on ss

  mutual
    form_on : (x : Form Act) → FormOn x → FormActsOn f x
    form_on (simple p) h = h
    form_on (choose p bs) h = (h.0, branches_on bs h.1)
    form_on (loop s n t b) h = (h.0, h.1, h.2, steps_on b h.3)
    form_on (around p b m q) h = (h.0, steps_on b h.1, h.2)
    form_on (exit n) h = tt
    form_on (cycle n) h = tt
    form_on return h = tt

    branches_on : (bs : Branches Act) → BranchesOn bs → BranchesActOn f bs
    branches_on (otherwise b) h = steps_on b h
    branches_on (branch l p x rest) h = (h.0, steps_on x h.1, branches_on rest h.2)

    steps_on : (ss : Steps Act) → StepsOn ss → StepsActOn f ss
    steps_on stop h = tt
    steps_on (also l x rest) h = (form_on x h.0, steps_on rest h.1)

  bodies_on : (bs : List (Steps Act)) → BodiesSafe On (MakesOf f) (FreesOf f) (λ c. f c ≡ true) closed_on bs → BodiesActOn f bs
  bodies_on [] h = tt
  bodies_on (b ∷ bs) h = (steps_on b h.0, bodies_on bs h.1)

  pub program_allocates : (p : s.Program) → AllocatesOf f p → BodiesActOn f (bodies p)
  program_allocates p h = bodies_on (bodies p) (bodies_safe On (MakesOf f) (FreesOf f) (λ c. f c ≡ true) closed_on p h)

-- In the walk of a program whose bodies suit each ask does.
use Rattle.std.proofs.Common.{ℕ, zero, suc, ◌+◌, nat_lt, Bool, true, false, cond, List, [], ◌∷◌, subst}
use Rattle.std.specs.Prelude.{None, Some}
use Rattle.trace_theory.specs.Machines.{Move, goes, asks, over, Said, go, goes_on, Walk}
use Rattle.caf_base.specs.declared.value.Kind.TheVariants as kinds
use Rattle.caf_events.specs.declared.ask.Ask.{Ask}
use Rattle.caf_events.specs.declared.reply.Reply.{Reply}
use Rattle.walk_theory.specs.Language as language
use Rattle.walk_theory.specs.Language.{Tested, no_value, holds, fails, acted, counted, by_test}
use Rattle.walk_theory.specs.Syntax.{Parts, end_parts, value, act, enter, either, Form, simple, choose, loop, around, exit, cycle, return, otherwise, branch, Steps, stop, also}
use Rattle.walk_theory.specs.Walks.{Loop, Task, run, eval, tally, decide, pick, again, iterate, back, after_loop, from_loop, from_back, backs, Config, to, form_tasks, start, step, step_task}
use Rattle.object_rules.specs.Cells.{Declared}
use Rattle.image_acts.specs.Acts.{Act, ask, end_program}
use Rattle.image_acts.specs.Core.{Core}
use Rattle.image_acts.specs.Taking.{Acted, tested}
use Rattle.image_acts.specs.Meaning.{effect_of, frames, image_language}
use Rattle.kind_walks.specs.Kinds.{Layout, Typing, IsSo, with_number}
use Rattle.kind_walks.specs.Suiting.{Joined, joined_by, Suits, Tells, EffectSuits, TestSuits, IsIn, PartsSuit, Leads, FormSuits, BranchesSuit, StepsSuit, BodiesSuit, AllSuit, AllTell}
use Rattle.kind_walks.proofs.Parts.{leads_then, test_suits}

module _ (coarrays : List Declared) (n : ℕ) (layouts : ℕ → Layout) where
  abbrev On : Parts Act → (Joined → Core → Type 0) → Joined → Core → Type 0
  On p After j c = PartsSuit coarrays n layouts p After j c

  abbrev Go : Typing → Parts Act → Typing → Type 0
  Go s p t = Leads coarrays n layouts s p t

  abbrev Blocks : Typing → Steps Act → Type 0
  Blocks s b = StepsSuit coarrays n layouts s b

  abbrev told : Typing → Typing
  told s = with_number (Some kinds.L4) s

  -- ---- what is left to do
  abbrev LoopSuits : Typing → Loop Act → Type 0
  LoopSuits s m = Go s m.next s × Go s m.test (told s) × Blocks s m.body

  -- what is known where the body that is run began, behind which its callers stand
  abbrev base : List Typing → Typing
  base [] = record { running = layouts 0; callers = []; numbers = []; arrays = [] }
  base (s ∷ ss) = s

  abbrev callers : List Typing → List Typing
  callers [] = []
  callers (s ∷ ss) = ss

  -- tasks whose asks suit from this core on; a truth value may stand on the operands of the body that is run
  abbrev TasksSuit : List Typing → List (Task Act) → Joined → Core → Type 0
  TasksSuit ss [] j c = Unit {0}
  TasksSuit ss (run stop ∷ ts) j c = TasksSuit ss ts j c
  TasksSuit ss (run (also l f rest) ∷ ts) j c =
      IsSo n (base ss) c × FormSuits coarrays n layouts (base ss) f × Blocks (base ss) rest × ((i : Joined) (d : Core) → IsSo n (base ss) d → TasksSuit ss ts i d)
  TasksSuit ss (eval l p ∷ ts) j c = On p (TasksSuit ss ts) j c
  TasksSuit ss (tally l ∷ ts) j c = TasksSuit ss ts j c
  TasksSuit ss (decide b ∷ ts) j c = IsSo n (base ss) c × BranchesSuit coarrays n layouts (base ss) b × ((i : Joined) (d : Core) → IsSo n (base ss) d → TasksSuit ss ts i d)
  TasksSuit ss (pick l a b ∷ ts) j c =
      IsSo n (told (base ss)) c × Blocks (base ss) a × BranchesSuit coarrays n layouts (base ss) b × ((i : Joined) (d : Core) → IsSo n (base ss) d → TasksSuit ss ts i d)
  TasksSuit ss (again m ∷ ts) j c = IsSo n (base ss) c × LoopSuits (base ss) m × ((i : Joined) (d : Core) → IsSo n (base ss) d → TasksSuit ss ts i d)
  TasksSuit ss (iterate m ∷ ts) j c = IsSo n (told (base ss)) c × LoopSuits (base ss) m × ((i : Joined) (d : Core) → IsSo n (base ss) d → TasksSuit ss ts i d)
  TasksSuit ss (back ∷ ts) j c = TasksSuit (callers ss) ts j c

  -- wherever the values are so
  abbrev Always : List Typing → List (Task Act) → Type 0
  Always ss ts = (i : Joined) (d : Core) → IsSo n (base ss) d → TasksSuit ss ts i d

  -- from each end of an iteration or of a procedure's body on, to which EXIT, CYCLE or RETURN can lead
  abbrev AreLeft : List Typing → List (Task Act) → Type 0
  AreLeft ss [] = Unit {0}
  AreLeft ss (run b ∷ ts) = AreLeft ss ts
  AreLeft ss (eval l p ∷ ts) = AreLeft ss ts
  AreLeft ss (tally l ∷ ts) = AreLeft ss ts
  AreLeft ss (decide b ∷ ts) = AreLeft ss ts
  AreLeft ss (pick l a b ∷ ts) = AreLeft ss ts
  AreLeft ss (again m ∷ ts) = LoopSuits (base ss) m × Always ss ts × AreLeft ss ts
  AreLeft ss (iterate m ∷ ts) = AreLeft ss ts
  AreLeft ss (back ∷ ts) = ((i : Joined) (d : Core) → IsSo n (base ss) d → TasksSuit (callers ss) ts i d) × AreLeft (callers ss) ts

  abbrev Clear : List Typing → List (Task Act) → Type 0
  Clear ss ts = Always ss ts × AreLeft ss ts

  exit_clear : (k : ℕ) (ss : List Typing) (ts : List (Task Act)) → AreLeft ss ts → Clear ss (after_loop k ts)
  exit_clear k ss [] h = (λ i d x. tt, tt)
  exit_clear k ss (run b ∷ ts) h = exit_clear k ss ts h
  exit_clear k ss (eval l p ∷ ts) h = exit_clear k ss ts h
  exit_clear k ss (tally l ∷ ts) h = exit_clear k ss ts h
  exit_clear k ss (decide b ∷ ts) h = exit_clear k ss ts h
  exit_clear k ss (pick l a b ∷ ts) h = exit_clear k ss ts h
  exit_clear zero ss (again m ∷ ts) h = (h.1, h.2)
  exit_clear (suc k) ss (again m ∷ ts) h = exit_clear k ss ts h.2
  exit_clear k ss (iterate m ∷ ts) h = exit_clear k ss ts h
  exit_clear k ss (back ∷ ts) h = (h.0, h)

  cycle_clear : (k : ℕ) (ss : List Typing) (ts : List (Task Act)) → AreLeft ss ts → Clear ss (from_loop k ts)
  cycle_clear k ss [] h = (λ i d x. tt, tt)
  cycle_clear k ss (run b ∷ ts) h = cycle_clear k ss ts h
  cycle_clear k ss (eval l p ∷ ts) h = cycle_clear k ss ts h
  cycle_clear k ss (tally l ∷ ts) h = cycle_clear k ss ts h
  cycle_clear k ss (decide b ∷ ts) h = cycle_clear k ss ts h
  cycle_clear k ss (pick l a b ∷ ts) h = cycle_clear k ss ts h
  cycle_clear zero ss (again m ∷ ts) h = (λ i d x. (x, h.0, h.1), h)
  cycle_clear (suc k) ss (again m ∷ ts) h = cycle_clear k ss ts h.2
  cycle_clear k ss (iterate m ∷ ts) h = cycle_clear k ss ts h
  cycle_clear k ss (back ∷ ts) h = (h.0, h)

  return_clear : (ss : List Typing) (ts : List (Task Act)) → AreLeft ss ts → Clear ss (from_back ts)
  return_clear ss [] h = (λ i d x. tt, tt)
  return_clear ss (run b ∷ ts) h = return_clear ss ts h
  return_clear ss (eval l p ∷ ts) h = return_clear ss ts h
  return_clear ss (tally l ∷ ts) h = return_clear ss ts h
  return_clear ss (decide b ∷ ts) h = return_clear ss ts h
  return_clear ss (pick l a b ∷ ts) h = return_clear ss ts h
  return_clear ss (again m ∷ ts) h = return_clear ss ts h.2
  return_clear ss (iterate m ∷ ts) h = return_clear ss ts h
  return_clear ss (back ∷ ts) h = (h.0, h)

  run_clear : (b : Steps Act) (ss : List Typing) (ts : List (Task Act)) → Blocks (base ss) b → Always ss ts → Always ss (run b ∷ ts)
  run_clear stop ss ts h more i d x = more i d x
  run_clear (also l f rest) ss ts h more i d x = (x, h.0, h.1, more)

  then_on : (p : Parts Act) (s t : Typing) → Go s p t → (ss : List Typing) (ts : List (Task Act)) → ((i : Joined) (d : Core) → IsSo n t d → TasksSuit ss ts i d)
      → (j : Joined) (c : Core) → IsSo n s c → On p (TasksSuit ss ts) j c
  then_on p s t h ss ts more j c x = leads_then coarrays n layouts p s t h (TasksSuit ss ts) more j c x

  form_clear : (l : ℕ) (f : Form Act) (ss : List Typing) (ts : List (Task Act)) → FormSuits coarrays n layouts (base ss) f → Clear ss ts → Clear ss (form_tasks l f ts)
  form_clear l (simple p) ss ts h more = (then_on p (base ss) (base ss) h ss ts more.0, more.1)
  form_clear l (choose p b) ss ts h more = (then_on p (base ss) (base ss) h.0 ss (decide b ∷ ts) (λ i d x. (x, h.1, more.0)), more.1)
  form_clear l (loop s k t b) ss ts h more =
      let m : Loop Act = record { line = l; next = k; test = t; body = b } in (
        leads_then coarrays n layouts s (base ss) (base ss) h.0 (On t (TasksSuit ss (iterate m ∷ ts))) (then_on t (base ss) (told (base ss)) h.2 ss (iterate m ∷ ts) (λ i d x. (x, (h.1, h.2, h.3), more.0))),
        more.1,
      )
  form_clear l (around p b m q) ss ts h more =
      (then_on p (base ss) (base ss) h.0 ss (run b ∷ tally m ∷ eval m q ∷ ts) (run_clear b ss (tally m ∷ eval m q ∷ ts) h.1 (then_on q (base ss) (base ss) h.2 ss ts more.0)), more.1)
  form_clear l (exit k) ss ts h more = exit_clear k ss ts more.1
  form_clear l (cycle k) ss ts h more = cycle_clear k ss ts more.1
  form_clear l return ss ts h more = return_clear ss ts more.1

  -- ---- one step
  abbrev Good : Joined → Config Act Core → Type 0
  Good j c = (ss : List Typing) × TasksSuit ss c.tasks j c.core × AreLeft ss c.tasks

  abbrev Follows : Joined → Move (Config Act Core) Ask Reply → Type 0
  Follows j (goes c) = Good j c
  Follows j (asks a l f) = Suits coarrays a × ((r : Reply) → Tells coarrays j a r → Good (joined_by a) (f r))
  Follows j over = Unit {0}

  counted_follows : (limit l k : ℕ) (j : Joined) (onward : Config Act Core) (c : Core) → Good j onward → Follows j (counted image_language limit l k onward (to [] c k))
  counted_follows limit l k j onward c h = by_count (nat_lt k limit)
    where
      by_count : (b : Bool) → Follows j (cond b (goes onward) (asks (image_language.too_many (k + 1)) l (λ r. to [] c k)))
      by_count true = h
      by_count false = (tt, λ r x. ([], tt, tt))

  act_follows : (l k : ℕ) (j : Joined) (ss : List Typing) (ts : List (Task Act)) (q : Parts Act) (c : Core) (e : Acted) → EffectSuits coarrays e (On q (TasksSuit ss ts)) j → AreLeft ss ts
      → Follows j (acted image_language l (λ x. to (eval l q ∷ ts) x k) (λ x. to [] x k) c e)
  act_follows l k j ss ts q c (language.goes_to x) h left = (ss, h, left)
  act_follows l k j ss ts q c (language.faults m) h left = (tt, λ r x. ([], tt, tt))
  act_follows l k j ss ts q c (language.asking a f) h left = (h.0, λ r x. (ss, h.1 r x, left))
  act_follows l k j ss ts q c (language.ends_with a) h left = (h, λ r x. ([], tt, tt))
  act_follows l k j ss ts q c language.stuck h left = tt

  test_follows : (t : Tested Core) (k : ℕ) (j : Joined) (ss : List Typing) (ts us : List (Task Act)) → TestSuits coarrays t (TasksSuit ss ts j) (TasksSuit ss us j) → AreLeft ss ts → AreLeft ss us
      → Follows j (by_test t (λ c. to ts c k) (λ c. to us c k))
  test_follows no_value k j ss ts us h lt lu = tt
  test_follows (holds c) k j ss ts us h lt lu = (ss, h, lt)
  test_follows (fails c) k j ss ts us h lt lu = (ss, h, lu)

  entered : (b : Bool) (j : Joined) (c : Config Act Core) → Good j c → Follows j (cond b over (goes c))
  entered true j c h = tt
  entered false j c h = h

  module _ (procedures : ℕ → Steps Act) (limit : ℕ) (bodies : BodiesSuit coarrays n layouts procedures) where
    task_follows : (t : Task Act) (ts : List (Task Act)) (j : Joined) (c : Core) (k : ℕ) (ss : List Typing) → TasksSuit ss (t ∷ ts) j c → AreLeft ss (t ∷ ts)
        → Follows j (step_task image_language procedures limit t ts c k)
    task_follows (run stop) ts j c k ss h left = (ss, h, left)
    task_follows (run (also l f rest)) ts j c k ss (x, hf, hr, h) left =
        counted_follows limit l k j (to (form_tasks l f (run rest ∷ ts)) c (k + 1)) c (let y = form_clear l f ss (run rest ∷ ts) hf (run_clear rest ss ts hr h, left) in (ss, y.0 j c x, y.1))
    task_follows (eval l end_parts) ts j c k ss h left = (ss, h, left)
    task_follows (eval l (value p q)) ts j c k ss h left = (ss, h, left)
    task_follows (eval l (act a q)) ts j c k ss h left = act_follows l k j ss ts q c (effect_of a c) h left
    task_follows (eval l (enter m q)) ts j c k ss (s, inside, x, more) left =
        entered (nat_lt (frames c) (backs ts)) j (to (run (procedures m) ∷ back ∷ eval l q ∷ ts) c k)
        (s ∷ ss, run_clear (procedures m) (s ∷ ss) (back ∷ eval l q ∷ ts) (bodies m s inside) more j c x, (more, left))
    task_follows (eval l (either a b q)) ts j c k ss h left = test_follows (tested c) k j ss (eval l a ∷ run stop ∷ eval l q ∷ ts) (eval l b ∷ eval l q ∷ ts) h left left
    task_follows (tally l) ts j c k ss h left = counted_follows limit l k j (to ts c (k + 1)) c (ss, h, left)
    task_follows (decide (otherwise b)) ts j c k ss (x, hb, h) left = (ss, run_clear b ss ts hb h j c x, left)
    task_follows (decide (branch l p a rest)) ts j c k ss (x, hb, h) left = (ss, then_on p (base ss) (told (base ss)) hb.0 ss (pick l a rest ∷ ts) (λ i d y. (y, hb.1, hb.2, h)) j c x, left)
    task_follows (pick l a rest) ts j c k ss (x, ha, hb, h) left =
        test_follows (tested c) k j ss (run a ∷ ts) (decide rest ∷ ts)
        (test_suits coarrays n (Some kinds.L4) (base ss) c (TasksSuit ss (run a ∷ ts) j) (TasksSuit ss (decide rest ∷ ts) j) x (λ d y. run_clear a ss ts ha h j d y) (λ d y. (y, hb, h))) left left
    task_follows (again m) ts j c k ss (x, hm, h) left =
        (ss, leads_then coarrays n layouts m.next (base ss) (base ss) hm.0 (On m.test (TasksSuit ss (iterate m ∷ ts))) (then_on m.test (base ss) (told (base ss)) hm.1 ss (iterate m ∷ ts) (λ i d y. (y, hm, h))) j c x, left.2)
    task_follows (iterate m) ts j c k ss (x, hm, h) left =
        test_follows (tested c) k j ss (tally m.line ∷ run m.body ∷ again m ∷ ts) ts
        (test_suits coarrays n (Some kinds.L4) (base ss) c (TasksSuit ss (tally m.line ∷ run m.body ∷ again m ∷ ts) j) (TasksSuit ss ts j) x
        (λ d y. run_clear m.body ss (again m ∷ ts) hm.2 (λ i e z. (z, hm, h)) j d y) (λ d y. h j d y)) (hm, h, left) left
    task_follows back ts j c k ss h left = (callers ss, h, left.1)

    step_follows : (j : Joined) (c : Config Act Core) → Good j c → Follows j (step image_language procedures limit c)
    step_follows j c h = by_tasks c.tasks c.core c.count h
      where
        by_tasks : (ts : List (Task Act)) (x : Core) (k : ℕ) → Good j (to ts x k) → Follows j (step image_language procedures limit (to ts x k))
        by_tasks [] x k g = tt
        by_tasks (t ∷ ts) x k (ss, h, left) = task_follows t ts j x k ss h left

    -- ---- a walk
    abbrev Ls : Config Act Core → Move (Config Act Core) Ask Reply
    Ls = step image_language procedures limit

    come_on : (k : ℕ) (j : Joined) (v : Move (Config Act Core) Ask Reply) → Follows j v → ((c : Config Act Core) → Good j c → Follows j (go Ls k c)) → Follows j (goes_on v (go Ls k))
    come_on k j (goes c) w more = more c w
    come_on k j (asks a l f) w more = w
    come_on k j over w more = w

    come : (k : ℕ) (j : Joined) (c : Config Act Core) → Good j c → Follows j (go Ls k c)
    come zero j c g = g
    come (suc k) j c g = come_on k j (Ls c) (step_follows j c g) (come k j)

    all_suit : (es : List (Said Ask Reply)) (j : Joined) (c e : Config Act Core) → Good j c → AllTell coarrays j es → Walk Ls c es e → AllSuit coarrays es
    all_suit [] j c e g tells w = tt
    all_suit (x ∷ es) j c e g (b, tells) (f, (k, h), w) =
        let s = subst (Follows j) h (come k j c g) in
        (s.0, all_suit es (joined_by x.ask) (f x.reply) e (s.1 x.reply b) tells w)

    -- from the start of a program on
    pub walks_suit : (line : ℕ) (s : Typing) → IsIn coarrays n layouts 0 s → (first : Core) → IsSo n s first → (es : List (Said Ask Reply)) (c : Config Act Core) → AllTell coarrays None es
        → Walk Ls (start (ask end_program) line first) es c → AllSuit coarrays es
    walks_suit line s inside first x es c tells w =
        all_suit es None (start (ask end_program) line first) c (s ∷ [], (s, inside, x, λ i d y. tt), tt) tells w

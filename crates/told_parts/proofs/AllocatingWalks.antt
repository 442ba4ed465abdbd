-- The walk of a program whose acts allocate and deallocate coarrays of a set alone does so too.
use Rattle.std.proofs.Common.{ℕ, zero, suc, ◌+◌, nat_lt, List, [], ◌∷◌, Bool, true, false, cond, subst}
use Rattle.trace_theory.specs.Entries.{Each}
use Rattle.trace_theory.specs.Machines.{Move, goes, asks, over, Said, go, goes_on, Walk}
use Rattle.caf_events.specs.declared.ask.Ask.{Ask}
use Rattle.caf_events.specs.declared.reply.Reply.{Reply}
use Rattle.walk_theory.specs.Language.{goes_to, faults, asking, ends_with, stuck, Tested, no_value, holds, fails, acted, counted, by_test}
use Rattle.walk_theory.specs.Syntax.{Parts, end_parts, value, act, enter, either, Form, simple, choose, loop, around, exit, cycle, return, otherwise, branch, Steps, stop, also}
use Rattle.walk_theory.specs.Walks.{Loop, Task, run, eval, tally, decide, pick, again, iterate, back, after_loop, from_loop, from_back, backs, Config, to, form_tasks, start, step, step_task}
use Rattle.image_acts.specs.Acts.{Act, ask, end_program}
use Rattle.image_acts.specs.Core.{Core}
use Rattle.image_acts.specs.Taking.{Acted, tested}
use Rattle.image_acts.specs.Meaning.{effect_of, frames, image_language}
use Rattle.told_parts.specs.Allocating.{IsOfSet, PartsActOn, FormActsOn, BranchesActOn, StepsActOn, WalksOfSet}
use Rattle.told_parts.proofs.AllocatingActs.{EffectOfSet, okay_act}

module _ (f : ℕ → Bool) where
  abbrev LoopActsOn : Loop Act → Type 0
  LoopActsOn m = PartsActOn f m.next × PartsActOn f m.test × StepsActOn f m.body

  abbrev TaskActsOn : Task Act → Type 0
  TaskActsOn (run ss) = StepsActOn f ss
  TaskActsOn (eval l p) = PartsActOn f p
  TaskActsOn (tally l) = Unit {0}
  TaskActsOn (decide b) = BranchesActOn f b
  TaskActsOn (pick l x b) = StepsActOn f x × BranchesActOn f b
  TaskActsOn (again m) = LoopActsOn m
  TaskActsOn (iterate m) = LoopActsOn m
  TaskActsOn back = Unit {0}

  abbrev Tasks : List (Task Act) → Type 0
  Tasks ts = Each TaskActsOn ts

  left_loop : (n : ℕ) (ts : List (Task Act)) → Tasks ts → Tasks (after_loop n ts)
  left_loop n [] h = tt
  left_loop n (run ss ∷ ts) h = left_loop n ts h.1
  left_loop n (eval l p ∷ ts) h = left_loop n ts h.1
  left_loop n (tally l ∷ ts) h = left_loop n ts h.1
  left_loop n (decide b ∷ ts) h = left_loop n ts h.1
  left_loop n (pick l x b ∷ ts) h = left_loop n ts h.1
  left_loop zero (again m ∷ ts) h = h.1
  left_loop (suc n) (again m ∷ ts) h = left_loop n ts h.1
  left_loop n (iterate m ∷ ts) h = left_loop n ts h.1
  left_loop n (back ∷ ts) h = h

  next_loop : (n : ℕ) (ts : List (Task Act)) → Tasks ts → Tasks (from_loop n ts)
  next_loop n [] h = tt
  next_loop n (run ss ∷ ts) h = next_loop n ts h.1
  next_loop n (eval l p ∷ ts) h = next_loop n ts h.1
  next_loop n (tally l ∷ ts) h = next_loop n ts h.1
  next_loop n (decide b ∷ ts) h = next_loop n ts h.1
  next_loop n (pick l x b ∷ ts) h = next_loop n ts h.1
  next_loop zero (again m ∷ ts) h = h
  next_loop (suc n) (again m ∷ ts) h = next_loop n ts h.1
  next_loop n (iterate m ∷ ts) h = next_loop n ts h.1
  next_loop n (back ∷ ts) h = h

  returned : (ts : List (Task Act)) → Tasks ts → Tasks (from_back ts)
  returned [] h = tt
  returned (run ss ∷ ts) h = returned ts h.1
  returned (eval l p ∷ ts) h = returned ts h.1
  returned (tally l ∷ ts) h = returned ts h.1
  returned (decide b ∷ ts) h = returned ts h.1
  returned (pick l x b ∷ ts) h = returned ts h.1
  returned (again m ∷ ts) h = returned ts h.1
  returned (iterate m ∷ ts) h = returned ts h.1
  returned (back ∷ ts) h = h

  formed : (l : ℕ) (x : Form Act) (ts : List (Task Act)) → FormActsOn f x → Tasks ts → Tasks (form_tasks l x ts)
  formed l (simple p) ts h more = (h, more)
  formed l (choose p bs) ts h more = (h.0, (h.1, more))
  formed l (loop s n t b) ts h more = (h.0, (tt, (h.2, ((h.1, h.2, h.3), more))))
  formed l (around p b m q) ts h more = (h.0, (h.1, (tt, (h.2, more))))
  formed l (exit n) ts h more = left_loop n ts more
  formed l (cycle n) ts h more = next_loop n ts more
  formed l return ts h more = returned ts more

  -- ---- one step
  abbrev Follows : Move (Config Act Core) Ask Reply → Type 0
  Follows (goes c) = Tasks c.tasks
  Follows (asks q l g) = IsOfSet f q × ((r : Reply) → Tasks (g r).tasks)
  Follows over = Unit {0}

  counted_so : (limit l n : ℕ) (onward : Config Act Core) (c : Core) → Tasks onward.tasks → Follows (counted image_language limit l n onward (to [] c n))
  counted_so limit l n onward c h = by_count (nat_lt n limit)
    where
      by_count : (b : Bool) → Follows (cond b (goes onward) (asks (image_language.too_many (n + 1)) l (λ r. to [] c n)))
      by_count true = h
      by_count false = (tt, λ r. tt)

  acted_so : (l n : ℕ) (ts : List (Task Act)) (q : Parts Act) (c : Core) (e : Acted) → EffectOfSet f e → PartsActOn f q → Tasks ts → Follows (acted image_language l (λ d. to (eval l q ∷ ts) d n) (λ d. to [] d n) c e)
  acted_so l n ts q c (goes_to d) h g more = (g, more)
  acted_so l n ts q c (faults k) h g more = (tt, λ r. tt)
  acted_so l n ts q c (asking x y) h g more = (h, λ r. (g, more))
  acted_so l n ts q c (ends_with x) h g more = (h, λ r. tt)
  acted_so l n ts q c stuck h g more = tt

  tested_so : (t : Tested Core) (n : ℕ) (ts us : List (Task Act)) → Tasks ts → Tasks us → Follows (by_test t (λ d. to ts d n) (λ d. to us d n))
  tested_so no_value n ts us h g = tt
  tested_so (holds c) n ts us h g = h
  tested_so (fails c) n ts us h g = g

  entered_so : (b : Bool) (c : Config Act Core) → Tasks c.tasks → Follows (cond b over (goes c))
  entered_so true c h = tt
  entered_so false c h = h

  module _ (procedures : ℕ → Steps Act) (limit : ℕ) (bodies : (n : ℕ) → StepsActOn f (procedures n)) where
    task_so : (t : Task Act) (ts : List (Task Act)) (c : Core) (n : ℕ) → TaskActsOn t → Tasks ts → Follows (step_task image_language procedures limit t ts c n)
    task_so (run stop) ts c n h more = more
    task_so (run (also l x rest)) ts c n h more = counted_so limit l n (to (form_tasks l x (run rest ∷ ts)) c (n + 1)) c (formed l x (run rest ∷ ts) h.0 (h.1, more))
    task_so (eval l end_parts) ts c n h more = more
    task_so (eval l (value p q)) ts c n h more = (h.0, (h.1, more))
    task_so (eval l (act x q)) ts c n h more = acted_so l n ts q c (effect_of x c) (okay_act f x c h.0) h.1 more
    task_so (eval l (enter m q)) ts c n h more = entered_so (nat_lt (frames c) (backs ts)) (to (run (procedures m) ∷ back ∷ eval l q ∷ ts) c n) (bodies m, (tt, (h, more)))
    task_so (eval l (either p q r)) ts c n h more = tested_so (tested c) n (eval l p ∷ run stop ∷ eval l r ∷ ts) (eval l q ∷ eval l r ∷ ts) (h.0, (tt, (h.2, more))) (h.1, (h.2, more))
    task_so (tally l) ts c n h more = counted_so limit l n (to ts c (n + 1)) c more
    task_so (decide (otherwise b)) ts c n h more = (h, more)
    task_so (decide (branch l p x rest)) ts c n h more = (h.0, ((h.1, h.2), more))
    task_so (pick l x rest) ts c n h more = tested_so (tested c) n (run x ∷ ts) (decide rest ∷ ts) (h.0, more) (h.1, more)
    task_so (again m) ts c n h more = (h.0, (h.1, (h, more)))
    task_so (iterate m) ts c n h more = tested_so (tested c) n (tally m.line ∷ run m.body ∷ again m ∷ ts) ts (tt, (h.2, (h, more))) more
    task_so back ts c n h more = more

    abbrev Ls : Config Act Core → Move (Config Act Core) Ask Reply
    Ls = step image_language procedures limit

    step_so : (c : Config Act Core) → Tasks c.tasks → Follows (Ls c)
    step_so c h = by_tasks c.tasks c.core c.count h
      where
        by_tasks : (ts : List (Task Act)) (x : Core) (n : ℕ) → Tasks ts → Follows (step image_language procedures limit (to ts x n))
        by_tasks [] x n g = tt
        by_tasks (t ∷ ts) x n g = task_so t ts x n g.0 g.1

    -- ---- a walk
    come_on : (n : ℕ) (v : Move (Config Act Core) Ask Reply) → Follows v → ((c : Config Act Core) → Tasks c.tasks → Follows (go Ls n c)) → Follows (goes_on v (go Ls n))
    come_on n (goes c) w more = more c w
    come_on n (asks q l g) w more = w
    come_on n over w more = w

    come : (n : ℕ) (c : Config Act Core) → Tasks c.tasks → Follows (go Ls n c)
    come zero c g = g
    come (suc n) c g = come_on n (Ls c) (step_so c g) (come n)

    walks_so : (es : List (Said Ask Reply)) (c e : Config Act Core) → Tasks c.tasks → Walk Ls c es e → Each (λ (x : Said Ask Reply). IsOfSet f x.ask) es
    walks_so [] c e g w = tt
    walks_so (x ∷ es) c e g (k, (n, h), w) =
        let s = subst Follows h (come n c g) in
        (s.0, walks_so es (k x.reply) e (s.1 x.reply) w)

    pub start_so : (line : ℕ) (first : Core) → WalksOfSet f Ls (start (ask end_program) line first)
    start_so line first es e w = walks_so es (start (ask end_program) line first) e (tt, (tt, ((tt, tt), tt))) w

-- The walk of a program whose blocks name no team but one that was told names no other.
use Rattle.std.proofs.Common.{ℕ, zero, suc, ◌+◌, nat_lt, List, [], ◌∷◌, Bool, true, false, cond, subst}
use Rattle.trace_theory.specs.Entries.{Each}
use Rattle.trace_theory.specs.Machines.{Move, goes, asks, over, Said, go, goes_on, Walk}
use Rattle.trace_theory.specs.Simulations.{AllAnswer}
use Rattle.caf_events.specs.declared.ask.Ask.{Ask}
use Rattle.caf_events.specs.declared.reply.Reply.{Reply}
use Rattle.caf_events.specs.Answers.{Answers}
use Rattle.walk_theory.specs.Language.{goes_to, faults, asking, ends_with, stuck, Tested, no_value, holds, fails, acted, counted, by_test}
use Rattle.walk_theory.specs.Syntax.{Parts, end_parts, value, act, enter, either, Form, simple, choose, loop, around, exit, cycle, return, otherwise, branch, Steps, stop, also}
use Rattle.walk_theory.specs.Walks.{Loop, Task, run, eval, tally, decide, pick, again, iterate, back, after_loop, from_loop, from_back, backs, Config, to, form_tasks, start, step, step_task}
use Rattle.image_acts.specs.Acts.{Act, ask, end_program}
use Rattle.image_acts.specs.Core.{Core}
use Rattle.image_acts.specs.Taking.{Acted, tested}
use Rattle.image_acts.specs.Meaning.{effect_of, frames, image_language}
use Rattle.told_walks.specs.Asked.{Told, IsKnown, IsShort, Names, EffectNames, TestNames, PartsName, NamesTold, FormNames, BranchesName, StepsName, AllName, WalksTold, told_next}
use Rattle.told_walks.proofs.Parts.{names_then, known_test}

-- ---- what is left to do
abbrev LoopNames : Loop Act → Type 0
LoopNames m = NamesTold m.next × NamesTold m.test × StepsName m.body

-- Tasks that name no team but one that was told from this core on.
abbrev TasksName : List (Task Act) → Told → Core → Type 0
TasksName [] k c = Unit {0}
TasksName (run stop ∷ ts) k c = TasksName ts k c
TasksName (run (also l f rest) ∷ ts) k c = IsKnown k c × FormNames f × StepsName rest × ((j : Told) (e : Core) → IsKnown j e → TasksName ts j e)
TasksName (eval l p ∷ ts) k c = PartsName p (TasksName ts) k c
TasksName (tally l ∷ ts) k c = TasksName ts k c
TasksName (decide b ∷ ts) k c = IsKnown k c × BranchesName b × ((j : Told) (e : Core) → IsKnown j e → TasksName ts j e)
TasksName (pick l a b ∷ ts) k c = IsKnown k c × StepsName a × BranchesName b × ((j : Told) (e : Core) → IsKnown j e → TasksName ts j e)
TasksName (again m ∷ ts) k c = IsKnown k c × LoopNames m × ((j : Told) (e : Core) → IsKnown j e → TasksName ts j e)
TasksName (iterate m ∷ ts) k c = IsKnown k c × LoopNames m × ((j : Told) (e : Core) → IsKnown j e → TasksName ts j e)
TasksName (back ∷ ts) k c = TasksName ts k c

-- wherever the invariant holds
abbrev Always : List (Task Act) → Type 0
Always ts = (j : Told) (e : Core) → IsKnown j e → TasksName ts j e

-- from each end of an iteration or of a procedure's body on, to which EXIT, CYCLE or RETURN can lead
abbrev AreLeft : List (Task Act) → Type 0
AreLeft [] = Unit {0}
AreLeft (run ss ∷ ts) = AreLeft ts
AreLeft (eval l p ∷ ts) = AreLeft ts
AreLeft (tally l ∷ ts) = AreLeft ts
AreLeft (decide b ∷ ts) = AreLeft ts
AreLeft (pick l a b ∷ ts) = AreLeft ts
AreLeft (again m ∷ ts) = LoopNames m × Always ts × AreLeft ts
AreLeft (iterate m ∷ ts) = AreLeft ts
AreLeft (back ∷ ts) = Always ts × AreLeft ts

abbrev pub Clear : List (Task Act) → Type 0
Clear ts = Always ts × AreLeft ts

exit_clear : (n : ℕ) (ts : List (Task Act)) → AreLeft ts → Clear (after_loop n ts)
exit_clear n [] h = (λ j e i. tt, tt)
exit_clear n (run ss ∷ ts) h = exit_clear n ts h
exit_clear n (eval l p ∷ ts) h = exit_clear n ts h
exit_clear n (tally l ∷ ts) h = exit_clear n ts h
exit_clear n (decide bs ∷ ts) h = exit_clear n ts h
exit_clear n (pick l a bs ∷ ts) h = exit_clear n ts h
exit_clear zero (again m ∷ ts) h = (h.1, h.2)
exit_clear (suc n) (again m ∷ ts) h = exit_clear n ts h.2
exit_clear n (iterate m ∷ ts) h = exit_clear n ts h
exit_clear n (back ∷ ts) h = (h.0, h)

cycle_clear : (n : ℕ) (ts : List (Task Act)) → AreLeft ts → Clear (from_loop n ts)
cycle_clear n [] h = (λ j e i. tt, tt)
cycle_clear n (run ss ∷ ts) h = cycle_clear n ts h
cycle_clear n (eval l p ∷ ts) h = cycle_clear n ts h
cycle_clear n (tally l ∷ ts) h = cycle_clear n ts h
cycle_clear n (decide bs ∷ ts) h = cycle_clear n ts h
cycle_clear n (pick l a bs ∷ ts) h = cycle_clear n ts h
cycle_clear zero (again m ∷ ts) h = (λ j e i. (i, h.0, h.1), h)
cycle_clear (suc n) (again m ∷ ts) h = cycle_clear n ts h.2
cycle_clear n (iterate m ∷ ts) h = cycle_clear n ts h
cycle_clear n (back ∷ ts) h = (h.0, h)

return_clear : (ts : List (Task Act)) → AreLeft ts → Clear (from_back ts)
return_clear [] h = (λ j e i. tt, tt)
return_clear (run ss ∷ ts) h = return_clear ts h
return_clear (eval l p ∷ ts) h = return_clear ts h
return_clear (tally l ∷ ts) h = return_clear ts h
return_clear (decide bs ∷ ts) h = return_clear ts h
return_clear (pick l a bs ∷ ts) h = return_clear ts h
return_clear (again m ∷ ts) h = return_clear ts h.2
return_clear (iterate m ∷ ts) h = return_clear ts h
return_clear (back ∷ ts) h = (h.0, h)

run_clear : (ss : Steps Act) (ts : List (Task Act)) → StepsName ss → Always ts → Always (run ss ∷ ts)
run_clear stop ts h more j e i = more j e i
run_clear (also l f rest) ts h more j e i = (i, h.0, h.1, more)

form_clear : (l : ℕ) (f : Form Act) (ts : List (Task Act)) → FormNames f → Clear ts → Clear (form_tasks l f ts)
form_clear l (simple p) ts h more = (names_then p h (TasksName ts) more.0, more.1)
form_clear l (choose p bs) ts h more = (names_then p h.0 (TasksName (decide bs ∷ ts)) (λ j e i. (i, h.1, more.0)), more.1)
form_clear l (loop s n t b) ts h more =
    let m : Loop Act = record { line = l; next = n; test = t; body = b } in
    (names_then s h.0 (PartsName t (TasksName (iterate m ∷ ts))) (names_then t h.2 (TasksName (iterate m ∷ ts)) (λ j e i. (i, (h.1, h.2, h.3), more.0))), more.1)
form_clear l (around p b m q) ts h more =
    (names_then p h.0 (TasksName (run b ∷ tally m ∷ eval m q ∷ ts)) (run_clear b (tally m ∷ eval m q ∷ ts) h.1 (names_then q h.2 (TasksName ts) more.0)), more.1)
form_clear l (exit n) ts h more = exit_clear n ts more.1
form_clear l (cycle n) ts h more = cycle_clear n ts more.1
form_clear l return ts h more = return_clear ts more.1

-- ---- one step
abbrev Good : Told → Config Act Core → Type 0
Good k c = TasksName c.tasks k c.core × AreLeft c.tasks

abbrev Follows : Told → Move (Config Act Core) Ask Reply → Type 0
Follows k (goes c) = Good k c
Follows k (asks a l f) = Names k a × ((r : Reply) → Answers a r → IsShort r → Good (told_next k a r) (f r))
Follows k over = Unit {0}

counted_follows : (limit l n : ℕ) (k : Told) (onward : Config Act Core) (c : Core) → Good k onward → Follows k (counted image_language limit l n onward (to [] c n))
counted_follows limit l n k onward c h = by_count (nat_lt n limit)
  where
    by_count : (b : Bool) → Follows k (cond b (goes onward) (asks (image_language.too_many (n + 1)) l (λ r. to [] c n)))
    by_count true = h
    by_count false = (tt, λ r x s. (tt, tt))

act_follows : (l n : ℕ) (ts : List (Task Act)) (q : Parts Act) (c : Core) (e : Acted) (k : Told) → EffectNames e (PartsName q (TasksName ts)) k → AreLeft ts
    → Follows k (acted image_language l (λ x. to (eval l q ∷ ts) x n) (λ x. to [] x n) c e)
act_follows l n ts q c (goes_to x) k h left = (h, left)
act_follows l n ts q c (faults m) k h left = (tt, λ r x s. (tt, tt))
act_follows l n ts q c (asking a f) k h left = (h.0, λ r x s. (h.1 r x s, left))
act_follows l n ts q c (ends_with a) k h left = (h, λ r x s. (tt, tt))
act_follows l n ts q c stuck k h left = tt

test_follows : (t : Tested Core) (n : ℕ) (ts us : List (Task Act)) (k : Told) → TestNames t (TasksName ts k) (TasksName us k) → AreLeft ts → AreLeft us → Follows k (by_test t (λ x. to ts x n) (λ x. to us x n))
test_follows no_value n ts us k h lt lu = tt
test_follows (holds c) n ts us k h lt lu = (h, lt)
test_follows (fails c) n ts us k h lt lu = (h, lu)

entered : (b : Bool) (k : Told) (c : Config Act Core) → Good k c → Follows k (cond b over (goes c))
entered true k c h = tt
entered false k c h = h

module _ (procedures : ℕ → Steps Act) (limit : ℕ) (bodies : (n : ℕ) → StepsName (procedures n)) where
  task_follows : (t : Task Act) (ts : List (Task Act)) (c : Core) (n : ℕ) (k : Told) → Good k (to (t ∷ ts) c n) → Follows k (step_task image_language procedures limit t ts c n)
  task_follows (run stop) ts c n k (h, left) = (h, left)
  task_follows (run (also l f rest)) ts c n k ((i, hf, hr, h), left) =
      counted_follows limit l n k (to (form_tasks l f (run rest ∷ ts)) c (n + 1)) c (let x = form_clear l f (run rest ∷ ts) hf (run_clear rest ts hr h, left) in (x.0 k c i, x.1))
  task_follows (eval l end_parts) ts c n k (h, left) = (h, left)
  task_follows (eval l (value p q)) ts c n k (h, left) = (h, left)
  task_follows (eval l (act a q)) ts c n k (h, left) = act_follows l n ts q c (effect_of a c) k h left
  task_follows (eval l (enter m q)) ts c n k (h, left) =
      entered (nat_lt (frames c) (backs ts)) k (to (run (procedures m) ∷ back ∷ eval l q ∷ ts) c n) (run_clear (procedures m) (back ∷ eval l q ∷ ts) (bodies m) h.1 k c h.0, (h.1, left))
  task_follows (eval l (either a b q)) ts c n k (h, left) = test_follows (tested c) n (eval l a ∷ run stop ∷ eval l q ∷ ts) (eval l b ∷ eval l q ∷ ts) k h left left
  task_follows (tally l) ts c n k (h, left) = counted_follows limit l n k (to ts c (n + 1)) c (h, left)
  task_follows (decide (otherwise b)) ts c n k (h, left) = (run_clear b ts h.1 h.2 k c h.0, left)
  task_follows (decide (branch l p a rest)) ts c n k (h, left) = (names_then p h.1.0 (TasksName (pick l a rest ∷ ts)) (λ j e i. (i, h.1.1, h.1.2, h.2)) k c h.0, left)
  task_follows (pick l a rest) ts c n k (h, left) =
      test_follows (tested c) n (run a ∷ ts) (decide rest ∷ ts) k (known_test k c (TasksName (run a ∷ ts)) (TasksName (decide rest ∷ ts)) h.0 (run_clear a ts h.1 h.3) (λ j e i. (i, h.2, h.3))) left left
  task_follows (again m) ts c n k (h, left) =
      (names_then m.next h.1.0 (PartsName m.test (TasksName (iterate m ∷ ts))) (names_then m.test h.1.1 (TasksName (iterate m ∷ ts)) (λ j e i. (i, h.1, h.2))) k c h.0, left.2)
  task_follows (iterate m) ts c n k (h, left) =
      test_follows (tested c) n (tally m.line ∷ run m.body ∷ again m ∷ ts) ts k
      (known_test k c (TasksName (tally m.line ∷ run m.body ∷ again m ∷ ts)) (TasksName ts) h.0 (run_clear m.body (again m ∷ ts) h.1.2 (λ j e i. (i, h.1, h.2))) h.2)
      (h.1, h.2, left) left
  task_follows back ts c n k (h, left) = (h, left.1)

  step_follows : (k : Told) (c : Config Act Core) → Good k c → Follows k (step image_language procedures limit c)
  step_follows k c h = by_tasks c.tasks c.core c.count h
    where
      by_tasks : (ts : List (Task Act)) (x : Core) (n : ℕ) → Good k (to ts x n) → Follows k (step image_language procedures limit (to ts x n))
      by_tasks [] x n g = tt
      by_tasks (t ∷ ts) x n g = task_follows t ts x n k g

  -- ---- a walk
  abbrev Ls : Config Act Core → Move (Config Act Core) Ask Reply
  Ls = step image_language procedures limit

  come_on : (n : ℕ) (k : Told) (v : Move (Config Act Core) Ask Reply) → Follows k v → ((c : Config Act Core) → Good k c → Follows k (go Ls n c)) → Follows k (goes_on v (go Ls n))
  come_on n k (goes c) w more = more c w
  come_on n k (asks a l f) w more = w
  come_on n k over w more = w

  come : (n : ℕ) (k : Told) (c : Config Act Core) → Good k c → Follows k (go Ls n c)
  come zero k c g = g
  come (suc n) k c g = come_on n k (Ls c) (step_follows k c g) (come n k)

  walks_name : (es : List (Said Ask Reply)) (k : Told) (c e : Config Act Core) → Good k c → AllAnswer Answers es → Each (λ (x : Said Ask Reply). IsShort x.reply) es → Walk Ls c es e → AllName k es
  walks_name [] k c e g answers short w = tt
  walks_name (x ∷ es) k c e g (a, answers) (b, short) (f, (n, h), w) =
      let s = subst (Follows k) h (come n k c g) in
      (s.0, walks_name es (told_next k x.ask x.reply) (f x.reply) e (s.1 x.reply a b) answers short w)

  clear_walks : (c : Config Act Core) (k : Told) → IsKnown k c.core → Clear c.tasks → (es : List (Said Ask Reply)) (e : Config Act Core) → AllAnswer Answers es
      → Each (λ (x : Said Ask Reply). IsShort x.reply) es → Walk Ls c es e → AllName k es
  clear_walks c k i h es e answers short w = walks_name es k c e (h.0 k c.core i, h.1) answers short w

  -- from the start of a program on
  pub start_walks : (line : ℕ) (first : Core) (k : Told) → IsKnown k first → WalksTold k Ls (start (ask end_program) line first)
  start_walks line first k i es e answers short w = clear_walks (start (ask end_program) line first) k i (λ j d h. (h, λ l b g. tt), tt) es e answers short w

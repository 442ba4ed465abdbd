-- The walk of a program whose blocks keep the order is in order, and is over only behind its last step.
use Rattle.std.proofs.Common.{◌≡◌, ℕ, zero, suc, ◌+◌, nat_lt, List, [], ◌∷◌, Bool, true, false, cond, length, inl, inr, refl, sym, subst, arith}
use Rattle.std.specs.Prelude.{ℤ, None}
use Rattle.std.proofs.lemmas.Bool.{cases_Bool}
use Rattle.trace_theory.specs.Machines.{Move, goes, asks, over, Said, go, goes_on, Walk, WalkTo}
use Rattle.trace_theory.specs.Simulations.{AllAnswer}
use Rattle.caf_events.specs.declared.ask.Ask.{Ask}
use Rattle.caf_events.specs.declared.reply.Reply.{Reply}
use Rattle.caf_events.specs.Answers.{Answers}
use Rattle.caf_events.specs.Walkers.{IsOver}
use Rattle.caf_base.specs.Arithmetic.{is_true}
use Rattle.walk_theory.specs.Language.{Effect, goes_to, faults, asking, ends_with, stuck, Tested, no_value, holds, fails, acted, counted, by_test}
use Rattle.walk_theory.specs.Syntax.{Parts, end_parts, value, act, enter, either, Form, simple, choose, loop, around, exit, cycle, return, otherwise, branch, Steps, stop, also}
use Rattle.walk_theory.specs.Walks.{Loop, Task, run, eval, tally, decide, pick, again, iterate, back, after_loop, from_loop, from_back, backs, Config, to, form_tasks, step, step_task}
use Rattle.image_acts.specs.Acts.{Act}
use Rattle.image_acts.specs.Core.{Core, with_values}
use Rattle.image_acts.specs.Taking.{tested}
use Rattle.image_acts.specs.Meaning.{effect_of, image_language}
use Rattle.program_walks.specs.Dues.{Due, ended, owing, due_after, MayCome, InOrder, due_behind, GoesInOrder}
use Rattle.program_walks.specs.Keeping.{IsClear, EffectKeeps, TestKeeps, PartsKeep, KeepsOrder, FormKeeps, BranchesKeep, StepsKeep}
use Rattle.program_walks.proofs.Frames.{StepsFit, Framed, FramesFollow, in_body, begun, step_frames}

-- ---- parts
abbrev pub Within : (P Q : Due → Core → Type 0) → Type 0
Within P Q = (d : Due) (c : Core) → P d c → Q d c

pub effect_more : (P Q : Due → Core → Type 0) → Within P Q → (e : Effect Core Ask Reply) (d : Due) → EffectKeeps e P d → EffectKeeps e Q d
effect_more P Q w (goes_to c) d h = w d c h
effect_more P Q w (faults k) d h = h
effect_more P Q w (asking a f) d h = (h.0, λ r x. w (due_after a r) (f r) (h.1 r x))
effect_more P Q w (ends_with a) d h = h
effect_more P Q w stuck d h = h

test_more : (t : Tested Core) (P Q P' Q' : Core → Type 0) → ((c : Core) → P c → P' c) → ((c : Core) → Q c → Q' c) → TestKeeps t P Q → TestKeeps t P' Q'
test_more no_value P Q P' Q' v w h = h
test_more (holds c) P Q P' Q' v w h = v c h
test_more (fails c) P Q P' Q' v w h = w c h

pub parts_more : (p : Parts Act) (P Q : Due → Core → Type 0) → Within P Q → Within (PartsKeep p P) (PartsKeep p Q)
parts_more end_parts P Q w d c h = w d c h
parts_more (value p q) P Q w d c h = parts_more p (PartsKeep q P) (PartsKeep q Q) (parts_more q P Q w) d c h
parts_more (act a q) P Q w d c h = effect_more (PartsKeep q P) (PartsKeep q Q) (parts_more q P Q w) (effect_of a c) d h
parts_more (enter k q) P Q w d c h = (h.0, λ e. parts_more q P Q w (owing None) e (h.1 e))
parts_more (either a b q) P Q w d c h =
    test_more (tested c) (PartsKeep a (PartsKeep q P) d) (PartsKeep b (PartsKeep q P) d) (PartsKeep a (PartsKeep q Q) d) (PartsKeep b (PartsKeep q Q) d)
    (λ e. parts_more a (PartsKeep q P) (PartsKeep q Q) (parts_more q P Q w) d e) (λ e. parts_more b (PartsKeep q P) (PartsKeep q Q) (parts_more q P Q w) d e) h

-- parts that keep the order, and then what holds where nothing is owed
pub kept_then : (p : Parts Act) → KeepsOrder p → (After : Due → Core → Type 0) → ((e : Core) → After (owing None) e) → (c : Core) → PartsKeep p After (owing None) c
kept_then p k After h c = parts_more p IsClear After (λ d e q. subst (λ x. After x e) (sym q) (h e)) (owing None) c (k c)

-- ---- what is left to do
abbrev LoopKeeps : Loop Act → Type 0
LoopKeeps m = KeepsOrder m.next × KeepsOrder m.test × StepsKeep m.body

-- Tasks that keep the order from this core on. Where none is left the last step was made.
abbrev TasksKeep : List (Task Act) → Due → Core → Type 0
TasksKeep [] d c = d ≡ ended
TasksKeep (run stop ∷ ts) d c = TasksKeep ts d c
TasksKeep (run (also l f rest) ∷ ts) d c = (d ≡ owing None) × FormKeeps f × StepsKeep rest × ((e : Core) → TasksKeep ts (owing None) e)
TasksKeep (eval l p ∷ ts) d c = PartsKeep p (TasksKeep ts) d c
TasksKeep (tally l ∷ ts) d c = (d ≡ owing None) × ((e : Core) → TasksKeep ts (owing None) e)
TasksKeep (decide b ∷ ts) d c = (d ≡ owing None) × BranchesKeep b × ((e : Core) → TasksKeep ts (owing None) e)
TasksKeep (pick l a b ∷ ts) d c = (d ≡ owing None) × StepsKeep a × BranchesKeep b × ((e : Core) → TasksKeep ts (owing None) e)
TasksKeep (again m ∷ ts) d c = (d ≡ owing None) × LoopKeeps m × ((e : Core) → TasksKeep ts (owing None) e)
TasksKeep (iterate m ∷ ts) d c = (d ≡ owing None) × LoopKeeps m × ((e : Core) → TasksKeep ts (owing None) e)
TasksKeep (back ∷ ts) d c = (d ≡ owing None) × ((e : Core) → TasksKeep ts (owing None) e)

-- from each end of an iteration or of a procedure's body on, to which EXIT, CYCLE or RETURN can lead
abbrev AreLeft : List (Task Act) → Type 0
AreLeft [] = Unit {0}
AreLeft (run ss ∷ ts) = AreLeft ts
AreLeft (eval l p ∷ ts) = AreLeft ts
AreLeft (tally l ∷ ts) = AreLeft ts
AreLeft (decide b ∷ ts) = AreLeft ts
AreLeft (pick l a b ∷ ts) = AreLeft ts
AreLeft (again m ∷ ts) = LoopKeeps m × ((e : Core) → TasksKeep ts (owing None) e) × AreLeft ts
AreLeft (iterate m ∷ ts) = AreLeft ts
AreLeft (back ∷ ts) = ((e : Core) → TasksKeep ts (owing None) e) × AreLeft ts

abbrev pub Clear : List (Task Act) → Type 0
Clear ts = ((e : Core) → TasksKeep ts (owing None) e) × AreLeft ts

none_of : {X : Type 0} (n : ℕ) → 0 ≡ suc n → X
none_of n h = absurd (omega arith)

exit_clear : (n b : ℕ) (ts : List (Task Act)) → backs ts ≡ suc b → AreLeft ts → Clear (after_loop n ts)
exit_clear n b [] e h = none_of b e
exit_clear n b (run ss ∷ ts) e h = exit_clear n b ts e h
exit_clear n b (eval l p ∷ ts) e h = exit_clear n b ts e h
exit_clear n b (tally l ∷ ts) e h = exit_clear n b ts e h
exit_clear n b (decide bs ∷ ts) e h = exit_clear n b ts e h
exit_clear n b (pick l a bs ∷ ts) e h = exit_clear n b ts e h
exit_clear zero b (again m ∷ ts) e h = (h.1, h.2)
exit_clear (suc n) b (again m ∷ ts) e h = exit_clear n b ts e h.2
exit_clear n b (iterate m ∷ ts) e h = exit_clear n b ts e h
exit_clear n b (back ∷ ts) e h = (λ x. (refl, h.0), h)

cycle_clear : (n b : ℕ) (ts : List (Task Act)) → backs ts ≡ suc b → AreLeft ts → Clear (from_loop n ts)
cycle_clear n b [] e h = none_of b e
cycle_clear n b (run ss ∷ ts) e h = cycle_clear n b ts e h
cycle_clear n b (eval l p ∷ ts) e h = cycle_clear n b ts e h
cycle_clear n b (tally l ∷ ts) e h = cycle_clear n b ts e h
cycle_clear n b (decide bs ∷ ts) e h = cycle_clear n b ts e h
cycle_clear n b (pick l a bs ∷ ts) e h = cycle_clear n b ts e h
cycle_clear zero b (again m ∷ ts) e h = (λ x. (refl, h.0, h.1), h)
cycle_clear (suc n) b (again m ∷ ts) e h = cycle_clear n b ts e h.2
cycle_clear n b (iterate m ∷ ts) e h = cycle_clear n b ts e h
cycle_clear n b (back ∷ ts) e h = (λ x. (refl, h.0), h)

return_clear : (b : ℕ) (ts : List (Task Act)) → backs ts ≡ suc b → AreLeft ts → Clear (from_back ts)
return_clear b [] e h = none_of b e
return_clear b (run ss ∷ ts) e h = return_clear b ts e h
return_clear b (eval l p ∷ ts) e h = return_clear b ts e h
return_clear b (tally l ∷ ts) e h = return_clear b ts e h
return_clear b (decide bs ∷ ts) e h = return_clear b ts e h
return_clear b (pick l a bs ∷ ts) e h = return_clear b ts e h
return_clear b (again m ∷ ts) e h = return_clear b ts e h.2
return_clear b (iterate m ∷ ts) e h = return_clear b ts e h
return_clear b (back ∷ ts) e h = (λ x. (refl, h.0), h)

run_clear : (ss : Steps Act) (ts : List (Task Act)) → StepsKeep ss → ((e : Core) → TasksKeep ts (owing None) e) → (e : Core) → TasksKeep (run ss ∷ ts) (owing None) e
run_clear stop ts k h e = h e
run_clear (also l f rest) ts k h e = (refl, k.0, k.1, h)

form_clear : (l n : ℕ) (f : Form Act) (ts : List (Task Act)) → backs ts ≡ suc n → FormKeeps f → Clear ts → Clear (form_tasks l f ts)
form_clear l x (simple p) ts w k h = (kept_then p k (TasksKeep ts) h.0, h.1)
form_clear l x (choose p bs) ts w k h = (kept_then p k.0 (TasksKeep (decide bs ∷ ts)) (λ e. (refl, k.1, h.0)), h.1)
form_clear l x (loop s n t b) ts w k h =
    let m : Loop Act = record { line = l; next = n; test = t; body = b } in
    (kept_then s k.0 (PartsKeep t (TasksKeep (iterate m ∷ ts))) (kept_then t k.2 (TasksKeep (iterate m ∷ ts)) (λ e. (refl, (k.1, k.2, k.3), h.0))), h.1)
form_clear l x (around p b m q) ts w k h =
    (kept_then p k.0 (TasksKeep (run b ∷ tally m ∷ eval m q ∷ ts)) (run_clear b (tally m ∷ eval m q ∷ ts) k.1 (λ e. (refl, kept_then q k.2 (TasksKeep ts) h.0))), h.1)
form_clear l x (exit n) ts w k h = exit_clear n x ts w h.1
form_clear l x (cycle n) ts w k h = cycle_clear n x ts w h.1
form_clear l x return ts w k h = return_clear x ts w h.1

-- ---- one step
abbrev Good : Due → Config Act Core → Type 0
Good d c = TasksKeep c.tasks d c.core × AreLeft c.tasks

abbrev Follows : Due → Move (Config Act Core) Ask Reply → Type 0
Follows d (goes c) = Good d c
Follows d (asks a l k) = MayCome d a × ((r : Reply) → Answers a r → Good (due_after a r) (k r))
Follows d over = d ≡ ended

from_clear : (P : Due → Type 0) (d : Due) → d ≡ owing None → P (owing None) → P d
from_clear P d e h = subst P (sym e) h

counted_follows : (limit l n : ℕ) (d : Due) (onward : Config Act Core) (c : Core) → d ≡ owing None → Good (owing None) onward → Follows d (counted image_language limit l n onward (to [] c n))
counted_follows limit l n d onward c e h = from_clear (λ x. Follows x (counted image_language limit l n onward (to [] c n))) d e (elim (cases_Bool (nat_lt n limit)) [ inl t ↦ rw t h | inr f ↦ rw f ((λ x. x, tt), λ r a. (refl, tt)) ])

act_follows : (l n : ℕ) (ts : List (Task Act)) (q : Parts Act) (c : Core) (e : Effect Core Ask Reply) (d : Due) → EffectKeeps e (PartsKeep q (TasksKeep ts)) d → AreLeft ts
    → Follows d (acted image_language l (λ x. to (eval l q ∷ ts) x n) (λ x. to [] x n) c e)
act_follows l n ts q c (goes_to x) d h left = (h, left)
act_follows l n ts q c (faults k) d h left = from_clear (λ x. Follows x (acted image_language l (λ x. to (eval l q ∷ ts) x n) (λ x. to [] x n) c (faults k))) d h ((λ x. x, tt), λ r a. (refl, tt))
act_follows l n ts q c (asking a f) d h left = (h.0, λ r x. (h.1 r x, left))
act_follows l n ts q c (ends_with a) d h left = (h.0, λ r x. (h.1 r, tt))
act_follows l n ts q c stuck d h left = h

test_follows : (t : Tested Core) (n : ℕ) (ts us : List (Task Act)) (d : Due) → TestKeeps t (TasksKeep ts d) (TasksKeep us d) → AreLeft ts → AreLeft us → Follows d (by_test t (λ x. to ts x n) (λ x. to us x n))
test_follows no_value n ts us d h lt lu = absurd h
test_follows (holds c) n ts us d h lt lu = (h, lt)
test_follows (fails c) n ts us d h lt lu = (h, lu)

pub each_test : (c : Core) (P Q : Core → Type 0) → ((d : Core) → P d) → ((d : Core) → Q d) → TestKeeps (tested c) P Q
each_test c P Q p q = by_values c.values
  where
    by_truth : (b : Bool) (vs : List ℤ) → TestKeeps (cond b (holds (with_values c vs)) (fails (with_values c vs))) P Q
    by_truth true vs = p (with_values c vs)
    by_truth false vs = q (with_values c vs)

    by_values : (vs : List ℤ) → TestKeeps (elim vs [ [] ↦ fails c | w ∷ ws ↦ cond (is_true w) (holds (with_values c ws)) (fails (with_values c ws)) ]) P Q
    by_values [] = q c
    by_values (v ∷ vs) = by_truth (is_true v) vs

module _ (procedures : ℕ → Steps Act) (limit : ℕ) (bodies : (k : ℕ) → StepsKeep (procedures k)) (fit : (k : ℕ) → StepsFit (procedures k)) where
  task_follows : (t : Task Act) (ts : List (Task Act)) (c : Core) (n : ℕ) (d : Due) → Framed (t ∷ ts) c → Good d (to (t ∷ ts) c n) → Follows d (step_task image_language procedures limit t ts c n)
  task_follows (run stop) ts c n d g (h, left) = (h, left)
  task_follows (run (also l f rest)) ts c n d g ((e, kf, kr, h), left) =
      counted_follows limit l n d (to (form_tasks l f (run rest ∷ ts)) c (n + 1)) c e (let x = form_clear l (length c.callers) f (run rest ∷ ts) (in_body l f rest ts c g) kf (run_clear rest ts kr h, left) in (x.0 c, x.1))
  task_follows (eval l end_parts) ts c n d g (h, left) = (h, left)
  task_follows (eval l (value p q)) ts c n d g (h, left) = (h, left)
  task_follows (eval l (act a q)) ts c n d g (h, left) = act_follows l n ts q c (effect_of a c) d h left
  task_follows (eval l (enter k q)) ts c n d g (h, left) =
      rw (begun l k n q ts c g) (from_clear (λ x. TasksKeep (run (procedures k) ∷ back ∷ eval l q ∷ ts) x c) d h.0 (run_clear (procedures k) (back ∷ eval l q ∷ ts) (bodies k) (λ e. (refl, h.1)) c), (h.1, left))
  task_follows (eval l (either a b q)) ts c n d g (h, left) = test_follows (tested c) n (eval l a ∷ run stop ∷ eval l q ∷ ts) (eval l b ∷ eval l q ∷ ts) d h left left
  task_follows (tally l) ts c n d g (h, left) = counted_follows limit l n d (to ts c (n + 1)) c h.0 (h.1 c, left)
  task_follows (decide (otherwise b)) ts c n d g (h, left) = (from_clear (λ x. TasksKeep (run b ∷ ts) x c) d h.0 (run_clear b ts h.1 h.2 c), left)
  task_follows (decide (branch l p a rest)) ts c n d g (h, left) =
      (from_clear (λ x. TasksKeep (eval l p ∷ pick l a rest ∷ ts) x c) d h.0 (kept_then p h.1.0 (TasksKeep (pick l a rest ∷ ts)) (λ e. (refl, h.1.1, h.1.2, h.2)) c), left)
  task_follows (pick l a rest) ts c n d g (h, left) =
      from_clear (λ x. Follows x (by_test (tested c) (λ y. to (run a ∷ ts) y n) (λ y. to (decide rest ∷ ts) y n))) d h.0
      (test_follows (tested c) n (run a ∷ ts) (decide rest ∷ ts) (owing None) (each_test c (TasksKeep (run a ∷ ts) (owing None)) (TasksKeep (decide rest ∷ ts) (owing None)) (run_clear a ts h.1 h.3) (λ e. (refl, h.2, h.3))) left left)
  task_follows (again m) ts c n d g (h, left) = (
    from_clear (λ x. TasksKeep (eval m.line m.next ∷ eval m.line m.test ∷ iterate m ∷ ts) x c) d h.0
        (kept_then m.next h.1.0 (PartsKeep m.test (TasksKeep (iterate m ∷ ts))) (kept_then m.test h.1.1 (TasksKeep (iterate m ∷ ts)) (λ e. (refl, h.1, h.2))) c),
    left.2,
  )
  task_follows (iterate m) ts c n d g (h, left) =
      from_clear (λ x. Follows x (by_test (tested c) (λ y. to (tally m.line ∷ run m.body ∷ again m ∷ ts) y n) (λ y. to ts y n))) d h.0
      (test_follows (tested c) n (tally m.line ∷ run m.body ∷ again m ∷ ts) ts (owing None)
      (each_test c (TasksKeep (tally m.line ∷ run m.body ∷ again m ∷ ts) (owing None)) (TasksKeep ts (owing None)) (λ e. (refl, run_clear m.body (again m ∷ ts) h.1.2 (λ x. (refl, h.1, h.2)))) h.2)
      (h.1, h.2, left) left)
  task_follows back ts c n d g (h, left) = (from_clear (λ x. TasksKeep ts x c) d h.0 (h.1 c), left.1)

  step_follows : (d : Due) (c : Config Act Core) → Framed c.tasks c.core → Good d c → Follows d (step image_language procedures limit c)
  step_follows d c f h = by_tasks c.tasks c.core c.count f h
    where
      by_tasks : (ts : List (Task Act)) (x : Core) (n : ℕ) → Framed ts x → Good d (to ts x n) → Follows d (step image_language procedures limit (to ts x n))
      by_tasks [] x n f g = g.0
      by_tasks (t ∷ ts) x n f g = task_follows t ts x n d f g

  -- ---- a walk
  abbrev Ls : Config Act Core → Move (Config Act Core) Ask Reply
  Ls = step image_language procedures limit

  -- what a walk comes to, without an ask before it
  abbrev Well : Due → Move (Config Act Core) Ask Reply → Type 0
  Well d v = Follows d v × FramesFollow v

  step_well : (d : Due) (c : Config Act Core) → Good d c → Framed c.tasks c.core → Well d (Ls c)
  step_well d c g f = (step_follows d c f g, step_frames procedures limit fit c f)

  come_on : (n : ℕ) (d : Due) (v : Move (Config Act Core) Ask Reply) → Well d v → ((c : Config Act Core) → Good d c → Framed c.tasks c.core → Well d (go Ls n c)) → Well d (goes_on v (go Ls n))
  come_on n d (goes c) w more = more c w.0 w.1
  come_on n d (asks a l k) w more = w
  come_on n d over w more = w

  come : (n : ℕ) (d : Due) (c : Config Act Core) → Good d c → Framed c.tasks c.core → Well d (go Ls n c)
  come zero d c g f = (g, f)
  come (suc n) d c g f = come_on n d (Ls c) (step_well d c g f) (come n d)

  walks_in_order : (es : List (Said Ask Reply)) (d : Due) (c e : Config Act Core) → Good d c → Framed c.tasks c.core → AllAnswer Answers es → Walk Ls c es e
      → InOrder d es × Good (due_behind d es) e × Framed e.tasks e.core
  walks_in_order [] d c e g f answers w = (tt, subst (Good d) (sym w) g, subst (λ (x : Config Act Core). Framed x.tasks x.core) (sym w) f)
  walks_in_order (x ∷ es) d c e g f (a, answers) (k, (n, h), w) =
      let s = subst (Well d) h (come n d c g f) in
      let r = walks_in_order es (due_after x.ask x.reply) (k x.reply) e (s.0.1 x.reply a) (s.1 x.reply) answers w in
      ((s.0.0, r.0), r.1, r.2)

  -- a walk from tasks that keep the order is in order
  pub goes_in_order : (c : Config Act Core) → Clear c.tasks → Framed c.tasks c.core → GoesInOrder Ls c
  goes_in_order c h f es e answers w = (walks_in_order es (owing None) c e (h.0 c.core, h.1) f answers w).0

  over_ended : (d : Due) (v : Move (Config Act Core) Ask Reply) → Follows d v → IsOver v → d ≡ ended
  over_ended d (goes c) h o = absurd o
  over_ended d (asks a l k) h o = absurd o
  over_ended d over h o = h

  -- and it is over only where nothing more is due
  pub over_behind : (c : Config Act Core) → Clear c.tasks → Framed c.tasks c.core → (es : List (Said Ask Reply)) (e : Config Act Core) → AllAnswer Answers es → WalkTo Ls c es e → IsOver (Ls e) → due_behind (owing None) es ≡ ended
  over_behind c h f es e answers (m, w, n, t) o =
      let r = walks_in_order es (owing None) c m (h.0 c.core, h.1) f answers w in
      let there = subst (Well (due_behind (owing None) es)) t (come n (due_behind (owing None) es) m r.1 r.2) in
      over_ended (due_behind (owing None) es) (Ls e) (step_follows (due_behind (owing None) es) e there.1 there.0) o

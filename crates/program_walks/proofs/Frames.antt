-- As many frames were begun as bodies are under way: each call of a procedure stands between the beginning of its frame
-- and its end.
use Rattle.std.proofs.Common.{◌≡◌, ℕ, zero, suc, ◌+◌, ◌≤◌, Bool, true, false, cond, nat_lt, List, [], ◌∷◌, length, min, inl, inr, refl, sym, ap, ◌∙◌, subst, arith}
use Rattle.std.proofs.lemmas.Bool.{cases_Bool, le-ltb}
use Rattle.std.specs.Prelude.{ℤ}
use Rattle.caf_base.specs.Arithmetic.{is_true}
use Rattle.trace_theory.specs.Machines.{Move, goes, asks, over}
use Rattle.caf_events.specs.declared.ask.Ask.{Ask}
use Rattle.caf_events.specs.declared.reply.Reply.{Reply}
use Rattle.walk_theory.specs.Language.{goes_to, faults, asking, ends_with, stuck, Tested, no_value, holds, fails, acted, counted, by_test}
use Rattle.walk_theory.specs.Syntax.{Parts, end_parts, value, act, enter, either, Form, simple, choose, loop, around, exit, cycle, return, Branches, otherwise, branch, Steps, stop, also}
use Rattle.walk_theory.specs.Walks.{Loop, Task, run, eval, tally, decide, pick, again, iterate, back, after_loop, from_loop, from_back, backs, Config, to, form_tasks, step, step_task}
use Rattle.image_acts.specs.Statuses.{most_frames}
use Rattle.image_acts.specs.Acts as a
use Rattle.image_acts.specs.Acts.{Act, call}
use Rattle.image_acts.specs.Core.{Core, with_values}
use Rattle.image_acts.specs.Taking.{Acted, tested}
use Rattle.image_acts.specs.Meaning.{effect_of, frames, image_language}
use Rattle.program_walks.proofs.FrameActs.{ActFits, EffectFits, act_fits}

-- ---- parts
-- Where b bodies are under way and n callers are there, a procedure is entered only where these are as many, and
-- `After` is told of the callers behind the parts.
abbrev pub PartsFit : ℕ → Parts Act → (ℕ → Type 0) → ℕ → Type 0
PartsFit b end_parts After n = After n
PartsFit b (value p q) After n = PartsFit b p (PartsFit b q After) n
PartsFit b (act x q) After n = ActFits x (PartsFit b q After) n
PartsFit b (enter k q) After n = (b ≡ n) × PartsFit b q After n
PartsFit b (either x y q) After n = PartsFit b x (PartsFit b q After) n × PartsFit b y (PartsFit b q After) n

behind_more : (P Q : ℕ → Type 0) → ((n : ℕ) → P n → Q n) → (x : Act) (n : ℕ) → ActFits x P n → ActFits x Q n
behind_more P Q w (call (a.begin_frame cells arrays need)) n h = w (suc n) h
behind_more P Q w (call a.end_frame) zero h = tt
behind_more P Q w (call a.end_frame) (suc n) h = w n h
behind_more P Q w x n h = w n h

parts_more : (b : ℕ) (p : Parts Act) (P Q : ℕ → Type 0) → ((n : ℕ) → P n → Q n) → (n : ℕ) → PartsFit b p P n → PartsFit b p Q n
parts_more b end_parts P Q w n h = w n h
parts_more b (value p q) P Q w n h = parts_more b p (PartsFit b q P) (PartsFit b q Q) (parts_more b q P Q w) n h
parts_more b (act x q) P Q w n h = behind_more (PartsFit b q P) (PartsFit b q Q) (parts_more b q P Q w) x n h
parts_more b (enter k q) P Q w n h = (h.0, parts_more b q P Q w n h.1)
parts_more b (either x y q) P Q w n h = (parts_more b x (PartsFit b q P) (PartsFit b q Q) (parts_more b q P Q w) n h.0, parts_more b y (PartsFit b q P) (PartsFit b q Q) (parts_more b q P Q w) n h.1)

-- parts of a body that leave as many callers as there were: one less than bodies
abbrev pub KeepsFrames : Parts Act → Type 0
KeepsFrames p = (n : ℕ) → PartsFit (suc n) p (λ m. m ≡ n) n

pub fits_then : (p : Parts Act) → KeepsFrames p → (After : ℕ → Type 0) (n : ℕ) → After n → PartsFit (suc n) p After n
fits_then p k After n h = parts_more (suc n) p (λ m. m ≡ n) After (λ m e. subst After (sym e) h) n (k n)

-- ---- forms of statements
abbrev mutual
  pub FormFits : Form Act → Type 0
  FormFits (simple p) = KeepsFrames p
  FormFits (choose p bs) = KeepsFrames p × BranchesFit bs
  FormFits (loop s n t b) = KeepsFrames s × KeepsFrames n × KeepsFrames t × StepsFit b
  FormFits (around p b m q) = KeepsFrames p × StepsFit b × KeepsFrames q
  FormFits (exit n) = Unit {0}
  FormFits (cycle n) = Unit {0}
  FormFits return = Unit {0}

  pub BranchesFit : Branches Act → Type 0
  BranchesFit (otherwise b) = StepsFit b
  BranchesFit (branch l p x rest) = KeepsFrames p × StepsFit x × BranchesFit rest

  pub StepsFit : Steps Act → Type 0
  StepsFit stop = Unit {0}
  StepsFit (also l f rest) = FormFits f × StepsFit rest

-- ---- what is left to do
abbrev LoopFits : Loop Act → Type 0
LoopFits m = KeepsFrames m.next × KeepsFrames m.test × StepsFit m.body

-- where so many callers are there
abbrev TasksFit : List (Task Act) → ℕ → Type 0
TasksFit [] n = Unit {0}
TasksFit (run stop ∷ ts) n = TasksFit ts n
TasksFit (run (also l f rest) ∷ ts) n = (backs ts ≡ suc n) × FormFits f × StepsFit rest × TasksFit ts n
TasksFit (eval l p ∷ ts) n = PartsFit (backs ts) p (TasksFit ts) n
TasksFit (tally l ∷ ts) n = TasksFit ts n
TasksFit (decide b ∷ ts) n = (backs ts ≡ suc n) × BranchesFit b × TasksFit ts n
TasksFit (pick l x b ∷ ts) n = (backs ts ≡ suc n) × StepsFit x × BranchesFit b × TasksFit ts n
TasksFit (again m ∷ ts) n = (backs ts ≡ suc n) × LoopFits m × TasksFit ts n
TasksFit (iterate m ∷ ts) n = (backs ts ≡ suc n) × LoopFits m × TasksFit ts n
TasksFit (back ∷ ts) n = TasksFit ts n

-- from each end of an iteration or of a procedure's body on, to which EXIT, CYCLE or RETURN can lead
abbrev AreLeft : List (Task Act) → Type 0
AreLeft [] = Unit {0}
AreLeft (run ss ∷ ts) = AreLeft ts
AreLeft (eval l p ∷ ts) = AreLeft ts
AreLeft (tally l ∷ ts) = AreLeft ts
AreLeft (decide b ∷ ts) = AreLeft ts
AreLeft (pick l x b ∷ ts) = AreLeft ts
AreLeft (again m ∷ ts) = LoopFits m × ((n : ℕ) → backs ts ≡ suc n → TasksFit ts n) × AreLeft ts
AreLeft (iterate m ∷ ts) = AreLeft ts
AreLeft (back ∷ ts) = TasksFit ts (backs ts) × AreLeft ts

-- with so many callers, no more than can be
pub record Framed (ts : List (Task Act)) (c : Core) : Type 0 where
  pub fits : TasksFit ts (length c.callers)
  pub left : AreLeft ts
  pub few : length c.callers ≤ most_frames

abbrev Clear : List (Task Act) → ℕ → Type 0
Clear ts n = TasksFit ts n × AreLeft ts

same_before : (m n : ℕ) → suc m ≡ suc n → m ≡ n
same_before m n h = omega arith

none_of : {X : Type 0} (n : ℕ) → 0 ≡ suc n → X
none_of n h = absurd (omega arith)

exit_clear : (k : ℕ) (ts : List (Task Act)) (n : ℕ) → backs ts ≡ suc n → AreLeft ts → Clear (after_loop k ts) n
exit_clear k [] n e h = none_of n e
exit_clear k (run ss ∷ ts) n e h = exit_clear k ts n e h
exit_clear k (eval l p ∷ ts) n e h = exit_clear k ts n e h
exit_clear k (tally l ∷ ts) n e h = exit_clear k ts n e h
exit_clear k (decide b ∷ ts) n e h = exit_clear k ts n e h
exit_clear k (pick l x b ∷ ts) n e h = exit_clear k ts n e h
exit_clear zero (again m ∷ ts) n e h = (h.1 n e, h.2)
exit_clear (suc k) (again m ∷ ts) n e h = exit_clear k ts n e h.2
exit_clear k (iterate m ∷ ts) n e h = exit_clear k ts n e h
exit_clear k (back ∷ ts) n e h = (subst (TasksFit ts) (same_before (backs ts) n e) h.0, h)

cycle_clear : (k : ℕ) (ts : List (Task Act)) (n : ℕ) → backs ts ≡ suc n → AreLeft ts → Clear (from_loop k ts) n
cycle_clear k [] n e h = none_of n e
cycle_clear k (run ss ∷ ts) n e h = cycle_clear k ts n e h
cycle_clear k (eval l p ∷ ts) n e h = cycle_clear k ts n e h
cycle_clear k (tally l ∷ ts) n e h = cycle_clear k ts n e h
cycle_clear k (decide b ∷ ts) n e h = cycle_clear k ts n e h
cycle_clear k (pick l x b ∷ ts) n e h = cycle_clear k ts n e h
cycle_clear zero (again m ∷ ts) n e h = ((e, h.0, h.1 n e), h)
cycle_clear (suc k) (again m ∷ ts) n e h = cycle_clear k ts n e h.2
cycle_clear k (iterate m ∷ ts) n e h = cycle_clear k ts n e h
cycle_clear k (back ∷ ts) n e h = (subst (TasksFit ts) (same_before (backs ts) n e) h.0, h)

return_clear : (ts : List (Task Act)) (n : ℕ) → backs ts ≡ suc n → AreLeft ts → Clear (from_back ts) n
return_clear [] n e h = none_of n e
return_clear (run ss ∷ ts) n e h = return_clear ts n e h
return_clear (eval l p ∷ ts) n e h = return_clear ts n e h
return_clear (tally l ∷ ts) n e h = return_clear ts n e h
return_clear (decide b ∷ ts) n e h = return_clear ts n e h
return_clear (pick l x b ∷ ts) n e h = return_clear ts n e h
return_clear (again m ∷ ts) n e h = return_clear ts n e h.2
return_clear (iterate m ∷ ts) n e h = return_clear ts n e h
return_clear (back ∷ ts) n e h = (subst (TasksFit ts) (same_before (backs ts) n e) h.0, h)

run_fits : (ss : Steps Act) (ts : List (Task Act)) (n : ℕ) → backs ts ≡ suc n → StepsFit ss → TasksFit ts n → TasksFit (run ss ∷ ts) n
run_fits stop ts n e k h = h
run_fits (also l f rest) ts n e k h = (e, k.0, k.1, h)

eval_fits : (l : ℕ) (p : Parts Act) (ts : List (Task Act)) (n : ℕ) → backs ts ≡ suc n → KeepsFrames p → TasksFit ts n → TasksFit (eval l p ∷ ts) n
eval_fits l p ts n e k h = subst (λ b. PartsFit b p (TasksFit ts) n) (sym e) (fits_then p k (TasksFit ts) n h)

form_clear : (l : ℕ) (f : Form Act) (ts : List (Task Act)) (n : ℕ) → backs ts ≡ suc n → FormFits f → Clear ts n → Clear (form_tasks l f ts) n
form_clear l (simple p) ts n e k h = (eval_fits l p ts n e k h.0, h.1)
form_clear l (choose p bs) ts n e k h = (eval_fits l p (decide bs ∷ ts) n e k.0 (e, k.1, h.0), h.1)
form_clear l (loop s x t b) ts n e k h =
    let m : Loop Act = record { line = l; next = x; test = t; body = b } in
    (eval_fits l s (run stop ∷ eval l t ∷ iterate m ∷ ts) n e k.0 (eval_fits l t (iterate m ∷ ts) n e k.2 (e, (k.1, k.2, k.3), h.0)), h.1)
form_clear l (around p b m q) ts n e k h = (eval_fits l p (run b ∷ tally m ∷ eval m q ∷ ts) n e k.0 (run_fits b (tally m ∷ eval m q ∷ ts) n e k.1 (eval_fits m q ts n e k.2 h.0)), h.1)
form_clear l (exit k') ts n e k h = exit_clear k' ts n e h.1
form_clear l (cycle k') ts n e k h = cycle_clear k' ts n e h.1
form_clear l return ts n e k h = return_clear ts n e h.1

-- ---- one step
abbrev pub FramesFollow : Move (Config Act Core) Ask Reply → Type 0
FramesFollow (goes c) = Framed c.tasks c.core
FramesFollow (asks q l f) = (r : Reply) → Framed (f r).tasks (f r).core
FramesFollow over = Unit {0}

counted_follows : (limit l n : ℕ) (onward : Config Act Core) (c : Core) → Framed onward.tasks onward.core → length c.callers ≤ most_frames → FramesFollow (counted image_language limit l n onward (to [] c n))
counted_follows limit l n onward c h few = elim (cases_Bool (nat_lt n limit)) [ inl t ↦ rw t h | inr f ↦ rw f (λ r. record { fits = tt; left = tt; few = few }) ]

act_follows : (l n : ℕ) (ts : List (Task Act)) (q : Parts Act) (c : Core) (e : Acted) → EffectFits e (PartsFit (backs ts) q (TasksFit ts)) → AreLeft ts → length c.callers ≤ most_frames
    → FramesFollow (acted image_language l (λ x. to (eval l q ∷ ts) x n) (λ x. to [] x n) c e)
act_follows l n ts q c (goes_to x) h left few = record { fits = h.0; left = left; few = h.1 }
act_follows l n ts q c (faults k) h left few = λ r. record { fits = tt; left = tt; few = few }
act_follows l n ts q c (asking a f) h left few = λ r. record { fits = (h r).0; left = left; few = (h r).1 }
act_follows l n ts q c (ends_with a) h left few = λ r. record { fits = tt; left = tt; few = few }
act_follows l n ts q c stuck h left few = tt

-- a test leaves the callers as they are
abbrev EachTested : Tested Core → (Core → Type 0) → Type 0
EachTested no_value P = Unit {0}
EachTested (holds d) P = P d
EachTested (fails d) P = P d

test_leaves : (c : Core) → EachTested (tested c) (λ d. length d.callers ≡ length c.callers)
test_leaves c = by_values c.values
  where
    by_truth : (b : Bool) (vs : List ℤ) → EachTested (cond b (holds (with_values c vs)) (fails (with_values c vs))) (λ d. length d.callers ≡ length c.callers)
    by_truth true vs = refl
    by_truth false vs = refl

    by_values : (vs : List ℤ) → EachTested (elim vs [ [] ↦ fails c | w ∷ ws ↦ cond (is_true w) (holds (with_values c ws)) (fails (with_values c ws)) ]) (λ d. length d.callers ≡ length c.callers)
    by_values [] = refl
    by_values (v ∷ vs) = by_truth (is_true v) vs

test_follows : (t : Tested Core) (n m : ℕ) (ts us : List (Task Act)) → EachTested t (λ d. length d.callers ≡ m) → Clear ts m → Clear us m → m ≤ most_frames → FramesFollow (by_test t (λ x. to ts x n) (λ x. to us x n))
test_follows no_value n m ts us same h k few = tt
test_follows (holds d) n m ts us same h k few = record { fits = subst (TasksFit ts) (sym same) h.0; left = h.1; few = subst (λ x. x ≤ most_frames) (sym same) few }
test_follows (fails d) n m ts us same h k few = record { fits = subst (TasksFit us) (sym same) k.0; left = k.1; few = subst (λ x. x ≤ most_frames) (sym same) few }

enough : (b n m : ℕ) → b ≡ n → n ≤ m → b ≤ min n m
enough b n m e few = omega arith

-- where a procedure is entered enough frames were begun
pub begun : (l k n : ℕ) (q : Parts Act) (ts : List (Task Act)) (c : Core) → Framed (eval l (enter k q) ∷ ts) c → nat_lt (frames c) (backs ts) ≡ false
begun l k n q ts c h = le-ltb (frames c) (backs ts) (enough (backs ts) (length c.callers) most_frames h.fits.0 h.few)

-- a statement is in a body
pub in_body : (l : ℕ) (f : Form Act) (rest : Steps Act) (ts : List (Task Act)) (c : Core) → Framed (run (also l f rest) ∷ ts) c → backs ts ≡ suc (length c.callers)
in_body l f rest ts c h = h.fits.0

any_number : (ts : List (Task Act)) (m n : ℕ) → backs ts ≡ suc m → TasksFit ts m → backs ts ≡ suc n → TasksFit ts n
any_number ts m n e h k = subst (TasksFit ts) (same_before m n (sym e ∙ k)) h

module _ (procedures : ℕ → Steps Act) (limit : ℕ) (bodies : (k : ℕ) → StepsFit (procedures k)) where
  task_follows : (t : Task Act) (ts : List (Task Act)) (c : Core) (n : ℕ) → Framed (t ∷ ts) c → FramesFollow (step_task image_language procedures limit t ts c n)
  task_follows (run stop) ts c n h = record { fits = h.fits; left = h.left; few = h.few }
  task_follows (run (also l f rest)) ts c n h =
      let x = form_clear l f (run rest ∷ ts) (length c.callers) h.fits.0 h.fits.1 (run_fits rest ts (length c.callers) h.fits.0 h.fits.2 h.fits.3, h.left) in
      counted_follows limit l n (to (form_tasks l f (run rest ∷ ts)) c (n + 1)) c (record { fits = x.0; left = x.1; few = h.few }) h.few
  task_follows (eval l end_parts) ts c n h = record { fits = h.fits; left = h.left; few = h.few }
  task_follows (eval l (value p q)) ts c n h = record { fits = h.fits; left = h.left; few = h.few }
  task_follows (eval l (act x q)) ts c n h = act_follows l n ts q c (effect_of x c) (act_fits x c (PartsFit (backs ts) q (TasksFit ts)) h.fits h.few) h.left h.few
  task_follows (eval l (enter k q)) ts c n h =
      let behind : TasksFit (eval l q ∷ ts) (backs ts) = subst (TasksFit (eval l q ∷ ts)) (sym h.fits.0) h.fits.1 in
      rw (begun l k n q ts c h) (record { fits = run_fits (procedures k) (back ∷ eval l q ∷ ts) (length c.callers) (ap suc h.fits.0) (bodies k) h.fits.1; left = (behind, h.left); few = h.few })
  task_follows (eval l (either x y q)) ts c n h = test_follows (tested c) n (length c.callers) (eval l x ∷ run stop ∷ eval l q ∷ ts) (eval l y ∷ eval l q ∷ ts) (test_leaves c) (h.fits.0, h.left) (h.fits.1, h.left) h.few
  task_follows (tally l) ts c n h = counted_follows limit l n (to ts c (n + 1)) c (record { fits = h.fits; left = h.left; few = h.few }) h.few
  task_follows (decide (otherwise b)) ts c n h = record { fits = run_fits b ts (length c.callers) h.fits.0 h.fits.1 h.fits.2; left = h.left; few = h.few }
  task_follows (decide (branch l p x rest)) ts c n h =
      record { fits = eval_fits l p (pick l x rest ∷ ts) (length c.callers) h.fits.0 h.fits.1.0 (h.fits.0, h.fits.1.1, h.fits.1.2, h.fits.2); left = h.left; few = h.few }
  task_follows (pick l x rest) ts c n h =
      test_follows (tested c) n (length c.callers) (run x ∷ ts) (decide rest ∷ ts) (test_leaves c) (run_fits x ts (length c.callers) h.fits.0 h.fits.1 h.fits.3, h.left) ((h.fits.0, h.fits.2, h.fits.3), h.left) h.few
  task_follows (again m) ts c n h =
      record {
        fits = eval_fits m.line m.next (eval m.line m.test ∷ iterate m ∷ ts) (length c.callers) h.fits.0 h.fits.1.0 (eval_fits m.line m.test (iterate m ∷ ts) (length c.callers) h.fits.0 h.fits.1.1 h.fits);
        left = h.left.2;
        few = h.few;
      }
  task_follows (iterate m) ts c n h =
      test_follows (tested c) n (length c.callers) (tally m.line ∷ run m.body ∷ again m ∷ ts) ts (test_leaves c)
      (run_fits m.body (again m ∷ ts) (length c.callers) h.fits.0 h.fits.1.2 h.fits, (h.fits.1, λ k e. any_number ts (length c.callers) k h.fits.0 h.fits.2 e, h.left)) (h.fits.2, h.left) h.few
  task_follows back ts c n h = record { fits = h.fits; left = h.left.1; few = h.few }

  pub step_frames : (c : Config Act Core) → Framed c.tasks c.core → FramesFollow (step image_language procedures limit c)
  step_frames c h = by_tasks c.tasks c.core c.count h
    where
      by_tasks : (ts : List (Task Act)) (x : Core) (n : ℕ) → Framed ts x → FramesFollow (step image_language procedures limit (to ts x n))
      by_tasks [] x n g = tt
      by_tasks (t ∷ ts) x n g = task_follows t ts x n g

-- In the walk of a program whose blocks fit each ask for a cell fits.
use Rattle.std.proofs.Common.{◌≡◌, ℕ, zero, suc, ◌+◌, nat_lt, Bool, true, false, cond, List, [], ◌∷◌, refl, subst}
use Rattle.std.specs.Prelude.{ℤ}
use Rattle.trace_theory.specs.Entries.{Each}
use Rattle.trace_theory.specs.Machines.{Move, goes, asks, over, Said, go, goes_on, Walk}
use Rattle.caf_events.specs.declared.ask.Ask.{Ask}
use Rattle.caf_events.specs.declared.reply.Reply.{Reply}
use Rattle.walk_theory.specs.Language as language
use Rattle.walk_theory.specs.Language.{Tested, no_value, holds, fails, acted, counted, by_test}
use Rattle.walk_theory.specs.Syntax.{Parts, end_parts, value, act, enter, either, Form, simple, choose, loop, around, exit, cycle, return, otherwise, branch, Steps, stop, also}
use Rattle.walk_theory.specs.Walks.{Loop, Task, run, eval, tally, decide, pick, again, iterate, back, after_loop, from_loop, from_back, backs, Config, to, form_tasks, start, step, step_task}
use Rattle.object_rules.specs.Cells.{Declared}
use Rattle.image_acts.specs.Acts.{Act, ask, end_program}
use Rattle.image_acts.specs.Core.{Core, with_values}
use Rattle.image_acts.specs.Taking.{Acted, tested}
use Rattle.image_acts.specs.Meaning.{effect_of, frames, image_language}
use Rattle.stack_laws.specs.Exact.{Stand}
use Rattle.told_walks.specs.Asked.{sizes_by}
use Rattle.cell_walks.specs.Fitting.{Sizes, TellsImages, IsSound, FitsCell, EffectFits, TestFits, PartsFit, Leave, FormFits, BranchesFit, StepsFit, AllFit}
use Rattle.cell_walks.proofs.Parts.{test_fits, leave_then}

module _ (n me : ℕ) (coarrays : List Declared) (readable : ℕ → Bool) where
  abbrev Sound : Sizes → Core → Type 0
  Sound z c = IsSound n me z c

  abbrev Fit : Parts Act → (Sizes → Core → Type 0) → Sizes → Core → Type 0
  Fit p After z c = PartsFit n me coarrays readable p After z c

  abbrev Left : ℕ → Parts Act → Type 0
  Left m p = Leave n me coarrays readable m p

  -- ---- what is left to do
  abbrev LoopFits : Loop Act → Type 0
  LoopFits m = Left 0 m.next × Left 1 m.test × StepsFit n me coarrays readable m.body

  -- the numbers of the body that is run, with those of its callers
  abbrev base : List (List ℤ) → List ℤ
  base [] = []
  base (vs ∷ bs) = vs

  abbrev callers : List (List ℤ) → List (List ℤ)
  callers [] = []
  callers (vs ∷ bs) = bs

  -- tasks whose asks fit from this core on, where these numbers are those of the bodies; a truth value may stand on
  -- those of the first
  abbrev TasksFit : List (List ℤ) → List (Task Act) → Sizes → Core → Type 0
  TasksFit bs [] z c = Unit {0}
  TasksFit bs (run stop ∷ ts) z c = TasksFit bs ts z c
  TasksFit bs (run (also l f rest) ∷ ts) z c =
      Sound z c × (c.values ≡ base bs) × FormFits n me coarrays readable f × StepsFit n me coarrays readable rest × ((y : Sizes) (d : Core) → Sound y d → d.values ≡ base bs → TasksFit bs ts y d)
  TasksFit bs (eval l p ∷ ts) z c = Fit p (TasksFit bs ts) z c
  TasksFit bs (tally l ∷ ts) z c = TasksFit bs ts z c
  TasksFit bs (decide b ∷ ts) z c = Sound z c × (c.values ≡ base bs) × BranchesFit n me coarrays readable b × ((y : Sizes) (d : Core) → Sound y d → d.values ≡ base bs → TasksFit bs ts y d)
  TasksFit bs (pick l a b ∷ ts) z c =
      Sound z c × Stand 1 (base bs) c.values × StepsFit n me coarrays readable a × BranchesFit n me coarrays readable b × ((y : Sizes) (d : Core) → Sound y d → d.values ≡ base bs → TasksFit bs ts y d)
  TasksFit bs (again m ∷ ts) z c = Sound z c × (c.values ≡ base bs) × LoopFits m × ((y : Sizes) (d : Core) → Sound y d → d.values ≡ base bs → TasksFit bs ts y d)
  TasksFit bs (iterate m ∷ ts) z c = Sound z c × Stand 1 (base bs) c.values × LoopFits m × ((y : Sizes) (d : Core) → Sound y d → d.values ≡ base bs → TasksFit bs ts y d)
  TasksFit bs (back ∷ ts) z c = TasksFit (callers bs) ts z c

  -- wherever the invariant holds over the numbers of the body
  abbrev Always : List (List ℤ) → List (Task Act) → Type 0
  Always bs ts = (y : Sizes) (d : Core) → Sound y d → d.values ≡ base bs → TasksFit bs ts y d

  -- from each end of an iteration or of a procedure's body on, to which EXIT, CYCLE or RETURN can lead
  abbrev AreLeft : List (List ℤ) → List (Task Act) → Type 0
  AreLeft bs [] = Unit {0}
  AreLeft bs (run ss ∷ ts) = AreLeft bs ts
  AreLeft bs (eval l p ∷ ts) = AreLeft bs ts
  AreLeft bs (tally l ∷ ts) = AreLeft bs ts
  AreLeft bs (decide b ∷ ts) = AreLeft bs ts
  AreLeft bs (pick l a b ∷ ts) = AreLeft bs ts
  AreLeft bs (again m ∷ ts) = LoopFits m × Always bs ts × AreLeft bs ts
  AreLeft bs (iterate m ∷ ts) = AreLeft bs ts
  AreLeft bs (back ∷ ts) = ((y : Sizes) (d : Core) → Sound y d → d.values ≡ base bs → TasksFit (callers bs) ts y d) × AreLeft (callers bs) ts

  abbrev Clear : List (List ℤ) → List (Task Act) → Type 0
  Clear bs ts = Always bs ts × AreLeft bs ts

  exit_clear : (k : ℕ) (bs : List (List ℤ)) (ts : List (Task Act)) → AreLeft bs ts → Clear bs (after_loop k ts)
  exit_clear k bs [] h = (λ y d i e. tt, tt)
  exit_clear k bs (run ss ∷ ts) h = exit_clear k bs ts h
  exit_clear k bs (eval l p ∷ ts) h = exit_clear k bs ts h
  exit_clear k bs (tally l ∷ ts) h = exit_clear k bs ts h
  exit_clear k bs (decide b ∷ ts) h = exit_clear k bs ts h
  exit_clear k bs (pick l a b ∷ ts) h = exit_clear k bs ts h
  exit_clear zero bs (again m ∷ ts) h = (h.1, h.2)
  exit_clear (suc k) bs (again m ∷ ts) h = exit_clear k bs ts h.2
  exit_clear k bs (iterate m ∷ ts) h = exit_clear k bs ts h
  exit_clear k bs (back ∷ ts) h = (h.0, h)

  cycle_clear : (k : ℕ) (bs : List (List ℤ)) (ts : List (Task Act)) → AreLeft bs ts → Clear bs (from_loop k ts)
  cycle_clear k bs [] h = (λ y d i e. tt, tt)
  cycle_clear k bs (run ss ∷ ts) h = cycle_clear k bs ts h
  cycle_clear k bs (eval l p ∷ ts) h = cycle_clear k bs ts h
  cycle_clear k bs (tally l ∷ ts) h = cycle_clear k bs ts h
  cycle_clear k bs (decide b ∷ ts) h = cycle_clear k bs ts h
  cycle_clear k bs (pick l a b ∷ ts) h = cycle_clear k bs ts h
  cycle_clear zero bs (again m ∷ ts) h = (λ y d i e. (i, e, h.0, h.1), h)
  cycle_clear (suc k) bs (again m ∷ ts) h = cycle_clear k bs ts h.2
  cycle_clear k bs (iterate m ∷ ts) h = cycle_clear k bs ts h
  cycle_clear k bs (back ∷ ts) h = (h.0, h)

  return_clear : (bs : List (List ℤ)) (ts : List (Task Act)) → AreLeft bs ts → Clear bs (from_back ts)
  return_clear bs [] h = (λ y d i e. tt, tt)
  return_clear bs (run ss ∷ ts) h = return_clear bs ts h
  return_clear bs (eval l p ∷ ts) h = return_clear bs ts h
  return_clear bs (tally l ∷ ts) h = return_clear bs ts h
  return_clear bs (decide b ∷ ts) h = return_clear bs ts h
  return_clear bs (pick l a b ∷ ts) h = return_clear bs ts h
  return_clear bs (again m ∷ ts) h = return_clear bs ts h.2
  return_clear bs (iterate m ∷ ts) h = return_clear bs ts h
  return_clear bs (back ∷ ts) h = (h.0, h)

  run_clear : (ss : Steps Act) (bs : List (List ℤ)) (ts : List (Task Act)) → StepsFit n me coarrays readable ss → Always bs ts → Always bs (run ss ∷ ts)
  run_clear stop bs ts h more y d i e = more y d i e
  run_clear (also l f rest) bs ts h more y d i e = (i, e, h.0, h.1, more)

  left_then : (m : ℕ) (p : Parts Act) → Left m p → (bs : List (List ℤ)) (ts : List (Task Act)) → ((y : Sizes) (d : Core) → Sound y d → Stand m (base bs) d.values → TasksFit bs ts y d)
      → (z : Sizes) (c : Core) → Sound z c → c.values ≡ base bs → Fit p (TasksFit bs ts) z c
  left_then m p h bs ts more z c i e = leave_then n me coarrays readable m p h (base bs) (TasksFit bs ts) more z c i e

  form_clear : (l : ℕ) (f : Form Act) (bs : List (List ℤ)) (ts : List (Task Act)) → FormFits n me coarrays readable f → Clear bs ts → Clear bs (form_tasks l f ts)
  form_clear l (simple p) bs ts h more = (left_then 0 p h bs ts more.0, more.1)
  form_clear l (choose p b) bs ts h more = (left_then 0 p h.0 bs (decide b ∷ ts) (λ y d i e. (i, e, h.1, more.0)), more.1)
  form_clear l (loop s k t b) bs ts h more =
      let m : Loop Act = record { line = l; next = k; test = t; body = b } in (
        leave_then n me coarrays readable 0 s h.0 (base bs) (Fit t (TasksFit bs (iterate m ∷ ts))) (left_then 1 t h.2 bs (iterate m ∷ ts) (λ y d i e. (i, e, (h.1, h.2, h.3), more.0))),
        more.1,
      )
  form_clear l (around p b m q) bs ts h more =
      (left_then 0 p h.0 bs (run b ∷ tally m ∷ eval m q ∷ ts) (run_clear b bs (tally m ∷ eval m q ∷ ts) h.1 (left_then 0 q h.2 bs ts more.0)), more.1)
  form_clear l (exit k) bs ts h more = exit_clear k bs ts more.1
  form_clear l (cycle k) bs ts h more = cycle_clear k bs ts more.1
  form_clear l return bs ts h more = return_clear bs ts more.1

  -- ---- one step
  abbrev Good : Sizes → Config Act Core → Type 0
  Good z c = (bs : List (List ℤ)) × TasksFit bs c.tasks z c.core × AreLeft bs c.tasks

  abbrev Follows : Sizes → Move (Config Act Core) Ask Reply → Type 0
  Follows z (goes c) = Good z c
  Follows z (asks a l f) = FitsCell n me coarrays readable z a × ((r : Reply) → TellsImages n r → Good (sizes_by z a) (f r))
  Follows z over = Unit {0}

  counted_follows : (limit l k : ℕ) (z : Sizes) (onward : Config Act Core) (c : Core) → Good z onward → Follows z (counted image_language limit l k onward (to [] c k))
  counted_follows limit l k z onward c h = by_count (nat_lt k limit)
    where
      by_count : (b : Bool) → Follows z (cond b (goes onward) (asks (image_language.too_many (k + 1)) l (λ r. to [] c k)))
      by_count true = h
      by_count false = (tt, λ r x. ([], tt, tt))

  act_follows : (l k : ℕ) (z : Sizes) (bs : List (List ℤ)) (ts : List (Task Act)) (q : Parts Act) (c : Core) (e : Acted) → EffectFits n me coarrays readable e (Fit q (TasksFit bs ts)) z → AreLeft bs ts
      → Follows z (acted image_language l (λ x. to (eval l q ∷ ts) x k) (λ x. to [] x k) c e)
  act_follows l k z bs ts q c (language.goes_to x) h left = (bs, h, left)
  act_follows l k z bs ts q c (language.faults m) h left = (tt, λ r x. ([], tt, tt))
  act_follows l k z bs ts q c (language.asking a f) h left = (h.0, λ r x. (bs, h.1 r x, left))
  act_follows l k z bs ts q c (language.ends_with a) h left = (h, λ r x. ([], tt, tt))
  act_follows l k z bs ts q c language.stuck h left = tt

  test_follows : (t : Tested Core) (k : ℕ) (z : Sizes) (bs : List (List ℤ)) (ts us : List (Task Act)) → TestFits n me coarrays readable t (TasksFit bs ts z) (TasksFit bs us z) → AreLeft bs ts → AreLeft bs us
      → Follows z (by_test t (λ c. to ts c k) (λ c. to us c k))
  test_follows no_value k z bs ts us h lt lu = tt
  test_follows (holds c) k z bs ts us h lt lu = (bs, h, lt)
  test_follows (fails c) k z bs ts us h lt lu = (bs, h, lu)

  entered : (b : Bool) (z : Sizes) (c : Config Act Core) → Good z c → Follows z (cond b over (goes c))
  entered true z c h = tt
  entered false z c h = h

  module _ (procedures : ℕ → Steps Act) (limit : ℕ) (bodies : (k : ℕ) → StepsFit n me coarrays readable (procedures k)) where
    task_follows : (t : Task Act) (ts : List (Task Act)) (z : Sizes) (c : Core) (k : ℕ) (bs : List (List ℤ)) → TasksFit bs (t ∷ ts) z c → AreLeft bs (t ∷ ts) → Follows z (step_task image_language procedures limit t ts c k)
    task_follows (run stop) ts z c k bs h left = (bs, h, left)
    task_follows (run (also l f rest)) ts z c k bs (i, e, hf, hr, h) left =
        counted_follows limit l k z (to (form_tasks l f (run rest ∷ ts)) c (k + 1)) c (let x = form_clear l f bs (run rest ∷ ts) hf (run_clear rest bs ts hr h, left) in (bs, x.0 z c i e, x.1))
    task_follows (eval l end_parts) ts z c k bs h left = (bs, h, left)
    task_follows (eval l (value p q)) ts z c k bs h left = (bs, h, left)
    task_follows (eval l (act a q)) ts z c k bs h left = act_follows l k z bs ts q c (effect_of a c) h left
    task_follows (eval l (enter m q)) ts z c k bs h left =
        entered (nat_lt (frames c) (backs ts)) z (to (run (procedures m) ∷ back ∷ eval l q ∷ ts) c k)
        (c.values ∷ bs, run_clear (procedures m) (c.values ∷ bs) (back ∷ eval l q ∷ ts) (bodies m) h.1 z c h.0 refl, (h.1, left))
    task_follows (eval l (either a b q)) ts z c k bs h left = test_follows (tested c) k z bs (eval l a ∷ run stop ∷ eval l q ∷ ts) (eval l b ∷ eval l q ∷ ts) h left left
    task_follows (tally l) ts z c k bs h left = counted_follows limit l k z (to ts c (k + 1)) c (bs, h, left)
    task_follows (decide (otherwise b)) ts z c k bs (i, e, hb, h) left = (bs, run_clear b bs ts hb h z c i e, left)
    task_follows (decide (branch l p a rest)) ts z c k bs (i, e, hb, h) left = (bs, left_then 1 p hb.0 bs (pick l a rest ∷ ts) (λ y d j s. (j, s, hb.1, hb.2, h)) z c i e, left)
    task_follows (pick l a rest) ts z c k bs (i, s, ha, hb, h) left =
        test_follows (tested c) k z bs (run a ∷ ts) (decide rest ∷ ts)
        (test_fits n me coarrays readable 0 (base bs) c (TasksFit bs (run a ∷ ts) z) (TasksFit bs (decide rest ∷ ts) z) s (λ ws e. run_clear a bs ts ha h z (with_values c ws) i e) (λ ws e. (i, e, hb, h))) left left
    task_follows (again m) ts z c k bs (i, e, hm, h) left =
        (bs, leave_then n me coarrays readable 0 m.next hm.0 (base bs) (Fit m.test (TasksFit bs (iterate m ∷ ts))) (left_then 1 m.test hm.1 bs (iterate m ∷ ts) (λ y d j s. (j, s, hm, h))) z c i e, left.2)
    task_follows (iterate m) ts z c k bs (i, s, hm, h) left =
        test_follows (tested c) k z bs (tally m.line ∷ run m.body ∷ again m ∷ ts) ts
        (test_fits n me coarrays readable 0 (base bs) c (TasksFit bs (tally m.line ∷ run m.body ∷ again m ∷ ts) z) (TasksFit bs ts z) s
        (λ ws e. run_clear m.body bs (again m ∷ ts) hm.2 (λ y d j x. (j, x, hm, h)) z (with_values c ws) i e) (λ ws e. h z (with_values c ws) i e)) (hm, h, left) left
    task_follows back ts z c k bs h left = (callers bs, h, left.1)

    step_follows : (z : Sizes) (c : Config Act Core) → Good z c → Follows z (step image_language procedures limit c)
    step_follows z c h = by_tasks c.tasks c.core c.count h
      where
        by_tasks : (ts : List (Task Act)) (x : Core) (k : ℕ) → Good z (to ts x k) → Follows z (step image_language procedures limit (to ts x k))
        by_tasks [] x k g = tt
        by_tasks (t ∷ ts) x k (bs, h, left) = task_follows t ts z x k bs h left

    -- ---- a walk
    abbrev Ls : Config Act Core → Move (Config Act Core) Ask Reply
    Ls = step image_language procedures limit

    come_on : (k : ℕ) (z : Sizes) (v : Move (Config Act Core) Ask Reply) → Follows z v → ((c : Config Act Core) → Good z c → Follows z (go Ls k c)) → Follows z (goes_on v (go Ls k))
    come_on k z (goes c) w more = more c w
    come_on k z (asks a l f) w more = w
    come_on k z over w more = w

    come : (k : ℕ) (z : Sizes) (c : Config Act Core) → Good z c → Follows z (go Ls k c)
    come zero z c g = g
    come (suc k) z c g = come_on k z (Ls c) (step_follows z c g) (come k z)

    all_fit : (es : List (Said Ask Reply)) (z : Sizes) (c e : Config Act Core) → Good z c → Each (λ (x : Said Ask Reply). TellsImages n x.reply) es → Walk Ls c es e → AllFit n me coarrays readable z es
    all_fit [] z c e g tells w = tt
    all_fit (x ∷ es) z c e g (b, tells) (f, (k, h), w) =
        let s = subst (Follows z) h (come k z c g) in
        (s.0, all_fit es (sizes_by z x.ask) (f x.reply) e (s.1 x.reply b) tells w)

    -- from the start of a program on
    pub walks_fit : (line : ℕ) (z : Sizes) (first : Core) → Sound z first → first.values ≡ [] → (es : List (Said Ask Reply)) (c : Config Act Core) → Each (λ (x : Said Ask Reply). TellsImages n x.reply) es
        → Walk Ls (start (ask end_program) line first) es c → AllFit n me coarrays readable z es
    walks_fit line z first i e es c tells w = all_fit es z (start (ask end_program) line first) c ([] ∷ [], (i, λ y d j s. tt), tt) tells w

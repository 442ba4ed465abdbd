-- The code of a program does what its walk does, step by step.
use Rattle.std.proofs.Common.{◌≡◌, ℕ, suc, ◌+◌, nat_lt, List, [], ◌∷◌, ◌++◌, length, refl, ap, sym, subst, arith, inl, inr}
use Rattle.std.proofs.lemmas.Bool.{cases_Bool}
use Rattle.std.specs.Prelude.{Some, None, slice_get}
use Rattle.trace_theory.specs.Machines.{Move, goes, over, goes_on, go}
use Rattle.trace_theory.specs.Simulations.{Matches, Simulates}
use Rattle.walk_theory.specs.Language.{Effect, goes_to, faults, asking, ends_with, stuck, Tested, no_value, holds, fails, Language, acted, counted, by_test}
use Rattle.walk_theory.specs.Syntax.{end_parts, value, act, enter, either, Form, simple, choose, loop, around, exit, cycle, return, otherwise, branch, Steps, stop, also}
use Rattle.walk_theory.specs.Walks.{Task, run, eval, tally, decide, pick, again, iterate, back, Config, to, form_tasks, backs, step, step_task}
use Rattle.walk_theory.specs.Code.{Instr, Line, on, State, at_place, does_act, count_one, jump, jump_if, jump_unless, skip, skip_unless, call, go_back, returned, does, code_step, Stands}
use Rattle.walk_theory.specs.Made.{parts_size, steps_size, form_size, branches_size, Places, places, parts_code, iterations_code, pick_code, steps_code, form_code, branches_code}
use Rattle.walk_theory.proofs.Alike.{Hops, Leads, Does, Alike, Proceed}
use Rattle.walk_theory.proofs.Places.{iterations_cut, cut, parts_long, steps_long, form_long}
use Rattle.walk_theory.proofs.Leaving.{Reaches, same_depth, reach_back, leave_loop, cycle_loop}

module _ {A C Q R : Type 0} (L : Language A C Q R) (answers : Q → R → Type 0) (procedures : ℕ → Steps A) (limit : ℕ) (code : List (Line A)) (starts : ℕ → ℕ) (proceed : Proceed code starts procedures) (past : slice_get code (length code) ≡ None) where
  abbrev Next : Move (Config A C) Q R → State C → Type 0
  Next v d = Matches (Alike code starts) answers (code_step L code limit) v d

  abbrev D : List Places → ℕ → List ℕ → List (Task A) → Type 0
  D = Does code starts

  -- the code has nothing more to do
  nothing : (c : C) (n : ℕ) → Alike code starts (to [] c n) (at_place (length code) [] c n)
  nothing c n = record { loops = []; does = (refl, refl, inl past); core = refl; count = refl }

  -- in no step
  at_once : (ts : List (Task A)) (xs : List Places) (p : ℕ) (rs : List ℕ) (c : C) (n : ℕ) → D xs p rs ts → Next (goes (to ts c n)) (at_place p rs c n)
  at_once ts xs p rs c n h = (0, at_place p rs c n, refl, record { loops = xs; does = h; core = refl; count = refl })

  -- in one step
  in_one : (ts : List (Task A)) (xs : List Places) (p q l : ℕ) (i : Instr A) (rs ss : List ℕ) (c d : C) (n m : ℕ) → slice_get code p ≡ Some (on l i) → does L code limit i l p rs c n ≡ goes (at_place q ss d m) → D xs q ss ts → Next (goes (to ts d m)) (at_place p rs c n)
  in_one ts xs p q l i rs ss c d n m at e h = (1, at_place q ss d m, rw (at, e) refl, record { loops = xs; does = h; core = refl; count = refl })

  hop_does : (i : Instr A) (l p q : ℕ) (rs : List ℕ) (c : C) (n : ℕ) → Hops i p q → does L code limit i l p rs c n ≡ goes (at_place q rs c n)
  hop_does (jump r) l p q rs c n h = ap (λ k. goes (at_place k rs c n)) h
  hop_does (skip k) l p q rs c n h = ap (λ k. goes (at_place k rs c n)) h
  hop_does (does_act a) l p q rs c n h = absurd h
  hop_does count_one l p q rs c n h = absurd h
  hop_does (jump_if r) l p q rs c n h = absurd h
  hop_does (jump_unless r) l p q rs c n h = absurd h
  hop_does (skip_unless k) l p q rs c n h = absurd h
  hop_does (call r) l p q rs c n h = absurd h
  hop_does go_back l p q rs c n h = absurd h

  -- in one step, and maybe a jump
  in_two : (ts : List (Task A)) (p q l : ℕ) (i : Instr A) (rs : List ℕ) (c d : C) (n m : ℕ) → slice_get code p ≡ Some (on l i) → does L code limit i l p rs c n ≡ goes (at_place q rs d m) → Reaches code starts q rs ts → Next (goes (to ts d m)) (at_place p rs c n)
  in_two ts p q l i rs c d n m at e r =
      elim r.leads [
        | inl s ↦ in_one ts r.loops p q l i rs rs c d n m at e (subst (λ k. D r.loops k rs ts) (sym s) r.does)
        | inr j ↦ (2, at_place r.to rs d m, rw (at, e, j.2, hop_does j.1 j.0 q r.to rs d m j.3) refl, record { loops = r.loops; does = r.does; core = refl; count = refl })
      ]

  -- by a jump or none
  by_jump : (ts : List (Task A)) (p : ℕ) (rs : List ℕ) (c : C) (n : ℕ) → Reaches code starts p rs ts → Next (goes (to ts c n)) (at_place p rs c n)
  by_jump ts p rs c n r =
      elim r.leads [
        | inl s ↦ at_once ts r.loops p rs c n (subst (λ k. D r.loops k rs ts) (sym s) r.does)
        | inr j ↦ in_one ts r.loops p r.to j.0 j.1 rs rs c c n n j.2 (hop_does j.1 j.0 p r.to rs c n j.3) r.does
      ]

  -- a count, which may be one too many
  tally_alike : (ts : List (Task A)) (p l : ℕ) (rs : List ℕ) (c : C) (n : ℕ) → slice_get code p ≡ Some (on l count_one) → Reaches code starts (p + 1) rs ts → Next (counted L limit l n (to ts c (n + 1)) (to [] c n)) (at_place p rs c n)
  tally_alike ts p l rs c n at r =
      elim (cases_Bool (nat_lt n limit)) [
        | inl t ↦ rw t (in_two ts p (p + 1) l count_one rs c c n (n + 1) at (rw t refl) r)
        | inr f ↦ rw f ((λ r. at_place (length code) [] c n), (1, rw (at, f) refl), λ r ok. nothing c n)
      ]

  -- an act: the operators and asks of every form go through here
  act_alike : (l p : ℕ) (rs : List ℕ) (c : C) (n : ℕ) (e : Effect C Q R) (ts : List (Task A)) (xs : List Places) (a : A) → slice_get code p ≡ Some (on l (does_act a)) → L.operate a c ≡ e → D xs (p + 1) rs ts → Next (acted L l (λ d. to ts d n) (λ d. to [] d n) c e) (at_place p rs c n)
  act_alike l p rs c n (goes_to d) ts xs a at o h = in_one ts xs p (p + 1) l (does_act a) rs rs c d n n at (rw o refl) h
  act_alike l p rs c n (faults k) ts xs a at o h = ((λ r. at_place (length code) [] (L.forget c) n), (1, rw (at, o) refl), λ r ok. nothing (L.forget c) n)
  act_alike l p rs c n (asking a' f) ts xs a at o h =
      ((λ r. at_place (p + 1) rs (f r) n), (1, rw (at, o) refl), λ r ok. record { loops = xs; does = h; core = refl; count = refl })
  act_alike l p rs c n (ends_with a') ts xs a at o h = ((λ r. at_place (length code) [] c n), (1, rw (at, o) refl), λ r ok. nothing c n)
  act_alike l p rs c n stuck ts xs a at o h = (1, rw (at, o) refl)

  -- one step more
  after_one : (c : Config A C) (d e : State C) → code_step L code limit d ≡ goes e → Next (goes c) e → Next (goes c) d
  after_one c d e s (n, f, g, h) = (suc n, f, rw s g, h)

  -- a test, after which each side goes on as it should
  test_alike : (x : Tested C) (d : State C) (a b : C → State C) (f g : C → Config A C) → code_step L code limit d ≡ by_test x a b → ((c : C) → Next (goes (f c)) (a c)) → ((c : C) → Next (goes (g c)) (b c)) → Next (by_test x f g) d
  test_alike no_value d a b f g s t u = (1, rw s refl)
  test_alike (fails c) d a b f g s t u = after_one (g c) d (b c) s (u c)
  test_alike (holds c) d a b f g s t u = after_one (f c) d (a c) s (t c)

  -- a form of statement, whose code stands at p
  form_reach : (f : Form A) (l p : ℕ) (xs : List Places) (rs : List ℕ) (ts : List (Task A)) → Stands code p (form_code starts xs p l f) → D xs (p + form_size f) rs ts → Reaches code starts p rs (form_tasks l f ts)
  form_reach (simple q) l p xs rs ts h k = record { to = p; loops = xs; leads = inl refl; does = (h, k) }
  form_reach (choose q bs) l p xs rs ts h k =
      let f = cut code p (parts_size q) (parts_code starts l q) (branches_code starts xs (p + parts_size q) bs) (parts_long starts l q) h in
      let e : p + (parts_size q + branches_size bs) ≡ p + parts_size q + branches_size bs = omega arith in
      record { to = p; loops = xs; leads = inl refl; does = (f.0, (f.1, subst (λ n. D xs n rs ts) e k)) }
  form_reach (loop s n t b) l p xs rs ts h k =
      let first = p + parts_size s + 1 in
      let body = steps_code starts (places first b n t ∷ xs) (first + 1) b in
      let f = cut code p (parts_size s) (parts_code starts l s) (on l (jump (p + parts_size s + 1 + 1 + steps_size b + parts_size n)) ∷ iterations_code starts first l body n t) (parts_long starts l s) h in
      let g = iterations_cut code starts xs first l b n t f.1.1 in
      let z : p + parts_size s ≡ p + parts_size s + 0 = omega arith in
      let e : p + (parts_size s + 1 + (1 + steps_size b + parts_size n + parts_size t + 1)) ≡ p + parts_size s + 1 + 1 + steps_size b + parts_size n + parts_size t + 1 = omega arith in
      record { to = p; loops = xs; leads = inl refl; does = (f.0, (tt, p + parts_size s + 1 + 1 + steps_size b + parts_size n, inr (l, jump (p + parts_size s + 1 + 1 + steps_size b + parts_size n), subst (λ m. slice_get code m ≡ Some (on l (jump (p + parts_size s + 1 + 1 + steps_size b + parts_size n)))) z f.1.0, refl), (g.test, (first, refl, f.1.1, subst (λ n. D xs n rs ts) e k)))) }
  form_reach (around q b m r) l p xs rs ts h k =
      let f = cut code p (parts_size q) (parts_code starts l q) (steps_code starts xs (p + parts_size q) b ++ on m count_one ∷ parts_code starts m r) (parts_long starts l q) h in
      let g = cut code (p + parts_size q) (steps_size b) (steps_code starts xs (p + parts_size q) b) (on m count_one ∷ parts_code starts m r) (steps_long starts xs (p + parts_size q) b) f.1 in
      let e : p + (parts_size q + steps_size b + 1 + parts_size r) ≡ p + parts_size q + steps_size b + 1 + parts_size r = omega arith in
      record { to = p; loops = xs; leads = inl refl; does = (f.0, (g.0, p + parts_size q + steps_size b, inl refl, (g.1.0, (g.1.1, subst (λ n. D xs n rs ts) e k)))) }
  form_reach (exit n) l p xs rs ts h k = leave_loop code starts n ts xs _ p l rs k h.0
  form_reach (cycle n) l p xs rs ts h k = cycle_loop code starts n ts xs _ p l rs k h.0
  form_reach return l p xs rs ts h k = record { to = p; loops = []; leads = inl refl; does = reach_back code starts ts xs _ p l rs k h.0 }

  step_alike : (t : Task A) (ts : List (Task A)) (xs : List Places) (p : ℕ) (rs : List ℕ) (c : C) (m' : ℕ) → D xs p rs (t ∷ ts) → Next (step_task L procedures limit t ts c m') (at_place p rs c m')
  step_alike (run stop) ts xs p rs c m' h = by_jump ts p rs c m' (record { to = h.1; loops = xs; leads = (let e : p + 0 ≡ p = omega arith in subst (λ k. Leads code starts k h.1) e h.2); does = h.3 })
  step_alike (run (also l f rest)) ts xs p rs c m' h =
      let g = cut code (p + 1) (form_size f) (form_code starts xs (p + 1) l f) (steps_code starts xs (p + 1 + form_size f) rest) (form_long starts xs (p + 1) l f) h.0.1 in
      let e : p + (1 + form_size f + steps_size rest) ≡ p + 1 + form_size f + steps_size rest = omega arith in
      tally_alike (form_tasks l f (run rest ∷ ts)) p l rs c m' h.0.0 (form_reach f l (p + 1) xs rs (run rest ∷ ts) g.0 (g.1, h.1, subst (λ k. Leads code starts k h.1) e h.2, h.3))
  step_alike (eval l end_parts) ts xs p rs c m' h = at_once ts xs p rs c m' (let e : p + 0 ≡ p = omega arith in subst (λ k. D xs k rs ts) e h.1)
  step_alike (eval l (value a b)) ts xs p rs c m' h =
      let f = cut code p (parts_size a) (parts_code starts l a) (parts_code starts l b) (parts_long starts l a) h.0 in
      let e : p + (parts_size a + parts_size b) ≡ p + parts_size a + parts_size b = omega arith in
      at_once (eval l a ∷ eval l b ∷ ts) xs p rs c m' (f.0, (f.1, subst (λ k. D xs k rs ts) e h.1))
  step_alike (eval l (act a q)) ts xs p rs c m' h =
      let e : p + (1 + parts_size q) ≡ p + 1 + parts_size q = omega arith in
      act_alike l p rs c m' (L.operate a c) (eval l q ∷ ts) xs a h.0.0 refl (h.0.1, subst (λ k. D xs k rs ts) e h.1)
  step_alike (eval l (enter k q)) ts xs p rs c m' h =
      let e : p + (1 + parts_size q) ≡ p + 1 + parts_size q = omega arith in
      let f = cut code (starts k) (steps_size (procedures k)) (steps_code starts [] (starts k) (procedures k)) (on (proceed k).0 go_back ∷ []) (steps_long starts [] (starts k) (procedures k)) (proceed k).1 in
      let k' = subst (λ k. D xs k rs ts) e h.1 in
      let d = same_depth code starts ts xs _ rs h.1 in
      elim (cases_Bool (nat_lt (L.frames c) (backs ts))) [
        | inl t' ↦ rw t' (1, rw (h.0.0, d, t') refl)
        | inr f' ↦ rw f' (
            in_one (run (procedures k) ∷ back ∷ eval l q ∷ ts) [] p (starts k) l (call (starts k)) rs ((p + 1) ∷ rs) c c m' m' h.0.0 (rw (d, f') refl)
            (f.0, starts k + steps_size (procedures k), inl refl, (refl, (proceed k).0, f.1.0, xs, (h.0.1, k'))))
      ]
  step_alike (eval l (either a b q)) ts xs p rs c m' h =
      let f = cut code (p + 1) (parts_size a) (parts_code starts l a) (on l (skip (parts_size b)) ∷ (parts_code starts l b ++ parts_code starts l q)) (parts_long starts l a) h.0.1 in
      let g = cut code (p + 1 + parts_size a + 1) (parts_size b) (parts_code starts l b) (parts_code starts l q) (parts_long starts l b) f.1.1 in
      let last = p + 1 + parts_size a + 1 + parts_size b in
      let e : p + (1 + parts_size a + 1 + parts_size b + parts_size q) ≡ last + parts_size q = omega arith in
      let z : p + 1 + (parts_size a + 1) ≡ p + 1 + parts_size a + 1 = omega arith in
      let y : p + 1 + parts_size a ≡ p + 1 + parts_size a + 0 = omega arith in
      let k = subst (λ n. D xs n rs ts) e h.1 in
      test_alike (L.test c) (at_place p rs c m') (λ vs. at_place (p + 1) rs vs m') (λ vs. at_place (p + 1 + (parts_size a + 1)) rs vs m') _ _ (rw h.0.0 refl)
      (λ vs. at_once (eval l a ∷ run stop ∷ eval l q ∷ ts) xs (p + 1) rs vs m' (f.0, (tt, last, subst (λ n. Leads code starts n last) y (inr (l, skip (parts_size b), f.1.0, refl)), (g.1, k))))
      (λ vs. subst (λ n. Next (goes (to (eval l b ∷ eval l q ∷ ts) vs m')) (at_place n rs vs m')) (sym z) (at_once (eval l b ∷ eval l q ∷ ts) xs (p + 1 + parts_size a + 1) rs vs m' (g.0, (g.1, k))))
  step_alike (tally l) ts xs p rs c m' h = tally_alike ts p l rs c m' h.0 (record { to = p + 1; loops = xs; leads = inl refl; does = h.1 })
  step_alike (decide (otherwise b)) ts xs p rs c m' h = at_once (run b ∷ ts) xs p rs c m' (h.0, p + steps_size b, inl refl, h.1)
  step_alike (decide (branch l q a rest)) ts xs p rs c m' h =
      let first = steps_code starts xs (p + parts_size q + 1) a in
      let last = branches_code starts xs (p + parts_size q + 1 + steps_size a + 1) rest in
      let f = cut code p (parts_size q) (parts_code starts l q) (pick_code starts l (p + parts_size q + 1 + steps_size a + 1) (p + parts_size q + 1 + steps_size a + 1 + branches_size rest) first last) (parts_long starts l q) h.0 in
      let e : p + (parts_size q + 1 + steps_size a + 1 + branches_size rest) ≡ p + parts_size q + 1 + steps_size a + 1 + branches_size rest = omega arith in
      at_once (eval l q ∷ pick l a rest ∷ ts) xs p rs c m' (f.0, (f.1, subst (λ k. D xs k rs ts) e h.1))
  step_alike (pick l a rest) ts xs p rs c m' h =
      let first = steps_code starts xs (p + 1) a in
      let end = p + 1 + steps_size a + 1 + branches_size rest in
      let f = cut code (p + 1) (steps_size a) first (on l (jump end) ∷ branches_code starts xs (p + 1 + steps_size a + 1) rest) (steps_long starts xs (p + 1) a) h.0.1 in
      test_alike (L.test c) (at_place p rs c m') (λ vs. at_place (p + 1) rs vs m') (λ vs. at_place (p + 1 + steps_size a + 1) rs vs m') _ _ (rw h.0.0 refl)
      (λ vs. at_once (run a ∷ ts) xs (p + 1) rs vs m' (f.0, end, inr (l, jump end, f.1.0, refl), h.1))
      (λ vs. at_once (decide rest ∷ ts) xs (p + 1 + steps_size a + 1) rs vs m' (f.1.1, h.1))
  step_alike (again m) ts [] p rs c m' h = absurd h
  step_alike (again m) ts (x ∷ xs) p rs c m' h =
      let g = iterations_cut code starts xs h.0 m.line m.body m.next m.test h.3 in
      at_once (eval m.line m.next ∷ eval m.line m.test ∷ iterate m ∷ ts) xs p rs c m'
      (subst (λ k. D xs k rs (eval m.line m.next ∷ eval m.line m.test ∷ iterate m ∷ ts)) (sym h.2) (g.next, (g.test, (h.0, refl, h.3, h.4))))
  step_alike (iterate m) ts xs p rs c m' h =
      let g = iterations_cut code starts xs h.0 m.line m.body m.next m.test h.2 in
      let at : slice_get code p ≡ Some (on m.line (jump_if h.0)) = subst (λ k. slice_get code k ≡ Some (on m.line (jump_if h.0))) (sym h.1) g.last in
      let e : p + 1 ≡ h.0 + 1 + steps_size m.body + parts_size m.next + parts_size m.test + 1 = ap (λ k. k + 1) h.1 in
      test_alike (L.test c) (at_place p rs c m') (λ vs. at_place h.0 rs vs m') (λ vs. at_place (p + 1) rs vs m') _ _ (rw at refl)
      (λ vs. at_once (tally m.line ∷ run m.body ∷ again m ∷ ts) (places h.0 m.body m.next m.test ∷ xs) h.0 rs vs m' (g.count, (g.body, h.0 + 1 + steps_size m.body, inl refl, (h.0, refl, refl, h.2, subst (λ k. D xs k rs ts) e h.3))))
      (λ vs. at_once ts xs (p + 1) rs vs m' h.3)
  step_alike back ts xs p [] c m' h = absurd h
  step_alike back ts xs p (r ∷ rs) c m' h = in_one ts h.3 p r h.1 go_back (r ∷ rs) rs c c m' m' h.2 refl h.4

  no_task : (xs : List Places) (p : ℕ) (rs : List ℕ) (c : C) (m' : ℕ) → D xs p rs [] → Next over (at_place p rs c m')
  no_task xs p rs c m' h =
      elim h.2 [
        | inl n ↦ (1, rw n refl)
        | inr s ↦ (1, rw s.1 (subst (λ qs. goes_on (returned qs c m') (go (code_step L code limit) 0) ≡ over) (sym h.1) refl))
      ]

  by_tasks : (us : List (Task A)) (xs : List Places) (p : ℕ) (rs : List ℕ) (c : C) (m' : ℕ) → D xs p rs us → Next (step L procedures limit (to us c m')) (at_place p rs c m')
  by_tasks [] xs p rs c m' h = no_task xs p rs c m' h
  by_tasks (t ∷ ts) xs p rs c m' h = step_alike t ts xs p rs c m' h

  pub simulates : Simulates (Alike code starts) answers (step L procedures limit) (code_step L code limit)
  simulates c d h =
      subst (λ (k : C). Next (step L procedures limit c) (at_place d.at d.returns k d.count)) (sym h.core)
      (subst (λ k. Next (step L procedures limit c) (at_place d.at d.returns c.core k)) (sym h.count) (by_tasks c.tasks h.loops d.at d.returns c.core c.count h.does))

-- Where the walk stops, the code stops at once in the same way.
use Rattle.std.proofs.Common.{◌≡◌, ℕ, ◌+◌, nat_lt, List, [], ◌∷◌, length, refl, sym, subst, inl, inr}
use Rattle.std.proofs.lemmas.Bool.{cases_Bool}
use Rattle.std.specs.Prelude.{Some, slice_get}
use Rattle.trace_theory.specs.Machines.{over, Rests}
use Rattle.trace_theory.specs.Simulations.{SameRest, RestsNear}
use Rattle.walk_theory.specs.Language.{Effect, goes_to, faults, asking, ends_with, stuck, Tested, no_value, holds, fails, Language, acted, counted, by_test}
use Rattle.walk_theory.specs.Syntax.{end_parts, value, act, enter, either, otherwise, branch, Steps, stop, also}
use Rattle.walk_theory.specs.Walks.{Task, run, eval, tally, decide, pick, again, iterate, back, Config, to, backs, step, step_task}
use Rattle.walk_theory.specs.Code.{Line, on, count_one, does_act, jump_if, State, at_place, returned, code_step}
use Rattle.walk_theory.specs.Made.{Places, parts_size, steps_size}
use Rattle.walk_theory.specs.Programs.{SameCore}
use Rattle.walk_theory.proofs.Alike.{Does, Alike}
use Rattle.walk_theory.proofs.Leaving.{same_depth}
use Rattle.walk_theory.proofs.Places.{iterations_cut}

module _ {A C Q R : Type 0} (L : Language A C Q R) (procedures : ℕ → Steps A) (limit : ℕ) (code : List (Line A)) (starts : ℕ → ℕ) where
  count_stops : (l p : ℕ) (rs : List ℕ) (c : C) (n : ℕ) (d e : Config A C) → slice_get code p ≡ Some (on l count_one) → Rests (counted L limit l n d e) → SameRest (counted L limit l n d e) (code_step L code limit (at_place p rs c n))
  count_stops l p rs c n d e at s = elim (cases_Bool (nat_lt n limit)) [
    | inl t ↦ absurd (rw t at s)
    | inr f ↦ rw f ((λ r. at_place (length code) [] c n), rw (at, f) refl)
  ]

  act_stops : (l p : ℕ) (rs : List ℕ) (c : C) (n : ℕ) (a : A) (f g : C → Config A C) (e : Effect C Q R) → slice_get code p ≡ Some (on l (does_act a)) → L.operate a c ≡ e → Rests (acted L l f g c e) → SameRest (acted L l f g c e) (code_step L code limit (at_place p rs c n))
  act_stops l p rs c n a f g (goes_to d) at o s = absurd s
  act_stops l p rs c n a f g (faults k) at o s = ((λ r. at_place (length code) [] (L.forget c) n), rw (at, o) refl)
  act_stops l p rs c n a f g (asking q h) at o s = ((λ r. at_place (p + 1) rs (h r) n), rw (at, o) refl)
  act_stops l p rs c n a f g (ends_with q) at o s = ((λ r. at_place (length code) [] c n), rw (at, o) refl)
  act_stops l p rs c n a f g stuck at o s = rw (at, o) refl

  test_stops : (x : Tested C) (d : State C) (a b : C → State C) (f g : C → Config A C) → code_step L code limit d ≡ by_test x a b → Rests (by_test {C = C} {X = Config A C} {Q = Q} {R = R} x f g) → SameRest (by_test {C = C} {X = Config A C} {Q = Q} {R = R} x f g) (code_step L code limit d)
  test_stops no_value d a b f g e s = e
  test_stops (fails c) d a b f g e s = absurd s
  test_stops (holds c) d a b f g e s = absurd s

  task_stops : (t : Task A) (ts : List (Task A)) (xs : List Places) (p : ℕ) (rs : List ℕ) (c : C) (n : ℕ) → Does code starts xs p rs (t ∷ ts) → Rests (step_task L procedures limit t ts c n) → SameRest (step_task L procedures limit t ts c n) (code_step L code limit (at_place p rs c n))
  task_stops (run stop) ts xs p rs c n h s = absurd s
  task_stops (run (also l f rest)) ts xs p rs c n h s = count_stops l p rs c n _ _ h.0.0 s
  task_stops (eval l end_parts) ts xs p rs c n h s = absurd s
  task_stops (eval l (value a b)) ts xs p rs c n h s = absurd s
  task_stops (eval l (act a q)) ts xs p rs c n h s = act_stops l p rs c n a (λ d. to (eval l q ∷ ts) d n) (λ d. to [] d n) (L.operate a c) h.0.0 refl s
  task_stops (eval l (enter k q)) ts xs p rs c n h s = elim (cases_Bool (nat_lt (L.frames c) (backs ts))) [
    | inl t ↦ rw t (rw (h.0.0, same_depth code starts ts xs _ rs h.1, t) refl)
    | inr f ↦ absurd (rw f at s)
  ]
  task_stops (eval l (either a b q)) ts xs p rs c n h s = test_stops (L.test c) (at_place p rs c n) (λ d. at_place (p + 1) rs d n) (λ d. at_place (p + 1 + (parts_size a + 1)) rs d n) _ _ (rw h.0.0 refl) s
  task_stops (tally l) ts xs p rs c n h s = count_stops l p rs c n _ _ h.0 s
  task_stops (decide (otherwise b)) ts xs p rs c n h s = absurd s
  task_stops (decide (branch l q a rest)) ts xs p rs c n h s = absurd s
  task_stops (pick l a rest) ts xs p rs c n h s = test_stops (L.test c) (at_place p rs c n) (λ d. at_place (p + 1) rs d n) (λ d. at_place (p + 1 + steps_size a + 1) rs d n) _ _ (rw h.0.0 refl) s
  task_stops (again m) ts xs p rs c n h s = absurd s
  task_stops (iterate m) ts xs p rs c n h s =
      let g = iterations_cut code starts xs h.0 m.line m.body m.next m.test h.2 in
      let at = subst (λ k. slice_get code k ≡ Some (on m.line (jump_if h.0))) (sym h.1) g.last in
      test_stops (L.test c) (at_place p rs c n) (λ d. at_place h.0 rs d n) (λ d. at_place (p + 1) rs d n) _ _ (rw at refl) s
  task_stops back ts xs p rs c n h s = absurd s

  list_stops : (ts : List (Task A)) (xs : List Places) (p : ℕ) (rs : List ℕ) (c : C) (n : ℕ) → Does code starts xs p rs ts → Rests (step L procedures limit (to ts c n)) → SameRest (step L procedures limit (to ts c n)) (code_step L code limit (at_place p rs c n))
  list_stops [] xs p rs c n h s =
      elim h.2 [
        | inl m ↦ rw m refl
        | inr m ↦ rw m.1 (subst (λ qs. returned {C = C} {Q = Q} {R = R} qs c n ≡ over) (sym h.1) refl)
      ]
  list_stops (t ∷ ts) xs p rs c n h s = task_stops t ts xs p rs c n h s

  -- the code stops with the core and the count of the walk, at the same ask and line or at the end
  pub stops_near : RestsNear (Alike code starts) SameCore (step L procedures limit) (code_step L code limit)
  stops_near c d h s = (
    0,
    d,
    refl,
    (h.core, h.count),
    subst (λ (k : C). SameRest (step L procedures limit c) (code_step L code limit (at_place d.at d.returns k d.count))) (sym h.core)
        (subst (λ k. SameRest (step L procedures limit c) (code_step L code limit (at_place d.at d.returns c.core k))) (sym h.count) (list_stops c.tasks h.loops d.at d.returns c.core c.count h.does s)),
  )

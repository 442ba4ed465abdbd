-- Each configuration of a walk comes to an ask or ends.
use Rattle.std.proofs.Common.{◌≡◌, ℕ, ◌+◌, ◌<◌, nat_lt, List, [], ◌∷◌, inl, inr, refl, arith}
use Rattle.std.proofs.lemmas.Bool.{cases_Bool, ltb-true}
use Rattle.trace_theory.specs.Machines.{Move, ComesToRest, Falls}
use Rattle.trace_theory.proofs.Ending.{ends_by_falling}
use Rattle.walk_theory.specs.Language.{Effect, goes_to, faults, asking, ends_with, stuck, Tested, no_value, holds, fails, Language, acted, counted, by_test}
use Rattle.walk_theory.specs.Syntax.{end_parts, value, act, enter, either, otherwise, branch, Steps, stop, also}
use Rattle.walk_theory.specs.Walks.{Task, run, eval, tally, decide, pick, again, iterate, back, backs, Config, to, step, step_task}
use Rattle.walk_theory.proofs.Weights.{weight}

module _ {A C Q R : Type 0} (L : Language A C Q R) (procedures : ℕ → Steps A) (limit : ℕ) where
  -- after this move from b less is left to do, or one more is counted
  abbrev Less : Config A C → Move (Config A C) Q R → Type 0
  Less b m = Falls (λ (d : Config A C). Unit {0}) (λ d. d.count) (λ d. weight d.tasks) limit b m

  counted_falls : (l : ℕ) (b d e : Config A C) → d.count ≡ b.count + 1 → Less b (counted L limit l b.count d e)
  counted_falls l b d e h = elim (cases_Bool (nat_lt b.count limit)) [
    | inl t ↦ rw t (tt, inr (h, (let k = ltb-true b.count limit t in omega arith)))
    | inr f ↦ rw f tt
  ]

  acted_falls : (l : ℕ) (b : Config A C) (c : C) (e : Effect C Q R) (ts : List (Task A)) → weight ts < weight b.tasks → Less b (acted L l (λ d. to ts d b.count) (λ d. to [] d b.count) c e)
  acted_falls l b c (goes_to d) ts h = (tt, inl (refl, h))
  acted_falls l b c (faults x) ts h = tt
  acted_falls l b c (asking a f) ts h = tt
  acted_falls l b c (ends_with a) ts h = tt
  acted_falls l b c stuck ts h = tt

  test_falls : (b : Config A C) (x : Tested C) (ts us : List (Task A)) → weight ts < weight b.tasks → weight us < weight b.tasks → Less b (by_test {C = C} {X = Config A C} {Q = Q} {R = R} x (λ d. to ts d b.count) (λ d. to us d b.count))
  test_falls b no_value ts us h k = tt
  test_falls b (fails c) ts us h k = (tt, inl (refl, k))
  test_falls b (holds c) ts us h k = (tt, inl (refl, h))

  falls : (t : Task A) (ts : List (Task A)) (c : C) (n : ℕ) → Less (to (t ∷ ts) c n) (step_task L procedures limit t ts c n)
  falls (run stop) ts c n = (tt, inl (refl, omega arith))
  falls (run (also l f rest)) ts c n = counted_falls l (to (run (also l f rest) ∷ ts) c n) _ _ refl
  falls (eval l end_parts) ts c n = (tt, inl (refl, omega arith))
  falls (eval l (value p q)) ts c n = (tt, inl (refl, omega arith))
  falls (eval l (act a q)) ts c n = acted_falls l (to (eval l (act a q) ∷ ts) c n) c (L.operate a c) (eval l q ∷ ts) (omega arith)
  falls (eval l (enter k q)) ts c n = elim (cases_Bool (nat_lt (L.frames c) (backs ts))) [ inl t ↦ rw t tt | inr f ↦ rw f (tt, inl (refl, omega arith)) ]
  falls (eval l (either a b q)) ts c n = test_falls (to (eval l (either a b q) ∷ ts) c n) (L.test c) (eval l a ∷ run stop ∷ eval l q ∷ ts) (eval l b ∷ eval l q ∷ ts) (omega arith) (omega arith)
  falls (tally l) ts c n = counted_falls l (to (tally l ∷ ts) c n) _ _ refl
  falls (decide (otherwise b)) ts c n = (tt, inl (refl, omega arith))
  falls (decide (branch l p a rest)) ts c n = (tt, inl (refl, omega arith))
  falls (pick l a rest) ts c n = test_falls (to (pick l a rest ∷ ts) c n) (L.test c) (run a ∷ ts) (decide rest ∷ ts) (omega arith) (omega arith)
  falls (again m) ts c n = (tt, inl (refl, omega arith))
  falls (iterate m) ts c n = test_falls (to (iterate m ∷ ts) c n) (L.test c) (tally m.line ∷ run m.body ∷ again m ∷ ts) ts (omega arith) (omega arith)
  falls back ts c n = (tt, inl (refl, omega arith))

  list_falls : (ts : List (Task A)) (c : C) (n : ℕ) → Less (to ts c n) (step L procedures limit (to ts c n))
  list_falls [] c n = tt
  list_falls (t ∷ ts) c n = falls t ts c n

  -- each configuration comes to an ask or ends
  pub ends : (c : Config A C) → ComesToRest (step L procedures limit) c
  ends c = ends_by_falling (Config A C) Q R (step L procedures limit) (λ d. Unit {0}) (λ d. d.count) (λ d. weight d.tasks) limit (λ d h. list_falls d.tasks d.core d.count) c tt

-- The walk of parts comes to what their evaluation comes to.
use Rattle.std.proofs.Common.{◌≡◌, ℕ, ◌+◌, List, ◌∷◌, refl, ap, ◌∙◌}
use Rattle.trace_theory.specs.Machines.{Move, goes, goes_on, go}
use Rattle.trace_theory.proofs.Machines.{go_more}
use Rattle.walk_theory.specs.Language.{Effect, goes_to, faults, asking, ends_with, stuck, Tested, no_value, holds, fails, Language}
use Rattle.walk_theory.specs.Syntax.{Parts, end_parts, value, act, enter, either, Steps, stop}
use Rattle.walk_theory.specs.Walks.{Task, run, eval, Config, to, step}
use Rattle.walk_theory.specs.Evaluation.{Outcome, leaves, faulted, not_plain, and_then, of_effect, of_test, outcome, ComesTo}

module _ {A C Q R : Type 0} (L : Language A C Q R) (procedures : ℕ → Steps A) (limit : ℕ) where
  abbrev W : Config A C → Move (Config A C) Q R
  W = step L procedures limit

  abbrev To : Outcome C → ℕ → List (Task A) → ℕ → Config A C → Type 0
  To = ComesTo L procedures limit

  before : (o : Outcome C) (l : ℕ) (ts : List (Task A)) (n i : ℕ) (c d : Config A C) → go W i c ≡ goes d → To o l ts n d → To o l ts n c
  before (leaves x) l ts n i c d p (k, q) = (i + k, go_more (Config A C) Q R W i k c ∙ ap (λ v. goes_on v (go W k)) p ∙ q)
  before (faulted f x) l ts n i c d p (k, q) = (i + k, go_more (Config A C) Q R W i k c ∙ ap (λ v. goes_on v (go W k)) p ∙ q)
  before not_plain l ts n i c d p h = tt

  after : (o : Outcome C) (f : C → Outcome C) (l n : ℕ) (ts us : List (Task A)) (c : Config A C) → To o l us n c → ((d : C) → To (f d) l ts n (to us d n)) → To (and_then o f) l ts n c
  after (leaves d) f l n ts us c (k, p) more = before (f d) l ts n k c (to us d n) p (more d)
  after (faulted k d) f l n ts us c h more = h
  after not_plain f l n ts us c h more = tt

  effect_comes : (a : A) (q : Parts A) (l n : ℕ) (ts : List (Task A)) (c : C) (e : Effect C Q R) → L.operate a c ≡ e → To (of_effect c e) l (eval l q ∷ ts) n (to (eval l (act a q) ∷ ts) c n)
  effect_comes a q l n ts c (goes_to d) h = (1, rw h refl)
  effect_comes a q l n ts c (faults k) h = (1, rw h refl)
  effect_comes a q l n ts c (asking b f) h = tt
  effect_comes a q l n ts c (ends_with b) h = tt
  effect_comes a q l n ts c stuck h = tt

  either_comes : (a b q : Parts A) (l n : ℕ) (ts : List (Task A)) (c : C) (f g : C → Outcome C) (x : Tested C) → L.test c ≡ x
      → ((d : C) (us : List (Task A)) → To (f d) l us n (to (eval l a ∷ us) d n)) → ((d : C) (us : List (Task A)) → To (g d) l us n (to (eval l b ∷ us) d n))
      → To (of_test x f g) l (eval l q ∷ ts) n (to (eval l (either a b q) ∷ ts) c n)
  either_comes a b q l n ts c f g no_value h so other = tt
  either_comes a b q l n ts c f g (fails d) h so other = before (g d) l (eval l q ∷ ts) n 1 _ (to (eval l b ∷ eval l q ∷ ts) d n) (rw h refl) (other d (eval l q ∷ ts))
  either_comes a b q l n ts c f g (holds d) h so other =
      before (f d) l (eval l q ∷ ts) n 1 _ (to (eval l a ∷ run stop ∷ eval l q ∷ ts) d n) (rw h refl) (past_stop (f d) (so d (run stop ∷ eval l q ∷ ts)))
    where
      past_stop : (o : Outcome C) → To o l (run stop ∷ eval l q ∷ ts) n (to (eval l a ∷ run stop ∷ eval l q ∷ ts) d n) → To o l (eval l q ∷ ts) n (to (eval l a ∷ run stop ∷ eval l q ∷ ts) d n)
      past_stop (leaves e) (k, p) = (k + 1, go_more (Config A C) Q R W k 1 _ ∙ ap (λ v. goes_on v (go W 1)) p)
      past_stop (faulted k e) h = h
      past_stop not_plain h = tt

  -- the walk of parts comes to what their evaluation comes to, whatever is left to do behind them
  pub parts_come : (p : Parts A) (l : ℕ) (ts : List (Task A)) (c : C) (n : ℕ) → ComesTo L procedures limit (outcome L p c) l ts n (to (eval l p ∷ ts) c n)
  parts_come end_parts l ts c n = (1, refl)
  parts_come (value p q) l ts c n =
      before (outcome L (value p q) c) l ts n 1 _ (to (eval l p ∷ eval l q ∷ ts) c n) refl
      (after (outcome L p c) (outcome L q) l n ts (eval l q ∷ ts) _ (parts_come p l (eval l q ∷ ts) c n) (λ d. parts_come q l ts d n))
  parts_come (act a q) l ts c n =
      after (of_effect c (L.operate a c)) (outcome L q) l n ts (eval l q ∷ ts) _ (effect_comes a q l n ts c (L.operate a c) refl) (λ d. parts_come q l ts d n)
  parts_come (enter k q) l ts c n = tt
  parts_come (either a b q) l ts c n =
      after (of_test (L.test c) (outcome L a) (outcome L b)) (outcome L q) l n ts (eval l q ∷ ts) _
      (either_comes a b q l n ts c (outcome L a) (outcome L b) (L.test c) refl (λ d us. parts_come a l us d n) (λ d us. parts_come b l us d n))
      (λ d. parts_come q l ts d n)

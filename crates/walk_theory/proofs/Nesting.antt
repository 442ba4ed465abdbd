-- EXIT, CYCLE and RETURN leave what they name and all that is inside it, and nothing else.
use Rattle.std.proofs.Common.{◌≡◌, ℕ, zero, suc, ◌+◌, ◌<◌, List, [], ◌∷◌, ◌++◌, refl}
use Rattle.std.proofs.lemmas.Bool.{lt-ltb}
use Rattle.trace_theory.specs.Machines.{goes, asks, Said, Walk, go}
use Rattle.walk_theory.specs.Language.{faults, Language}
use Rattle.walk_theory.specs.Syntax.{Parts, act, Steps, also, exit, cycle, return}
use Rattle.walk_theory.specs.Walks.{Loop, Task, run, eval, tally, decide, pick, again, iterate, back, after_loop, from_loop, from_back, backs, Config, to, step}
use Rattle.walk_theory.specs.Nesting.{loops}

module _ {A : Type 0} where
  exit_from : (inner ts : List (Task A)) (m : Loop A) → backs inner ≡ 0 → after_loop (loops inner) (inner ++ again m ∷ ts) ≡ ts
  exit_from [] ts m h = refl
  exit_from (run ss ∷ us) ts m h = exit_from us ts m h
  exit_from (eval l p ∷ us) ts m h = exit_from us ts m h
  exit_from (tally l ∷ us) ts m h = exit_from us ts m h
  exit_from (decide b ∷ us) ts m h = exit_from us ts m h
  exit_from (pick l a b ∷ us) ts m h = exit_from us ts m h
  exit_from (again l ∷ us) ts m h = exit_from us ts m h
  exit_from (iterate l ∷ us) ts m h = exit_from us ts m h
  exit_from (back ∷ us) ts m h = absurd (cc)

  cycle_from : (inner ts : List (Task A)) (m : Loop A) → backs inner ≡ 0 → from_loop (loops inner) (inner ++ again m ∷ ts) ≡ again m ∷ ts
  cycle_from [] ts m h = refl
  cycle_from (run ss ∷ us) ts m h = cycle_from us ts m h
  cycle_from (eval l p ∷ us) ts m h = cycle_from us ts m h
  cycle_from (tally l ∷ us) ts m h = cycle_from us ts m h
  cycle_from (decide b ∷ us) ts m h = cycle_from us ts m h
  cycle_from (pick l a b ∷ us) ts m h = cycle_from us ts m h
  cycle_from (again l ∷ us) ts m h = cycle_from us ts m h
  cycle_from (iterate l ∷ us) ts m h = cycle_from us ts m h
  cycle_from (back ∷ us) ts m h = absurd (cc)

  return_from : (inner ts : List (Task A)) → backs inner ≡ 0 → from_back (inner ++ back ∷ ts) ≡ back ∷ ts
  return_from [] ts h = refl
  return_from (run ss ∷ us) ts h = return_from us ts h
  return_from (eval l p ∷ us) ts h = return_from us ts h
  return_from (tally l ∷ us) ts h = return_from us ts h
  return_from (decide b ∷ us) ts h = return_from us ts h
  return_from (pick l a b ∷ us) ts h = return_from us ts h
  return_from (again l ∷ us) ts h = return_from us ts h
  return_from (iterate l ∷ us) ts h = return_from us ts h
  return_from (back ∷ us) ts h = absurd (cc)

module _ {A C Q R : Type 0} (L : Language A C Q R) (procedures : ℕ → Steps A) (limit : ℕ) where
  -- EXIT goes on behind the loop that it names
  pub exit_leaves : (inner ts : List (Task A)) (m : Loop A) (l n : ℕ) (rest : Steps A) (c : C) → backs inner ≡ 0 → n < limit → step L procedures limit (to (run (also l (exit (loops inner)) rest) ∷ (inner ++ again m ∷ ts)) c n) ≡ goes (to ts c (n + 1))
  exit_leaves inner ts m l n rest c h b = rw (lt-ltb n limit b, exit_from inner ts m h) refl

  -- CYCLE goes on at the end of that loop's iteration
  pub cycle_leaves : (inner ts : List (Task A)) (m : Loop A) (l n : ℕ) (rest : Steps A) (c : C) → backs inner ≡ 0 → n < limit → step L procedures limit (to (run (also l (cycle (loops inner)) rest) ∷ (inner ++ again m ∷ ts)) c n) ≡ goes (to (again m ∷ ts) c (n + 1))
  cycle_leaves inner ts m l n rest c h b = rw (lt-ltb n limit b, cycle_from inner ts m h) refl

  -- RETURN goes on at the end of the procedure's body
  pub return_leaves : (inner ts : List (Task A)) (l n : ℕ) (rest : Steps A) (c : C) → backs inner ≡ 0 → n < limit → step L procedures limit (to (run (also l return rest) ∷ (inner ++ back ∷ ts)) c n) ≡ goes (to (back ∷ ts) c (n + 1))
  return_leaves inner ts l n rest c h b = rw (lt-ltb n limit b, return_from inner ts h) refl

  -- an act that faults changes nothing: the walk stands with its core and asks; after the reply nothing is left to do
  pub fault_changes_nothing : (a : A) (q : Parts A) (l k n : ℕ) (ts : List (Task A)) (c : C) → L.operate a c ≡ faults k → step L procedures limit (to (eval l (act a q) ∷ ts) c n) ≡ asks (L.fault k) l (λ r. to [] (L.forget c) n)
  fault_changes_nothing a q l k n ts c h = rw h refl

  over_stays : (i : ℕ) (c : C) (n : ℕ) (b : Q) (l : ℕ) (k : R → Config A C) → go (step L procedures limit) i (to [] c n) ≡ asks b l k → ⊥
  over_stays zero c n b l k h = cc
  over_stays (suc i) c n b l k h = cc

  -- where nothing is left to do nothing more is said
  pub nothing_after : (es : List (Said Q R)) (c : C) (n : ℕ) (d : Config A C) → Walk (step L procedures limit) (to [] c n) es d → (es ≡ []) × (d ≡ to [] c n)
  nothing_after [] c n d w = (refl, w)
  nothing_after (s ∷ es) c n d (k, comes, w) = absurd (over_stays comes.0 c n s.ask s.line k comes.1)

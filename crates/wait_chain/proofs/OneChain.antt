-- A stuck run has one chain of waits and no other.
use Rattle.std.proofs.Common.{◌≡◌, ℕ, zero, suc, ◌+◌, ◌≤◌, Bool, true, false, List, [], ◌∷◌, ◌++◌, map, inl, inr, refl, ap, sym, ◌∙◌, subst, arith}
use Rattle.std.specs.List.{filter, range_with_len}
use Rattle.std.proofs.lemmas.Bool.{cases_Bool, both_ways}
use Rattle.caf_events.specs.declared.ask.Ask.{Ask}
use Rattle.caf_events.specs.declared.ask.Ask.TheVariants as asks
use Rattle.caf_events.specs.declared.event.Entry.{Entry}
use Rattle.object_rules.specs.Happenings.{control, happened, has_stopped}
use Rattle.core_runs.specs.CoreRuns.{at_board}
use Rattle.wait_reason.specs.WaitsFor.{waits_with}
use Rattle.wait_reason.specs.Chains.{Wait, Close, post, stopped, cycle, IsAmong, AsksThere, IsEventWait, IsNext, IsFirst, WaitsForPost, GoesOn, IsChain}
use Rattle.wait_chain.specs.Stuck.{IsStuck}

-- none of the numbers stands in the list twice
abbrev Differ : List ℕ → Type 0
Differ [] = Unit {0}
Differ (x ∷ xs) = (IsAmong x xs → ⊥) × Differ xs

-- numbers in a row differ, and so do those of them that pass a test
among_low : (test : ℕ → Bool) (i a m : ℕ) → IsAmong i (filter test (range_with_len a m)) → a ≤ i
among_low test i a zero h = absurd h
among_low test i a (suc m) h = elim (cases_Bool (test a)) [
  | inl t ↦ elim (rw t at h) [ inl e ↦ omega arith | inr rest ↦ (let low = among_low test i (a + 1) m rest in omega arith) ]
  | inr f ↦ (let low = among_low test i (a + 1) m (rw f at h) in omega arith)
]

row_differs : (test : ℕ → Bool) (a m : ℕ) → Differ (filter test (range_with_len a m))
row_differs test a zero = tt
row_differs test a (suc m) = elim (cases_Bool (test a)) [
  | inl t ↦ rw t ((λ h. (let low = among_low test a (a + 1) m h in absurd (omega arith))), row_differs test (a + 1) m)
  | inr f ↦ rw f (row_differs test (a + 1) m)
]

image_among : (i : ℕ) (a : Ask) (ws : List Wait) → AsksThere ws i a → IsAmong i (map (λ (w : Wait). w.image) ws)
image_among i a [] h = absurd h
image_among i a (w ∷ ws) (inl e) = inl (sym e.0)
image_among i a (w ∷ ws) (inr h) = inr (image_among i a ws h)

asks_once : (i : ℕ) (a b : Ask) (ws : List Wait) → Differ (map (λ (w : Wait). w.image) ws) → AsksThere ws i a → AsksThere ws i b → a ≡ b
asks_once i a b [] d g h = absurd g
asks_once i a b (w ∷ ws) d (inl e) (inl f) = sym e.1 ∙ f.1
asks_once i a b (w ∷ ws) d (inl e) (inr h) = absurd (d.0 (subst (λ z. IsAmong z (map (λ (x : Wait). x.image) ws)) (sym e.0) (image_among i b ws h)))
asks_once i a b (w ∷ ws) d (inr g) (inl f) = absurd (d.0 (subst (λ z. IsAmong z (map (λ (x : Wait). x.image) ws)) (sym f.0) (image_among i a ws g)))
asks_once i a b (w ∷ ws) d (inr g) (inr h) = asks_once i a b ws d.1 g h

same_by : (j k : ℕ) → j ≤ k → k ≤ j → j ≡ k
same_by j k a b = omega arith

-- EVENT WAIT waits for no image
waits_for_none : (n : ℕ) (t : List Entry) (i j : ℕ) (a : Ask) → IsEventWait a → waits_with n t i a j ≡ false
waits_for_none n t i j (asks.Wait owner span threshold) h = refl
waits_for_none n t i j a h = absurd h

module _ (n : ℕ) (t : List Entry) (waits : List Wait) (stuck : IsStuck n t waits) where
  one_ask : (i : ℕ) (a b : Ask) → AsksThere waits i a → AsksThere waits i b → a ≡ b
  one_ask i a b g h = asks_once i a b waits (subst Differ (sym stuck.images) (row_differs _ 1 n)) g h

  one_next : (i j k : ℕ) → IsNext n t waits i j → IsNext n t waits i k → j ≡ k
  one_next i j k g h =
      let same = one_ask i g.ask h.ask g.there h.there in
      same_by j k (g.least k h.of_run (ap (λ a. waits_with n t i a k) same ∙ h.waiting)) (h.least j g.of_run (ap (λ a. waits_with n t i a j) (sym same) ∙ g.waiting))

  one_first : (i k : ℕ) → IsFirst n t waits i → IsFirst n t waits k → i ≡ k
  one_first i k g h = same_by i k (g.least k h.of_run h.left) (h.least i g.of_run g.left)

  -- who waits for a post waits for no image
  post_alone : (i j : ℕ) → WaitsForPost n t waits i → IsNext n t waits i j → ⊥
  post_alone i j p g = both_ways (waits_with n t i g.ask j) (ap (λ a. waits_with n t i a j) (one_ask i g.ask p.0 g.there p.1) ∙ waits_for_none n t i j p.0 p.2) g.waiting

  -- who stopped didn't go on
  stopped_alone : (i j k : ℕ) → IsNext n t waits i j → has_stopped j (happened control (at_board t)) ≡ true → IsNext n t waits i k → has_stopped k (happened control (at_board t)) ≡ false → ⊥
  stopped_alone i j k g is h not_ = both_ways (has_stopped k (happened control (at_board t))) not_ (ap (λ z. has_stopped z (happened control (at_board t))) (sym (one_next i j k g h)) ∙ is)

  one_close : (before : List ℕ) (i : ℕ) (c d : Close) → GoesOn n t waits before i [] c → GoesOn n t waits before i [] d → c ≡ d
  one_close before i post post g h = refl
  one_close before i post (stopped k) g h = absurd (post_alone i k g h.0)
  one_close before i post (cycle k) g h = absurd (post_alone i k g h.0)
  one_close before i (stopped j) post g h = absurd (post_alone i j h g.0)
  one_close before i (stopped j) (stopped k) g h = ap stopped (one_next i j k g.0 h.0)
  one_close before i (stopped j) (cycle k) g h = absurd (stopped_alone i j k g.0 g.1 h.0 h.1)
  one_close before i (cycle j) post g h = absurd (post_alone i j h g.0)
  one_close before i (cycle j) (stopped k) g h = absurd (stopped_alone i k j h.0 h.1 g.0 g.1)
  one_close before i (cycle j) (cycle k) g h = ap cycle (one_next i j k g.0 h.0)

  -- a chain that closes here doesn't go on
  closed_here : (before : List ℕ) (i k : ℕ) (ks : List ℕ) (c d : Close) → GoesOn n t waits before i [] c → GoesOn n t waits before i (k ∷ ks) d → ⊥
  closed_here before i k ks post d g h = post_alone i k g h.0
  closed_here before i k ks (stopped j) d g h = stopped_alone i j k g.0 g.1 h.0 h.1
  closed_here before i k ks (cycle j) d g h = h.2 (subst (λ z. IsAmong z (before ++ i ∷ [])) (one_next i j k g.0 h.0) g.2)

  goes_once : (before : List ℕ) (i : ℕ) (js ks : List ℕ) (c d : Close) → GoesOn n t waits before i js c → GoesOn n t waits before i ks d → (js ≡ ks) × (c ≡ d)
  goes_once before i [] [] c d g h = (refl, one_close before i c d g h)
  goes_once before i [] (k ∷ ks) c d g h = absurd (closed_here before i k ks c d g h)
  goes_once before i (j ∷ js) [] c d g h = absurd (closed_here before i j js d c h g)
  goes_once before i (j ∷ js) (k ∷ ks) c d g h =
      let same = one_next i j k g.0 h.0 in
      let rest = goes_once (before ++ i ∷ []) j js ks c d g.3 (subst (λ z. GoesOn n t waits (before ++ i ∷ []) z ks d) (sym same) h.3) in
      (ap (λ z. j ∷ z) rest.0 ∙ ap (λ z. z ∷ ks) same, rest.1)

  pub one_chain : (ls ms : List ℕ) (c d : Close) → IsChain n t waits ls c → IsChain n t waits ms d → (ls ≡ ms) × (c ≡ d)
  one_chain [] ms c d g h = absurd g
  one_chain (i ∷ is) [] c d g h = absurd h
  one_chain (i ∷ is) (k ∷ ks) c d g h =
      let same = one_first i k g.0 h.0 in
      let rest = goes_once [] i is ks c d g.1 (subst (λ z. GoesOn n t waits [] z ks d) (sym same) h.1) in
      (ap (λ z. i ∷ z) rest.0 ∙ ap (λ z. z ∷ ks) same, rest.1)

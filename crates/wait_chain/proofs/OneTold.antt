-- A trace tells one chain of waits and no other.
use Rattle.std.proofs.Common.{◌≡◌, ℕ, ◌≤◌, Bool, List, [], ◌∷◌, ◌++◌, refl, ap, sym, ◌∙◌, subst, arith}
use Rattle.std.specs.Prelude.{Some, None}
use Rattle.std.proofs.lemmas.Bool.{both_ways}
use Rattle.caf_events.specs.declared.event.Entry.{Entry}
use Rattle.object_rules.specs.Happenings.{control, happened, has_stopped}
use Rattle.core_runs.specs.CoreRuns.{at_board}
use Rattle.wait_reason.specs.Chains.{Wait, Close, post, stopped, cycle, IsAmong, IsFirst, Stopped}
use Rattle.wait_chain.specs.Awaited.{IsLeast}
use Rattle.wait_chain.specs.ToldChains.{IsNextTold, GoesTo, ToldOn, IsToldChain}

same_by : (j k : ℕ) → j ≤ k → k ≤ j → j ≡ k
same_by j k a b = omega arith

one_least : (test : ℕ → Bool) (n j k : ℕ) → IsLeast test n (Some j) → IsLeast test n (Some k) → j ≡ k
one_least test n j k g h = same_by j k (g.2 k h.0 h.1) (h.2 j g.0 g.1)

no_least : (test : ℕ → Bool) (n j : ℕ) → IsLeast test n None → IsLeast test n (Some j) → ⊥
no_least test n j none h = both_ways (test j) (none j h.0) h.1

module _ (n : ℕ) (t : List Entry) (waits : List Wait) where
  one_next : (i j k : ℕ) → IsNextTold n t waits i (Some j) → IsNextTold n t waits i (Some k) → j ≡ k
  one_next i j k g h = one_least _ n j k g h

  no_next : (i j : ℕ) → IsNextTold n t waits i None → IsNextTold n t waits i (Some j) → ⊥
  no_next i j g h = no_least _ n j g h

  one_first : (i k : ℕ) → IsFirst n t waits i → IsFirst n t waits k → i ≡ k
  one_first i k g h = same_by i k (g.least k h.of_run h.left) (h.least i g.of_run g.left)

  -- who stopped didn't go on
  stopped_alone : (i j k : ℕ) → IsNextTold n t waits i (Some j) → Stopped n t waits j → GoesTo n t waits i k → ⊥
  stopped_alone i j k g is h = both_ways (has_stopped k (happened control (at_board t))) h.1 (subst (Stopped n t waits) (one_next i j k g h.0) is)

  one_close : (before : List ℕ) (i : ℕ) (c d : Close) → ToldOn n t waits before i [] c → ToldOn n t waits before i [] d → c ≡ d
  one_close before i post post g h = refl
  one_close before i post (stopped k) g h = absurd (no_next i k g h.0)
  one_close before i post (cycle k) g h = absurd (no_next i k g h.0.0)
  one_close before i (stopped j) post g h = absurd (no_next i j h g.0)
  one_close before i (stopped j) (stopped k) g h = ap stopped (one_next i j k g.0 h.0)
  one_close before i (stopped j) (cycle k) g h = absurd (stopped_alone i j k g.0 g.1 h.0)
  one_close before i (cycle j) post g h = absurd (no_next i j h g.0.0)
  one_close before i (cycle j) (stopped k) g h = absurd (stopped_alone i k j h.0 h.1 g.0)
  one_close before i (cycle j) (cycle k) g h = ap cycle (one_next i j k g.0.0 h.0.0)

  -- a chain that closes here doesn't go on
  closed_here : (before : List ℕ) (i k : ℕ) (ks : List ℕ) (c d : Close) → ToldOn n t waits before i [] c → ToldOn n t waits before i (k ∷ ks) d → ⊥
  closed_here before i k ks post d g h = no_next i k g h.0.0
  closed_here before i k ks (stopped j) d g h = stopped_alone i j k g.0 g.1 h.0
  closed_here before i k ks (cycle j) d g h = h.1 (subst (λ z. IsAmong z (before ++ i ∷ [])) (one_next i j k g.0.0 h.0.0) g.1)

  goes_once : (before : List ℕ) (i : ℕ) (js ks : List ℕ) (c d : Close) → ToldOn n t waits before i js c → ToldOn n t waits before i ks d → (js ≡ ks) × (c ≡ d)
  goes_once before i [] [] c d g h = (refl, one_close before i c d g h)
  goes_once before i [] (k ∷ ks) c d g h = absurd (closed_here before i k ks c d g h)
  goes_once before i (j ∷ js) [] c d g h = absurd (closed_here before i j js d c h g)
  goes_once before i (j ∷ js) (k ∷ ks) c d g h =
      let same = one_next i j k g.0.0 h.0.0 in
      let rest = goes_once (before ++ i ∷ []) j js ks c d g.2 (subst (λ z. ToldOn n t waits (before ++ i ∷ []) z ks d) (sym same) h.2) in
      (ap (λ z. j ∷ z) rest.0 ∙ ap (λ z. z ∷ ks) same, rest.1)

  pub one_told : (ls ms : List ℕ) (c d : Close) → IsToldChain n t waits ls c → IsToldChain n t waits ms d → (ls ≡ ms) × (c ≡ d)
  one_told [] [] c d g h = (refl, g.1 ∙ sym h.1)
  one_told [] (k ∷ ks) c d g h = absurd (g.0 k h.0.of_run h.0.left)
  one_told (i ∷ is) [] c d g h = absurd (h.0 i g.0.of_run g.0.left)
  one_told (i ∷ is) (k ∷ ks) c d g h =
      let same = one_first i k g.0 h.0 in
      let rest = goes_once [] i is ks c d g.1 (subst (λ z. ToldOn n t waits [] z ks d) (sym same) h.1) in
      (ap (λ z. i ∷ z) rest.0 ∙ ap (λ z. z ∷ ks) same, rest.1)

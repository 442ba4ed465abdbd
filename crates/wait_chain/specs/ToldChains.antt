-- The chain of waits that any trace tells with any list of waits (ISO/IEC 1539-1:2018, 11.1.6, 11.6, 16.6). It closes
-- with a post where its last image waits for no image. Behind a trace after which no image goes on, with its waits, it
-- is the chain of `IsChain` (`law_told_chain`).
use Rattle.std.specs.Prelude.{ℕ, ◌≡◌, false, List, [], ◌∷◌, ◌++◌, Option, Some, None}
use Rattle.caf_events.specs.declared.event.Entry.{Entry}
use Rattle.object_rules.specs.Happenings.{control, happened, has_stopped}
use Rattle.core_runs.specs.Beginnings.{IsOneOf}
use Rattle.core_runs.specs.CoreRuns.{at_board}
use Rattle.wait_reason.specs.Chains.{Wait, Close, post, stopped, cycle, IsAmong, Stopped, IsLeft, IsFirst}
use Rattle.wait_chain.specs.Awaited.{awaits, awaited_in, IsLeast}

module _ (n : ℕ) (t : List Entry) (waits : List Wait) where
  -- the least image of the run for which image i waits with its ask in the list, as the whole trace tells; None where
  -- it waits for none
  abbrev pub IsNextTold : ℕ → Option ℕ → Type 0
  IsNextTold i o = IsLeast (awaits n t i (awaited_in waits i)) n o

  -- it is image j, which hasn't stopped
  abbrev pub GoesTo : ℕ → ℕ → Type 0
  GoesTo i j = IsNextTold i (Some j) × (has_stopped j (happened control (at_board t)) ≡ false)

  -- from image i, with these images before it in the chain, the chain has these further links and closes so
  abbrev pub ToldOn : List ℕ → ℕ → List ℕ → Close → Type 0
  ToldOn before i [] post = IsNextTold i None
  ToldOn before i [] (stopped j) = IsNextTold i (Some j) × Stopped n t waits j
  ToldOn before i [] (cycle j) = GoesTo i j × IsAmong j (before ++ i ∷ [])
  ToldOn before i (j ∷ js) close = GoesTo i j × (IsAmong j (before ++ i ∷ []) → ⊥) × ToldOn (before ++ i ∷ []) j js close

  -- each image has stopped or failed
  abbrev pub NoneLeft : Type 0
  NoneLeft = (i : ℕ) → IsOneOf n i → IsLeft n t waits i → ⊥

  -- The chain has these links, the first of which is the least image that neither stopped nor is gone, and closes so;
  -- it has none where there is no such image.
  abbrev pub IsToldChain : List ℕ → Close → Type 0
  IsToldChain [] close = NoneLeft × (close ≡ post)
  IsToldChain (i ∷ is) close = IsFirst n t waits i × ToldOn [] i is close

-- A chain of waits as far as it has come, and what comes behind its last link.
use Rattle.std.specs.Prelude.{ℕ, cond, List, [], ◌∷◌, ◌++◌, Option, Some, None}
use Rattle.caf_events.specs.declared.event.Entry.{Entry}
use Rattle.object_rules.specs.Happenings.{control, happened, has_stopped}
use Rattle.object_rules.specs.ImagePairs.{names}
use Rattle.wait_reason.specs.Chains as chains
use Rattle.wait_reason.specs.Chains.{Wait, IsAmong, IsFirst}
use Rattle.wait_chain.specs.declared.links.Close.{Close}
use Rattle.wait_chain.specs.declared.links.Close.TheVariants as closes
use Rattle.wait_chain.specs.declared.links.Behind.{Behind}
use Rattle.wait_chain.specs.declared.links.Behind.TheVariants as behinds
use Rattle.wait_chain.specs.ToldChains.{GoesTo, IsToldChain}

-- how a chain closes
abbrev pub close_of : Close → chains.Close
close_of closes.Post = chains.post
close_of (closes.Stopped image) = chains.stopped image.0
close_of (closes.Cycle image) = chains.cycle image.0

-- the last link of a chain that begins with image i
abbrev pub last_link : ℕ → List ℕ → ℕ
last_link i [] = i
last_link i (j ∷ js) = last_link j js

abbrev pub last_of : List ℕ → ℕ
last_of [] = 0
last_of (i ∷ js) = last_link i js

-- What comes behind these links, where this is the next image: the chain closes where there is none, where it has
-- stopped, or where it is one of the links.
abbrev pub behind : List Entry → List ℕ → Option ℕ → Behind
behind g ls None = behinds.Closes closes.Post
behind g ls (Some j) =
    cond (has_stopped j (happened control g)) (behinds.Closes (closes.Stopped (record { 0 = j })))
    (cond (names j ls) (behinds.Closes (closes.Cycle (record { 0 = j }))) (behinds.Next (record { 0 = j })))

module _ (n : ℕ) (t : List Entry) (waits : List Wait) where
  -- from image i, with these images before it in the chain, it has these further links
  abbrev pub Leads : List ℕ → ℕ → List ℕ → Type 0
  Leads before i [] = Unit {0}
  Leads before i (j ∷ js) = GoesTo n t waits i j × (IsAmong j (before ++ i ∷ []) → ⊥) × Leads (before ++ i ∷ []) j js

  -- the chain begins with these links and goes on
  abbrev pub IsOpen : List ℕ → Type 0
  IsOpen [] = ⊥
  IsOpen (i ∷ js) = IsFirst n t waits i × Leads [] i js

  -- this is what comes behind these links: a further one, or the close of the chain
  abbrev pub ComesBehind : List ℕ → Behind → Type 0
  ComesBehind ls (behinds.Next image) = IsOpen (ls ++ image.0 ∷ [])
  ComesBehind ls (behinds.Closes close) = IsToldChain n t waits ls (close_of close)

-- A property of parts that all statements of a program have, where parts that are put together of such parts have it,
-- and those at which a team, images or own coarrays are named.
use Rattle.std.proofs.Common.{ℕ, ◌+◌, List, [], ◌∷◌}
use Rattle.std.specs.Prelude.{pos}
use Rattle.checked_tree.specs.declared.data.Object.{Object}
use Rattle.checked_tree.specs.Statements as s
use Rattle.walk_theory.specs.Syntax.{Parts, end_parts, value, act, enter, either}
use Rattle.image_acts.specs.Statuses.{bad_argument}
use Rattle.image_acts.specs.Acts as a
use Rattle.image_acts.specs.Acts.{Act, stack, bounded, allocation, selector, team, ask}
use Rattle.tree_meaning.specs.Sequences.{◌▸◌, doing, nothing, copying, pushing, choosing}
use Rattle.tree_meaning.specs.ImageControl.{round}
use Rattle.tree_meaning.specs.Allocation as alloc
use Rattle.told_walks.proofs.Acts.{IsFree}

-- FAILED_IMAGES and STOPPED_IMAGES
abbrev pub IsListing : a.AskAct → Type 0
IsListing a.failed = Unit {0}
IsListing a.stopped = Unit {0}
IsListing x = ⊥

abbrev pub listing : a.AskAct → Parts Act
listing x = doing (ask x ∷ stack a.take_cells ∷ [])

-- ALLOCATE of these objects, DEALLOCATE of these, and END TEAM's deallocation of one are asked for apart
pub record Closed (Safe : Parts Act → Type 0) (Made : List s.Allocation → Type 0) (Freed : List Object → Type 0) (Ended : ℕ → Type 0) : Type 0 where
  pub no_parts : Safe end_parts
  pub acts : {x : Act} {q : Parts Act} → IsFree x → Safe q → Safe (act x q)
  pub both : {p q : Parts Act} → Safe p → Safe q → Safe (value p q)
  pub fork : {p q r : Parts Act} → Safe p → Safe q → Safe r → Safe (either p q r)
  pub entering : (n : ℕ) {q : Parts Act} → Safe q → Safe (enter n q)
  pub sync_round : Safe (round (doing (ask a.arrive_sync ∷ [])))
  pub end_round : Safe (round (doing (ask a.arrive_end ∷ [])))
  pub form_round : (depth : ℕ) → Safe (round (copying depth 2 ▸ doing (ask a.arrive_form ∷ [])))
  pub sync_arrives : Safe (doing (team a.near_team ∷ ask a.arrive_sync ∷ []))
  pub change_safe : (m : ℕ) (tail : Parts Act) → Safe tail
      → Safe (copying m 1 ▸ doing (team a.child_team ∷ ask a.arrive_change ∷ []) ▸ copying m 1 ▸ doing (ask a.leave ∷ []) ▸ copying (m + 1) 1 ▸ doing (team a.make_current ∷ []) ▸ tail)
  pub status_asked : Safe (doing (selector a.team_value ∷ ask a.status ∷ []))
  pub listed_here : (x : a.AskAct) → IsListing x → Safe (doing (selector a.this_team ∷ []) ▸ listing x)
  pub listed_there : (x : a.AskAct) → IsListing x → (p : Parts Act) → Safe p → Safe ((p ▸ doing (selector a.team_value ∷ [])) ▸ listing x)
  pub listed_here_then : (x : a.AskAct) → IsListing x → (q : Parts Act) → Safe q → Safe (doing (selector a.this_team ∷ []) ▸ listing x ▸ q)
  pub listed_there_then : (x : a.AskAct) → IsListing x → (p q : Parts Act) → Safe p → Safe q → Safe ((p ▸ doing (selector a.team_value ∷ [])) ▸ listing x ▸ q)
  pub pairs_safe : (rest : Parts Act) → Safe rest
      → Safe (doing (bounded a.are_indices ∷ []) ▸ choosing (doing (ask a.pair ∷ ask a.unpair ∷ [])) (doing (stack a.drop_array ∷ []) ▸ pushing bad_argument) ▸ rest)
  pub allocating_safe : (xs : List s.Allocation) (n : ℕ) (rest : Parts Act) → Made xs → Safe rest
      → Safe (doing (allocation a.begin_plan ∷ []) ▸ alloc.planning xs n ▸ doing (allocation a.end_plan ∷ []) ▸ alloc.named_once (alloc.objects_of xs)
      ▸ choosing (alloc.making xs n ▸ alloc.allocate_round (alloc.coarrays_in (alloc.objects_of xs))) (pushing bad_argument) ▸ rest)
  pub deallocating_safe : (xs : List Object) (rest : Parts Act) → Freed xs → Safe rest
      → Safe (pushing (pos 1) ▸ alloc.are_allocated xs ▸ alloc.named_once xs ▸ choosing (alloc.deallocate_round (alloc.coarrays_in xs) ▸ alloc.freeing xs) (pushing bad_argument) ▸ rest)
  pub deleting_safe : (y : ℕ) → Ended y → Safe (doing (bounded (a.made_in_team y) ∷ []) ▸ choosing (doing (ask (a.delete y) ∷ allocation (a.note_freed y) ∷ [])) nothing)

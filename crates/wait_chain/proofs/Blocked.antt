-- Whom an image waits for with an ask that isn't ready hasn't failed.
use Rattle.std.proofs.Common.{◌≡◌, ℕ, Bool, true, false, ◌&&◌, ◌||◌, not, List, sym, ◌∙◌}
use Rattle.std.proofs.lemmas.Bool.{and_parts, or_parts, not-true, false_from_ne_true}
use Rattle.caf_events.specs.declared.ask.Ask.{Ask}
use Rattle.caf_events.specs.declared.ask.Ask.TheVariants as asks
use Rattle.caf_events.specs.declared.event.Entry.{Entry}
use Rattle.object_rules.specs.Cells.{Declared, is_within, is_marked}
use Rattle.object_rules.specs.Happenings.{Class, control, collective, images, happened, has_stopped, has_failed, has_ended}
use Rattle.object_rules.specs.TeamRounds.{has_arrived}
use Rattle.object_rules.specs.ImagePairs.{names, last_named, has_partner}
use Rattle.object_rules.specs.Constructs.{construct_after}
use Rattle.object_rules.specs.Locks.{lock_after, is_others}
use Rattle.object_rules.specs.BoardTeams.{teams_after, members_at}
use Rattle.object_rules.specs.BoardRules.{is_image}
use Rattle.object_rules.specs.MemoryRules.{fits_memory, memory_ready, can_come, cells_there}
use Rattle.core_runs.specs.CoreRuns.{at_board, of_memory}
use Rattle.core_runs.specs.Lawful.{IsLawfulTrace, made_memory}
use Rattle.wait_reason.specs.WaitsFor.{lacks_arrival, lacks_pair, waits_with}
use Rattle.wait_reason.proofs.Boards.{held_is}
use Rattle.wait_chain.specs.Stuck.{IsHeld}
use Rattle.wait_chain.proofs.Ended.{ended_same}
use Rattle.wait_chain.proofs.Images.{is_image_one}
use Rattle.wait_chain.proofs.Inside.{inside_left}
use Rattle.wait_chain.proofs.LockLeft.{lock_left}

and_of : (a b : Bool) → a ≡ true → (a && b) ≡ false → b ≡ false
and_of true b h k = k
and_of false b h k = absurd (cc)

module _ (coarrays : List Declared) (n : ℕ) (t : List Entry) (lawful : IsLawfulTrace coarrays n t) where
  not_ended : (class : Class) (j : ℕ) → not (has_ended j (happened class (at_board t))) ≡ true → has_failed j (happened control (at_board t)) ≡ false
  not_ended class j h = (or_parts (has_stopped j (happened control (at_board t))) (has_failed j (happened control (at_board t))) (sym (ended_same j class (at_board t)) ∙ not-true (has_ended j (happened class (at_board t))) h)).1

  round_left : (class : Class) (team round j : ℕ) → lacks_arrival class n (at_board t) team round j ≡ true → has_failed j (happened control (at_board t)) ≡ false
  round_left class team round j w =
      let hs = happened class (at_board t) in
      not_ended class j (and_parts (names j (members_at (teams_after n (at_board t)) team) && not (has_arrived team round j hs)) (not (has_ended j hs)) w).1

  pair_left : (i j : ℕ) → lacks_pair (happened images (at_board t)) i j ≡ true → has_failed j (happened control (at_board t)) ≡ false
  pair_left i j w =
      let hs = happened images (at_board t) in
      not_ended images j (and_parts (names j (last_named i hs) && not (has_partner i hs j)) (not (has_ended j hs)) w).1

  lock_waits_left : (i j : ℕ) (owner : _) (span : _) → IsHeld coarrays n t i (asks.Lock owner span) → waits_with n t i (asks.Lock owner span) j ≡ true → has_failed j (happened control (at_board t)) ≡ false
  lock_waits_left i j owner span h w =
      let m = made_memory coarrays owner.0 in
      let es = of_memory owner.0 t in
      let ask = asks.Lock owner span in
      let p = and_parts (is_image n owner.0) (fits_memory m es i ask) h.0 in
      let blocked = and_of (fits_memory m es i ask) (can_come es (cells_there m es ask) i ask) p.1 (and_of (is_image n owner.0) (memory_ready m es i ask) p.0 h.1) in
      let q = or_parts (is_marked es || not (is_within m es span)) (not (is_others (lock_after span.coarray span.start es) i)) blocked in
      let unmarked = (or_parts (is_marked es) (not (is_within m es span)) q.0).0 in
      false_from_ne_true (has_failed j (happened control (at_board t))) (λ failed. lock_left coarrays n t lawful owner.0 (is_image_one n owner.0 p.0) span.coarray span.start j (held_is j (lock_after span.coarray span.start es) w) unmarked failed)

  pub waits_left : (i j : ℕ) (a : Ask) → IsHeld coarrays n t i a → waits_with n t i a j ≡ true → has_failed j (happened control (at_board t)) ≡ false
  waits_left i j (asks.Leave team round) h w = round_left control team.0 round j w
  waits_left i j (asks.Take team round) h w = round_left collective team.0 round j w
  waits_left i j asks.Unpair h w = pair_left i j w
  waits_left i j (asks.Lock owner span) h w = lock_waits_left i j owner span h w
  waits_left i j (asks.Enter c) h w = false_from_ne_true (has_failed j (happened control (at_board t))) (λ failed. inside_left coarrays n t lawful j c (held_is j (construct_after c (at_board t)) w) failed)
  waits_left i j a h w = absurd (let z = w in cc)

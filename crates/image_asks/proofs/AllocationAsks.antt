-- The asks of allocations: the cells of a coarray, and the arrivals of ALLOCATE and DEALLOCATE.
use Rattle.std.proofs.Common.{◌≡◌, ℕ, ◌+◌, ◌<◌, ◌≤◌, ℤ, List, length, drop, refl, sym, subst, inl, inr, arith}
use Rattle.std.specs.Prelude.{map, min, cond, ◌==◌}
use Rattle.std.proofs.lemmas.Bool.{cases_lt}
use Rattle.std.proofs.lemmas.List.{length-drop}
use Rattle.caf_base.specs.declared.place.Place.{Place}
use Rattle.caf_base.specs.declared.place.Place.TheVariants as places
use Rattle.caf_events.specs.declared.ask.Ask.{Ask}
use Rattle.caf_events.specs.declared.ask.Ask.TheVariants as asks
use Rattle.caf_events.specs.declared.reply.Reply.{Reply}
use Rattle.caf_events.specs.declared.round.Arriving.{Arriving}
use Rattle.caf_events.specs.declared.round.Arriving.TheVariants as arrivals
use Rattle.coarray_types.specs.Places.{size_of}
use Rattle.walk_theory.specs.Language.{asking}
use Rattle.image_acts.specs.Core.{Core, with_values}
use Rattle.image_acts.specs.Frames.{pairs_in}
use Rattle.image_acts.specs.Replies.{arrival_reply}
use Rattle.image_acts.specs.Taking.{Acted, taking_one, taking}
use Rattle.image_acts.specs.Words.{word}
use Rattle.image_acts.specs.Operate.Allocating.{bounds_size}
use Rattle.image_code.specs.declared.step.AskStep.TheVariants as asked
use Rattle.coarray_tables.specs.Asks.{allotment}
use Rattle.image_state.specs.Kept.{Kept}
use Rattle.image_state.specs.Acting.{with_core}
use Rattle.image_asks.specs.declared.asks.Asking.TheVariants as askings
use Rattle.image_asks.specs.Asking.{ask_here, ComesTo, IsAsking, IsAsked, IsAskedAt, GoesOnWith}
use Rattle.image_asks.specs.Operands.{number_beneath, numbers_beneath, team_of}
use Rattle.image_asks.proofs.OperandLaws.{beneath_dropped, dropped_twice, one_is, one_in, one_not, some_is, some_in, some_not, seen_is, seen_in, seen_not}

-- the cells of a coarray whose bounds stay
module _ (m : Kept) (k depth rank : ℕ) where
  abbrev creating : List ℤ → Acted
  creating vs = asking (asks.Create (record { 0 = m.core.me }) k (min (size_of (pairs_in vs)) 4294967295)) (λ r. m.core)

  abbrev needed : ℕ
  needed = cond (bounds_size rank == 0) 0 (depth + bounds_size rank)

  pub create_there : IsAsking (ask_here m (asked.Create k depth rank)) → needed ≤ length m.core.values
  create_there h = seen_in m.core depth (bounds_size rank) creating h

  pub create_asks : needed ≤ length m.core.values → ComesTo (ask_here m (asked.Create k depth rank)) askings.Asks
  create_asks h = seen_is m.core (λ x. ComesTo x askings.Asks) depth (bounds_size rank) creating h refl

  pub create_missing : length m.core.values < needed → ComesTo (ask_here m (asked.Create k depth rank)) askings.Stuck
  create_missing h = seen_not m.core (λ x. ComesTo x askings.Stuck) depth (bounds_size rank) creating h refl

  pub create_placed : (p : Place) → IsAsking (ask_here m (asked.Create k depth rank)) → p ≡ places.Memory (record { 0 = m.core.me }) → IsAskedAt (ask_here m (asked.Create k depth rank)) p
  create_placed p h e = seen_is m.core (λ x. IsAskedAt x p) depth (bounds_size rank) creating (create_there h) e

  pub create_asked : (q : Ask) → IsAsking (ask_here m (asked.Create k depth rank)) → q ≡ asks.Create (record { 0 = m.core.me }) k (min (size_of (pairs_in (numbers_beneath depth (bounds_size rank) m.core.values))) 4294967295) → IsAsked (ask_here m (asked.Create k depth rank)) q
  create_asked q h e = seen_is m.core (λ x. IsAsked x q) depth (bounds_size rank) creating (create_there h) e

  pub create_heard : (e : Kept) (r : Reply) → IsAsking (ask_here m (asked.Create k depth rank)) → e ≡ m → GoesOnWith m (ask_here m (asked.Create k depth rank)) r e
  create_heard e r h g = seen_is m.core (λ x. GoesOnWith m x r e) depth (bounds_size rank) creating (create_there h) g

-- an arrival with n coarrays, beneath which the team stands
module _ (m : Kept) (n : ℕ) (f : List ℤ → Arriving) where
  abbrev arrived : List ℤ → ℤ → Core → Acted
  arrived ks t e = asking (asks.Arrive (team_of t) (f ks)) (arrival_reply e)

  abbrev arrived_with : List ℤ → Core → Acted
  arrived_with ks d = taking_one d (arrived ks)

  abbrev arriving : Acted
  arriving = taking n m.core arrived_with

  abbrev coarrays : List ℤ
  coarrays = numbers_beneath 0 n m.core.values

  abbrev rest : Core
  rest = with_values m.core (drop n m.core.values)

  abbrev arrive_effect : Acted
  arrive_effect = arrived coarrays (number_beneath n m.core.values) (with_values m.core (drop (n + 1) m.core.values))

  arrive_is : (P : Acted → Type 0) → n + 1 ≤ length m.core.values → P arrive_effect → P arriving
  arrive_is P h p =
      let l = length-drop n m.core.values in
      some_is m.core P n arrived_with (omega arith) (one_is rest P (arrived coarrays) (omega arith)
      (subst (λ v. P (arrived coarrays v (with_values m.core (drop 1 (drop n m.core.values))))) (sym (beneath_dropped n 0 n m.core.values (omega arith)))
      (subst (λ ws. P (arrived coarrays (number_beneath n m.core.values) (with_values m.core ws))) (sym (dropped_twice 1 n (n + 1) m.core.values refl)) p)))

  pub arrive_there : IsAsking arriving → n + 1 ≤ length m.core.values
  arrive_there h =
      let l = length-drop n m.core.values in
      let some = some_in m.core n arrived_with h in
      let one = one_in rest (arrived coarrays) some.1 in
      let first : n ≤ length m.core.values = some.0 in
      let others : 1 ≤ length (drop n m.core.values) = one.0 in
      omega arith

  pub arrive_asks : n + 1 ≤ length m.core.values → ComesTo arriving askings.Asks
  arrive_asks h = arrive_is (λ x. ComesTo x askings.Asks) h refl

  pub arrive_missing : length m.core.values < n + 1 → ComesTo arriving askings.Stuck
  arrive_missing h =
      let l = length-drop n m.core.values in
      elim (cases_lt (length m.core.values) n) [
        | inl j ↦ some_not m.core (λ x. ComesTo x askings.Stuck) n arrived_with j refl
        | inr j ↦ some_is m.core (λ x. ComesTo x askings.Stuck) n arrived_with j (one_not rest (λ x. ComesTo x askings.Stuck) (arrived coarrays) (omega arith) refl)
      ]

  pub arrive_placed : (p : Place) → IsAsking arriving → p ≡ places.Board → IsAskedAt arriving p
  arrive_placed p h e = arrive_is (λ x. IsAskedAt x p) (arrive_there h) e

  pub arrive_asked : (q : Ask) → IsAsking arriving → q ≡ asks.Arrive (team_of (number_beneath n m.core.values)) (f coarrays) → IsAsked arriving q
  arrive_asked q h e = arrive_is (λ x. IsAsked x q) (arrive_there h) e

  pub arrive_heard : (e : Kept) (r : Reply) → IsAsking arriving → e ≡ with_core m (arrival_reply (with_values m.core (drop (n + 1) m.core.values)) r) → GoesOnWith m arriving r e
  arrive_heard e r h g = arrive_is (λ x. GoesOnWith m x r e) (arrive_there h) g

-- DEALLOCATE
module _ (m : Kept) (n : ℕ) where
  abbrev freed : List ℤ → Arriving
  freed ks = arrivals.Deallocate (map word ks)

  pub deallocate_there : IsAsking (ask_here m (asked.ArriveDeallocate n)) → n + 1 ≤ length m.core.values
  deallocate_there h = arrive_there m n freed h

  pub deallocate_asks : n + 1 ≤ length m.core.values → ComesTo (ask_here m (asked.ArriveDeallocate n)) askings.Asks
  deallocate_asks h = arrive_asks m n freed h

  pub deallocate_missing : length m.core.values < n + 1 → ComesTo (ask_here m (asked.ArriveDeallocate n)) askings.Stuck
  deallocate_missing h = arrive_missing m n freed h

  pub deallocate_placed : (p : Place) → IsAsking (ask_here m (asked.ArriveDeallocate n)) → p ≡ places.Board → IsAskedAt (ask_here m (asked.ArriveDeallocate n)) p
  deallocate_placed p h e = arrive_placed m n freed p h e

  pub deallocate_asked : (q : Ask) → IsAsking (ask_here m (asked.ArriveDeallocate n)) → q ≡ asks.Arrive (team_of (number_beneath n m.core.values)) (arrivals.Deallocate (map word (numbers_beneath 0 n m.core.values))) → IsAsked (ask_here m (asked.ArriveDeallocate n)) q
  deallocate_asked q h e = arrive_asked m n freed q h e

  pub deallocate_heard : (e : Kept) (r : Reply) → IsAsking (ask_here m (asked.ArriveDeallocate n)) → e ≡ with_core m (arrival_reply (with_values m.core (drop (n + 1) m.core.values)) r) → GoesOnWith m (ask_here m (asked.ArriveDeallocate n)) r e
  deallocate_heard e r h g = arrive_heard m n freed e r h g

-- ALLOCATE
module _ (m : Kept) (n : ℕ) where
  abbrev allotted : List ℤ → Arriving
  allotted ks = arrivals.Allocate (allotment m.core.coarrays ks)

  pub allocate_there : IsAsking (ask_here m (asked.ArriveAllocate n)) → n + 1 ≤ length m.core.values
  allocate_there h = arrive_there m n allotted h

  pub allocate_asks : n + 1 ≤ length m.core.values → ComesTo (ask_here m (asked.ArriveAllocate n)) askings.Asks
  allocate_asks h = arrive_asks m n allotted h

  pub allocate_missing : length m.core.values < n + 1 → ComesTo (ask_here m (asked.ArriveAllocate n)) askings.Stuck
  allocate_missing h = arrive_missing m n allotted h

  pub allocate_placed : (p : Place) → IsAsking (ask_here m (asked.ArriveAllocate n)) → p ≡ places.Board → IsAskedAt (ask_here m (asked.ArriveAllocate n)) p
  allocate_placed p h e = arrive_placed m n allotted p h e

  pub allocate_asked : (q : Ask) → IsAsking (ask_here m (asked.ArriveAllocate n)) → q ≡ asks.Arrive (team_of (number_beneath n m.core.values)) (arrivals.Allocate (allotment m.core.coarrays (numbers_beneath 0 n m.core.values))) → IsAsked (ask_here m (asked.ArriveAllocate n)) q
  allocate_asked q h e = arrive_asked m n allotted q h e

  pub allocate_heard : (e : Kept) (r : Reply) → IsAsking (ask_here m (asked.ArriveAllocate n)) → e ≡ with_core m (arrival_reply (with_values m.core (drop (n + 1) m.core.values)) r) → GoesOnWith m (ask_here m (asked.ArriveAllocate n)) r e
  allocate_heard e r h g = arrive_heard m n allotted e r h g

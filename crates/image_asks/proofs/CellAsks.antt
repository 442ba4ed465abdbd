-- The asks of one cell: atomic subroutines, locks, and events.
use Rattle.std.proofs.Common.{◌≡◌, ℕ, ◌<◌, ◌≤◌, ℤ, Bool, true, false, List, [], ◌∷◌, length, drop, refl, ap, sym, ◌∙◌, subst, arith}
use Rattle.std.specs.Prelude.{max}
use Rattle.caf_base.specs.declared.place.ImageNo.{ImageNo}
use Rattle.caf_base.specs.declared.place.Place.{Place}
use Rattle.caf_base.specs.declared.place.Place.TheVariants as places
use Rattle.caf_base.specs.declared.value.Kind.{Kind}
use Rattle.caf_base.specs.declared.value.AtomicOp.{AtomicOp}
use Rattle.caf_base.specs.Arithmetic.{natural}
use Rattle.caf_events.specs.declared.ask.Ask.{Ask}
use Rattle.caf_events.specs.declared.ask.Ask.TheVariants as asks
use Rattle.caf_events.specs.declared.reply.Reply.{Reply}
use Rattle.walk_theory.specs.Language.{asking}
use Rattle.image_acts.specs.Core.{Core, with_values}
use Rattle.image_acts.specs.Faults.{not_allocated}
use Rattle.image_acts.specs.Owning.{own_in}
use Rattle.image_acts.specs.Replies.{status_of, with_status, acquired_in, count_in, old_in, atomic_reply, try_reply, count_reply}
use Rattle.image_acts.specs.Taking.{Acted, unless, taking_two}
use Rattle.image_acts.specs.Words.{word}
use Rattle.image_acts.specs.Operate.Asking.{cell_span, has_cell, first_operand, second_operand}
use Rattle.image_code.specs.declared.step.AskStep.TheVariants as asked
use Rattle.image_state.specs.Kept.{Kept}
use Rattle.image_state.specs.Acting.{with_core}
use Rattle.image_asks.specs.declared.asks.Asking.TheVariants as askings
use Rattle.image_asks.specs.Asking.{ask_here, ComesTo, IsAsking, IsAsked, IsAskedAt, GoesOnWith}
use Rattle.image_asks.specs.Operands.{number_beneath, image_of}
use Rattle.image_asks.proofs.OperandLaws.{one_is, one_in, one_not, two_is, two_in, two_not}

-- LOCK, UNLOCK and EVENT POST: the offset of a cell, and on top an image
module _ (m : Kept) (f : ImageNo → ℤ → Ask) where
  abbrev celled : ℤ → ℤ → Core → Acted
  celled start o d = asking (f (image_of o) start) (λ r. with_status r d)

  abbrev celling : Acted
  celling = taking_two m.core celled

  abbrev owner : ImageNo
  owner = image_of (number_beneath 0 m.core.values)

  abbrev start : ℤ
  start = number_beneath 1 m.core.values

  pub cell_there : IsAsking celling → 2 ≤ length m.core.values
  cell_there h = (two_in m.core celled h).0

  pub cell_comes : 2 ≤ length m.core.values → ComesTo celling askings.Asks
  cell_comes h = two_is m.core (λ x. ComesTo x askings.Asks) celled h refl

  pub cell_missing : length m.core.values < 2 → ComesTo celling askings.Stuck
  cell_missing h = two_not m.core (λ x. ComesTo x askings.Stuck) celled h refl

  pub cell_asked : (q : Ask) → IsAsking celling → q ≡ f owner start → IsAsked celling q
  cell_asked q h e = two_is m.core (λ x. IsAsked x q) celled (cell_there h) e

  pub cell_placed : (p : Place) → IsAsking celling → p ≡ Rattle.caf_events.specs.Asks.place_of (f owner start) → IsAskedAt celling p
  cell_placed p h e = two_is m.core (λ x. IsAskedAt x p) celled (cell_there h) e

  pub cell_heard : (e : Kept) (r : Reply) → IsAsking celling → e ≡ with_core m (with_status r (with_values m.core (drop 2 m.core.values))) → GoesOnWith m celling r e
  cell_heard e r h g = two_is m.core (λ x. GoesOnWith m x r e) celled (cell_there h) g

module _ (m : Kept) (k : ℕ) where
  abbrev locked : ImageNo → ℤ → Ask
  locked o start = asks.Lock o (cell_span k start)

  abbrev unlocked : ImageNo → ℤ → Ask
  unlocked o start = asks.Unlock o (cell_span k start)

  abbrev posted : ImageNo → ℤ → Ask
  posted o start = asks.Post o (cell_span k start)

  pub lock_asked : (q : Ask) → IsAsking (ask_here m (asked.Lock k)) → q ≡ locked (image_of (number_beneath 0 m.core.values)) (number_beneath 1 m.core.values) → IsAsked (ask_here m (asked.Lock k)) q
  lock_asked q h e = cell_asked m locked q h e

  pub unlock_asked : (q : Ask) → IsAsking (ask_here m (asked.Unlock k)) → q ≡ unlocked (image_of (number_beneath 0 m.core.values)) (number_beneath 1 m.core.values) → IsAsked (ask_here m (asked.Unlock k)) q
  unlock_asked q h e = cell_asked m unlocked q h e

  pub post_asked : (q : Ask) → IsAsking (ask_here m (asked.Post k)) → q ≡ posted (image_of (number_beneath 0 m.core.values)) (number_beneath 1 m.core.values) → IsAsked (ask_here m (asked.Post k)) q
  post_asked q h e = cell_asked m posted q h e

  pub lock_there : IsAsking (ask_here m (asked.Lock k)) → 2 ≤ length m.core.values
  lock_there h = cell_there m locked h

  pub unlock_there : IsAsking (ask_here m (asked.Unlock k)) → 2 ≤ length m.core.values
  unlock_there h = cell_there m unlocked h

  pub post_there : IsAsking (ask_here m (asked.Post k)) → 2 ≤ length m.core.values
  post_there h = cell_there m posted h

  pub lock_heard : (e : Kept) (r : Reply) → IsAsking (ask_here m (asked.Lock k)) → e ≡ with_core m (with_status r (with_values m.core (drop 2 m.core.values))) → GoesOnWith m (ask_here m (asked.Lock k)) r e
  lock_heard e r h g = cell_heard m locked e r h g

  pub unlock_heard : (e : Kept) (r : Reply) → IsAsking (ask_here m (asked.Unlock k)) → e ≡ with_core m (with_status r (with_values m.core (drop 2 m.core.values))) → GoesOnWith m (ask_here m (asked.Unlock k)) r e
  unlock_heard e r h g = cell_heard m unlocked e r h g

  pub post_heard : (e : Kept) (r : Reply) → IsAsking (ask_here m (asked.Post k)) → e ≡ with_core m (with_status r (with_values m.core (drop 2 m.core.values))) → GoesOnWith m (ask_here m (asked.Post k)) r e
  post_heard e r h g = cell_heard m posted e r h g

-- LOCK with ACQUIRED_LOCK=
module _ (m : Kept) (k : ℕ) where
  abbrev trying : ℤ → ℤ → Core → Acted
  trying start o d = asking (asks.TryLock (image_of o) (cell_span k start)) (try_reply d)

  pub try_there : IsAsking (ask_here m (asked.TryLock k)) → 2 ≤ length m.core.values
  try_there h = (two_in m.core trying h).0

  pub try_comes : 2 ≤ length m.core.values → ComesTo (ask_here m (asked.TryLock k)) askings.Asks
  try_comes h = two_is m.core (λ x. ComesTo x askings.Asks) trying h refl

  pub try_missing : length m.core.values < 2 → ComesTo (ask_here m (asked.TryLock k)) askings.Stuck
  try_missing h = two_not m.core (λ x. ComesTo x askings.Stuck) trying h refl

  pub try_placed : (p : Place) → IsAsking (ask_here m (asked.TryLock k)) → p ≡ places.Memory (image_of (number_beneath 0 m.core.values)) → IsAskedAt (ask_here m (asked.TryLock k)) p
  try_placed p h e = two_is m.core (λ x. IsAskedAt x p) trying (try_there h) e

  pub try_asked : (q : Ask) → IsAsking (ask_here m (asked.TryLock k)) → q ≡ asks.TryLock (image_of (number_beneath 0 m.core.values)) (cell_span k (number_beneath 1 m.core.values)) → IsAsked (ask_here m (asked.TryLock k)) q
  try_asked q h e = two_is m.core (λ x. IsAsked x q) trying (try_there h) e

  pub try_heard : (e : Kept) (r : Reply) → IsAsking (ask_here m (asked.TryLock k)) → e ≡ with_core m (try_reply (with_values m.core (drop 2 m.core.values)) r) → GoesOnWith m (ask_here m (asked.TryLock k)) r e
  try_heard e r h g = two_is m.core (λ x. GoesOnWith m x r e) trying (try_there h) g

  pub try_told : (e : Kept) (v s : ℤ) (r : Reply) → IsAsking (ask_here m (asked.TryLock k)) → v ≡ acquired_in r → s ≡ status_of r → e ≡ with_core m (with_values m.core (s ∷ v ∷ drop 2 m.core.values)) → GoesOnWith m (ask_here m (asked.TryLock k)) r e
  try_told e v s r h x y g = try_heard e r h (g ∙ ap (λ w. with_core m (with_values m.core (s ∷ w ∷ drop 2 m.core.values))) x ∙ ap (λ w. with_core m (with_values m.core (w ∷ acquired_in r ∷ drop 2 m.core.values))) y)

-- what holds of the ask holds of what comes of it, where that asks
there : (P : Acted → Type 0) (b : Bool) (x : Acted) → IsAsking (unless not_allocated b x) → P x → P (unless not_allocated b x)
there P true x h p = p
there P false x h p = absurd h

-- EVENT WAIT: the offset of this image's cell, and on top a threshold
module _ (m : Kept) (k : ℕ) where
  abbrev wait : ℤ → ℤ → Core → Acted
  wait start n d = asking (asks.Wait (record { 0 = d.me }) (cell_span k start) (max (natural n) 1)) (λ r. with_status r d)

  abbrev waiting : ℤ → ℤ → Core → Acted
  waiting start n d = unless not_allocated (has_cell (own_in d k) (word start)) (wait start n d)

  abbrev waited : Acted
  waited = wait (number_beneath 1 m.core.values) (number_beneath 0 m.core.values) (with_values m.core (drop 2 m.core.values))

  abbrev waits_there : Bool
  waits_there = has_cell (own_in m.core k) (word (number_beneath 1 m.core.values))

  pub wait_there : IsAsking (ask_here m (asked.Wait k)) → 2 ≤ length m.core.values
  wait_there h = (two_in m.core waiting h).0

  wait_is : (P : Acted → Type 0) → IsAsking (ask_here m (asked.Wait k)) → P waited → P (ask_here m (asked.Wait k))
  wait_is P h p = (let t = two_in m.core waiting h in two_is m.core P waiting t.0 (there P waits_there waited t.1 p))

  pub wait_comes : 2 ≤ length m.core.values → waits_there ≡ true → ComesTo (ask_here m (asked.Wait k)) askings.Asks
  wait_comes h t = two_is m.core (λ x. ComesTo x askings.Asks) waiting h (subst (λ b. ComesTo (unless not_allocated b waited) askings.Asks) (sym t) refl)

  pub wait_faults : 2 ≤ length m.core.values → waits_there ≡ false → ComesTo (ask_here m (asked.Wait k)) (askings.Fault 6)
  wait_faults h t = two_is m.core (λ x. ComesTo x (askings.Fault 6)) waiting h (subst (λ b. ComesTo (unless not_allocated b waited) (askings.Fault 6)) (sym t) refl)

  pub wait_missing : length m.core.values < 2 → ComesTo (ask_here m (asked.Wait k)) askings.Stuck
  wait_missing h = two_not m.core (λ x. ComesTo x askings.Stuck) waiting h refl

  pub wait_placed : (p : Place) → IsAsking (ask_here m (asked.Wait k)) → p ≡ places.Memory (record { 0 = m.core.me }) → IsAskedAt (ask_here m (asked.Wait k)) p
  wait_placed p h e = wait_is (λ x. IsAskedAt x p) h e

  pub wait_asked : (q : Ask) → IsAsking (ask_here m (asked.Wait k)) → q ≡ asks.Wait (record { 0 = m.core.me }) (cell_span k (number_beneath 1 m.core.values)) (max (natural (number_beneath 0 m.core.values)) 1) → IsAsked (ask_here m (asked.Wait k)) q
  wait_asked q h e = wait_is (λ x. IsAsked x q) h e

  pub wait_heard : (e : Kept) (r : Reply) → IsAsking (ask_here m (asked.Wait k)) → e ≡ with_core m (with_status r (with_values m.core (drop 2 m.core.values))) → GoesOnWith m (ask_here m (asked.Wait k)) r e
  wait_heard e r h g = wait_is (λ x. GoesOnWith m x r e) h g

-- EVENT_QUERY: the offset of this image's cell
module _ (m : Kept) (k : ℕ) where
  abbrev query : ℤ → Core → Acted
  query start d = asking (asks.Query (record { 0 = d.me }) (cell_span k start)) (count_reply d)

  abbrev querying : ℤ → Core → Acted
  querying start d = unless not_allocated (has_cell (own_in d k) (word start)) (query start d)

  abbrev queried : Acted
  queried = query (number_beneath 0 m.core.values) (with_values m.core (drop 1 m.core.values))

  abbrev queries_there : Bool
  queries_there = has_cell (own_in m.core k) (word (number_beneath 0 m.core.values))

  pub query_there : IsAsking (ask_here m (asked.Query k)) → 1 ≤ length m.core.values
  query_there h = (one_in m.core querying h).0

  query_is : (P : Acted → Type 0) → IsAsking (ask_here m (asked.Query k)) → P queried → P (ask_here m (asked.Query k))
  query_is P h p = (let t = one_in m.core querying h in one_is m.core P querying t.0 (there P queries_there queried t.1 p))

  pub query_comes : 1 ≤ length m.core.values → queries_there ≡ true → ComesTo (ask_here m (asked.Query k)) askings.Asks
  query_comes h t = one_is m.core (λ x. ComesTo x askings.Asks) querying h (subst (λ b. ComesTo (unless not_allocated b queried) askings.Asks) (sym t) refl)

  pub query_faults : 1 ≤ length m.core.values → queries_there ≡ false → ComesTo (ask_here m (asked.Query k)) (askings.Fault 6)
  query_faults h t = one_is m.core (λ x. ComesTo x (askings.Fault 6)) querying h (subst (λ b. ComesTo (unless not_allocated b queried) (askings.Fault 6)) (sym t) refl)

  pub query_missing : length m.core.values < 1 → ComesTo (ask_here m (asked.Query k)) askings.Stuck
  query_missing h = one_not m.core (λ x. ComesTo x askings.Stuck) querying h refl

  pub query_placed : (p : Place) → IsAsking (ask_here m (asked.Query k)) → p ≡ places.Memory (record { 0 = m.core.me }) → IsAskedAt (ask_here m (asked.Query k)) p
  query_placed p h e = query_is (λ x. IsAskedAt x p) h e

  pub query_asked : (q : Ask) → IsAsking (ask_here m (asked.Query k)) → q ≡ asks.Query (record { 0 = m.core.me }) (cell_span k (number_beneath 0 m.core.values)) → IsAsked (ask_here m (asked.Query k)) q
  query_asked q h e = query_is (λ x. IsAsked x q) h e

  pub query_heard : (e : Kept) (r : Reply) → IsAsking (ask_here m (asked.Query k)) → e ≡ with_core m (count_reply (with_values m.core (drop 1 m.core.values)) r) → GoesOnWith m (ask_here m (asked.Query k)) r e
  query_heard e r h g = query_is (λ x. GoesOnWith m x r e) h g

  pub query_told : (e : Kept) (v : ℤ) (r : Reply) → IsAsking (ask_here m (asked.Query k)) → v ≡ count_in r → e ≡ with_core m (with_values m.core (v ∷ drop 1 m.core.values)) → GoesOnWith m (ask_here m (asked.Query k)) r e
  query_told e v r h x g = query_heard e r h (g ∙ ap (λ w. with_core m (with_values m.core (w ∷ drop 1 m.core.values))) x)

-- an atomic action: the offset of a cell, an image, and on top two operands
module _ (m : Kept) (op : AtomicOp) (k : ℕ) (kind : Kind) where
  abbrev acted : ℤ → ℤ → ℤ → ℤ → Core → Acted
  acted x y start o e = asking (asks.Atomic (image_of o) op (cell_span k start) (first_operand op kind x) (second_operand op kind y)) (atomic_reply e)

  abbrev acting : ℤ → ℤ → Core → Acted
  acting x y d = taking_two d (acted x y)

  abbrev atomic_effect : Acted
  atomic_effect = acted (number_beneath 1 m.core.values) (number_beneath 0 m.core.values) (number_beneath 3 m.core.values) (number_beneath 2 m.core.values) (with_values m.core (drop 4 m.core.values))

  four_of : (P : Acted → Type 0) (ws : List ℤ) → 4 ≤ length ws → P (acted (number_beneath 1 ws) (number_beneath 0 ws) (number_beneath 3 ws) (number_beneath 2 ws) (with_values m.core (drop 4 ws))) → P (taking_two (with_values m.core ws) acting)
  four_of P [] h p = absurd (omega arith)
  four_of P (y ∷ []) h p = absurd (omega arith)
  four_of P (y ∷ x ∷ []) h p = absurd (omega arith)
  four_of P (y ∷ x ∷ o ∷ []) h p = absurd (omega arith)
  four_of P (y ∷ x ∷ o ∷ s ∷ vs) h p = p

  four_in : (ws : List ℤ) → IsAsking (taking_two (with_values m.core ws) acting) → 4 ≤ length ws
  four_in [] h = absurd h
  four_in (y ∷ []) h = absurd h
  four_in (y ∷ x ∷ []) h = absurd h
  four_in (y ∷ x ∷ o ∷ []) h = absurd h
  four_in (y ∷ x ∷ o ∷ s ∷ vs) h = omega arith

  four_not : (ws : List ℤ) → length ws < 4 → ComesTo (taking_two (with_values m.core ws) acting) askings.Stuck
  four_not [] h = refl
  four_not (y ∷ []) h = refl
  four_not (y ∷ x ∷ []) h = refl
  four_not (y ∷ x ∷ o ∷ []) h = refl
  four_not (y ∷ x ∷ o ∷ s ∷ vs) h = absurd (omega arith)

  pub atomic_there : IsAsking (ask_here m (asked.Atomic op k kind)) → 4 ≤ length m.core.values
  atomic_there h = four_in m.core.values h

  pub atomic_comes : 4 ≤ length m.core.values → ComesTo (ask_here m (asked.Atomic op k kind)) askings.Asks
  atomic_comes h = four_of (λ x. ComesTo x askings.Asks) m.core.values h refl

  pub atomic_missing : length m.core.values < 4 → ComesTo (ask_here m (asked.Atomic op k kind)) askings.Stuck
  atomic_missing h = four_not m.core.values h

  pub atomic_placed : (p : Place) → IsAsking (ask_here m (asked.Atomic op k kind)) → p ≡ places.Memory (image_of (number_beneath 2 m.core.values)) → IsAskedAt (ask_here m (asked.Atomic op k kind)) p
  atomic_placed p h e = four_of (λ x. IsAskedAt x p) m.core.values (atomic_there h) e

  pub atomic_asked : (q : Ask) → IsAsking (ask_here m (asked.Atomic op k kind)) → q ≡ asks.Atomic (image_of (number_beneath 2 m.core.values)) op (cell_span k (number_beneath 3 m.core.values)) (first_operand op kind (number_beneath 1 m.core.values)) (second_operand op kind (number_beneath 0 m.core.values)) → IsAsked (ask_here m (asked.Atomic op k kind)) q
  atomic_asked q h e = four_of (λ x. IsAsked x q) m.core.values (atomic_there h) e

  pub atomic_heard : (e : Kept) (r : Reply) → IsAsking (ask_here m (asked.Atomic op k kind)) → e ≡ with_core m (atomic_reply (with_values m.core (drop 4 m.core.values)) r) → GoesOnWith m (ask_here m (asked.Atomic op k kind)) r e
  atomic_heard e r h g = four_of (λ x. GoesOnWith m x r e) m.core.values (atomic_there h) g

  pub atomic_told : (e : Kept) (v s : ℤ) (r : Reply) → IsAsking (ask_here m (asked.Atomic op k kind)) → v ≡ old_in r → s ≡ status_of r → e ≡ with_core m (with_values m.core (s ∷ v ∷ drop 4 m.core.values)) → GoesOnWith m (ask_here m (asked.Atomic op k kind)) r e
  atomic_told e v s r h x y g = atomic_heard e r h (g ∙ ap (λ w. with_core m (with_values m.core (s ∷ w ∷ drop 4 m.core.values))) x ∙ ap (λ w. with_core m (with_values m.core (w ∷ old_in r ∷ drop 4 m.core.values))) y)

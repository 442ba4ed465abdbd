-- An image that made no step at its turn waits.
use Rattle.std.proofs.Common.{◌≡◌, ℕ, ◌-◌, ◌≤◌, ◌^◌, inl, inr, false, List, length, arith, ap, sym, ◌∙◌, subst, refl}
use mathlib.Core.Option.{some-injective}
use Rattle.atomic_table.proofs.Lists.{at_set}
use Rattle.caf_base.specs.declared.place.Place.{Place}
use Rattle.caf_base.specs.declared.place.Place.TheVariants as places
use Rattle.caf_events.specs.declared.ask.Ask.{Ask}
use Rattle.caf_events.specs.declared.event.Entry.{Entry}
use Rattle.caf_events.specs.declared.object.Object as objects
use Rattle.caf_events.specs.declared.walker.Walker as walker
use Rattle.caf_events.specs.Asks.{place_of}
use Rattle.caf_events.specs.Histories.{last_stamp_of}
use Rattle.caf_events.specs.Walkers.{AsksNext, IsOver}
use Rattle.caf_events.specs.declared.reply.Reply.{Reply}
use Rattle.trace_theory.specs.Machines.{Move, goes, asks, over}
use Rattle.core_runs.specs.Lists.{last_of}
use Rattle.image_core.specs.declared.run.ImageRun.{ImageRun}
use Rattle.image_core.specs.Prepared.{move_of, AsksAt}
use Rattle.turn_gate.specs.Gates.{At}
use Rattle.turn_gate.specs.Known.{Known}
use Rattle.turn_gate.specs.Passes.{Opened}
use Rattle.turn_gate.specs.declared.turn.Turn.{Turn}
use Rattle.turn_gate.specs.declared.turn.Turn.TheVariants.{Done, NotYet, Full, NoMemory}
use Rattle.image_gate.specs.declared.passes.Passes.{Passes}
use Rattle.image_gate.specs.Fabrics.{IsPlaceOf, TurnsHere, TurnsAt, TurnsAtMemory}
use Rattle.image_gate.proofs.Rows.{is_there}
use Rattle.image_turns.specs.Turns.{MadeNone}
use Rattle.image_turns.specs.Waits.{IsNotNow, IsHeldAt, Waits}
use Rattle.image_turns.proofs.Staying.{same_ask, place_next}

-- the answers that tell why no step was made
abbrev pub IsRefusedTurn : Turn → Type 0
IsRefusedTurn (Done e) = ⊥
IsRefusedTurn (NotYet back) = Unit {0}
IsRefusedTurn (Full back last) = Unit {0}
IsRefusedTurn (NoMemory back) = ⊥

module _ {O : Type 0} (object : objects.Ghosts O) (gate : Opened O) (p p' : Known) (ask : Ask) (line after : ℕ) where
  -- after such a turn the ask must wait by what the pass has seen
  not_now : (turn : Turn) → IsRefusedTurn turn → TurnsHere object gate p p' ask line after turn → IsNotNow object gate p' ask after
  not_now (Done e) refused t = absurd refused
  not_now (NotYet back) refused t =
      inl (subst (λ (z : List Entry × ℕ). object.ready_after (object.made gate.start) z.0 z.1 ask ≡ false) (λ j. (sym t.tells.seen_is j, sym t.same.image j)) t.tells.answers.1)
  not_now (Full back last) refused t = elim t.tells.answers.1.1 [
    | inl x ↦ inr (inl x)
    | inr x ↦ inr (inr (subst (λ n. 2 ^ 62 ≤ n) (t.tells.answers.1.0 ∙ ap last_stamp_of (sym t.tells.seen_is)) x))
  ]
  not_now (NoMemory back) refused t = absurd refused

module _ {O B : Type 0} (memory : objects.Ghosts O) (control : objects.Ghosts B) (board : Opened B) (memories : List (Opened O)) where
  held_memory : (p p' : Passes) (ask : Ask) (line after k : ℕ) (turn : Turn) → IsRefusedTurn turn → TurnsAtMemory memory memories k p.memories.items p'.memories.items ask line after turn
      → (g : Opened O) (q : Known) → At memories k g → At p'.memories.items k q → IsNotNow memory g q ask after
  held_memory p p' ask line after k turn refused t g q at_gate at_pass =
      let now = not_now memory t.gate t.pass t.pass' ask line after turn refused t.here in
      let same_gate : t.gate ≡ g = some-injective t.gate g (sym t.at_gate ∙ at_gate) in
      elim (at_set p.memories.items k k t.pass' q (subst (λ l. At l k q) t.passes_are at_pass)) [
        | inl x ↦ subst (λ (z : Opened O × Known). IsNotNow memory z.0 z.1 ask after) (λ j. (same_gate j, x.1 j)) now
        | inr x ↦ absurd (x.0 refl)
      ]

  held_after : (p p' : Passes) (ask : Ask) (line after : ℕ) (turn : Turn) (q : Place) → IsRefusedTurn turn → TurnsAt memory control board memories q p p' ask line after turn → IsHeldAt memory control board memories p' ask after q
  held_after p p' ask line after turn places.Board refused t = not_now control board p.board p'.board ask line after turn refused t.1
  held_after p p' ask line after turn (places.Memory owner) refused t = λ g k positive at_gate at_pass. held_memory p p' ask line after (owner.0 - 1) turn refused t.1 g k at_gate at_pass
  held_after p p' ask line after turn places.Own refused t = absurd t

  module _ {M : Type 0} (walks : walker.Ghosts M) (r r' : ImageRun M) (none : MadeNone walks r r') where
    -- after a turn without a step
    pub waits_turned : (p p' : Passes) (ask : Ask) (line after : ℕ) (turn : Turn) → after ≡ last_of r.events.items → AsksNext (move_of walks r) ask → IsRefusedTurn turn
        → TurnsAt memory control board memories (place_of ask) p p' ask line after turn → Waits memory control board memories walks r' p'
    waits_turned p p' ask line after turn last asked refused t next next_asked =
        let same : ask ≡ next = same_ask (move_of walks r) ask next asked (subst (λ (c : walks.Config). AsksNext (walks.step c) next) none.machine next_asked) in
        subst (λ (z : Ask × ℕ). IsHeldAt memory control board memories p' z.0 z.1 (place_of z.0)) (λ j. (same j, (last ∙ ap last_of (sym none.events)) j))
        (held_after p p' ask line after turn (place_of ask) refused t)

    -- where it has no stamp for a step by itself
    pub waits_alone : (p : Passes) → AsksAt places.Own (move_of walks r) → 2 ^ 62 ≤ last_of r'.events.items → Waits memory control board memories walks r' p
    waits_alone p at full next next_asked =
        let own : place_of next ≡ places.Own = place_next (move_of walks r) places.Own next at (subst (λ (c : walks.Config). AsksNext (walks.step c) next) none.machine next_asked) in
        subst (λ q. IsHeldAt memory control board memories p next (last_of r'.events.items) q) (sym own) full

  -- where its place has no gate
  held_nowhere : (p : Passes) (ask : Ask) (after : ℕ) (q : Place) → (q ≡ places.Own → ⊥) → (IsPlaceOf (length memories) q → ⊥) → IsHeldAt memory control board memories p ask after q
  held_nowhere p ask after places.Own other out = absurd (other refl)
  held_nowhere p ask after places.Board other out = absurd (out tt)
  held_nowhere p ask after (places.Memory owner) other out = λ g k positive at_gate at_pass. absurd (let l = is_there memories (owner.0 - 1) g at_gate in out (positive, omega arith))

  pub waits_nowhere : {M : Type 0} (walks : walker.Ghosts M) (r : ImageRun M) (p : Passes) (q : Place) → AsksAt q (move_of walks r) → (q ≡ places.Own → ⊥) → (IsPlaceOf (length memories) q → ⊥) → Waits memory control board memories walks r p
  waits_nowhere walks r p q at other out next next_asked =
      subst (λ z. IsHeldAt memory control board memories p next (last_of r.events.items) z) (sym (place_next (move_of walks r) q next at next_asked)) (held_nowhere p next (last_of r.events.items) q other out)

  pub waits_over : {M : Type 0} (walks : walker.Ghosts M) (r : ImageRun M) (p : Passes) → IsOver (move_of walks r) → Waits memory control board memories walks r p
  waits_over walks r p at next next_asked = absurd (over_asks (move_of walks r) next at next_asked)
    where
      over_asks : {C : Type 0} (m : Move C Ask Reply) (a : Ask) → IsOver m → AsksNext m a → ⊥
      over_asks (goes c) a h k = absurd k
      over_asks (asks x l f) a h k = absurd h
      over_asks over a h k = absurd k

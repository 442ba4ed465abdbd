-- The asks of collective subroutines: the arrival with values, and its result.
use Rattle.std.proofs.Common.{◌≡◌, ℕ, ◌<◌, ◌≤◌, ℤ, pos, length, drop, refl, ap, sym, ◌∙◌, subst, inl, inr}
use Rattle.std.specs.Prelude.{map, Option, Some, None}
use Rattle.std.proofs.lemmas.Bool.{cases_lt}
use Rattle.caf_base.specs.declared.place.Place.{Place}
use Rattle.caf_base.specs.declared.place.Place.TheVariants as places
use Rattle.caf_base.specs.declared.value.Kind.{Kind}
use Rattle.caf_base.specs.Arithmetic.{value_of}
use Rattle.caf_events.specs.declared.ask.Ask.{Ask}
use Rattle.caf_events.specs.declared.ask.Ask.TheVariants as asks
use Rattle.caf_events.specs.declared.reply.Reply.{Reply}
use Rattle.caf_events.specs.declared.round.GatherOp.{GatherOp}
use Rattle.walk_theory.specs.Language.{asking}
use Rattle.image_acts.specs.Core.{Core, Array, with_values}
use Rattle.image_acts.specs.Replies.{arrival_reply, take_reply}
use Rattle.image_acts.specs.Taking.{Acted, given, taking_array}
use Rattle.image_acts.specs.Teams.{current_team}
use Rattle.image_acts.specs.Words.{word}
use Rattle.array_values.specs.Values.{elements_on_top}
use Rattle.image_code.specs.declared.step.AskStep.TheVariants as asked
use Rattle.image_state.specs.Kept.{Kept}
use Rattle.image_state.specs.Acting.{with_core}
use Rattle.image_asks.specs.declared.asks.Asking.TheVariants as askings
use Rattle.image_asks.specs.Asking.{ask_here, ComesTo, IsAsking, IsAsked, IsAskedAt, GoesOnWith}
use Rattle.image_asks.specs.Operands.{number_beneath, top_array, team_of}
use Rattle.image_asks.proofs.OperandLaws.{one_is, one_in, one_not, array_is, array_in, array_not}

-- the arrival: the root's index, and the values in the top array
module _ (m : Kept) (op : GatherOp) (kind : Kind) where
  abbrev gathered : ℤ → Array → Core → Acted
  gathered root x e = asking (asks.Gather (team_of (pos (current_team e))) op (word root) kind (map (value_of kind) x.elements)) (arrival_reply e)

  abbrev gathering : ℤ → Core → Acted
  gathering root d = taking_array d (gathered root)

  abbrev root : ℤ
  root = number_beneath 0 m.core.values

  abbrev rest : Core
  rest = with_values m.core (drop 1 m.core.values)

  abbrev gather_effect : Acted
  gather_effect = gathered root (top_array m.core.arrays) (record m.core { values = drop 1 m.core.values; arrays = drop 1 m.core.arrays })

  gather_is : (P : Acted → Type 0) → 1 ≤ length m.core.values → 1 ≤ length m.core.arrays → P gather_effect → P (ask_here m (asked.Gather op kind))
  gather_is P h j p = one_is m.core P gathering h (array_is rest P (gathered root) j p)

  pub gather_there : IsAsking (ask_here m (asked.Gather op kind)) → 1 ≤ length m.core.values
  gather_there h = (one_in m.core gathering h).0

  pub gather_array_there : IsAsking (ask_here m (asked.Gather op kind)) → 1 ≤ length m.core.arrays
  gather_array_there h = array_in rest (gathered root) (one_in m.core gathering h).1

  pub gather_asks : 1 ≤ length m.core.values → 1 ≤ length m.core.arrays → ComesTo (ask_here m (asked.Gather op kind)) askings.Asks
  gather_asks h j = gather_is (λ x. ComesTo x askings.Asks) h j refl

  pub gather_missing : length m.core.values < 1 → ComesTo (ask_here m (asked.Gather op kind)) askings.Stuck
  gather_missing h = one_not m.core (λ x. ComesTo x askings.Stuck) gathering h refl

  pub gather_without : length m.core.arrays < 1 → ComesTo (ask_here m (asked.Gather op kind)) askings.Stuck
  gather_without h = elim (cases_lt (length m.core.values) 1) [
    | inl j ↦ gather_missing j
    | inr j ↦ one_is m.core (λ x. ComesTo x askings.Stuck) gathering j (array_not rest (λ x. ComesTo x askings.Stuck) (gathered root) h refl)
  ]

  pub gather_placed : (p : Place) → IsAsking (ask_here m (asked.Gather op kind)) → p ≡ places.Board → IsAskedAt (ask_here m (asked.Gather op kind)) p
  gather_placed p h e = gather_is (λ x. IsAskedAt x p) (gather_there h) (gather_array_there h) e

  pub gather_asked : (q : Ask) → IsAsking (ask_here m (asked.Gather op kind)) → q ≡ asks.Gather (team_of (pos (current_team m.core))) op (word root) kind (map (value_of kind) (elements_on_top m.core.arrays)) → IsAsked (ask_here m (asked.Gather op kind)) q
  gather_asked q h e = gather_is (λ x. IsAsked x q) (gather_there h) (gather_array_there h) e

  pub gather_heard : (e : Kept) (r : Reply) → IsAsking (ask_here m (asked.Gather op kind)) → e ≡ with_core m (arrival_reply (record m.core { values = drop 1 m.core.values; arrays = drop 1 m.core.arrays }) r) → GoesOnWith m (ask_here m (asked.Gather op kind)) r e
  gather_heard e r h g = gather_is (λ x. GoesOnWith m x r e) (gather_there h) (gather_array_there h) g

  pub gather_told : (i e : Kept) (r : Reply) → IsAsking (ask_here m (asked.Gather op kind)) → i ≡ with_core m (record m.core { arrays = drop 1 m.core.arrays }) → e ≡ with_core i (arrival_reply (with_values i.core (drop 1 i.core.values)) r) → GoesOnWith m (ask_here m (asked.Gather op kind)) r e
  gather_told i e r h f g = gather_heard e r h (g ∙ ap (λ (j : Kept). with_core j (arrival_reply (with_values j.core (drop 1 j.core.values)) r)) f)

-- its result, by the round that it joined
module _ (m : Kept) where
  abbrev taken : ℕ → Acted
  taken r = asking (asks.Take (team_of (pos (current_team m.core))) r) (take_reply m.core)

  abbrev taking : Option ℕ → Acted
  taking o = given o taken

  there_of : (o : Option ℕ) → IsAsking (taking o) → o ≡ None → ⊥
  there_of None h e = h
  there_of (Some n) h e = absurd (cc)

  take_is_of : (P : Acted → Type 0) (o : Option ℕ) (n : ℕ) → o ≡ Some n → P (taken n) → P (taking o)
  take_is_of P o n e p = subst (λ x. P (taking x)) (sym e) p

  any_is_of : (P : Acted → Type 0) (o : Option ℕ) → IsAsking (taking o) → ((n : ℕ) → P (taken n)) → P (taking o)
  any_is_of P None h p = absurd h
  any_is_of P (Some n) h p = p n

  pub take_there : IsAsking (ask_here m asked.Take) → m.core.round ≡ None → ⊥
  take_there h e = there_of m.core.round h e

  pub take_asks : (n : ℕ) → m.core.round ≡ Some n → ComesTo (ask_here m asked.Take) askings.Asks
  take_asks n e = take_is_of (λ x. ComesTo x askings.Asks) m.core.round n e refl

  pub take_missing : m.core.round ≡ None → ComesTo (ask_here m asked.Take) askings.Stuck
  take_missing e = subst (λ o. ComesTo (taking o) askings.Stuck) (sym e) refl

  pub take_placed : (p : Place) → IsAsking (ask_here m asked.Take) → p ≡ places.Board → IsAskedAt (ask_here m asked.Take) p
  take_placed p h e = any_is_of (λ x. IsAskedAt x p) m.core.round h (λ n. e)

  pub take_asked : (q : Ask) (n : ℕ) → m.core.round ≡ Some n → q ≡ asks.Take (team_of (pos (current_team m.core))) n → IsAsked (ask_here m asked.Take) q
  take_asked q n e f = take_is_of (λ x. IsAsked x q) m.core.round n e f

  pub take_heard : (e : Kept) (r : Reply) → IsAsking (ask_here m asked.Take) → e ≡ with_core m (take_reply m.core r) → GoesOnWith m (ask_here m asked.Take) r e
  take_heard e r h g = any_is_of (λ x. GoesOnWith m x r e) m.core.round h (λ n. g)

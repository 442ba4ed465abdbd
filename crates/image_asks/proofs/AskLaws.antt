-- What comes of asks and their replies.
use Rattle.std.proofs.Common.{◌≡◌, ℕ, ◌<◌, ℤ, List, [], ◌∷◌, drop, length, refl, ap, sym, ◌∙◌, subst, arith}
use Rattle.std.specs.Prelude.{Option, Some, None}
use Rattle.caf_base.specs.declared.place.Place.{Place}
use Rattle.caf_base.specs.declared.place.Place.TheVariants as places
use Rattle.caf_events.specs.declared.reply.Reply.TheVariants as replies
use Rattle.walk_theory.specs.Language.{asking, stuck}
use Rattle.caf_events.specs.declared.ask.Ask.TheVariants as asks
use Rattle.caf_events.specs.declared.reply.Reply.{Reply}
use Rattle.image_acts.specs.Core.{Core, with_values}
use Rattle.image_acts.specs.Taking.{Acted, given}
use Rattle.image_acts.specs.Replies.{leave_reply, status_of}
use Rattle.image_acts.specs.Words.{word}
use Rattle.image_code.specs.declared.step.AskStep.TheVariants as asked
use Rattle.image_state.specs.Kept.{Kept}
use Rattle.image_state.specs.Acting.{with_core}
use Rattle.image_asks.specs.Asking.{ask_here, ComesTo, IsAsking, IsAskedAt, teams_heard, GoesOnWith}
use Rattle.image_asks.specs.declared.asks.Asking.TheVariants as askings

-- the status of a round, and its teams
left_is : (c : Core) (r : Reply) → with_values (teams_heard c r) (status_of r ∷ drop 1 (teams_heard c r).values) ≡ leave_reply (with_values c (drop 1 c.values)) r
left_is c (replies.Left s teams) = refl
left_is c replies.Done = refl
left_is c replies.Dead = refl
left_is c replies.Absent = refl
left_is c replies.Overflow = refl
left_is c replies.Busy = refl
left_is c (replies.Values vs) = refl
left_is c (replies.Old v) = refl
left_is c (replies.Number s) = refl
left_is c (replies.Count n) = refl
left_is c (replies.Round n) = refl
left_is c (replies.Clash i l) = refl
left_is c (replies.Indices ns) = refl
left_is c (replies.Taken s vs) = refl

-- where a number stands on top before the teams are taken over, it stands there after it
pub heard_values : (c : Core) (r : Reply) → (teams_heard c r).values ≡ c.values
heard_values c (replies.Left s teams) = refl
heard_values c replies.Done = refl
heard_values c replies.Dead = refl
heard_values c replies.Absent = refl
heard_values c replies.Overflow = refl
heard_values c replies.Busy = refl
heard_values c (replies.Values vs) = refl
heard_values c (replies.Old v) = refl
heard_values c (replies.Number s) = refl
heard_values c (replies.Count n) = refl
heard_values c (replies.Round n) = refl
heard_values c (replies.Clash i l) = refl
heard_values c (replies.Indices ns) = refl
heard_values c (replies.Taken s vs) = refl

pub still_there : (m i : Kept) (v : ℤ) (r : Reply) → m.core.values ≡ v ∷ drop 1 m.core.values → i ≡ with_core m (teams_heard m.core r) → 0 < length i.core.values
still_there m i v r h g = subst (λ vs. 0 < length vs) (sym (ap (λ (k : Kept). k.core.values) g ∙ heard_values m.core r ∙ h)) (omega arith)

module _ (m e : Kept) (r : Reply) where
  abbrev leaving : List ℤ → Option ℕ → Acted
  leaving vs o = elim vs [ [] ↦ stuck | t ∷ ts ↦ given o (λ n. asking (asks.Leave (record { 0 = word t }) n) (leave_reply (with_values m.core ts))) ]

  left_of : (v : ℤ) (vs : List ℤ) (o : Option ℕ) → IsAsking (leaving (v ∷ vs) o) → e ≡ with_core m (leave_reply (with_values m.core vs) r) → GoesOnWith m (leaving (v ∷ vs) o) r e
  left_of v vs None i g = absurd i
  left_of v vs (Some n) i g = g

  pub departed : (i : Kept) (v : ℤ) → m.core.values ≡ v ∷ drop 1 m.core.values → IsAsking (ask_here m asked.Leave) → i ≡ with_core m (teams_heard m.core r) → e ≡ with_core i (with_values i.core (status_of r ∷ drop 1 i.core.values)) → GoesOnWith m (ask_here m asked.Leave) r e
  departed i v q a f g =
      let k : e ≡ with_core m (leave_reply (with_values m.core (drop 1 m.core.values)) r) = g ∙ ap (λ (j : Kept). with_core j (with_values j.core (status_of r ∷ drop 1 j.core.values))) f ∙ ap (with_core m) (left_is m.core r) in
      subst (λ ws. IsAsking (leaving ws m.core.round) → GoesOnWith m (leaving ws m.core.round) r e) (sym q) (λ j. left_of v (drop 1 m.core.values) m.core.round j k) a

  -- a departure where it may be made
  left_not : (vs : List ℤ) (o : Option ℕ) → length vs < 1 → ComesTo (leaving vs o) askings.Stuck
  left_not [] o h = refl
  left_not (v ∷ vs) o h = absurd (omega arith)

  left_placed : (p : Place) (vs : List ℤ) (o : Option ℕ) → IsAsking (leaving vs o) → p ≡ places.Board → IsAskedAt (leaving vs o) p
  left_placed p [] o h e = absurd h
  left_placed p (v ∷ vs) None h e = absurd h
  left_placed p (v ∷ vs) (Some n) h e = e

  pub leave_missing : length m.core.values < 1 → ComesTo (ask_here m asked.Leave) askings.Stuck
  leave_missing h = left_not m.core.values m.core.round h

  pub leave_placed : (p : Place) → IsAsking (ask_here m asked.Leave) → p ≡ places.Board → IsAskedAt (ask_here m asked.Leave) p
  leave_placed p h e = left_placed p m.core.values m.core.round h e

-- The asks of teams: FORM TEAM, CHANGE TEAM, END TEAM and IMAGE_STATUS.
use Rattle.std.proofs.Common.{◌≡◌, ℕ, ◌<◌, ◌≤◌, ℤ, Bool, true, false, List, [], ◌∷◌, length, drop, refl, ap, sym, ◌∙◌, subst, arith}
use Rattle.std.specs.Prelude.{Option}
use Rattle.caf_base.specs.Arithmetic.{natural}
use Rattle.caf_base.specs.declared.place.Place.{Place}
use Rattle.caf_base.specs.declared.place.TeamNo.{TeamNo}
use Rattle.caf_base.specs.declared.place.Place.TheVariants as places
use Rattle.caf_events.specs.declared.ask.Ask.{Ask}
use Rattle.caf_events.specs.declared.ask.Ask.TheVariants as asks
use Rattle.caf_events.specs.declared.reply.Reply.{Reply}
use Rattle.caf_events.specs.declared.round.Arriving.{Arriving}
use Rattle.caf_events.specs.declared.round.Arriving.TheVariants as arrivals
use Rattle.walk_theory.specs.Language.{asking, stuck}
use Rattle.image_acts.specs.Core.{Core, with_values}
use Rattle.image_acts.specs.Faults.{cobounds_fault}
use Rattle.image_acts.specs.Replies.{arrival_reply, indices_reply, with_status, status_of}
use Rattle.image_acts.specs.Taking.{Acted, unless}
use Rattle.image_acts.specs.Teams.{members, is_index_of}
use Rattle.image_acts.specs.Words.{word}
use Rattle.image_code.specs.declared.step.AskStep.TheVariants as asked
use Rattle.image_state.specs.Kept.{Kept}
use Rattle.image_state.specs.Acting.{with_core}
use Rattle.image_asks.specs.declared.asks.Asking.TheVariants as askings
use Rattle.image_asks.specs.Asking.{ask_here, ComesTo, IsAsking, IsAsked, IsAskedAt, GoesOnWith}
use Rattle.image_asks.specs.Operands.{number_beneath, team_of}

pub joined_behind : (m i e : Kept) (n : ℕ) (o : Option ℕ) (r : Reply) → ((c : Core) → o ≡ (arrival_reply c r).round) → i ≡ with_core m (with_values m.core (drop n m.core.values)) → e ≡ with_core i (record i.core { round = o }) → e ≡ with_core m (arrival_reply (with_values m.core (drop n m.core.values)) r)
joined_behind m i e n o r h f g = g ∙ ap (λ (k : Kept). with_core k (record k.core { round = o })) f ∙ ap (λ (p : Option ℕ). with_core m (record (with_values m.core (drop n m.core.values)) { round = p })) (h m.core)

-- an arrival with the team on top alone
module _ (m : Kept) (k : Arriving) where
  abbrev one : List ℤ → Acted
  one ws = elim ws [ [] ↦ stuck | t ∷ ts ↦ asking (asks.Arrive (record { 0 = word t }) k) (arrival_reply (with_values m.core ts)) ]

  one_there : (ws : List ℤ) → IsAsking (one ws) → 1 ≤ length ws
  one_there [] h = absurd h
  one_there (t ∷ ts) h = omega arith

  one_asked : (q : Ask) (ws : List ℤ) → IsAsking (one ws) → q ≡ asks.Arrive (team_of (number_beneath 0 ws)) k → IsAsked (one ws) q
  one_asked q [] h e = absurd h
  one_asked q (t ∷ ts) h e = e

  one_placed : (p : Place) (ws : List ℤ) → IsAsking (one ws) → p ≡ places.Board → IsAskedAt (one ws) p
  one_placed p [] h e = absurd h
  one_placed p (t ∷ ts) h e = e

  one_asks : (ws : List ℤ) → 1 ≤ length ws → ComesTo (one ws) askings.Asks
  one_asks [] h = absurd (omega arith)
  one_asks (t ∷ ts) h = refl

  one_missing : (ws : List ℤ) → length ws < 1 → ComesTo (one ws) askings.Stuck
  one_missing [] h = refl
  one_missing (t ∷ ts) h = absurd (omega arith)

  one_joined : (e : Kept) (ws : List ℤ) (r : Reply) → IsAsking (one ws) → e ≡ with_core m (arrival_reply (with_values m.core (drop 1 ws)) r) → GoesOnWith m (one ws) r e
  one_joined e [] r h g = absurd h
  one_joined e (t ∷ ts) r h g = g

pub sync_asked : (m : Kept) (q : Ask) → IsAsking (ask_here m asked.ArriveSync) → q ≡ asks.Arrive (team_of (number_beneath 0 m.core.values)) arrivals.Sync → IsAsked (ask_here m asked.ArriveSync) q
sync_asked m q h e = one_asked m arrivals.Sync q m.core.values h e

pub sync_placed : (m : Kept) (p : Place) → IsAsking (ask_here m asked.ArriveSync) → p ≡ places.Board → IsAskedAt (ask_here m asked.ArriveSync) p
sync_placed m p h e = one_placed m arrivals.Sync p m.core.values h e

pub sync_asks : (m : Kept) → 1 ≤ length m.core.values → ComesTo (ask_here m asked.ArriveSync) askings.Asks
sync_asks m h = one_asks m arrivals.Sync m.core.values h

pub sync_missing : (m : Kept) → length m.core.values < 1 → ComesTo (ask_here m asked.ArriveSync) askings.Stuck
sync_missing m h = one_missing m arrivals.Sync m.core.values h

pub sync_there : (m : Kept) → IsAsking (ask_here m asked.ArriveSync) → 1 ≤ length m.core.values
sync_there m h = one_there m arrivals.Sync m.core.values h

pub sync_joined : (m e : Kept) (r : Reply) → IsAsking (ask_here m asked.ArriveSync) → e ≡ with_core m (arrival_reply (with_values m.core (drop 1 m.core.values)) r) → GoesOnWith m (ask_here m asked.ArriveSync) r e
sync_joined m e r h g = one_joined m arrivals.Sync e m.core.values r h g

pub change_asked : (m : Kept) (q : Ask) → IsAsking (ask_here m asked.ArriveChange) → q ≡ asks.Arrive (team_of (number_beneath 0 m.core.values)) arrivals.Change → IsAsked (ask_here m asked.ArriveChange) q
change_asked m q h e = one_asked m arrivals.Change q m.core.values h e

pub change_placed : (m : Kept) (p : Place) → IsAsking (ask_here m asked.ArriveChange) → p ≡ places.Board → IsAskedAt (ask_here m asked.ArriveChange) p
change_placed m p h e = one_placed m arrivals.Change p m.core.values h e

pub change_asks : (m : Kept) → 1 ≤ length m.core.values → ComesTo (ask_here m asked.ArriveChange) askings.Asks
change_asks m h = one_asks m arrivals.Change m.core.values h

pub change_missing : (m : Kept) → length m.core.values < 1 → ComesTo (ask_here m asked.ArriveChange) askings.Stuck
change_missing m h = one_missing m arrivals.Change m.core.values h

pub end_asked : (m : Kept) (q : Ask) → IsAsking (ask_here m asked.ArriveEnd) → q ≡ asks.Arrive (team_of (number_beneath 0 m.core.values)) arrivals.End → IsAsked (ask_here m asked.ArriveEnd) q
end_asked m q h e = one_asked m arrivals.End q m.core.values h e

pub end_placed : (m : Kept) (p : Place) → IsAsking (ask_here m asked.ArriveEnd) → p ≡ places.Board → IsAskedAt (ask_here m asked.ArriveEnd) p
end_placed m p h e = one_placed m arrivals.End p m.core.values h e

pub end_asks : (m : Kept) → 1 ≤ length m.core.values → ComesTo (ask_here m asked.ArriveEnd) askings.Asks
end_asks m h = one_asks m arrivals.End m.core.values h

pub end_missing : (m : Kept) → length m.core.values < 1 → ComesTo (ask_here m asked.ArriveEnd) askings.Stuck
end_missing m h = one_missing m arrivals.End m.core.values h

pub change_there : (m : Kept) → IsAsking (ask_here m asked.ArriveChange) → 1 ≤ length m.core.values
change_there m h = one_there m arrivals.Change m.core.values h

pub change_joined : (m e : Kept) (r : Reply) → IsAsking (ask_here m asked.ArriveChange) → e ≡ with_core m (arrival_reply (with_values m.core (drop 1 m.core.values)) r) → GoesOnWith m (ask_here m asked.ArriveChange) r e
change_joined m e r h g = one_joined m arrivals.Change e m.core.values r h g

pub end_there : (m : Kept) → IsAsking (ask_here m asked.ArriveEnd) → 1 ≤ length m.core.values
end_there m h = one_there m arrivals.End m.core.values h

pub end_joined : (m e : Kept) (r : Reply) → IsAsking (ask_here m asked.ArriveEnd) → e ≡ with_core m (arrival_reply (with_values m.core (drop 1 m.core.values)) r) → GoesOnWith m (ask_here m asked.ArriveEnd) r e
end_joined m e r h g = one_joined m arrivals.End e m.core.values r h g

-- FORM TEAM
module _ (m : Kept) where
  abbrev form : List ℤ → Acted
  form ws = elim ws [ [] ↦ stuck | i ∷ us ↦ elim us [ [] ↦ stuck | n ∷ vs ↦ elim vs [ [] ↦ stuck | t ∷ ts ↦ asking (asks.Arrive (record { 0 = word t }) (arrivals.Form n i)) (arrival_reply (with_values m.core ts)) ] ] ]

  three_of : (ws : List ℤ) → IsAsking (form ws) → 3 ≤ length ws
  three_of [] h = absurd h
  three_of (i ∷ []) h = absurd h
  three_of (i ∷ n ∷ []) h = absurd h
  three_of (i ∷ n ∷ t ∷ ts) h = omega arith

  none_of : (ws : List ℤ) → length ws < 3 → ComesTo (form ws) askings.Stuck
  none_of [] h = refl
  none_of (i ∷ []) h = refl
  none_of (i ∷ n ∷ []) h = refl
  none_of (i ∷ n ∷ t ∷ ts) h = absurd (omega arith)

  placed_of : (ws : List ℤ) (p : Place) → p ≡ places.Board → IsAsking (form ws) → IsAskedAt (form ws) p
  placed_of [] p e h = absurd h
  placed_of (i ∷ []) p e h = absurd h
  placed_of (i ∷ n ∷ []) p e h = absurd h
  placed_of (i ∷ n ∷ t ∷ ts) p e h = e

  made_of : (q : Ask) (ws : List ℤ) → IsAsking (form ws) → q ≡ asks.Arrive (team_of (number_beneath 2 ws)) (arrivals.Form (number_beneath 1 ws) (number_beneath 0 ws)) → IsAsked (form ws) q
  made_of q [] h e = absurd h
  made_of q (i ∷ []) h e = absurd h
  made_of q (i ∷ n ∷ []) h e = absurd h
  made_of q (i ∷ n ∷ t ∷ ts) h e = e

  comes_of : (ws : List ℤ) → 3 ≤ length ws → ComesTo (form ws) askings.Asks
  comes_of [] h = absurd (omega arith)
  comes_of (i ∷ []) h = absurd (omega arith)
  comes_of (i ∷ n ∷ []) h = absurd (omega arith)
  comes_of (i ∷ n ∷ t ∷ ts) h = refl

  form_goes : (e : Kept) (ws : List ℤ) (r : Reply) → IsAsking (form ws) → e ≡ with_core m (arrival_reply (with_values m.core (drop 3 ws)) r) → GoesOnWith m (form ws) r e
  form_goes e [] r h g = absurd h
  form_goes e (i ∷ []) r h g = absurd h
  form_goes e (i ∷ n ∷ []) r h g = absurd h
  form_goes e (i ∷ n ∷ t ∷ ts) r h g = g

  pub three_there : IsAsking (ask_here m asked.ArriveForm) → 3 ≤ length m.core.values
  three_there h = three_of m.core.values h

  pub form_missing : length m.core.values < 3 → ComesTo (ask_here m asked.ArriveForm) askings.Stuck
  form_missing h = none_of m.core.values h

  pub form_asks : 3 ≤ length m.core.values → ComesTo (ask_here m asked.ArriveForm) askings.Asks
  form_asks h = comes_of m.core.values h

  pub form_made : (q : Ask) → IsAsking (ask_here m asked.ArriveForm) → q ≡ asks.Arrive (team_of (number_beneath 2 m.core.values)) (arrivals.Form (number_beneath 1 m.core.values) (number_beneath 0 m.core.values)) → IsAsked (ask_here m asked.ArriveForm) q
  form_made q h e = made_of q m.core.values h e

  pub form_placed : (p : Place) → p ≡ places.Board → IsAsking (ask_here m asked.ArriveForm) → IsAskedAt (ask_here m asked.ArriveForm) p
  form_placed p e h = placed_of m.core.values p e h

  pub form_joined : (e : Kept) (r : Reply) → IsAsking (ask_here m asked.ArriveForm) → e ≡ with_core m (arrival_reply (with_values m.core (drop 3 m.core.values)) r) → GoesOnWith m (ask_here m asked.ArriveForm) r e
  form_joined e r h g = form_goes e m.core.values r h g

-- IMAGE_STATUS
module _ (m : Kept) where
  abbrev told : ℤ → ℤ → List ℤ → Bool → Acted
  told i t us b = unless cobounds_fault b (asking (asks.Status (record { 0 = word t }) (word i)) (λ r. with_status r (with_values m.core us)))

  abbrev asks_of : List ℤ → Acted
  asks_of ws = elim ws [ [] ↦ stuck | t ∷ vs ↦ elim vs [ [] ↦ stuck | i ∷ us ↦ told i t us (is_index_of (length (members m.core (natural t))) i) ] ]

  none_asked : (ws : List ℤ) → length ws < 2 → ComesTo (asks_of ws) askings.Stuck
  none_asked [] h = refl
  none_asked (t ∷ []) h = refl
  none_asked (t ∷ i ∷ us) h = absurd (omega arith)

  two_of : (ws : List ℤ) → IsAsking (asks_of ws) → 1 < length ws
  two_of [] h = absurd h
  two_of (t ∷ []) h = absurd h
  two_of (t ∷ i ∷ us) h = omega arith

  told_placed : (i t : ℤ) (us : List ℤ) (b : Bool) (p : Place) → p ≡ places.Board → IsAsking (told i t us b) → IsAskedAt (told i t us b) p
  told_placed i t us true p e h = e
  told_placed i t us false p e h = absurd h

  placed_in : (ws : List ℤ) (p : Place) → p ≡ places.Board → IsAsking (asks_of ws) → IsAskedAt (asks_of ws) p
  placed_in [] p e h = absurd h
  placed_in (t ∷ []) p e h = absurd h
  placed_in (t ∷ i ∷ us) p e h = told_placed i t us (is_index_of (length (members m.core (natural t))) i) p e h

  told_asked : (i t : ℤ) (us : List ℤ) (b : Bool) (q : Ask) → q ≡ asks.Status (record { 0 = word t }) (word i) → IsAsking (told i t us b) → IsAsked (told i t us b) q
  told_asked i t us true q e h = e
  told_asked i t us false q e h = absurd h

  told_heard : (e : Kept) (i t : ℤ) (us : List ℤ) (b : Bool) (r : Reply) → IsAsking (told i t us b) → e ≡ with_core m (with_status r (with_values m.core us)) → GoesOnWith m (told i t us b) r e
  told_heard e i t us true r h g = g
  told_heard e i t us false r h g = absurd h

  heard_in : (e : Kept) (ws : List ℤ) (r : Reply) → IsAsking (asks_of ws) → e ≡ with_core m (with_values m.core (status_of r ∷ drop 2 ws)) → GoesOnWith m (asks_of ws) r e
  heard_in e [] r h g = absurd h
  heard_in e (t ∷ []) r h g = absurd h
  heard_in e (t ∷ i ∷ us) r h g = told_heard e i t us (is_index_of (length (members m.core (natural t))) i) r h g

  pub two_there : IsAsking (ask_here m asked.Status) → 1 < length m.core.values
  two_there h = two_of m.core.values h

  pub status_there : IsAsking (ask_here m asked.Status) → length m.core.values < 2 → ⊥
  status_there h l = (let k = two_there h in absurd (omega arith))

  pub status_missing : length m.core.values < 2 → ComesTo (ask_here m asked.Status) askings.Stuck
  status_missing h = none_asked m.core.values h

  pub status_asks : (i t : ℤ) → m.core.values ≡ t ∷ i ∷ drop 2 m.core.values → is_index_of (length (members m.core (natural t))) i ≡ true → ComesTo (ask_here m asked.Status) askings.Asks
  status_asks i t h b = subst (λ ws. ComesTo (asks_of ws) askings.Asks) (sym h) (subst (λ c. ComesTo (told i t (drop 2 m.core.values) c) askings.Asks) (sym b) refl)

  pub status_faults : (i t : ℤ) → m.core.values ≡ t ∷ i ∷ drop 2 m.core.values → is_index_of (length (members m.core (natural t))) i ≡ false → ComesTo (ask_here m asked.Status) (askings.Fault 5)
  status_faults i t h b = subst (λ ws. ComesTo (asks_of ws) (askings.Fault 5)) (sym h) (subst (λ c. ComesTo (told i t (drop 2 m.core.values) c) (askings.Fault 5)) (sym b) refl)

  pub status_placed : (p : Place) → p ≡ places.Board → IsAsking (ask_here m asked.Status) → IsAskedAt (ask_here m asked.Status) p
  status_placed p e h = placed_in m.core.values p e h

  pub status_asked : (i t : ℤ) (q : Ask) → m.core.values ≡ t ∷ i ∷ drop 2 m.core.values → IsAsking (ask_here m asked.Status) → q ≡ asks.Status (record { 0 = word t }) (word i) → IsAsked (ask_here m asked.Status) q
  status_asked i t q h a e = subst (λ ws. IsAsking (asks_of ws) → IsAsked (asks_of ws) q) (sym h) (λ j. told_asked i t (drop 2 m.core.values) (is_index_of (length (members m.core (natural t))) i) q e j) a

  pub status_heard : (e : Kept) (r : Reply) → IsAsking (ask_here m asked.Status) → e ≡ with_core m (with_values m.core (status_of r ∷ drop 2 m.core.values)) → GoesOnWith m (ask_here m asked.Status) r e
  status_heard e r h g = heard_in e m.core.values r h g

-- FAILED_IMAGES and STOPPED_IMAGES
module _ (m : Kept) (f : TeamNo → Ask) where
  abbrev list : List ℤ → Acted
  list ws = elim ws [ [] ↦ stuck | t ∷ ts ↦ asking (f (team_of t)) (indices_reply (with_values m.core ts)) ]

  list_there : (ws : List ℤ) → IsAsking (list ws) → 1 ≤ length ws
  list_there [] h = absurd h
  list_there (t ∷ ts) h = omega arith

  list_is : (P : Acted → Type 0) (ws : List ℤ) → 1 ≤ length ws → P (asking (f (team_of (number_beneath 0 ws))) (indices_reply (with_values m.core (drop 1 ws)))) → P (list ws)
  list_is P [] h p = absurd (omega arith)
  list_is P (t ∷ ts) h p = p

  list_missing : (ws : List ℤ) → length ws < 1 → ComesTo (list ws) askings.Stuck
  list_missing [] h = refl
  list_missing (t ∷ ts) h = absurd (omega arith)

module _ (m : Kept) where
  pub failed_there : IsAsking (ask_here m asked.Failed) → 1 ≤ length m.core.values
  failed_there h = list_there m asks.Failed m.core.values h

  pub failed_asks : 1 ≤ length m.core.values → ComesTo (ask_here m asked.Failed) askings.Asks
  failed_asks h = list_is m asks.Failed (λ x. ComesTo x askings.Asks) m.core.values h refl

  pub failed_missing : length m.core.values < 1 → ComesTo (ask_here m asked.Failed) askings.Stuck
  failed_missing h = list_missing m asks.Failed m.core.values h

  pub failed_placed : (p : Place) → IsAsking (ask_here m asked.Failed) → p ≡ places.Board → IsAskedAt (ask_here m asked.Failed) p
  failed_placed p h e = list_is m asks.Failed (λ x. IsAskedAt x p) m.core.values (failed_there h) e

  pub failed_asked : (q : Ask) → IsAsking (ask_here m asked.Failed) → q ≡ asks.Failed (team_of (number_beneath 0 m.core.values)) → IsAsked (ask_here m asked.Failed) q
  failed_asked q h e = list_is m asks.Failed (λ x. IsAsked x q) m.core.values (failed_there h) e

  pub failed_heard : (e : Kept) (r : Reply) → IsAsking (ask_here m asked.Failed) → e ≡ with_core m (indices_reply (with_values m.core (drop 1 m.core.values)) r) → GoesOnWith m (ask_here m asked.Failed) r e
  failed_heard e r h g = list_is m asks.Failed (λ x. GoesOnWith m x r e) m.core.values (failed_there h) g

  pub stopped_there : IsAsking (ask_here m asked.Stopped) → 1 ≤ length m.core.values
  stopped_there h = list_there m asks.Stopped m.core.values h

  pub stopped_asks : 1 ≤ length m.core.values → ComesTo (ask_here m asked.Stopped) askings.Asks
  stopped_asks h = list_is m asks.Stopped (λ x. ComesTo x askings.Asks) m.core.values h refl

  pub stopped_missing : length m.core.values < 1 → ComesTo (ask_here m asked.Stopped) askings.Stuck
  stopped_missing h = list_missing m asks.Stopped m.core.values h

  pub stopped_placed : (p : Place) → IsAsking (ask_here m asked.Stopped) → p ≡ places.Board → IsAskedAt (ask_here m asked.Stopped) p
  stopped_placed p h e = list_is m asks.Stopped (λ x. IsAskedAt x p) m.core.values (stopped_there h) e

  pub stopped_asked : (q : Ask) → IsAsking (ask_here m asked.Stopped) → q ≡ asks.Stopped (team_of (number_beneath 0 m.core.values)) → IsAsked (ask_here m asked.Stopped) q
  stopped_asked q h e = list_is m asks.Stopped (λ x. IsAsked x q) m.core.values (stopped_there h) e

  pub stopped_heard : (e : Kept) (r : Reply) → IsAsking (ask_here m asked.Stopped) → e ≡ with_core m (indices_reply (with_values m.core (drop 1 m.core.values)) r) → GoesOnWith m (ask_here m asked.Stopped) r e
  stopped_heard e r h g = list_is m asks.Stopped (λ x. GoesOnWith m x r e) m.core.values (stopped_there h) g

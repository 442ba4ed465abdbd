-- From each image's own list: an image that paused or failed makes no access.
use Rattle.std.proofs.Common.{◌≡◌, ℕ, Bool, true, false, nat_eq, ◌||◌, cond, List, [], ◌∷◌, ◌++◌, ◌⊎◌, map, inl, inr, refl, ap, sym, ◌∙◌, subst, append_assoc}
use Rattle.std.specs.Prelude.{Option, Some, None}
use Rattle.std.proofs.lemmas.List.{map-append}
use Rattle.std.proofs.lemmas.List.Elements.{filter-append}
use Rattle.std.proofs.lemmas.Bool.{eq-eqb, or_left, or_right, both_ways}
use Rattle.trace_theory.specs.Entries.{Each}
use Rattle.trace_theory.specs.Machines.{Said}
use Rattle.caf_events.specs.declared.ask.Ask.{Ask}
use Rattle.caf_events.specs.declared.ask.Ask.TheVariants as asks
use Rattle.caf_events.specs.declared.reply.Reply.{Reply}
use Rattle.caf_events.specs.declared.reply.Reply.TheVariants as replies
use Rattle.caf_events.specs.declared.event.Entry.{Entry}
use Rattle.order_theory.specs.Order.{Within}
use Rattle.order_theory.specs.Races.{Cell, is_access}
use Rattle.order_theory.specs.Acts.{Act, gets, unlocks, posts, finishes, pausing}
use Rattle.order_axioms.specs.Statuses.{tells_success, tells_acquired}
use Rattle.order_theory.specs.Facts.{own_list, NoneActs, Settles, OwnFacts, Pauses, AccessesCell}
use Rattle.order_theory.proofs.Pausing.{own_pauses}
use Rattle.order_theory.proofs.Laws.{access_pauses}
use Rattle.core_runs.specs.Lists.{said}
use Rattle.core_runs.specs.Sequences.{departure_after, CutsShort, JoinsBehind, Joins}
use Rattle.core_runs.specs.Failures.{is_failure_step, is_limit}
use Rattle.core_runs.specs.CoreRuns.{said_by}
use Rattle.order_axioms.specs.Views.{view, act_by, act_of, is_completing, departure, end_of_pair, locking, unlocking, posting}
use Rattle.order_axioms.specs.Touching.{cells_by, class_by, touches}
use Rattle.order_axioms.specs.OwnLists.{may_touch, IsQuiet}
use Rattle.order_axioms.proofs.Completing.{completes}

abbrev acts : Entry → Bool
acts e = may_touch e.event.ask

abbrev fails : Entry → Bool
fails e = is_failure_step e.event.ask

-- what an image said and heard
abbrev heard : List Entry → List (Said Ask Reply)
heard es = map (λ x. said x.event) es

-- what follows an arrival
joins_at : (o : Option Ask) (b a : List (Said Ask Reply)) (e : Said Ask Reply) → JoinsBehind o (b ++ e ∷ a) → JoinsBehind (departure_after e.ask e.reply) a
joins_at o [] a e j = j.1
joins_at o (x ∷ b) a e j = joins_at (departure_after x.ask x.reply) b a e j.1

-- the steps of a failure and the limits touch nothing
quiet_ask : (a : Ask) → (is_failure_step a || is_limit a) ≡ true → may_touch a ≡ false
quiet_ask (asks.Read owner span) h = absurd (cc)
quiet_ask (asks.Write owner span values) h = absurd (cc)
quiet_ask (asks.Atomic owner op span x y) h = absurd (cc)
quiet_ask (asks.Create owner coarray cells) h = absurd (cc)
quiet_ask (asks.Delete owner coarray) h = absurd (cc)
quiet_ask (asks.Lock owner span) h = absurd (cc)
quiet_ask (asks.TryLock owner span) h = absurd (cc)
quiet_ask (asks.Unlock owner span) h = absurd (cc)
quiet_ask (asks.Post owner span) h = absurd (cc)
quiet_ask (asks.Wait owner span threshold) h = absurd (cc)
quiet_ask (asks.Query owner span) h = absurd (cc)
quiet_ask a h = refl

none_of : (n : ℕ) (es : List Entry) → Each (λ x. (is_failure_step x.ask || is_limit x.ask) ≡ true) (heard es) → NoneActs (view n) acts es
none_of n [] h = tt
none_of n (e ∷ es) h = (quiet_ask e.event.ask h.0, none_of n es h.1)

nothing_of : (n : ℕ) (es : List Entry) → heard es ≡ [] → NoneActs (view n) acts es
nothing_of n [] h = tt
nothing_of n (e ∷ es) h = absurd (cc)

-- what begins a failure, and what is a limit
cut_kind : (a : Ask) → CutsShort a → (is_failure_step a ≡ true) ⊎ (is_limit a ≡ true)
cut_kind asks.Fail h = inl refl
cut_kind (asks.LimitStatements number) h = inr refl
cut_kind (asks.LimitWords number) h = inr refl
cut_kind (asks.LimitStamp number) h = inr refl
cut_kind a h = absurd h

-- an ask after which an image pauses has a departure, which completes a segment and touches nothing
pub record Departs (a : Ask) (r : Reply) : Type 0 where
  pub departure : Ask
  pub is : departure_after a r ≡ Some departure
  pub completing_is : is_completing departure ≡ true
  pub still : may_touch departure ≡ false

arrive_departs : (t : _) (k : _) (r : Reply) → pausing (act_by (asks.Arrive t k) r) ≡ true → Departs (asks.Arrive t k) r
arrive_departs t k (replies.Round m) h = record { departure = asks.Leave t m; is = refl; completing_is = refl; still = refl }
arrive_departs t k r h = absurd (cc)

no_pause : (b : Bool) (x y : Act) → pausing x ≡ false → pausing y ≡ false → pausing (cond b x y) ≡ false
no_pause true x y h k = h
no_pause false x y h k = k

departure_no_pause : (t k : ℕ) (r : Reply) → pausing (departure t k r) ≡ false
departure_no_pause t k (replies.Left status teams) = refl
departure_no_pause t k r = refl

pair_no_pause : (r : Reply) → pausing (end_of_pair r) ≡ false
pair_no_pause (replies.Number status) = refl
pair_no_pause r = refl

lock_no_pause : (c : Cell) (r : Reply) → pausing (locking c r) ≡ false
lock_no_pause c (replies.Number status) = no_pause (tells_acquired status) (gets c) finishes refl refl
lock_no_pause c r = refl

unlock_no_pause : (c : Cell) (r : Reply) → pausing (unlocking c r) ≡ false
unlock_no_pause c (replies.Number status) = no_pause (tells_success status) (unlocks c) finishes refl refl
unlock_no_pause c r = refl

post_no_pause : (c : Cell) (r : Reply) → pausing (posting c r) ≡ false
post_no_pause c (replies.Number status) = no_pause (tells_success status) (posts c) finishes refl refl
post_no_pause c r = refl

pub pausing_departs : (a : Ask) (r : Reply) → pausing (act_by a r) ≡ true → Departs a r
pausing_departs (asks.Arrive t k) r h = arrive_departs t k r h
pausing_departs (asks.Pair js) r h = record { departure = asks.Unpair; is = refl; completing_is = refl; still = refl }
pausing_departs (asks.Leave t k) r h = absurd (both_ways _ (departure_no_pause t.0 k r) h)
pausing_departs asks.Unpair r h = absurd (both_ways _ (pair_no_pause r) h)
pausing_departs (asks.Lock o s) r h = absurd (both_ways _ (lock_no_pause _ r) h)
pausing_departs (asks.TryLock o s) r h = absurd (both_ways _ (lock_no_pause _ r) h)
pausing_departs (asks.Unlock o s) r h = absurd (both_ways _ (unlock_no_pause _ r) h)
pausing_departs (asks.Post o s) r h = absurd (both_ways _ (post_no_pause _ r) h)
pausing_departs a r h = absurd (cc)

-- an access that touches a cell is made by an ask that may touch
reaching_touches : (g : List Entry) (a : Ask) (r : Reply) (c : Cell) → Within c (cells_by g a r) → is_access (class_by a) ≡ true → may_touch a ≡ true
reaching_touches g (asks.Read owner span) r c w h = refl
reaching_touches g (asks.Write owner span values) r c w h = refl
reaching_touches g (asks.Atomic owner op span x y) r c w h = refl
reaching_touches g (asks.Create owner coarray cells) r c w h = refl
reaching_touches g (asks.Delete owner coarray) r c w h = refl
reaching_touches g a r c w h = absurd (cc)

module _ (n : ℕ) (t : List Entry) (quiet : IsQuiet n t) where
  -- an image's list at one of its entries
  pub own_at : (i : ℕ) (g h : List Entry) (x : Entry) → t ≡ g ++ x ∷ h → x.image.0 ≡ i → said_by i t ≡ heard (own_list (view n) i g) ++ said x.event ∷ heard (own_list (view n) i h)
  own_at i g h x s e =
      ap (λ z. heard (own_list (view n) i z)) s ∙ ap heard (filter-append (λ y. nat_eq y.image.0 i) g (x ∷ h)) ∙ map-append (λ y. said y.event) (own_list (view n) i g) (own_list (view n) i (x ∷ h))
      ∙ ap (λ b. heard (own_list (view n) i g) ++ heard (cond b (x ∷ own_list (view n) i h) (own_list (view n) i h))) (eq-eqb x.image.0 i e)

  settles_by : (d : Ask) → is_completing d ≡ true → may_touch d ≡ false → (es : List Entry) → JoinsBehind (Some d) (heard es)
      → ((e : Entry) (more : List Entry) → es ≡ e ∷ more → CutsShort e.event.ask → NoneActs (view n) acts (e ∷ more)) → Settles (view n) acts es
  settles_by d comp still [] j cut = tt
  settles_by d comp still (e ∷ es) j cut = elim j.0 [
    | inl same ↦ inl (completes e.event.ask e.event.reply ∙ ap is_completing same ∙ comp, ap may_touch same ∙ still)
    | inr c ↦ inr (cut e es refl c)
  ]

  -- after an ask that cuts an image short it touches nothing
  cut_quiet : (i : ℕ) (b : List (Said Ask Reply)) (e : Entry) (more : List Entry) → said_by i t ≡ b ++ said e.event ∷ heard more → CutsShort e.event.ask → NoneActs (view n) acts (e ∷ more)
  cut_quiet i b e more s c = elim (cut_kind e.event.ask c) [
    | inl f ↦ (quiet_ask e.event.ask (or_left (is_failure_step e.event.ask) (is_limit e.event.ask) f), none_of n more ((quiet.ends i).after_failure b (heard more) (said e.event) s f))
    | inr l ↦ (quiet_ask e.event.ask (or_right (is_failure_step e.event.ask) (is_limit e.event.ask) l), nothing_of n more ((quiet.ends i).after_limit b (heard more) (said e.event) s l))
  ]

  settles : (g h : List Entry) (x : Entry) → t ≡ g ++ x ∷ h → pausing (act_of x) ≡ true → Settles (view n) acts (own_list (view n) x.image.0 h)
  settles g h x s p =
      let d = pausing_departs x.event.ask x.event.reply p in
      let o = own_at x.image.0 g h x s refl in
      let j = joins_at None (heard (own_list (view n) x.image.0 g)) (heard (own_list (view n) x.image.0 h)) (said x.event) (subst Joins o (quiet.joins x.image.0)) in
      settles_by d.departure d.completing_is d.still (own_list (view n) x.image.0 h) (subst (λ z. JoinsBehind z (heard (own_list (view n) x.image.0 h))) d.is j)
      (λ e more q c. cut_quiet x.image.0 (heard (own_list (view n) x.image.0 g) ++ said x.event ∷ []) e more
      (o ∙ ap (λ z. heard (own_list (view n) x.image.0 g) ++ said x.event ∷ heard z) q ∙ sym (append_assoc (heard (own_list (view n) x.image.0 g)) (said x.event ∷ []) (said e.event ∷ heard more))) c)

  failed_quiet : (g h : List Entry) (x : Entry) → t ≡ g ++ x ∷ h → fails x ≡ true → NoneActs (view n) acts (own_list (view n) x.image.0 h)
  failed_quiet g h x s f = none_of n (own_list (view n) x.image.0 h) ((quiet.ends x.image.0).after_failure (heard (own_list (view n) x.image.0 g)) (heard (own_list (view n) x.image.0 h)) (said x.event) (own_at x.image.0 g h x s refl) f)

  pub own_facts : OwnFacts (view n) acts fails t
  own_facts = record { settles = settles; failed_quiet = failed_quiet; spoken_failed = quiet.spoken }

  -- so the laws of segment order hold of the trace
  pub accesses_pause : Pauses (view n) (AccessesCell touches) t
  accesses_pause = access_pauses Entry (view n) touches acts fails t own_facts (λ g e w. reaching_touches g e.event.ask e.event.reply w.0 w.1 w.2)

  -- and each entry that touches a cell and is no release of a lock by a failing image acts
  pub touching_pauses : Pauses (view n) (λ g e. acts e ≡ true) t
  touching_pauses = own_pauses Entry (view n) acts fails t own_facts

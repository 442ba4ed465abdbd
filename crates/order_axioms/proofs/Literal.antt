-- Two edges said of the whole trace: those of a round, and those from the last segment of a failed image.
use Rattle.std.proofs.Common.{◌≡◌, ℕ, ◌≤◌, ◌↔◌, Bool, true, false, ◌&&◌, ◌||◌, nat_eq, cond, List, [], ◌∷◌, ◌++◌, map, length, inl, inr, refl, ap, sym, ◌∙◌, arith, append_assoc}
use Rattle.std.proofs.lemmas.Bool.{eq-eqb, eqb-true, ne_eqb, cases_eq, cases_lt, cases_Bool, and_parts}
use Rattle.trace_theory.specs.Entries.{Each}
use Rattle.caf_events.specs.declared.ask.Ask.{Ask}
use Rattle.caf_events.specs.declared.ask.Ask.TheVariants as asks
use Rattle.caf_events.specs.declared.event.Entry.{Entry}
use Rattle.order_theory.specs.Order.{Segment, Within, done, segment_of}
use Rattle.order_theory.specs.Acts.{Act, arrives, leaves, round, adds, clears, drops, leaves_all, turn, entries, waiting}
use Rattle.order_theory.specs.Facts.{own_list}
use Rattle.order_theory.specs.Stored.{NeverClears}
use Rattle.order_theory.proofs.Splits.{done_append, fronts, fronts_at}
use Rattle.order_theory.proofs.Readings.{waits_where}
use Rattle.core_runs.specs.Lists.{said}
use Rattle.core_runs.specs.Failures.{is_failure_step, is_limit}
use Rattle.order_axioms.specs.Views.{view, act_of, is_completing, speaks_by}
use Rattle.order_axioms.specs.OwnLists.{IsQuiet}
use Rattle.order_axioms.specs.Turns.{InRounds}
use Rattle.order_axioms.proofs.Completing.{completes}
use Rattle.order_axioms.proofs.OwnFacts.{own_at}
use Rattle.order_axioms.proofs.InTurn.{arrived_by}

-- the steps of a failure and the limits complete no segment
quiet_completes : (a : Ask) → (is_failure_step a || is_limit a) ≡ true → is_completing a ≡ false
quiet_completes (asks.Leave team k) h = absurd (cc)
quiet_completes asks.Unpair h = absurd (cc)
quiet_completes asks.Memory h = absurd (cc)
quiet_completes (asks.Enter c) h = absurd (cc)
quiet_completes (asks.Exit c) h = absurd (cc)
quiet_completes (asks.Lock o s) h = absurd (cc)
quiet_completes (asks.TryLock o s) h = absurd (cc)
quiet_completes (asks.Unlock o s) h = absurd (cc)
quiet_completes (asks.Post o s) h = absurd (cc)
quiet_completes (asks.Wait o s k) h = absurd (cc)
quiet_completes (asks.Stop code) h = absurd (cc)
quiet_completes a h = refl

none_done : (n j : ℕ) (es : List Entry) → Each (λ x. (is_failure_step x.ask || is_limit x.ask) ≡ true) (map (λ x. said x.event) (own_list (view n) j es)) → done (entries (view n)) j es ≡ 0
none_done n j [] h = refl
none_done n j (e ∷ es) h = elim (cases_eq e.image.0 j) [
  | inl q ↦ (
      let k = rw (eq-eqb e.image.0 j q) at h in
      let c = completes e.event.ask e.event.reply ∙ quiet_completes e.event.ask k.0 in
      let r = none_done n j es k.1 in
      rw (eq-eqb e.image.0 j q, c) (omega arith))
  | inr m ↦ (let r = none_done n j es (rw (ne_eqb e.image.0 j m) at h) in rw (ne_eqb e.image.0 j m) (omega arith))
]

-- The segment in which a failed image stands when a status speaks of it is its last one.
pub spoken_last : (n : ℕ) (t : List Entry) → IsQuiet n t → (g h : List Entry) (x : Entry) (j : ℕ) → t ≡ g ++ x ∷ h → Within j (speaks_by n g x.image.0 x.event.ask x.event.reply)
    → done (entries (view n)) j t ≡ done (entries (view n)) j g
spoken_last n t quiet g h x j s w =
    let z = quiet.spoken g h x j s w in
    let split : t ≡ z.0 ++ z.1 ∷ (z.2 ++ x ∷ h) = s ∙ ap (λ y. y ++ x ∷ h) z.3 ∙ append_assoc z.0 (z.1 ∷ z.2) (x ∷ h) in
    let rest = none_done n j (z.2 ++ x ∷ h) ((quiet.ends j).after_failure _ _ (said z.1.event) (own_at n t quiet j z.0 (z.2 ++ x ∷ h) z.1 split z.4) z.5) in
    let a = ap (done (entries (view n)) j) split ∙ done_append Entry (entries (view n)) j z.0 (z.1 ∷ (z.2 ++ x ∷ h)) in
    let b = ap (done (entries (view n)) j) z.3 ∙ done_append Entry (entries (view n)) j z.0 (z.1 ∷ z.2) in
    let c = done_append Entry (entries (view n)) j z.2 (x ∷ h) in
    omega arith

round_turn : (u k i : ℕ) (a : Act) → turn (round u k) i a ≡ adds → a ≡ arrives u k
round_turn u k i (arrives v l) h = elim (cases_Bool (nat_eq u v && nat_eq k l)) [
  | inl b ↦ (let p = and_parts (nat_eq u v) (nat_eq k l) b in ap (λ z. arrives z l) (sym (eqb-true u v p.0)) ∙ ap (arrives u) (sym (eqb-true k l p.1)))
  | inr b ↦ absurd (let q = rw b at h in cc)
]
round_turn u k i a h = absurd (cc)

either_turn : (b : Bool) → (cond b adds leaves_all ≡ clears → ⊥) × ((m : ℕ) → cond b adds leaves_all ≡ drops m → ⊥)
either_turn true = ((λ h. cc), (λ m h. cc))
either_turn false = ((λ h. cc), (λ m h. cc))

-- nothing clears a round, and nothing is dropped from it
round_stays : (u k i : ℕ) (a : Act) → (turn (round u k) i a ≡ clears → ⊥) × ((m : ℕ) → turn (round u k) i a ≡ drops m → ⊥)
round_stays u k i (arrives v l) = either_turn (nat_eq u v && nat_eq k l)
round_stays u k i a = ((λ h. cc), (λ m h. cc))

never_clears : (n u k : ℕ) (es : List Entry) → NeverClears (view n) (round u k) es
never_clears n u k [] = tt
never_clears n u k (e ∷ es) = ((round_stays u k e.image.0 (act_of e)).0, never_clears n u k es)

-- an arrival at the round somewhere in the trace, in segment a
pub record ArrivedIn (n : ℕ) (t : List Entry) (u k : ℕ) (a : Segment) : Type 0 where
  pub before : List Entry
  pub event : Entry
  pub rest : List Entry
  pub split : t ≡ before ++ event ∷ rest
  pub act : act_of event ≡ arrives u k
  pub at : a ≡ segment_of (entries (view n)) before event

here_adds : (u k : ℕ) → cond (nat_eq u u && nat_eq k k) adds leaves_all ≡ adds
here_adds u k = rw (eq-eqb u u refl, eq-eqb k k refl) refl

not_both : (u k v l : ℕ) (whole : Bool) (a : Act) → a ≡ arrives u k → a ≡ leaves v l whole → ⊥
not_both u k v l whole a p q = let z = sym p ∙ q in cc

-- no image arrives at a round after a departure from it
too_late : (n : ℕ) (t : List Entry) → InRounds n t → (g h : List Entry) (y : Entry) (u k : ℕ) (whole : Bool) → t ≡ g ++ y ∷ h → act_of y ≡ leaves u k whole
    → (b r : List Entry) (x : Entry) → t ≡ b ++ x ∷ r → act_of x ≡ arrives u k → length g ≤ length b → ⊥
too_late n t rounds g h y u k whole s act b r x s' act' l =
    let f = fronts Entry g (y ∷ h) b (x ∷ r) (sym s ∙ s') l in
    let closed = (rounds.departs g h y u k whole s act).1 in
    let many = arrived_by n t rounds b r x u k k g f.0 s' (inl act') f.1 closed in
    let few = rounds.numbered b r x u k s' act' in
    omega arith

-- What waits at a round where an image leaves it are the segments of all arrivals of the round, wherever they stand.
pub round_whole : (n : ℕ) (t : List Entry) → InRounds n t → (g h : List Entry) (y : Entry) (u k : ℕ) (whole : Bool) → t ≡ g ++ y ∷ h → act_of y ≡ leaves u k whole
    → (a : Segment) → Within a (waiting (view n) (round u k) g) ↔ ArrivedIn n t u k a
round_whole n t rounds g h y u k whole s act a =
    let w = waits_where Entry (view n) (round u k) (λ e m. (round_stays u k e.image.0 (act_of e)).1 m) g a in (
      λ i. let d = w.0 i in record {
        before = d.before;
        event = d.event;
        rest = d.rest ++ y ∷ h;
        split = s ∙ ap (λ z. z ++ y ∷ h) d.split ∙ append_assoc d.before (d.event ∷ d.rest) (y ∷ h);
        act = round_turn u k d.event.image.0 (act_of d.event) d.adding;
        at = d.at;
      },
      λ i. elim (cases_lt (length i.before) (length g)) [
        | inl l ↦ (
            let f = fronts_at Entry i.before i.rest g (y ∷ h) i.event (sym i.split ∙ s) l in
            w.1 (record { before = i.before; event = i.event; rest = f.0; split = f.1; adding = ap (turn (round u k) i.event.image.0) i.act ∙ here_adds u k; at = i.at; not_cleared = never_clears n u k f.0 }))
        | inr l ↦ absurd (too_late n t rounds g h y u k whole s act i.before i.rest i.event i.split i.act l)
      ],
    )

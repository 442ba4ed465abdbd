-- Who leaves a round has the same sources in every order: the arrivals of the round stand in each run that follows t
-- before the round's close.
use Rattle.std.proofs.Common.{◌≡◌, ℕ, suc, ◌+◌, ◌<◌, ◌⊎◌, Bool, true, false, nat_eq, nat_le, ◌&&◌, cond, List, [], ◌∷◌, ◌++◌, length, map, inl, inr, refl, ap, sym, ◌∙◌, arith, append_assoc}
use Rattle.std.proofs.lemmas.List.{length-map}
use Rattle.std.proofs.lemmas.Bool.{cases_lt, cases_Bool, and_parts, eq-eqb, eqb-true, leb-true}
use Rattle.caf_events.specs.declared.ask.Ask.{Ask}
use Rattle.caf_events.specs.declared.ask.Ask.TheVariants as asks
use Rattle.caf_events.specs.declared.reply.Reply.{Reply}
use Rattle.caf_events.specs.declared.reply.Reply.TheVariants as replies
use Rattle.caf_events.specs.declared.event.Entry.{Entry}
use Rattle.trace_theory.specs.Machines.{Said}
use Rattle.object_rules.specs.Happenings.{control, happens}
use Rattle.object_rules.specs.BoardTeams.{arrives_there}
use Rattle.team_laws.proofs.Arrivals.{cons_arrivals}
use Rattle.core_runs.specs.Lists.{said}
use Rattle.core_runs.specs.CoreRuns.{said_by}
use Rattle.order_theory.specs.Order.{Segment, Within}
use Rattle.order_theory.specs.Races.{Stands}
use Rattle.order_theory.specs.Acts.{Act, arrives, round, adds, clears, drops, leaves_all, turn, waiting}
use Rattle.order_theory.specs.Facts.{own_list}
use Rattle.order_theory.specs.Stored.{NeverClears}
use Rattle.order_theory.proofs.Splits.{fronts}
use Rattle.order_theory.proofs.Sources.{added}
use Rattle.order_theory.proofs.Readings.{waits_where}
use Rattle.order_axioms.specs.Views.{view, act_of}
use Rattle.order_axioms.specs.Closes.{joined_by}
use Rattle.order_cuts.specs.Cuts.{Follows, IsInside, own_place}
use Rattle.order_cuts.proofs.OwnParts.{marks_at, placed, there, same_act, same_segment}
use Rattle.every_order.specs.Likes.{likes}

-- an arrival at a round of the team, as its image hears it
abbrev pub arrives_by : ℕ → Ask → Reply → Bool
arrives_by team (asks.Arrive t arriving) (replies.Round k) = nat_eq t.0 team
arrives_by team a r = false

abbrev pub arrivals_in : ℕ → List (Said Ask Reply) → ℕ
arrivals_in team [] = 0
arrivals_in team (s ∷ ss) = cond (arrives_by team s.ask s.reply) 1 0 + arrivals_in team ss

pub arrivals_append : (team : ℕ) (a b : List (Said Ask Reply)) → arrivals_in team (a ++ b) ≡ arrivals_in team a + arrivals_in team b
arrivals_append team [] b = omega arith
arrivals_append team (s ∷ a) b = let e = arrivals_append team a b in omega arith

joins_own : (team j i line : ℕ) (a : Ask) (r : Reply) → arrives_there team j (happens control i line a r) ≡ (arrives_by team a r && nat_eq i j)
joins_own team j i line (asks.Arrive t arriving) (replies.Round k) = refl
joins_own team j i line (asks.Stop code) r = refl
joins_own team j i line asks.Gone r = refl
joins_own team j i line (asks.Arrive t arriving) r = refl
joins_own team j i line a r = refl

own_count : (b c : Bool) (n : ℕ) → cond (b && c) 1 0 + n ≡ cond c (cond b 1 0 + n) n
own_count true true n = refl
own_count true false n = omega arith
own_count false true n = refl
own_count false false n = omega arith

pick_count : (team : ℕ) (c : Bool) (s : Said Ask Reply) (es : List Entry) → cond c (cond (arrives_by team s.ask s.reply) 1 0 + arrivals_in team (map (λ (x : Entry). said x.event) es)) (arrivals_in team (map (λ (x : Entry). said x.event) es))
    ≡ arrivals_in team (cond c (s ∷ map (λ (x : Entry). said x.event) es) (map (λ (x : Entry). said x.event) es))
pick_count team true s es = refl
pick_count team false s es = refl

pick_map : (c : Bool) (x : Entry) (es : List Entry) → cond c (said x.event ∷ map (λ (y : Entry). said y.event) es) (map (λ (y : Entry). said y.event) es) ≡ map (λ (y : Entry). said y.event) (cond c (x ∷ es) es)
pick_map true x es = refl
pick_map false x es = refl

-- the rounds that an image has joined are told by what it heard
pub joined_own : (team j : ℕ) (g : List Entry) → joined_by team j g ≡ arrivals_in team (said_by j g)
joined_own team j [] = refl
joined_own team j (x ∷ g) =
    cons_arrivals control team j x g ∙ ap (λ b. cond b 1 0 + joined_by team j g) (joins_own team j x.image.0 x.event.line x.event.ask x.event.reply)
    ∙ ap (λ m. cond (arrives_by team x.event.ask x.event.reply && nat_eq x.image.0 j) 1 0 + m) (joined_own team j g)
    ∙ own_count (arrives_by team x.event.ask x.event.reply) (nat_eq x.image.0 j) (arrivals_in team (said_by j g))
    ∙ pick_count team (nat_eq x.image.0 j) (said x.event) (own_list (view 0) j g)
    ∙ ap (arrivals_in team) (pick_map (nat_eq x.image.0 j) x (own_list (view 0) j g))

-- no act clears a round's key
never_clears : (t k i : ℕ) (a : Act) → turn (round t k) i a ≡ clears → ⊥
never_clears t k i (arrives u l) h = by (nat_eq t u && nat_eq k l) h
  where
    by : (b : Bool) → cond b adds leaves_all ≡ clears → ⊥
    by true e = cc
    by false e = cc
never_clears t k i a h = cc

never_drops : (t k i m : ℕ) (a : Act) → turn (round t k) i a ≡ drops m → ⊥
never_drops t k i m (arrives u l) h = by (nat_eq t u && nat_eq k l) h
  where
    by : (b : Bool) → cond b adds leaves_all ≡ drops m → ⊥
    by true e = cc
    by false e = cc
never_drops t k i m a h = cc

never_cleared : (n t k : ℕ) (es : List Entry) → NeverClears (view n) (round t k) es
never_cleared n t k [] = tt
never_cleared n t k (e ∷ es) = (never_clears t k e.image.0 (act_of e), never_cleared n t k es)

-- what is added at a round's key is an arrival there
adds_arrives : (t k i : ℕ) (a : Act) → turn (round t k) i a ≡ adds → a ≡ arrives t k
adds_arrives t k i (arrives u l) h = by (cases_Bool (nat_eq t u && nat_eq k l))
  where
    by : ((nat_eq t u && nat_eq k l) ≡ true) ⊎ ((nat_eq t u && nat_eq k l) ≡ false) → arrives u l ≡ arrives t k
    by (inl b) = let p = and_parts (nat_eq t u) (nat_eq k l) b in ap (λ x. arrives x l) (sym (eqb-true t u p.0)) ∙ ap (arrives t) (sym (eqb-true k l p.1))
    by (inr b) = absurd (let q : leaves_all ≡ adds = rw b at h in cc)
adds_arrives t k i a h = absurd (cc)

module _ (n : ℕ) (t f : List Entry) (fol : Follows (view n) (likes n) t f) where
  -- an arrival of t before which its image joined fewer rounds than in f is in f
  pub inside_by_arrivals : (team : ℕ) (z : Stands t) → joined_by team z.event.image.0 z.before < joined_by team z.event.image.0 f → IsInside (view n) (likes n) f z
  inside_by_arrivals team z l =
      elim (cases_lt (own_place (view n) (likes n) z) (length (own_list (view n) z.event.image.0 f))) [
        | inl m ↦ m
        | inr m ↦ (
            let j = z.event.image.0 in
            let a = length-map (own_list (view n) j z.before) (λ (x : Entry). said x.event) in
            let b = length-map (own_list (view n) j f) (λ (x : Entry). said x.event) in
            let p = fronts (Said Ask Reply) (said_by j f) (fol.left j) (said_by j z.before) (said z.event.event ∷ said_by j z.rest) (sym (fol.splits j) ∙ marks_at Entry (Said Ask Reply) (view n) (likes n) t z) (omega arith) in
            let d = joined_own team j z.before ∙ ap (arrivals_in team) p.1 ∙ arrivals_append team (said_by j f) p.0 in
            let e = joined_own team j f in
            absurd (omega arith))
      ]

  -- THE SAME SOURCES OF A ROUND. Where each image that arrives at the round in t has joined so many rounds in f or has
  -- said in f all that it says in t, the segments that wait at the round in a front of t wait there in f.
  pub round_sources : (team k : ℕ) (g h : List Entry) → t ≡ g ++ h
      → ((z : Stands t) → act_of z.event ≡ arrives team k → suc (joined_by team z.event.image.0 z.before) ≡ k)
      → ((z : Stands t) → act_of z.event ≡ arrives team k → (nat_le k (joined_by team z.event.image.0 f) ≡ true) ⊎ (said_by z.event.image.0 t ≡ said_by z.event.image.0 f))
      → (a : Segment) → Within a (waiting (view n) (round team k) g) → Within a (waiting (view n) (round team k) f)
  round_sources team k g h s numbered came a w =
      let d = added Entry (view n) (round team k) g a w in
      let z : Stands t = record { before = d.before; event = d.event; rest = d.rest ++ h; split = s ∙ ap (λ q. q ++ h) d.split ∙ append_assoc d.before (d.event ∷ d.rest) h } in
      let act = adds_arrives team k d.event.image.0 (act_of d.event) d.adding in
      let num = numbered z act in
      let p = placed Entry (Said Ask Reply) (view n) (likes n) t z in
      let x = length-map (own_list (view n) z.event.image.0 t) (λ (y : Entry). said y.event) in
      let y = length-map (own_list (view n) z.event.image.0 f) (λ (y : Entry). said y.event) in
      let inside : IsInside (view n) (likes n) f z = elim (came z act) [
        | inl l ↦ (let m = leb-true k (joined_by team z.event.image.0 f) l in inside_by_arrivals team z (omega arith))
        | inr whole ↦ (let e = ap length whole in omega arith)
      ] in
      let c = there Entry (Said Ask Reply) (view n) (likes n) t f fol z inside in
      let same = same_segment Entry (Said Ask Reply) (view n) (likes n) t f fol z c.0 c.1 in
      let act' : act_of c.0.event ≡ arrives team k = sym (same_act Entry (Said Ask Reply) (view n) (likes n) t f fol z c.0 c.1) ∙ act in
      let here : (nat_eq team team && nat_eq k k) ≡ true = rw (eq-eqb team team refl, eq-eqb k k refl) refl in
      let adding : turn (round team k) c.0.event.image.0 (act_of c.0.event) ≡ adds = ap (turn (round team k) c.0.event.image.0) act' ∙ ap (λ b. cond b adds leaves_all) here in
      (waits_where Entry (view n) (round team k) (λ e m. never_drops team k e.image.0 m (act_of e)) f a).1 (record {
        before = c.0.before;
        event = c.0.event;
        rest = c.0.rest;
        split = c.0.split;
        adding = adding;
        at = d.at ∙ same;
        not_cleared = never_cleared n team k c.0.rest;
      })

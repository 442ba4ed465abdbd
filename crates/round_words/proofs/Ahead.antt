-- A run that is ahead of another one: each image has said what it said there, or more. What closed there has closed
-- here.
use Rattle.std.proofs.Common.{◌≡◌, ◌<◌, ◌≤◌, ℕ, Bool, true, nat_le, ◌||◌, List, [], ◌∷◌, ◌++◌, length, inl, inr, refl, ap, sym, ◌∙◌, arith, append_assoc, length-append}
use Rattle.std.specs.List.{list_any, list_all}
use Rattle.std.proofs.lemmas.List.{append-nil, length-map}
use Rattle.std.proofs.lemmas.Bool.{cases_lt, and_parts, and_from, or_cases, or_left, or_right, leb-true, le-leb}
use Rattle.trace_theory.specs.Machines.{Said}
use Rattle.caf_events.specs.declared.ask.Ask.{Ask}
use Rattle.caf_events.specs.declared.ask.Ask.TheVariants as asks
use Rattle.caf_events.specs.declared.reply.Reply.{Reply}
use Rattle.caf_events.specs.declared.event.Entry.{Entry}
use Rattle.caf_events.specs.Events.{EndsImage}
use Rattle.object_rules.specs.Happenings.{Class}
use Rattle.team_laws.proofs.Lists.{any_by, all_by}
use Rattle.core_runs.specs.Lists.{said}
use Rattle.core_runs.specs.CoreRuns.{said_by}
use Rattle.core_runs.specs.Sequences.{NothingAfterEnd}
use Rattle.order_theory.specs.Races.{Stands, place}
use Rattle.order_theory.specs.Facts.{own_list}
use Rattle.order_theory.proofs.Splits.{fronts}
use Rattle.order_axioms.specs.Views.{view}
use Rattle.order_cuts.specs.Cuts.{Follows}
use Rattle.order_cuts.proofs.OwnParts.{at_place}
use Rattle.every_order.specs.Likes.{likes}
use Rattle.free_replies.proofs.FirstLeft.{IsIn}
use Rattle.free_replies.proofs.Replies.{said_append}
use Rattle.round_words.proofs.BoardWords.{arrivals_append, is_stop_ask, stopped_said, stopped_append, closed_said}
use Rattle.round_words.specs.RoundRuns.{IsAhead, arrivals_said}

pub follows_ahead : (n : ℕ) (t g : List Entry) → Follows (view n) (likes n) t g → IsAhead t g
follows_ahead n t g fol i = (fol.left i, fol.splits i)

pub front_ahead : (g h : List Entry) → IsAhead (g ++ h) g
front_ahead g h i = (said_by i h, said_append i g h)

pub same_ahead : (g u : List Entry) → u ≡ g → IsAhead u g
same_ahead g u e i = ([], ap (said_by i) e ∙ sym (append-nil (said_by i g)))

-- a run that has made all steps of the trace before one of them
pub earlier_ahead : (n : ℕ) (t u : List Entry) (fol : Follows (view n) (likes n) t u) (x : Stands t) → ((z : Stands t) → place z < place x → IsIn n t u fol z) → IsAhead u x.before
earlier_ahead n t u fol x inside i =
    let long : length (own_list (view n) i x.before) ≤ length (own_list (view n) i u) = elim (cases_lt (length (own_list (view n) i u)) (length (own_list (view n) i x.before))) [
      | inr l ↦ l
      | inl l ↦ absurd (
          let y = at_place Entry (Said Ask Reply) (view n) (likes n) i (length (own_list (view n) i u)) x.before l in
          let z : Stands t = record {
            before = y.0.before;
            event = y.0.event;
            rest = y.0.rest ++ x.event ∷ x.rest;
            split = x.split ∙ ap (λ w. w ++ x.event ∷ x.rest) y.0.split ∙ append_assoc y.0.before (y.0.event ∷ y.0.rest) (x.event ∷ x.rest);
          } in
          let short = ap length y.0.split ∙ length-append y.0.before (y.0.event ∷ y.0.rest) in
          let within = inside z (omega arith) in
          let a = ap (λ j. length (own_list (view n) j y.0.before)) y.1 in
          let b = ap (λ j. length (own_list (view n) j u)) y.1 in
          let p = y.2 in
          omega arith)
    ] in
    let a = length-map (own_list (view n) i x.before) (λ (z : Entry). said z.event) in
    let b = length-map (own_list (view n) i u) (λ (z : Entry). said z.event) in
    let f = fronts (Said Ask Reply) (said_by i x.before) (said_by i (x.event ∷ x.rest)) (said_by i u) (fol.left i)
    (sym (said_append i x.before (x.event ∷ x.rest)) ∙ ap (said_by i) (sym x.split) ∙ fol.splits i) (omega arith) in
    (f.0, f.1)

module _ (class : Class) (u w : List Entry) (ahead : IsAhead u w) where
  pub arrivals_ahead : (team j : ℕ) → arrivals_said class team j (said_by j w) ≤ arrivals_said class team j (said_by j u)
  arrivals_ahead team j =
      let a = ahead j in
      let e = ap (arrivals_said class team j) a.1 ∙ arrivals_append class team j (said_by j w) a.0 in
      omega arith

  stopped_ahead : (j : ℕ) → stopped_said (said_by j w) ≡ true → stopped_said (said_by j u) ≡ true
  stopped_ahead j h = let a = ahead j in ap stopped_said a.1 ∙ stopped_append (said_by j w) a.0 ∙ or_left (stopped_said (said_by j w)) (stopped_said a.0) h

  arrived_ahead : (team k j : ℕ) → nat_le k (arrivals_said class team j (said_by j w)) ≡ true → nat_le k (arrivals_said class team j (said_by j u)) ≡ true
  arrived_ahead team k j h =
      let l = leb-true k (arrivals_said class team j (said_by j w)) h in
      let m = arrivals_ahead team j in
      le-leb k (arrivals_said class team j (said_by j u)) (omega arith)

  -- A round that has closed there has closed here.
  pub closed_ahead : (team k : ℕ) (ms : List ℕ) → closed_said class team k ms (λ m. said_by m w) ≡ true → closed_said class team k ms (λ m. said_by m u) ≡ true
  closed_ahead team k ms h =
      let come : List Entry → ℕ → Bool = λ g m. nat_le k (arrivals_said class team m (said_by m g)) in
      let p = and_parts (list_any (come w) ms) (list_all (λ m. come w m || stopped_said (said_by m w)) ms) h in
      and_from (list_any (come u) ms) (list_all (λ m. come u m || stopped_said (said_by m u)) ms)
      (any_by (come w) (come u) (arrived_ahead team k) ms p.0)
      (all_by (λ m. come w m || stopped_said (said_by m w)) (λ m. come u m || stopped_said (said_by m u)) (λ m q. elim (or_cases (come w m) (stopped_said (said_by m w)) q) [
        | inl a ↦ or_left (come u m) (stopped_said (said_by m u)) (arrived_ahead team k m a)
        | inr b ↦ or_right (come u m) (stopped_said (said_by m u)) (stopped_ahead m b)
      ]) ms p.1)

-- where an image stopped
pub record StopsAt (ws : List (Said Ask Reply)) : Type 0 where
  pub before : List (Said Ask Reply)
  pub word : Said Ask Reply
  pub after : List (Said Ask Reply)
  pub split : ws ≡ before ++ word ∷ after
  pub stops : is_stop_ask word.ask ≡ true

pub stops_at : (ws : List (Said Ask Reply)) → stopped_said ws ≡ true → StopsAt ws
stops_at [] h = absurd (cc)
stops_at (w ∷ ws) h = elim (or_cases (is_stop_ask w.ask) (stopped_said ws) h) [
  | inl a ↦ record { before = []; word = w; after = ws; split = refl; stops = a }
  | inr b ↦ (let r = stops_at ws b in record { before = w ∷ r.before; word = r.word; after = r.after; split = ap (λ z. w ∷ z) r.split; stops = r.stops })
]

pub stop_ends : (a : Ask) (r : Reply) → is_stop_ask a ≡ true → EndsImage a r
stop_ends (asks.Stop code) r h = tt
stop_ends a r h = absurd (cc)

empty_end : (xs ys : List (Said Ask Reply)) → xs ++ ys ≡ [] → ys ≡ []
empty_end [] ys e = e
empty_end (x ∷ xs) ys e = absurd (cc)

-- An image that stopped has said all that it ever says.
pub stopped_whole : (t g : List Entry) (j : ℕ) → NothingAfterEnd (said_by j t) → IsAhead t g → stopped_said (said_by j g) ≡ true → said_by j t ≡ said_by j g
stopped_whole t g j ends ahead h =
    let a = ahead j in
    let s = stops_at (said_by j g) h in
    let whole : said_by j t ≡ s.before ++ s.word ∷ (s.after ++ a.0) = a.1 ∙ ap (λ z. z ++ a.0) s.split ∙ append_assoc s.before (s.word ∷ s.after) a.0 in
    let none = empty_end s.after a.0 (ends s.before (s.after ++ a.0) s.word whole (stop_ends s.word.ask s.word.reply s.stops)) in
    a.1 ∙ ap (λ z. said_by j g ++ z) none ∙ append-nil (said_by j g)

-- Both phases together: what is known of the partners of entries tells the first race of the trace.
use Rattle.std.proofs.Common.{◌≡◌, ℕ, ◌+◌, ◌<◌, ◌⊎◌, true, List, ◌∷◌, length, get_or, take, inl, inr, refl, ap, sym, ◌∙◌, subst, arith, length-append}
use Rattle.std.proofs.lemmas.List.{length-take-le}
use Rattle.caf_events.specs.declared.event.Entry.{Entry}
use Rattle.order_theory.specs.Order.{Precedes, segment_of}
use Rattle.order_theory.specs.Races.{Cell, Class, signals, is_access, meets, Stands, place, segment, Race, NoRace}
use Rattle.order_theory.specs.Acts.{entries}
use Rattle.order_theory.specs.Facts.{AccessesCell, Pauses}
use Rattle.order_theory.specs.Marks.{mark_of}
use Rattle.order_theory.proofs.Paths.{linked_up}
use Rattle.order_theory.proofs.Sources.{sound}
use Rattle.order_theory.proofs.Laws.{ahead}
use Rattle.order_theory.proofs.Partners.{race_told, in_whole, in_whole_sooner, in_front}
use Rattle.order_theory.proofs.Seen.{seen_stands, stands_seen}
use Rattle.order_axioms.specs.Views.{view, edges}
use Rattle.order_axioms.specs.Touching.{class_of, touches}
use Rattle.order_axioms.specs.FirstRaces.{IsFirstRace}
use Rattle.race_watch.specs.Marked.{HasPartner, MayNote}
use Rattle.race_search.specs.Partners.{RacesWith, NoneBelow, IsPartner}
use Rattle.race_search.proofs.Scan.{stands_at, below_more}

-- an entry without an unordered mark at its cells is no race with an earlier one
pub no_partner : (n : ℕ) (g : List Entry) (e : Entry) → (HasPartner n g e → ⊥) → NoneBelow n g e (length g)
no_partner n g e h x l r =
    let m = r.meeting in
    h (m.cell, m.here, (mark_of (entries (view n)) touches x.before x.event, stands_seen Entry (entries (view n)) touches m.cell g x m.there, m.met, r.images, r.apart.not_before))

access_or : (k : Class) → (k ≡ signals) ⊎ (is_access k ≡ true)
access_or signals = inl refl
access_or k = inr refl

module _ (n : ℕ) (t : List Entry) where
  -- a race is told by the entries before the later one
  pub race_from : (y : Stands t) (x : Stands y.before) → RacesWith n x.before x.event y.before y.event → Race (edges n) touches t (in_whole Entry t y x) y
  race_from y x r =
      (race_told Entry (edges n) (sound Entry (view n)) touches t (in_whole Entry t y x) y (in_whole_sooner Entry t y x)).1 (
        record { images = r.images; cell = r.meeting.cell; shared = (r.meeting.there, r.meeting.here); met = r.meeting.met },
        r.apart.not_before,
        r.apart.not_after,
      )

  pub race_to : (x y : Stands t) → place x < place y → Race (edges n) touches t x y → (z : Stands y.before) × (place z ≡ place x) × RacesWith n z.before z.event y.before y.event
  race_to x y l r =
      let f = in_front Entry t x y l in
      let told = (race_told Entry (edges n) (sound Entry (view n)) touches t x y l).0 r in
      let here : RacesWith n x.before x.event y.before y.event = record {
        images = r.conflict.images;
        meeting = record { cell = r.conflict.cell; there = r.conflict.shared.0; here = r.conflict.shared.1; met = r.conflict.met };
        apart = record { not_before = told.1; not_after = told.2 };
      } in
      (f.0, ap length f.1, subst (λ z. RacesWith n z f.0.event y.before y.event) (sym f.1) (subst (λ z. RacesWith n x.before z y.before y.event) (sym f.2) here))

  -- an entry that is a race with none before it is one with none of the trace that stands before it
  pub no_race_more : (at : ℕ) (e : Entry) → at < length t → e ≡ get_or t at e → NoneBelow n (take at t) e (length (take at t)) → NoRace (edges n) touches t at → NoRace (edges n) touches t (at + 1)
  no_race_more at e l is none old x y short less r =
      let u = race_to x y short r in
      below_more (λ b z. (w : Stands b) → RacesWith n w.before w.event b z → ⊥) t at e l is
      (λ w q. none w (let z = ap length w.split ∙ length-append w.before (w.event ∷ w.rest) in omega arith) q)
      (λ z m w q. old (in_whole Entry t z w) z (in_whole_sooner Entry t z w) m (race_from z w q)) y less u.0 u.2

  pub first_race : (at : ℕ) (e : Entry) → at < length t → e ≡ get_or t at e → (q : ℕ) (c : Cell) → IsPartner n (take at t) e q c → NoRace (edges n) touches t at → IsFirstRace (edges n) touches t q at c
  first_race at e l is q c partner none =
      let y : Stands t = stands_at t at e l is in
      let size = length-take-le at t (omega arith) in
      let x = partner.at in
      let short = in_whole_sooner Entry t y x in
      record {
        first = in_whole Entry t y x;
        second = y;
        first_place = partner.place_is;
        second_place = size;
        in_order = (let p = partner.place_is in omega arith);
        race = race_from y x partner.races;
        earliest_second = none;
        earliest_first = λ z less r. (let p = partner.place_is in let u = race_to z y (omega arith) r in partner.first u.0 (let m = u.1 in omega arith) u.2);
        shared = (partner.shared.there, partner.shared.here);
        least_shared = λ d s. partner.shared.least_is d s.0 s.1;
      }

  -- what precedes in a front precedes in the whole
  precedes_up : (y : Stands t) (x : Stands y.before) → Precedes (edges n) y.before (segment (edges n) touches t y) (segment (edges n) touches t (in_whole Entry t y x)) → Precedes (edges n) t (segment (edges n) touches t y) (segment (edges n) touches t (in_whole Entry t y x))
  precedes_up y x (ms, b) = subst (λ z. Precedes (edges n) z (segment (edges n) touches t y) (segment (edges n) touches t (in_whole Entry t y x))) (sym y.split) (ms, linked_up Entry (edges n) y.before (y.event ∷ y.rest) _ _ ms b)

  -- an entry that is a race with none before it may be noted
  pub may_note : Pauses (view n) (AccessesCell touches) t → (y : Stands t) → NoneBelow n y.before y.event (length y.before) → MayNote n y.before y.event
  may_note p y none = elim (access_or (class_of y.event)) [
    | inl s ↦ inr s
    | inr a ↦ inl (λ has.
        let c = has.0 in
        let w = has.1 in
        let u = has.2 in
        let k = seen_stands Entry (entries (view n)) touches c y.before u.0 u.1 in
        let x = k.at in
        let f = ahead Entry (view n) touches (AccessesCell touches) t p y (c, w, a) in
        none x (let z = ap length x.split ∙ length-append x.before (x.event ∷ x.rest) in omega arith) (record {
          images = λ s. u.3 (ap (λ z. z.segment.image) k.is ∙ s);
          meeting = record { cell = c; there = k.touches; here = w; met = subst (λ z. meets z.class (class_of y.event) ≡ true) k.is u.2 };
          apart = record {
            not_before = λ b. u.4 (subst (λ z. Precedes (edges n) y.before z.segment (segment_of (entries (view n)) y.before y.event)) (sym k.is) b);
            not_after = λ b. f (in_whole Entry t y x) (in_whole_sooner Entry t y x) (precedes_up y x b);
          };
        }))
  ]

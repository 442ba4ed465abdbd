-- Races are told by the entries up to the later one, and a mark that is unordered with an entry is a partner of a race.
use Rattle.std.proofs.Common.{◌≡◌, ◌<◌, ◌↔◌, true, List, ◌∷◌, ◌++◌, length, refl, ap, sym, ◌∙◌, subst, arith, append_assoc, length-append}
use Rattle.order_theory.specs.Order.{Segment, EdgeRules, done, Begun, Precedes, Sound}
use Rattle.order_theory.specs.Races.{Cell, Touching, meets, Stands, place, segment, Touches, Conflict, Race, Ahead}
use Rattle.order_theory.specs.Marks.{Unordered, mark_of, seen}
use Rattle.order_theory.proofs.Splits.{fronts_at, done_append}
use Rattle.order_theory.proofs.Paths.{prefixes}
use Rattle.order_theory.proofs.Seen.{seen_stands, stands_seen}

module _ (E : Type 0) (t : List E) where
  -- an entry of the front before y, in the whole
  abbrev pub in_whole : (y : Stands t) → Stands y.before → Stands t
  in_whole y x = record { before = x.before; event = x.event; rest = x.rest ++ y.event ∷ y.rest; split = y.split ∙ ap (λ z. z ++ y.event ∷ y.rest) x.split ∙ append_assoc x.before (x.event ∷ x.rest) (y.event ∷ y.rest) }

  -- it stands before y
  pub in_whole_sooner : (y : Stands t) (x : Stands y.before) → place (in_whole y x) < place y
  in_whole_sooner y x = let e = ap length x.split ∙ length-append x.before (x.event ∷ x.rest) in omega arith

  -- an entry that stands before y, in the front
  pub in_front : (x y : Stands t) → place x < place y → (z : Stands y.before) × (z.before ≡ x.before) × (z.event ≡ x.event)
  in_front x y short =
      let f = fronts_at E x.before x.rest y.before (y.event ∷ y.rest) x.event (sym x.split ∙ y.split) short in
      (record { before = x.before; event = x.event; rest = f.0; split = f.1 }, refl, refl)

module _ (E : Type 0) (r : EdgeRules E) (sound : Sound r) (a : Touching E) (t : List E) where
  -- the front before y tells what precedes a segment that has begun in it
  told : (y : Stands t) (b c : Segment) → Begun r.entries y.before c → Precedes r t b c ↔ Precedes r y.before b c
  told y b c h = subst (λ z. Precedes r z b c ↔ Precedes r y.before b c) (sym y.split) (prefixes E r sound y.before (y.event ∷ y.rest) b c h)

  -- y's segment has begun before y
  here_begun : (y : Stands t) → Begun r.entries y.before (segment r a t y)
  here_begun y = omega arith

  -- and so has that of an earlier entry
  sooner_begun : (x y : Stands t) → place x < place y → Begun r.entries y.before (segment r a t x)
  sooner_begun x y short =
      let f = fronts_at E x.before x.rest y.before (y.event ∷ y.rest) x.event (sym x.split ∙ y.split) short in
      let e = ap (done r.entries (r.entries.image_of x.event)) f.1 ∙ done_append E r.entries (r.entries.image_of x.event) x.before (x.event ∷ f.0) in
      omega arith

  -- A race is told by the entries before the later one of the two.
  pub race_told : (x y : Stands t) → place x < place y
      → Race r a t x y ↔ (Conflict r a t x y × (Precedes r y.before (segment r a t x) (segment r a t y) → ⊥) × (Precedes r y.before (segment r a t y) (segment r a t x) → ⊥))
  race_told x y short =
      let there = told y (segment r a t x) (segment r a t y) (here_begun y) in
      let back = told y (segment r a t y) (segment r a t x) (sooner_begun x y short) in (
        λ h. (h.conflict, (λ b. h.not_before (there.1 b)), (λ b. h.not_after (back.1 b))),
        λ h. record { conflict = h.0; not_before = λ b. h.1 (there.0 b); not_after = λ b. h.2 (back.0 b) },
      )

  -- An entry that no earlier one is ahead of has a partner exactly where one of its cells has an unordered mark.
  module _ (y : Stands t) (ahead : Ahead r a t y) where
    -- an unordered mark has a partner
    partner : (c : Cell) → Touches r a t y c → Unordered r y.before (seen r.entries a c y.before) (mark_of r.entries a y.before y.event) → (x : Stands t) × (place x < place y) × Race r a t x y
    partner c w (m, was, met, other, un) =
        let k = seen_stands E r.entries a c y.before m was in
        let x = in_whole E t y k.at in
        let short = in_whole_sooner E t y k.at in (
          x,
          short,
          record {
            conflict = record {
              images = λ s. other (ap (λ z. z.segment.image) k.is ∙ s);
              cell = c;
              shared = (k.touches, w);
              met = subst (λ z. meets z.class (a.class_of y.event) ≡ true) k.is met;
            };
            not_before = λ b. un (subst (λ z. Precedes r y.before z.segment (segment r a t y)) (sym k.is) ((told y (segment r a t x) (segment r a t y) (here_begun y)).0 b));
            not_after = λ b. ahead x short b;
          },
        )

    -- and a partner has an unordered mark
    unordered : (x : Stands t) → place x < place y → Race r a t x y → (c : Cell) × Touches r a t y c × Unordered r y.before (seen r.entries a c y.before) (mark_of r.entries a y.before y.event)
    unordered x short race =
        let f = fronts_at E x.before x.rest y.before (y.event ∷ y.rest) x.event (sym x.split ∙ y.split) short in
        let x' : Stands y.before = record { before = x.before; event = x.event; rest = f.0; split = f.1 } in
        let c = race.conflict.cell in (
          c,
          race.conflict.shared.1,
          (
            mark_of r.entries a x.before x.event,
            stands_seen E r.entries a c y.before x' race.conflict.shared.0,
            race.conflict.met,
            race.conflict.images,
            λ b. race.not_before ((told y (segment r a t x) (segment r a t y) (here_begun y)).1 b),
          ),
        )

    pub partner_where : ((x : Stands t) × (place x < place y) × Race r a t x y) ↔ ((c : Cell) × Touches r a t y c × Unordered r y.before (seen r.entries a c y.before) (mark_of r.entries a y.before y.event))
    partner_where = (λ h. unordered h.0 h.1 h.2, λ h. partner h.0 h.1 h.2)

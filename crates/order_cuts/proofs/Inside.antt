-- Which entries of t are in f: all that act in a segment that precedes one of f, and of those that conflict with the
-- next one exactly those before it in t.
use Rattle.std.proofs.Common.{◌≡◌, ◌<◌, ◌≤◌, ◌⊎◌, true, List, [], ◌∷◌, ◌++◌, length, map, inl, inr, ap, sym, ◌∙◌, subst, arith, append_assoc, length-append}
use Rattle.std.proofs.lemmas.Bool.{cases_lt}
use Rattle.std.proofs.lemmas.List.{length-map}
use Rattle.std.proofs.lemmas.List.Elements.{filter-append}
use Rattle.std.specs.Prelude.{nat_eq}
use Rattle.order_theory.specs.Order.{Segment, Within, done, segment_of, Begun, Edge, Linked, Precedes}
use Rattle.order_theory.specs.Races.{Touching, meets, Stands, place, Conflict, Race, NoRace}
use Rattle.order_theory.specs.Acts.{completing, pausing, View, entries, released, spoken, taken, others, edge_rules}
use Rattle.order_theory.specs.Facts.{Pauses, own_list}
use Rattle.order_theory.proofs.Splits.{fronts, same_fronts, no_later, done_append}
use Rattle.order_theory.proofs.Withins.{within_append}
use Rattle.order_theory.proofs.Flags.{taken_done}
use Rattle.order_theory.proofs.Sources.{added, adds_when, released_waits, sound}
use Rattle.order_theory.proofs.Clocks.{precedes_or_not}
use Rattle.order_theory.proofs.Laws.{acts_forward}
use Rattle.order_cuts.specs.Cuts.{Likeness, marks, Follows, own_place, IsInside, IsNext, IsSame, KeepsSources, NoneSpeaks}
use Rattle.order_cuts.proofs.OwnParts.{same_segment, same_act, known, placed, done_is, done_by, done_by_append, marks_at, inside_by_done}
use Rattle.order_cuts.proofs.Carried.{precedes_carries}

module _ (E S : Type 0) (v : View E) (k : Likeness v S) where
  -- an entry of the same image that doesn't stand later has no later place among that image's
  pub not_later : (t : List E) (x y : Stands t) → v.image x.event ≡ v.image y.event → place x ≤ place y → own_place v k x ≤ own_place v k y
  not_later t x y s l =
      let f = fronts E x.before (x.event ∷ x.rest) y.before (y.event ∷ y.rest) (sym x.split ∙ y.split) l in
      let e = ap length (ap (own_list v (v.image x.event)) f.1 ∙ filter-append (λ z. nat_eq (v.image z) (v.image x.event)) x.before f.0) in
      let m = length-append (own_list v (v.image x.event) x.before) (own_list v (v.image x.event) f.0) in
      let j = ap (λ i. length (own_list v i y.before)) s in
      omega arith

  -- an entry stands within the trace
  pub stands_short : {t : List E} → (y : Stands t) → place y < length t
  stands_short {t} y = let e = ap length y.split in let l = length-append y.before (y.event ∷ y.rest) in omega arith

  -- its segment has begun in the trace
  here_begun : {t : List E} → (y : Stands t) → Begun (entries v) t (segment_of (entries v) y.before y.event)
  here_begun {t} y =
      let e = ap (done (entries v) (v.image y.event)) y.split in
      let l = done_append E (entries v) (v.image y.event) y.before (y.event ∷ y.rest) in
      omega arith

  -- two entries at one place are of one image
  pub same_here : {t : List E} → (x y : Stands t) → place x ≡ place y → v.image x.event ≡ v.image y.event
  same_here {t} x y e =
      let f = same_fronts E x.before (x.event ∷ x.rest) y.before (y.event ∷ y.rest) (sym x.split ∙ y.split) e in
      let q = f.1 in
      let h : x.event ≡ y.event = cc in
      ap v.image h

  module _ (t f : List E) (fol : Follows v k t f) (acts : List E → E → Type 0) (quiet : Pauses v acts t) (silent : NoneSpeaks v k f) where
    -- x stands in t in the segment of an entry of f that completes it, or pauses in it: then x is inside
    by_ender : (x : Stands t) → acts x.before x.event → (y : Stands f) → segment_of (entries v) x.before x.event ≡ segment_of (entries v) y.before y.event
        → (completing (v.act y.event) ≡ true) ⊎ (pausing (v.act y.event) ≡ true) → IsInside v k f x
    by_ender x a y same kind =
        let z = known E S v k t f fol y in
        let seg : segment_of (entries v) z.0.before z.0.event ≡ segment_of (entries v) x.before x.event = same_segment E S v k t f fol z.0 y z.1 ∙ sym same in
        let act = same_act E S v k t f fol z.0 y z.1 in
        let l : place x ≤ place z.0 = elim kind [
          | inl c ↦ no_later E (entries v) t z.0.before z.0.rest x.before x.rest z.0.event x.event z.0.split x.split (ap completing act ∙ c) seg
          | inr p ↦ quiet.pauses z.0.before z.0.rest x.before x.rest z.0.event x.event z.0.split x.split (ap pausing act ∙ p) a seg
        ] in
        let i : v.image x.event ≡ v.image z.0.event = ap (λ s. s.image) (sym seg) in
        let m = not_later t x z.0 i l in
        let p = placed E S v k f y in
        let own = z.1.own in
        let j = ap (λ n. length (own_list v n f)) (i ∙ z.1.image) in
        omega arith

    -- its segment was completed in a front of f
    by_taken : (x : Stands t) (b h : List E) → f ≡ b ++ h → done (entries v) (v.image x.event) x.before < done (entries v) (v.image x.event) b → IsInside v k f x
    by_taken x b h s l =
        let e = ap (done (entries v) (v.image x.event)) s in
        let d = done_append E (entries v) (v.image x.event) b h in
        inside_by_done E S v k t f fol x (omega arith)

    -- its segment is the source of an edge of f
    by_edge : (x : Stands t) → acts x.before x.event → (b : Segment) → Edge (edge_rules v) f (segment_of (entries v) x.before x.event) b → IsInside v k f x
    by_edge x a b e =
        let here : Stands f = record { before = e.before; event = e.event; rest = e.rest; split = e.split } in
        elim e.source [
          | inl same ↦ by_ender x a here same (inl e.completing)
          | inr w ↦ elim (within_append Segment _ (released v e.before (v.image e.event) (v.act e.event)) (others v e.before e.event) w) [
            | inl r ↦ (
                let z = released_waits E v e.before (v.image e.event) (v.act e.event) _ r in
                let d = added E v z.0 e.before _ z.1 in
                let y : Stands f = record {
                  before = d.before;
                  event = d.event;
                  rest = d.rest ++ e.event ∷ e.rest;
                  split = e.split ∙ ap (λ q. q ++ e.event ∷ e.rest) d.split ∙ append_assoc d.before (d.event ∷ d.rest) (e.event ∷ e.rest);
                } in
                by_ender x a y d.at (adds_when z.0 (v.image d.event) (v.act d.event) d.adding))
            | inr o ↦ elim (within_append Segment _ (spoken v e.before e.event) (taken v (v.image e.event) e.before) o) [
              | inl s ↦ (
                  let none = silent here in
                  absurd (subst (λ js. Within (segment_of (entries v) x.before x.event) (map (λ i. record { image = i; number = done (entries v) i e.before }) js)) none s))
              | inr h ↦ by_taken x e.before (e.event ∷ e.rest) e.split (taken_done E v (v.image e.event) e.before _ h)
            ]
          ]
        ]

    by_path : (x : Stands t) → acts x.before x.event → (b : Segment) (ms : List Segment) → Linked (Edge (edge_rules v) f) (segment_of (entries v) x.before x.event) ms b → IsInside v k f x
    by_path x a b [] e = by_edge x a b e
    by_path x a b (m ∷ ms) p = by_edge x a m p.0

    -- An entry that acts in a segment that precedes another one in f is in f.
    pub closes : (x : Stands t) → acts x.before x.event → (b : Segment) → Precedes (edge_rules v) f (segment_of (entries v) x.before x.event) b → IsInside v k f x
    closes x a b p = by_path x a b p.0 p.1

    -- a segment of t up to which f has come has begun in f
    pub begun_at : (x : Stands t) → own_place v k x ≤ length (own_list v (v.image x.event) f) → Begun (entries v) f (segment_of (entries v) x.before x.event)
    begun_at x l =
        let i = v.image x.event in
        let a = length-map (own_list v i x.before) k.mark in
        let b = length-map (own_list v i f) k.mark in
        let p = fronts S (marks v k i x.before) (k.mark x.event ∷ marks v k i x.rest) (marks v k i f) (fol.left i) (sym (marks_at E S v k t x) ∙ fol.splits i) (omega arith) in
        let d = done_is E S v k i f ∙ ap (done_by E S v k) p.1 ∙ done_by_append E S v k (marks v k i x.before) p.0 in
        let e = done_is E S v k i x.before in
        omega arith

    module _ (keeps : KeepsSources v k t f) (touching : Touching E) (clean : NoRace (edge_rules v) touching t (length t)) where
      -- two entries of t that conflict are ordered
      ordered : (x y : Stands t) → Conflict (edge_rules v) touching t x y → place x < place y
          → Precedes (edge_rules v) t (segment_of (entries v) x.before x.event) (segment_of (entries v) y.before y.event)
          ⊎ Precedes (edge_rules v) t (segment_of (entries v) y.before y.event) (segment_of (entries v) x.before x.event)
      ordered x y c l = elim (precedes_or_not E (edge_rules v) (sound E v) t (segment_of (entries v) x.before x.event) (segment_of (entries v) y.before y.event) (here_begun y)) [
        | inl p ↦ inl p
        | inr n ↦ elim (precedes_or_not E (edge_rules v) (sound E v) t (segment_of (entries v) y.before y.event) (segment_of (entries v) x.before x.event) (here_begun x)) [
          | inl q ↦ inr q
          | inr m ↦ absurd (clean x y l (stands_short y) (record { conflict = c; not_before = n; not_after = m }))
        ]
      ]

      -- and the earlier one is ordered first
      pub first_is_before : (x y : Stands t) → acts y.before y.event → Conflict (edge_rules v) touching t x y → place x < place y
          → Precedes (edge_rules v) t (segment_of (entries v) x.before x.event) (segment_of (entries v) y.before y.event)
      first_is_before x y ay c l = elim (ordered x y c l) [
        | inl p ↦ p
        | inr q ↦ (let m = acts_forward E v acts t quiet y.before y.rest x.before x.rest y.event x.event y.split x.split ay q in absurd (omega arith))
      ]

      -- Of the entries that conflict with the one that an image makes next behind f, f has exactly those that stand
      -- before it in t.
      pub inside_if_before : (w a : Stands t) → acts w.before w.event → acts a.before a.event → Conflict (edge_rules v) touching t w a → IsNext v k f a → place w < place a → IsInside v k f w
      inside_if_before w a aw aa c n l =
          closes w aw (segment_of (entries v) a.before a.event)
          (precedes_carries E S v k t f fol keeps _ _ (begun_at a (omega arith)) (first_is_before w a aa c l))

      pub before_if_inside : (w a : Stands t) → acts w.before w.event → acts a.before a.event → Conflict (edge_rules v) touching t a w → IsNext v k f a → IsInside v k f w → place w < place a
      before_if_inside w a aw aa c n inside =
          elim (cases_lt (place w) (place a)) [
            | inl l ↦ l
            | inr l ↦ elim (cases_lt (place a) (place w)) [
              | inl m ↦ (
                  let h = closes a aa (segment_of (entries v) w.before w.event) (precedes_carries E S v k t f fol keeps _ _ (begun_at w (omega arith)) (first_is_before a w aw c m)) in
                  absurd (omega arith))
              | inr m ↦ absurd (c.images (same_here a w (omega arith)))
            ]
          ]

      -- Two entries that conflict and are in f stand there in the order in which they stand in t.
      pub in_order : Pauses v acts f → (x y : Stands t) (x' y' : Stands f) → IsSame v k x x' → IsSame v k y y' → acts x'.before x'.event → acts y.before y.event
          → Conflict (edge_rules v) touching t x y → place x < place y → place x' < place y'
      in_order still x y x' y' sx sy ax ay c l =
          let own = sy.own in
          let p' = placed E S v k f y' in
          let j = ap (λ i. length (own_list v i f)) sy.image in
          let p = precedes_carries E S v k t f fol keeps _ _ (begun_at y (omega arith)) (first_is_before x y ay c l) in
          let p'' = subst (λ z. Precedes (edge_rules v) f z (segment_of (entries v) y'.before y'.event)) (same_segment E S v k t f fol x x' sx)
          (subst (λ z. Precedes (edge_rules v) f (segment_of (entries v) x.before x.event) z) (same_segment E S v k t f fol y y' sy) p) in
          acts_forward E v acts f still x'.before x'.rest y'.before y'.rest x'.event y'.event x'.split y'.split ax p''

      -- What races in f races in t: f has no race.
      pub race_back : ((x : Stands t) (y : Stands f) → IsSame v k x y → (touching.class_of x.event ≡ touching.class_of y.event) × (touching.cells x.before x.event ≡ touching.cells y.before y.event))
          → (x y : Stands t) (x' y' : Stands f) → IsSame v k x x' → IsSame v k y y' → Race (edge_rules v) touching f x' y' → Race (edge_rules v) touching t x y
      race_back alike x y x' y' sx sy r =
          let ex = alike x x' sx in
          let ey = alike y y' sy in
          let gx = same_segment E S v k t f fol x x' sx in
          let gy = same_segment E S v k t f fol y y' sy in
          let inx = placed E S v k f x' in
          let iny = placed E S v k f y' in
          let ox = sx.own in
          let oy = sy.own in
          let jx = ap (λ i. length (own_list v i f)) sx.image in
          let jy = ap (λ i. length (own_list v i f)) sy.image in
          record {
            conflict = record {
              images = λ e. r.conflict.images (sym sx.image ∙ e ∙ sy.image);
              cell = r.conflict.cell;
              shared = (subst (λ cs. Within r.conflict.cell cs) (sym ex.1) r.conflict.shared.0, subst (λ cs. Within r.conflict.cell cs) (sym ey.1) r.conflict.shared.1);
              met = ap (λ q. meets q (touching.class_of y.event)) ex.0 ∙ ap (meets (touching.class_of x'.event)) ey.0 ∙ r.conflict.met;
            };
            not_before = λ p. r.not_before (subst (λ z. Precedes (edge_rules v) f z (segment_of (entries v) y'.before y'.event)) gx
                (subst (λ z. Precedes (edge_rules v) f (segment_of (entries v) x.before x.event) z) gy (precedes_carries E S v k t f fol keeps _ _ (begun_at y (omega arith)) p)));
            not_after = λ p. r.not_after (subst (λ z. Precedes (edge_rules v) f z (segment_of (entries v) x'.before x'.event)) gy
                (subst (λ z. Precedes (edge_rules v) f (segment_of (entries v) y.before y.event) z) gx (precedes_carries E S v k t f fol keeps _ _ (begun_at x (omega arith)) p)));
          }

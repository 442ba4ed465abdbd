-- What precedes a segment that f has begun precedes it in f too.
use Rattle.std.proofs.Common.{suc, ◌≤◌, List, [], ◌∷◌, ap, sym, ◌∙◌, subst, arith}
use Rattle.order_theory.specs.Order.{Segment, done, Begun, Edge, Linked, Precedes}
use Rattle.order_theory.specs.Races.{Stands}
use Rattle.order_theory.specs.Acts.{View, entries, completing, edge_rules}
use Rattle.order_theory.proofs.Splits.{begun_more}
use Rattle.order_theory.proofs.Sources.{sound}
use Rattle.order_cuts.specs.Cuts.{Likeness, Follows, KeepsSources}
use Rattle.order_cuts.proofs.OwnParts.{same_act, same_done, there, inside_by_done}

module _ (E S : Type 0) (v : View E) (k : Likeness v S) (t f : List E) (fol : Follows v k t f) (keeps : KeepsSources v k t f) where
  -- an edge to a segment that f has begun is one of f
  edge_carries : (a b : Segment) → Edge (edge_rules v) t a b → Begun (entries v) f b → Edge (edge_rules v) f a b
  edge_carries a b e begun =
      let x : Stands t = record { before = e.before; event = e.event; rest = e.rest; split = e.split } in
      let l : suc (done (entries v) (v.image e.event) e.before) ≤ done (entries v) (v.image e.event) f = subst (λ z. z.number ≤ done (entries v) z.image f) e.begins begun in
      let y = there E S v k t f fol x (inside_by_done E S v k t f fol x (omega arith)) in
      record {
        before = y.0.before;
        event = y.0.event;
        rest = y.0.rest;
        split = y.0.split;
        completing = sym (ap completing (same_act E S v k t f fol x y.0 y.1)) ∙ e.completing;
        source = keeps x y.0 a y.1 e.completing e.source;
        begins = e.begins ∙ ap (λ j. record { image = j; number = suc (done (entries v) (v.image e.event) e.before) }) y.1.image
            ∙ ap (λ n. record { image = v.image y.0.event; number = suc n }) (same_done E S v k t f fol x y.0 y.1);
      }

  edge_begun : (a b : Segment) → Edge (edge_rules v) f a b → Begun (entries v) f a
  edge_begun a b d = subst (λ z. Begun (entries v) z a) (sym d.split) (begun_more E (entries v) d.before (d.event ∷ d.rest) a ((sound E v).known d.before d.event a d.source))

  linked_carries : (a b : Segment) (ms : List Segment) → Begun (entries v) f b → Linked (Edge (edge_rules v) t) a ms b → Begun (entries v) f a × Linked (Edge (edge_rules v) f) a ms b
  linked_carries a b [] h e = let d = edge_carries a b e h in (edge_begun a b d, d)
  linked_carries a b (m ∷ ms) h (e, p) =
      let q = linked_carries m b ms h p in
      let d = edge_carries a m e q.0 in
      (edge_begun a m d, (d, q.1))

  -- What precedes in t a segment that f has begun precedes it in f.
  pub precedes_carries : (a b : Segment) → Begun (entries v) f b → Precedes (edge_rules v) t a b → Precedes (edge_rules v) f a b
  precedes_carries a b h p = (p.0, (linked_carries a b p.0 h p.1).1)

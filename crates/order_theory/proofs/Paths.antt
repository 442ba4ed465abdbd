-- Paths of edges: where they begin and end, the law on prefixes, and the law forward.
use Rattle.std.proofs.Common.{◌≡◌, suc, ◌<◌, ◌≤◌, ◌↔◌, true, List, [], ◌∷◌, ◌++◌, length, ◌⊎◌, inl, inr, refl, ap, sym, ◌∙◌, subst, arith, append_assoc}
use Rattle.order_theory.specs.Order.{Segment, EdgeRules, done, segment_of, Begun, Edge, Linked, Precedes, Sound, Within}
use Rattle.order_theory.proofs.Splits.{fronts_at, done_front, longer, done_at, begun_more}

-- no entry of t that acts stands after an entry that its segment is a source of
abbrev pub QuietAt : {E : Type 0} → EdgeRules E → (List E → E → Type 0) → List E → Type 0
QuietAt {E} r acts t =
    (g h g' h' : List E) (x f : E) → t ≡ g ++ x ∷ h → r.entries.completes x ≡ true → t ≡ g' ++ f ∷ h' → acts g' f
    → Within (segment_of r.entries g' f) (r.sources g x) → length g' ≤ length g

module _ (E : Type 0) (r : EdgeRules E) where
  -- the number of the segment that an edge leads to
  pub edge_number : (t : List E) (a b : Segment) (e : Edge r t a b) → b.number ≡ suc (done r.entries b.image e.before)
  edge_number t a b e = subst (λ z. z.number ≡ suc (done r.entries z.image e.before)) (sym e.begins) refl

  -- right after the entry of an edge that segment has begun
  pub edge_completes : (t : List E) (a b : Segment) (e : Edge r t a b) → done r.entries b.image (e.before ++ e.event ∷ []) ≡ b.number
  edge_completes t a b e = subst (λ z. done r.entries z.image (e.before ++ e.event ∷ []) ≡ z.number) (sym e.begins) (done_at E r.entries e.before e.event e.completing)

  -- An edge of a longer trace whose target has begun in the front is one of the front, and the other way round.
  edge_up : (t u : List E) (a b : Segment) → Edge r t a b → Edge r (t ++ u) a b
  edge_up t u a b e = record {
    before = e.before;
    event = e.event;
    rest = e.rest ++ u;
    split = ap (λ z. z ++ u) e.split ∙ append_assoc e.before (e.event ∷ e.rest) u;
    completing = e.completing;
    source = e.source;
    begins = e.begins;
  }

  edge_down : (t u : List E) (a b : Segment) → Edge r (t ++ u) a b → Begun r.entries t b → Edge r t a b
  edge_down t u a b e h =
      let n = edge_number (t ++ u) a b e in
      let l = longer E r.entries b.image e.before (e.event ∷ e.rest) t u (sym e.split) (omega arith) in
      let f = fronts_at E e.before e.rest t u e.event (sym e.split) l in
      record { before = e.before; event = e.event; rest = f.0; split = f.1; completing = e.completing; source = e.source; begins = e.begins }

  -- a path of the front is one of the longer trace
  pub linked_up : (t u : List E) (a b : Segment) (ms : List Segment) → Linked (Edge r t) a ms b → Linked (Edge r (t ++ u)) a ms b
  linked_up t u a b [] e = edge_up t u a b e
  linked_up t u a b (m ∷ ms) (e, p) = (edge_up t u a m e, linked_up t u m b ms p)

  module _ (sound : Sound r) where
    -- The last edge of a path: all the path has begun there.
    pub record LastEdge (t : List E) (a b : Segment) : Type 0 where
      pub edge_from : Segment
      pub last : Edge r t edge_from b
      pub begun : Begun r.entries last.before a
      pub either : (a ≡ edge_from) ⊎ Precedes r t a edge_from

    -- the source of an edge has begun before its entry
    edge_begun : (t : List E) (a b : Segment) (e : Edge r t a b) → Begun r.entries e.before a
    edge_begun t a b e = sound.known e.before e.event a e.source

    -- an edge to a segment that has begun stands before another edge
    next_later : (t : List E) (a b c d : Segment) (e : Edge r t a b) (f : Edge r t c d) → Begun r.entries f.before b → length e.before < length f.before
    next_later t a b c d e f h =
        let n = edge_number t a b e in
        longer E r.entries b.image e.before (e.event ∷ e.rest) f.before (f.event ∷ f.rest) (sym e.split ∙ f.split) (omega arith)

    -- what has begun by one edge has begun by a later one
    begun_later : (t : List E) (a b c d x : Segment) (e : Edge r t a b) (f : Edge r t c d) → length e.before ≤ length f.before → Begun r.entries e.before x → Begun r.entries f.before x
    begun_later t a b c d x e f h k =
        let j = done_front E r.entries x.image e.before (e.event ∷ e.rest) f.before (f.event ∷ f.rest) (sym e.split ∙ f.split) h in
        omega arith

    -- one more edge at the front of a path
    one_more : (t : List E) (a m b : Segment) → Edge r t a m → (a' : Segment) → (m ≡ a') ⊎ Precedes r t m a' → Precedes r t a a'
    one_more t a m b e a' (inl q) = ([], subst (λ z. Edge r t a z) q e)
    one_more t a m b e a' (inr q) = (m ∷ q.0, (e, q.1))

    -- each path has a last edge
    pub last_edge : (t : List E) (a b : Segment) (ms : List Segment) → Linked (Edge r t) a ms b → LastEdge t a b
    last_edge t a b [] e = record { edge_from = a; last = e; begun = edge_begun t a b e; either = inl refl }
    last_edge t a b (m ∷ ms) (e, p) =
        let l = last_edge t m b ms p in
        let s = next_later t a m l.edge_from b e l.last l.begun in
        record {
          edge_from = l.edge_from;
          last = l.last;
          begun = begun_later t a m l.edge_from b a e l.last (omega arith) (edge_begun t a m e);
          either = inr (one_more t a m b e l.edge_from l.either);
        }

    -- The law on prefixes: what precedes a segment that has begun by t is told by t.
    pub linked_down : (t u : List E) (a b : Segment) (ms : List Segment) → Begun r.entries t b → Linked (Edge r (t ++ u)) a ms b → Begun r.entries t a × Linked (Edge r t) a ms b
    linked_down t u a b [] h e =
        let d = edge_down t u a b e h in
        (subst (λ z. Begun r.entries z a) (sym d.split) (begun_more E r.entries d.before (d.event ∷ d.rest) a (edge_begun t a b d)), d)
    linked_down t u a b (m ∷ ms) h (e, p) =
        let q = linked_down t u m b ms h p in
        let d = edge_down t u a m e q.0 in
        (subst (λ z. Begun r.entries z a) (sym d.split) (begun_more E r.entries d.before (d.event ∷ d.rest) a (edge_begun t a m d)), (d, q.1))

    pub prefixes : (t u : List E) (a b : Segment) → Begun r.entries t b → Precedes r (t ++ u) a b ↔ Precedes r t a b
    prefixes t u a b h = (λ p. (p.0, (linked_down t u a b p.0 h p.1).1), λ p. (p.0, linked_up t u a b p.0 p.1))

    -- no segment precedes itself, nor an earlier one of its image
    pub numbers_rise : (t : List E) (a b : Segment) → Precedes r t a b → a.image ≡ b.image → a.number < b.number
    numbers_rise t a b p same =
        let l = last_edge t a b p.0 p.1 in
        let n = edge_number t l.edge_from b l.last in
        let h = subst (λ i. a.number ≤ done r.entries i l.last.before) same l.begun in
        omega arith

    -- The law forward, for the entries that act, where none of a source's segment stands after the edge's entry.
    module _ (acts : List E → E → Type 0) (t : List E) (quiet : QuietAt r acts t) where
      -- the entry of an edge to a segment that has begun stands in the front
      after_edge : (a b : Segment) (e : Edge r t a b) (g' h' : List E) → t ≡ g' ++ h' → Begun r.entries g' b → length e.before < length g'
      after_edge a b e g' h' s h =
          let n = edge_number t a b e in
          longer E r.entries b.image e.before (e.event ∷ e.rest) g' h' (sym e.split ∙ s) (omega arith)

      -- an entry that acts stands before each place where a segment that its own precedes has begun
      pub forward_to : (g h g' h' : List E) (e : E) (b : Segment) (ms : List Segment) → t ≡ g ++ e ∷ h → acts g e → t ≡ g' ++ h' → Begun r.entries g' b → Linked (Edge r t) (segment_of r.entries g e) ms b → length g < length g'
      forward_to g h g' h' e b [] s act s' begun d =
          let k = quiet d.before d.rest g h d.event e d.split d.completing s act d.source in
          let j = after_edge (segment_of r.entries g e) b d g' h' s' begun in
          omega arith
      forward_to g h g' h' e b (m ∷ ms) s act s' begun (d, p) =
          let k = quiet d.before d.rest g h d.event e d.split d.completing s act d.source in
          let w = linked_down g' h' m b ms begun (subst (λ z. Linked (Edge r z) m ms b) s' p) in
          let j = after_edge (segment_of r.entries g e) m d g' h' s' w.0 in
          omega arith

      -- and before each entry of such a segment
      pub forward : (g h g' h' : List E) (e f : E) → t ≡ g ++ e ∷ h → t ≡ g' ++ f ∷ h' → acts g e → Precedes r t (segment_of r.entries g e) (segment_of r.entries g' f) → length g < length g'
      forward g h g' h' e f s s' act p = forward_to g h g' (f ∷ h') e (segment_of r.entries g' f) p.0 s act s' (omega arith) p.1

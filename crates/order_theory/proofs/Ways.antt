-- Which segment precedes which: paths put together, edges into a segment, and an image's own segments.
use Rattle.std.proofs.Common.{◌≡◌, ℕ, zero, suc, ◌+◌, ◌<◌, ◌≤◌, ◌-◌, true, List, [], ◌∷◌, ◌++◌, length, inl, inr, ap, sym, ◌∙◌, subst, arith, append_assoc, length-append}
use Rattle.std.proofs.lemmas.Bool.{cases_lt}
use Rattle.order_theory.specs.Order.{Segment, EdgeRules, Within, done, segment_of, segment_after, Begun, Edge, Linked, Precedes, Sound, Reaches}
use Rattle.order_theory.proofs.Splits.{same_fronts, longer, done_at, completing_event}
use Rattle.order_theory.proofs.Paths.{edge_number, edge_completes, prefixes, linked_up}

module _ (E : Type 0) (r : EdgeRules E) (sound : Sound r) where
  -- one more edge at the end of a path
  linked_last : (t : List E) (a b c : Segment) (ms : List Segment) → Linked (Edge r t) a ms b → Edge r t b c → Linked (Edge r t) a (ms ++ b ∷ []) c
  linked_last t a b c [] e f = (e, f)
  linked_last t a b c (m ∷ ms) (e, p) f = (e, linked_last t m b c ms p f)

  pub precedes_last : (t : List E) (a b c : Segment) → Reaches r t a b → Edge r t b c → Precedes r t a c
  precedes_last t a b c (inl e) f = ([], subst (λ z. Edge r t z c) (sym e) f)
  precedes_last t a b c (inr (ms, p)) f = (ms ++ b ∷ [], linked_last t a b c ms p f)

  -- two paths are one
  linked_join : (t : List E) (a b c : Segment) (ms ns : List Segment) → Linked (Edge r t) a ms b → Linked (Edge r t) b ns c → Linked (Edge r t) a (ms ++ b ∷ ns) c
  linked_join t a b c [] ns e q = (e, q)
  linked_join t a b c (m ∷ ms) ns (e, p) q = (e, linked_join t m b c ms ns p q)

  pub precedes_joins : (t : List E) (a b c : Segment) → Precedes r t a b → Precedes r t b c → Precedes r t a c
  precedes_joins t a b c (ms, p) (ns, q) = (ms ++ b ∷ ns, linked_join t a b c ms ns p q)

  -- what reaches a segment in a front reaches it in the longer trace
  pub reaches_up : (t u : List E) (a b : Segment) → Reaches r t a b → Reaches r (t ++ u) a b
  reaches_up t u a b (inl e) = inl e
  reaches_up t u a b (inr (ms, p)) = inr (ms, linked_up E r t u a b ms p)

  -- and the other way round, where the segment has begun in the front
  pub reaches_down : (t u : List E) (a b : Segment) → Begun r.entries t b → Reaches r (t ++ u) a b → Reaches r t a b
  reaches_down t u a b h (inl e) = inl e
  reaches_down t u a b h (inr p) = inr ((prefixes E r sound t u a b h).0 p)

  -- The edges into the segment after x are from x's sources.
  pub edges_in : (t g h : List E) (x : E) (a : Segment) → t ≡ g ++ x ∷ h → r.entries.completes x ≡ true → Edge r t a (segment_after r.entries g x) → Within a (r.sources g x)
  edges_in t g h x a s comp e =
      let n = edge_number E r t a (segment_after r.entries g x) e in
      let m = edge_completes E r t a (segment_after r.entries g x) e in
      let k = done_at E r.entries g x comp in
      let short : length g < length (e.before ++ e.event ∷ []) =
      longer E r.entries (r.entries.image_of x) g (x ∷ h) (e.before ++ e.event ∷ []) e.rest (sym s ∙ e.split ∙ sym (append_assoc e.before (e.event ∷ []) e.rest)) (omega arith) in
      let long : length e.before < length (g ++ x ∷ []) =
      longer E r.entries (r.entries.image_of x) e.before (e.event ∷ e.rest) (g ++ x ∷ []) h (sym e.split ∙ s ∙ sym (append_assoc g (x ∷ []) h)) (omega arith) in
      let f = same_fronts E g (x ∷ h) e.before (e.event ∷ e.rest) (sym s ∙ e.split) (omega (arith, length-append g (x ∷ []), length-append e.before (e.event ∷ []))) in
      let heads : x ≡ e.event = let q = f.1 in cc in
      subst (λ y. Within a (r.sources g y)) (sym heads) (subst (λ y. Within a (r.sources y e.event)) (sym f.0) e.source)

  -- an edge from each completed segment to the next of its image
  next_edge : (t : List E) (j n : ℕ) → n < done r.entries j t → Edge r t (record { image = j; number = n }) (record { image = j; number = suc n })
  next_edge t j n l =
      let f = completing_event E r.entries j n t l in
      let same : segment_of r.entries f.before f.event ≡ record { image = j; number = n } =
      ap (λ i. record { image = i; number = done r.entries i f.before }) f.of_image ∙ ap (λ k. record { image = j; number = k }) f.count in
      record {
        before = f.before;
        event = f.event;
        rest = f.rest;
        split = f.split;
        completing = f.completes;
        source = subst (λ z. Within z (r.sources f.before f.event)) same (sound.own f.before f.event);
        begins = sym (ap (λ i. record { image = i; number = suc (done r.entries i f.before) }) f.of_image ∙ ap (λ k. record { image = j; number = suc k }) f.count);
      }

  -- and so a path from it to each later one that has begun
  chain : (t : List E) (j s n : ℕ) → s + n < done r.entries j t → Precedes r t (record { image = j; number = s }) (record { image = j; number = suc (s + n) })
  chain t j s zero l =
      let e : suc (s + 0) ≡ suc s = omega arith in
      ([], subst (λ k. Edge r t (record { image = j; number = s }) (record { image = j; number = k })) (sym e) (next_edge t j s (omega arith)))
  chain t j s (suc n) l =
      let e : suc (s + n) ≡ s + suc n = omega arith in
      precedes_last t _ (record { image = j; number = s + suc n }) _ (inr (subst (λ k. Precedes r t (record { image = j; number = s }) (record { image = j; number = k })) e (chain t j s n (omega arith)))) (next_edge t j (s + suc n) l)

  -- an image's earlier segments precede its later ones
  pub own_precedes : (t : List E) (b : Segment) (s : ℕ) → Begun r.entries t b → s < b.number → Precedes r t (record { image = b.image; number = s }) b
  own_precedes t b s h l =
      let e : suc (s + (b.number - suc s)) ≡ b.number = omega arith in
      subst (λ n. Precedes r t (record { image = b.image; number = s }) (record { image = b.image; number = n })) e (chain t b.image s (b.number - suc s) (omega arith))

  -- two ways are one
  pub reaches_join : (t : List E) (a b c : Segment) → Reaches r t a b → Reaches r t b c → Reaches r t a c
  reaches_join t a b c (inl e) q = subst (λ z. Reaches r t z c) (sym e) q
  reaches_join t a b c (inr p) (inl e) = inr (subst (λ z. Precedes r t a z) e p)
  reaches_join t a b c (inr p) (inr q) = inr (precedes_joins t a b c p q)

  -- an image's own earlier segments
  pub own_reaches : (t : List E) (a b : Segment) → Begun r.entries t b → a.image ≡ b.image → a.number ≤ b.number → Reaches r t a b
  own_reaches t a b h e l =
      elim (cases_lt a.number b.number) [
        | inl m ↦ inr (subst (λ i. Precedes r t (record { image = i; number = a.number }) b) (sym e) (own_precedes t b a.number h m))
        | inr m ↦ (let n : a.number ≡ b.number = omega arith in inl (ap (λ i. record { image = i; number = a.number }) e ∙ ap (λ k. record { image = b.image; number = k }) n))
      ]

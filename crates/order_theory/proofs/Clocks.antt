-- Clocks: joined along the trace they cover exactly what precedes.
use Rattle.std.proofs.Common.{◌≡◌, ℕ, suc, ◌+◌, ◌<◌, ◌↔◌, max, true, nat_eq, ◌&&◌, List, [], ◌∷◌, ◌++◌, ◌⊎◌, inl, inr, refl, ap, sym, ◌∙◌, subst, arith, append_assoc}
use Rattle.std.proofs.lemmas.List.{append-nil}
use Rattle.std.proofs.lemmas.Bool.{cases_lt, cases_order, cases_Bool, eqb-true, and_parts}
use Rattle.std.proofs.lemmas.Bool.Decides.{eqb_tells}
use Rattle.order_theory.specs.Order.{Segment, EdgeRules, Within, done, segment_after, Begun, Precedes, Sound, Reaches}
use Rattle.order_theory.specs.Clocks.{IsClock, TellsOthers, Covers, tick}
use Rattle.order_theory.proofs.Splits.{done_append}
use Rattle.order_theory.proofs.Withins.{within_append, within_left, within_right}
use Rattle.order_theory.proofs.Ways.{precedes_last, reaches_up, reaches_down, edges_in, own_precedes}
use Rattle.order_theory.proofs.Paths.{edge_number, last_edge, prefixes, numbers_rise}

-- two counts that cover the same are one
pub same_counts : (m n : ℕ) → ((s : ℕ) → (s < m) ↔ (s < n)) → m ≡ n
same_counts m n h =
    elim (cases_order m n) [
      | inl e ↦ e
      | inr o ↦ elim o [ inl l ↦ absurd (let k = (h m).1 l in omega arith) | inr l ↦ absurd (let k = (h n).0 l in omega arith) ]
    ]

module _ (E : Type 0) (r : EdgeRules E) (sound : Sound r) where
  -- the clock of an image's first segment
  pub clock_start : (t : List E) (j : ℕ) → IsClock r t (record { image = j; number = 0 }) (λ i. 0)
  clock_start t j = record {
    exactly = λ i s. (λ h. absurd (omega arith), λ p. let l = last_edge E r sound t _ _ p.0 p.1 in let n = edge_number E r t l.edge_from _ l.last in absurd (omega arith));
  }

  -- The clock of a new segment covers its sources.
  pub clock_begins : (g : List E) (x : E) (c : ℕ → ℕ) → r.entries.completes x ≡ true → Covers r g (r.sources g x) c → IsClock r (g ++ x ∷ []) (segment_after r.entries g x) c
  clock_begins g x c comp cov =
      let t = g ++ x ∷ [] in
      let up : (a b : Segment) → Within b (r.sources g x) → Reaches r g a b → Precedes r t a (segment_after r.entries g x) =
      λ a b w q. precedes_last E r sound t a b (segment_after r.entries g x) (reaches_up E r sound g (x ∷ []) a b q) (record { before = g; event = x; rest = []; split = refl; completing = comp; source = w; begins = refl }) in
      record {
        exactly = λ i s. (
          λ h. let k = (cov.exactly i s).0 h in up (record { image = i; number = s }) k.0 k.1 k.2,
          λ p.
              let l = last_edge E r sound t (record { image = i; number = s }) (segment_after r.entries g x) p.0 p.1 in
              let w = edges_in E r sound t g [] x l.edge_from refl comp l.last in
              (cov.exactly i s).1 (l.edge_from, w, reaches_down E r sound g (x ∷ []) (record { image = i; number = s }) l.edge_from (sound.known g x l.edge_from w) l.either),
        );
      }

  -- The clock of a segment stays.
  pub clock_keeps : (t u : List E) (b : Segment) (c : ℕ → ℕ) → Begun r.entries t b → IsClock r t b c → IsClock r (t ++ u) b c
  clock_keeps t u b c h k = record {
    exactly = λ i s. (λ l. (prefixes E r sound t u _ b h).1 ((k.exactly i s).0 l), λ p. (k.exactly i s).1 ((prefixes E r sound t u _ b h).0 p));
  }

  -- What it tells of other images it goes on to tell.
  pub tells_keep : (t u : List E) (b : Segment) (c : ℕ → ℕ) → Begun r.entries t b → TellsOthers r t b c → TellsOthers r (t ++ u) b c
  tells_keep t u b c h k = record {
    exactly = λ i s ne. (λ l. (prefixes E r sound t u _ b h).1 ((k.exactly i s ne).0 l), λ p. (k.exactly i s ne).1 ((prefixes E r sound t u _ b h).0 p));
  }

  -- What a clock covers of segments that have begun stays.
  pub covers_keeps : (t u : List E) (bs : List Segment) (c : ℕ → ℕ) → ((b : Segment) → Within b bs → Begun r.entries t b) → Covers r t bs c → Covers r (t ++ u) bs c
  covers_keeps t u bs c h k = record {
    exactly = λ i s. (
      λ l. let q = (k.exactly i s).0 l in (q.0, q.1, reaches_up E r sound t u _ q.0 q.2),
      λ q. (k.exactly i s).1 (q.0, q.1, reaches_down E r sound t u _ q.0 (h q.0 q.1) q.2),
    );
  }

  -- the same counts cover the same
  pub covers_same : (t : List E) (bs : List Segment) (c d : ℕ → ℕ) → ((i : ℕ) → d i ≡ c i) → Covers r t bs c → Covers r t bs d
  covers_same t bs c d e k = record {
    exactly = λ i s. let h = e i in (λ l. (k.exactly i s).0 (omega arith), λ q. let l = (k.exactly i s).1 q in omega arith);
  }

  -- counts of 0 cover no segments
  pub covers_none : (t : List E) → Covers r t [] (λ i. 0)
  covers_none t = record { exactly = λ i s. (λ l. absurd (omega arith), λ q. absurd (q.1)) }

  -- the greater counts of two clocks cover what either covers
  pub covers_join : (t : List E) (bs ds : List Segment) (c d : ℕ → ℕ) → Covers r t bs c → Covers r t ds d → Covers r t (bs ++ ds) (λ i. max (c i) (d i))
  covers_join t bs ds c d k m = record {
    exactly = λ i s. (
      λ l. elim (cases_lt s (c i)) [
        | inl h ↦ (let q = (k.exactly i s).0 h in (q.0, within_left Segment q.0 bs ds q.1, q.2))
        | inr h ↦ (let q = (m.exactly i s).0 (omega arith) in (q.0, within_right Segment q.0 bs ds q.1, q.2))
      ],
      λ q. elim (within_append Segment q.0 bs ds q.1) [
        | inl w ↦ (let h = (k.exactly i s).1 (q.0, w, q.2) in omega arith)
        | inr w ↦ (let h = (m.exactly i s).1 (q.0, w, q.2) in omega arith)
      ],
    );
  }

  -- a segment's clock counts the segments of its image before it
  pub clock_own : (t : List E) (b : Segment) (c : ℕ → ℕ) → Begun r.entries t b → IsClock r t b c → c b.image ≡ b.number
  clock_own t b c h k =
      same_counts (c b.image) b.number (λ s. (λ l. numbers_rise E r sound t _ b ((k.exactly b.image s).0 l) refl, λ l. (k.exactly b.image s).1 (own_precedes E r sound t b s h l)))

  -- what reaches a segment is covered by its clock, or is it
  reached : (t : List E) (b : Segment) (c : ℕ → ℕ) → IsClock r t b c → (i s : ℕ) → Reaches r t (record { image = i; number = s }) b → (s < c i) ⊎ ((i ≡ b.image) × (s ≡ b.number))
  reached t b c k i s (inl e) = inr (ap (λ z. z.image) e, ap (λ z. z.number) e)
  reached t b c k i s (inr p) = inl ((k.exactly i s).1 p)

  -- with one tick of the segment's image the clock covers the segment
  ticked_own : (t : List E) (b : Segment) (c : ℕ → ℕ) → IsClock r t b c → c b.image ≡ b.number → (i s : ℕ) → i ≡ b.image
      → (s < 1 + c i) ↔ ((d : Segment) × Within d (b ∷ []) × Reaches r t (record { image = i; number = s }) d)
  ticked_own t b c k own i s e =
      let at : c i ≡ b.number = ap c e ∙ own in (
        λ l. elim (cases_lt s b.number) [
          | inl m ↦ (b, inl refl, inr ((k.exactly i s).0 (omega arith)))
          | inr m ↦ (let n : s ≡ b.number = omega arith in (b, inl refl, inl (ap (λ x. record { image = x; number = s }) e ∙ ap (λ x. record { image = b.image; number = x }) n)))
        ],
        λ q. elim q.1 [
          | inl w ↦ elim (reached t b c k i s (subst (Reaches r t (record { image = i; number = s })) w q.2)) [ inl l ↦ omega arith | inr n ↦ (let m = n.1 in omega arith) ]
          | inr w ↦ absurd w
        ],
      )

  -- and of each other image it covers what it did
  ticked_other : (t : List E) (b : Segment) (c : ℕ → ℕ) → IsClock r t b c → (i s : ℕ) → (i ≡ b.image → ⊥)
      → (s < 0 + c i) ↔ ((d : Segment) × Within d (b ∷ []) × Reaches r t (record { image = i; number = s }) d)
  ticked_other t b c k i s ne = (
    λ l. (b, inl refl, inr ((k.exactly i s).0 (omega arith))),
    λ q. elim q.1 [
      | inl w ↦ elim (reached t b c k i s (subst (Reaches r t (record { image = i; number = s })) w q.2)) [ inl l ↦ omega arith | inr n ↦ absurd (ne n.0) ]
      | inr w ↦ absurd w
    ],
  )

  -- A clock with one tick of its segment's image covers the segment.
  pub clock_ticks : (t : List E) (b : Segment) (c : ℕ → ℕ) → Begun r.entries t b → IsClock r t b c → Covers r t (b ∷ []) (tick b.image c)
  clock_ticks t b c h k = record {
    exactly = λ i s. elim (eqb_tells i b.image) [
      | inl e ↦ rw e.0 (ticked_own t b c k (clock_own t b c h k) i s e.1)
      | inr f ↦ rw f.0 (ticked_other t b c k i s f.1)
    ];
  }

  -- a clock of a segment
  HasClock : List E → Segment → Type 0
  HasClock t b = (c : ℕ → ℕ) × IsClock r t b c

  -- segments that have clocks are covered by one clock
  all_covered : (t : List E) (bs : List Segment) → ((b : Segment) → Within b bs → Begun r.entries t b × HasClock t b) → (c : ℕ → ℕ) × Covers r t bs c
  unfolding HasClock
  all_covered t [] h = (λ i. 0, covers_none t)
  all_covered t (b ∷ bs) h =
      let first = h b (inl refl) in
      let others = all_covered t bs (λ d w. h d (inr w)) in
      (λ i. max (tick b.image first.1.0 i) (others.0 i), covers_join t (b ∷ []) bs (tick b.image first.1.0) others.0 (clock_ticks t b first.1.0 first.0 first.1.1) others.1)

  -- ahead of all entries each segment that has begun has a clock
  no_events : (b : Segment) → Begun r.entries [] b → HasClock [] b
  unfolding HasClock
  no_events b h =
      let z : b.number ≡ 0 = omega arith in
      (λ i. 0, subst (λ n. IsClock r [] (record { image = b.image; number = n }) (λ i. 0)) (sym z) (clock_start [] b.image))

  -- a segment that has begun with one more entry is old, or begins after it
  old_or_new : (g : List E) (x : E) (b : Segment) → Begun r.entries (g ++ x ∷ []) b → Begun r.entries g b ⊎ ((r.entries.completes x ≡ true) × (b ≡ segment_after r.entries g x))
  old_or_new g x b h =
      let e = done_append E r.entries b.image g (x ∷ []) in
      elim (cases_Bool (nat_eq (r.entries.image_of x) b.image && r.entries.completes x)) [
        | inl t ↦ elim (cases_lt (done r.entries b.image g) b.number) [
          | inl l ↦ (
              let f = rw t at e in
              let p = and_parts (nat_eq (r.entries.image_of x) b.image) (r.entries.completes x) t in
              let i = eqb-true (r.entries.image_of x) b.image p.0 in
              let n : b.number ≡ suc (done r.entries b.image g) = omega arith in
              inr (p.1, ap (λ k. record { image = b.image; number = k }) n ∙ ap (λ j. record { image = j; number = suc (done r.entries j g) }) (sym i)))
          | inr l ↦ inl l
        ]
        | inr t ↦ (let f = rw t at e in inl (omega arith))
      ]

  -- after one more entry too
  one_more_clock : (g : List E) (x : E) → ((b : Segment) → Begun r.entries g b → HasClock g b) → (b : Segment) → Begun r.entries (g ++ x ∷ []) b → HasClock (g ++ x ∷ []) b
  unfolding HasClock
  one_more_clock g x h b k =
      elim (old_or_new g x b k) [
        | inl o ↦ (let c = h b o in (c.0, clock_keeps g (x ∷ []) b c.0 o c.1))
        | inr n ↦ (
            let c = all_covered g (r.sources g x) (λ d w. (sound.known g x d w, h d (sound.known g x d w))) in
            subst (λ z. HasClock (g ++ x ∷ []) z) (sym n.1) (c.0, clock_begins g x c.0 n.0 c.1))
      ]

  -- and so after all of them
  clocks_from : (g rest : List E) → ((b : Segment) → Begun r.entries g b → HasClock g b) → (b : Segment) → Begun r.entries (g ++ rest) b → HasClock (g ++ rest) b
  clocks_from g [] h b k = subst (λ z. HasClock z b) (sym (append-nil g)) (h b (subst (λ z. Begun r.entries z b) (append-nil g) k))
  clocks_from g (x ∷ rest) h b k =
      subst (λ z. HasClock z b) (append_assoc g (x ∷ []) rest) (clocks_from (g ++ x ∷ []) rest (one_more_clock g x h) b (subst (λ z. Begun r.entries z b) (sym (append_assoc g (x ∷ []) rest)) k))

  pub has_clock : (t : List E) (b : Segment) → Begun r.entries t b → (c : ℕ → ℕ) × IsClock r t b c
  unfolding HasClock
  has_clock t b h = clocks_from [] t no_events b h

  -- So it can be told whether a segment precedes one that has begun.
  pub precedes_or_not : (t : List E) (a b : Segment) → Begun r.entries t b → Precedes r t a b ⊎ (Precedes r t a b → ⊥)
  precedes_or_not t a b h =
      let c = has_clock t b h in
      elim (cases_lt a.number (c.0 a.image)) [ inl l ↦ inl ((c.1.exactly a.image a.number).0 l) | inr l ↦ inr (λ p. let m = (c.1.exactly a.image a.number).1 p in absurd (omega arith)) ]

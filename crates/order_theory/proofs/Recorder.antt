-- One entry at a time: the clocks of images and of what waits at keys go with the trace.
use Rattle.std.proofs.Common.{◌≡◌, ℕ, suc, ◌≤◌, max, true, false, nat_eq, ◌&&◌, List, [], ◌∷◌, ◌++◌, inl, inr, refl, ap, sym, ◌∙◌, subst, arith}
use Rattle.std.proofs.lemmas.List.{append-nil}
use Rattle.std.proofs.lemmas.Bool.{cases_lt}
use Rattle.order_theory.specs.Order.{Segment, Within, done, segment_of, segment_after, Begun, Precedes, Reaches, Edge, Linked}
use Rattle.order_theory.specs.Clocks.{Covers, TellsOthers, tick}
use Rattle.order_theory.specs.Acts.{completing, Key, Turn, adds, clears, drops, leaves_all, turned, turn_of, View, entries, waiting, released, others, edge_rules}
use Rattle.order_theory.specs.Stored.{turned_clock, present}
use Rattle.order_theory.proofs.Splits.{done_append, done_at}
use Rattle.order_theory.proofs.Clocks.{clock_begins, clock_ticks, clock_start, covers_keeps, covers_join, covers_none, same_counts}
use Rattle.order_theory.proofs.Ways.{own_precedes}
use Rattle.order_theory.proofs.Withins.{within_append, within_drop}
use Rattle.order_theory.proofs.Paths.{numbers_rise, linked_down}
use Rattle.order_theory.proofs.Sources.{sound, waiting_more, added, added_begun}

module _ (E : Type 0) (v : View E) where
  -- what waits has begun
  pub waits_begun : (k : Key) (g : List E) (b : Segment) → Within b (waiting v k g) → Begun (entries v) g b
  waits_begun k g b w = added_begun E v k g b (added E v k g b w)

  -- a key's one clock after a turn
  covers_turned : (g : List E) (n : Turn) (s : Segment) (q : List Segment) (own c : ℕ → ℕ) → ((k : ℕ) → n ≡ drops k → ⊥) → Covers (edge_rules v) g q c → Covers (edge_rules v) g (s ∷ []) own → Covers (edge_rules v) g (turned n s q) (turned_clock n own c)
  covers_turned g adds s q own c h k o = covers_join E (edge_rules v) (sound E v) g q (s ∷ []) c own k o
  covers_turned g clears s q own c h k o = covers_none E (edge_rules v) (sound E v) g
  covers_turned g (drops m) s q own c h k o = absurd (h m refl)
  covers_turned g leaves_all s q own c h k o = k

  -- what waits after a turn has begun
  begun_turned : (g : List E) (n : Turn) (s : Segment) (q : List Segment) → ((b : Segment) → Within b q → Begun (entries v) g b) → Begun (entries v) g s → (b : Segment) → Within b (turned n s q) → Begun (entries v) g b
  begun_turned g adds s q h o b w = elim (within_append Segment b q (s ∷ []) w) [ inl x ↦ h b x | inr x ↦ elim x [ inl e ↦ subst (λ z. Begun (entries v) g z) (sym e) o | inr z ↦ absurd z ] ]
  begun_turned g clears s q h o b w = absurd w
  begun_turned g (drops k) s q h o b w = h b (within_drop Segment b k q w)
  begun_turned g leaves_all s q h o b w = h b w

  pub turned_begun : (g : List E) (e : E) (k : Key) (b : Segment) → Within b (turned (turn_of v k e) (segment_of (entries v) g e) (waiting v k g)) → Begun (entries v) g b
  turned_begun g e k b w = begun_turned g (turn_of v k e) (segment_of (entries v) g e) (waiting v k g) (waits_begun k g) (omega arith) b w

  -- a key after one more entry
  pub key_more : (g : List E) (e : E) (k : Key) (own c : ℕ → ℕ) → ((m : ℕ) → turn_of v k e ≡ drops m → ⊥)
      → Covers (edge_rules v) g (waiting v k g) c → Covers (edge_rules v) g (segment_of (entries v) g e ∷ []) own
      → Covers (edge_rules v) (g ++ e ∷ []) (waiting v k (g ++ e ∷ [])) (turned_clock (turn_of v k e) own c)
  key_more g e k own c joint cov ticked =
      let after = covers_turned g (turn_of v k e) (segment_of (entries v) g e) (waiting v k g) own c joint cov ticked in
      subst (λ z. Covers (edge_rules v) (g ++ e ∷ []) z (turned_clock (turn_of v k e) own c)) (sym (waiting_more E v k g e))
      (covers_keeps E (edge_rules v) (sound E v) g (e ∷ []) (turned (turn_of v k e) (segment_of (entries v) g e) (waiting v k g)) _ (λ b w. turned_begun g e k b w) after)

  -- an image's clock after one more entry that isn't its own, or completes no segment
  pub clock_stays : (g : List E) (e : E) (j : ℕ) (c : ℕ → ℕ) → (nat_eq (v.image e) j && completing (v.act e)) ≡ false → Covers (edge_rules v) g (present v g j ∷ []) c → Covers (edge_rules v) (g ++ e ∷ []) (present v (g ++ e ∷ []) j ∷ []) c
  clock_stays g e j c h k =
      let d = done_append E (entries v) j g (e ∷ []) in
      let f : done (entries v) j (g ++ e ∷ []) ≡ done (entries v) j g = (let d' = rw h at d in omega arith) in
      subst (λ n. Covers (edge_rules v) (g ++ e ∷ []) (record { image = j; number = n } ∷ []) c) (sym f)
      (covers_keeps E (edge_rules v) (sound E v) g (e ∷ []) (present v g j ∷ []) c (λ b w. elim w [ inl q ↦ subst (λ z. Begun (entries v) g z) (sym q) (omega arith) | inr z ↦ absurd z ]) k)

  -- and after one that completes its segment: joined with those of what is released and spoken of, then ticked
  pub clock_moves : (g : List E) (e : E) (own rel oth : ℕ → ℕ) → completing (v.act e) ≡ true
      → Covers (edge_rules v) g (present v g (v.image e) ∷ []) own
      → Covers (edge_rules v) g (released v g (v.image e) (v.act e)) rel → Covers (edge_rules v) g (others v g e) oth
      → Covers (edge_rules v) (g ++ e ∷ []) (present v (g ++ e ∷ []) (v.image e) ∷ []) (tick (v.image e) (λ i. max (own i) (max (rel i) (oth i))))
  clock_moves g e own rel oth comp k r s =
      let all = covers_join E (edge_rules v) (sound E v) g (segment_of (entries v) g e ∷ []) (released v g (v.image e) (v.act e) ++ others v g e) own (λ i. max (rel i) (oth i)) k
      (covers_join E (edge_rules v) (sound E v) g (released v g (v.image e) (v.act e)) (others v g e) rel oth r s) in
      let new = clock_begins E (edge_rules v) (sound E v) g e _ comp all in
      let begun : Begun (entries v) (g ++ e ∷ []) (segment_after (entries v) g e) = (let d = done_at E (entries v) g e comp in omega arith) in
      subst (λ n. Covers (edge_rules v) (g ++ e ∷ []) (record { image = v.image e; number = n } ∷ []) (tick (v.image e) (λ i. max (own i) (max (rel i) (oth i))))) (sym (done_at E (entries v) g e comp))
      (clock_ticks E (edge_rules v) (sound E v) (g ++ e ∷ []) (segment_after (entries v) g e) _ begun new)

  -- at the start
  pub clock_first : (j : ℕ) → Covers (edge_rules v) [] (present v [] j ∷ []) (tick j (λ i. 0))
  clock_first j = clock_ticks E (edge_rules v) (sound E v) [] (record { image = j; number = 0 }) (λ i. 0) (omega arith) (clock_start E (edge_rules v) (sound E v) [] j)

  -- an image's clock tells of other images what precedes its present segment
  pub clock_tells : (g : List E) (j : ℕ) (c : ℕ → ℕ) → Covers (edge_rules v) g (present v g j ∷ []) c → TellsOthers (edge_rules v) g (present v g j) c
  clock_tells g j c k = record {
    exactly = λ i s ne. (
      λ l. let q = (k.exactly i s).0 l in elim q.1 [
        | inl e ↦ elim q.2 [
          | inl same ↦ absurd (ne (ap (λ z. z.image) (same ∙ e)))
          | inr b ↦ subst (λ z. Precedes (edge_rules v) g (record { image = i; number = s }) z) e b
        ]
        | inr z ↦ absurd z
      ],
      λ b. (k.exactly i s).1 (present v g j, inl refl, inr b),
    );
  }

  -- an image's own count is one more than the segments that it has completed
  pub covered_own : (g : List E) (j : ℕ) (c : ℕ → ℕ) → Covers (edge_rules v) g (present v g j ∷ []) c → c j ≡ suc (done (entries v) j g)
  covered_own g j c k = same_counts (c j) (suc (done (entries v) j g)) (λ s. (
    λ l. let q = (k.exactly j s).0 l in elim q.1 [
      | inl e ↦ elim q.2 [
        | inl same ↦ (let n = ap (λ z. z.number) (same ∙ e) in omega arith)
        | inr b ↦ (let n = numbers_rise E (edge_rules v) (sound E v) g (record { image = j; number = s }) (present v g j) (subst (λ z. Precedes (edge_rules v) g (record { image = j; number = s }) z) e b) refl in omega arith)
      ]
      | inr z ↦ absurd z
    ],
    λ l. (k.exactly j s).1 (
      present v g j,
      inl refl,
      (elim (cases_lt s (done (entries v) j g)) [
        | inl m ↦ inr (own_precedes E (edge_rules v) (sound E v) g (present v g j) s (omega arith) m)
        | inr m ↦ (let n : s ≡ done (entries v) j g = omega arith in inl (ap (λ x. record { image = j; number = x }) n))
      ]),
    ),
  ))

  -- what reaches a segment that has begun has begun
  reached_begun : (g : List E) (a b : Segment) → Begun (entries v) g b → Reaches (edge_rules v) g a b → Begun (entries v) g a
  reached_begun g a b h (inl e) = subst (λ z. Begun (entries v) g z) (sym e) h
  reached_begun g a b h (inr (ms, p)) = (linked_down E (edge_rules v) (sound E v) g [] a b ms h (subst (λ z. Linked (Edge (edge_rules v) z) a ms b) (sym (append-nil g)) p)).0

  -- no clock of begun segments counts past an image's present segment
  pub covered_bound : (g : List E) (bs : List Segment) (c : ℕ → ℕ) → Covers (edge_rules v) g bs c → ((b : Segment) → Within b bs → Begun (entries v) g b) → (i : ℕ) → c i ≤ suc (done (entries v) i g)
  covered_bound g bs c k h i =
      elim (cases_lt (suc (done (entries v) i g)) (c i)) [
        | inl l ↦ (
            let q = (k.exactly i (suc (done (entries v) i g))).0 l in
            let b : Begun (entries v) g (record { image = i; number = suc (done (entries v) i g) }) = reached_begun g _ q.0 (h q.0 q.1) q.2 in
            absurd (omega arith))
        | inr l ↦ l
      ]

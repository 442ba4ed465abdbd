-- Keys of which a clock is kept for each segment that waits there: events and pairs.
use Rattle.std.proofs.Common.{ℕ, zero, suc, List, [], ◌∷◌, ◌++◌, map, take, drop, inl, inr, refl, sym, subst}
use Rattle.std.specs.List.{flat_map}
use Rattle.order_theory.specs.Order.{Segment, Within, Begun, segment_of}
use Rattle.order_theory.specs.Clocks.{Covers}
use Rattle.order_theory.specs.Acts.{Turn, adds, clears, drops, leaves_all, Key, turned, turn_of, View, entries, waiting, spoken, edge_rules}
use Rattle.order_theory.specs.Stored.{EachCovered, all_joined, present, turned_queue}
use Rattle.order_theory.proofs.Clocks.{covers_none, covers_join, covers_keeps}
use Rattle.order_theory.proofs.Sources.{sound, waiting_more}
use Rattle.order_theory.proofs.Recorder.{turned_begun}

module _ (E : Type 0) (v : View E) where
  -- all clocks of a queue joined cover all that waits there
  pub covers_all : (g : List E) (q : List Segment) (cs : List (ℕ → ℕ)) → EachCovered (edge_rules v) g q cs → Covers (edge_rules v) g q (all_joined cs)
  covers_all g [] [] h = covers_none E (edge_rules v) (sound E v) g
  covers_all g [] (c ∷ cs) h = absurd h
  covers_all g (s ∷ q) [] h = absurd h
  covers_all g (s ∷ q) (c ∷ cs) h = covers_join E (edge_rules v) (sound E v) g (s ∷ []) q c (all_joined cs) h.0 (covers_all g q cs h.1)

  -- the first k, as a wait takes them
  pub each_take : (k : ℕ) (g : List E) (q : List Segment) (cs : List (ℕ → ℕ)) → EachCovered (edge_rules v) g q cs → EachCovered (edge_rules v) g (take k q) (take k cs)
  each_take zero g q cs h = tt
  each_take (suc k) g [] [] h = tt
  each_take (suc k) g [] (c ∷ cs) h = absurd h
  each_take (suc k) g (s ∷ q) [] h = absurd h
  each_take (suc k) g (s ∷ q) (c ∷ cs) h = (h.0, each_take k g q cs h.1)

  -- what is left of a queue
  each_drop : (k : ℕ) (g : List E) (q : List Segment) (cs : List (ℕ → ℕ)) → EachCovered (edge_rules v) g q cs → EachCovered (edge_rules v) g (drop k q) (drop k cs)
  each_drop zero g q cs h = h
  each_drop (suc k) g [] [] h = tt
  each_drop (suc k) g [] (c ∷ cs) h = absurd h
  each_drop (suc k) g (s ∷ q) [] h = absurd h
  each_drop (suc k) g (s ∷ q) (c ∷ cs) h = each_drop k g q cs h.1

  -- the clocks of a part of a queue joined cover that part
  pub queue_taken : (n k : ℕ) (g : List E) (q : List Segment) (cs : List (ℕ → ℕ)) → EachCovered (edge_rules v) g q cs → Covers (edge_rules v) g (take k (drop n q)) (all_joined (take k (drop n cs)))
  queue_taken n k g q cs h = covers_all g (take k (drop n q)) (take k (drop n cs)) (each_take k g (drop n q) (drop n cs) (each_drop n g q cs h))

  -- where a clock covers the segments of each of these numbers, all of them joined cover all
  pub covers_flat : (g : List E) (f : ℕ → List Segment) (c : ℕ → ℕ → ℕ) (js : List ℕ) → ((j : ℕ) → Within j js → Covers (edge_rules v) g (f j) (c j)) → Covers (edge_rules v) g (flat_map f js) (all_joined (map c js))
  covers_flat g f c [] h = covers_none E (edge_rules v) (sound E v) g
  covers_flat g f c (j ∷ js) h = covers_join E (edge_rules v) (sound E v) g (f j) (flat_map f js) (c j) (all_joined (map c js)) (h j (inl refl)) (covers_flat g f c js (λ i w. h i (inr w)))

  -- the clocks of images joined cover their present segments
  presents_joined : (g : List E) (c : ℕ → ℕ → ℕ) (js : List ℕ) → ((j : ℕ) → Within j js → Covers (edge_rules v) g (present v g j ∷ []) (c j)) → Covers (edge_rules v) g (map (present v g) js) (all_joined (map c js))
  presents_joined g c [] h = covers_none E (edge_rules v) (sound E v) g
  presents_joined g c (j ∷ js) h = covers_join E (edge_rules v) (sound E v) g (present v g j ∷ []) (map (present v g) js) (c j) (all_joined (map c js)) (h j (inl refl)) (presents_joined g c js (λ i w. h i (inr w)))

  -- and so those of the failed images that an entry speaks of cover their last segments
  pub spoken_joined : (g : List E) (e : E) (c : ℕ → ℕ → ℕ) → ((j : ℕ) → Within j (v.speaks g e) → Covers (edge_rules v) g (present v g j ∷ []) (c j)) → Covers (edge_rules v) g (spoken v g e) (all_joined (map c (v.speaks g e)))
  spoken_joined g e c h = presents_joined g c (v.speaks g e) h

  -- a queue with one more behind it
  each_last : (g : List E) (q : List Segment) (cs : List (ℕ → ℕ)) (s : Segment) (c : ℕ → ℕ) → EachCovered (edge_rules v) g q cs → Covers (edge_rules v) g (s ∷ []) c → EachCovered (edge_rules v) g (q ++ s ∷ []) (cs ++ c ∷ [])
  each_last g [] [] s c h k = (k, tt)
  each_last g [] (d ∷ cs) s c h k = absurd h
  each_last g (x ∷ q) [] s c h k = absurd h
  each_last g (x ∷ q) (d ∷ cs) s c h k = (h.0, each_last g q cs s c h.1 k)

  -- a queue while the trace grows
  each_keeps : (g u : List E) (q : List Segment) (cs : List (ℕ → ℕ)) → ((b : Segment) → Within b q → Begun (entries v) g b) → EachCovered (edge_rules v) g q cs → EachCovered (edge_rules v) (g ++ u) q cs
  each_keeps g u [] [] b h = tt
  each_keeps g u [] (c ∷ cs) b h = absurd h
  each_keeps g u (s ∷ q) [] b h = absurd h
  each_keeps g u (s ∷ q) (c ∷ cs) b h =
      (covers_keeps E (edge_rules v) (sound E v) g u (s ∷ []) c (λ x w. b x (elim w [ inl e ↦ inl e | inr z ↦ absurd z ])) h.0, each_keeps g u q cs (λ x w. b x (inr w)) h.1)

  -- a queue after a turn
  each_turned : (g : List E) (n : Turn) (s : Segment) (q : List Segment) (own : ℕ → ℕ) (cs : List (ℕ → ℕ)) → EachCovered (edge_rules v) g q cs → Covers (edge_rules v) g (s ∷ []) own → EachCovered (edge_rules v) g (turned n s q) (turned_queue n own cs)
  each_turned g adds s q own cs h k = each_last g q cs s own h k
  each_turned g clears s q own cs h k = tt
  each_turned g (drops m) s q own cs h k = each_drop m g q cs h
  each_turned g leaves_all s q own cs h k = h

  -- a queue after one more entry
  pub queue_more : (g : List E) (e : E) (k : Key) (own : ℕ → ℕ) (cs : List (ℕ → ℕ)) → EachCovered (edge_rules v) g (waiting v k g) cs → Covers (edge_rules v) g (segment_of (entries v) g e ∷ []) own
      → EachCovered (edge_rules v) (g ++ e ∷ []) (waiting v k (g ++ e ∷ [])) (turned_queue (turn_of v k e) own cs)
  queue_more g e k own cs h o =
      subst (λ z. EachCovered (edge_rules v) (g ++ e ∷ []) z (turned_queue (turn_of v k e) own cs)) (sym (waiting_more E v k g e))
      (each_keeps g (e ∷ []) (turned (turn_of v k e) (segment_of (entries v) g e) (waiting v k g)) (turned_queue (turn_of v k e) own cs) (λ b w. turned_begun E v g e k b w)
      (each_turned g (turn_of v k e) (segment_of (entries v) g e) (waiting v k g) own cs h o))

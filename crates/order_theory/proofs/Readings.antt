-- What the table of keys says: a segment waits at a key exactly where its entry added it and no later entry cleared the
-- key.
use Rattle.std.proofs.Common.{◌≡◌, ℕ, ◌↔◌, List, [], ◌∷◌, ◌++◌, ◌⊎◌, inl, inr, refl, ap, sym, ◌∙◌, subst, append_assoc}
use Rattle.std.proofs.lemmas.List.{append-nil}
use Rattle.order_theory.specs.Order.{Segment, Within, segment_of}
use Rattle.order_theory.specs.Acts.{Key, Turn, adds, clears, drops, leaves_all, turned, turn_of, View, entries, waiting_from, waiting}
use Rattle.order_theory.specs.Stored.{NeverClears, AddedIn}
use Rattle.order_theory.proofs.Withins.{within_append, within_left, within_right}

module _ (E : Type 0) (v : View E) (key : Key) (no_drops : (e : E) (k : ℕ) → turn_of v key e ≡ drops k → ⊥) where
  -- it was added behind the first entry
  later : (b es : List E) (e : E) (a : Segment) → AddedIn v key (b ++ e ∷ []) es a → AddedIn v key b (e ∷ es) a
  later b es e a h = record {
    before = e ∷ h.before;
    event = h.event;
    rest = h.rest;
    split = ap (λ z. e ∷ z) h.split;
    adding = h.adding;
    at = h.at ∙ ap (λ z. segment_of (entries v) z h.event) (append_assoc b (e ∷ []) h.before);
    not_cleared = h.not_cleared;
  }

  -- or by the first entry
  first : (b es : List E) (e : E) (a : Segment) → turn_of v key e ≡ adds → a ≡ segment_of (entries v) b e → NeverClears v key es → AddedIn v key b (e ∷ es) a
  first b es e a h s n = record { before = []; event = e; rest = es; split = refl; adding = h; at = s ∙ ap (λ z. segment_of (entries v) z e) (sym (append-nil b)); not_cleared = n }

  -- after a turn a segment waited already and is not cleared, or was added
  one_step : (b es : List E) (e : E) (q : List Segment) (a : Segment) (n : Turn) → turn_of v key e ≡ n → Within a (turned n (segment_of (entries v) b e) q) → NeverClears v key es → (Within a q × NeverClears v key (e ∷ es)) ⊎ AddedIn v key b (e ∷ es) a
  one_step b es e q a adds h w n = elim (within_append Segment a q (segment_of (entries v) b e ∷ []) w) [
    | inl o ↦ inl (o, (λ c. (let k = sym h ∙ c in cc), n))
    | inr l ↦ elim l [ inl s ↦ inr (first b es e a h s n) | inr z ↦ absurd z ]
  ]
  one_step b es e q a clears h w n = absurd w
  one_step b es e q a (drops k) h w n = absurd (no_drops e k h)
  one_step b es e q a leaves_all h w n = inl (w, (λ c. (let k = sym h ∙ c in cc), n))

  -- and so after all turns
  reads_from : (b : List E) (q : List Segment) (es : List E) (a : Segment) → Within a (waiting_from v key b q es) → (Within a q × NeverClears v key es) ⊎ AddedIn v key b es a
  reads_from b q [] a w = inl (w, tt)
  reads_from b q (e ∷ es) a w =
      elim (reads_from (b ++ e ∷ []) (turned (turn_of v key e) (segment_of (entries v) b e) q) es a w) [
        | inl o ↦ one_step b es e q a (turn_of v key e) refl o.0 o.1
        | inr l ↦ inr (later b es e a l)
      ]

  -- a turn that clears nothing leaves it
  stays_in : (b es : List E) (e : E) (q : List Segment) (a : Segment) (n : Turn) → turn_of v key e ≡ n → (n ≡ clears → ⊥) → Within a q → Within a (turned n (segment_of (entries v) b e) q)
  stays_in b es e q a adds h c w = within_left Segment a q _ w
  stays_in b es e q a clears h c w = absurd (c refl)
  stays_in b es e q a (drops k) h c w = absurd (no_drops e k h)
  stays_in b es e q a leaves_all h c w = w

  -- so do entries that clear nothing
  kept_from : (b : List E) (q : List Segment) (es : List E) (a : Segment) → Within a q → NeverClears v key es → Within a (waiting_from v key b q es)
  kept_from b q [] a w n = w
  kept_from b q (e ∷ es) a w n = kept_from (b ++ e ∷ []) (turned (turn_of v key e) (segment_of (entries v) b e) q) es a (stays_in b es e q a (turn_of v key e) refl n.0 w) n.1

  -- what was added and not cleared waits
  writes_from : (b : List E) (q : List Segment) (x y : List E) (u : E) (a : Segment) → turn_of v key u ≡ adds → a ≡ segment_of (entries v) (b ++ x) u → NeverClears v key y → Within a (waiting_from v key b q (x ++ u ∷ y))
  writes_from b q [] y u a h s n =
      kept_from (b ++ u ∷ []) (turned (turn_of v key u) (segment_of (entries v) b u) q) y a
      (subst (λ t. Within a (turned t (segment_of (entries v) b u) q)) (sym h) (within_right Segment a q _ (inl (s ∙ ap (λ z. segment_of (entries v) z u) (append-nil b))))) n
  writes_from b q (e ∷ x) y u a h s n = writes_from (b ++ e ∷ []) (turned (turn_of v key e) (segment_of (entries v) b e) q) x y u a h (s ∙ ap (λ z. segment_of (entries v) z u) (sym (append_assoc b (e ∷ []) x))) n

  -- A segment waits exactly where an entry of it added it and no later one cleared the key.
  pub waits_where : (g : List E) (a : Segment) → Within a (waiting v key g) ↔ AddedIn v key [] g a
  waits_where g a = (
    λ w. elim (reads_from [] [] g a w) [ inl z ↦ absurd z.0 | inr l ↦ l ],
    λ h. subst (λ z. Within a (waiting v key z)) (sym h.split) (writes_from [] [] h.before h.rest h.event a h.adding h.at h.not_cleared),
  )

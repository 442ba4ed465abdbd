-- Where waiting segments come from; the edges are sound, and quiet where images pause.
use Rattle.std.proofs.Common.{◌≡◌, ℕ, ◌-◌, ◌≤◌, Bool, true, false, cond, List, [], ◌∷◌, ◌++◌, length, ◌⊎◌, inl, inr, refl, ap, sym, ◌∙◌, subst, arith, append_assoc, length-append}
use Rattle.std.proofs.lemmas.List.{append-nil}
use Rattle.order_theory.specs.Order.{Segment, Within, done, segment_of, Begun, Sound}
use Rattle.order_theory.specs.Races.{within_coarray}
use Rattle.order_theory.specs.Acts.{Act, arrives, leaves, pairs, unpairs, gets, unlocks, enters, exits, posts, waits, finishes, creates, deletes, goes_on, completing, pausing, Key, round, pair, lock, construct, event, Turn, adds, clears, drops, leaves_all, turn, turned, View, entries, waiting_from, waiting, last_named_from, corresponding, released, others, edge_rules}
use Rattle.order_theory.specs.Facts.{Pauses}
use Rattle.order_theory.proofs.Withins.{within_append, within_drop, within_take, within_flat}
use Rattle.order_theory.proofs.Splits.{done_append, no_later}
use Rattle.order_theory.proofs.Paths.{QuietAt}
use Rattle.order_theory.proofs.Others.{others_begun, others_quiet}

-- neither of two turns that add nothing adds
one_of : (b : Bool) (x y : Turn) → (x ≡ adds → ⊥) → (y ≡ adds → ⊥) → cond b x y ≡ adds → ⊥
one_of true x y h g e = h e
one_of false x y h g e = g e

-- what is added is completed by its entry, or its image pauses
pub adds_when : (key : Key) (i : ℕ) (a : Act) → turn key i a ≡ adds → (completing a ≡ true) ⊎ (pausing a ≡ true)
adds_when key i (arrives t k) h = inr refl
adds_when key i (pairs js) h = inr refl
adds_when key i (unlocks c) h = inl refl
adds_when key i (exits c) h = inl refl
adds_when key i (posts c) h = inl refl
adds_when key i (leaves t k whole) h = inl refl
adds_when key i (unpairs whole) h = inl refl
adds_when key i (gets c) h = inl refl
adds_when key i (enters n) h = inl refl
adds_when key i (waits c k) h = inl refl
adds_when key i finishes h = inl refl
adds_when (round t k) i (creates o n) h = absurd (cc)
adds_when (pair j l) i (creates o n) h = absurd (cc)
adds_when (lock c) i (creates o n) h = absurd (one_of (within_coarray o n c) clears leaves_all (λ e. cc) (λ e. cc) h)
adds_when (construct m) i (creates o n) h = absurd (cc)
adds_when (event c) i (creates o n) h = absurd (one_of (within_coarray o n c) clears leaves_all (λ e. cc) (λ e. cc) h)
adds_when (round t k) i (deletes o n) h = absurd (cc)
adds_when (pair j l) i (deletes o n) h = absurd (cc)
adds_when (lock c) i (deletes o n) h = absurd (cc)
adds_when (construct m) i (deletes o n) h = absurd (cc)
adds_when (event c) i (deletes o n) h = absurd (one_of (within_coarray o n c) clears leaves_all (λ e. cc) (λ e. cc) h)
adds_when (round t k) i goes_on h = absurd (cc)
adds_when (pair j l) i goes_on h = absurd (cc)
adds_when (lock c) i goes_on h = absurd (cc)
adds_when (construct m) i goes_on h = absurd (cc)
adds_when (event c) i goes_on h = absurd (cc)

module _ (E : Type 0) (v : View E) where
  -- the last of more entries changes what waits by its turn
  waiting_from_more : (key : Key) (b : List E) (q : List Segment) (g : List E) (e : E) → waiting_from v key b q (g ++ e ∷ []) ≡ turned (turn key (v.image e) (v.act e)) (segment_of (entries v) (b ++ g) e) (waiting_from v key b q g)
  waiting_from_more key b q [] e = ap (λ z. turned (turn key (v.image e) (v.act e)) (segment_of (entries v) z e) q) (sym (append-nil b))
  waiting_from_more key b q (x ∷ g) e =
      waiting_from_more key (b ++ x ∷ []) (turned (turn key (v.image x) (v.act x)) (segment_of (entries v) b x) q) g e
      ∙ ap (λ z. turned (turn key (v.image e) (v.act e)) (segment_of (entries v) z e) (waiting_from v key b q (x ∷ g))) (append_assoc b (x ∷ []) g)

  -- One more entry changes what waits by its turn.
  pub waiting_more : (key : Key) (g : List E) (e : E) → waiting v key (g ++ e ∷ []) ≡ turned (turn key (v.image e) (v.act e)) (segment_of (entries v) g e) (waiting v key g)
  waiting_more key g e = waiting_from_more key [] [] g e

  -- where a waiting segment comes from
  pub record Added (key : Key) (g : List E) (a : Segment) : Type 0 where
    pub before : List E
    pub event : E
    pub rest : List E
    pub split : g ≡ before ++ event ∷ rest
    pub adding : turn key (v.image event) (v.act event) ≡ adds
    pub at : a ≡ segment_of (entries v) before event

  -- an added segment stays one
  added_more : (key : Key) (g : List E) (e : E) (a : Segment) → Added key g a → Added key (g ++ e ∷ []) a
  added_more key g e a h = record {
    before = h.before;
    event = h.event;
    rest = h.rest ++ e ∷ [];
    split = ap (λ z. z ++ e ∷ []) h.split ∙ append_assoc h.before (h.event ∷ h.rest) (e ∷ []);
    adding = h.adding;
    at = h.at;
  }

  -- after a turn each waiting segment was added
  added_turned : (key : Key) (g : List E) (e : E) (q : List Segment) (n : Turn) → turn key (v.image e) (v.act e) ≡ n → ((a : Segment) → Within a q → Added key g a) → (a : Segment) → Within a (turned n (segment_of (entries v) g e) q) → Added key (g ++ e ∷ []) a
  added_turned key g e q adds h old a w = elim (within_append Segment a q (segment_of (entries v) g e ∷ []) w) [
    | inl o ↦ added_more key g e a (old a o)
    | inr l ↦ elim l [ inl same ↦ record { before = g; event = e; rest = []; split = refl; adding = h; at = same } | inr z ↦ absurd z ]
  ]
  added_turned key g e q clears h old a w = absurd w
  added_turned key g e q (drops k) h old a w = added_more key g e a (old a (within_drop Segment a k q w))
  added_turned key g e q leaves_all h old a w = added_more key g e a (old a w)

  -- and so after all turns
  added_from : (key : Key) (b : List E) (q : List Segment) (es : List E) → ((a : Segment) → Within a q → Added key b a) → (a : Segment) → Within a (waiting_from v key b q es) → Added key (b ++ es) a
  added_from key b q [] old a w = subst (λ z. Added key z a) (sym (append-nil b)) (old a w)
  added_from key b q (e ∷ es) old a w =
      subst (λ z. Added key z a) (append_assoc b (e ∷ []) es)
      (added_from key (b ++ e ∷ []) (turned (turn key (v.image e) (v.act e)) (segment_of (entries v) b e) q) es (added_turned key b e q (turn key (v.image e) (v.act e)) refl old) a w)

  -- each waiting segment was added
  pub added : (key : Key) (g : List E) (a : Segment) → Within a (waiting v key g) → Added key g a
  added key g a w = added_from key [] [] g (λ b z. absurd z) a w

  -- each released segment waited at some key
  pub released_waits : (g : List E) (i : ℕ) (act : Act) (a : Segment) → Within a (released v g i act) → (key : Key) × Within a (waiting v key g)
  released_waits g i (leaves t k true) a w = (round t k, w)
  released_waits g i (leaves t k false) a w = absurd w
  released_waits g i (unpairs false) a w = absurd w
  released_waits g i (unpairs true) a w =
      let z = within_flat ℕ Segment (corresponding v g i) a (last_named_from v i [] g) w in
      (pair z.0 i, within_drop Segment a (length (waiting v (pair i z.0) g) - 1) (waiting v (pair z.0 i) g) (within_take Segment a 1 _ z.2))
  released_waits g i (gets c) a w = (lock c, w)
  released_waits g i (enters n) a w = (construct n, w)
  released_waits g i (waits c k) a w = (event c, within_take Segment a k (waiting v (event c) g) w)
  released_waits g i (arrives t k) a w = absurd w
  released_waits g i (pairs js) a w = absurd w
  released_waits g i (unlocks c) a w = absurd w
  released_waits g i (exits c) a w = absurd w
  released_waits g i (posts c) a w = absurd w
  released_waits g i finishes a w = absurd w
  released_waits g i (creates o n) a w = absurd w
  released_waits g i (deletes o n) a w = absurd w
  released_waits g i goes_on a w = absurd w

  -- what was added has begun
  pub added_begun : (key : Key) (g : List E) (a : Segment) → Added key g a → Begun (entries v) g a
  added_begun key g a h =
      let e = ap (done (entries v) (v.image h.event)) h.split in
      let f = done_append E (entries v) (v.image h.event) h.before (h.event ∷ h.rest) in
      subst (λ z. Begun (entries v) g z) (sym h.at) (omega arith)

  -- each source has begun
  known : (g : List E) (e : E) (a : Segment) → Within a ((edge_rules v).sources g e) → Begun (entries v) g a
  known g e a (inl same) = subst (λ z. Begun (entries v) g z) (sym same) (omega arith)
  known g e a (inr w) = elim (within_append Segment a (released v g (v.image e) (v.act e)) (others v g e) w) [
    | inl r ↦ (let z = released_waits g (v.image e) (v.act e) a r in added_begun z.0 g a (added z.0 g a z.1))
    | inr o ↦ others_begun E v g e a o
  ]

  pub sound : Sound (edge_rules v)
  sound = record { known = known; own = λ g e. inl refl }

  -- Quiet: an image that pauses acts no more in that segment, and one that is spoken of acts no more.
  module _ (acts : List E → E → Type 0) (t : List E) (paused : Pauses v acts t) where
    -- nothing that acts of a segment that was added stands after the entry
    from_added : (key : Key) (g h g' h' : List E) (x f : E) → t ≡ g ++ x ∷ h → t ≡ g' ++ f ∷ h' → acts g' f → Added key g (segment_of (entries v) g' f) → length g' ≤ length g
    from_added key g h g' h' x f s s' act a =
        let split : t ≡ a.before ++ a.event ∷ (a.rest ++ x ∷ h) = s ∙ ap (λ z. z ++ x ∷ h) a.split ∙ append_assoc a.before (a.event ∷ a.rest) (x ∷ h) in
        let short : length a.before ≤ length g = (let e = ap length a.split in omega (arith, length-append a.before (a.event ∷ a.rest))) in
        elim (adds_when key (v.image a.event) (v.act a.event) a.adding) [
          | inl c ↦ (let l = no_later E (entries v) t a.before (a.rest ++ x ∷ h) g' h' a.event f split s' c (sym a.at) in omega arith)
          | inr p ↦ (let l = paused.pauses a.before (a.rest ++ x ∷ h) g' h' a.event f split s' p act (sym a.at) in omega arith)
        ]

    pub quiet : QuietAt (edge_rules v) acts t
    quiet g h g' h' x f s c s' act (inl same) = no_later E (entries v) t g h g' h' x f s s' c (sym same)
    quiet g h g' h' x f s c s' act (inr w) = elim (within_append Segment (segment_of (entries v) g' f) (released v g (v.image x) (v.act x)) (others v g x) w) [
      | inl r ↦ (
          let z = released_waits g (v.image x) (v.act x) (segment_of (entries v) g' f) r in
          from_added z.0 g h g' h' x f s s' act (added z.0 g (segment_of (entries v) g' f) z.1))
      | inr o ↦ others_quiet E v acts t paused g h g' h' x f s s' act o
    ]

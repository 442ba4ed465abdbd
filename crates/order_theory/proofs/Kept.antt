-- The marks that are kept of a cell suffice.
use Rattle.std.proofs.Common.{◌≡◌, ℕ, ◌↔◌, Bool, true, false, nat_lt, ◌&&◌, ◌||◌, not, List, [], ◌∷◌, ◌++◌, ◌⊎◌, inl, inr, refl, ap, sym, subst, arith}
use Rattle.std.proofs.lemmas.Bool.{eq-eqb, cases_lt, cases_Bool, eqb-true, and_parts, or_cases, or_parts, not-true, not-false, ltb-false, le-ltb, both_ways}
use Rattle.std.proofs.lemmas.Bool.Decides.{eqb_tells}
use Rattle.std.specs.List.{filter}
use Rattle.order_theory.specs.Order.{EdgeRules, Within, Begun, Precedes, Reaches, Sound}
use Rattle.order_theory.specs.Races.{signals, meets}
use Rattle.order_theory.specs.Clocks.{TellsOthers}
use Rattle.order_theory.specs.Marks.{Mark, outranks, same_image, clashes, any_clash, stays, noted, Under, Keeps, Noting, Unordered}
use Rattle.order_theory.proofs.Withins.{within_append, within_left, within_right}
use Rattle.order_theory.proofs.Classes.{outranks_tells, signal_meets}
use Rattle.order_theory.proofs.Ways.{reaches_join, own_reaches}

-- a mark that stays is one of all
pub within_filter : (f : Mark → Bool) (k : Mark) (ks : List Mark) → Within k (filter f ks) → Within k ks
within_filter f k [] w = w
within_filter f k (x ∷ ks) w =
    elim (cases_Bool (f x)) [
      | inl a ↦ elim (rw a at w) [ inl e ↦ inl e | inr v ↦ inr (within_filter f k ks v) ]
      | inr a ↦ inr (within_filter f k ks (rw a at w))
    ]

-- and one of all that passes the test stays
filter_within : (f : Mark → Bool) (k : Mark) (ks : List Mark) → Within k ks → f k ≡ true → Within k (filter f ks)
filter_within f k [] w h = w
filter_within f k (x ∷ ks) (inl e) h = rw (subst (λ z. f z ≡ true) e h) (inl e)
filter_within f k (x ∷ ks) (inr w) h =
    elim (cases_Bool (f x)) [
      | inl a ↦ rw a (inr (filter_within f k ks w h))
      | inr a ↦ rw a (filter_within f k ks w h)
    ]

module _ (E : Type 0) (r : EdgeRules E) (sound : Sound r) (t : List E) where
  module _ (q : Mark) (seen kept : List Mark) (noting : Noting r t q seen kept) where
    -- a mark of q's image
    own_under : (m : Mark) → Within m seen → m.segment.image ≡ q.segment.image → Reaches r t m.segment q.segment
    own_under m w e = own_reaches E r sound t m.segment q.segment noting.here e (noting.own m w e)

    -- q itself
    last_under : (m : Mark) → Within m (q ∷ []) → Under r t m q
    last_under m (inl e) = (inl (ap (λ z. z.segment) e), λ x p. subst (λ z. meets z.class x ≡ true) e p)
    last_under m (inr z) = absurd z

    -- Where each mark that doesn't stay is under q, the new list keeps what is needed.
    module _ (displaced : (k : Mark) → Within k kept → stays q k ≡ false → Under r t k q) where
      kept_or_under : (m k : Mark) → Within k kept → Under r t m k → (z : Mark) × Within z (noted q kept) × Under r t m z
      kept_or_under m k w u =
          elim (cases_Bool (stays q k)) [
            | inl s ↦ (k, within_left Mark k (filter (stays q) kept) (q ∷ []) (filter_within (stays q) k kept w s), u)
            | inr o ↦ (
                let d = displaced k w o in
                (q, within_right Mark q (filter (stays q) kept) (q ∷ []) (inl refl), (reaches_join E r sound t m.segment k.segment q.segment u.0 d.0, λ x h. d.1 x (u.1 x h))))
          ]

      keeps_noted : Keeps r t (seen ++ q ∷ []) (noted q kept)
      keeps_noted = record {
        were_seen = λ k w. elim (within_append Mark k (filter (stays q) kept) (q ∷ []) w) [
          | inl f ↦ within_left Mark k seen (q ∷ []) (noting.keeps.were_seen k (within_filter (stays q) k kept f))
          | inr l ↦ within_right Mark k seen (q ∷ []) l
        ];
        enough = λ m w. elim (within_append Mark m seen (q ∷ []) w) [
          | inl s ↦ (let e = noting.keeps.enough m s in kept_or_under m e.0 e.1 e.2)
          | inr l ↦ (q, within_right Mark q (filter (stays q) kept) (q ∷ []) (inl refl), last_under m l)
        ];
        begun = λ m w. elim (within_append Mark m seen (q ∷ []) w) [
          | inl s ↦ noting.keeps.begun m s
          | inr l ↦ (elim l [ inl e ↦ subst (λ z. Begun r.entries t z.segment) (sym e) noting.here | inr z ↦ absurd z ])
        ];
      }

    -- An action on a lock or event outranks only marks of its own class, which it doesn't meet: it is noted without a
    -- test.
    signal_displaces : q.class ≡ signals → (k : Mark) → Within k kept → stays q k ≡ false → Under r t k q
    signal_displaces signal k w out =
        let p = and_parts (outranks q.class k.class) (same_image k q || meets k.class q.class) (not-false _ out) in
        elim (or_cases (same_image k q) (meets k.class q.class) p.1) [
          | inl s ↦ (own_under k (noting.keeps.were_seen k w) (eqb-true k.segment.image q.segment.image s), λ x h. outranks_tells q.class k.class x p.0 h)
          | inr m ↦ absurd (signal_meets k.class (subst (λ z. outranks z k.class ≡ true) signal p.0) (subst (λ z. meets k.class z ≡ true) signal m))
        ]

    pub keeps_signal : q.class ≡ signals → Keeps r t (seen ++ q ∷ []) (noted q kept)
    keeps_signal signal = keeps_noted (signal_displaces signal)

    module _ (c : ℕ → ℕ) (clock : TellsOthers r t q.segment c) where
      -- what a clash tells
      clash_tells : (k : Mark) → clashes c q k ≡ true → (meets k.class q.class ≡ true) × (k.segment.image ≡ q.segment.image → ⊥) × (Precedes r t k.segment q.segment → ⊥)
      clash_tells k h =
          let p = and_parts (meets k.class q.class && not (same_image k q)) (not (nat_lt k.segment.number (c k.segment.image))) h in
          let o = and_parts (meets k.class q.class) (not (same_image k q)) p.0 in
          let late = ltb-false k.segment.number (c k.segment.image) (not-true _ p.1) in
          let other : k.segment.image ≡ q.segment.image → ⊥ = λ e. both_ways (same_image k q) (not-true _ o.1) (eq-eqb k.segment.image q.segment.image e) in
          (o.0, other, λ b. let l = (clock.exactly k.segment.image k.segment.number other).1 b in absurd (omega arith))

      -- and what it tells that there is none
      no_clash_tells : (k : Mark) → clashes c q k ≡ false → meets k.class q.class ≡ true → (k.segment.image ≡ q.segment.image) ⊎ Precedes r t k.segment q.segment
      no_clash_tells k h m =
          elim (eqb_tells k.segment.image q.segment.image) [
            | inl e ↦ inl e.1
            | inr n ↦ elim (cases_lt k.segment.number (c k.segment.image)) [
              | inl l ↦ inr ((clock.exactly k.segment.image k.segment.number n.1).0 l)
              | inr l ↦ absurd (both_ways (clashes c q k) h (rw (m, n.0, le-ltb k.segment.number (c k.segment.image) l) refl))
            ]
          ]

      -- some mark clashes
      any_tells : (ks : List Mark) → any_clash c q ks ≡ true → (k : Mark) × Within k ks × (clashes c q k ≡ true)
      any_tells [] h = absurd (cc)
      any_tells (k ∷ ks) h = elim (or_cases (clashes c q k) (any_clash c q ks) h) [ inl a ↦ (k, inl refl, a) | inr b ↦ (let z = any_tells ks b in (z.0, inr z.1, z.2)) ]

      -- or none does
      none_tells : (ks : List Mark) → any_clash c q ks ≡ false → (k : Mark) → Within k ks → clashes c q k ≡ false
      none_tells [] h k w = absurd w
      none_tells (x ∷ ks) h k (inl e) = subst (λ z. clashes c q z ≡ false) (sym e) (or_parts (clashes c q x) (any_clash c q ks) h).0
      none_tells (x ∷ ks) h k (inr w) = none_tells ks (or_parts (clashes c q x) (any_clash c q ks) h).1 k w

      -- a clash of a kept mark is an unordered one that was seen
      pub clash_found : any_clash c q kept ≡ true → Unordered r t seen q
      clash_found h =
          let z = any_tells kept h in
          let y = clash_tells z.0 z.2 in
          (z.0, noting.keeps.were_seen z.0 z.1, y.0, y.1, y.2)

      -- where no kept mark clashes, each mark so far that meets q precedes it
      covered : (m : Mark) → Within m seen → any_clash c q kept ≡ false → meets m.class q.class ≡ true → Reaches r t m.segment q.segment
      covered m w none met =
          let e = noting.keeps.enough m w in
          let k = e.0 in
          reaches_join E r sound t m.segment k.segment q.segment e.2.0 (elim (no_clash_tells k (none_tells kept none k e.1) (e.2.1 q.class met)) [
            | inl s ↦ own_under k (noting.keeps.were_seen k e.1) s
            | inr b ↦ inr b
          ])

      -- without a clash no mark seen is unordered
      pub no_clash : any_clash c q kept ≡ false → Unordered r t seen q → ⊥
      no_clash none (m, w, met, other, un) = elim (covered m w none met) [ inl e ↦ other (ap (λ z. z.image) e) | inr b ↦ un b ]

      -- A kept mark clashes with q exactly where some mark so far is unordered with it.
      pub clash_where : (any_clash c q kept ≡ true) ↔ Unordered r t seen q
      clash_where = (clash_found, λ u. elim (cases_Bool (any_clash c q kept)) [ inl y ↦ y | inr n ↦ absurd (no_clash n u) ])

      -- a mark that doesn't stay precedes q, which takes its place
      clear_displaces : any_clash c q kept ≡ false → (k : Mark) → Within k kept → stays q k ≡ false → Under r t k q
      clear_displaces none k w out =
          let p = and_parts (outranks q.class k.class) (same_image k q || meets k.class q.class) (not-false _ out) in (
            elim (or_cases (same_image k q) (meets k.class q.class) p.1) [
              | inl s ↦ own_under k (noting.keeps.were_seen k w) (eqb-true k.segment.image q.segment.image s)
              | inr met ↦ covered k (noting.keeps.were_seen k w) none met
            ],
            λ x h. outranks_tells q.class k.class x p.0 h,
          )

      -- where none clashes the new list keeps what is needed
      pub keeps_more : any_clash c q kept ≡ false → Keeps r t (seen ++ q ∷ []) (noted q kept)
      keeps_more none = keeps_noted (clear_displaces none)

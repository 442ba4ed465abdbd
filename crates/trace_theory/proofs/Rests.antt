-- Where one machine stops, the other stops.
use Rattle.std.proofs.Common.{◌≡◌, ℕ, zero, suc, ◌+◌, ◌-◌, ◌<◌, List, inl, inr, refl, ap, sym, ◌∙◌, subst, arith}
use Rattle.std.proofs.lemmas.Bool.{cases_lt}
use Rattle.trace_theory.specs.Machines.{Move, goes, asks, over, Said, goes_on, go, WalkTo, Rests, ComesToRest}
use Rattle.trace_theory.specs.Simulations.{Matches, Simulates, AllAnswer, SameRest, RestsNear, Advances}
use Rattle.trace_theory.proofs.Machines.{go_more}
use Rattle.trace_theory.proofs.Simulations.{same_ask, simulated}
use Rattle.trace_theory.proofs.Back.{same_over, simulated_back}

goes_same : {C A R : Type 0} (m : Move C A R) (c d : C) → m ≡ goes c → m ≡ goes d → c ≡ d
goes_same m c d p q = cc

pub not_goes : {C A R : Type 0} (m : Move C A R) (f : C → Move C A R) (d : C) → Rests m → goes_on m f ≡ goes d → ⊥
not_goes (goes c) f d s h = s
not_goes (asks a l k) f d s h = cc
not_goes over f d s h = cc

pub same_rest_rests : {C D A R : Type 0} (m : Move C A R) (v : Move D A R) → SameRest m v → Rests v
same_rest_rests (goes c) v s = absurd s
same_rest_rests (asks a l j) v s = rw s.1 tt
same_rest_rests over v s = rw s tt

module _ (C A R : Type 0) (step : C → Move C A R) where
  on_steps : (m : Move C A R) (f g : C → Move C A R) (d e : C) → ((c : C) → f c ≡ goes d → g c ≡ goes e → d ≡ e) → goes_on m f ≡ goes d → goes_on m g ≡ goes e → d ≡ e
  on_steps (goes c) f g d e more p q = more c p q
  on_steps (asks a l k) f g d e more p q = absurd (cc)
  on_steps over f g d e more p q = absurd (cc)

  -- a configuration comes to one place where it stops
  pub one_place : (n m : ℕ) (c d e : C) → go step n c ≡ goes d → go step m c ≡ goes e → Rests (step d) → Rests (step e) → d ≡ e
  one_place zero zero c d e p q s t = sym (goes_same (go step 0 c) c d refl p) ∙ goes_same (go step 0 c) c e refl q
  one_place zero (suc m) c d e p q s t = absurd (not_goes (step c) (go step m) e (subst (λ x. Rests (step x)) (goes_same (go step 0 c) d c p refl) s) q)
  one_place (suc n) zero c d e p q s t = absurd (not_goes (step c) (go step n) d (subst (λ x. Rests (step x)) (goes_same (go step 0 c) e c q refl) t) p)
  one_place (suc n) (suc m) c d e p q s t = on_steps (step c) (go step n) (go step m) d e (λ x u v. one_place n m x d e u v s t) p q

  -- the configuration from which a stop is made
  pub record Standing (c : C) : Type 0 where
    pub at : C
    pub steps : ℕ
    pub comes : go step steps c ≡ goes at
    pub stops : Rests (step at)

  stand_step : (n : ℕ) (c : C) → ((d : C) → Rests (go step n d) → Standing d) → (m : Move C A R) → step c ≡ m → Rests (goes_on m (go step n)) → Standing c
  stand_step n c more (goes d) e s = let r = more d s in record { at = r.at; steps = suc r.steps; comes = rw e r.comes; stops = r.stops }
  stand_step n c more (asks a l k) e s = record { at = c; steps = 0; comes = refl; stops = rw e tt }
  stand_step n c more over e s = record { at = c; steps = 0; comes = refl; stops = rw e tt }

  pub standing : (n : ℕ) (c : C) → Rests (go step n c) → Standing c
  standing zero c s = absurd s
  standing (suc n) c s = stand_step n c (standing n) (step c) refl s

module _ (C D A R : Type 0) (alike : C → D → Type 0) (answers : A → R → Type 0) (source : C → Move C A R) (target : D → Move D A R) (sim : Simulates alike answers source target) where
  -- the target goes where the source goes without an ask
  pub record Silent (c : C) (d : D) : Type 0 where
    pub at : D
    pub steps : ℕ
    pub comes : go target steps d ≡ goes at
    pub alike_there : alike c at

  silent_step : (n : ℕ) (c' : C) → ((c : C) (d : D) → alike c d → go source n c ≡ goes c' → Silent c' d) → (m : Move C A R) (d : D) → Matches alike answers target m d → goes_on m (go source n) ≡ goes c' → Silent c' d
  silent_step n c' more (goes e) d (k, f, p, h) q =
      let r = more e f h q in
      record { at = r.at; steps = k + r.steps; comes = go_more D A R target k r.steps d ∙ ap (λ v. goes_on v (go target r.steps)) p ∙ r.comes; alike_there = r.alike_there }
  silent_step n c' more (asks a l j) d h q = absurd (cc)
  silent_step n c' more over d h q = absurd (cc)

  silent : (n : ℕ) (c c' : C) (d : D) → alike c d → go source n c ≡ goes c' → Silent c' d
  silent zero c c' d h p = record { at = d; steps = 0; comes = refl; alike_there = subst (λ x. alike x d) (goes_same (go source 0 c) c c' refl p) h }
  silent (suc n) c c' d h p = silent_step n c' (λ x y g q. silent n x c' y g q) (source c) d (sim c d h) p

  -- where the source comes to an ask or ends, the target does
  pub ends_too : (c : C) (d : D) → alike c d → ComesToRest source c → ComesToRest target d
  ends_too c d h (n, s) = by_move (go source n c) refl s
    where
      by_move : (m : Move C A R) → go source n c ≡ m → Rests m → ComesToRest target d
      by_move (goes e) p t = absurd t
      by_move (asks a l j) p t = let r = same_ask C D A R alike answers source target sim n a l j c d h p in (r.comes.0, rw r.comes.1 tt)
      by_move over p t = let r = same_over C D A R alike answers source target sim n c d h p in (r.0, rw r.1 tt)

  module _ (near : C → D → Type 0) (stops : RestsNear alike near source target) where
    -- what the source comes to without an ask and stops at
    pub record Stopped (c : C) (d : D) : Type 0 where
      pub at : D
      pub steps : ℕ
      pub comes : go target steps d ≡ goes at
      pub near_there : near c at
      pub same : SameRest (source c) (target at)

    stopped : (n : ℕ) (c c' : C) (d : D) → alike c d → go source n c ≡ goes c' → Rests (source c') → Stopped c' d
    stopped n c c' d h p s =
        let r = silent n c c' d h p in
        let t = stops c' r.at r.alike_there s in
        record { at = t.1; steps = r.steps + t.0; comes = go_more D A R target r.steps t.0 d ∙ ap (λ v. goes_on v (go target t.0)) r.comes ∙ t.2; near_there = t.3; same = t.4 }

    -- where the source walks to a stop, the target walks to the same stop near it
    pub rests_onward : (c c' : C) (d : D) (es : List (Said A R)) → AllAnswer answers es → alike c d → WalkTo source c es c' → Rests (source c') → (d' : D) × WalkTo target d es d' × near c' d' × SameRest (source c') (target d')
    rests_onward c c' d es ans h (m, w, n, p) s =
        let f = simulated C D A R alike answers source target sim c m d es ans h w in
        let t = stopped n m c' f.0 f.1 p s in
        (t.at, (f.0, f.2, t.steps, t.comes), t.near_there, t.same)

    -- and the other way round, where the source comes to an ask or ends wherever they stand alike
    pub rests_backward : ((c : C) (d : D) → alike c d → ComesToRest source c) → (c : C) (d d' : D) (es : List (Said A R)) → AllAnswer answers es → alike c d → WalkTo target d es d' → Rests (target d') → (c' : C) × WalkTo source c es c' × near c' d' × SameRest (source c') (target d')
    rests_backward ends c d d' es ans h (m, w, n, p) s =
        let b = simulated_back C D A R alike answers source target sim ends c d m es ans h w in
        let e = ends b.0 m b.1 in
        let a = standing C A R source e.0 b.0 e.1 in
        let t = stopped a.steps b.0 a.at m b.1 a.comes a.stops in
        let o = one_place D A R target t.steps n m t.at d' t.comes p (same_rest_rests (source a.at) (target t.at) t.same) s in
        (a.at, (b.0, b.2, a.steps, a.comes), subst (near a.at) o t.near_there, subst (λ x. SameRest (source a.at) (target x)) o t.same)

module _ (C D A R : Type 0) (alike : C → D → Type 0) (source : C → Move C A R) (target : D → Move D A R) (on : (c : C) (d : D) → alike c d → Advances alike target (source c) d) where
  ends_step : (n k : ℕ) (c : C) (d : D) → ((j : ℕ) (x : C) (y : D) → j < suc n → alike x y → Rests (go target j y) → ComesToRest source x) → k < suc (suc n) → Rests (go target k d) → (m : Move C A R) → source c ≡ m → Advances alike target m d → ComesToRest source c
  ends_step n k c d more l s (asks a i j) e h = (1, rw e tt)
  ends_step n k c d more l s over e h = (1, rw e tt)
  ends_step n k c d more l s (goes x) e (b, y, p, h) = elim (cases_lt (suc b) k) [
    | inl u ↦ (
        let o : k ≡ suc b + (k - suc b) = omega arith in
        let f = ap (λ i. go target i d) o ∙ go_more D A R target (suc b) (k - suc b) d ∙ ap (λ v. goes_on v (go target (k - suc b))) p in
        let r = more (k - suc b) x y (omega arith) h (subst Rests f s) in
        (suc r.0, rw e r.1))
    | inr u ↦ absurd (
        let o : suc b ≡ k + (suc b - k) = omega arith in
        let f = sym (ap (λ i. go target i d) o ∙ go_more D A R target k (suc b - k) d) ∙ p in
        not_goes (go target k d) (go target (suc b - k)) y s f)
  ]

  ends_within : (n k : ℕ) (c : C) (d : D) → k < suc n → alike c d → Rests (go target k d) → ComesToRest source c
  ends_within zero zero c d l h s = absurd s
  ends_within zero (suc k) c d l h s = absurd (omega arith)
  ends_within (suc n) k c d l h s = ends_step n k c d (λ j x y. ends_within n j x y) l s (source c) refl (on c d h)

  -- where each step of the source takes the target a step or more, the source comes to an ask or ends where the target
  -- does
  pub ends_before : (c : C) (d : D) → alike c d → ComesToRest target d → ComesToRest source c
  ends_before c d h (k, s) = ends_within k k c d (omega arith) h s

-- A machine each step of which does one or more steps of another has the same walks.
use Rattle.std.proofs.Common.{◌≡◌, ℕ, suc, ◌+◌, ◌-◌, [], ◌∷◌, inl, inr, refl, ap, sym, ◌∙◌, subst, arith}
use Rattle.std.proofs.lemmas.Bool.{cases_lt}
use Rattle.trace_theory.specs.Machines.{Move, goes, asks, over, goes_on, go, Comes, Rests, ComesToRest}
use Rattle.trace_theory.specs.Simulations.{Matches, Simulates, RestsNear, Advances}
use Rattle.trace_theory.specs.Equivalence.{SameWalks, Lasts}
use Rattle.trace_theory.proofs.Machines.{go_more}
use Rattle.trace_theory.proofs.Back.{simulated_back}
use Rattle.trace_theory.proofs.Rests.{not_goes, ends_too, ends_before}
use Rattle.trace_theory.proofs.Equivalence.{same_walks}

module _ (C A R : Type 0) (answers : A → R → Type 0) (step : C → Move C A R) where
  -- what a configuration goes on to comes to the same ask or end
  ends_later : (n : ℕ) (c d : C) → go step n c ≡ goes d → ComesToRest step c → ComesToRest step d
  ends_later n c d p (k, s) = elim (cases_lt n k) [
    | inl u ↦ (
        let o : k ≡ n + (k - n) = omega arith in
        let f = ap (λ i. go step i c) o ∙ go_more C A R step n (k - n) c ∙ ap (λ v. goes_on v (go step (k - n))) p in
        (k - n, subst Rests f s))
    | inr u ↦ absurd (
        let o : n ≡ k + (n - k) = omega arith in
        let f = sym (ap (λ i. go step i c) o ∙ go_more C A R step k (n - k) c) ∙ p in
        not_goes (go step k c) (go step (n - k)) d s f)
  ]

  comes_before : (n : ℕ) (c d : C) (m : Move C A R) → go step n c ≡ goes d → Comes step d m → Comes step c m
  comes_before n c d m p (k, q) = (n + k, go_more C A R step n k c ∙ ap (λ v. goes_on v (go step k)) p ∙ q)

  lasts_later : (n : ℕ) (c d : C) → go step n c ≡ goes d → Lasts answers step c → Lasts answers step d
  lasts_later n c d p h [] e ans w = subst (ComesToRest step) (sym w) (ends_later n c d p (h [] c tt refl))
  lasts_later n c d p h (s ∷ es) e ans (k, comes, w) = h (s ∷ es) e ans (k, comes_before n c d (asks s.ask s.line k) p comes, w)

  lasts_reply : (c : C) (a : A) (l : ℕ) (k : R → C) (r : R) → Comes step c (asks a l k) → answers a r → Lasts answers step c → Lasts answers step (k r)
  lasts_reply c a l k r comes ok h es e ans w = h (record { ask = a; reply = r; line = l } ∷ es) e (ok, ans) (k, comes, w)

module _ (C D A R : Type 0) (answers : A → R → Type 0) (alike : C → D → Type 0) (source : C → Move C A R) (target : D → Move D A R) (sim : Simulates alike answers source target) where
  -- the walks of the target come to an ask or end, where the source does
  pub lasts_too : ((c : C) (d : D) → alike c d → ComesToRest source c) → (c : C) (d : D) → alike c d → Lasts answers target d
  lasts_too ends c d h es f ans w =
      let r = simulated_back C D A R alike answers source target sim ends c d f es ans h w in
      ends_too C D A R alike answers source target sim r.0 f r.1 (ends r.0 f r.1)

  module _ (after near : C → D → Type 0) (stops : RestsNear alike near source target) (on : (c : C) (d : D) → alike c d → Advances alike target (source c) d) (keeps : (c : C) (d : D) → alike c d → after c d) where
    abbrev Both : C → D → Type 0
    Both c d = alike c d × Lasts answers target d

    match_both : (m : Move C A R) (d : D) → Lasts answers target d → Matches alike answers target m d → Matches Both answers target m d
    match_both (goes c) d h (n, e, p, a) = (n, e, p, (a, lasts_later D A R answers target n d e p h))
    match_both (asks b l j) d h (k, comes, a) = (k, comes, λ r ok. (a r ok, lasts_reply D A R answers target d b l k r comes ok h))
    match_both over d h m = m

    advance_both : (m : Move C A R) (d : D) → Lasts answers target d → Advances alike target m d → Advances Both target m d
    advance_both (goes c) d h (n, e, p, a) = (n, e, p, (a, lasts_later D A R answers target (suc n) d e p h))
    advance_both (asks b l j) d h m = tt
    advance_both over d h m = tt

    -- where each step of the source takes the target a step or more, and the target's walks come to an ask or end, both
    -- have the same walks
    pub same_walks_over : (c : C) (d : D) → alike c d → Lasts answers target d → SameWalks answers after near source c target d
    same_walks_over c d a h =
        same_walks C D A R answers Both after near source c target d
        (λ x y b. match_both (source x) y b.1 (sim x y b.0))
        (λ x y b. stops x y b.0)
        (λ x y b. ends_before C D A R Both source target (λ v w e. advance_both (source v) w e.1 (on v w e.0)) x y b (b.1 [] y tt refl))
        (λ x y b. keeps x y b.0)
        (a, h)

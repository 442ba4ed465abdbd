-- What the target of a simulation says and hears, its source says and hears, where the source comes to an ask or ends.
use Rattle.std.proofs.Common.{◌≡◌, ℕ, zero, suc, ◌+◌, List, [], ◌∷◌, refl, ap, sym, ◌∙◌, subst}
use Rattle.trace_theory.specs.Machines.{Move, goes, asks, over, Said, goes_on, go, Comes, Walk, Rests, ComesToRest}
use Rattle.trace_theory.specs.Simulations.{Matches, Simulates, AllAnswer}
use Rattle.trace_theory.proofs.Machines.{go_more, one_next_ask, one_stop}
use Rattle.trace_theory.proofs.Simulations.{same_ask}

module _ (C D A R : Type 0) (alike : C → D → Type 0) (answers : A → R → Type 0) (source : C → Move C A R) (target : D → Move D A R) (sim : Simulates alike answers source target) where
  -- where the source ends, the target ends
  over_step : (n : ℕ) → ((c : C) (d : D) → alike c d → go source n c ≡ over → Comes target d over) → (v : Move C A R) (d : D) → Matches alike answers target v d → goes_on v (go source n) ≡ over → Comes target d over
  over_step n more (goes c) d (m, e, p, h) q =
      let r = more c e h q in (m + r.0, go_more D A R target m r.0 d ∙ ap (λ v. goes_on v (go target r.0)) p ∙ r.1)
  over_step n more (asks b l i) d h q = absurd (cc)
  over_step n more over d h q = h

  pub same_over : (n : ℕ) (c : C) (d : D) → alike c d → go source n c ≡ over → Comes target d over
  same_over zero c d h q = absurd (cc)
  same_over (suc n) c d h q = over_step n (same_over n) (source c) d (sim c d h) q

  -- the next ask of the target is that of the source
  pub record Back (c : C) (d : D) (a : A) (l : ℕ) (k : R → D) : Type 0 where
    pub next : R → C
    pub comes : Comes source c (asks a l next)
    pub then_alike : (r : R) → answers a r → alike (next r) (k r)

  pub back_ask : (c : C) (d : D) (a : A) (l : ℕ) (k : R → D) → alike c d → Comes target d (asks a l k) → (n : ℕ) (m : Move C A R) → go source n c ≡ m → Rests m → Back c d a l k
  back_ask c d a l k h comes n (goes e) p s = absurd s
  back_ask c d a l k h comes n (asks b m j) p s =
      let t = same_ask C D A R alike answers source target sim n b m j c d h p in
      let o = one_next_ask D A R target d b a m l t.next k t.comes comes in
      let e : b ≡ a = o.0 in
      let f : m ≡ l = o.1 in
      let g : t.next ≡ k = o.2 in
      record {
        next = j;
        comes = (n, p ∙ ap (λ x. asks x m j) e ∙ ap (λ x. asks a x j) f);
        then_alike = λ r ok. subst (λ (x : R → D). alike (j r) (x r)) g (t.then_alike r (subst (λ x. answers x r) (sym e) ok));
      }
  back_ask c d a l k h comes n over p s =
      absurd (let e = one_stop D A R target d over (asks a l k) tt tt (same_over n c d h p) comes in cc)

  -- what the target says and hears, the source says and hears
  pub simulated_back : ((c : C) (d : D) → alike c d → ComesToRest source c) → (c : C) (d f : D) (es : List (Said A R)) → AllAnswer answers es → alike c d → Walk target d es f → (e : C) × alike e f × Walk source c es e
  simulated_back ends c d f [] ans h w = (c, subst (λ x. alike c x) (sym w) h, refl)
  simulated_back ends c d f (s ∷ es) ans h (k, comes, w) =
      let e = ends c d h in
      let b = back_ask c d s.ask s.line k h comes e.0 (go source e.0 c) refl e.1 in
      let r = simulated_back ends (b.next s.reply) (k s.reply) f es ans.1 (b.then_alike s.reply ans.0) w in
      (r.0, r.1, (b.next, b.comes, r.2))

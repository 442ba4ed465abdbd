-- What the source of a simulation says and hears, its target says and hears.
use Rattle.std.proofs.Common.{◌≡◌, ℕ, zero, suc, ◌+◌, List, [], ◌∷◌, refl, ap, sym, ◌∙◌, subst}
use Rattle.trace_theory.specs.Machines.{Move, goes, asks, over, Said, goes_on, go, Comes, Walk}
use Rattle.trace_theory.specs.Simulations.{Matches, Simulates, AllAnswer}
use Rattle.trace_theory.proofs.Machines.{go_more}

module _ (C D A R : Type 0) (alike : C → D → Type 0) (answers : A → R → Type 0) (source : C → Move C A R) (target : D → Move D A R) (sim : Simulates alike answers source target) where
  -- the target comes to the same ask, and stands alike after each reply that answers it
  pub record SameAsk (d : D) (a : A) (l : ℕ) (j : R → C) : Type 0 where
    pub next : R → D
    pub comes : Comes target d (asks a l next)
    pub then_alike : (r : R) → answers a r → alike (j r) (next r)

  -- and so it does from a configuration that comes to this one
  later : (n : ℕ) (d e : D) (a : A) (l : ℕ) (j : R → C) → go target n d ≡ goes e → SameAsk e a l j → SameAsk d a l j
  later n d e a l j p s = record {
    next = s.next;
    comes = (n + s.comes.0, go_more D A R target n s.comes.0 d ∙ ap (λ v. goes_on v (go target s.comes.0)) p ∙ s.comes.1);
    then_alike = s.then_alike;
  }

  one_step : (n : ℕ) (a : A) (l : ℕ) (j : R → C) → ((c : C) (d : D) → alike c d → go source n c ≡ asks a l j → SameAsk d a l j) → (v : Move C A R) (d : D) → Matches alike answers target v d → goes_on v (go source n) ≡ asks a l j → SameAsk d a l j
  one_step n a l j more (goes c) d (m, e, p, h) q = later m d e a l j p (more c e h q)
  one_step n a l j more (asks b m i) d (k, comes, h) q =
      let e : b ≡ a = cc in
      let f : m ≡ l = cc in
      let g : i ≡ j = cc in
      record {
        next = k;
        comes = (comes.0, comes.1 ∙ ap (λ x. asks x m k) e ∙ ap (λ x. asks a x k) f);
        then_alike = λ r ok. subst (λ i'. alike (i' r) (k r)) g (h r (subst (λ x. answers x r) (sym e) ok));
      }
  one_step n a l j more over d h q = absurd (cc)

  pub same_ask : (n : ℕ) (a : A) (l : ℕ) (j : R → C) (c : C) (d : D) → alike c d → go source n c ≡ asks a l j → SameAsk d a l j
  same_ask zero a l j c d h q = absurd (cc)
  same_ask (suc n) a l j c d h q = one_step n a l j (same_ask n a l j) (source c) d (sim c d h) q

  -- what the source says and hears, the target says and hears
  pub simulated : (c e : C) (d : D) (es : List (Said A R)) → AllAnswer answers es → alike c d → Walk source c es e → (f : D) × alike e f × Walk target d es f
  simulated c e d [] ans h w = (d, subst (λ x. alike x d) (sym w) h, refl)
  simulated c e d (s ∷ es) ans h (k, comes, w) =
      let t = same_ask comes.0 s.ask s.line k c d h comes.1 in
      let r = simulated (k s.reply) e (t.next s.reply) es ans.1 (t.then_alike s.reply ans.0) w in
      (r.0, r.1, (t.next, t.comes, r.2))

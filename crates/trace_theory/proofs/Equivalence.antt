-- Machines with the same walks.
use Rattle.std.proofs.Common.{refl}
use Rattle.trace_theory.specs.Machines.{Move, goes, asks, over, ComesToRest}
use Rattle.trace_theory.specs.Simulations.{Simulates, SameRest, RestsNear}
use Rattle.trace_theory.specs.Equivalence.{SameWalks}
use Rattle.trace_theory.proofs.Simulations.{simulated}
use Rattle.trace_theory.proofs.Back.{simulated_back}
use Rattle.trace_theory.proofs.Rests.{rests_onward, rests_backward, same_rest_rests}

-- a simulation whose source comes to an ask or ends wherever they stand alike gives the same walks
pub same_walks : (C D A R : Type 0) (answers : A → R → Type 0) (alike after near : C → D → Type 0) (source : C → Move C A R) (c : C) (target : D → Move D A R) (d : D)
    → Simulates alike answers source target → RestsNear alike near source target → ((x : C) (y : D) → alike x y → ComesToRest source x) → ((x : C) (y : D) → alike x y → after x y) → alike c d → SameWalks answers after near source c target d
same_walks C D A R answers alike after near source c target d sim stops ends keeps h = record {
  onward = λ es e ans w. (let r = simulated C D A R alike answers source target sim c e d es ans h w in (r.0, keeps e r.0 r.1, r.2));
  backward = λ es f ans w. (let r = simulated_back C D A R alike answers source target sim ends c d f es ans h w in (r.0, keeps r.0 f r.1, r.2));
  rests_onward = λ es e ans w s. rests_onward C D A R alike answers source target sim near stops c e d es ans h w s;
  rests_backward = λ es f ans w s. rests_backward C D A R alike answers source target sim near stops ends c d f es ans h w s;
}

same_rest_back : {C D A R : Type 0} (m : Move C A R) (v : Move D A R) → SameRest m v → SameRest v m
same_rest_back (goes c) v s = absurd s
same_rest_back (asks a l j) v s = rw s.1 (j, refl)
same_rest_back over v s = rw s refl

same_rest_through : {C D E A R : Type 0} (m : Move C A R) (v : Move D A R) (w : Move E A R) → SameRest m v → SameRest v w → SameRest m w
same_rest_through (goes c) v w s t = s
same_rest_through {C} {D} {E} {A} {R} (asks a l j) v w s t = same w (rw s.1 at t)
  where
    same : (w : Move E A R) → SameRest (asks a l s.0) w → SameRest (asks a l j) w
    same w t = t
same_rest_through over v w s t = rw s at t

module _ (C D A R : Type 0) (answers : A → R → Type 0) (after near : C → D → Type 0) (source : C → Move C A R) (c : C) (target : D → Move D A R) (d : D) (same : SameWalks answers after near source c target d) where
  -- the same, seen from the other machine
  pub same_walks_back : SameWalks answers (λ y x. after x y) (λ y x. near x y) target d source c
  same_walks_back = record {
    onward = same.backward;
    backward = same.onward;
    rests_onward = λ es f ans w s. (let r = same.rests_backward es f ans w s in (r.0, r.1, r.2, same_rest_back (source r.0) (target f) r.3));
    rests_backward = λ es e ans w s. (let r = same.rests_onward es e ans w s in (r.0, r.1, r.2, same_rest_back (source e) (target r.0) r.3));
  }

  module _ (E : Type 0) (after' near' : D → E → Type 0) (third : E → Move E A R) (e : E) (more : SameWalks answers after' near' target d third e) where
    -- machines with the same walks as one are such of one another
    pub same_walks_through : SameWalks answers (λ x z. (y : D) × after x y × after' y z) (λ x z. (y : D) × near x y × near' y z) source c third e
    same_walks_through = record {
      onward = λ es x ans w. (let r = same.onward es x ans w in let t = more.onward es r.0 ans r.2 in (t.0, (r.0, r.1, t.1), t.2));
      backward = λ es z ans w. (let t = more.backward es z ans w in let r = same.backward es t.0 ans t.2 in (r.0, (t.0, r.1, t.1), r.2));
      rests_onward = λ es x ans w s. (
          let r = same.rests_onward es x ans w s in
          let t = more.rests_onward es r.0 ans r.1 (same_rest_rests (source x) (target r.0) r.3) in
          (t.0, t.1, (r.0, r.2, t.2), same_rest_through (source x) (target r.0) (third t.0) r.3 t.3));
      rests_backward = λ es z ans w s. (
          let t = more.rests_backward es z ans w s in
          let r = same.rests_backward es t.0 ans t.1 (same_rest_rests (third z) (target t.0) (same_rest_back (target t.0) (third z) t.3)) in
          (r.0, r.1, (t.0, r.2, t.2), same_rest_through (source r.0) (target t.0) (third z) r.3 t.3));
    }

-- what follows from what is the same is the same
pub same_walks_weaken : (C D A R : Type 0) (answers : A → R → Type 0) (after near after' near' : C → D → Type 0) (source : C → Move C A R) (c : C) (target : D → Move D A R) (d : D)
    → ((x : C) (y : D) → after x y → after' x y) → ((x : C) (y : D) → near x y → near' x y) → SameWalks answers after near source c target d → SameWalks answers after' near' source c target d
same_walks_weaken C D A R answers after near after' near' source c target d f g same = record {
  onward = λ es e ans w. (let r = same.onward es e ans w in (r.0, f e r.0 r.1, r.2));
  backward = λ es e ans w. (let r = same.backward es e ans w in (r.0, f r.0 e r.1, r.2));
  rests_onward = λ es e ans w s. (let r = same.rests_onward es e ans w s in (r.0, r.1, g e r.0 r.2, r.3));
  rests_backward = λ es e ans w s. (let r = same.rests_backward es e ans w s in (r.0, r.1, g r.0 e r.2, r.3));
}

-- Two machines that say and hear the same from where they start, and stop in the same way.
use Rattle.std.specs.Prelude.{List}
use Rattle.trace_theory.specs.Machines.{Move, Said, Walk, WalkTo, Rests, ComesToRest}
use Rattle.trace_theory.specs.Simulations.{AllAnswer, SameRest}

-- From c the one machine and from d the other have the same walks. `after` is what is the same of them after each
-- reply, `near` where they stop.
pub record SameWalks {C D A R : Type 0} (answers : A → R → Type 0) (after near : C → D → Type 0) (source : C → Move C A R) (c : C) (target : D → Move D A R) (d : D) : Type 0 where
  pub onward : (es : List (Said A R)) (e : C) → AllAnswer answers es → Walk source c es e → (f : D) × after e f × Walk target d es f
  pub backward : (es : List (Said A R)) (f : D) → AllAnswer answers es → Walk target d es f → (e : C) × after e f × Walk source c es e
  pub rests_onward : (es : List (Said A R)) (e : C) → AllAnswer answers es → WalkTo source c es e → Rests (source e) → (f : D) × WalkTo target d es f × near e f × SameRest (source e) (target f)
  pub rests_backward : (es : List (Said A R)) (f : D) → AllAnswer answers es → WalkTo target d es f → Rests (target f) → (e : C) × WalkTo source c es e × near e f × SameRest (source e) (target f)

-- each walk from c on comes to a further ask or ends
abbrev pub Lasts : {C A R : Type 0} → (A → R → Type 0) → (C → Move C A R) → C → Type 0
Lasts {C} {A} {R} answers step c = (es : List (Said A R)) (d : C) → AllAnswer answers es → Walk step c es d → ComesToRest step d

-- The iterations of a loop, and its iteration count (ISO/IEC 1539-1:2018, 11.1.7.4).
use Rattle.std.specs.Prelude.{ℕ, zero, suc, ◌+◌, ◌<◌, ◌≡◌, List, [], ◌∷◌, ◌++◌, Option, Some}
use Rattle.trace_theory.specs.Machines.{Said, WalkTo}
use Rattle.walk_theory.specs.Language.{holds, fails, Language}
use Rattle.walk_theory.specs.Syntax.{Steps}
use Rattle.walk_theory.specs.Walks.{Loop, Task, again, to, at_body, step}
use Rattle.walk_theory.specs.Evaluation.{leaves, outcome}

module _ {A C Q R : Type 0} (L : Language A C Q R) where
  -- `left` is the loop's iteration count (11.1.7.4.1), where there is one: the test holds exactly where an iteration is
  -- left and changes nothing, and the step to the next iteration takes one away.
  pub record IsCounted (left : C → Option ℕ) (m : Loop A) : Type 0 where
    pub tested : C → C
    pub tests : (c : C) (r : ℕ) → left c ≡ Some r → outcome L m.test c ≡ leaves (tested c)
    pub last : (c : C) → left c ≡ Some 0 → L.test (tested c) ≡ fails c
    pub more : (c : C) (r : ℕ) → left c ≡ Some (suc r) → L.test (tested c) ≡ holds c
    pub takes : (c d : C) (r : ℕ) → left c ≡ Some (suc r) → outcome L m.next c ≡ leaves d → left d ≡ Some r

  module _ (procedures : ℕ → Steps A) (limit : ℕ) (left : C → Option ℕ) where
    -- One iteration: it counts one statement, its body says and hears these and comes to its end or to a CYCLE, with
    -- the iteration count as it was, and then comes the step to the next iteration.
    pub record Iteration (m : Loop A) (c : C) (n : ℕ) (es : List (Said Q R)) (d : C) (k : ℕ) : Type 0 where
      pub below : n < limit
      pub end : C
      pub body : (ts : List (Task A)) → WalkTo (step L procedures limit) (at_body m ts c (n + 1)) es (to (again m ∷ ts) end k)
      pub keeps : left end ≡ left c
      pub next : outcome L m.next end ≡ leaves d

    -- so many iterations, one after another
    abbrev pub Iterations : Loop A → ℕ → C → ℕ → List (Said Q R) → C → ℕ → Type 0
    Iterations m zero c n es d k = (es ≡ []) × (d ≡ c) × (k ≡ n)
    Iterations m (suc r) c n es d k = (e : C) × (j : ℕ) × (fs : List (Said Q R)) × (gs : List (Said Q R)) × Iteration m c n fs e j × Iterations m r e j gs d k × (es ≡ fs ++ gs)

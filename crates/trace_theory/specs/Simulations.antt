-- Two machines of which one does what the other does: the source, with configurations C, and the target, with D.
use Rattle.std.specs.Prelude.{ℕ, suc, ◌≡◌, List, [], ◌∷◌}
use Rattle.trace_theory.specs.Machines.{Move, goes, asks, over, Said, go, Comes, Rests}

-- what the source does in one step the target does in any number of steps, and then they stand alike again
abbrev pub Matches : {C D A R : Type 0} → (C → D → Type 0) → (A → R → Type 0) → (D → Move D A R) → Move C A R → D → Type 0
Matches {C} {D} {A} {R} alike answers target (goes c) d = (n : ℕ) × (e : D) × (go target n d ≡ goes e) × alike c e
Matches {C} {D} {A} {R} alike answers target (asks a l j) d = (k : R → D) × Comes target d (asks a l k) × ((r : R) → answers a r → alike (j r) (k r))
Matches {C} {D} {A} {R} alike answers target over d = Comes target d over

-- wherever they stand alike, the target matches the source's step
abbrev pub Simulates : {C D A R : Type 0} → (C → D → Type 0) → (A → R → Type 0) → (C → Move C A R) → (D → Move D A R) → Type 0
Simulates {C} {D} alike answers source target = (c : C) (d : D) → alike c d → Matches alike answers target (source c) d

-- each reply answers its ask
abbrev pub AllAnswer : {A R : Type 0} → (A → R → Type 0) → List (Said A R) → Type 0
AllAnswer answers [] = Unit {0}
AllAnswer answers (e ∷ es) = answers e.ask e.reply × AllAnswer answers es

-- the second move rests as the first does: at the same ask and line, or over
abbrev pub SameRest : {C D A R : Type 0} → Move C A R → Move D A R → Type 0
SameRest (goes c) m = ⊥
SameRest {C} {D} {A} {R} (asks a l j) m = (k : R → D) × (m ≡ asks a l k)
SameRest over m = m ≡ over

-- wherever they stand alike and the source is at rest, the target comes without an ask to a place near it where it
-- rests in the same way
abbrev pub RestsNear : {C D A R : Type 0} → (alike near : C → D → Type 0) → (C → Move C A R) → (D → Move D A R) → Type 0
RestsNear {C} {D} alike near source target =
    (c : C) (d : D) → alike c d → Rests (source c) → (n : ℕ) × (e : D) × (go target n d ≡ goes e) × near c e × SameRest (source c) (target e)

-- what the source does in one step takes the target a step or more
abbrev pub Advances : {C D A R : Type 0} → (C → D → Type 0) → (D → Move D A R) → Move C A R → D → Type 0
Advances {C} {D} alike target (goes c) d = (n : ℕ) × (e : D) × (go target (suc n) d ≡ goes e) × alike c e
Advances alike target (asks a l j) d = Unit {0}
Advances alike target over d = Unit {0}

-- A machine that goes by small steps and asks: its configurations C, asks A and replies R.
use Rattle.std.specs.Prelude.{ℕ, zero, suc, ◌+◌, ◌<◌, ◌≡◌, ◌⊎◌, List, [], ◌∷◌}

-- what a configuration does next: it goes on, asks at a line and waits for the reply, or is over
pub data Move (C A R : Type 0) : Type 0 where
  goes : C → Move C A R
  asks : A → ℕ → (R → C) → Move C A R
  over : Move C A R

-- what a machine said and heard: an ask, its reply and the line of the ask
pub record Said (A R : Type 0) : Type 0 where
  pub ask : A
  pub reply : R
  pub line : ℕ

-- a move that goes on, followed by the next one
abbrev pub goes_on : {C A R : Type 0} → Move C A R → (C → Move C A R) → Move C A R
goes_on (goes c) f = f c
goes_on (asks a l k) f = asks a l k
goes_on over f = over

-- at most n steps, up to the next ask or the end
abbrev pub go : {C A R : Type 0} → (C → Move C A R) → ℕ → C → Move C A R
go step zero c = goes c
go step (suc n) c = goes_on (step c) (go step n)

-- the configuration comes to this move without an ask before it
abbrev pub Comes : {C A R : Type 0} → (C → Move C A R) → C → Move C A R → Type 0
Comes step c m = (n : ℕ) × (go step n c ≡ m)

-- the machine says and hears these from c on, and d is how it goes on after the last reply
abbrev pub Walk : {C A R : Type 0} → (C → Move C A R) → C → List (Said A R) → C → Type 0
Walk step c [] d = d ≡ c
Walk {C} {A} {R} step c (e ∷ es) d = (k : R → C) × Comes step c (asks e.ask e.line k) × Walk step (k e.reply) es d

-- the machine says and hears these from c on, and then comes to d without a further ask
abbrev pub WalkTo : {C A R : Type 0} → (C → Move C A R) → C → List (Said A R) → C → Type 0
WalkTo {C} step c es d = (m : C) × Walk step c es m × (n : ℕ) × (go step n m ≡ goes d)

-- a configuration has at most one next ask, at one line, after which it goes on in one way
abbrev pub OneNextAsk : {C A R : Type 0} → (C → Move C A R) → Type 0
OneNextAsk {C} {A} {R} step =
    (c : C) (a b : A) (l m : ℕ) (j k : R → C) → Comes step c (asks a l j) → Comes step c (asks b m k) → (a ≡ b) × (l ≡ m) × (j ≡ k)

-- at rest: at an ask, or over
abbrev pub Rests : {C A R : Type 0} → Move C A R → Type 0
Rests (goes c) = ⊥
Rests (asks a l k) = Unit {0}
Rests over = Unit {0}

-- the configuration comes to an ask or is over
abbrev pub ComesToRest : {C A R : Type 0} → (C → Move C A R) → C → Type 0
ComesToRest step c = (n : ℕ) × Rests (go step n c)

-- after a step from c that asks nothing all is still well, and either less is left to do or one more is counted below
-- the limit
abbrev pub Falls : {C A R : Type 0} → (Well : C → Type 0) → (count rest : C → ℕ) → (limit : ℕ) → C → Move C A R → Type 0
Falls Well count rest limit c (goes d) = Well d × (((count d ≡ count c) × (rest d < rest c)) ⊎ ((count d ≡ count c + 1) × (count c < limit)))
Falls Well count rest limit c (asks a l k) = Unit {0}
Falls Well count rest limit c over = Unit {0}

-- at d all is well, and less is left to do than at c or more is counted
abbrev pub Onward : {C : Type 0} → (Well : C → Type 0) → (count rest : C → ℕ) → (limit : ℕ) → C → C → Type 0
Onward Well count rest limit c d = Well d × (((count d ≡ count c) × (rest d < rest c)) ⊎ ((count c < count d) × (count c < limit)))

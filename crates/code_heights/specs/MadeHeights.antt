-- The heights of the code that a program is made into. At the start of each statement nothing of its body stands on the
-- stack.
use Rattle.std.specs.Prelude.{ℕ, ◌+◌, ◌-◌, ◌≤◌, ◌≡◌, List, [], ◌∷◌, ◌++◌}
use Rattle.walk_theory.specs.Syntax.{Parts, end_parts, value, act, enter, either, Form, simple, choose, loop, around, exit, cycle, return, Branches, otherwise, branch, Steps, stop, also}

module _ {A : Type 0} (tested : ℕ) (takes leaves : A → ℕ) where
  -- how many values stand after these parts, where h stood before
  abbrev pub after : ℕ → Parts A → ℕ
  after h end_parts = h
  after h (value p q) = after (after h p) q
  after h (act a q) = after ((h - takes a) + leaves a) q
  after h (enter k q) = after h q
  after h (either a b q) = after (after (h - tested) a) q

  -- no act of these parts takes more than stands there; both sides of a choice leave as many
  abbrev pub Balanced : ℕ → Parts A → Type 0
  Balanced h end_parts = Unit {0}
  Balanced h (value p q) = Balanced h p × Balanced (after h p) q
  Balanced h (act a q) = (takes a ≤ h) × Balanced ((h - takes a) + leaves a) q
  Balanced h (enter k q) = Balanced h q
  Balanced h (either a b q) = (tested ≤ h) × Balanced (h - tested) a × Balanced (h - tested) b × (after (h - tested) b ≡ after (h - tested) a) × Balanced (after (h - tested) a) q

  -- parts that leave n values on an empty stack
  abbrev pub Leaves : ℕ → Parts A → Type 0
  Leaves n q = Balanced 0 q × (after 0 q ≡ n)

  -- a simple statement leaves nothing, a test leaves its truth value
  abbrev mutual
    pub IsEven : Steps A → Type 0
    IsEven stop = Unit {0}
    IsEven (also l f rest) = IsEvenForm f × IsEven rest

    pub IsEvenForm : Form A → Type 0
    IsEvenForm (simple q) = Leaves 0 q
    IsEvenForm (choose q bs) = Leaves 0 q × AreEven bs
    IsEvenForm (loop s n t b) = Leaves 0 s × Leaves 0 n × Leaves tested t × IsEven b
    IsEvenForm (around q b m r) = Leaves 0 q × IsEven b × Leaves 0 r
    IsEvenForm (exit n) = Unit {0}
    IsEvenForm (cycle n) = Unit {0}
    IsEvenForm return = Unit {0}

    pub AreEven : Branches A → Type 0
    AreEven (otherwise b) = IsEven b
    AreEven (branch l q a rest) = Leaves tested q × IsEven a × AreEven rest

  abbrev pub AllEven : List (Steps A) → Type 0
  AllEven [] = Unit {0}
  AllEven (b ∷ bs) = IsEven b × AllEven bs

  -- the height at each step of the code
  abbrev pub parts_heights : ℕ → Parts A → List ℕ
  parts_heights h end_parts = []
  parts_heights h (value p q) = parts_heights h p ++ parts_heights (after h p) q
  parts_heights h (act a q) = h ∷ parts_heights ((h - takes a) + leaves a) q
  parts_heights h (enter k q) = h ∷ parts_heights h q
  parts_heights h (either a b q) = h ∷ (parts_heights (h - tested) a ++ (after (h - tested) a ∷ (parts_heights (h - tested) b ++ parts_heights (after (h - tested) a) q)))

  abbrev mutual
    pub steps_heights : Steps A → List ℕ
    steps_heights stop = []
    steps_heights (also l f rest) = 0 ∷ (form_heights f ++ steps_heights rest)

    pub form_heights : Form A → List ℕ
    form_heights (simple q) = parts_heights 0 q
    form_heights (choose q bs) = parts_heights 0 q ++ branches_heights bs
    form_heights (loop s n t b) = parts_heights 0 s ++ (0 ∷ (0 ∷ (steps_heights b ++ (parts_heights 0 n ++ (parts_heights 0 t ++ tested ∷ [])))))
    form_heights (around q b m r) = parts_heights 0 q ++ (steps_heights b ++ (0 ∷ parts_heights 0 r))
    form_heights (exit n) = 0 ∷ []
    form_heights (cycle n) = 0 ∷ []
    form_heights return = 0 ∷ []

    pub branches_heights : Branches A → List ℕ
    branches_heights (otherwise b) = steps_heights b
    branches_heights (branch l q a rest) = parts_heights 0 q ++ (tested ∷ (steps_heights a ++ (0 ∷ branches_heights rest)))

  abbrev pub bodies_heights : List (Steps A) → List ℕ
  bodies_heights [] = 0 ∷ []
  bodies_heights (b ∷ bs) = steps_heights b ++ 0 ∷ bodies_heights bs

  abbrev pub program_heights : List (Steps A) → List ℕ
  program_heights bs = 0 ∷ 0 ∷ 0 ∷ 0 ∷ bodies_heights bs

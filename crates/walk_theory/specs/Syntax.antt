-- A program as its walk sees it: parts in the order in which they are done, and the forms of control.
use Rattle.std.specs.Prelude.{ℕ, zero, suc, List, [], ◌∷◌}

-- what an expression or a simple statement does, in order
pub data Parts (A : Type 0) : Type 0 where
  end_parts : Parts A
  value : Parts A → Parts A → Parts A  -- evaluates an operand, and goes on
  act : A → Parts A → Parts A  -- acts on what is there, and goes on
  enter : ℕ → Parts A → Parts A  -- runs the body of a procedure, and goes on
  either : Parts A → Parts A → Parts A → Parts A  -- takes a truth value, does the one or the other, and goes on

-- forms of statements, choices and blocks
mutual
  -- a form of statement
  pub data Form (A : Type 0) : Type 0 where
    simple : Parts A → Form A
    choose : Parts A → Branches A → Form A
    loop : (start next test : Parts A) (body : Steps A) → Form A
    around : (before : Parts A) (body : Steps A) (line : ℕ) (after : Parts A) → Form A
    exit : ℕ → Form A  -- leaves the loop that is so many loops out
    cycle : ℕ → Form A  -- ends the iteration of that loop
    return : Form A

  -- the blocks of a choice, each with the line and the parts of its test
  pub data Branches (A : Type 0) : Type 0 where
    otherwise : Steps A → Branches A
    branch : ℕ → Parts A → Steps A → Branches A → Branches A

  -- a block: statements with their lines
  pub data Steps (A : Type 0) : Type 0 where
    stop : Steps A
    also : ℕ → Form A → Steps A → Steps A

-- the body of a procedure, by its number
abbrev pub body_of : {A : Type 0} → List (Steps A) → ℕ → Steps A
body_of [] k = stop
body_of (b ∷ bs) zero = b
body_of (b ∷ bs) (suc k) = body_of bs k

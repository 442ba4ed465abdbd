-- Code, also code that no program was made into, that can't go on for ever between two counts.
use Rattle.std.specs.Prelude.{ℕ, zero, suc, ◌+◌, ◌-◌, ◌*◌, ◌<◌, ◌≤◌, ◌≡◌, ◌⊎◌, Bool, true, false, cond, List, [], ◌∷◌, length, Option, Some, None, slice_get}
use Rattle.walk_theory.specs.Code.{Instr, does_act, count_one, jump, jump_if, jump_unless, skip, skip_unless, call, go_back, Line, on, State}

-- a step that counts
abbrev pub is_count : {A : Type 0} → Instr A → Bool
is_count (does_act a) = false
is_count count_one = true
is_count (jump q) = false
is_count (jump_if q) = false
is_count (jump_unless q) = false
is_count (skip k) = false
is_count (skip_unless k) = false
is_count (call q) = false
is_count go_back = false

-- a place with a step that counts
abbrev pub counts : {A : Type 0} → Option (Line A) → Bool
counts None = false
counts (Some i) = is_count i.instr

-- on from p, or to a count
abbrev pub GoesOn : {A : Type 0} → List (Line A) → ℕ → ℕ → Type 0
GoesOn code p q = (p < q) ⊎ (counts (slice_get code q) ≡ true)

-- where this step may jump to from p
abbrev pub Fine : {A : Type 0} → List (Line A) → ℕ → Instr A → Type 0
Fine code p (does_act a) = Unit {0}
Fine code p count_one = Unit {0}
Fine code p (jump q) = GoesOn code p q
Fine code p (jump_if q) = GoesOn code p q
Fine code p (jump_unless q) = GoesOn code p q
Fine code p (skip k) = Unit {0}
Fine code p (skip_unless k) = Unit {0}
Fine code p (call q) = Unit {0}
Fine code p go_back = Unit {0}

-- each jump goes on, or to a count
abbrev pub IsGood : {A : Type 0} → List (Line A) → Type 0
IsGood {A} code = (p l : ℕ) (i : Instr A) → slice_get code p ≡ Some (on l i) → Fine code p i

-- how far it is from p to behind the code's end
abbrev pub ahead : ℕ → ℕ → ℕ
ahead size p = suc size - p

-- a number whose digits are these ways, the one of the innermost body counting least
abbrev pub ways : ℕ → List ℕ → ℕ
ways size [] = 0
ways size (p ∷ ps) = ways size ps * (size + 2) + ahead size p

-- b to the power k
abbrev pub power : ℕ → ℕ → ℕ
power b zero = 1
power b (suc k) = b * power b k

-- how much is left to do before the next count, where at most so many bodies are run at once
abbrev pub rest : {A C : Type 0} → List (Line A) → (deepest : ℕ) → State C → ℕ
rest code deepest d = cond (counts (slice_get code d.at)) 0 (ways (length code) (d.at ∷ d.returns) * power (length code + 2) (deepest - length d.returns))

-- no more bodies are being run
abbrev pub IsShallow : {C : Type 0} → (deepest : ℕ) → State C → Type 0
IsShallow deepest d = length d.returns ≤ deepest

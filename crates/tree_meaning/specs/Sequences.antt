-- Parts one after another.
use Rattle.std.specs.Prelude.{ℕ, ◌==◌, ◌||◌, Bool, true, false, cond, List, [], ◌∷◌, ℤ, pos}
use Rattle.walk_theory.specs.Syntax.{Parts, end_parts, value, act, enter, either}
use Rattle.image_acts.specs.Acts.{Act, constant, stack, drop, copy, bring, take_cell, take_cells, release, operator, equal, any_of, print, print_number, print_truth, ask, error_stop}

infixr 40 ◌▸◌
-- the one, and then the other
abbrev pub ◌▸◌ : Parts Act → Parts Act → Parts Act
p ▸ q = value p q

-- acts, one after another
abbrev pub doing : List Act → Parts Act
doing [] = end_parts
doing (a ∷ as') = act a (doing as')

-- nothing
abbrev pub nothing : Parts Act
nothing = end_parts

abbrev pub pushing : ℤ → Parts Act
pushing z = doing (constant z ∷ [])

-- moving numbers, where there are any
abbrev pub dropping : ℕ → Parts Act
dropping n = cond (n == 0) nothing (doing (stack (drop n) ∷ []))

abbrev pub copying : (depth n : ℕ) → Parts Act
copying depth n = cond (n == 0) nothing (doing (stack (copy depth n) ∷ []))

abbrev pub bringing : (depth n : ℕ) → Parts Act
bringing depth n = cond ((depth == 0) || (n == 0)) nothing (doing (stack (bring depth n) ∷ []))

-- whether parts take evaluation cells of their own body
abbrev pub is_taking : Act → Bool
is_taking (stack take_cell) = true
is_taking (stack take_cells) = true
is_taking (print print_number) = true
is_taking (print print_truth) = true
is_taking a = false

abbrev pub takes : Parts Act → Bool
takes end_parts = false
takes (value p q) = takes p || takes q
takes (act a q) = is_taking a || takes q
takes (enter k q) = takes q
takes (either p q r) = takes p || (takes q || takes r)

-- a statement, a condition or the head of a construct: its evaluation cells are free again behind it
abbrev pub released : Parts Act → Parts Act
released p = cond (takes p) (p ▸ doing (stack release ∷ [])) p

-- where the truth value on top is true the one, else the other
abbrev pub choosing : Parts Act → Parts Act → Parts Act
choosing p q = either p q end_parts

-- puts down whether the number on top, which stays, is one of these
abbrev pub is_one_of : List ℤ → Parts Act
is_one_of [] = nothing
is_one_of (s ∷ ss) = doing (stack (copy 1 1) ∷ constant s ∷ operator equal ∷ operator any_of ∷ []) ▸ is_one_of ss

-- Takes the status on top: any but 0 and these ones starts error termination (11.6.11, 9.7.4).
abbrev pub requiring : List ℤ → Parts Act
requiring accepted = doing (stack (copy 0 1) ∷ constant (pos 0) ∷ operator equal ∷ []) ▸ is_one_of accepted ▸ choosing (dropping 1) (doing (ask error_stop ∷ []))

-- The same for the tokens of one statement, by places with their levels and conditions.
use Rattle.std.specs.Prelude.{ℕ, zero, suc, ◌+◌, Bool, false, ◌||◌, List, [], ◌∷◌, length, Option, None}
use Rattle.reader_theory.specs.Limits.{place_by, nearer}
use Rattle.fortran_grammar.specs.Tokens.{Token}
use Rattle.statement_reader.specs.Forms.{Place, form_reader, part_reader}
use Rattle.statement_reader.specs.Parts.{Form}
use Rattle.program_reader.specs.Sequence.{State, forms, placed_at, action_forms}
use Rattle.refusal_reasons.specs.Reasons.{levels_before, through}
use Rattle.refusal_reasons.specs.Statements.{form_goes}

-- the forms of actions, behind so many conditions
abbrev pub actions_behind : ℕ → ℕ → List Place
actions_behind level conditions = placed_at level conditions action_forms

-- one of these forms goes through the tokens, or is read and what it leaves is gone through
abbrev pub one_goes : (List Token → Bool) → ℕ → List Place → List Token → Bool
one_goes later limit [] us = false
one_goes later limit (i ∷ is) us = through (λ b. later) (part_reader limit i us) || one_goes later limit is us

-- so an action behind so many conditions, where there are no more than n tokens
abbrev pub action_goes : ℕ → ℕ → ℕ → ℕ → List Token → Bool
action_goes limit level zero conditions us = false
action_goes limit level (suc n) conditions us = one_goes (action_goes limit level n (suc conditions)) limit (actions_behind level conditions) us

-- so a form with as many levels as there are tokens
abbrev pub statement_goes : Place → List Token → Bool
statement_goes i us = through (λ b. action_goes (levels_before i + length us) i.level (length us) (suc i.conditions)) (part_reader (levels_before i + length us) i us)

-- the nearest place of these forms, where that of what is left behind a part is known
abbrev pub nearest : (List Token → Option ℕ) → ℕ → List Place → List Token → Option ℕ
nearest later limit [] us = None
nearest later limit (i ∷ is) us = nearer (place_by (statement_goes i us) us (λ b. later) (part_reader limit i us)) (nearest later limit is us)

abbrev pub place_behind : ℕ → ℕ → ℕ → ℕ → List Token → Option ℕ
place_behind limit level zero conditions us = None
place_behind limit level (suc n) conditions us = nearest (place_behind limit level n (suc conditions)) limit (actions_behind level conditions) us

-- how many tokens of a statement stand before the first that is too deep
abbrev pub place_in : ℕ → State → List Token → Option ℕ
place_in limit s [] = None
place_in limit s (y ∷ us) = nearest (place_behind limit (length s.blocks) (length us) (suc s.conditions)) limit (forms s) (y ∷ us)

-- by the levels that are left
-- how many tokens stand before the first that is too deep: in a form that goes through all of them where as many levels
-- are left
abbrev pub form_before : (List Token → Option ℕ) → ℕ → Form → List Token → Option ℕ
form_before later left i us = place_by (form_goes (length us) i us) us (λ b. later) (form_reader i left us)

-- the nearest one of these forms
abbrev pub nearest_form : (List Token → Option ℕ) → ℕ → List Form → List Token → Option ℕ
nearest_form later left [] us = None
nearest_form later left (i ∷ is) us = nearer (form_before later left i us) (nearest_form later left is us)

-- so of an action behind a condition
abbrev pub action_before : ℕ → List Token → Option ℕ
action_before zero us = None
action_before (suc left) us = nearest_form (action_before left) left action_forms us

-- so of a statement of one of these forms
abbrev pub statement_before : ℕ → List Form → List Token → Option ℕ
statement_before left is us = nearest_form (action_before left) left is us

-- The same for the tokens of one statement, of which a part leaves something only behind the condition of a one-line
-- IF: by the forms of its place, each with its own reader, and the number of levels that are left.
use Rattle.std.specs.Prelude.{ℕ, zero, suc, ◌-◌, max, Bool, true, false, cond, ◌||◌, List, [], ◌∷◌, length, Option, Some, None}
use Rattle.reader_theory.specs.Words.{expected, too_deep, Verdict, found, fault}
use Rattle.fortran_grammar.specs.Tokens.{Token}
use Rattle.statement_reader.specs.Heads.{is_over}
use Rattle.statement_reader.specs.Parts.{Part, Form}
use Rattle.statement_reader.specs.Forms.{form_reader}
use Rattle.program_reader.specs.Sequence.{action_forms}
use Rattle.refusal_reasons.specs.Reasons.{through}

-- no token but the last ends a statement
abbrev pub one_statement : List Token → Bool
one_statement [] = true
one_statement (y ∷ []) = true
one_statement (y ∷ z ∷ ts) = cond (is_over y) false (one_statement (z ∷ ts))

-- one of these forms goes through the tokens
abbrev pub forms_go : (List Token → Bool) → ℕ → List Form → List Token → Bool
forms_go later left [] us = false
forms_go later left (i ∷ is) us = through (λ b. later) (form_reader i left us) || forms_go later left is us

-- an action does behind a condition, before which so many levels were left
abbrev pub action_goes_on : ℕ → List Token → Bool
action_goes_on zero us = false
action_goes_on (suc left) us = forms_go (action_goes_on left) left action_forms us

-- a form goes through the tokens
abbrev pub form_goes : ℕ → Form → List Token → Bool
form_goes left i us = through (λ b. action_goes_on left) (form_reader i left us)

-- how many tokens stand from the first that is too deep on, where a form goes through all: at its fault, or behind its
-- part
abbrev pub place_from : Bool → (List Token → Option ℕ) → Verdict Token Part → Option ℕ
place_from goes later (found b r) = later r
place_from goes later (fault expected r) = None
place_from goes later (fault too_deep r) = cond goes (Some (length r)) None

-- in a form that goes through all tokens where as many levels are left
abbrev pub form_place : (List Token → Option ℕ) → ℕ → Form → List Token → Option ℕ
form_place later left i us = place_from (form_goes (length us) i us) later (form_reader i left us)

-- the earlier of two places
abbrev pub earlier : Option ℕ → Option ℕ → Option ℕ
earlier None o = o
earlier (Some d) None = Some d
earlier (Some d) (Some e) = Some (max d e)

-- the earliest one of these forms
abbrev pub earliest : (List Token → Option ℕ) → ℕ → List Form → List Token → Option ℕ
earliest later left [] us = None
earliest later left (i ∷ is) us = earlier (form_place later left i us) (earliest later left is us)

-- so of an action behind a condition
abbrev pub action_place : ℕ → List Token → Option ℕ
action_place zero us = None
action_place (suc left) us = earliest (action_place left) left action_forms us

-- so of a statement of one of these forms
abbrev pub statement_place : ℕ → List Form → List Token → Option ℕ
statement_place left is us = earliest (action_place left) left is us

-- how many of so many tokens stand before it
abbrev pub before : ℕ → Option ℕ → Option ℕ
before n None = None
before n (Some k) = Some (n - k)

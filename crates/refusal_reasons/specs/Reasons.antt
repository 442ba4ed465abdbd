-- The reason of a refusal, told by the readers of parts: by each form that a place allows, where its reader comes to a
-- level too deep, and whether the form goes on behind it at all.
use Rattle.std.specs.Prelude.{ℕ, zero, suc, ◌+◌, max, Bool, true, false, ◌||◌, List, [], ◌∷◌, length, Option}
use Rattle.reader_theory.specs.Words.{Verdict, found, fault}
use Rattle.reader_theory.specs.Limits.{is_empty}
use Rattle.reader_theory.specs.Texts.{place_here}
use Rattle.fortran_grammar.specs.Tokens.{Token}
use Rattle.statement_reader.specs.Parts.{Part}
use Rattle.statement_reader.specs.Forms.{Place, part_reader}
use Rattle.program_reader.specs.Sequence.{State, forms, next}

-- a part goes through all tokens, or is read and what it leaves is gone through
abbrev pub through : (Part → List Token → Bool) → Verdict Token Part → Bool
through later (found b []) = true
through later (found b (y ∷ r)) = later b (y ∷ r)
through later (fault c r) = is_empty r

-- one of these forms does, with what may stand behind it
abbrev pub some_through : (State → List Token → Bool) → ℕ → State → List Place → List Token → Bool
some_through rest limit s [] us = false
some_through rest limit s (i ∷ is) us = through (λ b. rest (next s b)) (part_reader limit i us) || some_through rest limit s is us

-- so from a place on, where so many levels may be open and there are no more than so many tokens
abbrev pub goes_from : ℕ → ℕ → State → List Token → Bool
goes_from limit zero s us = false
goes_from limit (suc n) s us = some_through (goes_from limit n) limit s (forms s) us

-- how many levels are open at a place, one for each construct and for each condition
abbrev pub levels_at : State → ℕ
levels_at s = s.conditions + length s.blocks

abbrev pub levels_before : Place → ℕ
levels_before i = i.conditions + i.level

-- a limit that so many tokens can't come to from there
abbrev pub out_of_reach : State → Place → ℕ → ℕ
out_of_reach s i n = max (levels_before i) (levels_at s) + n

-- whether a part of this form, and what may stand behind it, goes through the tokens whatever its levels
abbrev pub goes : State → Place → List Token → Bool
goes s i us = through (λ b. goes_from (out_of_reach s i (length us)) (length us) (next s b)) (part_reader (out_of_reach s i (length us)) i us)

-- How many of the tokens stand before the first that is too deep, if there is one: the nearest one of those at which
-- the forms that go through all tokens come to a level too deep; behind a part that is read, of those that its next
-- place allows.
abbrev pub place_at : ℕ → State → List Token → Option ℕ
place_at limit s us = place_here (part_reader limit) forms next goes (length us) s us

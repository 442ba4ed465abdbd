-- How a part ends that was read and isn't kept.
use Rattle.std.specs.Prelude.{ℕ, ◌≡◌, ◌<◌, Bool, true, List, [], ◌∷◌, Result, Ok, Err}
use Rattle.reader_theory.specs.Words.{Verdict, found}
use Rattle.fortran_grammar.specs.Tokens.{Token}
use Rattle.expr_reader.specs.Results.{Stands}
use Rattle.expr_reader.specs.declared.error.Stop.{Stop}
use Rattle.statement_reader.specs.Parts.{Part}
use Rattle.refusal_reasons.specs.Statements.{action_goes_on}

-- some part was found, and these tokens stand behind it; or there was this fault
abbrev pub Leaves : {X : Type 0} → (X → List Token) → Result X Stop → Verdict Token Part → Type 0
Leaves look (Ok x) v = (b : Part) × (v ≡ found b (look x))
Leaves look (Err s) v = Stands s v

-- so many words can be counted by a level each
abbrev pub fits : ℕ → Type 0
fits n = n < 4294967296

-- what a part leaves is nothing, or gone through by an action
abbrev pub goes_behind : ℕ → List Token → Bool
goes_behind left [] = true
goes_behind left (y ∷ r) = action_goes_on left (y ∷ r)

-- Which sources are good, which checked program one stands for, and how the others are refused.
use Rattle.std.specs.Prelude.{ℕ, ◌≡◌, ◌⊎◌, List, [], ◌++◌, codes, Some}
use Rattle.std.specs.Fmt.{decimal}
use Rattle.caf_base.specs.declared.place.Pos.{Pos}
use Rattle.fortran_tree.specs.Units.{Program}
use Rattle.checked_tree.specs.Statements as typed
use Rattle.rule_definitions.specs.Units.{program_judged}
use Rattle.rule_definitions.specs.Acceptance.{Accepts, first_break}
use Rattle.source_reader.specs.Sources.{IsRead}
use Rattle.source_reader.specs.Refusals.{IsRefused, number, place}
use Rattle.source_reader.specs.declared.fault.ReadFault.{ReadFault}

-- a program breaks none of the rules 20 to 59
abbrev pub BreaksNone : Program → Type 0
BreaksNone x = (program_judged x).breaks ≡ []

-- this rule is broken at this place; of the rules that are, the first one in the source, and at one place the lower
-- number
abbrev pub BreaksFirst : Program → ℕ → Pos → Type 0
BreaksFirst x r at = first_break x ≡ Some (record { rule = r; at = at })

-- the bytes stand for the checked program: they are read as a program that breaks no rule and is accepted as it
pub record StandsFor (bytes : List ℕ) (p : typed.Program) : Type 0 where
  pub tree : Program
  pub read : IsRead bytes tree
  pub accepts : Accepts tree p

-- the bytes are accepted
abbrev pub IsAccepted : List ℕ → Type 0
IsAccepted bytes = (p : typed.Program) × StandsFor bytes p

-- the bytes are good: they are read as a program that breaks no rule
pub record IsGood (bytes : List ℕ) : Type 0 where
  pub tree : Program
  pub read : IsRead bytes tree
  pub unbroken : BreaksNone tree

-- the reader refuses the bytes under a number from 1 to 9, at a place
pub record IsMisread (bytes : List ℕ) (r : ℕ) (at : Pos) : Type 0 where
  pub fault : ReadFault
  pub refused : IsRefused bytes fault
  pub number : r ≡ number fault
  pub place : at ≡ place fault

-- they are read as a program that breaks a rule: its number, from 20 to 59, and its place
pub record IsBroken (bytes : List ℕ) (r : ℕ) (at : Pos) : Type 0 where
  pub tree : Program
  pub read : IsRead bytes tree
  pub first : BreaksFirst tree r at

-- the bytes are refused under a number, at a place
abbrev pub IsRefusedAs : List ℕ → ℕ → Pos → Type 0
IsRefusedAs bytes r at = IsMisread bytes r at ⊎ IsBroken bytes r at

-- the text of a refusal
abbrev pub refusal_text : ℕ → Pos → List ℕ
refusal_text r at = (((((codes "refused " ++ decimal r) ++ codes " at ") ++ decimal at.line) ++ codes ":") ++ decimal at.col) ++ codes "\n"

-- the bytes are refused, with this text
pub record IsRefusal (bytes : List ℕ) (text : List ℕ) : Type 0 where
  pub number : ℕ
  pub at : Pos
  pub refused : IsRefusedAs bytes number at
  pub said : text ≡ refusal_text number at

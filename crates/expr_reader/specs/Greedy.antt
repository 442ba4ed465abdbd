-- What the reader of expressions by themselves answers.
use Rattle.std.specs.Prelude.{ℕ, ◌≡◌, List, [], ◌∷◌, Result, Ok, Err}
use Rattle.caf_base.specs.declared.limits.TheConstants.{NESTING}
use Rattle.caf_base.specs.declared.place.Pos.{Pos}
use Rattle.caf_base.specs.declared.refusal.Refusal.{Refusal}
use Rattle.caf_base.specs.declared.refusal.Refusal.TheVariants as refusals
use Rattle.reader_theory.specs.Words.{Cause, expected, too_deep, found, fault}
use Rattle.fortran_tree.specs.Expressions.{Expression}
use Rattle.fortran_grammar.specs.Tokens.{Token}
use Rattle.expr_reader.specs.declared.read.ReadFault.{ReadFault}
use Rattle.expr_reader.specs.declared.read.ReadFault.TheVariants as faults
use Rattle.expr_reader.specs.Laws.{Expressions_at}
use Rattle.expr_reader.specs.Longest.{Longest}

-- the place of the first token, or that of the end where there is none
abbrev pub place_at : Pos → List Token → Pos
place_at end [] = end
place_at end (x ∷ rest) = x.at

abbrev pub cause_told : ReadFault → Cause
cause_told (faults.Expected at) = expected
cause_told (faults.TooDeep at) = too_deep

abbrev pub place_told : ReadFault → Pos
place_told (faults.Expected at) = at
place_told (faults.TooDeep at) = at

-- With so many levels open: the longest expression that begins the text, and what stands behind it; or why there is
-- none, and where, `end` being the place where the text ends.
abbrev pub IsRead : {X : Type 0} → ℕ → Pos → (X → Expression × List Token) → List Token → Result X (Refusal ReadFault) → Type 0
IsRead level end look ts (Ok x) = Longest (Expressions_at NESTING level) ts (found (look x).0 (look x).1)
IsRead level end look ts (Err refusals.NoMemory) = Unit {0}
IsRead level end look ts (Err (refusals.Cause f)) = (rest : List Token) × Longest (Expressions_at NESTING level) ts (fault (cause_told f) rest) × (place_told f ≡ place_at end rest)

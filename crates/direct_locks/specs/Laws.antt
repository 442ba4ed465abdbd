-- What is claimed of the statements of locks and events.
use Rattle.std.specs.Prelude.{ℕ, List}
use Rattle.checked_tree.specs.declared.data.Object.TheVariants as objects
use Rattle.checked_tree.specs.Expressions as t
use Rattle.checked_tree.specs.Statements as s
use Rattle.image_acts.specs.Core.{Core}
use Rattle.tree_meaning.specs.Environment.{Environment}
use Rattle.tree_meaning.specs.Forms as forms
use Rattle.direct_meaning.specs.States.{state_of}
use Rattle.direct_meaning.specs.Outcomes.{Does}
use Rattle.direct_meaning.specs.Told.{told}
use Rattle.direct_meaning.specs.Values.{Value}
use Rattle.direct_meaning.specs.Expressions.{Passed}
use Rattle.direct_meaning.specs.Statements.{form}
use Rattle.direct_agreement.specs.Agreeing.{HasSpare}
use Rattle.direct_laws.specs.Laws.{HasDimensions, SubscriptsWithin, SelectorWithin, ResultWithin, OptionWithin}
use Rattle.direct_released.specs.Laws.{IsFree, parts_in}
use Rattle.direct_control.specs.Meeting.{Meets, Lies}

-- a scalar of a coarray
abbrev pub IsCell : t.Designator → Type 0
IsCell (t.part (objects.Coarray c) ss sel) = HasDimensions ss 0 × SubscriptsWithin 64 ss × SelectorWithin 64 sel
IsCell d = ⊥

-- of this image
abbrev pub IsOwnCell : t.Designator → Type 0
IsOwnCell (t.part (objects.Coarray c) ss t.no_selector) = HasDimensions ss 0 × SubscriptsWithin 64 ss
IsOwnCell d = ⊥

-- the statements for which the law is proved
abbrev pub IsLocking : s.StatementForm → Type 0
IsLocking (s.lock d t.no_result stat order) = IsCell d × ResultWithin 64 stat
IsLocking (s.lock d (t.result acquired) stat order) = IsCell d × ResultWithin 64 (t.result acquired) × ResultWithin 64 stat
IsLocking (s.unlock d stat) = IsCell d × ResultWithin 64 stat
IsLocking (s.event_post d stat) = IsCell d × ResultWithin 64 stat
IsLocking (s.event_wait d until stat order) = IsOwnCell d × OptionWithin 64 until × ResultWithin 64 stat
IsLocking f = ⊥

-- the parts of a statement in the walk meet what it does, for each reply
abbrev pub LockLaw : Type 0
LockLaw = (limit : ℕ) (e : Environment) (calls : ℕ → List Passed → Does Value) (f : s.StatementForm) (l n : ℕ) (c : Core) → HasSpare c
    → IsFree c → IsLocking f → Meets (Lies c) (form limit e calls l f n l (state_of c)) (told (parts_in (forms.form e l f)) l c)

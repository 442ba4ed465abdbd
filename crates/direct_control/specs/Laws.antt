-- What is claimed of image control statements.
use Rattle.std.specs.Prelude.{ℕ, List}
use Rattle.checked_tree.specs.Expressions as t
use Rattle.checked_tree.specs.Statements as s
use Rattle.image_acts.specs.Core.{Core}
use Rattle.tree_meaning.specs.Environment.{Environment}
use Rattle.tree_meaning.specs.Sequences as walk
use Rattle.tree_meaning.specs.ImageControl as control
use Rattle.tree_meaning.specs.Forms as forms
use Rattle.direct_meaning.specs.States.{state_of}
use Rattle.direct_meaning.specs.Outcomes.{Does}
use Rattle.direct_meaning.specs.Told.{told}
use Rattle.direct_meaning.specs.Values.{Value}
use Rattle.direct_meaning.specs.Expressions.{Passed}
use Rattle.direct_meaning.specs.Statements.{form, released, enter_critical}
use Rattle.direct_agreement.specs.Agreeing.{HasSpare}
use Rattle.direct_laws.specs.Laws.{IsCovered, ResultWithin}
use Rattle.direct_released.specs.Laws.{IsFree, parts_in}
use Rattle.direct_control.specs.Meeting.{Meets, Lies}

-- The images of SYNC IMAGES; the variable of STAT= has fewer levels of inquiries behind it, since up to 256 indices
-- stand there without an evaluation cell.
abbrev pub AreImages : s.ImageSet → Type 0
AreImages s.all_images = Unit {0}
AreImages (s.images x) = IsCovered x

-- the statements for which the law is proved
abbrev pub IsControl : s.StatementForm → Type 0
IsControl (s.sync_all stat) = ResultWithin 64 stat
IsControl (s.sync_memory stat) = ResultWithin 64 stat
IsControl (s.sync_images is stat) = AreImages is × ResultWithin 21 stat
IsControl (s.sync_team x stat) = IsCovered x × ResultWithin 64 stat
IsControl f = ⊥

-- The parts of a statement in the walk meet what it does, for each reply, and so do those of the head of CRITICAL:
-- behind them nothing is left of what was evaluated but the state, and beside it what a reply told.
abbrev pub ControlLaw : Type 0
ControlLaw = (limit : ℕ) (e : Environment) (calls : ℕ → List Passed → Does Value) (l n : ℕ) (c : Core) → HasSpare c → IsFree c
    → ((f : s.StatementForm) → IsControl f → Meets (Lies c) (form limit e calls l f n l (state_of c)) (told (parts_in (forms.form e l f)) l c))
    × ((k : ℕ) (stat : t.OptionalResult) → ResultWithin 64 stat
    → Meets (Lies c) (released (enter_critical limit e calls k stat) l (state_of c)) (told (walk.released (control.critical e k stat)) l c))

-- What is claimed of FORM TEAM.
use Rattle.std.specs.Prelude.{ℕ, List}
use Rattle.checked_tree.specs.declared.data.Local.{Local}
use Rattle.checked_tree.specs.declared.expr.WrittenOrder.{WrittenOrder}
use Rattle.checked_tree.specs.Expressions as t
use Rattle.checked_tree.specs.Statements as s
use Rattle.image_acts.specs.Core.{Core}
use Rattle.tree_meaning.specs.Environment.{Environment}
use Rattle.tree_meaning.specs.Forms as walk
use Rattle.direct_meaning.specs.States.{state_of}
use Rattle.direct_meaning.specs.Outcomes.{Does}
use Rattle.direct_meaning.specs.Told.{told}
use Rattle.direct_meaning.specs.Values.{Value}
use Rattle.direct_meaning.specs.Expressions.{Passed}
use Rattle.direct_meaning.specs.Statements.{form}
use Rattle.direct_agreement.specs.Agreeing.{HasSpare}
use Rattle.direct_laws.specs.Laws.{IsCovered, OptionWithin, ResultWithin}
use Rattle.direct_released.specs.Laws.{IsFree, parts_in}
use Rattle.direct_control.specs.Meeting.{Meets, Lies}

-- the parts of a FORM TEAM in the walk meet what it does, for each reply
abbrev pub FormingLaw : Type 0
FormingLaw = (limit : ℕ) (e : Environment) (calls : ℕ → List Passed → Does Value) (x : t.Expression) (v : Local)
    (index : t.OptionalExpression) (stat : t.OptionalResult) (order : WrittenOrder) (l n : ℕ) (c : Core) → HasSpare c → IsFree c
    → IsCovered x → OptionWithin 64 index → ResultWithin 64 stat
    → Meets (Lies c) (form limit e calls l (s.form_team x v index stat order) n l (state_of c))
    (told (parts_in (walk.form e l (s.form_team x v index stat order))) l c)

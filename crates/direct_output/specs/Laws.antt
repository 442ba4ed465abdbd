-- What is claimed of PRINT.
use Rattle.std.specs.Prelude.{ℕ, suc, ◌+◌, ◌≤◌, List, [], ◌∷◌}
use Rattle.checked_tree.specs.Statements as s
use Rattle.image_acts.specs.Core.{Core}
use Rattle.image_acts.specs.Operate.Printing.{open_portions}
use Rattle.tree_meaning.specs.Environment.{Environment}
use Rattle.tree_meaning.specs.Assignments as acts
use Rattle.direct_meaning.specs.States.{state_of}
use Rattle.direct_meaning.specs.Outcomes.{Does}
use Rattle.direct_meaning.specs.Told.{told}
use Rattle.direct_meaning.specs.Values.{Value}
use Rattle.direct_meaning.specs.Expressions.{Passed}
use Rattle.direct_meaning.specs.Statements.{output}
use Rattle.direct_agreement.specs.Agreeing.{Agrees, HasSpare}
use Rattle.direct_laws.specs.Laws.{IsCovered}
use Rattle.direct_statements.specs.Laws.{put_nothing}

-- the items of a PRINT, and how many literals are among them
abbrev pub AreItems : List s.Item → Type 0
AreItems [] = Unit {0}
AreItems (s.literal n ∷ xs) = AreItems xs
AreItems (s.value x ∷ xs) = IsCovered x × AreItems xs

abbrev pub literals_in : List s.Item → ℕ
literals_in [] = 0
literals_in (s.literal n ∷ xs) = suc (literals_in xs)
literals_in (s.value x ∷ xs) = literals_in xs

-- The walk bounds the portions of texts that are begun: there is room for one of each literal, beside those of values,
-- which have their evaluation cells.
abbrev pub HasLines : Core → List s.Item → Type 0
HasLines c xs = open_portions c.printing + literals_in xs ≤ c.used + 65793

-- the acts of a PRINT say the text of its items
abbrev pub PrintLaw : Type 0
PrintLaw = (limit : ℕ) (e : Environment) (calls : ℕ → List Passed → Does Value) (f : s.Format) (xs : List s.Item) (l : ℕ) (c : Core)
    → HasSpare c → AreItems xs → HasLines c xs
    → Agrees (put_nothing c) (output limit e calls f xs l (state_of c)) (told (acts.output e f xs) l c)

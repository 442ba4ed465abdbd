-- The texts that the steps of a program name by their numbers.
use Rattle.std.specs.Prelude.{ℕ, List, ◌≡◌}
use Rattle.tree_meaning.specs.Environment.{Environment}
use Rattle.expr_code.specs.Drafts.{Body, counted, kept, Drafted}

abbrev pub AreTexts : Body → (texts literals : List (List ℕ)) → Type 0
AreTexts (counted n) texts literals = Unit {0}
AreTexts (kept is) texts literals = texts ≡ literals

-- A draft that keeps its lines has the program's literals as its texts, so a step names a literal by its number. One
-- that counts may have any.
abbrev pub HasTexts : Environment → Drafted → Type 0
HasTexts e d = AreTexts d.body d.tables.texts e.program.literals

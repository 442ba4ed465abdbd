-- What was noted apart, as a list.
use Rattle.std.specs.Prelude.{List, [], ◌∷◌, Option, Some, None}
use Rattle.rule_definitions.specs.declared.broken.Broken.{Broken}

abbrev pub noted : Option Broken → List Broken
noted None = []
noted (Some b) = b ∷ []

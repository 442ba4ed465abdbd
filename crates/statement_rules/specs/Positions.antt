-- Where a list of statements stands, as the rules see it.
use Rattle.std.specs.Prelude.{map}
use Rattle.rule_definitions.specs.Actions as a
use Rattle.rule_definitions.specs.Statements as s
use Rattle.branch_rules.specs.Sites.{around}
use Rattle.statement_rules.specs.declared.position.Numbers.{Numbers}
use Rattle.statement_rules.specs.declared.statement.Position.{Position}

abbrev pub position : Position → s.Position
position x = record { scope = x.scope.now; around = map around x.around.now; criticals = x.criticals; literals = x.literals }

-- a position before which so many critical constructs and literals stand
abbrev pub numbered : s.Position → Numbers → s.Position
numbered x n = record x { criticals = n.criticals; literals = n.literals }

-- how many critical constructs and literals stand before a position
abbrev pub numbers : s.Position → Numbers
numbers x = record { criticals = x.criticals; literals = x.literals }

-- how many stand before what follows such a part
abbrev pub numbers_past : s.Position → s.Counted → Numbers
numbers_past x c = numbers (s.past x c)

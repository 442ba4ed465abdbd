use Rattle.std.proofs.Common.{◌≡◌, ℕ, List, map, drop}
use Rattle.rule_definitions.specs.Judgements.{or_else}
use Rattle.rule_definitions.specs.Names.{denoted_in}
use Rattle.fortran_tree.specs.UnitViews.{use_statement}
use Rattle.rule_definitions.specs.Units.{accessible_of}
use Rattle.scope_table.proofs.outside.add_uses.Given as goal

abbrev pub invariant-loop-statement : goal.invariant-loop-statement
invariant-loop-statement l = (n : List ℕ) → or_else (denoted_in l.names n) (denoted_in (accessible_of (map use_statement (drop l.statement-index l.uses))) n) ≡ or_else (denoted_in l.initial.names n) (denoted_in (accessible_of (map use_statement l.uses)) n)

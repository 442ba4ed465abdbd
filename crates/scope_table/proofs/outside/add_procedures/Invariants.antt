use Rattle.std.proofs.Common.{◌≡◌, ℕ, List, map, drop}
use Rattle.rule_definitions.specs.Judgements.{or_else}
use Rattle.rule_definitions.specs.Names.{denoted_in}
use Rattle.fortran_tree.specs.UnitViews.{procedure}
use Rattle.rule_definitions.specs.Units.{procedure_names}
use Rattle.scope_table.specs.Outside.{headings}
use Rattle.scope_table.proofs.outside.add_procedures.Given as goal

abbrev pub invariant-loop-number : goal.invariant-loop-number
invariant-loop-number l = (n : List ℕ) → or_else (denoted_in l.names n) (denoted_in (procedure_names l.number (headings (map procedure (drop l.number l.procedures)))) n) ≡ or_else (denoted_in l.initial.names n) (denoted_in (procedure_names 0 (headings (map procedure l.procedures))) n)

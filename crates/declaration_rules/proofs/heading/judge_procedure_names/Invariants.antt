use Rattle.std.proofs.Common.{◌≡◌, drop, map}
use Rattle.rule_definitions.specs.Judgements.{first_of}
use Rattle.fortran_tree.specs.UnitViews.{procedure}
use Rattle.rule_definitions.specs.Units.{twice_breaks}
use Rattle.scope_table.specs.Outside.{headings}
use Rattle.declaration_rules.proofs.heading.judge_procedure_names.Given as goal

abbrev pub invariant-loop-next : goal.invariant-loop-next
invariant-loop-next l = first_of l.first (twice_breaks l.before (headings (map procedure (drop l.next-index l.procedures)))) ≡ first_of l.initial.first (twice_breaks l.initial.before (headings (map procedure l.procedures)))

use Rattle.std.proofs.Common.{◌≡◌, drop}
use Rattle.rule_definitions.specs.Judgements.{first_of}
use Rattle.declaration_rules.proofs.asked.note_all.Given as goal

abbrev pub invariant-loop-broken : goal.invariant-loop-broken
invariant-loop-broken l = first_of l.first (drop l.broken-index l.breaks) ≡ first_of l.initial.first l.breaks

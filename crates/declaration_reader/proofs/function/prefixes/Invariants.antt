use Rattle.std.proofs.Common.{◌≡◌, ◌-◌, ◌≤◌, map}
use Rattle.reader_theory.specs.Readers.{joined}
use Rattle.fortran_tree.specs.UnitViews.{prefix_spec}
use Rattle.expr_reader.specs.Words.{tokens_of}
use Rattle.statement_reader.specs.Units.{a_prefix, begins_prefix, some_prefixes}
use Rattle.action_reader.specs.Beginnings.{grown}
use Rattle.action_reader.proofs.Runs.{items}
use Rattle.declaration_reader.proofs.function.prefixes.Given as goal

abbrev pub invariant-loop-turn : goal.invariant-loop-turn
invariant-loop-turn l =
    (l._turn ≤ l._turn-end)
    × (joined grown (map prefix_spec l.all.items) (items {S = Unit {0}} begins_prefix (λ s. a_prefix l.fn.left) (λ s a. s) (l._turn-end - l._turn) tt (tokens_of l.rest))
    ≡ some_prefixes l.fn.left (tokens_of l.fn.words))

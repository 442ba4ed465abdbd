use Rattle.std.proofs.Common.{◌≡◌, ◌-◌, ◌≤◌, map}
use Rattle.reader_theory.specs.Readers.{joined}
use Rattle.expr_reader.specs.Openings.{opens}
use Rattle.expr_reader.specs.Words.{tokens_of}
use Rattle.statement_reader.specs.Dimensions.{a_bound, ends_lower, some_cobounds}
use Rattle.action_reader.specs.Beginnings.{grown}
use Rattle.action_reader.proofs.Runs.{items}
use Rattle.declaration_reader.specs.Views.{bound_of}
use Rattle.declaration_reader.proofs.cobound.cobounds.Given as goal

abbrev pub invariant-loop-turn : goal.invariant-loop-turn
invariant-loop-turn l =
    (l._turn ≤ l._turn-end)
    × (joined grown (map bound_of l.all.items) (items (opens 1) (λ is_upper. a_bound is_upper l.fn.left) ends_lower (l._turn-end - l._turn) l.is_upper (tokens_of l.rest))
    ≡ some_cobounds l.fn.left (tokens_of l.fn.words))

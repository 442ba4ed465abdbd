use Rattle.std.proofs.Common.{◌≡◌, ◌-◌, ◌≤◌, map}
use Rattle.reader_theory.specs.Readers.{joined}
use Rattle.fortran_tokens.specs.declared.token.Sign.TheVariants as sign
use Rattle.expr_reader.specs.Tests.{followed_by, is_sign}
use Rattle.expr_reader.specs.Words.{tokens_of}
use Rattle.expr_reader.proofs.Repeats.{items}
use Rattle.action_reader.specs.Beginnings.{grown}
use Rattle.action_reader.proofs.reads.more.Given as goal

abbrev pub invariant-loop-turn : goal.invariant-loop-turn
invariant-loop-turn g l =
    (l._turn ≤ l._turn-end)
    × (joined grown (map g.R.Reads.look l.all.items) (items {S = Unit {0}} (is_sign sign.Comma) (λ s. g.R.Reads.reader l.fn.left) (λ s a. s) (l._turn-end - l._turn) tt (tokens_of l.rest))
    ≡ joined grown (map g.R.Reads.look l.fn.first.items) (followed_by (g.R.Reads.reader l.fn.left) (tokens_of l.fn.words)))

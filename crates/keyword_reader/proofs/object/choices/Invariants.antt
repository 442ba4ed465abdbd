use Rattle.std.proofs.Common.{◌≡◌, ◌-◌, ◌≤◌, map}
use Rattle.reader_theory.specs.Readers.{joined}
use Rattle.fortran_tokens.specs.declared.token.Sign.TheVariants as sign
use Rattle.expr_reader.specs.Tests.{is_sign}
use Rattle.expr_reader.specs.Words.{tokens_of}
use Rattle.statement_reader.specs.Objects.{further_choices, seen}
use Rattle.action_reader.specs.Beginnings.{grown}
use Rattle.action_reader.proofs.Runs.{items}
use Rattle.keyword_reader.specs.Families.{another}
use Rattle.keyword_reader.specs.Views.{choice_of}
use Rattle.keyword_reader.proofs.object.choices.Given as goal

abbrev pub invariant-loop-turn : goal.invariant-loop-turn
invariant-loop-turn g l =
    (l._turn ≤ l._turn-end)
    × (joined grown (map (choice_of g.R.Reads.look) l.all.items) (items (is_sign sign.Comma) (λ b. another g.R.Reads.reader b l.fn.left) seen (l._turn-end - l._turn) l.is_behind (tokens_of l.rest))
    ≡ further_choices g.R.Reads.reader l.fn.left (tokens_of l.fn.words))

use Rattle.std.proofs.Common.{◌≡◌, arith, sym, ◌∙◌}
use Rattle.std.proofs.lemmas.Fmt.{decimal_injective}
use Rattle.caf_words.proofs.number.number_between.Goals as goal
use Rattle.caf_words.proofs.number.number_between.Goals.{then-number-least-via-then-number-least, then-number-least-via-else-number-least+then-most-number}

pub returns-then-number-least-clause-none : goal.returns-then-number-least-clause-none
returns-then-number-least-clause-none c =
    λ n low high is.
    let same : c.in_ok-number.number ≡ n = decimal_injective c.in_ok-number.number n (omega arith) (omega arith) (sym c.in_ok-number.ensures.number ∙ is) in
    elim c.then-number-least.branch [
      | then-number-least-via-then-number-least w ↦ let t = w.if-number-least.true in omega arith
      | then-number-least-via-else-number-least+then-most-number w ↦ let t = w.if-most-number.true in omega arith
    ]

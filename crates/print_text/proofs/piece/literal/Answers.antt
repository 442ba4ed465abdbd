use Rattle.std.proofs.Common.{rules, ◌≡◌, ◌∷◌}
use Rattle.print_text.proofs.Literals.{at_character, at_doubled}
use Rattle.print_text.proofs.piece.literal.Goals as goal

pub loop-first-preserved-then-first-quote : goal.loop-first-preserved-then-first-quote
loop-first-preserved-then-first-quote c =
    let split : c.loop-first.left.now ≡ c.in-Some.first.now ∷ c.in-Some.rest.now = search rules in
    let further : c.in-Some.rest.now ≡ c.in-Some-split_first.second.now ∷ c.in-Some-split_first.behind.now = search rules in
    at_doubled c.args.quote c.in-Some.first.now c.in-Some-split_first.second.now c.args.text.now c.loop-first.left.now c.in-Some.rest.now c.in-Some-split_first.behind.now c.loop-first.len
    split further c.if-first-quote.true c.if-second-quote.false c.loop-first.invariant

pub loop-first-preserved : goal.loop-first-preserved
loop-first-preserved c =
    let split : c.loop-first.left.now ≡ c.in-Some.first.now ∷ c.in-Some.rest.now = search rules in
    at_character c.args.quote c.in-Some.first.now c.args.text.now c.loop-first.left.now c.in-Some.rest.now c.loop-first.len split c.if-first-quote.false c.loop-first.invariant

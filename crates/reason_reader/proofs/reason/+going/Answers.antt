use Rattle.std.proofs.Common.{rules, ◌<◌, length, sym, ◌∙◌}
use Rattle.reason_reader.proofs.Ends.{nonzero, second_goes}
use Rattle.reason_reader.proofs.reason.+going.Goals as goal

-- An action with a keyword goes on.
pub goes_on-returns-then-branch-2 : goal.goes_on-returns-then-branch-2
goes_on-returns-then-branch-2 g t c =
    let some = nonzero (length c.args.words.now) (sym c.is_empty.ensures ∙ c.if-is_empty.false) in
    let level : 0 < c.args.left = search rules in
    second_goes c.args.left c.args.words.now _ _ some level c.keyword.ensures c.in_ok-goes-2.ensures c.if-branch-2.true

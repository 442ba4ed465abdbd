use Rattle.std.proofs.Common.{rules, ◌≡◌, ◌∙◌, to_z, of_z, w32}
use Rattle.control_board.proofs.Replying.{status_law}
use Rattle.control_board.proofs.ending.status_at.Goals as goal

pub returns : goal.returns
returns c n hs told within =
    let e : to_z w32 (of_z w32 c.status_of.result) ≡ c.status_of.result = search rules in
    e ∙ c.status_of.ensures ∙ status_law n c.args.endings.now hs told c.args.members.now c.args.at _ c.has_stopped.result c.has_failed.result within c.requires.at c.has_stopped.ensures c.has_failed.ensures

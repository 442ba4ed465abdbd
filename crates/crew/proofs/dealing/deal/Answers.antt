use Rattle.std.proofs.Common.{refl, false, ◌-◌}
use Rattle.crew.specs.declared.member.Worker.{Worker}
use Rattle.crew.proofs.Shares.{dealt_more, dealt_last}
use Rattle.crew.proofs.dealing.deal.Goals as goal

pub loop-number-preserved : goal.loop-number-preserved
loop-number-preserved g c =
    let w : Worker g.row.M.Denot = record { number = c.loop-number.number; members = c.in_ok-members.members; short = false } in
    dealt_more c.loop-number.dealt.items c.push.new.self.items w c.loop-number.rest.items c.share.new.rest.items c.args.members.items c.in_ok-push.ensures.items c.loop-number.invariant c.in_ok-members.ensures

pub returns : goal.returns
returns g c =
    let w : Worker g.row.M.Denot = record { number = c.args.workers - 1; members = c.loop-number.rest; short = false } in
    dealt_last c.loop-number.dealt.items c.push-2.new.self.items w c.loop-number.rest.items c.args.members.items c.in_ok-push-2.ensures.items c.loop-number.invariant refl

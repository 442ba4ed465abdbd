use Rattle.crew.specs.Dealt.{run_of, passes_of}
use Rattle.crew.proofs.Shares.{view_more}
use Rattle.crew.proofs.dealing.apart.Goals as goal

pub loop-member-preserved : goal.loop-member-preserved
loop-member-preserved g c =
    let inv = c.loop-member.invariant in
    let next = c.in-Some.ensures.steps.0 in (
      view_more run_of c.loop-member.images.items c.push.new.self.items c.in-Some.member c.loop-member.member-iterator.rest.items c.next.new.self.rest.items _ next c.in_ok-push.ensures.items inv.0,
      view_more passes_of c.loop-member.passes.items c.push-in-loop-member.new.self.items c.in-Some.member c.loop-member.member-iterator.rest.items c.next.new.self.rest.items _ next c.in_ok-push-2.ensures.items inv.1,
    )

use Rattle.std.proofs.Common.{sym, subst}
use Rattle.object_rules.specs.Happenings.{numbers_of}
use Rattle.wait_chain.specs.Awaited.{awaits, IsLeast}
use Rattle.wait_chain.specs.Links.{ComesBehind}
use Rattle.wait_chain.specs.Reports.{as_waits}
use Rattle.wait_chain.proofs.Chaining.{comes_by}
use Rattle.wait_chain.proofs.chain.further.Goals as goal

pub returns : goal.returns
returns c =
    subst (ComesBehind c.args.n c.args.before.now (as_waits c.args.waits.now) (numbers_of c.args.links.now)) (sym c.comes_behind.ensures)
    (comes_by c.args.n c.args.before.now (as_waits c.args.waits.now) (numbers_of c.args.links.now) c.args.last.0 c.in_ok-next.next c.requires.open c.requires.last
    (subst (λ z. IsLeast (awaits c.args.n c.args.before.now c.args.last.0 z) c.args.n c.in_ok-next.next) c.awaited_in-awaited.ensures c.in_ok-next.ensures))

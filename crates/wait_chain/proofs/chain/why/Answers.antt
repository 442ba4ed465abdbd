use Rattle.std.proofs.Common.{sym, subst}
use Rattle.object_rules.specs.Happenings.{numbers_of}
use Rattle.wait_reason.specs.Chains.{post}
use Rattle.wait_chain.specs.Awaited.{IsLeast}
use Rattle.wait_chain.specs.Counts.{is_left}
use Rattle.wait_chain.specs.Reports.{as_waits}
use Rattle.wait_chain.specs.ToldChains.{IsToldChain}
use Rattle.wait_chain.proofs.Chaining.{first_link, no_link}
use Rattle.wait_chain.proofs.chain.why.Goals as goal

pub why_from-requires : goal.why_from-requires
why_from-requires c =
    first_link c.args.n c.args.before.now (as_waits c.args.waits.now) c.in-Some.first
    (subst (IsLeast (is_left c.args.before.now) c.args.n) c.in-Some.is c.first_left.ensures)

pub returns-in-None : goal.returns-in-None
returns-in-None c =
    subst (λ ls. IsToldChain c.args.n c.args.before.now (as_waits c.args.waits.now) (numbers_of ls) post) (sym c.new.ensures)
    (no_link c.args.n c.args.before.now (as_waits c.args.waits.now) (subst (IsLeast (is_left c.args.before.now) c.args.n) c.in-None.is c.first_left.ensures))

use Rattle.std.proofs.Common.{sym, ◌∙◌}
use Rattle.object_rules.specs.Happenings.{numbers_of}
use Rattle.wait_chain.proofs.Behinds.{cycle_behind, next_behind}
use Rattle.wait_chain.proofs.links.comes_behind.Goals as goal

pub returns-in-Some-2 : goal.returns-in-Some-2
returns-in-Some-2 c =
    cycle_behind c.args.before.now (numbers_of c.args.links.now) c.args.next c.in-Some.image c.in-Some-2.image c.in-Some.is c.in-Some-2.is (sym c.has_stopped.ensures ∙ c.if-has_stopped.false) (sym c.names.ensures ∙ c.if-names.true)

pub returns-in-Some-3 : goal.returns-in-Some-3
returns-in-Some-3 c =
    next_behind c.args.before.now (numbers_of c.args.links.now) c.args.next c.in-Some.image c.in-Some-2.image c.in-Some.is c.in-Some-2.is (sym c.has_stopped.ensures ∙ c.if-has_stopped.false) c.in-Some-3.image c.in-Some-3.is (sym c.names.ensures ∙ c.if-names.false)

use Rattle.std.proofs.Common.{arith}
use Rattle.std.proofs.lemmas.Grind.{common_steps}
use Rattle.scope_table.proofs.Tables.{if_new, if_old}
use Rattle.scope_table.proofs.known.KnownNames.add.Goals as goal

pub returns-then-branch-clause-added : goal.returns-then-branch-clause-added
returns-then-branch-clause-added c =
    if_new c.self.inside.names c.self.inside.meanings.items c.args.name c.args.meaning c.in_ok-add.field-0 c.add.new.self c.push.new.self.items c.args.self.now c.self.invariant
    c.in_ok-add.ensures.there c.in_ok-add.ensures.names c.if-branch.true (grind (arith, common_steps)) c.self.view_is

pub returns-else-branch-clause-added : goal.returns-else-branch-clause-added
returns-else-branch-clause-added c =
    if_old c.self.inside.names c.self.inside.meanings.items c.args.name c.args.meaning c.in_ok-add.field-0 c.add.new.self c.reserve.new.self.items c.args.self.now c.self.invariant
    c.in_ok-add.ensures.there c.in_ok-add.ensures.names c.if-branch.false c.in_ok-reserve.ensures.items c.self.view_is

use Rattle.scope_table.proofs.Numbers.{hosted_found}
use Rattle.scope_table.proofs.table.Table.symbol.Goals as goal

pub returns-clause-host : goal.returns-clause-host
returns-clause-host c = λ e.
    hosted_found c.args.home c.args.object c.symbol_found.result c.as_slice.result.now c.self.inside.entries.items c.as_slice-2.result.now c.self.inside.places.items c.self.inside.are_numbered c.args.self.now
    e c.as_slice.ensures.value c.as_slice-2.ensures.value c.self.invariant.placed c.self.view_is c.symbol_found.ensures

use Rattle.std.proofs.Common.{◌∙◌, ap}
use Rattle.rule_definitions.specs.Names.{denoted_in}
use Rattle.scope_table.specs.Names.{place_of}
use Rattle.scope_table.proofs.Tables.{entry_at, no_entry}
use Rattle.scope_table.proofs.table.Table.find.Goals as goal

pub returns : goal.returns
returns c =
    let p = c.find.ensures ∙ ap (place_of c.args.name.now) c.self.invariant.names in
    let g = rw c.as_slice.ensures.value at c.item.ensures in
    entry_at c.self.inside.entries.items c.args.name.now c.find.result c.in-Some.place c.item.result p c.in-Some.is g
    ∙ ap (λ xs. denoted_in xs c.args.name.now) c.self.view_is

pub returns-in_default : goal.returns-in_default
returns-in_default c =
    let p = c.find.ensures ∙ ap (place_of c.args.name.now) c.self.invariant.names in
    no_entry c.self.inside.entries.items c.args.name.now c.find.result p c.in_default.is
    ∙ ap (λ xs. denoted_in xs c.args.name.now) c.self.view_is

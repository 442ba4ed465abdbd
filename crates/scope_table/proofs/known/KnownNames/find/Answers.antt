use Rattle.std.proofs.Common.{◌∙◌, ap}
use Rattle.std.specs.Option.{option_map}
use Rattle.rule_definitions.specs.Names.{denoted_in}
use Rattle.scope_table.specs.Known.{known_meaning}
use Rattle.scope_table.proofs.Tables.{known_at, no_known}
use Rattle.scope_table.proofs.known.KnownNames.find.Goals as goal

pub returns : goal.returns
returns c =
    let g = rw c.as_slice.ensures.value at c.item.ensures in
    ap (option_map known_meaning) c.copied.ensures
    ∙ known_at c.self.inside.names c.self.inside.meanings.items c.args.name.now c.find.result c.in-Some.place c.item.result c.self.invariant c.find.ensures c.in-Some.is g
    ∙ ap (λ xs. denoted_in xs c.args.name.now) c.self.view_is

pub returns-in_default : goal.returns-in_default
returns-in_default c =
    no_known c.self.inside.names c.self.inside.meanings.items c.args.name.now c.find.result c.self.invariant c.find.ensures c.in_default.is
    ∙ ap (λ xs. denoted_in xs c.args.name.now) c.self.view_is

use Rattle.std.proofs.Common.{ap, ◌∙◌}
use Rattle.scope_table.specs.Names.{place_of}
use Rattle.scope_table.proofs.Places.{found_place}
use Rattle.scope_table.proofs.names.Names.find.Goals as goal

pub returns : goal.returns
returns c = c.get_index_of.ensures.index ∙ found_place c.args.name.now c.self.inside.set.keys ∙ ap (place_of c.args.name.now) c.self.view_is

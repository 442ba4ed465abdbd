use Rattle.std.proofs.Common.{refl}
use Rattle.std.specs.Arc.{arc_value}
use Rattle.image_state.specs.contracts.state.ImageState.{the_view}
use Rattle.image_state.proofs.PrintLaws.{literal_put}
use Rattle.image_state.proofs.state.ImageState.add_literal.Goals as goal

pub returns-clause-put : goal.returns-clause-put
returns-clause-put c =
    λ t. literal_put (the_view c.self.inside) c.args.self.now c.args.text (arc_value c.self.inside.code).program.tables.texts c.self.inside.prints c.put_literal.new.prints
    c.self.view_is refl refl (c.put_literal.ensures.put t) c.put_literal.ensures.most

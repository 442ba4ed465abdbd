use Rattle.std.proofs.Common.{◌∙◌, ap}
use Rattle.image_acts.specs.Frames.{pairs_in}
use Rattle.array_places.specs.Bounds.{numbered}
use Rattle.array_places.proofs.Sizes.{number_behind}
use Rattle.array_places.proofs.bounds.bounds_of.Goals as goal

pub returns : goal.returns
returns c =
    c.pair_at.ensures ∙ number_behind (pairs_in c.args.bounds.now) c.natural-number.result c.if-number-eq0.false ∙ ap (numbered (pairs_in c.args.bounds.now)) c.natural-number.ensures

use Rattle.std.proofs.Common.{◌∙◌, pos}
use Rattle.caf_base.specs.Spans.{offsets_from}
use Rattle.coarray_memory.proofs.Bounding.{between_is}
use Rattle.coarray_memory.proofs.section.lie_within.Goals as goal

pub returns : goal.returns
returns c = c.lie_between.ensures ∙ between_is (offsets_from (pos c.args.start) c.args.dims.now)

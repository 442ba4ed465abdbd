use Rattle.std.proofs.Common.{ap, ◌∙◌, get_or}
use Rattle.std.specs.Prelude.{None}
use Rattle.constant_values.specs.Sizes.{with_extent}
use Rattle.constant_values.proofs.Sizes.{size_front}
use Rattle.constant_values.proofs.bounds.+size.Goals as goal

pub returns-in-len1-up : goal.returns-in-len1-up
returns-in-len1-up t c =
    let bs = c.args.bounds.now in
    c.with_extent.ensures ∙ ap (with_extent (get_or bs 0 None)) c.size.ensures ∙ size_front bs c.in-len1-up.len_at_least

use Rattle.std.proofs.Common.{◌∙◌, take_all}
use Rattle.trace_fields.proofs.Table.{grown}
use Rattle.trace_fields.proofs.names.NameTable.of.Goals as goal

pub loop-name-preserved : goal.loop-name-preserved
loop-name-preserved c =
    grown c.args.names.now c.requires c.loop-name.name-index c.name-item.result c.loop-name-test.true c.name-item.is
    c.loop-name.set.keys _ c.in_ok-bytes.bytes (c.in_ok-bytes.ensures.items ∙ c.as_slice.ensures) c.loop-name.invariant
    c.in_ok-insert.ensures.keys

pub returns : goal.returns
returns c = c.loop-name.invariant ∙ take_all c.loop-name.name-index c.args.names.now c.loop-name-test.false

use Rattle.std.proofs.Common.{◌-◌, inl, inr, arith}
use Rattle.std.proofs.lemmas.Result.{on_ok_weaker}
use Rattle.caf_report.proofs.Gathering.{passed, taken}
use Rattle.caf_report.proofs.line.push_to.Goals.{then-image-eq0-via-then-image-eq0, then-image-eq0-via-else-image-eq0+then-len-image}
use Rattle.caf_report.proofs.line.push_to.Goals as goal

pub returns-then-image-eq0-clause-more : goal.returns-then-image-eq0-clause-more
returns-then-image-eq0-clause-more c es h = elim c.then-image-eq0.branch [
  | then-image-eq0-via-then-image-eq0 w ↦ passed 1 es c.args.entry.now c.args.texts.now.items (inl (omega arith)) h
  | then-image-eq0-via-else-image-eq0+then-len-image w ↦ passed 1 es c.args.entry.now c.args.texts.now.items (inr (omega arith)) h
]

pub returns-clause-more : goal.returns-clause-more
returns-clause-more c =
    on_ok_weaker c.push_entry.result (λ is es h.
    taken 1 es c.args.entry.now c.args.texts.now.items (c.args.entry.now.image.0 - 1) c.index_mut.result.now c.push_entry.new.out (omega arith) (omega arith) c.index_mut.ensures.value is h)
    c.push_entry.ensures

use Rattle.std.proofs.Common.{refl}
use Rattle.caf_run.proofs.said.run_text.Goals as goal

pub returns : goal.returns
returns c = (c.in_ok-why.why.items, c.in_ok-line.line.items, c.in_ok-why.ensures, c.in_ok-line.ensures, rw (c.in_ok-extend_from_slice-2.ensures.items, c.in_ok-extend_from_slice.ensures.items, c.as_slice.ensures.value, c.as_slice-2.ensures.value, c.in_ok-text.ensures, c.shown_of.ensures) refl)

use Rattle.std.proofs.Common.{◌≡◌, ◌≤◌, ◌-◌, vec_len}
use Rattle.caf_run.proofs.Readings.{HasRead}
use Rattle.caf_run.proofs.reading.read_file.Given as goal

abbrev pub invariant-loop-bytes : goal.invariant-loop-bytes
invariant-loop-bytes g l = record {
  files : g.S.Source.files l.source ≡ g.S.Source.files l.fn.source;
  has : HasRead (g.S.Source.files l.fn.source) l.fn.name (g.S.Source.left l.source) l.bytes.items;
  fits : vec_len l.bytes ≤ l.limit;
  later : g.S.Source.faults l.fn.source ≤ g.S.Source.faults l.source;
}

abbrev pub decreases-loop-bytes : goal.decreases-loop-bytes
decreases-loop-bytes g l = l.limit - vec_len l.bytes

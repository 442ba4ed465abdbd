use Rattle.std.proofs.Common.{◌≡◌, drop}
use Rattle.caf_base.specs.Outside.{file_of}
use Rattle.caf_io.specs.Sources.{files_of}
use Rattle.caf_io.proofs.mem_source.MemSource.index_of.Given as goal

abbrev pub invariant-loop-i : goal.invariant-loop-i
invariant-loop-i l = file_of l.name (files_of l.files) ≡ file_of l.name (files_of (drop l.i l.files))

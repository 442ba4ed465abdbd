use Rattle.std.proofs.Common.{◌≡◌, take, map}
use Rattle.caf_base.specs.Arithmetic.{number_of}
use Rattle.program_tables.proofs.coarray.numbers.Given as goal

abbrev pub invariant-loop-value : goal.invariant-loop-value
invariant-loop-value l = l.all.items ≡ map number_of (take l.value-index l.values)

use Rattle.std.proofs.Common.{◌≡◌, true, take}
use Rattle.std.specs.List.{list_all}
use Rattle.trace_fields.specs.Cutting.{other}
use Rattle.trace_fields.proofs.fields.cut_at.Given as goal

-- the byte isn't among those so far
abbrev pub invariant-loop-k : goal.invariant-loop-k
invariant-loop-k l = list_all (other l.byte) (take l.k l.text) ≡ true

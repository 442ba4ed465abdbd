use Rattle.std.proofs.Common.{◌≡◌, drop}
use Rattle.race_watch.specs.Rows.{is_in}
use Rattle.race_search.proofs.shared.contains.Given as goal

abbrev pub invariant-loop-other : goal.invariant-loop-other
invariant-loop-other l = is_in l.number (drop l.other-index l.numbers) ≡ is_in l.number l.numbers

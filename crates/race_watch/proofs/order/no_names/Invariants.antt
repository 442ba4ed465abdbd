use Rattle.std.proofs.Common.{◌≡◌, ℕ, [], length, get_or}
use Rattle.race_watch.proofs.order.no_names.Given as goal

abbrev pub invariant-loop : goal.invariant-loop
invariant-loop l = record {
  count : length l.named.items ≡ l.counter;
  names : (j : ℕ) → get_or l.named.items j [] ≡ [];
}

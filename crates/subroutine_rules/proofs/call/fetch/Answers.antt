use Rattle.std.proofs.Common.{refl}
use Rattle.subroutine_rules.proofs.call.fetch.Goals as goal

pub returns-clause-meaning : goal.returns-clause-meaning
returns-clause-meaning c = rw (c.fetch.ensures, c.in_ok-atom.ensures.meaning, c.in_ok-value.ensures.meaning, c.in_ok-old.ensures.meaning, c.in_ok-stat.ensures.meaning, c.take.ensures.value, c.take-2.ensures.value, c.take-3.ensures.value, c.take-4.ensures.value) refl

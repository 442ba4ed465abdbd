use Rattle.std.proofs.Common.{refl, append_assoc}
use Rattle.subroutine_rules.proofs.call.reference.Goals as goal

pub returns-clause-breaks : goal.returns-clause-breaks
returns-clause-breaks c = rw (c.in_ok-stat.ensures.breaks, c.in_ok-add_all.ensures, c.in_ok-value.ensures.breaks, c.in_ok-atom.ensures.breaks, c.new-behind.ensures.items, c.taken_with.ensures, c.in_ok-atom.ensures.meaning, c.take.ensures.value, c.take-2.ensures.value, c.take-3.ensures.value) (rw (append_assoc, append_assoc) refl)

pub returns-clause-meaning : goal.returns-clause-meaning
returns-clause-meaning c = rw (c.reference.ensures, c.in_ok-value.ensures.meaning, c.taken_with.ensures, c.in_ok-atom.ensures.meaning, c.in_ok-stat.ensures.meaning, c.take.ensures.value, c.take-2.ensures.value, c.take-3.ensures.value) refl

use Rattle.std.proofs.Common.{sym, ◌∙◌, []}
use Rattle.array_steps.proofs.extents.has_one.Goals as goal

pub returns-in-None : goal.returns-in-None
returns-in-None c = sym (c.in-None.ensures.differs [])

pub returns-in-Some : goal.returns-in-Some
returns-in-Some c = c.is_end.ensures ∙ sym (c.in-Some.ensures.same [])

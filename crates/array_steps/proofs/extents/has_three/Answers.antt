use Rattle.std.proofs.Common.{sym, ◌∙◌, [], ◌∷◌}
use Rattle.caf_base.specs.Arithmetic.{natural}
use Rattle.array_steps.proofs.extents.has_three.Goals as goal

pub returns-in-None : goal.returns-in-None
returns-in-None c = sym (c.in-None.ensures.differs (natural c.args.m.now ∷ natural c.args.n.now ∷ []))

pub returns-in-Some : goal.returns-in-Some
returns-in-Some c = c.has_two.ensures ∙ sym (c.in-Some.ensures.same (natural c.args.m.now ∷ natural c.args.n.now ∷ []))

use Rattle.std.proofs.Common.{◌≤◌, ap, sym, subst}
use Rattle.image_code.specs.Code.{Whole}
use Rattle.image_state.specs.declared.state.Rooms.{Rooms}
use Rattle.quick_code.specs.Quick.{Covers}
use Rattle.image_machine.specs.Engine.{Engine}
use Rattle.image_machine.proofs.Bare.{well_room, stood_room}
use Rattle.image_machine.proofs.machine.MachineWalker.reserve.Goals as goal

pub invariant_of-self : goal.invariant_of-self
invariant_of-self c = (
  well_room c.self.inside.engine c.reserve.new.self c.self.invariant.0 c.reserve.ensures.same,
  stood_room c.self.inside.engine c.reserve.new.self c.self.inside.stand c.self.invariant.1 c.reserve.ensures.same,
  subst (λ (w : Whole). Covers w.program.steps c.self.inside.quick.items) (sym (ap (λ (y : Engine). y.code) c.reserve.ensures.same)) c.self.invariant.2,
  c.self.invariant.3,
  c.self.invariant.4,
  subst (λ (r : Rooms). c.self.inside.stack.size ≤ r.numbers) (sym (ap (λ (y : Engine). y.rooms) c.reserve.ensures.same)) c.self.invariant.5,
)

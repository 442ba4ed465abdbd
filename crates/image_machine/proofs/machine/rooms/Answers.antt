-- There is room for each part of the stack and for each frame.
use Rattle.std.proofs.Common.{◌≡◌, ◌<◌, ◌*◌, ℕ, Some, subst}
use Rattle.std.specs.Prelude.{slice_get}
use Rattle.image_code.specs.declared.shape.Height.{Height}
use Rattle.image_code.specs.declared.step.Step.{Step}
use Rattle.image_code.specs.Code.{IsWhole}
use Rattle.image_code.specs.Levels.{Part, of_numbers, of_arrays, of_texts, part_of}
use Rattle.image_state.specs.Acting.{HasFrame}
use Rattle.image_state.specs.declared.state.Rooms.{Rooms}
use Rattle.image_machine.specs.Walk.{room_of}
use Rattle.image_machine.proofs.machine.rooms.Goals as goal

stacks : (h : Height) (r : Rooms) → h.numbers * 258 < r.numbers → h.arrays * 258 < r.arrays → h.texts * 258 < r.texts → (x : Part) → part_of x h * 258 < room_of x r
stacks h r a b c of_numbers = a
stacks h r a b c of_arrays = b
stacks h r a b c of_texts = c

pub returns : goal.returns
returns c =
    let f = c.frame_room-frame.result in
    let r : Rooms = record { numbers = c.in_ok-stack_room.field-0; arrays = c.in_ok-stack_room-2.field-0; texts = c.in_ok-stack_room-3.field-0; scalars = f.scalars; locals = f.locals } in
    record {
      whole = subst (IsWhole c.args.code.now.program.steps) c.highest-most.ensures.is c.highest-most.ensures.whole;
      frames = subst (λ ss. (p : ℕ) (s : Step) → slice_get ss p ≡ Some s → HasFrame f.scalars f.locals s) c.steps.ensures c.frame_room-frame.ensures;
      stacks = subst (λ h. (x : Part) → part_of x h * 258 < room_of x r) c.highest-most.ensures.is (stacks c.highest-most.result r c.in_ok-stack_room.ensures c.in_ok-stack_room-2.ensures c.in_ok-stack_room-3.ensures);
    }

-- The machine begins well, and runs from the start of its code.
use Rattle.std.proofs.Common.{◌≡◌, ◌≤◌, ◌∙◌, ap, sym, subst, List, length}
use Rattle.image_state.specs.Kept.{Kept}
use Rattle.image_state.specs.declared.state.Rooms.{Rooms}
use Rattle.quick_code.specs.Quick.{Covers}
use Rattle.quick_code.specs.declared.quick.Quick.{Quick}
use Rattle.image_machine.specs.Engine.{Engine}
use Rattle.std.specs.Arc.{arc_value}
use Rattle.image_code.specs.Code.{Whole}
use Rattle.image_machine.specs.Walk.{HasRoom}
use Rattle.image_machine.proofs.Walking.{new_well, starts}
use Rattle.image_machine.proofs.machine.Machine.new.Goals as goal

pub run-stand-requires : goal.run-stand-requires
run-stand-requires c =
    let d : c.deref.result.now ≡ arc_value c.args.code = search (c.deref.ensures) in
    let f : c.deref-2.result.now ≡ arc_value c.args.code = search (c.deref-2.ensures) in
    let q : c.as_slice.result.now ≡ c.in_ok-quick.quick.items = search (c.as_slice.ensures) in
    let e : c.in_ok-engine.engine.code ≡ arc_value c.args.code = ap (λ (m : Engine). m.code) c.in_ok-engine.ensures ∙ ap (λ (k : Kept). k.code) c.in_ok-image.ensures in
    let r : c.in_ok-engine.engine.rooms ≡ c.in_ok-rooms.rooms = ap (λ (m : Engine). m.rooms) c.in_ok-engine.ensures ∙ ap (λ (k : Kept). k.rooms) c.in_ok-image.ensures in
    record {
      well = new_well c.in_ok-engine.engine (arc_value c.args.code) c.args.limit c.in_ok-rooms.rooms c.in_ok-image.image.team_room c.args.me.0 c.args.n c.in_ok-image.image c.in_ok-engine.ensures c.in_ok-image.ensures
          c.requires.plain (subst (λ (w : Whole). HasRoom w c.in_ok-rooms.rooms) d c.in_ok-rooms.ensures);
      covers = subst (λ (w : Whole). Covers w.program.steps c.as_slice.result.now) (f ∙ sym e) (subst (λ xs. Covers c.deref-2.result.now.program.steps xs) (sym q) c.in_ok-quick.ensures.covers);
      few = subst (λ (xs : List Quick). length xs ≤ 4294967295) (sym q) c.in_ok-quick.ensures.few;
      empty = c.in_ok-stack.ensures.empty;
      room = subst (λ (x : Rooms). c.in_ok-stack.stack.size ≤ x.numbers) (sym r) c.in_ok-stack.ensures.room;
    }

pub returns-clause-start : goal.returns-clause-start
returns-clause-start c =
    let g = starts c.in_ok-engine.engine c.run-stand.new.self (arc_value c.args.code) c.args.limit c.in_ok-rooms.rooms c.in_ok-image.image.team_room c.args.me.0 c.args.n c.in_ok-image.image c.in_ok-engine.ensures c.in_ok-image.ensures
    c.run-stand.ensures.goes in
    (c.in_ok-rooms.rooms, g.0, g.1)

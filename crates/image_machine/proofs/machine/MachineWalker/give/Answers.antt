-- A reply leaves less to do.
use Rattle.std.proofs.Common.{◌≡◌, ◌≤◌, ◌∙◌, ap, sym, arith, subst, ◌<◌, List, length}
use Rattle.image_code.specs.Code.{Whole}
use Rattle.image_state.specs.declared.state.Rooms.{Rooms}
use Rattle.image_stores.specs.Numbers.{Pile}
use Rattle.quick_code.specs.Quick.{Covers}
use Rattle.quick_code.specs.declared.quick.Quick.{Quick}
use Rattle.image_machine.proofs.Hurry.{answered_same}
use Rattle.image_machine.specs.Engine.{Engine}
use Rattle.caf_events.specs.Walkers.{Continues}
use Rattle.image_machine.specs.Engine.{bare}
use Rattle.image_machine.specs.Walk.{left_of, machine_step}
use Rattle.image_machine.proofs.Bare.{bare_continues}
use Rattle.image_machine.proofs.Walking.{heard}
use Rattle.image_machine.proofs.machine.MachineWalker.give.Goals as goal

pub run-self-inside-requires : goal.run-self-inside-requires
run-self-inside-requires c =
    let a = answered_same c.self.inside.engine c.take.new.engine c.args.event.now.reply c.take.ensures in
    let q : c.as_slice.result.now ≡ c.self.inside.quick.items = search (c.as_slice.ensures) in
    record {
      well = (heard c.self.inside.engine c.take.new.engine c.args.event.now.reply c.self.invariant.0 c.take.ensures).well;
      covers = subst (λ (w : Whole). Covers w.program.steps c.as_slice.result.now) (sym a.0) (subst (λ xs. Covers c.self.inside.engine.code.program.steps xs) (sym q) c.self.invariant.2);
      few = subst (λ (xs : List Quick). length xs ≤ 4294967295) (sym q) c.self.invariant.3;
      empty = c.self.invariant.4;
      room = subst (λ (r : Rooms). c.self.inside.stack.size ≤ r.numbers) (sym a.1) c.self.invariant.5;
    }

pub invariant_of-self : goal.invariant_of-self
invariant_of-self c =
    let a = answered_same c.self.inside.engine c.take.new.engine c.args.event.now.reply c.take.ensures in
    let e = c.run-self-inside.ensures in (
      e.well,
      e.stands,
      subst (λ (w : Whole). Covers w.program.steps c.self.inside.quick.items) (sym (e.code ∙ a.0)) c.self.invariant.2,
      c.self.invariant.3,
      ap (λ (p : Pile). p.values) e.stack ∙ c.self.invariant.4,
      subst (λ (r : Rooms). c.run-self-inside.new.stack.size ≤ r.numbers) (sym (e.rooms ∙ a.1)) (subst (λ (p : Pile). p.size ≤ c.self.inside.engine.rooms.numbers) (sym e.stack) c.self.invariant.5),
    )

pub returns-clause-spends : goal.returns-clause-spends
returns-clause-spends c =
    let h = (heard c.self.inside.engine c.take.new.engine c.args.event.now.reply c.self.invariant.0 c.take.ensures).less in
    let s = c.run-self-inside.ensures.spends in
    subst (λ (m : Engine). left_of c.run-self-inside.new.self < left_of m) c.self.view_is (omega arith)

pub returns-clause-goes : goal.returns-clause-goes
returns-clause-goes c =
    let g = c.run-self-inside.ensures.goes in
    subst (λ (m : Engine). Continues machine_step (machine_step (bare m)) c.args.event.now.reply (bare c.run-self-inside.new.self)) c.self.view_is
    (bare_continues c.self.inside.engine c.take.new.engine c.run-self-inside.new.self c.args.event.now.reply g.0 c.take.ensures g.1)

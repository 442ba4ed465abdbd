use Rattle.std.proofs.Common.{refl}
use Rattle.work_maker.proofs.Joining.{none, one_turn, one_setting}
use Rattle.work_maker.proofs.source.push_settings.Goals as goal

pub loop-done-init : goal.loop-done-init
loop-done-init c = record { state = refl; lines = none c.args.out.now.items }

pub loop-done-preserved : goal.loop-done-preserved
loop-done-preserved c =
    let n = c.loop-done.done in
    let t = c.next_number-number.new.self.state in
    let state = one_turn c.args.seed n c.loop-done.generator.state t c.loop-done.invariant.state c.next_number-number.ensures.state in
    record {
      state = state;
      lines = one_setting c.args.seed n t c.next_number-number.result c.args.out.now.items c.loop-done.out.items c.push_setting.new.out.items state
          c.next_number-number.ensures.number c.loop-done.invariant.lines c.in_ok-push_setting.ensures;
    }

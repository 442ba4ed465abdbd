use Rattle.std.proofs.Common.{refl}
use Rattle.std.specs.Vec.{with_item}
use Rattle.image_core.proofs.DirectSteps.{keeps_here, own_hears, own_not, own_now, spends_now, taken_at}
use Rattle.image_core.proofs.PartSteps.{run_low}
use Rattle.image_core.proofs.parts.PartsOf.step_own.Goals as goal

pub step_alone-requires-clause-kept : goal.step_alone-requires-clause-kept
step_alone-requires-clause-kept g c =
    keeps_here g.M.Walker g.O.Object g.B.Object
    c.args.self.now c.args.k c.index_mut.result.now c.requires.image c.index_mut.ensures.value
    (c.requires.sound.numbered c.args.k c.index_mut.result.now c.requires.image c.index_mut.ensures.value) c.args.asks.now.kept.items c.requires.asked c.requires.kept

pub step_alone-requires-clause-hears : goal.step_alone-requires-clause-hears
step_alone-requires-clause-hears g c =
    own_hears g.M.Walker g.O.Object g.B.Object
    c.args.self.now c.args.k c.index_mut.result.now c.requires.image c.index_mut.ensures.value c.requires.sound c.requires.place

pub step_alone-requires-clause-after : goal.step_alone-requires-clause-after
step_alone-requires-clause-after g c =
    run_low g.M.Walker g.O.Object g.B.Object
    c.args.self.now c.args.k c.index_mut.result.now c.requires.image c.index_mut.ensures.value g.M.Walker.asks_left c.requires.sound.bounded c.index_mut.result.now.last_is

pub returns-clause-step : goal.returns-clause-step
returns-clause-step g c =
    own_now g.M.Walker g.O.Object g.B.Object
    c.args.self.now c.args.k c.index_mut.result.now c.requires.image c.index_mut.ensures.value
    (record { images = with_item c.args.self.now.images c.args.k c.step_alone.new.run; memories = c.args.self.now.memories; board = c.args.self.now.board }) c.step_alone.new.run refl
    (c.requires.sound.numbered c.args.k c.index_mut.result.now c.requires.image c.index_mut.ensures.value)
    c.step_alone.result c.requires.place refl refl c.step_alone.ensures.step c.step_alone.ensures.rests

pub returns-clause-spends : goal.returns-clause-spends
returns-clause-spends g c =
    spends_now g.M.Walker g.O.Object g.B.Object
    c.args.self.now c.args.k c.index_mut.result.now c.requires.image c.index_mut.ensures.value
    (record { images = with_item c.args.self.now.images c.args.k c.step_alone.new.run; memories = c.args.self.now.memories; board = c.args.self.now.board }) c.step_alone.new.run refl
    c.step_alone.result c.step_alone.ensures.spends

pub returns-clause-err : goal.returns-clause-err
returns-clause-err g c =
    own_not g.M.Walker g.O.Object g.B.Object
    c.args.self.now (record { images = with_item c.args.self.now.images c.args.k c.step_alone.new.run; memories = c.args.self.now.memories; board = c.args.self.now.board })
    c.args.k c.index_mut.result.now c.step_alone.new.run c.requires.image c.index_mut.ensures.value refl
    c.step_alone.result refl refl c.step_alone.ensures.err

pub returns-clause-taken : goal.returns-clause-taken
returns-clause-taken g c = taken_at c.step_alone.result _ _ (c.requires.sound.numbered c.args.k c.index_mut.result.now c.requires.image c.index_mut.ensures.value) c.args.asks.now.kept.items c.step_alone.new.asks.kept.items c.step_alone.ensures.taken

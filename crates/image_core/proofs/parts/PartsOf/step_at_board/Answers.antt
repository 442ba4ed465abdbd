use Rattle.std.proofs.Common.{refl}
use Rattle.std.specs.Vec.{with_item}
use Rattle.image_core.proofs.DirectSteps.{board_hears, board_not, board_now, board_ready, keeps_here, spends_now, taken_at}
use Rattle.image_core.proofs.PartSteps.{run_low, board_low}
use Rattle.image_core.proofs.parts.PartsOf.step_at_board.Goals as goal

pub step_at-requires-clause-kept : goal.step_at-requires-clause-kept
step_at-requires-clause-kept g c =
    keeps_here g.M.Walker g.O.Object g.B.Object
    c.args.self.now c.args.k c.index_mut.result.now c.requires.image c.index_mut.ensures.value
    (c.requires.sound.numbered c.args.k c.index_mut.result.now c.requires.image c.index_mut.ensures.value) c.args.asks.now.kept.items c.requires.asked c.requires.kept

pub step_at-requires-clause-ready : goal.step_at-requires-clause-ready
step_at-requires-clause-ready g c =
    board_ready g.M.Walker g.O.Object g.B.Object
    c.args.self.now c.args.k c.index_mut.result.now c.requires.image c.index_mut.ensures.value c.requires.can c.requires.sound c.requires.place

pub step_at-requires-clause-hears : goal.step_at-requires-clause-hears
step_at-requires-clause-hears g c =
    board_hears g.M.Walker g.O.Object g.B.Object
    c.args.self.now c.args.k c.index_mut.result.now c.requires.image c.index_mut.ensures.value c.requires.can c.requires.sound c.requires.place

pub step_at-requires-clause-after : goal.step_at-requires-clause-after
step_at-requires-clause-after g c =
    run_low g.M.Walker g.O.Object g.B.Object
    c.args.self.now c.args.k c.index_mut.result.now c.requires.image c.index_mut.ensures.value g.M.Walker.asks_left c.requires.sound.bounded c.index_mut.result.now.last_is

pub step_at-requires-clause-last : goal.step_at-requires-clause-last
step_at-requires-clause-last g c =
    board_low g.M.Walker g.O.Object g.B.Object
    c.args.self.now c.args.k c.index_mut.result.now c.requires.image c.index_mut.ensures.value g.M.Walker.asks_left c.requires.sound.bounded

pub returns-clause-step : goal.returns-clause-step
returns-clause-step g c =
    board_now g.M.Walker g.O.Object g.B.Object
    c.args.self.now c.args.k c.index_mut.result.now c.requires.image c.index_mut.ensures.value
    (record { images = with_item c.args.self.now.images c.args.k c.step_at.new.run; memories = c.args.self.now.memories; board = c.step_at.new.object }) c.step_at.new.run refl
    (c.requires.sound.numbered c.args.k c.index_mut.result.now c.requires.image c.index_mut.ensures.value)
    c.step_at.result c.requires.place refl c.step_at.ensures.step c.step_at.ensures.rests

pub returns-clause-spends : goal.returns-clause-spends
returns-clause-spends g c =
    spends_now g.M.Walker g.O.Object g.B.Object
    c.args.self.now c.args.k c.index_mut.result.now c.requires.image c.index_mut.ensures.value
    (record { images = with_item c.args.self.now.images c.args.k c.step_at.new.run; memories = c.args.self.now.memories; board = c.step_at.new.object }) c.step_at.new.run refl
    c.step_at.result c.step_at.ensures.spends

pub returns-clause-err : goal.returns-clause-err
returns-clause-err g c =
    board_not g.M.Walker g.O.Object g.B.Object
    c.args.self.now (record { images = with_item c.args.self.now.images c.args.k c.step_at.new.run; memories = c.args.self.now.memories; board = c.step_at.new.object })
    c.args.k c.index_mut.result.now c.step_at.new.run c.requires.image c.index_mut.ensures.value refl
    c.step_at.result refl c.step_at.ensures.err c.step_at.ensures.err_object

pub returns-clause-taken : goal.returns-clause-taken
returns-clause-taken g c = taken_at c.step_at.result _ _ (c.requires.sound.numbered c.args.k c.index_mut.result.now c.requires.image c.index_mut.ensures.value) c.args.asks.now.kept.items c.step_at.new.asks.kept.items c.step_at.ensures.taken

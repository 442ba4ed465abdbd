use Rattle.std.proofs.Common.{subst, sym}
use Rattle.trace_theory.specs.Entries.{Each}
use Rattle.turn_gate.specs.Closings.{Shutting}
use Rattle.turn_gate.proofs.Lists.{each_front}
use Rattle.image_gate.specs.Closings.{TakesAll, IsTaker}
use Rattle.image_gate.proofs.Taking.{row_asks, all_more}
use Rattle.image_gate.proofs.closing.take_all.Goals as goal

pub take_row-requires : goal.take_row-requires
take_row-requires g c =
    let board = c.args.board.now in
    let closings = c.args.closings.now.items in
    let t = subst (λ l. TakesAll c.args.passes.items board closings l c.loop-row.board c.loop-row.closings.items) c.in-Some.ensures.items c.loop-row.invariant.0 in
    let of = subst (Each (IsTaker board closings)) c.in-Some.ensures.items c.loop-row.invariant.1 in
    row_asks c.args.passes.items board closings c.pop.new.self.items c.in-Some.row c.loop-row.board c.loop-row.closings.items t of

pub loop-row-preserved : goal.loop-row-preserved
loop-row-preserved g c =
    let board = c.args.board.now in
    let closings = c.args.closings.now.items in
    let t = subst (λ l. TakesAll c.args.passes.items board closings l c.loop-row.board c.loop-row.closings.items) c.in-Some.ensures.items c.loop-row.invariant.0 in
    let of = subst (Each (IsTaker board closings)) c.in-Some.ensures.items c.loop-row.invariant.1 in (
      subst (λ (s : Shutting g.row.B.Denot). TakesAll c.args.passes.items board closings c.pop.new.self.items s c.take_row.new.closings.items) (sym c.take_back.ensures)
          (all_more c.args.passes.items board closings c.pop.new.self.items c.in-Some.row c.loop-row.board c.loop-row.closings.items t of c.take_row.new.closings.items c.take_row.ensures),
      (each_front (IsTaker board closings) c.pop.new.self.items c.in-Some.row of).0,
    )

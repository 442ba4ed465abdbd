use Rattle.std.proofs.Common.{rules, ◌≡◌, sym, subst, length, get_or, ℕ, set}
use Rattle.atomic_table.proofs.Lists.{at_index}
use Rattle.turn_gate.specs.Closings.{Shutting}
use Rattle.image_gate.specs.Closings.{TakesRow}
use Rattle.image_gate.proofs.Taking.{takes_none, takes_more, takes_asks, takes_room}
use Rattle.image_gate.proofs.closing.take_row.Goals as goal

pub loop-pass-init : goal.loop-pass-init
loop-pass-init g c = takes_none c.args.row.items c.args.closings.now.items c.requires.wide

pub take_back-requires : goal.take_back-requires
take_back-requires g c =
    let t = subst (λ l. TakesRow c.args.row.items c.args.closings.now.items l c.loop-pass.closings.items) c.in-Some.ensures.items c.loop-pass.invariant in
    let k : c.len-k.result ≡ length c.pop.new.self.items = search rules in
    let lt = takes_room c.args.row.items c.pop.new.self.items c.args.closings.now.items c.loop-pass.closings.items c.in-Some.pass c.requires t in
    let at = at_index c.loop-pass.closings.items (length c.pop.new.self.items) c.index_mut.result.now lt (subst (λ (n : ℕ). c.index_mut.result.now ≡ get_or c.loop-pass.closings.items n c.index_mut.result.now) k c.index_mut.ensures.value) in
    takes_asks c.args.row.items c.pop.new.self.items c.args.closings.now.items c.loop-pass.closings.items c.in-Some.pass c.index_mut.result.now c.requires t at

pub loop-pass-preserved : goal.loop-pass-preserved
loop-pass-preserved g c =
    let t = subst (λ l. TakesRow c.args.row.items c.args.closings.now.items l c.loop-pass.closings.items) c.in-Some.ensures.items c.loop-pass.invariant in
    let k : c.len-k.result ≡ length c.pop.new.self.items = search rules in
    let lt = takes_room c.args.row.items c.pop.new.self.items c.args.closings.now.items c.loop-pass.closings.items c.in-Some.pass c.requires t in
    let at = at_index c.loop-pass.closings.items (length c.pop.new.self.items) c.index_mut.result.now lt (subst (λ (n : ℕ). c.index_mut.result.now ≡ get_or c.loop-pass.closings.items n c.index_mut.result.now) k c.index_mut.ensures.value) in
    subst (λ (z : ℕ × Shutting g.row.O.Denot). TakesRow c.args.row.items c.args.closings.now.items c.pop.new.self.items (set c.loop-pass.closings.items z.0 z.1)) (λ i. (sym k i, sym c.take_back.ensures i))
    (takes_more c.args.row.items c.pop.new.self.items c.args.closings.now.items c.loop-pass.closings.items c.in-Some.pass c.index_mut.result.now t at)

use Rattle.std.proofs.Common.{◌∙◌, ap, arith, ◌≤◌, ◌+◌}
use Rattle.image_stores.specs.Rows.{Held, total}
use Rattle.image_stores.proofs.RowLaws.{zeros_room, zeros_some, zeros_more}
use Rattle.image_stores.proofs.rows.Rows.begin_zeros.Goals as goal

pub add-requires-clause-room : goal.add-requires-clause-room
add-requires-clause-room c =
    let a : total c.args.self.now.rows + c.args.n ≤ c.loop-i.self.size = (let b = c.loop-i.invariant.size in let d = c.requires.room in omega arith) in
    zeros_room c.loop-i.self.rows c.args.self.now.rows c.loop-i.i c.args.n c.loop-i.self.size c.loop-i.invariant.rows a (omega arith)

pub add-requires-clause-some : goal.add-requires-clause-some
add-requires-clause-some c = zeros_some c.loop-i.self.rows c.args.self.now.rows c.loop-i.i c.loop-i.invariant.rows

pub loop-i-preserved : goal.loop-i-preserved
loop-i-preserved c = record {
  rows = ap (λ (x : Held). x.rows) c.add.ensures ∙ zeros_more c.loop-i.self.rows c.args.self.now.rows c.loop-i.i c.loop-i.invariant.rows;
  size = ap (λ (x : Held). x.size) c.add.ensures ∙ c.loop-i.invariant.size;
  most = ap (λ (x : Held). x.most) c.add.ensures ∙ c.loop-i.invariant.most;
}

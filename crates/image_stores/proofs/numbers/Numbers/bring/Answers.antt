use Rattle.std.proofs.Common.{arith}
use Rattle.image_stores.proofs.NumberLaws.{bring_view, long_enough}
use Rattle.image_stores.proofs.numbers.Numbers.bring.Goals as goal

pub overflow_sub-used : goal.overflow_sub-used
overflow_sub-used c = (let l = long_enough c.self.inside.cells.items c.self.inside.used c.args.depth c.args.n c.args.self.now (search (c.self.view_is)) c.requires in omega arith)

pub overflow_sub-used-2 : goal.overflow_sub-used-2
overflow_sub-used-2 c = (let l = long_enough c.self.inside.cells.items c.self.inside.used c.args.depth c.args.n c.args.self.now (search (c.self.view_is)) c.requires in omega arith)

pub rotate-requires-clause-some : goal.rotate-requires-clause-some
rotate-requires-clause-some c = (let l = long_enough c.self.inside.cells.items c.self.inside.used c.args.depth c.args.n c.args.self.now (search (c.self.view_is)) c.requires in omega arith)

pub returns : goal.returns
returns c =
    let l = long_enough c.self.inside.cells.items c.self.inside.used c.args.depth c.args.n c.args.self.now (search (c.self.view_is)) c.requires in
    bring_view c.self.inside.cells.items c.rotate.new.cells.items c.self.inside.used c.args.depth c.args.n c.args.self.now (search (c.self.view_is)) c.self.invariant l c.rotate.ensures

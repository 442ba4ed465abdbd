use Rattle.std.proofs.Common.{◌≡◌, ◌-◌, ◌∙◌, ap, take, drop, arith}
use Rattle.image_stores.proofs.NumberLaws.{beneath_view, long_enough}
use Rattle.image_stores.proofs.numbers.Numbers.beneath.Goals as goal

pub overflow_sub-end : goal.overflow_sub-end
overflow_sub-end c = (let l = long_enough c.self.inside.cells.items c.self.inside.used c.args.depth c.args.n c.args.self.now (search (c.self.view_is)) c.requires in omega arith)

pub overflow_sub-result : goal.overflow_sub-result
overflow_sub-result c = (let l = long_enough c.self.inside.cells.items c.self.inside.used c.args.depth c.args.n c.args.self.now (search (c.self.view_is)) c.requires in omega arith)

pub returns : goal.returns
returns c =
    let l = long_enough c.self.inside.cells.items c.self.inside.used c.args.depth c.args.n c.args.self.now (search (c.self.view_is)) c.requires in
    let start = c.self.inside.used - c.args.depth - c.args.n in
    let e : c.deref.result.now ≡ c.self.inside.cells.items = search (c.deref.ensures) in
    ap (λ xs. take (c.self.inside.used - c.args.depth - start) (drop start xs)) e
    ∙ beneath_view c.self.inside.cells.items c.self.inside.used c.args.depth c.args.n c.args.self.now (search (c.self.view_is)) c.self.invariant l

use Rattle.std.proofs.Common.{rules, arith, ◌+◌, ◌∷◌, [], refl}
use Rattle.image_acts.specs.Places.{single}
use Rattle.local_arrays.specs.declared.reach.Reach.TheVariants as reaches
use Rattle.local_arrays.specs.Rows.{IsOffset}
use Rattle.local_arrays.proofs.OffsetLaws.{kept}
use Rattle.local_arrays.proofs.ReachLaws.{reached, cell_small, cell_is}
use Rattle.local_arrays.proofs.row.cell_by_two.Goals as goal

pub offset_of_two-requires : goal.offset_of_two-requires
offset_of_two-requires c =
    let low = kept c.in-Two.low (search rules) in
    let high = kept c.in-Two.high (search rules) in
    let left = kept c.in-Two.left (search rules) in
    let right = kept c.in-Two.right (search rules) in
    let reach = reached c.args.cells.now c.args.infos.now c.args.k c.info_of-info.result.now (reaches.Two c.in-Two.low c.in-Two.high c.in-Two.left c.in-Two.right) c.requires.fit c.info_of-info.ensures c.in-Two.is in
    rw (low, high, left, right) reach.few

pub overflow_add-result : goal.overflow_add-result
overflow_add-result c =
    let low = kept c.in-Two.low (search rules) in
    let high = kept c.in-Two.high (search rules) in
    let left = kept c.in-Two.left (search rules) in
    let right = kept c.in-Two.right (search rules) in
    let row = kept c.args.row (search rules) in
    let column = kept c.args.column (search rules) in
    let reach = reached c.args.cells.now c.args.infos.now c.args.k c.info_of-info.result.now (reaches.Two c.in-Two.low c.in-Two.high c.in-Two.left c.in-Two.right) c.requires.fit c.info_of-info.ensures c.in-Two.is in
    let offset : IsOffset ((c.in-Two.low, c.in-Two.high) ∷ (c.in-Two.left, c.in-Two.right) ∷ []) (single c.args.row ∷ single c.args.column ∷ []) c.in_ok-offset-in-Two.offset = rw (low, high, left, right, row, column) at (c.in_ok-offset-in-Two.ensures) in
    let small = cell_small c.args.cells.now c.args.infos.now c.args.k c.info_of-info.result.now ((c.in-Two.low, c.in-Two.high) ∷ (c.in-Two.left, c.in-Two.right) ∷ []) (single c.args.row ∷ single c.args.column ∷ []) c.requires.fit c.info_of-info.ensures reach c.in_ok-offset-in-Two.offset offset in
    omega arith

pub returns-in_ok-offset-in-Two : goal.returns-in_ok-offset-in-Two
returns-in_ok-offset-in-Two c =
    let low = kept c.in-Two.low (search rules) in
    let high = kept c.in-Two.high (search rules) in
    let left = kept c.in-Two.left (search rules) in
    let right = kept c.in-Two.right (search rules) in
    let row = kept c.args.row (search rules) in
    let column = kept c.args.column (search rules) in
    let reach = reached c.args.cells.now c.args.infos.now c.args.k c.info_of-info.result.now (reaches.Two c.in-Two.low c.in-Two.high c.in-Two.left c.in-Two.right) c.requires.fit c.info_of-info.ensures c.in-Two.is in
    let offset : IsOffset ((c.in-Two.low, c.in-Two.high) ∷ (c.in-Two.left, c.in-Two.right) ∷ []) (single c.args.row ∷ single c.args.column ∷ []) c.in_ok-offset-in-Two.offset = rw (low, high, left, right, row, column) at (c.in_ok-offset-in-Two.ensures) in
    cell_is c.args.cells.now c.args.infos.now c.args.k c.info_of-info.result.now ((c.in-Two.low, c.in-Two.high) ∷ (c.in-Two.left, c.in-Two.right) ∷ []) (single c.args.row ∷ single c.args.column ∷ []) c.requires.fit c.info_of-info.ensures reach c.in_ok-offset-in-Two.offset offset (c.info_of-info.result.now.start + c.in_ok-offset-in-Two.offset) refl

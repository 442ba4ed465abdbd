use Rattle.std.proofs.Common.{rules, arith, ◌+◌, ◌∷◌, [], refl}
use Rattle.image_acts.specs.Places.{single}
use Rattle.local_arrays.specs.declared.reach.Reach.TheVariants as reaches
use Rattle.local_arrays.specs.Rows.{IsOffset}
use Rattle.local_arrays.proofs.OffsetLaws.{kept}
use Rattle.local_arrays.proofs.ReachLaws.{reached, cell_small, cell_is}
use Rattle.local_arrays.proofs.row.cell_by_one.Goals as goal

pub offset_of_one-requires : goal.offset_of_one-requires
offset_of_one-requires c =
    let lower = kept c.in-One.lower (search rules) in
    let upper = kept c.in-One.upper (search rules) in
    let reach = reached c.args.cells.now c.args.infos.now c.args.k c.info_of-info.result.now (reaches.One c.in-One.lower c.in-One.upper) c.requires.fit c.info_of-info.ensures c.in-One.is in
    rw (lower, upper) reach.few

pub overflow_add-result : goal.overflow_add-result
overflow_add-result c =
    let lower = kept c.in-One.lower (search rules) in
    let upper = kept c.in-One.upper (search rules) in
    let subscript = kept c.args.subscript (search rules) in
    let reach = reached c.args.cells.now c.args.infos.now c.args.k c.info_of-info.result.now (reaches.One c.in-One.lower c.in-One.upper) c.requires.fit c.info_of-info.ensures c.in-One.is in
    let offset : IsOffset ((c.in-One.lower, c.in-One.upper) ∷ []) (single c.args.subscript ∷ []) c.in_ok-offset-in-One.offset = rw (lower, upper, subscript) at (c.in_ok-offset-in-One.ensures) in
    let small = cell_small c.args.cells.now c.args.infos.now c.args.k c.info_of-info.result.now ((c.in-One.lower, c.in-One.upper) ∷ []) (single c.args.subscript ∷ []) c.requires.fit c.info_of-info.ensures reach c.in_ok-offset-in-One.offset offset in
    omega arith

pub returns-in_ok-offset-in-One : goal.returns-in_ok-offset-in-One
returns-in_ok-offset-in-One c =
    let lower = kept c.in-One.lower (search rules) in
    let upper = kept c.in-One.upper (search rules) in
    let subscript = kept c.args.subscript (search rules) in
    let reach = reached c.args.cells.now c.args.infos.now c.args.k c.info_of-info.result.now (reaches.One c.in-One.lower c.in-One.upper) c.requires.fit c.info_of-info.ensures c.in-One.is in
    let offset : IsOffset ((c.in-One.lower, c.in-One.upper) ∷ []) (single c.args.subscript ∷ []) c.in_ok-offset-in-One.offset = rw (lower, upper, subscript) at (c.in_ok-offset-in-One.ensures) in
    cell_is c.args.cells.now c.args.infos.now c.args.k c.info_of-info.result.now ((c.in-One.lower, c.in-One.upper) ∷ []) (single c.args.subscript ∷ []) c.requires.fit c.info_of-info.ensures reach c.in_ok-offset-in-One.offset offset (c.info_of-info.result.now.start + c.in_ok-offset-in-One.offset) refl

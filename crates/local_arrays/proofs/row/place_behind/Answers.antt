use Rattle.std.proofs.Common.{◌≡◌, ◌∙◌, ◌+◌, ◌++◌, ap, sym, arith, length, take, drop, List}
use Rattle.std.specs.Prelude.{slice_get, Some}
use Rattle.std.proofs.lemmas.List.{length-set}
use Rattle.local_arrays.specs.declared.row.Info.{Info}
use Rattle.local_arrays.specs.Rows.{placed, total_size}
use Rattle.local_arrays.proofs.RowLaws.{placed_turn, left_turn}
use Rattle.local_arrays.proofs.row.place_behind.Goals as goal

pub overflow_add-at : goal.overflow_add-at
overflow_add-at c =
    let i = c.info_at-info.result in
    let e : slice_get c.loop-k.infos.items c.loop-k.k ≡ Some i = ap (λ (xs : List Info). slice_get xs c.loop-k.k) (sym c.deref.ensures.value) ∙ c.info_at-info.ensures in
    let t = left_turn c.loop-k.infos.items c.loop-k.k i i e in
    let l = c.loop-k.invariant.left in
    let s = c.requires.small in
    omega arith

pub loop-k-preserved : goal.loop-k-preserved
loop-k-preserved c =
    let i = c.info_at-info.result in
    let j : Info = record i { start = c.loop-k.at } in
    let e : slice_get c.loop-k.infos.items c.loop-k.k ≡ Some i = ap (λ (xs : List Info). slice_get xs c.loop-k.k) (sym c.deref.ensures.value) ∙ c.info_at-info.ensures in
    let w = c.set_info.ensures.items in
    let t = left_turn c.loop-k.infos.items c.loop-k.k i j e in
    let u = ap (λ (xs : List Info). total_size (drop (c.loop-k.k + 1) xs)) w in
    let l = c.loop-k.invariant.left in
    record {
      same = ap (λ (xs : List Info). take (c.loop-k.k + 1) xs ++ placed (c.loop-k.at + i.size) (drop (c.loop-k.k + 1) xs)) w ∙ placed_turn c.loop-k.infos.items c.loop-k.k i c.loop-k.at e ∙ c.loop-k.invariant.same;
      long = ap length w ∙ length-set c.loop-k.infos.items c.loop-k.k j ∙ c.loop-k.invariant.long;
      left = omega arith;
      capacity = c.set_info.ensures.capacity ∙ c.loop-k.invariant.capacity;
    }

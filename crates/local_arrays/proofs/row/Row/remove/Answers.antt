use Rattle.std.proofs.Common.{◌≡◌, ◌∙◌, ◌<◌, ◌+◌, ◌++◌, ap, sym, arith, subst, refl, ℕ, List, length, take, drop}
use Rattle.std.specs.Prelude.{slice_get, slice_set, Some, None}
use Rattle.std.proofs.lemmas.List.{length-set}
use Rattle.local_arrays.specs.declared.row.Info.{Info}
use Rattle.local_arrays.specs.Rows.{Rowed, total_size, placed}
use Rattle.local_arrays.proofs.RowLaws.{locals_long, none_at, within, left_turn, drop_total, reset_placed, removed_fit, removed_view, same_rowed}
use Rattle.local_arrays.proofs.row.Row.remove.Goals as goal

pub close_gap-requires : goal.close_gap-requires
close_gap-requires c =
    let e : slice_get c.self.inside.infos.items c.args.k ≡ Some c.info_at-info.result = ap (λ (xs : List Info). slice_get xs c.args.k) (sym c.deref.ensures.value) ∙ c.info_at-info.ensures in
    within c.self.inside.cells.items c.self.inside.infos.items c.args.k c.info_at-info.result c.self.invariant.0 e

pub place_behind-requires-clause-within : goal.place_behind-requires-clause-within
place_behind-requires-clause-within c =
    let l = locals_long c.self.inside.cells.items c.self.inside.infos.items in
    let v = ap (λ (r : Rowed). length r.arrays) c.self.view_is in
    let w = ap length c.set_info.ensures.items ∙ length-set c.self.inside.infos.items c.args.k (none_at c.info_at-info.result.start) in
    let n = c.requires in
    omega arith

pub place_behind-requires-clause-small : goal.place_behind-requires-clause-small
place_behind-requires-clause-small c =
    let e : slice_get c.self.inside.infos.items c.args.k ≡ Some c.info_at-info.result = ap (λ (xs : List Info). slice_get xs c.args.k) (sym c.deref.ensures.value) ∙ c.info_at-info.ensures in
    let w = within c.self.inside.cells.items c.self.inside.infos.items c.args.k c.info_at-info.result c.self.invariant.0 e in
    let s = c.self.invariant.0.small in
    let t = left_turn c.self.inside.infos.items c.args.k c.info_at-info.result (none_at c.info_at-info.result.start) e in
    let u = ap (λ (xs : List Info). total_size (drop (c.args.k + 1) xs)) c.set_info.ensures.items in
    let d = drop_total c.self.inside.infos.items c.args.k in
    let f = c.self.invariant.0.full in
    omega arith

pub invariant_of-self : goal.invariant_of-self
invariant_of-self c =
    let e : slice_get c.self.inside.infos.items c.args.k ≡ Some c.info_at-info.result = ap (λ (xs : List Info). slice_get xs c.args.k) (sym c.deref.ensures.value) ∙ c.info_at-info.ensures in
    let z : c.info_at-info.result.start ≡ c.info_at-info.result.start + 0 = omega arith in (
      removed_fit c.self.inside.cells.items c.close_gap.new.cells.items c.self.inside.infos.items c.place_behind.new.infos.items c.args.k c.info_at-info.result c.self.invariant.0 e c.close_gap.ensures.items
          (reset_placed c.self.inside.infos.items c.place_behind.new.infos.items c.args.k c.info_at-info.result (none_at c.info_at-info.result.start) c.self.invariant.0.placed e refl (c.place_behind.ensures.items ∙ ap (λ n. take (c.args.k + 1) c.set_info.new.infos.items ++ placed n (drop (c.args.k + 1) c.set_info.new.infos.items)) z ∙ ap (λ xs. take (c.args.k + 1) xs ++ placed (c.info_at-info.result.start + 0) (drop (c.args.k + 1) xs)) c.set_info.ensures.items)),
      subst (λ (n : ℕ). n < 4294967296) (sym c.close_gap.ensures.capacity) c.self.invariant.1,
    )

pub returns : goal.returns
returns c =
    let e : slice_get c.self.inside.infos.items c.args.k ≡ Some c.info_at-info.result = ap (λ (xs : List Info). slice_get xs c.args.k) (sym c.deref.ensures.value) ∙ c.info_at-info.ensures in
    let z : c.info_at-info.result.start ≡ c.info_at-info.result.start + 0 = omega arith in
    same_rowed _ _ _ _ _ _ (removed_view c.self.inside.cells.items c.close_gap.new.cells.items c.self.inside.infos.items c.place_behind.new.infos.items c.args.k c.info_at-info.result c.self.invariant.0 e c.close_gap.ensures.items
    (reset_placed c.self.inside.infos.items c.place_behind.new.infos.items c.args.k c.info_at-info.result (none_at c.info_at-info.result.start) c.self.invariant.0.placed e refl (c.place_behind.ensures.items ∙ ap (λ n. take (c.args.k + 1) c.set_info.new.infos.items ++ placed n (drop (c.args.k + 1) c.set_info.new.infos.items)) z ∙ ap (λ xs. take (c.args.k + 1) xs ++ placed (c.info_at-info.result.start + 0) (drop (c.args.k + 1) xs)) c.set_info.ensures.items))) (c.place_behind.ensures.capacity ∙ c.set_info.ensures.capacity) c.close_gap.ensures.capacity
    ∙ ap (λ (r : Rowed). record { arrays = slice_set r.arrays c.args.k None; most = r.most; size = r.size }) c.self.view_is

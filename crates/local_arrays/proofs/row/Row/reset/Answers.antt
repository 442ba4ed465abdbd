use Rattle.std.proofs.Common.{◌≡◌, ◌∙◌, ◌<◌, ◌≤◌, ◌+◌, ap, sym, arith, subst, refl, ℕ, List, length, pos, replicate, drop}
use Rattle.std.specs.Prelude.{slice_get, slice_set, Some}
use Rattle.std.proofs.lemmas.List.{length-set}
use Rattle.image_acts.specs.Frames.{cells_in_arrays}
use Rattle.local_arrays.specs.declared.row.Info.{Info}
use Rattle.local_arrays.specs.Rows.{Rowed, local_with, total_size}
use Rattle.local_arrays.proofs.RowLaws.{locals_long, within, left_turn, drop_total, reset_room, reset_small, reset_placed, placed_from, reset_fit, reset_view, same_rowed}
use Rattle.local_arrays.proofs.row.Row.reset.Goals as goal

pub gap-requires-clause-within : goal.gap-requires-clause-within
gap-requires-clause-within c =
    let e : slice_get c.self.inside.infos.items c.args.k ≡ Some c.info_at-info.result = ap (λ (xs : List Info). slice_get xs c.args.k) (sym c.deref.ensures.value) ∙ c.info_at-info.ensures in
    within c.self.inside.cells.items c.self.inside.infos.items c.args.k c.info_at-info.result c.self.invariant.0 e

pub gap-requires-clause-room : goal.gap-requires-clause-room
gap-requires-clause-room c =
    let e : slice_get c.self.inside.infos.items c.args.k ≡ Some c.info_at-info.result = ap (λ (xs : List Info). slice_get xs c.args.k) (sym c.deref.ensures.value) ∙ c.info_at-info.ensures in
    let r = subst (λ (r : Rowed). cells_in_arrays (slice_set r.arrays c.args.k (local_with c.args.bounds (replicate c.args.n (pos 0)))) ≤ r.size) (sym c.self.view_is) c.requires.room in
    reset_room c.self.inside.cells.items c.self.inside.infos.items c.args.k c.info_at-info.result c.args.bounds c.args.n _ c.self.invariant.0 e c.requires.well r

pub overflow_add-start : goal.overflow_add-start
overflow_add-start c =
    let e : slice_get c.self.inside.infos.items c.args.k ≡ Some c.info_at-info.result = ap (λ (xs : List Info). slice_get xs c.args.k) (sym c.deref.ensures.value) ∙ c.info_at-info.ensures in
    let w = within c.self.inside.cells.items c.self.inside.infos.items c.args.k c.info_at-info.result c.self.invariant.0 e in
    let q = subst (λ (r : Rowed). cells_in_arrays (slice_set r.arrays c.args.k (local_with c.args.bounds (replicate c.args.n (pos 0)))) ≤ r.size) (sym c.self.view_is) c.requires.room in
    let r = reset_room c.self.inside.cells.items c.self.inside.infos.items c.args.k c.info_at-info.result c.args.bounds c.args.n _ c.self.invariant.0 e c.requires.well q in
    let s = c.self.invariant.1 in
    omega arith

pub place_behind-requires-clause-within : goal.place_behind-requires-clause-within
place_behind-requires-clause-within c =
    let l = locals_long c.self.inside.cells.items c.self.inside.infos.items in
    let v = ap (λ (r : Rowed). length r.arrays) c.self.view_is in
    let w = ap length c.set_info.ensures.items ∙ length-set c.self.inside.infos.items c.args.k (record { reach = c.reach_of-reach.result; bounds = c.args.bounds; start = c.info_at-info.result.start; size = c.args.n }) in
    let n = c.requires.number in
    omega arith

pub place_behind-requires-clause-small : goal.place_behind-requires-clause-small
place_behind-requires-clause-small c =
    let e : slice_get c.self.inside.infos.items c.args.k ≡ Some c.info_at-info.result = ap (λ (xs : List Info). slice_get xs c.args.k) (sym c.deref.ensures.value) ∙ c.info_at-info.ensures in
    let w = within c.self.inside.cells.items c.self.inside.infos.items c.args.k c.info_at-info.result c.self.invariant.0 e in
    let q = subst (λ (r : Rowed). cells_in_arrays (slice_set r.arrays c.args.k (local_with c.args.bounds (replicate c.args.n (pos 0)))) ≤ r.size) (sym c.self.view_is) c.requires.room in
    let r = reset_room c.self.inside.cells.items c.self.inside.infos.items c.args.k c.info_at-info.result c.args.bounds c.args.n _ c.self.invariant.0 e c.requires.well q in
    let s = c.self.invariant.1 in
    let j : Info = record { reach = c.reach_of-reach.result; bounds = c.args.bounds; start = c.info_at-info.result.start; size = c.args.n } in
    let t = left_turn c.self.inside.infos.items c.args.k c.info_at-info.result j e in
    let u = ap (λ (xs : List Info). total_size (drop (c.args.k + 1) xs)) c.set_info.ensures.items in
    let d = drop_total c.self.inside.infos.items c.args.k in
    let f = c.self.invariant.0.full in
    omega arith

pub invariant_of-self : goal.invariant_of-self
invariant_of-self c =
    let e : slice_get c.self.inside.infos.items c.args.k ≡ Some c.info_at-info.result = ap (λ (xs : List Info). slice_get xs c.args.k) (sym c.deref.ensures.value) ∙ c.info_at-info.ensures in
    let q = subst (λ (r : Rowed). cells_in_arrays (slice_set r.arrays c.args.k (local_with c.args.bounds (replicate c.args.n (pos 0)))) ≤ r.size) (sym c.self.view_is) c.requires.room in
    let r = reset_room c.self.inside.cells.items c.self.inside.infos.items c.args.k c.info_at-info.result c.args.bounds c.args.n _ c.self.invariant.0 e c.requires.well q in
    let w = within c.self.inside.cells.items c.self.inside.infos.items c.args.k c.info_at-info.result c.self.invariant.0 e in
    let j : Info = record { reach = c.reach_of-reach.result; bounds = c.args.bounds; start = c.info_at-info.result.start; size = c.args.n } in (
      reset_fit c.self.inside.cells.items c.gap.new.cells.items c.self.inside.infos.items c.place_behind.new.infos.items c.args.k c.info_at-info.result j c.self.invariant.0 e c.requires.well c.reach_of-reach.ensures c.gap.ensures.items
          (reset_placed c.self.inside.infos.items c.place_behind.new.infos.items c.args.k c.info_at-info.result j c.self.invariant.0.placed e refl (placed_from c.self.inside.infos.items c.set_info.new.infos.items c.place_behind.new.infos.items c.args.k j c.set_info.ensures.items c.place_behind.ensures.items))
          (reset_small c.self.inside.cells.items c.gap.new.cells.items c.info_at-info.result.start c.info_at-info.result.size c.args.n _ w c.gap.ensures.items r c.self.invariant.1),
      subst (λ (n : ℕ). n < 4294967296) (sym c.gap.ensures.capacity) c.self.invariant.1,
    )

pub returns : goal.returns
returns c =
    let e : slice_get c.self.inside.infos.items c.args.k ≡ Some c.info_at-info.result = ap (λ (xs : List Info). slice_get xs c.args.k) (sym c.deref.ensures.value) ∙ c.info_at-info.ensures in
    let j : Info = record { reach = c.reach_of-reach.result; bounds = c.args.bounds; start = c.info_at-info.result.start; size = c.args.n } in
    same_rowed _ _ _ _ _ _ (reset_view c.self.inside.cells.items c.gap.new.cells.items c.self.inside.infos.items c.place_behind.new.infos.items c.args.k c.info_at-info.result j c.self.invariant.0 e c.gap.ensures.items
    (reset_placed c.self.inside.infos.items c.place_behind.new.infos.items c.args.k c.info_at-info.result j c.self.invariant.0.placed e refl (placed_from c.self.inside.infos.items c.set_info.new.infos.items c.place_behind.new.infos.items c.args.k j c.set_info.ensures.items c.place_behind.ensures.items)))
    (c.place_behind.ensures.capacity ∙ c.set_info.ensures.capacity) c.gap.ensures.capacity
    ∙ ap (λ (r : Rowed). record { arrays = slice_set r.arrays c.args.k (local_with c.args.bounds (replicate c.args.n (pos 0))); most = r.most; size = r.size }) c.self.view_is

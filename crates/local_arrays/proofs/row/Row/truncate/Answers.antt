use Rattle.std.proofs.Common.{◌≡◌, ◌∙◌, ◌<◌, ap, sym, take, subst, ℕ, List}
use Rattle.std.specs.Prelude.{slice_get, Some}
use Rattle.local_arrays.specs.declared.row.Info.{Info}
use Rattle.local_arrays.specs.Rows.{Rowed}
use Rattle.local_arrays.proofs.RowLaws.{truncated_fit, truncated_view, same_rowed}
use Rattle.local_arrays.proofs.row.Row.truncate.Goals as goal

pub invariant_of-self : goal.invariant_of-self
invariant_of-self c =
    let e : slice_get c.self.inside.infos.items c.args.n ≡ Some c.info_at-start.result = ap (λ (xs : List Info). slice_get xs c.args.n) (sym c.deref.ensures.value) ∙ c.info_at-start.ensures in (
      truncated_fit c.self.inside.cells.items c.truncate.new.self.items c.self.inside.infos.items c.truncate-2.new.self.items c.args.n c.info_at-start.result c.self.invariant.0 e c.truncate.ensures.items c.truncate-2.ensures.items,
      subst (λ (n : ℕ). n < 4294967296) (sym c.truncate.ensures.capacity) c.self.invariant.1,
    )

pub returns : goal.returns
returns c =
    let e : slice_get c.self.inside.infos.items c.args.n ≡ Some c.info_at-start.result = ap (λ (xs : List Info). slice_get xs c.args.n) (sym c.deref.ensures.value) ∙ c.info_at-start.ensures in
    same_rowed _ _ _ _ _ _ (truncated_view c.self.inside.cells.items c.truncate.new.self.items c.self.inside.infos.items c.truncate-2.new.self.items c.args.n c.info_at-start.result c.self.invariant.0 e c.truncate.ensures.items c.truncate-2.ensures.items)
    c.truncate-2.ensures.capacity c.truncate.ensures.capacity
    ∙ ap (λ (r : Rowed). record { arrays = take c.args.n r.arrays; most = r.most; size = r.size }) c.self.view_is

use Rattle.std.proofs.Common.{◌≡◌, ◌∙◌, ◌++◌, ◌∷◌, [], ap, arith, length, rules, refl, vec_len}
use Rattle.std.specs.Prelude.{None}
use Rattle.local_arrays.specs.Rows.{Rowed}
use Rattle.local_arrays.proofs.RowLaws.{locals_long, none_at, pushed_fit, pushed_view, same_rowed}
use Rattle.local_arrays.proofs.row.Row.push.Goals as goal

pub push_reserved-requires : goal.push_reserved-requires
push_reserved-requires c =
    let v : vec_len c.self.inside.infos ≡ length c.self.inside.infos.items = search rules in
    let l = locals_long c.self.inside.cells.items c.self.inside.infos.items in
    let a = ap (λ (r : Rowed). length r.arrays) c.self.view_is in
    let b = ap (λ (r : Rowed). r.most) c.self.view_is in
    let r = c.requires in
    omega arith

pub invariant_of-self : goal.invariant_of-self
invariant_of-self c =
    let v : vec_len c.self.inside.cells ≡ length c.self.inside.cells.items = search rules in (
      pushed_fit c.self.inside.cells.items c.self.inside.infos.items c.push_reserved.new.self.items c.self.invariant.0
          (c.push_reserved.ensures.items ∙ ap (λ n. c.self.inside.infos.items ++ none_at n ∷ []) (c.len-start.ensures ∙ v)),
      c.self.invariant.1,
    )

pub returns : goal.returns
returns c =
    let v : vec_len c.self.inside.cells ≡ length c.self.inside.cells.items = search rules in
    same_rowed _ _ _ _ _ _ (pushed_view c.self.inside.cells.items c.self.inside.infos.items c.push_reserved.new.self.items
    (c.push_reserved.ensures.items ∙ ap (λ n. c.self.inside.infos.items ++ none_at n ∷ []) (c.len-start.ensures ∙ v))) c.push_reserved.ensures.capacity refl
    ∙ ap (λ (r : Rowed). record { arrays = r.arrays ++ None ∷ []; most = r.most; size = r.size }) c.self.view_is

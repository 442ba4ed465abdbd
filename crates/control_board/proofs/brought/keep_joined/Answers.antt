use Rattle.std.proofs.Common.{◌++◌, ◌∷◌, [], ◌-◌, ◌<◌, ◌≤◌, length, map, arith, ap, sym, subst, ◌∙◌, refl}
use Rattle.std.specs.Prelude.{slice_set}
use Rattle.control_board.specs.Boards.{values_in, values_of, IsKeptWith}
use Rattle.control_board.proofs.Bringing.{table_kept, table_itself}
use Rattle.control_board.proofs.brought.keep_joined.Goals as goal

pub returns-in-Joined : goal.returns-in-Joined
returns-in-Joined c =
    let low : 0 < c.args.team.0 = c.requires.team.0 in
    let top : c.args.team.0 ≤ length c.args.tables.now.items = c.requires.team.1 in
    let high : c.args.team.0 - 1 < length c.args.tables.now.items = omega arith in
    let r = table_kept c.args.tables.now.items (c.args.team.0 - 1) c.index_mut.result.now c.keep.new.self high c.index_mut.ensures.value in (
      r.2 ∙ ap (λ b. slice_set (map values_in c.args.tables.now.items) (c.args.team.0 - 1) (values_in b)) (sym r.1),
      subst (IsKeptWith _ _ c.args.image.0 c.args.values) (sym c.in-Joined.is)
          (ap values_in r.1 ∙ c.keep.ensures ∙ ap (λ b. slice_set (values_in b) (c.args.image.0 - 1) (values_of b c.args.image.0 ++ c.args.values ∷ [])) (sym r.0)),
    )

pub returns-in-Clash : goal.returns-in-Clash
returns-in-Clash c =
    let low : 0 < c.args.team.0 = c.requires.team.0 in
    let top : c.args.team.0 ≤ length c.args.tables.now.items = c.requires.team.1 in
    let high : c.args.team.0 - 1 < length c.args.tables.now.items = omega arith in
    (table_itself c.args.tables.now.items (c.args.team.0 - 1) high, subst (IsKeptWith _ _ c.args.image.0 c.args.values) (sym c.in-Clash.is) refl)

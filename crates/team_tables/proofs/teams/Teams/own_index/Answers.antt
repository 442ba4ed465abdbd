use Rattle.std.proofs.Common.{◌≡◌, ◌<◌, ◌^◌, ◌∙◌, w64, ℕ, pos, ap, arith}
use Rattle.std.proofs.lemmas.Int.{ints, to_z_pos}
use Rattle.image_acts.specs.Teams.{index_in}
use Rattle.team_tables.specs.Tables.{Table, members_here}
use Rattle.team_tables.proofs.NamedLaws.{index_within}
use Rattle.team_tables.proofs.teams.Teams.own_index.Goals as goal

pub overflow_cast-result : goal.overflow_cast-result
overflow_cast-result c =
    let l = index_within c.self.inside.me c.members.result.now in
    let e = c.index_in.ensures in
    let f = c.members.ensures.few in
    let g : c.index_in.result < 2 ^ 63 = omega arith in
    omega (arith, ints)

pub returns : goal.returns
returns c =
    let l = index_within c.self.inside.me c.members.result.now in
    let e = c.index_in.ensures in
    let f = c.members.ensures.few in
    let g : c.index_in.result < 2 ^ 63 = omega arith in
    to_z_pos w64 c.index_in.result g
    ∙ ap pos (e ∙ ap (index_in c.self.inside.me) c.members.ensures.value ∙ (let me : c.self.inside.me ≡ c.args.self.now.me = ap (λ (t : Table). t.me) c.self.view_is in ap (λ (n : ℕ). index_in n (members_here c.args.self.now c.args.team)) me))

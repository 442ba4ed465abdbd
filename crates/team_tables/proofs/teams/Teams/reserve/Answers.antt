use Rattle.std.proofs.Common.{rules, ◌≡◌, length, arith, ap, ◌∙◌}
use Rattle.std.specs.Prelude.{vec_len}
use Rattle.team_tables.specs.Entries.{known_in}
use Rattle.team_tables.specs.Tables.{members_in}
use Rattle.team_tables.proofs.KeptLaws.{known_long, members_placed, placed_within}
use Rattle.team_tables.proofs.teams.Teams.reserve.Goals as goal

pub returns-clause-room : goal.returns-clause-room
returns-clause-room c =
    let ms = c.reserve-2.new.self.items in
    let es = c.reserve.new.self.items in
    let same : known_in ms es ≡ known_in c.self.inside.members.items c.self.inside.known.items =
    ap (λ xs. known_in xs es) c.reserve-2.ensures.items ∙ ap (known_in c.self.inside.members.items) c.reserve.ensures.items in
    let known = ap length same ∙ known_long c.self.inside.members.items c.self.inside.known.items in
    let members = ap members_in same ∙ members_placed _ _ _ _ _ _ _ _ _ c.self.invariant in
    let within = placed_within _ _ _ _ _ _ _ _ _ c.self.invariant in
    let a = c.in_ok-reserve.ensures.ok in
    let b = c.in_ok-reserve-2.ensures.ok in
    let d = c.reserve.ensures.len in
    let e = c.reserve-2.ensures.len in
    let v : vec_len c.self.inside.known ≡ length c.self.inside.known.items = search rules in
    let w : vec_len c.self.inside.members ≡ length c.self.inside.members.items = search rules in
    (omega arith, omega arith)

use Rattle.std.proofs.Common.{◌&&◌, ◌<◌, ◌≤◌, false, nat_le, length, sym, subst, ◌∙◌, arith}
use Rattle.std.proofs.lemmas.Bool.{and_parts, leb-true}
use Rattle.caf_events.specs.declared.ask.Ask.TheVariants as asks
use Rattle.object_rules.specs.BoardTeams.{teams_after, members_at}
use Rattle.object_rules.specs.ImagePairs.{names}
use Rattle.control_board.proofs.Members.{member_there, known_there}
use Rattle.control_board.proofs.Steps.{ready_parts}
use Rattle.control_board.proofs.reply.status.Goals as goal

-- src/reply.rt:110:5
pub member_status-requires-clause-index : goal.member_status-requires-clause-index
member_status-requires-clause-index c =
    let k = c.requires in
    let i = c.args.index in
    let t = c.args.team.0 in
    let p = c.args.parts.now in
    let ms = members_at (teams_after c.requires.images c.requires.history) c.args.team.0 in
    let r = ready_parts k.images k.history c.args.image.0 (asks.Status c.args.team c.args.index) k.ready in
    let f = and_parts (names c.args.image.0 ms && nat_le 1 i) (nat_le i (length ms)) r.1 in
    let g = and_parts (names c.args.image.0 ms) (nat_le 1 i) f.0 in
    let a = leb-true 1 c.args.index g.1 in
    let high : c.args.index ≤ length (members_at (teams_after c.requires.images c.requires.history) c.args.team.0) = leb-true c.args.index (length (members_at (teams_after c.requires.images c.requires.history) c.args.team.0)) f.1 in
    let low : 0 < c.args.index = omega arith in
    let there = member_there k.images k.history p k.board false t c.args.image.0 g.0 in
    (low, λ n h b. subst (λ ns. c.args.index ≤ length ns) (sym (known_there k.images k.history p k.board t there.0 there.2) ∙ known_there n h p b t there.0 there.2) high)

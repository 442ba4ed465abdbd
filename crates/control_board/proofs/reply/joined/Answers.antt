use Rattle.std.proofs.Common.{false, ap, sym, ◌∙◌}
use Rattle.caf_events.specs.declared.ask.Ask.TheVariants as asks
use Rattle.object_rules.specs.Happenings.{control, kind_of}
use Rattle.object_rules.specs.BoardRules.{arrival_reply}
use Rattle.control_board.proofs.Keeping.{can_expect}
use Rattle.control_board.proofs.Members.{member_there}
use Rattle.control_board.proofs.Steps.{ready_parts}
use Rattle.control_board.proofs.reply.joined.Goals as goal

pub joined_by-requires-clause-team : goal.joined_by-requires-clause-team
joined_by-requires-clause-team c =
    let r = ready_parts c.requires.images c.requires.history c.args.image.0 (asks.Arrive c.args.team c.args.arriving.now) c.requires.ready in
    let t = member_there c.requires.images c.requires.history c.args.parts.now c.requires.board false c.args.team.0 c.args.image.0 r.1 in
    (t.0, t.1)

pub joined_by-requires-clause-state : goal.joined_by-requires-clause-state
joined_by-requires-clause-state c =
    let r = ready_parts c.requires.images c.requires.history c.args.image.0 (asks.Arrive c.args.team c.args.arriving.now) c.requires.ready in
    can_expect c.requires.images c.requires.history c.args.parts.now c.requires.board c.args.image.0 r.0 false c.args.team.0 c.requires.few

pub joined_by-reply-requires-clause-team : goal.joined_by-reply-requires-clause-team
joined_by-reply-requires-clause-team c =
    let r = ready_parts c.requires.images c.requires.history c.args.image.0 (asks.Arrive c.args.team c.args.arriving.now) c.requires.ready in
    let t = member_there c.requires.images c.requires.history c.args.parts.now c.requires.board false c.args.team.0 c.args.image.0 r.1 in
    (t.0, t.1)

pub joined_by-reply-requires-clause-state : goal.joined_by-reply-requires-clause-state
joined_by-reply-requires-clause-state c =
    let r = ready_parts c.requires.images c.requires.history c.args.image.0 (asks.Arrive c.args.team c.args.arriving.now) c.requires.ready in
    can_expect c.requires.images c.requires.history c.args.parts.now c.requires.board c.args.image.0 r.0 false c.args.team.0 c.requires.few

pub returns-in-Sync : goal.returns-in-Sync
returns-in-Sync c n h b = c.joined_by.ensures n h b ∙ ap (λ a. arrival_reply control h c.args.image.0 c.args.team.0 (kind_of a)) (sym c.in-Sync.is)

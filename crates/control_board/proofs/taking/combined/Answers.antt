use Rattle.std.proofs.Common.{true, map, ap, ◌∙◌}
use Rattle.std.specs.Prelude.{Some}
use Rattle.object_rules.specs.Happenings.{collective, happened}
use Rattle.object_rules.specs.TeamRounds.{opening_of}
use Rattle.object_rules.specs.BoardRules.{collected}
use Rattle.team_tree.specs.KnownTeams.{team_of}
use Rattle.caf_base.specs.declared.place.ImageNo.{ImageNo}
use Rattle.control_board.specs.Boards.{value_at, table_of}
use Rattle.control_board.proofs.Members.{known_there}
use Rattle.control_board.proofs.Collecting.{ok_map, values_members, kind_collected, none_collected}
use Rattle.control_board.proofs.taking.combined.Goals as goal

pub returns-in-Some : goal.returns-in-Some
returns-in-Some c =
    ok_map c.collected.result (λ o q n h b. (
    let f = value_at (table_of c.args.parts.now.brought.items c.args.team.0) c.args.round in
    q ∙ ap (λ l. collected c.in-Some.what.now (map (λ x. x.items) l)) c.as_slice.ensures.value
    ∙ ap (collected c.in-Some.what.now) (
    c.in_ok-values.ensures ∙ ap (map (λ (m : ImageNo). f m.0)) c.members-members.ensures.members ∙ values_members f (team_of c.args.parts.now.teams.teams c.args.team.0).members
    ∙ ap (map f) (known_there n h c.args.parts.now b c.args.team.0 c.requires.low c.requires.high))
    ∙ kind_collected (opening_of c.args.team.0 c.args.round (happened collective h)) c.in-Some.what.now _ (c.in-Some.ensures n (happened collective h) (b.rounds true)))) c.collected.ensures

pub returns : goal.returns
returns c n h b =
    ap Some c.new.ensures.items ∙ none_collected (opening_of c.args.team.0 c.args.round (happened collective h)) _ (c.in-None.ensures n (happened collective h) (b.rounds true))

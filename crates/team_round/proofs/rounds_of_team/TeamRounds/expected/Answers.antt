use Rattle.std.proofs.Common.{sym, subst, ◌∙◌}
use Rattle.object_rules.specs.Kinds.{same_kind}
use Rattle.team_round.specs.TeamStates.{TeamState, CanExpect, IsTold}
use Rattle.team_round.proofs.Told.{clash_is, joined_is}
use Rattle.team_round.proofs.rounds_of_team.TeamRounds.expected.Goals as goal

pub returns-in-Some : goal.returns-in-Some
returns-in-Some c t ended hs told =
    let can = subst (λ (s : TeamState). CanExpect s c.args.image.0) (sym c.self.view_is) c.requires in
    let inside = subst (λ (s : TeamState). IsTold t s ended hs) (sym c.self.view_is) told in
    clash_is same_kind c.args.kind.now t c.args.image.0 _ ended hs c.joined_rounds-place.result can.image.0 can.image.1 inside c.joined_rounds-place.ensures c.in-Some.clash (sym c.in-Some.ensures)

pub returns-in-None : goal.returns-in-None
returns-in-None c t ended hs told =
    let can = subst (λ (s : TeamState). CanExpect s c.args.image.0) (sym c.self.view_is) c.requires in
    let inside = subst (λ (s : TeamState). IsTold t s ended hs) (sym c.self.view_is) told in
    joined_is same_kind c.args.kind.now t c.args.image.0 _ ended hs c.joined_rounds-place.result can.image.0 can.image.1 inside c.joined_rounds-place.ensures (sym c.in-None.ensures)

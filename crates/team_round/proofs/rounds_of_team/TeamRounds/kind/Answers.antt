use Rattle.std.proofs.Common.{◌≡◌, None, Some, MatchOption, sym, subst}
use Rattle.team_round.specs.TeamStates.{TeamState, Tells}
use Rattle.team_round.proofs.Statuses.{kind_is}
use Rattle.team_round.proofs.rounds_of_team.TeamRounds.kind.Goals as goal

pub returns : goal.returns
returns c t hs told =
    let inside = subst (λ (s : TeamState). Tells t s hs) (sym c.self.view_is) told in
    subst (λ o. MatchOption c.kind_at.result (o ≡ None) (λ k. o ≡ Some k.now)) (kind_is t c.args.round _ hs c.requires inside) c.kind_at.ensures

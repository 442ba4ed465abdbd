use Rattle.std.proofs.Common.{◌≡◌, ◌+◌, ◌-◌, [], ◌∷◌, ◌++◌, ap, sym, subst, ◌∙◌}
use Rattle.std.specs.Prelude.{slice_get, Some}
use Rattle.object_rules.specs.Happenings.{arrives, numbers_of}
use Rattle.object_rules.specs.TeamRounds.{arrivals}
use Rattle.failure_status.specs.Endings.{end_of}
use Rattle.team_round.specs.TeamStates.{TeamState, RoundsState, CanClose, IsTold, closing_at}
use Rattle.team_round.specs.contracts.rounds.Rounds.{the_view}
use Rattle.team_round.proofs.Members.{holds_there, read_there, told_of}
use Rattle.team_round.proofs.rounds.Rounds.closing_by_end.Goals as goal

pub closing_by_end-requires : goal.closing_by_end-requires
closing_by_end-requires c =
    subst (λ (s : RoundsState). CanClose s.ended c.index.result.now c.args.image.0) (sym c.self.view_is)
    (holds_there c.args.t.0 c.args.self.now (the_view c.self.inside) c.index.result.now (λ (x : TeamState). CanClose c.args.self.now.ended x c.args.image.0) c.self.view_is c.requires.team c.index.ensures c.requires.state)

pub returns : goal.returns
returns c n hs x all at =
    let same = read_there c.args.t.0 c.args.self.now (the_view c.self.inside) c.index.result.now x c.self.view_is c.requires.team c.index.ensures at in
    let told = told_of n c.args.t.0 c.args.self.now (the_view c.self.inside) c.index.result.now hs c.self.view_is c.requires.team c.index.ensures all in
    subst (λ (y : TeamState). c.closing_by_end.result ≡ closing_at (numbers_of y.members) c.args.t.0 hs (hs ++ end_of c.args.image.0 c.args.failed ∷ []) c.args.round) same
    (c.closing_by_end.ensures c.args.t.0 hs (subst (λ (s : RoundsState). IsTold c.args.t.0 c.index.result.now s.ended hs) (sym c.self.view_is) told))

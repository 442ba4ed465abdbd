use Rattle.std.proofs.Common.{rules, ◌≡◌, ◌+◌, ◌<◌, ◌≤◌, true, false, ◌&&◌, not, cond, ap, sym, ◌∙◌, subst, [], ◌∷◌, ◌++◌, length, to_z, of_z, w32, refl}
use Rattle.std.specs.Prelude.{Some, None}
use Rattle.object_rules.specs.Happenings.{arrives, numbers_of}
use Rattle.object_rules.specs.TeamRounds.{arrivals}
use Rattle.failure_status.specs.Endings.{status_in, ended_with, end_of}
use Rattle.team_round.specs.TeamStates.{TeamState, IsTold, CanClose, closing_at}
use Rattle.team_round.specs.contracts.rounds_of_team.TeamRounds.{the_view}
use Rattle.team_round.proofs.Closes.{arrival_closes, end_closes}
use Rattle.team_round.proofs.rounds_of_team.TeamRounds.closing_by_arrival.Goals as goal

pub returns-then-closes_by_arrival : goal.returns-then-closes_by_arrival
returns-then-closes_by_arrival c t kind line hs told =
    let can = subst (λ (s : TeamState). CanClose c.args.endings.now s c.args.image.0) (sym c.self.view_is) c.requires in
    let inside = subst (λ (s : TeamState). IsTold t s c.args.endings.now hs) (sym c.self.view_is) told in
    let e : to_z w32 (of_z w32 c.status_among.result) ≡ c.status_among.result = search rules in
    subst (λ (s : TeamState). Some (to_z w32 (of_z w32 c.status_among.result)) ≡ closing_at (numbers_of s.members) t hs (hs ++ arrives t c.args.image.0 kind line ∷ []) (arrivals t c.args.image.0 hs + 1)) c.self.view_is
    (ap Some (e ∙ c.status_among.ensures ∙ ap (λ ms. status_in c.args.endings.now ms) c.as_slice.ensures.value)
    ∙ ap (λ b. cond b (Some (status_in c.args.endings.now c.self.inside.members.items)) None) (sym c.if-closes_by_arrival.true ∙ c.closes_by_arrival.ensures)
    ∙ arrival_closes t (the_view c.self.inside) c.args.endings.now hs c.args.image.0 can.image.0 can.image.1 c.self.invariant inside kind line (c.joined_rounds-round.result + 1) (ap (λ k. k + 1) c.joined_rounds-round.ensures))

pub returns-else-closes_by_arrival : goal.returns-else-closes_by_arrival
returns-else-closes_by_arrival c t kind line hs told =
    let can = subst (λ (s : TeamState). CanClose c.args.endings.now s c.args.image.0) (sym c.self.view_is) c.requires in
    let inside = subst (λ (s : TeamState). IsTold t s c.args.endings.now hs) (sym c.self.view_is) told in
    subst (λ (s : TeamState). None ≡ closing_at (numbers_of s.members) t hs (hs ++ arrives t c.args.image.0 kind line ∷ []) (arrivals t c.args.image.0 hs + 1)) c.self.view_is
    (ap (λ b. cond b (Some (status_in c.args.endings.now c.self.inside.members.items)) None) (sym c.if-closes_by_arrival.false ∙ c.closes_by_arrival.ensures)
    ∙ arrival_closes t (the_view c.self.inside) c.args.endings.now hs c.args.image.0 can.image.0 can.image.1 c.self.invariant inside kind line (c.joined_rounds-round.result + 1) (ap (λ k. k + 1) c.joined_rounds-round.ensures))

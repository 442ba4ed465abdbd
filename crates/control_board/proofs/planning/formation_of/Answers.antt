use Rattle.std.proofs.Common.{rules, ◌≡◌, true, false, ◌&&◌, not, map, refl, ap, sym, ◌∙◌, to_z, of_z, w32}
use Rattle.std.specs.Prelude.{pos}
use Rattle.std.specs.Ordering.{int_eq}
use Rattle.object_rules.specs.FormedTeams.{formed, is_bad_form}
use Rattle.object_rules.specs.BoardTeams.{teams_after, members_at}
use Rattle.caf_base.specs.declared.place.TeamNo.{TeamNo}
use Rattle.team_tree.specs.Args.{plain_args, plain_teams}
use Rattle.team_tree.specs.KnownTeams.{team_of}
use Rattle.team_tree.specs.Orders.{in_order}
use Rattle.control_board.specs.Boards.{team_with, args_of}
use Rattle.control_board.proofs.Members.{known_there}
use Rattle.control_board.proofs.Plans.{plain_order, status_stopped, status_failed}
use Rattle.control_board.proofs.planning.formation_of.Goals as goal

pub returns-then-is_stopped-clause-formed : goal.returns-then-is_stopped-clause-formed
returns-then-is_stopped-clause-formed c n h m b e =
    let e32 : to_z w32 (of_z w32 c.args.status) ≡ c.args.status = search rules in
    let s : m.stopped ≡ true = sym (status_stopped m c.args.status c.is_stopped.result e (c.is_stopped.ensures ∙ ap (λ z. int_eq z (pos 6000)) e32)) ∙ c.if-is_stopped.true in
    (rw s refl, rw s refl)

pub returns-clause-formed : goal.returns-clause-formed
returns-clause-formed c n h m b e =
    let e32 : to_z w32 (of_z w32 c.args.status) ≡ c.args.status = search rules in
    let s : m.stopped ≡ false = sym (status_stopped m c.args.status c.is_stopped.result e (c.is_stopped.ensures ∙ ap (λ z. int_eq z (pos 6000)) e32)) ∙ c.if-is_stopped.false in
    let f : c.is_failed.result ≡ m.failed = status_failed m c.args.status c.is_failed.result e s (c.is_failed.ensures ∙ ap (λ z. int_eq z (pos 6001)) e32) in
    let ks = (team_of c.args.parts.now.teams.teams c.args.team.0).members in
    let a : plain_args (in_order (team_of c.args.parts.now.teams.teams c.args.team.0).members c.args.args.now) ≡ args_of c.args.args.now (members_at (teams_after n h) c.args.team.0) =
    plain_order ks c.args.args.now ∙ ap (args_of c.args.args.now) (known_there n h c.args.parts.now b c.args.team.0 c.requires.0 c.requires.1) in (
      ap (λ (t : TeamNo). map (team_with t.0 c.args.round) (plain_teams c.in_ok-plan.plan.teams.items)) c.in_ok-plan.ensures.parent
          ∙ ap (map (team_with c.args.team.0 c.args.round)) (c.in_ok-plan.ensures.teams ∙ ap (λ k. formed false k (plain_args (in_order (team_of c.args.parts.now.teams.teams c.args.team.0).members c.args.args.now))) f ∙ ap (formed false m.failed) a)
          ∙ ap (λ k. map (team_with c.args.team.0 c.args.round) (formed k m.failed (args_of c.args.args.now (members_at (teams_after n h) c.args.team.0)))) (sym s),
      c.in_ok-plan.ensures.bad ∙ ap (λ k. not k && is_bad_form (plain_args (in_order (team_of c.args.parts.now.teams.teams c.args.team.0).members c.args.args.now))) f ∙ ap (λ l. not m.failed && is_bad_form l) a
          ∙ ap (λ k. not k && (not m.failed && is_bad_form (args_of c.args.args.now (members_at (teams_after n h) c.args.team.0)))) (sym s),
    )

use Rattle.std.proofs.Common.{◌+◌, false, refl, ◌∙◌, ap, subst}
use Rattle.object_rules.specs.Kinds.{same_kind}
use Rattle.object_rules.specs.TeamRounds.{arrivals, opening_of}
use Rattle.team_round.specs.TeamStates.{TellsAll, told_arrival, happened_with}
use Rattle.control_board.specs.declared.parts.Parts.{Parts}
use Rattle.control_board.specs.Boards.{given_with}
use Rattle.caf_events.specs.declared.ask.Ask.TheVariants as asks
use Rattle.control_board.proofs.Keeping.{can_arrive}
use Rattle.control_board.proofs.Members.{member_there}
use Rattle.control_board.proofs.Steps.{ready_parts, arrived_steps}
use Rattle.control_board.proofs.Enacting.{fits_with, control_within, collective_within}
use Rattle.control_board.proofs.step.arrive.Goals as goal

pub arrive-arrival-requires-clause-team : goal.arrive-arrival-requires-clause-team
arrive-arrival-requires-clause-team c =
    let r = ready_parts c.requires.images c.requires.history c.args.image.0 (asks.Arrive c.args.team c.args.arriving) c.requires.ready in
    let t = member_there c.requires.images c.requires.history c.args.parts.now c.requires.board false c.args.team.0 c.args.image.0 r.1 in
    (t.0, t.1)

pub arrive-arrival-requires-clause-state : goal.arrive-arrival-requires-clause-state
arrive-arrival-requires-clause-state c =
    let r = ready_parts c.requires.images c.requires.history c.args.image.0 (asks.Arrive c.args.team c.args.arriving) c.requires.ready in
    can_arrive c.requires.images c.requires.history c.args.parts.now c.requires.board c.args.image.0 r.0 false c.args.team.0 c.requires.few c.requires.room.rounds

pub keep_given-requires : goal.keep_given-requires
keep_given-requires c = c.requires.room.forms

pub keep_bad-requires : goal.keep_bad-requires
keep_bad-requires c = c.requires.room.bad

pub enact_plan-requires-clause-fits : goal.enact_plan-requires-clause-fits
enact_plan-requires-clause-fits c =
    fits_with c.args.parts.now _ c.args.parts.now.plan refl c.arrive-arrival.ensures.room c.arrive-arrival.ensures.spare refl refl refl refl refl c.requires.room.plan

pub enact_plan-requires-clause-control : goal.enact_plan-requires-clause-control
enact_plan-requires-clause-control c k x at =
    control_within c.requires.images c.requires.history c.args.parts.now c.args.image (asks.Arrive c.args.team c.args.arriving) c.requires.board c.requires.plan c.requires.room.plan c.arrive-arrival.new.self.images c.arrive-arrival.ensures.images k x at

pub enact_plan-requires-clause-collective : goal.enact_plan-requires-clause-collective
enact_plan-requires-clause-collective c k x at =
    collective_within c.requires.images c.requires.history c.args.parts.now c.args.image (asks.Arrive c.args.team c.args.arriving) c.requires.board c.requires.plan c.requires.room.plan c.args.parts.now.collective.images refl k x at

pub returns : goal.returns
returns c n h stamp b ready planned late =
    let m : Parts = record { images = c.args.parts.now.images; teams = c.args.parts.now.teams; births = c.args.parts.now.births; control = c.arrive-arrival.new.self; collective = c.args.parts.now.collective; brought = c.args.parts.now.brought; forms = c.keep_given.new.forms; bad = c.keep_bad.new.rounds; pairs = c.args.parts.now.pairs; criticals = c.args.parts.now.criticals; plan = c.args.parts.now.plan } in
    arrived_steps c.args.parts.now m c.enact_plan.new.parts c.args.image c.args.team c.args.arriving c.args.line c.arrive-arrival.result
    (record {
      answer = λ m hs t. c.arrive-arrival.ensures.arrival m hs t ∙ ap (λ k. told_arrival same_kind k (arrivals c.args.team.0 c.args.image.0 hs + 1) (opening_of c.args.team.0 (arrivals c.args.team.0 c.args.image.0 hs + 1) hs)) c.kind_from.ensures;
      told = λ m hs t. subst (λ k. TellsAll m c.arrive-arrival.new.self (happened_with hs c.args.team.0 c.args.image.0 k c.args.line c.arrive-arrival.result)) c.kind_from.ensures (c.arrive-arrival.ensures.told m hs t);
      images = refl;
      runs = c.arrive-arrival.ensures.images;
      teams = refl;
      births = refl;
      members = c.arrive-arrival.ensures.members;
      others = refl;
      tables = refl;
      forms = c.keep_given.ensures ∙ ap (λ o. given_with c.args.parts.now.forms.items c.args.team o c.arrive-arrival.result) c.form_of-form.ensures;
      bad = c.keep_bad.ensures;
      syncs = refl;
      constructs = refl;
    })
    c.requires.room.plan
    c.enact_plan.ensures
    n h stamp b ready planned late

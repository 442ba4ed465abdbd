use Rattle.std.proofs.Common.{true, false, refl}
use Rattle.caf_events.specs.declared.ask.Ask.TheVariants as asks
use Rattle.control_board.specs.declared.parts.Parts.{Parts}
use Rattle.control_board.proofs.Keeping.{both, can_end, in_stopped, in_failed, in_rows}
use Rattle.control_board.proofs.Steps.{ready_parts, ended_steps}
use Rattle.control_board.proofs.Enacting.{fits_with, control_within, collective_within}
use Rattle.control_board.proofs.step.fail.Goals as goal

pub ended-requires-clause-stopped : goal.ended-requires-clause-stopped
ended-requires-clause-stopped c = let s = c.requires in in_stopped s.images s.history c.args.parts.now s.board c.args.image.0 (ready_parts s.images s.history c.args.image.0 asks.Gone s.ready).0 false

pub ended-requires-clause-failed : goal.ended-requires-clause-failed
ended-requires-clause-failed c = let s = c.requires in in_failed s.images s.history c.args.parts.now s.board c.args.image.0 (ready_parts s.images s.history c.args.image.0 asks.Gone s.ready).0 false

pub ended-requires-clause-state : goal.ended-requires-clause-state
ended-requires-clause-state c = let s = c.requires in can_end s.images s.history c.args.parts.now s.board c.args.image.0 (ready_parts s.images s.history c.args.image.0 asks.Gone s.ready).0 false true

pub ended-requires-2-clause-stopped : goal.ended-requires-2-clause-stopped
ended-requires-2-clause-stopped c = let s = c.requires in in_stopped s.images s.history c.args.parts.now s.board c.args.image.0 (ready_parts s.images s.history c.args.image.0 asks.Gone s.ready).0 true

pub ended-requires-2-clause-failed : goal.ended-requires-2-clause-failed
ended-requires-2-clause-failed c = let s = c.requires in in_failed s.images s.history c.args.parts.now s.board c.args.image.0 (ready_parts s.images s.history c.args.image.0 asks.Gone s.ready).0 true

pub ended-requires-2-clause-state : goal.ended-requires-2-clause-state
ended-requires-2-clause-state c = let s = c.requires in can_end s.images s.history c.args.parts.now s.board c.args.image.0 (ready_parts s.images s.history c.args.image.0 asks.Gone s.ready).0 true true

pub ended-requires-3 : goal.ended-requires-3
ended-requires-3 c = let s = c.requires in in_rows s.images s.history c.args.parts.now s.board c.args.image.0 (ready_parts s.images s.history c.args.image.0 asks.Gone s.ready).0

pub enact_plan-requires-clause-fits : goal.enact_plan-requires-clause-fits
enact_plan-requires-clause-fits c =
    let s = c.requires in
    fits_with c.args.parts.now _ c.args.parts.now.plan refl c.ended.ensures.room c.ended.ensures.spare c.ended-2.ensures.room c.ended-2.ensures.spare refl refl refl s.room

pub enact_plan-requires-clause-control : goal.enact_plan-requires-clause-control
enact_plan-requires-clause-control c k x at =
    let s = c.requires in
    control_within s.images s.history c.args.parts.now c.args.image asks.Gone s.board s.plan s.room c.ended.new.self.images c.ended.ensures.images k x at

pub enact_plan-requires-clause-collective : goal.enact_plan-requires-clause-collective
enact_plan-requires-clause-collective c k x at =
    let s = c.requires in
    collective_within s.images s.history c.args.parts.now c.args.image asks.Gone s.board s.plan s.room c.ended-2.new.self.images c.ended-2.ensures.images k x at

pub returns : goal.returns
returns c line n h stamp b ready planned late =
    let s = c.requires in
    let m : Parts = record { images = c.args.parts.now.images; teams = c.args.parts.now.teams; births = c.args.parts.now.births; control = c.ended.new.self; collective = c.ended-2.new.self; brought = c.args.parts.now.brought; forms = c.args.parts.now.forms; bad = c.args.parts.now.bad; pairs = c.ended-3.new.self; criticals = c.gone.new.self; plan = c.args.parts.now.plan } in
    ended_steps c.args.parts.now m c.enact_plan.new.parts c.args.image asks.Gone true line
    (record {
      round = both _ (λ r. refl) (λ r. refl);
      pair = λ r. refl;
      no_value = λ r t j k. refl;
      rounds = c.ended.ensures.told;
      others = c.ended-2.ensures.told;
      syncs = c.ended-3.ensures.told;
      turned = c.gone.ensures.turned;
      run = refl;
      runs = both _ c.ended-2.ensures.images c.ended.ensures.images;
      teams = refl;
      births = refl;
      members = both _ c.ended-2.ensures.members c.ended.ensures.members;
      tables = refl;
      forms = refl;
      bad = refl;
    })
    s.room c.enact_plan.ensures
    n h stamp b planned late

use Rattle.std.proofs.Common.{◌∙◌, ◌<◌, sym, ap, subst, refl, List, [], ◌∷◌, ◌++◌}
use Rattle.caf_events.specs.declared.ask.Ask.{Ask}
use Rattle.caf_events.specs.declared.event.Event.{Event}
use Rattle.caf_events.specs.Asks.{place_of}
use Rattle.caf_events.specs.Walkers.{AsksNext, IsAtLine, Continues}
use Rattle.turn_gate.specs.declared.turn.Turn.TheVariants as turns
use Rattle.image_turns.proofs.Staying.{told_ask, stays_waiting, stays_stepped}
use Rattle.image_turns.proofs.Waiting.{waits_turned}
use Rattle.image_turns.proofs.turns.step_at_gate.Goals as goal

pub take-requires-clause-asked : goal.take-requires-clause-asked
take-requires-clause-asked g c =
    let walks = g.M.Walker in
    let gates = c.args.gates.now in
    let told = told_ask g.O.Object g.B.Object gates.board gates.memories.items (place_of c.in_ok-ask.ask) c.args.passes.now c.turn.new.passes c.in_ok-ask.ask c.line-line.result c.last_stamp-after.result c.in-Done.event c.in-Done.ensures.turns in
    subst (λ (z : walks.Config × Ask). AsksNext (walks.step z.0) z.1) (λ j. (sym c.ask.ensures.machine j, sym told.0 j)) c.in_ok-ask.ensures.asked

pub returns-in-Done-clause-stays : goal.returns-in-Done-clause-stays
returns-in-Done-clause-stays g c =
    let walks = g.M.Walker in
    let gates = c.args.gates.now in
    let run = c.args.run.now in
    let told = told_ask g.O.Object g.B.Object gates.board gates.memories.items (place_of c.in_ok-ask.ask) c.args.passes.now c.turn.new.passes c.in_ok-ask.ask c.line-line.result c.last_stamp-after.result c.in-Done.event c.in-Done.ensures.turns in
    stays_stepped walks gates.board gates.memories.items g.O.Object g.B.Object run c.take.new.self c.args.passes.now c.turn.new.passes c.requires.passes (c.take.ensures.image ∙ c.ask.ensures.image)
    c.in_ok-ask.ask c.line-line.result c.last_stamp-after.result c.last_stamp-after.ensures (c.requires.place c.in_ok-ask.ask c.in_ok-ask.ensures.asked) c.turn.ensures.passes c.in-Done.event c.in-Done.ensures.turns told.0
    c.in_ok-ask.ensures.asked (subst (IsAtLine (walks.step (walks.config run.machine))) (sym told.1) c.line-line.ensures)
    (subst (λ (z : walks.Config). Continues walks.step (walks.step z) c.in-Done.event.reply (walks.config c.take.new.self.machine)) c.ask.ensures.machine c.take.ensures.goes) c.take.ensures.rests
    (subst (λ (z : walks.Config). walks.asks_left (walks.config c.take.new.self.machine) < walks.asks_left z) c.ask.ensures.machine c.take.ensures.spends)
    (c.take.ensures.events ∙ ap (λ (es : List Event). es ++ c.in-Done.event ∷ []) c.ask.ensures.events)

pub returns-in-NotYet-clause-stays : goal.returns-in-NotYet-clause-stays
returns-in-NotYet-clause-stays g c =
    let gates = c.args.gates.now in
    stays_waiting g.M.Walker gates.board gates.memories.items g.O.Object g.B.Object c.args.run.now c.ask.new.self c.args.passes.now c.turn.new.passes c.requires.passes c.ask.ensures.image
    c.in_ok-ask.ask c.line-line.result c.last_stamp-after.result c.last_stamp-after.ensures (c.requires.place c.in_ok-ask.ask c.in_ok-ask.ensures.asked) c.turn.ensures.passes (turns.NotYet c.in-NotYet.ask) refl c.in-NotYet.ensures.turns
    (record { machine = c.ask.ensures.machine; events = c.ask.ensures.events })

pub returns-in-Full-clause-stays : goal.returns-in-Full-clause-stays
returns-in-Full-clause-stays g c =
    let gates = c.args.gates.now in
    stays_waiting g.M.Walker gates.board gates.memories.items g.O.Object g.B.Object c.args.run.now c.ask.new.self c.args.passes.now c.turn.new.passes c.requires.passes c.ask.ensures.image
    c.in_ok-ask.ask c.line-line.result c.last_stamp-after.result c.last_stamp-after.ensures (c.requires.place c.in_ok-ask.ask c.in_ok-ask.ensures.asked) c.turn.ensures.passes (turns.Full c.in-Full.ask c.in-Full.last) refl c.in-Full.ensures.turns
    (record { machine = c.ask.ensures.machine; events = c.ask.ensures.events })

pub returns-in-NoMemory-clause-stays : goal.returns-in-NoMemory-clause-stays
returns-in-NoMemory-clause-stays g c =
    let gates = c.args.gates.now in
    stays_waiting g.M.Walker gates.board gates.memories.items g.O.Object g.B.Object c.args.run.now c.ask.new.self c.args.passes.now c.turn.new.passes c.requires.passes c.ask.ensures.image
    c.in_ok-ask.ask c.line-line.result c.last_stamp-after.result c.last_stamp-after.ensures (c.requires.place c.in_ok-ask.ask c.in_ok-ask.ensures.asked) c.turn.ensures.passes (turns.NoMemory c.in-NoMemory.ask) refl c.in-NoMemory.ensures.turns
    (record { machine = c.ask.ensures.machine; events = c.ask.ensures.events })

pub returns-in-NotYet-clause-waits : goal.returns-in-NotYet-clause-waits
returns-in-NotYet-clause-waits g c same =
    let gates = c.args.gates.now in
    waits_turned g.O.Object g.B.Object gates.board gates.memories.items g.M.Walker c.args.run.now c.ask.new.self (record { machine = c.ask.ensures.machine; events = c.ask.ensures.events })
    c.args.passes.now c.turn.new.passes c.in_ok-ask.ask c.line-line.result c.last_stamp-after.result (turns.NotYet c.in-NotYet.ask) c.last_stamp-after.ensures c.in_ok-ask.ensures.asked tt c.in-NotYet.ensures.turns

pub returns-in-Full-clause-waits : goal.returns-in-Full-clause-waits
returns-in-Full-clause-waits g c same =
    let gates = c.args.gates.now in
    waits_turned g.O.Object g.B.Object gates.board gates.memories.items g.M.Walker c.args.run.now c.ask.new.self (record { machine = c.ask.ensures.machine; events = c.ask.ensures.events })
    c.args.passes.now c.turn.new.passes c.in_ok-ask.ask c.line-line.result c.last_stamp-after.result (turns.Full c.in-Full.ask c.in-Full.last) c.last_stamp-after.ensures c.in_ok-ask.ensures.asked tt c.in-Full.ensures.turns

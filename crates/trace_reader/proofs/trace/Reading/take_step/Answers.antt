use Rattle.std.proofs.Common.{refl, subst}
use Rattle.trace_reader.specs.Tables.{ShownBy}
use Rattle.trace_reader.proofs.Steps.{read_step, read_none}
use Rattle.trace_reader.proofs.TeamTexts.{teams_show}
use Rattle.trace_reader.proofs.trace.Reading.take_step.Goals as goal

pub returns-in_ok-push-in-Some : goal.returns-in_ok-push-in-Some
returns-in_ok-push-in-Some c done is read =
    let names = c.args.names.now in
    let line = c.args.line.now in
    let shown = subst (λ o. ShownBy o c.args.self.now.teams names line c.entry_of.new.teams) c.in-Some.is
    (c.in_ok-read.ensures (teams_show done names c.args.self.now read)) in
    read_step done names line c.args.self.now _ c.in-Some.entry is read shown.0 shown.1
    c.in_ok-push-in-Some.ensures.items refl

pub returns-in-None : goal.returns-in-None
returns-in-None c done is read =
    let names = c.args.names.now in
    let line = c.args.line.now in
    read_none done names line c.args.self.now c.requires.names is read (subst
    (λ o. ShownBy o c.args.self.now.teams names line c.entry_of.new.teams) c.in-None.is
    (c.in_ok-read.ensures (teams_show done names c.args.self.now read)))

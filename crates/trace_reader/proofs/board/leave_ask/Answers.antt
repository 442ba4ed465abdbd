use Rattle.caf_events.specs.declared.ask.Ask.TheVariants as asks
use Rattle.trace_reader.proofs.board.leave_ask.Goals as goal

pub returns : goal.returns
returns c of_team team round behind shows half long e =
    let a = c.team_and_round-round.ensures of_team team round behind shows half long e in
    ((λ i. asks.Leave (a.0 i).0 (a.0 i).1), a.1)

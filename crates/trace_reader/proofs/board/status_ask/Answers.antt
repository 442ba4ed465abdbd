use Rattle.std.proofs.Common.{◌∷◌, ◌++◌}
use Rattle.caf_events.specs.declared.ask.Ask.TheVariants as asks
use Rattle.trace_text.specs.TraceText.{number_text}
use Rattle.trace_reader.proofs.board.status_ask.Goals as goal

pub returns : goal.returns
returns c of_team team index behind shows half at e =
    let a = c.next_team-team.ensures of_team team (number_text index ++ (32 ∷ behind)) shows half e in
    let b = c.next_half-index.ensures index behind at a.1 in
    ((λ i. asks.Status (a.0 i) (b.0 i)), b.1)

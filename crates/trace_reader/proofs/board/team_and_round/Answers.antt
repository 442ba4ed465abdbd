use Rattle.std.proofs.Common.{◌∷◌, ◌++◌}
use Rattle.trace_text.specs.TraceText.{number_text}
use Rattle.trace_reader.proofs.board.team_and_round.Goals as goal

pub returns : goal.returns
returns c of_team team round behind shows half long e =
    let a = c.next_team-team.ensures of_team team (number_text round ++ (32 ∷ behind)) shows half e in
    let b = c.next_long-round.ensures round behind long a.1 in
    ((λ i. (a.0 i, b.0 i)), b.1)

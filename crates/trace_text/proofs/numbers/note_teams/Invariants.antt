use Rattle.std.proofs.Common.{take}
use Rattle.trace_text.specs.Forms.{number_among, Gains}
use Rattle.trace_text.proofs.numbers.note_teams.Given as goal

-- the table has gained the numbers of the teams so far
abbrev pub invariant-loop-team : goal.invariant-loop-team
invariant-loop-team l = Gains l.initial.numbers (λ q. number_among q (take l.team-index l.teams)) l.numbers

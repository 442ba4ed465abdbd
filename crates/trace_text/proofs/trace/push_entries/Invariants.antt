use Rattle.std.proofs.Common.{◌≡◌, ◌++◌, take}
use Rattle.trace_text.specs.Forms.{trace_text, HasGiven}
use Rattle.trace_text.proofs.trace.push_entries.Given as goal

-- the lines so far stand there, and the table has the team numbers that their replies give
abbrev pub invariant-loop-entry : goal.invariant-loop-entry
invariant-loop-entry l = record {
  text : l.out.items ≡ l.initial.out.items ++ trace_text l.names (take l.entry-index l.entries);
  numbers : HasGiven (take l.entry-index l.entries) l.numbers;
}

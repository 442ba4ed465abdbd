use Rattle.std.proofs.Common.{sym, append-nil}
use Rattle.trace_text.proofs.Lines.{line_turn}
use Rattle.trace_text.proofs.Tables.{given_nothing, given_turn}
use Rattle.trace_text.proofs.trace.push_entries.Goals as goal

pub loop-entry-init : goal.loop-entry-init
loop-entry-init c = record {
  text = sym (append-nil c.args.out.now.items);
  numbers = given_nothing c.new-numbers.result c.new-numbers.ensures.empty;
}

pub loop-entry-preserved : goal.loop-entry-preserved
loop-entry-preserved c = record {
  text = line_turn c.args.names.now c.args.out.now.items c.loop-entry.out.items c.push_entry.new.out.items
      c.loop-entry.numbers c.args.entries.now c.loop-entry.entry-index c.entry-item.result
      c.loop-entry-test.true c.entry-item.is c.loop-entry.invariant.numbers
      c.loop-entry.invariant.text c.in_ok-push_entry.ensures.text;
  numbers = given_turn c.loop-entry.numbers c.push_entry.new.numbers c.args.entries.now
      c.loop-entry.entry-index c.entry-item.result
      c.loop-entry-test.true c.entry-item.is c.loop-entry.invariant.numbers
      c.in_ok-push_entry.ensures.numbers;
}

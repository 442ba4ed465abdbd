use Rattle.std.proofs.Common.{◌≡◌, ◌++◌}
use Rattle.work_maker.specs.MadeSource.{state_of, lines_text, settings}
use Rattle.work_maker.proofs.source.push_settings.Given as goal

abbrev pub invariant-loop-done : goal.invariant-loop-done
invariant-loop-done l = record {
  state : l.generator.state ≡ state_of l.fn.seed l.done;
  lines : l.out.items ≡ l.initial.out.items ++ lines_text (settings l.fn.seed l.done);
}

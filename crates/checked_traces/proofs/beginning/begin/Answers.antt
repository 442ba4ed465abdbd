use Rattle.std.proofs.Common.{map, sym, subst}
use Rattle.checked_tree.specs.StatementViews.{program}
use Rattle.coarray_memory.specs.Memories.{declared_of}
use Rattle.program_run.specs.Machines.{IsRunnable}
use Rattle.checked_run.specs.Reports.{IsCodeOf}
use Rattle.checked_run.proofs.Programs.{coarrays_too}
use Rattle.checked_traces.proofs.beginning.begin.Goals as goal

pub returns-clause-begins : goal.returns-clause-begins
returns-clause-begins c =
    let p = program c.args.checked.now in
    let same = c.in_ok-shared.ensures.ok in
    record {
      code = subst (IsCodeOf p) (sym same) c.in_ok-code.ensures.code;
      runnable = subst IsRunnable (sym same) c.in_ok-code.ensures.runnable;
      coarrays = coarrays_too p c.in_ok-code.code c.in_ok-code.ensures.code c.tables.result.now c.tables.ensures (map declared_of c.in_ok-coarrays.coarrays.items) c.in_ok-coarrays.ensures.coarrays;
      values = c.in_ok-coarrays.ensures.declared;
    }

use Rattle.std.proofs.Common.{map, refl, ap, sym, ◌∙◌, subst}
use Rattle.std.specs.Prelude.{None}
use Rattle.std.specs.Arc.{arc_value}
use Rattle.caf_report.specs.Ends.{HasEnd}
use Rattle.caf_report.specs.declared.report.Report.{Report}
use Rattle.coarray_memory.specs.Memories.{declared_of}
use Rattle.lane_parts.specs.FirstLanes.{fails_at}
use Rattle.machine_runs.specs.Runs.{machines_begin}
use Rattle.program_run.specs.Finals.{AreProgramFinals}
use Rattle.program_run.specs.Reports.{IsProgramReport}
use Rattle.program_run.proofs.Ended.{lane_at, memories_count, program_finals}
use Rattle.program_run.proofs.Program.{program_report, with_finals}
use Rattle.program_walks.specs.Runs.{program_rules, program_begins}
use Rattle.trace_replay.specs.Replays.{GoesOn}
use Rattle.trace_replay.proofs.Judged.{are_lawful, end_so, goes_onward, is_run}
use Rattle.trace_replay.proofs.replay.replay_code.Goals as goal

pub report_rest-requires-clause-lawful : goal.report_rest-requires-clause-lawful
report_rest-requires-clause-lawful c =
    let w = arc_value c.args.code.now in
    let coarrays = map declared_of c.args.coarrays.now in
    let fails = fails_at c.args.fails.now in
    let stands = c.in_ok-parts.ensures.stands in (
      machines_begin w c.args.limit stands.rooms coarrays c.args.n fails c.args.words,
      coarrays,
      stands.run.kept,
      are_lawful w c.args.limit coarrays c.args.n fails c.args.words c.args.trace.now.entries _ stands c.requires.declared,
    )

pub told-requires : goal.told-requires
told-requires c =
    let w = arc_value c.args.code.now in
    let coarrays = map declared_of c.args.coarrays.now in
    let fails = fails_at c.args.fails.now in
    let program = c.requires.program in
    let stands = c.in_ok-parts.ensures.stands in
    let b = machines_begin w c.args.limit stands.rooms coarrays c.args.n fails c.args.words in
    let parts = c.report_rest.new.parts in
    memories_count program.0 w c.args.limit stands.rooms coarrays c.args.n fails c.args.words program.1 c.args.listed.now c.in_ok-report.report.trace.entries _ (c.in_ok-report.ensures.at_end b stands.run.kept)
    lane_at (λ l. refl) parts.images.items parts.memories.items refl refl refl refl c.in_ok-report.ensures.numbered

pub returns-clause-report : goal.returns-clause-report
returns-clause-report c p h =
    let w = arc_value c.args.code.now in
    let coarrays = map declared_of c.args.coarrays.now in
    let fails = fails_at c.args.fails.now in
    let stands = c.in_ok-parts.ensures.stands in
    let b = machines_begin w c.args.limit stands.rooms coarrays c.args.n fails c.args.words in
    let report = c.in_ok-report.report in
    let is =
    c.in_ok-report.ensures.report b coarrays stands.run.kept (end_so w c.args.limit coarrays c.args.n fails c.args.words c.args.trace.now.entries _ stands p h)
    (are_lawful w c.args.limit coarrays c.args.n fails c.args.words c.args.trace.now.entries _ stands c.requires.declared) in
    subst (IsProgramReport p c.args.limit coarrays c.args.n fails c.args.words None) (sym c.in_ok-told.ensures)
    (with_finals p c.args.limit coarrays c.args.n fails c.args.words None report _ (program_report p w c.args.limit stands.rooms coarrays c.args.n fails c.args.words h None report is))

pub returns-clause-onward : goal.returns-clause-onward
returns-clause-onward c p h =
    let w = arc_value c.args.code.now in
    let coarrays = map declared_of c.args.coarrays.now in
    let fails = fails_at c.args.fails.now in
    let stands = c.in_ok-parts.ensures.stands in
    let t = c.args.trace.now.entries in
    let end = c.in_ok-report.ensures.at_end (machines_begin w c.args.limit stands.rooms coarrays c.args.n fails c.args.words) stands.run.kept in
    subst (λ (r : Report). GoesOn (program_rules p c.args.limit) (program_begins p coarrays c.args.n fails c.args.words) t r.trace.entries) (sym c.in_ok-told.ensures)
    (goes_onward w c.args.limit coarrays c.args.n fails c.args.words t _ stands _ c.in_ok-report.report.trace.entries c.in_ok-report.ensures.on end.kept end.trace p h)

pub returns-clause-has_end : goal.returns-clause-has_end
returns-clause-has_end c = subst HasEnd (sym c.in_ok-told.ensures) c.in_ok-report.ensures.has_end

pub returns-clause-names : goal.returns-clause-names
returns-clause-names c = ap (λ (r : Report). r.names) c.in_ok-told.ensures ∙ c.in_ok-report.ensures.names

pub returns-clause-finals : goal.returns-clause-finals
returns-clause-finals c p h =
    let w = arc_value c.args.code.now in
    let coarrays = map declared_of c.args.coarrays.now in
    let fails = fails_at c.args.fails.now in
    let stands = c.in_ok-parts.ensures.stands in
    let b = machines_begin w c.args.limit stands.rooms coarrays c.args.n fails c.args.words in
    let parts = c.report_rest.new.parts in
    subst (λ (r : Report). AreProgramFinals p c.args.limit coarrays c.args.n fails c.args.words c.args.listed.now r.trace.entries r.finals) (sym c.in_ok-told.ensures)
    (program_finals p w c.args.limit stands.rooms coarrays c.args.n fails c.args.words h c.args.listed.now c.in_ok-report.report.trace.entries _ (c.in_ok-report.ensures.at_end b stands.run.kept)
    lane_at (λ l. refl) parts.images.items parts.memories.items refl refl refl refl c.in_ok-report.ensures.numbered)

pub returns-clause-run : goal.returns-clause-run
returns-clause-run c =
    is_run (arc_value c.args.code.now) c.args.limit (map declared_of c.args.coarrays.now) c.args.n (fails_at c.args.fails.now) c.args.words c.args.trace.now.entries _ c.in_ok-parts.ensures.stands

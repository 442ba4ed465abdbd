use Rattle.full_report.proofs.Hearing.{lanes_hear}
use Rattle.full_report.proofs.running.on_workers.Goals as goal

pub run_crew-requires-clause-hears : goal.run_crew-requires-clause-hears
run_crew-requires-clause-hears g c κs within = lanes_hear g.M.Walker.step g.M.Walker.hears c.requires.hears

pub report_rest-requires-clause-lawful : goal.report_rest-requires-clause-lawful
report_rest-requires-clause-lawful g c = let h = c.requires.lawful in (h.0, h.1, c.in_ok-parts.ensures.kept h.0 h.2, h.3)

pub returns-clause-ran : goal.returns-clause-ran
returns-clause-ran g c = record {
  report_is = λ b coarrays first kept end lawful. c.in_ok-report.ensures.report b coarrays (c.in_ok-parts.ensures.kept b kept) end lawful;
  at_end = λ b kept. c.in_ok-report.ensures.at_end b (c.in_ok-parts.ensures.kept b kept);
}

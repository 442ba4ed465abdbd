use Rattle.full_report.proofs.running.in_order.Goals as goal

pub returns-clause-ran : goal.returns-clause-ran
returns-clause-ran g c = record { report_is = λ b coarrays first kept end lawful. c.in_ok-report.ensures.report b coarrays first kept end lawful; at_end = λ b kept. c.in_ok-report.ensures.at_end b kept }

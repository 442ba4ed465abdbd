use Rattle.std.proofs.Common.{◌≡◌, ◌++◌, flat_map, take}
use Rattle.caf_report.specs.ReportText.{final_line}
use Rattle.caf_report.proofs.finals.push_finals.Given as goal

abbrev pub invariant-loop-last : goal.invariant-loop-last
invariant-loop-last l = l.out.items ≡ l.initial.out.items ++ flat_map final_line (take l.last-index l.finals)

use Rattle.std.proofs.Common.{◌≡◌, ◌++◌, drop}
use Rattle.object_rules.specs.Happenings.{numbers_of}
use Rattle.wait_chain.specs.Links.{close_of}
use Rattle.wait_lines.specs.ChainText.{lines_from}
use Rattle.wait_lines.proofs.push_lines.Given as goal

abbrev pub invariant-loop-link : goal.invariant-loop-link
invariant-loop-link l = l.out.items ++ lines_from l.last.0 (numbers_of (drop l.link-index l.further)) (close_of l.close) ≡ l.initial.out.items ++ lines_from l.fn.first.0 (numbers_of l.further) (close_of l.close)

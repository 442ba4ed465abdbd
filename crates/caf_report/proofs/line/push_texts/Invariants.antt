use Rattle.std.proofs.Common.{◌≡◌, ◌++◌, flat_map, take}
use Rattle.caf_report.specs.Texts.{bytes_of}
use Rattle.caf_report.proofs.line.push_texts.Given as goal

abbrev pub invariant-loop-text : goal.invariant-loop-text
invariant-loop-text l = l.out.items ≡ l.initial.out.items ++ flat_map bytes_of (take l.text-index l.texts)

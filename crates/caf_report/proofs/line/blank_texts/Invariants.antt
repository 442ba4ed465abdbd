use Rattle.std.proofs.Common.{◌≡◌, length, []}
use Rattle.caf_report.specs.Texts.{HavePrinted}
use Rattle.caf_report.proofs.line.blank_texts.Given as goal

abbrev pub invariant-loop-image : goal.invariant-loop-image
invariant-loop-image l = record {
  count : length l.texts.items ≡ l._image;
  blank : HavePrinted 1 [] l.texts.items;
}

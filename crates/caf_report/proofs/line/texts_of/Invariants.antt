use Rattle.std.proofs.Common.{◌≡◌, length, take}
use Rattle.caf_report.specs.Texts.{HavePrinted}
use Rattle.caf_report.proofs.line.texts_of.Given as goal

-- the texts are what each image prints in the entries so far
abbrev pub invariant-loop-entry : goal.invariant-loop-entry
invariant-loop-entry l = record {
  count : length l.texts.items ≡ l.images;
  printed : HavePrinted 1 (take l.entry-index l.entry-items) l.texts.items;
}

-- What contracts see of the marks that are kept of a cell.
use Rattle.std.specs.Prelude.{List, map}
use Rattle.order_theory.specs.Marks as marks
use Rattle.race_watch.specs.declared.kept.Kept.TheInside.{Inside}
use Rattle.race_watch.specs.Classes.{as_mark}

abbrev pub marks_of : Inside → List marks.Mark
marks_of k = map as_mark k.marks.items

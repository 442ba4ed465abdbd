-- Classes and marks of the code as those of the theory.
use Rattle.std.specs.Prelude.{ℕ, ◌<◌, ◌≤◌, List}
use Rattle.std.specs.List.{All}
use Rattle.order_theory.specs.Races as order
use Rattle.order_theory.specs.Marks as marks
use Rattle.race_watch.specs.declared.class.Class.{Class}
use Rattle.race_watch.specs.declared.class.Class.TheVariants as classes
use Rattle.race_watch.specs.declared.kept.Mark.{Mark}

abbrev pub as_class : Class → order.Class
as_class classes.Reads = order.reads
as_class classes.Writes = order.writes
as_class classes.Looks = order.looks
as_class classes.Changes = order.changes
as_class classes.Makes = order.makes
as_class classes.Signals = order.signals

abbrev pub as_mark : Mark → marks.Mark
as_mark m = record { segment = record { image = m.image.0; number = m.segment }; class = as_class m.class }

-- each mark is of an image from 1 to n
abbrev pub MarksOf : ℕ → List marks.Mark → Type 0
MarksOf n ms = All (λ (m : marks.Mark). (0 < m.segment.image) × (m.segment.image ≤ n)) ms

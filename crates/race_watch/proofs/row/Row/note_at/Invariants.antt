use Rattle.std.proofs.Common.{◌≡◌, ℕ, take, cond, [], get_or}
use Rattle.race_watch.specs.Classes.{as_mark}
use Rattle.race_watch.specs.Rows.{is_in}
use Rattle.order_theory.specs.Marks.{noted}
use Rattle.race_watch.proofs.row.Row.note_at.Given as goal

abbrev pub invariant-loop-offset : goal.invariant-loop-offset
invariant-loop-offset l = (k : ℕ) → get_or l.self k [] ≡ cond (is_in k (take l.offset-index l.offsets)) (noted (as_mark l.q) (get_or l.initial.self k [])) (get_or l.initial.self k [])

use Rattle.std.proofs.Common.{◌≡◌, ◌≤◌}
use Rattle.std.specs.Prelude.{vec_capacity}
use Rattle.team_tables.specs.Tables.{images_from}
use Rattle.team_tables.proofs.teams.all_images.Given as goal

abbrev pub invariant-loop-i : goal.invariant-loop-i
invariant-loop-i l = record {
  items : l.images.items ≡ images_from 1 l.i;
  room : l.n ≤ vec_capacity l.images;
}

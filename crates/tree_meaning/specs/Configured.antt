-- A start in memory, and the configuration that it is.
use Rattle.std.specs.Prelude.{[], ◌∷◌, map, Option, Some, None}
use Rattle.walk_theory.specs.Walks.{Config, start}
use Rattle.image_acts.specs.Acts.{Act, ask, end_program}
use Rattle.image_acts.specs.Core.{Core, Local, Own}
use Rattle.image_acts.specs.Frames.{room_for_arrays}
use Rattle.tree_meaning.specs.declared.start.LocalArray.{LocalArray}
use Rattle.tree_meaning.specs.declared.start.OwnCoarray.{OwnCoarray}
use Rattle.tree_meaning.specs.declared.start.TreeConfig.{TreeConfig}
use Rattle.tree_meaning.specs.Start.{initial_team}

abbrev pub local_of : Option LocalArray → Option Local
local_of None = None
local_of (Some x) = Some (record { bounds = x.bounds; elements = x.elements })

-- a coarray that is there from the start is of the initial team
abbrev pub own_of : Option OwnCoarray → Option Own
own_of None = None
own_of (Some x) = Some (record { bounds = x.bounds; lowers = x.lowers; extents = x.extents; team = 1 })

-- nothing is being evaluated, no procedure is active, and the initial team is current
abbrev pub core_of : TreeConfig → Core
core_of t = record {
  values = [];
  arrays = [];
  printing = [];
  used = 0;
  frame = record { cells = t.cells; arrays = map local_of t.arrays.items; base = 0; need = t.local_cells };
  callers = [];
  local_cells = t.local_cells;
  array_room = room_for_arrays (map local_of t.arrays.items);
  coarrays = map own_of t.coarrays.items;
  coarray_cells = t.coarray_cells;
  teams = 1 ∷ [];
  known = initial_team t.images ∷ [];
  round = None;
  formed = [];
  me = t.me.0;
  images = t.images;
}

-- the main program is next, and then its END
abbrev pub config_of : TreeConfig → Config Act Core
config_of t = start (ask end_program) t.end_line (core_of t)

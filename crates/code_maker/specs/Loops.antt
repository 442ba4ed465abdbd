-- Open loops in memory, and the places that they are.
use Rattle.std.specs.Prelude.{List, map}
use Rattle.walk_theory.specs.Made.{Places}
use Rattle.code_maker.specs.declared.loops.LoopPlaces.{LoopPlaces}

abbrev pub open_loop : LoopPlaces → Places
open_loop x = record { next = x.next; exit = x.exit }

-- the innermost one first
abbrev pub open_loops : List LoopPlaces → List Places
open_loops xs = map open_loop xs

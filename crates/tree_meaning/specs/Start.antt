-- Where an image begins: the core of a program's start, and its walk (ISO/IEC 1539-1:2018, 5.3.5).
use Rattle.std.specs.Prelude.{ℕ, zero, suc, ◌*◌, ℤ, pos, negsuc, List, [], ◌∷◌, ◌++◌, map, Option, Some, None, replicate, slice_get, sum_by}
use Rattle.trace_theory.specs.Machines.{Move}
use Rattle.caf_events.specs.declared.ask.Ask.{Ask}
use Rattle.caf_events.specs.declared.reply.Reply.{Reply}
use Rattle.coarray_types.specs.Places.{size_of}
use Rattle.walk_theory.specs.Syntax.{body_of}
use Rattle.walk_theory.specs.Walks.{Config, step, start}
use Rattle.checked_tree.specs.declared.data.Initial.{Initial}
use Rattle.checked_tree.specs.declared.data.Initial.TheVariants as initials
use Rattle.checked_tree.specs.declared.data.Codimensions.{Codimensions}
use Rattle.checked_tree.specs.declared.data.Codimensions.TheVariants as codimensions
use Rattle.checked_tree.specs.declared.data.Variable.{Variable}
use Rattle.checked_tree.specs.declared.data.Constant.{Constant}
use Rattle.checked_tree.specs.Statements as s
use Rattle.caf_base.specs.Arithmetic.{number_of}
use Rattle.image_acts.specs.Acts.{Act, ask, end_program}
use Rattle.image_acts.specs.Core.{Core, Frame, Local, Own, Team}
use Rattle.image_acts.specs.Frames.{room_for_arrays}
use Rattle.image_acts.specs.Meaning.{image_language}
use Rattle.tree_meaning.specs.Environment.{declared_bounds, total_cells}
use Rattle.tree_meaning.specs.Forms.{bodies}

-- the first values of so many cells (8.4)
abbrev pub first_values : Initial → ℕ → List ℤ
first_values initials.Unstated n = replicate n (pos 0)
first_values (initials.All v) n = replicate n (number_of v)
first_values (initials.Each vs) n = map number_of vs

-- a variable's cell, where it is a scalar; and its array, where it is one that is there
abbrev pub first_or_zero : List ℤ → ℤ
first_or_zero [] = pos 0
first_or_zero (v ∷ vs) = v

abbrev pub cell_of : Variable → ℤ
cell_of v = first_or_zero (first_values v.initial 1)

abbrev pub array_of_bounds : Option (List (ℤ × ℤ)) → Codimensions → Initial → Option Local
array_of_bounds (Some (b ∷ bs)) codimensions.Absent i = Some (record { bounds = b ∷ bs; elements = first_values i (size_of (b ∷ bs)) })
array_of_bounds bs co i = None

abbrev pub array_of : Variable → Option Local
array_of v = array_of_bounds (declared_bounds v.dimensions) v.codimensions v.initial

abbrev pub constant_array : Constant → Option Local
constant_array k = Some (record { bounds = k.shape.dims; elements = first_values k.values (size_of k.shape.dims) })

-- the main program's variables: hidden cells stand behind its cells, the arrays of constants behind its arrays
abbrev pub first_frame : s.Program → Frame
first_frame p = record {
  cells = map cell_of p.main.variables ++ replicate (2 * p.main.hidden) (pos 0);
  arrays = map array_of p.main.variables ++ map constant_array p.constants;
  base = 0;
  need = total_cells p.main.variables;
}

-- a coarray that is there from the start: it is of the initial team
abbrev pub own_of : Option (List (ℤ × ℤ)) → Codimensions → Option Own
own_of (Some bs) (codimensions.Explicit co) = Some (record { bounds = bs; lowers = co.lower; extents = co.extent; team = 1 })
own_of bs co = None

abbrev pub own_of_variable : Option Variable → Option Own
own_of_variable None = None
own_of_variable (Some v) = own_of (declared_bounds v.dimensions) v.codimensions

abbrev pub own_in : List Variable → ℕ → Option Own
own_in vs n = own_of_variable (slice_get vs n)

abbrev pub own_size : Option Own → ℕ
own_size None = 0
own_size (Some o) = size_of o.bounds

abbrev pub own_sizes : List (Option Own) → ℕ
own_sizes os = sum_by own_size os

abbrev pub own_coarrays : s.Program → List (Option Own)
own_coarrays p = map (own_in p.main.variables) p.coarrays

-- the images from 1 to n
abbrev pub images_from : ℕ → ℕ → List ℕ
images_from i zero = []
images_from i (suc n) = i ∷ images_from (suc i) n

-- the initial team (5.3.4)
abbrev pub initial_team : ℕ → Team
initial_team n = record { team = 1; parent = 0; round = 0; number = negsuc 0; members = images_from 1 n }

abbrev pub first_core : s.Program → (me images : ℕ) → Core
first_core p me n = record {
  values = [];
  arrays = [];
  printing = [];
  used = 0;
  frame = first_frame p;
  callers = [];
  local_cells = total_cells p.main.variables;
  array_room = room_for_arrays (first_frame p).arrays;
  coarrays = own_coarrays p;
  coarray_cells = own_sizes (own_coarrays p);
  teams = 1 ∷ [];
  known = initial_team n ∷ [];
  round = None;
  formed = [];
  me = me;
  images = n;
}

-- the start of a program on image me of n, and one step of its walk, where so many statements may be counted
abbrev pub start_of : s.Program → (me images : ℕ) → Config Act Core
start_of p me n = start (ask end_program) p.end_line (first_core p me n)

abbrev pub walk_step : s.Program → (limit : ℕ) → Config Act Core → Move (Config Act Core) Ask Reply
walk_step p limit = step image_language (body_of (bodies p)) limit

-- The start that the tables say is the start that the tree says.
use Rattle.std.proofs.Common.{◌≡◌, ℕ, zero, suc, ◌+◌, List, [], ◌∷◌, map, refl, ap, ap₂, sym, ◌∙◌, subst}
use Rattle.std.specs.List.{fold}
use Rattle.std.specs.Prelude.{Option, Some, None, sum_by}
use Rattle.caf_events.specs.Answers.{Answers}
use Rattle.trace_theory.specs.Equivalence.{SameWalks}
use Rattle.walk_theory.specs.Code.{code_step, at_place}
use Rattle.walk_theory.specs.Made.{program_code}
use Rattle.walk_theory.specs.Programs.{SameCore}
use Rattle.checked_tree.specs.Statements as s
use Rattle.image_acts.specs.Acts.{ask, end_program}
use Rattle.image_acts.specs.Core.{Core, Frame, Own, Team}
use Rattle.image_acts.specs.Frames.{room_for_arrays}
use Rattle.image_acts.specs.Meaning.{image_language}
use Rattle.image_code.specs.Code.{Whole, code_of}
use Rattle.image_code.specs.declared.tables.FirstArray.{FirstArray}
use Rattle.image_code.specs.declared.tables.MainFrame.{MainFrame}
use Rattle.image_code.specs.declared.tables.Tables.{Tables}
use Rattle.team_tables.specs.Tables as state
use Rattle.local_arrays.specs.Frames as local
use Rattle.coarray_tables.specs.Start as owns
use Rattle.image_machine.specs.Start as machine
use Rattle.tree_meaning.specs.Forms.{bodies}
use Rattle.tree_meaning.specs.Start as tree
use Rattle.program_tables.specs.Tables.{array_kept, frame_kept, own_kept, tables_of}
use Rattle.program_tables.proofs.Kept.{frame_same, owns_are}
use Rattle.made_code.proofs.Made.{walks}

arrays_same : (xs : List (Option FirstArray)) → map local.first_array xs ≡ map array_kept xs
arrays_same [] = refl
arrays_same (None ∷ xs) = ap (λ ys. None ∷ ys) (arrays_same xs)
arrays_same (Some x ∷ xs) = ap (λ ys. Some (record { bounds = x.bounds; elements = x.elements }) ∷ ys) (arrays_same xs)

sizes_from : (n : ℕ) (os : List (Option Own)) → fold (λ m o. m + owns.own_size o) n os ≡ fold (λ m o. m + tree.own_size o) n os
sizes_from n [] = refl
sizes_from n (None ∷ os) = sizes_from (n + 0) os
sizes_from n (Some o ∷ os) = sizes_from (n + owns.own_size (Some o)) os

sizes_same : (os : List (Option Own)) → sum_by owns.own_size os ≡ tree.own_sizes os
sizes_same os = sizes_from 0 os

images_same : (i n : ℕ) → state.images_from i n ≡ tree.images_from i n
images_same i zero = refl
images_same i (suc n) = ap (λ is. i ∷ is) (images_same (suc i) n)

-- a core at the start, by what stands beside its numbers
abbrev begun : Frame → List (Option Own) → (cells need : ℕ) → Team → (me images : ℕ) → Core
begun f os cells need t me images = record {
  values = [];
  arrays = [];
  printing = [];
  used = 0;
  frame = f;
  callers = [];
  local_cells = need;
  array_room = room_for_arrays f.arrays;
  coarrays = os;
  coarray_cells = cells;
  teams = 1 ∷ [];
  known = t ∷ [];
  round = None;
  formed = [];
  me = me;
  images = images;
}

-- the core that tables say
abbrev core_in : Tables → (me images : ℕ) → Core
core_in t me images = begun (machine.first_frame t.main) (map owns.first_own t.coarrays) (sum_by owns.own_size (map owns.first_own t.coarrays)) t.main.need (state.initial_team images) me images

tables_start : (p : s.Program) (me images : ℕ) → core_in (tables_of p) me images ≡ tree.first_core p me images
tables_start p me images =
    let m = (tables_of p).main in
    let f : machine.first_frame m ≡ tree.first_frame p = ap (λ xs. record { cells = m.cells; arrays = xs; base = 0; need = m.need }) (arrays_same m.arrays) ∙ frame_same p in
    let os = map owns.first_own (tables_of p).coarrays in
    let o : os ≡ tree.own_coarrays p = owns_are p in
    let n : sum_by owns.own_size os ≡ tree.own_sizes (tree.own_coarrays p) = sizes_same os ∙ ap tree.own_sizes o in
    let t : state.initial_team images ≡ tree.initial_team images = ap (λ is. record { team = 1; parent = 0; round = 0; number = (tree.initial_team images).number; members = is }) (images_same 1 images) in
    ap (λ x. begun x os (sum_by owns.own_size os) m.need (state.initial_team images) me images) f
    ∙ ap (λ x. begun (tree.first_frame p) x (sum_by owns.own_size os) m.need (state.initial_team images) me images) o
    ∙ ap (λ x. begun (tree.first_frame p) (tree.own_coarrays p) x m.need (state.initial_team images) me images) n
    ∙ ap (λ x. begun (tree.first_frame p) (tree.own_coarrays p) (tree.own_sizes (tree.own_coarrays p)) m.need x me images) t

pub starts_alike : (p : s.Program) (code : Whole) → code.program.tables ≡ tables_of p → (me images : ℕ) → machine.first_core code me images ≡ tree.first_core p me images
starts_alike p code e me images = ap (λ t. core_in t me images) e ∙ tables_start p me images

pub walks_alike : (p : s.Program) (code : Whole) → code_of code.program ≡ program_code (ask end_program) p.end_line (bodies p) → code.program.tables ≡ tables_of p → (limit me images : ℕ)
    → SameWalks Answers SameCore SameCore (tree.walk_step p limit) (tree.start_of p me images) (code_step image_language (code_of code.program) limit) (machine.first_state code me images)
walks_alike p code h e limit me images =
    subst (λ c. SameWalks Answers SameCore SameCore (tree.walk_step p limit) (tree.start_of p me images) (code_step image_language (code_of code.program) limit) (at_place 0 [] c 0)) (sym (starts_alike p code e me images))
    (walks p code.program h limit me images)

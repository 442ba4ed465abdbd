-- A program names what its image was told, from its start on.
use Rattle.std.proofs.Common.{◌≡◌, ℕ, zero, suc, ◌+◌, ◌≤◌, false, true, List, [], ◌∷◌, map, fold, inl, inr, refl, sym, subst, ap, ◌∙◌, arith}
use Rattle.std.specs.Prelude.{Option, None, Some}
use Rattle.std.specs.List.{range_with_len}
use Rattle.std.proofs.lemmas.Bool.Decides.{eqb_tells}
use Rattle.walk_theory.specs.Syntax.{body_of}
use Rattle.coarray_types.specs.Places.{size_of}
use Rattle.image_acts.specs.Core.{Own}
use Rattle.checked_tree.specs.Statements as s
use Rattle.tree_meaning.specs.Forms.{bodies}
use Rattle.tree_meaning.specs.Start.{first_core, start_of, walk_step, images_from, own_size, own_sizes, own_coarrays}
use Rattle.told_walks.specs.Asked.{IsIn, IsKnown, WalksTold, at_first, most_team, own_cells, cells_in}
use Rattle.told_walks.proofs.Walks.{start_walks}
use Rattle.told_programs.specs.First.{told_first}
use Rattle.told_programs.proofs.ToldNames.{program_bodies}

first_short : (me n : ℕ) (sizes : List (Option ℕ)) (t : ℕ) → IsIn (at_first me n sizes) t → t ≤ most_team
first_short me n sizes t h = elim (eqb_tells t 1) [ inl y ↦ subst (λ z. z ≤ most_team) (sym y.1) (omega arith) | inr f ↦ absurd (let g : false ≡ true = rw f.0 at h in cc) ]

-- the images from 1 to n
counted_images : (i n : ℕ) → range_with_len i n ≡ images_from i n
counted_images i zero = refl
counted_images i (suc n) = ap (λ js. i ∷ js) (ap (λ z. range_with_len z n) (let e : i + 1 ≡ suc i = omega arith in e) ∙ counted_images (suc i) n)

-- the cells in use are those of its coarrays
cells_from : (os : List (Option Own)) (n : ℕ) → fold (λ a x. a + own_size x) n os ≡ n + cells_in (map own_cells os)
cells_from [] n = omega arith
cells_from (None ∷ os) n = let r = cells_from os (n + 0) in r ∙ omega arith
cells_from (Some o ∷ os) n = let r = cells_from os (n + size_of o.bounds) in r ∙ omega arith

cells_first : (os : List (Option Own)) → cells_in (map own_cells os) ≤ own_sizes os
cells_first os = let r = cells_from os 0 in omega arith

start_known : (p : s.Program) (me n : ℕ) → IsKnown (told_first p me n) (first_core p me n)
start_known p me n = record {
  me = refl;
  first = refl;
  short = first_short me n (map own_cells (own_coarrays p));
  teams = (refl, tt);
  known = (λ y. refl, tt);
  formed = tt;
  listed = (inl (refl, counted_images 1 n), tt);
  listed_formed = tt;
  sizes = refl;
  in_use = cells_first (own_coarrays p);
}

pub program_names : (p : s.Program) → (limit me n : ℕ) → WalksTold (told_first p me n) (walk_step p limit) (start_of p me n)
program_names p limit me n = start_walks (body_of (bodies p)) limit (program_bodies p) p.end_line (first_core p me n) (told_first p me n) (start_known p me n)

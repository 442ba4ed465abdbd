-- What breaks in bounds and in cobounds, by whether they are written.
use Rattle.std.proofs.Common.{◌≡◌, ℕ, zero, suc, Bool, true, false, nat_eq, List, [], ◌∷◌, length, refl}
use Rattle.std.specs.Prelude.{Option, Some, None, cond}
use Rattle.caf_base.specs.declared.place.Pos.{Pos}
use Rattle.fortran_tree.specs.Statements as fs
use Rattle.rule_definitions.specs.Actions.{cobounds_breaks, has_colon, shape_breaks}
use Rattle.rule_definitions.specs.Judgements.{breaks, unless}
use Rattle.allocation_rules.specs.Allocations.{cobounds_said, shape_said}
use Rattle.shared_rules.proofs.Forms.{suc_isnt_zero}

one_rule : (b c : Bool) (p : Pos) → c ≡ false → breaks (cond b 55 33) p ≡ cond b (breaks 55 p) (unless c 33 p)
one_rule true c p e = refl
one_rule false c p e = rw e refl

pub shape_by : (r : ℕ) (ds : List fs.Dimension) (p : Pos) → shape_breaks r ds p ≡ shape_said r ds p
shape_by zero [] p = refl
shape_by zero (x ∷ xs) p = one_rule (has_colon (x ∷ xs)) (nat_eq (length (x ∷ xs)) zero) p (suc_isnt_zero (length xs))
shape_by (suc r) [] p = rw (suc_isnt_zero r) refl
shape_by (suc r) (x ∷ xs) p = refl

pub cobounds_by : (r : ℕ) (c : Option fs.CoarraySpec) (p : Pos) → cobounds_breaks r c p ≡ cobounds_said r c p
cobounds_by zero None p = refl
cobounds_by zero (Some c) p = refl
cobounds_by (suc r) None p = rw (suc_isnt_zero r) refl
cobounds_by (suc r) (Some (fs.deferred_coshape n)) p = rw (suc_isnt_zero r) refl
cobounds_by (suc r) (Some (fs.explicit_coshape bs l)) p = rw (suc_isnt_zero r) refl

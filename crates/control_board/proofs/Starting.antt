-- What the board keeps at the start of a run.
use Rattle.std.proofs.Common.{◌≡◌, ℕ, zero, suc, ◌-◌, ◌<◌, ◌≤◌, Bool, true, false, ◌&&◌, ◌||◌, cond, nat_le, List, [], ◌∷◌, length, replicate, refl, ap, sym, ◌∙◌, arith}
use Rattle.std.specs.Prelude.{slice_index_or, Some, None}
use Rattle.std.proofs.lemmas.Bool.{leb-true}
use Rattle.std.specs.List.{list_any, list_all, range_with_len}
use Rattle.object_rules.specs.Happenings.{control, has_ended}
use Rattle.object_rules.specs.TeamRounds.{has_arrived, has_closed}
use Rattle.object_rules.specs.BoardTeams.{teams_after, closing}
use Rattle.object_rules.specs.BoardRules.{is_image}
use Rattle.team_round.specs.TeamStates.{images_to}
use Rattle.team_round.proofs.NewTeams.{all_within}
use Rattle.control_board.specs.Values.{BroughtState, no_values}
use Rattle.control_board.specs.Boards.{values_in, table_of, are_images, was_bad}
use Rattle.control_board.proofs.Members.{numbers_images}
use Rattle.control_board.proofs.Collecting.{images_all}

pub values_none : (n k : ℕ) → slice_index_or (values_in (replicate n no_values)) k [] ≡ []
values_none zero k = refl
values_none (suc n) zero = refl
values_none (suc n) (suc k) = values_none n k

pub length_none : (n : ℕ) → length (replicate n no_values) ≡ n
length_none zero = refl
length_none (suc n) = ap suc (length_none n)

pub first_table : (x : List BroughtState) (t : ℕ) → 0 < t → t ≤ 1 → table_of (x ∷ []) t ≡ x
first_table x t low high = let e : t - 1 ≡ 0 = omega arith in ap (λ k. slice_index_or (x ∷ []) k []) e

and_true : (b : _) → b ≡ true → (b && true) ≡ true
and_true b e = rw e refl

pub first_members : (n : ℕ) → are_images n (teams_after n []) ≡ true
first_members n = and_true (list_all (is_image n) (range_with_len 1 n)) (ap (list_all (is_image n)) (sym (numbers_images (range_with_len 1 n))) ∙ images_all n (images_to n) (all_within n n (images_to n) refl refl))

not_yet : (r : ℕ) (b : Bool) → nat_le r 0 ≡ b → 0 < r → nat_le r 0 ≡ false
not_yet r true e low = absurd (let l = leb-true r 0 e in omega arith)
not_yet r false e low = e

no_one : (t r : ℕ) (ms : List ℕ) → 0 < r → list_any (λ m. has_arrived t r m []) ms ≡ false
no_one t r [] low = refl
no_one t r (m ∷ ms) low = ap (λ b. b || list_any (λ k. has_arrived t r k []) ms) (not_yet r (nat_le r 0) refl low) ∙ no_one t r ms low

-- no round has closed
pub none_bad : (t r : ℕ) (ms : List ℕ) → 0 < r → was_bad t r ms (closing control t r ms []) ≡ false
none_bad t r ms low = by (has_closed ms t r []) (none ms)
  where
    none : (ms : List ℕ) → has_closed ms t r [] ≡ false
    none ms = ap (λ a. a && list_all (λ m. has_arrived t r m [] || has_ended m []) ms) (no_one t r ms low)

    by : (b : Bool) → b ≡ false → was_bad t r ms (cond b (Some []) None) ≡ false
    by true e = absurd (cc)
    by false e = refl

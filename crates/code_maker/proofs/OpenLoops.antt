-- Open loops, by their number.
use Rattle.std.proofs.Common.{◌≡◌, ℕ, zero, suc, List, [], ◌∷◌, refl}
use Rattle.std.specs.Prelude.{Option, Some, None, slice_get}
use Rattle.walk_theory.specs.Code.{Instr, jump, go_back}
use Rattle.walk_theory.specs.Made.{exit_instr, cycle_instr}
use Rattle.image_acts.specs.Acts.{Act}
use Rattle.code_maker.specs.Loops.{open_loops}
use Rattle.code_maker.specs.declared.loops.LoopPlaces.{LoopPlaces}

-- the way out of a loop, or on in it, if there is one; else the body ends
abbrev pub exit_of : Option LoopPlaces → Instr Act
exit_of None = go_back
exit_of (Some x) = jump x.exit

abbrev pub next_of : Option LoopPlaces → Instr Act
next_of None = go_back
next_of (Some x) = jump x.next

pub exit_at : (xs : List LoopPlaces) (n : ℕ) → exit_instr (open_loops xs) n ≡ exit_of (slice_get xs n)
exit_at [] n = refl
exit_at (x ∷ xs) zero = refl
exit_at (x ∷ xs) (suc n) = exit_at xs n

pub cycle_at : (xs : List LoopPlaces) (n : ℕ) → cycle_instr (open_loops xs) n ≡ next_of (slice_get xs n)
cycle_at [] n = refl
cycle_at (x ∷ xs) zero = refl
cycle_at (x ∷ xs) (suc n) = cycle_at xs n

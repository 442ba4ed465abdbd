-- What a run begins with.
use Rattle.std.specs.Prelude.{ℕ, suc, ◌≡◌, ◌<◌, ◌≤◌, List, [], length, map, replicate, slice_get, Some}
use Rattle.std.specs.List.{range_with_len}
use Rattle.caf_base.specs.declared.place.Place.{Place}
use Rattle.caf_base.specs.declared.place.Place.TheVariants.{Memory, Board, Own}
use Rattle.trace_theory.specs.Machines.{go, goes, Rests}
use Rattle.core_runs.specs.Moments.{Rules, Moment}

-- how many images there are, where each one is before its first statement, and what the memory of each and the board
-- are made with
pub record Beginning (C M B : Type 0) : Type 0 where
  pub images : ℕ
  pub first : ℕ → C
  pub memory : ℕ → M
  pub board : B

-- the numbers of so many images: 1 to n (ISO/IEC 1539-1:2018, 5.3.4)
abbrev pub numbers_to : ℕ → List ℕ
numbers_to n = range_with_len 1 n

-- the image of this number is one of a run of n images
abbrev pub IsOneOf : ℕ → ℕ → Type 0
IsOneOf n i = (0 < i) × (i ≤ n)

-- the place is one of a run of n images: an image itself, the board, or the memory of one of the images
abbrev pub IsThere : ℕ → Place → Type 0
IsThere n (Memory owner) = IsOneOf n owner.0
IsThere n Board = Unit {0}
IsThere n Own = Unit {0}

-- the image of this number is one of the run
abbrev pub IsImage : {C M B : Type 0} → Beginning C M B → ℕ → Type 0
IsImage b i = IsOneOf b.images i

-- the place is one of the run
abbrev pub IsPlace : {C M B : Type 0} → Beginning C M B → Place → Type 0
IsPlace b place = IsThere b.images place

-- the moment before the first step: each image has come to its first ask or its end, and there is no event
pub record IsFirst {C M B : Type 0} (r : Rules C M B) (b : Beginning C M B) (m : Moment C M B) : Type 0 where
  pub count : length m.configs ≡ b.images
  pub starts : (k : ℕ) (c : C) → slice_get m.configs k ≡ Some c → (n : ℕ) × (go r.step n (b.first (suc k)) ≡ goes c)
  pub rests : (k : ℕ) (c : C) → slice_get m.configs k ≡ Some c → Rests (r.step c)
  pub events : m.events ≡ replicate b.images []
  pub memories : m.memories ≡ map b.memory (numbers_to b.images)
  pub histories : m.histories ≡ replicate b.images []
  pub board : m.board ≡ b.board
  pub board_history : m.board_history ≡ []

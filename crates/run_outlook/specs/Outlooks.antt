-- What an outlook keeps: which images are known to be able to step, and where each is filed.
use Rattle.std.specs.Prelude.{ℕ, ◌≡◌, ◌<◌, ◌≤◌, ◌+◌, ◌/◌, ◌^◌, true, List, [], map, length, slice_index_or}
use Rattle.std.specs.List.{filter}
use Rattle.caf_base.specs.declared.place.Place.{Place}
use Rattle.caf_base.specs.declared.place.Place.TheVariants.{Memory, Board, Own}
use Rattle.core_runs.specs.Beginnings.{numbers_to}
use Rattle.run_outlook.specs.declared.image_set.ImageSet.{ImageSet}
use Rattle.run_outlook.specs.declared.outlook.Outlook.{Outlook}
use Rattle.run_outlook.specs.ImageSets.{has}

-- the object at a place has its files at k, where there are so many files: those of the board are at 0, those of the
-- memory of image k at k
abbrev pub IsFileOf : ℕ → Place → ℕ → Type 0
IsFileOf files Own k = ⊥
IsFileOf files Board k = (k ≡ 0) × (0 < files)
IsFileOf files (Memory owner) k = (k ≡ owner.0) × (owner.0 < files)

-- the images that are filed there
abbrev pub filed_at : List ImageSet → ℕ → List ℕ
filed_at files k = slice_index_or (map (λ s. s.words.items) files) k []

-- image i is filed at a place, where there is a file for it
abbrev pub IsFiled : List ImageSet → Place → ℕ → Type 0
IsFiled files place i = (k : ℕ) → IsFileOf (length files) place k → has (filed_at files k) i ≡ true

-- of the images that are filed at a place it isn't known whether they can step
abbrev pub IsForgotten : Outlook → Place → Type 0
IsForgotten o place = (k : ℕ) → IsFileOf (length o.filed.items) place k → (i : ℕ) → has (filed_at o.filed.items k) i ≡ true → has o.stale.words.items i ≡ true

-- the sets have room for all images, and no others in them
pub record IsWell (o : Outlook) : Type 0 where
  pub few : o.images < 2 ^ 31
  pub can : length o.can.words.items ≡ o.images / 64 + 1
  pub stale : length o.stale.words.items ≡ o.images / 64 + 1
  pub filed : (k : ℕ) → k < length o.filed.items → length (filed_at o.filed.items k) ≡ o.images / 64 + 1
  pub can_within : (i : ℕ) → has o.can.words.items i ≡ true → (0 < i) × (i ≤ o.images)
  pub stale_within : (i : ℕ) → has o.stale.words.items i ≡ true → (0 < i) × (i ≤ o.images)
  pub filed_within : (k i : ℕ) → has (filed_at o.filed.items k) i ≡ true → (0 < i) × (i ≤ o.images)
  pub counted : o.count ≡ length (filter (has o.can.words.items) (numbers_to o.images))

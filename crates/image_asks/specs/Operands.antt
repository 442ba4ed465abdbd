-- What asks take from the stack.
use Rattle.std.specs.Prelude.{ℕ, ◌+◌, ℤ, pos, cond, ◌==◌, List, take, drop, reverse, slice_index_or}
use Rattle.caf_base.specs.declared.place.ImageNo.{ImageNo}
use Rattle.caf_base.specs.declared.place.TeamNo.{TeamNo}
use Rattle.image_acts.specs.Core.{Array}
use Rattle.image_acts.specs.Places.{place_size}
use Rattle.image_acts.specs.Words.{word}
use Rattle.image_acts.specs.Operate.Allocating.{bounds_size}
use Rattle.array_values.specs.Values.{elements_on_top, extents_on_top}
use Rattle.image_code.specs.declared.step.AskStep.{AskStep}
use Rattle.image_code.specs.declared.step.AskStep.TheVariants as asked

-- how many numbers must stand there; of no numbers those beneath which they stand don't matter
abbrev pub numbers_for : AskStep → ℕ
numbers_for (asked.Read coarray rank) = place_size rank + 1
numbers_for (asked.Write coarray rank kind) = place_size rank + 2
numbers_for (asked.WriteArray coarray rank kind) = place_size rank + 1
numbers_for (asked.Create coarray depth rank) = cond (rank == 0) 0 (depth + bounds_size rank)
numbers_for (asked.Delete coarray) = 0
numbers_for (asked.Atomic op coarray kind) = 4
numbers_for (asked.Lock coarray) = 2
numbers_for (asked.TryLock coarray) = 2
numbers_for (asked.Unlock coarray) = 2
numbers_for (asked.Post coarray) = 2
numbers_for (asked.Wait coarray) = 2
numbers_for (asked.Query coarray) = 1
numbers_for asked.ArriveSync = 1
numbers_for asked.ArriveForm = 3
numbers_for asked.ArriveChange = 1
numbers_for asked.ArriveEnd = 1
numbers_for (asked.ArriveAllocate n) = n + 1
numbers_for (asked.ArriveDeallocate n) = n + 1
numbers_for asked.Leave = 1
numbers_for (asked.Gather op kind) = 1
numbers_for asked.Take = 0
numbers_for asked.Pair = 0
numbers_for asked.Unpair = 0
numbers_for (asked.EnterCritical construct) = 0
numbers_for (asked.ExitCritical construct) = 0
numbers_for asked.Failed = 1
numbers_for asked.Stopped = 1
numbers_for asked.Status = 2
numbers_for asked.Say = 0
numbers_for asked.Memory = 0
numbers_for asked.Fail = 0
numbers_for asked.Stop = 1
numbers_for asked.ErrorStop = 1
numbers_for asked.EndProgram = 0

-- it takes numbers alone, and asks wherever they are there
abbrev pub TakesNumbers : AskStep → Type 0
TakesNumbers (asked.WriteArray coarray rank kind) = ⊥
TakesNumbers (asked.Wait coarray) = ⊥
TakesNumbers (asked.Query coarray) = ⊥
TakesNumbers asked.Leave = ⊥
TakesNumbers (asked.Gather op kind) = ⊥
TakesNumbers asked.Take = ⊥
TakesNumbers asked.Pair = ⊥
TakesNumbers asked.Status = ⊥
TakesNumbers asked.Say = ⊥
TakesNumbers ask = Unit {0}

-- the number beneath so many others, and n of them in the order in which they were put down
abbrev pub number_beneath : ℕ → List ℤ → ℤ
number_beneath depth vs = slice_index_or vs depth (pos 0)

abbrev pub numbers_beneath : (depth n : ℕ) → List ℤ → List ℤ
numbers_beneath depth n vs = reverse (take n (drop depth vs))

-- the top array value
abbrev pub top_array : List Array → Array
top_array xs = record { extents = extents_on_top xs; elements = elements_on_top xs }

-- a number as an image, and as a team
abbrev pub image_of : ℤ → ImageNo
image_of v = record { 0 = word v }

abbrev pub team_of : ℤ → TeamNo
team_of v = record { 0 = word v }

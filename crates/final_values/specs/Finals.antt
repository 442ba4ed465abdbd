-- What variables of the main program hold on an image (ISO/IEC 1539-1:2018, 19.6): a coarray what the image's memory
-- holds by its history, another variable what the image's program has computed. None stands for a variable that isn't
-- allocated.
use Rattle.std.specs.Prelude.{ℕ, zero, suc, ℤ, Bool, true, false, cond, List, [], ◌∷◌, ◌++◌, map, Option, None, Some}
use Rattle.std.specs.List.{list_any}
use Rattle.std.specs.Option.{option_map}
use Rattle.caf_base.specs.Arithmetic.{value_of}
use Rattle.caf_base.specs.declared.value.Kind.{Kind}
use Rattle.caf_base.specs.declared.value.Value.{Value}
use Rattle.caf_events.specs.declared.event.Entry.{Entry}
use Rattle.caf_events.specs.declared.event.Event.{Event}
use Rattle.image_acts.specs.Acts.{host}
use Rattle.image_acts.specs.Core.{Core, Local}
use Rattle.image_acts.specs.Frames.{array_in, cell_in}
use Rattle.object_rules.specs.Cells.{MadeMemory, size_after}
use Rattle.object_rules.specs.MemoryRules.{value_there}
use Rattle.caf_report.specs.declared.report.Final.{Final}
use Rattle.coarray_memory.specs.Memories.{MemoryState}
use Rattle.image_core.specs.declared.run.ImageRun.{ImageRun}
use Rattle.image_lanes.specs.declared.lane.Lane.{Lane}
use Rattle.image_lanes.specs.Lanes.{is_failure}
use Rattle.image_machine.specs.Engine.{Engine}
use Rattle.final_values.specs.declared.listing.Form.{Form}
use Rattle.final_values.specs.declared.listing.Form.TheVariants as forms
use Rattle.final_values.specs.declared.listing.Listed.{Listed}

-- a scalar's value, and an array's in array element order
abbrev pub of_scalar : Kind → Option ℤ → Option (List Value)
of_scalar k None = None
of_scalar k (Some z) = Some (value_of k z ∷ [])

abbrev pub of_array : Kind → Option Local → Option (List Value)
of_array k None = None
of_array k (Some l) = Some (map (value_of k) l.elements)

-- a value before the others, none where it isn't there
abbrev pub before : Option Value → List Value → List Value
before None vs = []
before (Some v) vs = v ∷ vs

-- so many cells of a coarray after a history, from this offset on
abbrev pub cells_from : MadeMemory → List Entry → (c o n : ℕ) → List Value
cells_from m h c o zero = []
cells_from m h c o (suc n) = before (value_there m h c o) (cells_from m h c (suc o) n)

-- a coarray's values after a history
abbrev pub of_coarray : MadeMemory → List Entry → ℕ → Option (List Value)
of_coarray m h c = option_map (cells_from m h c 0) (size_after m h c)

abbrev pub held : Core → MadeMemory → List Entry → ℕ → Kind → Form → Option (List Value)
held c m h x k forms.Scalar = of_scalar k (cell_in host x c)
held c m h x k forms.Array = of_array k (array_in host x c)
held c m h x k (forms.Coarray n) = of_coarray m h n

abbrev pub final_with : (image : ℕ) → List ℕ → Option (List Value) → Final
final_with i name None = record { image = record { 0 = i }; name = name; is_allocated = false; values = [] }
final_with i name (Some vs) = record { image = record { 0 = i }; name = name; is_allocated = true; values = vs }

abbrev pub final_of : (image : ℕ) → Core → MadeMemory → List Entry → Listed → Final
final_of i c m h l = final_with i l.name (held c m h l.variable l.kind l.form)

-- those of an image, by what its program has computed and its memory's history
abbrev pub image_finals : List Listed → (image : ℕ) → Core → MadeMemory → List Entry → List Final
image_finals ls i c m h = map (final_of i c m h) ls

-- one of these events began a failure
abbrev pub has_failed : List Event → Bool
has_failed es = list_any (λ e. is_failure e.ask) es

-- those of an image of a run, none where it failed
abbrev pub own_finals : List Listed → ImageRun (Lane Engine) → MemoryState → List Final
own_finals ls r m = cond (has_failed r.events.items) [] (image_finals ls r.image.0 r.machine.machine.state.core m.made m.history)

-- those of all images of a run, each with its memory
abbrev pub run_finals : List Listed → List (ImageRun (Lane Engine)) → List MemoryState → List Final
run_finals ls [] ms = []
run_finals ls (r ∷ rs) [] = []
run_finals ls (r ∷ rs) (m ∷ ms) = own_finals ls r m ++ run_finals ls rs ms

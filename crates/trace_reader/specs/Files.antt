-- What is known of a file when some of its lines are read.
use Rattle.std.specs.Prelude.{ℕ, ◌≡◌, Bool, true, false, List, [], ◌∷◌, ◌++◌, ◌⊎◌}
use Rattle.std.specs.List.{list_any}
use Rattle.caf_events.specs.declared.event.Entry.{Entry}
use Rattle.trace_text.specs.Forms.{HasGiven}
use Rattle.trace_forms.specs.Files.{is_trace_line, is_second, LinesWritten}
use Rattle.caf_base.specs.declared.refusal.Refusal.{Refusal}
use Rattle.caf_base.specs.declared.refusal.Refusal.TheVariants as refusals
use Rattle.trace_reader.specs.declared.trace.BadTrace.{BadTrace}
use Rattle.trace_reader.specs.declared.trace.Reading.{Reading}

-- what was read of these lines: the trace for which they are written, and their form
pub record HasRead (done names : List (List ℕ)) (reading : Reading) : Type 0 where
  pub written : LinesWritten done names reading.entries.items
  pub form : reading.teams.is_second ≡ is_second done
  pub begun : reading.has_begun ≡ list_any is_trace_line done
  -- in the second form the table has the team numbers that the entries give
  pub given : reading.teams.is_second ≡ true → HasGiven reading.entries.items reading.teams.numbers
  -- before the first line of the trace there is no entry, and no number
  pub none : HasGiven [] reading.teams.numbers ⊎ (reading.has_begun ≡ true)

-- a line more is read, where these are written for a trace with it; else they are written for none
abbrev pub Reads : Bool → List (List ℕ) → List ℕ → List (List ℕ) → Reading → Type 0
Reads true done line names reading = HasRead (done ++ line ∷ []) names reading
Reads false done line names reading = (t : List Entry) → LinesWritten (done ++ line ∷ []) names t → ⊥

-- the number of the line, where a refusal names one
abbrev pub IfBad : (ℕ → Type 0) → Refusal BadTrace → Type 0
IfBad P refusals.NoMemory = Unit {0}
IfBad P (refusals.Cause bad) = P bad.line

-- A source in memory, and what each of its calls does.
use Rattle.std.specs.Prelude.{ℕ, ◌-◌, ◌<◌, ◌≤◌, min, cond, List, [], ◌∷◌, ◌++◌, length, take, drop, slice_get, Option, None, Some, Vec, ⊤}
use Rattle.std.specs.declared.alloc.Global.{Global}
use Rattle.caf_base.specs.Outside.{Files, file_of}
use Rattle.caf_io.specs.Calls.{CallCount, fails_next, called, faulted}
use Rattle.caf_io.specs.declared.mem_source.Place.{Place}

-- a source's files, the bytes still to come, its calls, and the most bytes that a call moves
pub record SourceState : Type 0 where
  pub files : Files
  pub left : List ℕ
  pub calls : CallCount
  pub piece : ℕ

-- the names and the bytes of files
abbrev pub files_of : List (Vec ℕ Global × Vec ℕ Global) → Files
files_of [] = []
files_of (f ∷ fs) = (f.0.items, f.1.items) ∷ files_of fs

-- the bytes of a file, where there is one
abbrev pub bytes_of : Option (Vec ℕ Global × Vec ℕ Global) → List ℕ
bytes_of None = []
bytes_of (Some f) = f.1.items

-- the bytes of the file at an index
abbrev pub bytes_at : List (Vec ℕ Global × Vec ℕ Global) → ℕ → List ℕ
bytes_at files i = bytes_of (slice_get files i)

-- the bytes from a place on
abbrev pub left_from : List (Vec ℕ Global × Vec ℕ Global) → Option Place → List ℕ
left_from files None = []
left_from files (Some p) = drop (length (bytes_at files p.file) - p.left) (bytes_at files p.file)

-- a place is within one of the files
abbrev pub IsPlace : List (Vec ℕ Global × Vec ℕ Global) → Option Place → Type 0
IsPlace files None = ⊤
IsPlace files (Some p) = (p.file < length files) × (p.left ≤ length (bytes_at files p.file))

-- the source with the file begun, if there is one
abbrev pub begun : SourceState → Option (List ℕ) → SourceState
begun s None = s
begun s (Some bytes) = record s { left = bytes }

-- the source after `begin`: a call that fails leaves what is left
abbrev pub after_begin : SourceState → List ℕ → SourceState
after_begin s name =
    cond (fails_next s.calls)
    (record s { calls = faulted (called s.calls) })
    (begun (record s { calls = called s.calls }) (file_of name s.files))

-- how many bytes a `read` into a buffer of this length moves, where it doesn't fail
abbrev pub moved : SourceState → ℕ → ℕ
moved s room = min room (min s.piece (length s.left))

-- the source after such a `read`, or after one that fails
abbrev pub after_read : SourceState → ℕ → SourceState
after_read s room =
    cond (fails_next s.calls)
    (record s { calls = faulted (called s.calls) })
    (record s { calls = called s.calls; left = drop (moved s room) s.left })

-- the buffer after a `read`: the bytes moved, and then what was there
abbrev pub buffer_after : SourceState → List ℕ → List ℕ
buffer_after s buf =
    cond (fails_next s.calls) buf (take (moved s (length buf)) s.left ++ drop (moved s (length buf)) buf)

-- of a source over the files of an opener: the opener, the file that is begun, if there is one, the bytes still to
-- come, where the file tells them, and the faults
pub record FileState (O F : Type 0) : Type 0 where
  pub opener : O
  pub file : Option F
  pub left : Option (List ℕ)
  pub faults : ℕ

-- the bytes still to come of a file, as files tell them; none are where no file is begun
abbrev pub left_of_file : {F : Type 0} → (F → Option (List ℕ)) → Option F → Option (List ℕ)
left_of_file remaining None = Some []
left_of_file remaining (Some file) = remaining file

-- files of which nothing is told
abbrev pub untold : Option Files
untold = None

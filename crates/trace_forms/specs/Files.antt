-- Files that hold the text of a trace: their lines, those of them that are the trace's, and for which trace they are
-- written.
use Rattle.std.specs.Prelude.{ℕ, ◌≡◌, ◌<◌, ◌≤◌, ◌==◌, cond, Bool, false, not, ◌&&◌, ◌||◌, List, [], ◌∷◌, ◌++◌, length}
use Rattle.std.specs.Prelude.{take, codes}
use Rattle.std.specs.List.{filter, list_any, range_with_len}
use Rattle.std.specs.Str.{bytes_eq}
use Rattle.std.specs.Fmt.{decimal}
use Rattle.caf_events.specs.declared.event.Entry.{Entry}
use Rattle.trace_text.specs.Forms.{Form, First, Second, trace_lines}
use Rattle.trace_forms.specs.Names.{is_digit_byte}
use Rattle.trace_forms.specs.Shown.{HaveTexts}

-- a byte in front of the lines of what follows: a line feed ends a line of its own, any other byte begins the first
-- line, or is a line where there is none
abbrev pub with_byte : ℕ → List (List ℕ) → List (List ℕ)
with_byte b [] = (b ∷ []) ∷ []
with_byte b (l ∷ ls) = cond (b == 10) ((b ∷ []) ∷ l ∷ ls) ((b ∷ l) ∷ ls)

-- the lines of a file, each with its line feed; the last has none where the file doesn't end with one
abbrev pub lines_of : List ℕ → List (List ℕ)
lines_of [] = []
lines_of (b ∷ bs) = with_byte b (lines_of bs)

-- a space or a tab
abbrev pub is_blank : ℕ → Bool
is_blank b = b == 32 || b == 9

-- digits, none or more, and a blank
abbrev pub goes_on_as_stamp : List ℕ → Bool
goes_on_as_stamp [] = false
goes_on_as_stamp (b ∷ bs) = is_blank b || (is_digit_byte b && goes_on_as_stamp bs)

-- a line of the trace: it begins with digits, one or more, and a blank
abbrev pub is_trace_line : List ℕ → Bool
is_trace_line [] = false
is_trace_line (b ∷ bs) = is_digit_byte b && goes_on_as_stamp bs

-- the lines of the trace among these; all others are passed over
abbrev pub traced_lines : List (List ℕ) → List (List ℕ)
traced_lines ls = filter is_trace_line ls

-- the line that says the second form with so many images, without its line feed
abbrev pub images_line : ℕ → List ℕ
images_line n = codes "trace 2 images " ++ decimal n

-- the line is this one; at the end of a file it may have no line feed
abbrev pub says_images : List ℕ → ℕ → Bool
says_images line n = bytes_eq line (images_line n ++ codes "\n") || bytes_eq line (images_line n)

-- it is so for 1 to 256 images
abbrev pub says_second : List ℕ → Bool
says_second line = list_any (says_images line) (range_with_len 1 256)

-- such a line stands before the first line of the trace
abbrev pub is_second : List (List ℕ) → Bool
is_second [] = false
is_second (l ∷ ls) = says_second l || (not (is_trace_line l) && is_second ls)

-- the form of a file
abbrev pub form_of : List (List ℕ) → Form
form_of ls = cond (is_second ls) Second First

-- the lines of the trace among these lines are those of the trace t, in order, in the form of the file, and each of
-- its entries can be shown by a line
pub record LinesWritten (ls : List (List ℕ)) (names : List (List ℕ)) (t : List Entry) : Type 0 where
  pub lines : traced_lines ls ≡ trace_lines (form_of ls) names t
  pub texts : HaveTexts (form_of ls) names [] t

-- the file is written for the trace
abbrev pub Written : List ℕ → List (List ℕ) → List Entry → Type 0
Written bytes names t = LinesWritten (lines_of bytes) names t

-- the first so many lines of a file are written for no trace
abbrev pub WrittenForNone : List (List ℕ) → List (List ℕ) → ℕ → Type 0
WrittenForNone ls names count = (t : List Entry) → LinesWritten (take count ls) names t → ⊥

-- the line of this number, from 1, is the first by which the lines so far are written for no trace
pub record IsBadLine (ls : List (List ℕ)) (names : List (List ℕ)) (line : ℕ) : Type 0 where
  pub least : 1 ≤ line
  pub most : line ≤ length ls
  pub none : WrittenForNone ls names line
  pub before : (k : ℕ) → k < line → (t : List Entry) × LinesWritten (take k ls) names t

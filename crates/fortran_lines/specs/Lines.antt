-- How the physical lines of a file join to statements (ISO/IEC 1539-1:2018, 6.3.2, with the limits and the leave of
-- docs/use/LANGUAGE.md).
use Rattle.std.specs.Prelude.{ℕ, Bool, true, cond, not, ◌&&◌, nat_eq, List, [], ◌∷◌, ◌++◌, Option, Some, None, filter}
use Rattle.std.specs.List.{flat_map, onto_first}
use Rattle.fortran_lines.specs.declared.placed_byte.PlacedByte.{PlacedByte}
use Rattle.fortran_lines.specs.declared.context.Context.{Context}
use Rattle.fortran_lines.specs.declared.context.Context.TheVariants.{Outside, Inside, Closed}
use Rattle.fortran_lines.specs.declared.context.Before.{Before}
use Rattle.fortran_lines.specs.declared.context.Before.TheVariants.{Start, Continued}
use Rattle.fortran_lines.specs.PlacedBytes.{is_blank, all_blank, blank_at, physical_lines}
use Rattle.fortran_lines.specs.Contexts.{is_inside, behind, context_behind}

-- A blank line or a comment line is nothing (6.3.2.3): its first byte but blanks is `!`, or it has none.
abbrev pub is_nothing : List PlacedByte → Bool
is_nothing [] = true
is_nothing (m ∷ line) = cond (is_blank m) (is_nothing line) (nat_eq m.code 33)

-- a line without its comment: it ends before the first `!` outside literals
abbrev pub code_part : Context → List PlacedByte → List PlacedByte
code_part k [] = []
code_part k (m ∷ line) = cond (nat_eq m.code 33 && not (is_inside k)) [] (m ∷ code_part (behind k m) line)

-- a byte more in front of the text
abbrev pub put_before : PlacedByte → Option (List PlacedByte × PlacedByte) → Option (List PlacedByte × PlacedByte)
put_before m None = None
put_before m (Some r) = Some (m ∷ r.0, r.1)

-- the text in front of an `&` behind which there are blanks alone, and that `&`
abbrev pub before_amp : List PlacedByte → Option (List PlacedByte × PlacedByte)
before_amp [] = None
before_amp (m ∷ code) = cond (nat_eq m.code 38 && all_blank code) (Some ([], m)) (put_before m (before_amp code))

-- the rest behind an `&` before which there are blanks alone, and that `&`
abbrev pub behind_amp : List PlacedByte → Option (List PlacedByte × PlacedByte)
behind_amp [] = None
behind_amp (m ∷ line) = cond (is_blank m) (behind_amp line) (cond (nat_eq m.code 38) (Some (line, m)) None)

-- what a line is to a statement
pub record Part : Type 0 where
  -- its bytes but a comment, and what makes it a continuation
  pub code : List PlacedByte
  -- what it adds to the statement's text
  pub text : List PlacedByte
  -- what stands before the next line
  pub next : Before
  -- the quote of a literal that is left open
  pub left_open : Option PlacedByte

-- the quote of the literal that is open
abbrev pub open_quote : Context → Option PlacedByte
open_quote Outside = None
open_quote (Inside q) = Some q
open_quote (Closed q) = None

-- where the text ends with no `&`, a literal must not be open
abbrev pub part_by : Context → List PlacedByte → Option (List PlacedByte × PlacedByte) → Part
part_by k code None = record { code = code; text = code; next = Start; left_open = open_quote (context_behind k code) }
part_by k code (Some r) = record { code = code; text = r.0; next = Continued r.1 (context_behind k r.0); left_open = None }

-- a line whose text begins in this context
abbrev pub part_from : Context → List PlacedByte → Part
part_from k line = part_by k (code_part k line) (before_amp (code_part k line))

-- behind a leading `&` the text goes on at once; where the line has nothing else, that `&` continues as the one before
-- did
abbrev pub resumed : Context → PlacedByte → Part → Part
resumed k amp part = cond (all_blank part.code) (record { code = part.code; text = []; next = Continued amp k; left_open = None }) part

-- with no leading `&` the text goes on after one blank
abbrev pub spaced : PlacedByte → Part → Part
spaced amp part = record { code = part.code; text = blank_at amp ∷ part.text; next = part.next; left_open = part.left_open }

-- a line behind a continuation
abbrev pub continued : PlacedByte → Context → List PlacedByte → Option (List PlacedByte × PlacedByte) → Part
continued amp k line (Some r) = resumed k r.1 (part_from k r.0)
continued amp Outside line None = spaced amp (part_from Outside line)
continued amp (Closed q) line None = spaced amp (part_from Outside line)
-- a literal goes on behind a leading `&` alone
continued amp (Inside q) line None = record { code = code_part (Inside q) line; text = []; next = Start; left_open = Some q }

-- what a line is to a statement, behind what stands before it
abbrev pub part_of : Before → List PlacedByte → Part
part_of Start line = part_from Outside line
part_of (Continued amp k) line = continued amp k line (behind_amp line)

-- the text ends here, or goes on in the lines that are left
abbrev pub by_next : (Before → List PlacedByte → List (List PlacedByte)) → List PlacedByte → Before → List (List PlacedByte)
by_next rest text Start = text ∷ rest Start []
by_next rest text (Continued amp k) = rest (Continued amp k) text

-- the texts that lines join to, behind the text that is there already
abbrev pub joined : List (List PlacedByte) → Before → List PlacedByte → List (List PlacedByte)
joined [] before text = []
joined (line ∷ lines) before text =
    cond (is_nothing line) (joined lines before text) (by_next (joined lines) (text ++ (part_of before line).text) (part_of before line).next)

-- a `;` outside literals ends a statement (6.3.2.5)
abbrev pub separates : Context → PlacedByte → Bool
separates k m = nat_eq m.code 59 && not (is_inside k)

-- a text cut at each such `;`
abbrev pub cut : Context → List PlacedByte → List (List PlacedByte)
cut k [] = [] ∷ []
cut k (m ∷ text) = cond (separates k m) ([] ∷ cut (behind k m) text) (onto_first m (cut (behind k m) text))

-- pieces of blanks alone are nothing
abbrev pub kept : List (List PlacedByte) → List (List PlacedByte)
kept ps = filter (λ piece. not (all_blank piece)) ps

-- the statements of a text
abbrev pub pieces : List PlacedByte → List (List PlacedByte)
pieces text = kept (cut Outside text)

-- the statements of a file
abbrev pub statements_of : List ℕ → List (List PlacedByte)
statements_of bytes = flat_map pieces (joined (physical_lines bytes) Start [])

-- The line of a step in the text of a trace: the image, what it asked and what the reply was, with a text for each team
-- that an ask names.
use Rattle.std.specs.Ordering.{int_eq}
use Rattle.std.specs.Prelude.{ℕ, ℤ, pos, ◌==◌, cond, Bool, true, false, List, [], ◌∷◌, ◌++◌, Option, None, Some, codes, flat_map, slice_get}
use Rattle.caf_base.specs.declared.place.Place.{Place}
use Rattle.caf_base.specs.declared.place.Place.TheVariants.{Memory, Board, Own}
use Rattle.caf_base.specs.declared.place.ImageNo.{ImageNo}
use Rattle.caf_base.specs.declared.span.Span.{Span}
use Rattle.caf_base.specs.declared.value.AtomicOp.{AtomicOp}
use Rattle.caf_base.specs.declared.value.AtomicOp.TheVariants as operations
use Rattle.caf_base.specs.declared.value.Kind.{Kind}
use Rattle.caf_base.specs.declared.value.Kind.TheVariants as kinds
use Rattle.caf_base.specs.declared.value.Value.{Value}
use Rattle.caf_base.specs.declared.value.Value.TheVariants as values
use Rattle.caf_text.specs.Numbers.{decimal_text, logical_text}
use Rattle.caf_events.specs.declared.ask.Ask.{Ask}
use Rattle.caf_events.specs.declared.ask.Ask.TheVariants as asks
use Rattle.caf_events.specs.declared.reply.Reply.{Reply}
use Rattle.caf_events.specs.declared.reply.Reply.TheVariants as replies
use Rattle.caf_events.specs.declared.reply.FormedTeam.{FormedTeam}
use Rattle.caf_events.specs.declared.round.Allotted.{Allotted}
use Rattle.caf_events.specs.declared.round.Arriving.{Arriving}
use Rattle.caf_events.specs.declared.round.Arriving.TheVariants as arrivings
use Rattle.caf_events.specs.declared.round.GatherOp.{GatherOp}
use Rattle.caf_events.specs.declared.round.GatherOp.TheVariants as gathers
use Rattle.caf_events.specs.declared.event.Entry.{Entry}
use Rattle.caf_events.specs.Asks.{place_of}
use Rattle.trace_text.specs.Words.{fault_word, ask_word}

-- ---- pieces
-- an item's text behind another text
abbrev pub behind : {A : Type 0} → List ℕ → (A → List ℕ) → A → List ℕ
behind between text x = between ++ text x

-- an item's text behind a comma
abbrev pub further : {A : Type 0} → (A → List ℕ) → A → List ℕ
further text x = behind (codes ",") text x

-- the texts of the items with a text between them
abbrev pub joined : {A : Type 0} → List ℕ → (A → List ℕ) → List A → List ℕ
joined between text [] = []
joined between text (x ∷ xs) = text x ++ flat_map (behind between text) xs

abbrev pub number_text : ℕ → List ℕ
number_text n = decimal_text (pos n)

-- a blank and a text
abbrev pub spaced : List ℕ → List ℕ
spaced text = codes " " ++ text

abbrev pub value_text : Value → List ℕ
value_text (values.Int v) = decimal_text v
value_text (values.Bool b) = logical_text b

abbrev pub values_text : List Value → List ℕ
values_text vs = joined (codes ",") value_text vs

abbrev pub image_text : ImageNo → List ℕ
image_text image = number_text image.0

-- the name of the coarray of a number, counted from 0 in declared order; none where it isn't one of them
abbrev pub name_in : Option (List ℕ) → List ℕ
name_in None = []
name_in (Some name) = name

abbrev pub name_text : List (List ℕ) → ℕ → List ℕ
name_text names coarray = name_in (slice_get names coarray)

-- a dimension of a section: how many cells, how far apart
abbrev pub dimension_text : ℕ × ℤ → List ℕ
dimension_text d = codes ":" ++ number_text d.0 ++ codes "*" ++ decimal_text d.1

abbrev pub span_text : List (List ℕ) → Span → List ℕ
span_text names span = name_text names span.coarray ++ codes ":" ++ number_text span.start ++ flat_map dimension_text span.dims

-- ---- asks
abbrev pub atomic_word : AtomicOp → List ℕ
atomic_word operations.Define = codes "define"
atomic_word operations.Ref = codes "ref"
atomic_word operations.Add = codes "add"
atomic_word operations.And = codes "and"
atomic_word operations.Or = codes "or"
atomic_word operations.Xor = codes "xor"
atomic_word operations.Cas = codes "cas"

abbrev pub gather_word : GatherOp → List ℕ
gather_word gathers.Sum = codes "sum"
gather_word gathers.Min = codes "min"
gather_word gathers.Max = codes "max"
gather_word gathers.Broadcast = codes "broadcast"

abbrev pub kind_word : Kind → List ℕ
kind_word kinds.I4 = codes "I4"
kind_word kinds.I8 = codes "I8"
kind_word kinds.L4 = codes "L4"

-- bounds or cobounds of one dimension
abbrev pub bounds_text : ℤ × ℤ → List ℕ
bounds_text b = decimal_text b.0 ++ codes ":" ++ decimal_text b.1

-- the bounds of an array in brackets, nothing of a scalar
abbrev pub shape_text : List (ℤ × ℤ) → List ℕ
shape_text [] = []
shape_text (d ∷ ds) = codes "(" ++ joined (codes ",") bounds_text (d ∷ ds) ++ codes ")"

-- a cobound that isn't the last
abbrev pub cobound_text : ℤ × ℤ → List ℕ
cobound_text b = bounds_text b ++ codes ","

-- a coarray that is allocated: its name, its bounds and its cobounds
abbrev pub allotted_text : List (List ℕ) → Allotted → List ℕ
allotted_text names a = codes " " ++ name_text names a.coarray ++ shape_text a.dims ++ codes "[" ++ flat_map cobound_text a.codims ++ decimal_text a.last ++ codes ":*]"

abbrev pub spaced_name : List (List ℕ) → ℕ → List ℕ
spaced_name names coarray = spaced (name_text names coarray)

abbrev pub arriving_text : List (List ℕ) → Arriving → List ℕ
arriving_text names arrivings.Sync = codes " sync"
arriving_text names (arrivings.Form number new_index) = codes " form " ++ decimal_text number ++ codes " " ++ decimal_text new_index
arriving_text names arrivings.Change = codes " change"
arriving_text names arrivings.End = codes " end"
arriving_text names (arrivings.Allocate list) = codes " allocate" ++ flat_map (allotted_text names) list
arriving_text names (arrivings.Deallocate list) = codes " deallocate" ++ flat_map (spaced_name names) list

-- a printed byte: `\n` for a line feed and `\\` for a backslash
abbrev pub escaped : ℕ → List ℕ
escaped b = cond (b == 10) (codes "\\n") (cond (b == 92) (codes "\\\\") (b ∷ []))

-- what stands behind the word of an ask, where a team stands as `of_team` writes it
abbrev pub operands_text : (ℕ → List ℕ) → List (List ℕ) → Ask → List ℕ
operands_text of_team names (asks.Read owner span) = spaced (span_text names span)
operands_text of_team names (asks.Write owner span vs) = spaced (span_text names span) ++ spaced (values_text vs)
operands_text of_team names (asks.Create owner coarray cells) = spaced_name names coarray ++ spaced (number_text cells)
operands_text of_team names (asks.Delete owner coarray) = spaced_name names coarray
operands_text of_team names (asks.Atomic owner op span x y) = spaced (atomic_word op) ++ spaced (span_text names span) ++ spaced (value_text x) ++ spaced (value_text y)
operands_text of_team names (asks.Lock owner span) = spaced (span_text names span)
operands_text of_team names (asks.TryLock owner span) = spaced (span_text names span)
operands_text of_team names (asks.Unlock owner span) = spaced (span_text names span)
operands_text of_team names (asks.Post owner span) = spaced (span_text names span)
operands_text of_team names (asks.Wait owner span threshold) = spaced (span_text names span) ++ spaced (number_text threshold)
operands_text of_team names (asks.Query owner span) = spaced (span_text names span)
operands_text of_team names (asks.Mark owner) = []
operands_text of_team names (asks.Free owner span) = spaced (span_text names span)
operands_text of_team names (asks.Arrive team arriving) = spaced (of_team team.0) ++ arriving_text names arriving
operands_text of_team names (asks.Leave team round) = spaced (of_team team.0) ++ spaced (number_text round)
operands_text of_team names (asks.Gather team op root kind vs) = spaced (of_team team.0) ++ spaced (gather_word op) ++ spaced (number_text root) ++ spaced (kind_word kind) ++ spaced (values_text vs)
operands_text of_team names (asks.Take team round) = spaced (of_team team.0) ++ spaced (number_text round)
operands_text of_team names (asks.Pair images) = spaced (joined (codes ",") image_text images)
operands_text of_team names asks.Unpair = []
operands_text of_team names (asks.Enter construct) = spaced (number_text construct)
operands_text of_team names (asks.Exit construct) = spaced (number_text construct)
operands_text of_team names asks.Gone = []
operands_text of_team names (asks.Stop code) = spaced (decimal_text code)
operands_text of_team names (asks.Failed team) = spaced (of_team team.0)
operands_text of_team names (asks.Stopped team) = spaced (of_team team.0)
operands_text of_team names (asks.Status team index) = spaced (of_team team.0) ++ spaced (number_text index)
operands_text of_team names (asks.Print text) = spaced (flat_map escaped text)
operands_text of_team names asks.Memory = []
operands_text of_team names asks.Fail = []
operands_text of_team names (asks.ErrorStop code) = spaced (decimal_text code)
operands_text of_team names (asks.Fault kind) = spaced (fault_word kind)
operands_text of_team names (asks.LimitStatements number) = codes " statements " ++ number_text number
operands_text of_team names (asks.LimitWords number) = codes " words " ++ number_text number
operands_text of_team names (asks.LimitStamp number) = codes " stamp " ++ number_text number

-- whether the ask is one without a span and without a coarray of its own
abbrev pub is_control : Ask → Bool
is_control (asks.Read owner span) = false
is_control (asks.Write owner span vs) = false
is_control (asks.Create owner coarray cells) = false
is_control (asks.Delete owner coarray) = false
is_control (asks.Atomic owner op span x y) = false
is_control (asks.Lock owner span) = false
is_control (asks.TryLock owner span) = false
is_control (asks.Unlock owner span) = false
is_control (asks.Post owner span) = false
is_control (asks.Wait owner span threshold) = false
is_control (asks.Query owner span) = false
is_control (asks.Free owner span) = false
is_control ask = true

-- whether the ask names a team
abbrev pub names_team : Ask → Bool
names_team (asks.Arrive team arriving) = true
names_team (asks.Leave team round) = true
names_team (asks.Gather team op root kind vs) = true
names_team (asks.Take team round) = true
names_team (asks.Failed team) = true
names_team (asks.Stopped team) = true
names_team (asks.Status team index) = true
names_team ask = false

abbrev pub ask_text : (ℕ → List ℕ) → List (List ℕ) → Ask → List ℕ
ask_text of_team names ask = ask_word ask ++ operands_text of_team names ask

-- ---- replies
-- a team that was formed: its number in the run, its team number and its members
abbrev pub team_text : FormedTeam → List ℕ
team_text t = spaced (number_text t.team.0) ++ codes "/" ++ decimal_text t.number ++ codes ":" ++ joined (codes ".") image_text t.members

abbrev pub teams_text : List FormedTeam → List ℕ
teams_text [] = []
teams_text (t ∷ ts) = codes " teams" ++ flat_map team_text (t ∷ ts)

-- image indices, `-` where there are none
abbrev pub indices_text : List ℕ → List ℕ
indices_text [] = codes "-"
indices_text (i ∷ is) = joined (codes ",") number_text (i ∷ is)

-- the values of a collective, where its status is 0
abbrev pub taken_values : Bool → List Value → List ℕ
taken_values true vs = spaced (values_text vs)
taken_values false vs = []

abbrev pub reply_text : Reply → List ℕ
reply_text replies.Done = codes "ok"
reply_text replies.Dead = codes "dead"
reply_text replies.Absent = codes "absent"
reply_text replies.Overflow = codes "overflow"
reply_text replies.Busy = codes "busy"
reply_text (replies.Values vs) = values_text vs
reply_text (replies.Old value) = value_text value
reply_text (replies.Number status) = decimal_text status
reply_text (replies.Count count) = number_text count
reply_text (replies.Round round) = codes "round " ++ number_text round
reply_text (replies.Clash image line) = codes "clash " ++ image_text image ++ spaced (number_text line)
reply_text (replies.Indices indices) = indices_text indices
reply_text (replies.Taken status vs) = decimal_text status ++ taken_values (int_eq status (pos 0)) vs
reply_text (replies.Left status teams) = decimal_text status ++ teams_text teams

-- ---- lines
abbrev pub place_word : Place → List ℕ
place_word (Memory owner) = codes "m" ++ image_text owner
place_word Board = codes "board"
place_word Own = codes "own"

-- stamp, image, line, object, ask and reply
abbrev pub entry_line : (ℕ → List ℕ) → List (List ℕ) → Entry → List ℕ
entry_line of_team names e =
    number_text e.event.stamp ++ spaced (image_text e.image) ++ spaced (number_text e.event.line)
    ++ spaced (place_word (place_of e.event.ask)) ++ spaced (ask_text of_team names e.event.ask)
    ++ codes " > " ++ reply_text e.event.reply ++ codes "\n"

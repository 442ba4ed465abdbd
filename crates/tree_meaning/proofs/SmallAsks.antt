-- Short names for asks and replies.
use Rattle.std.proofs.Common.{ℕ, ℤ, pos, List, [], ◌∷◌, map}
use Rattle.caf_base.specs.declared.value.AtomicOp.{AtomicOp}
use Rattle.caf_base.specs.declared.value.Value.{Value}
use Rattle.caf_base.specs.declared.value.Value.TheVariants as values
use Rattle.caf_base.specs.declared.span.Span.{Span}
use Rattle.caf_events.specs.declared.ask.Ask.{Ask}
use Rattle.caf_events.specs.declared.ask.Ask.TheVariants as asks
use Rattle.caf_events.specs.declared.fault.FaultKind.{FaultKind}
use Rattle.caf_events.specs.declared.reply.Reply.{Reply}
use Rattle.caf_events.specs.declared.reply.Reply.TheVariants as replies
use Rattle.caf_events.specs.declared.round.Arriving.{Arriving}
use Rattle.caf_text.specs.Numbers.{decimal_text}

abbrev pub i : ℕ → Value
i n = values.Int (pos n)

abbrev pub ints : List ℕ → List Value
ints ns = map i ns

-- a cell of a coarray, a section of one dimension
abbrev pub at : ℕ → ℕ → Span
at c o = record { coarray = c; start = o; dims = [] }

abbrev pub along : ℕ → ℕ → ℕ → ℤ → Span
along c o n step = record { coarray = c; start = o; dims = (n, step) ∷ [] }

abbrev pub reads : ℕ → Span → Ask
reads m x = asks.Read (record { 0 = m }) x

abbrev pub writes : ℕ → Span → List Value → Ask
writes m x vs = asks.Write (record { 0 = m }) x vs

abbrev pub arrives : ℕ → Arriving → Ask
arrives t k = asks.Arrive (record { 0 = t }) k

abbrev pub leaves : ℕ → ℕ → Ask
leaves t r = asks.Leave (record { 0 = t }) r

abbrev pub prints : List ℕ → Ask
prints text = asks.Print text

abbrev pub stops : Ask
stops = asks.Stop (pos 0)

abbrev pub error_stops : ℕ → Ask
error_stops n = asks.ErrorStop (pos n)

abbrev pub faults : FaultKind → Ask
faults k = asks.Fault k

-- a number's text
abbrev pub d : ℕ → List ℕ
d n = decimal_text (pos n)

abbrev pub done : Reply
done = replies.Done

abbrev pub round : ℕ → Reply
round n = replies.Round n

abbrev pub left : ℕ → Reply
left s = replies.Left (pos s) []

abbrev pub status : ℕ → Reply
status s = replies.Number (pos s)

abbrev pub found : List Value → Reply
found vs = replies.Values vs

abbrev pub took : List ℕ → Reply
took ns = replies.Taken (pos 0) (ints ns)

abbrev pub pairs : List ℕ → Ask
pairs ns = asks.Pair (map (λ n. record { 0 = n }) ns)

abbrev pub locks : ℕ → Span → Ask
locks m x = asks.Lock (record { 0 = m }) x

abbrev pub atomic : ℕ → AtomicOp → Span → ℕ → ℕ → Ask
atomic m op x a b = asks.Atomic (record { 0 = m }) op x (i a) (i b)

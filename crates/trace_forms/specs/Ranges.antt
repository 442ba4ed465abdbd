-- Which entries a line can show: their numbers are those of the code's types, their coarrays have names, their spans
-- are ones of an access, and the reply has one of the forms that answer the ask.
use Rattle.std.specs.Prelude.{ℕ, ◌≡◌, ◌<◌, ◌≤◌, ◌^◌, ℤ, pos, negsuc, List, Some, length, slice_get}
use Rattle.caf_base.specs.declared.place.ImageNo.{ImageNo}
use Rattle.caf_base.specs.declared.span.Span.{Span}
use Rattle.caf_base.specs.declared.value.Value.{Value}
use Rattle.caf_base.specs.declared.value.Value.TheVariants as values
use Rattle.caf_base.specs.Spans.{IsSpan}
use Rattle.caf_events.specs.declared.ask.Ask.{Ask}
use Rattle.caf_events.specs.declared.ask.Ask.TheVariants as asks
use Rattle.caf_events.specs.declared.reply.Reply.{Reply}
use Rattle.caf_events.specs.declared.reply.Reply.TheVariants as replies
use Rattle.caf_events.specs.declared.reply.FormedTeam.{FormedTeam}
use Rattle.caf_events.specs.declared.round.Allotted.{Allotted}
use Rattle.caf_events.specs.declared.round.Arriving.{Arriving}
use Rattle.caf_events.specs.declared.round.Arriving.TheVariants as arrivings
use Rattle.caf_events.specs.declared.event.Entry.{Entry}
use Rattle.trace_theory.specs.Entries.{Each}
use Rattle.trace_forms.specs.Replies.{HasForm}

-- numbers of 32 and of 64 bits, without and with a sign
abbrev pub IsHalf : ℕ → Type 0
IsHalf n = n < 2 ^ 32

abbrev pub IsLong : ℕ → Type 0
IsLong n = n < 2 ^ 64

abbrev pub IsSignedHalf : ℤ → Type 0
IsSignedHalf (pos n) = n < 2 ^ 31
IsSignedHalf (negsuc n) = n < 2 ^ 31

abbrev pub IsSigned : ℤ → Type 0
IsSigned (pos n) = n < 2 ^ 63
IsSigned (negsuc n) = n < 2 ^ 63

abbrev pub IsImageNumber : ImageNo → Type 0
IsImageNumber image = IsHalf image.0

abbrev pub IsValueInRange : Value → Type 0
IsValueInRange (values.Int v) = IsSigned v
IsValueInRange (values.Bool b) = Unit {0}

-- the coarray of a number has a name
abbrev pub HasName : List (List ℕ) → ℕ → Type 0
HasName names coarray = (name : List ℕ) × (slice_get names coarray ≡ Some name) × IsHalf coarray

abbrev pub IsDimension : ℕ × ℤ → Type 0
IsDimension d = IsHalf d.0 × IsSignedHalf d.1

-- a span of an access (no dimension of one cell, 4,096 cells at most, each within the greatest size), of a coarray
-- with a name
pub record SpanHasText (names : List (List ℕ)) (span : Span) : Type 0 where
  pub named : HasName names span.coarray
  pub start : IsHalf span.start
  pub short : length span.dims ≤ 3
  pub dims : Each IsDimension span.dims
  pub is_span : IsSpan span

abbrev pub AreBounds : ℤ × ℤ → Type 0
AreBounds b = IsSigned b.0 × IsSigned b.1

-- a coarray that is allocated, with its bounds and cobounds
pub record AllottedHasText (names : List (List ℕ)) (a : Allotted) : Type 0 where
  pub named : HasName names a.coarray
  pub rank : length a.dims ≤ 3
  pub corank : length a.codims ≤ 2
  pub dims : Each AreBounds a.dims
  pub codims : Each AreBounds a.codims
  pub last : IsSigned a.last

-- what an image brings to a round
abbrev pub ArrivingHasText : List (List ℕ) → Arriving → Type 0
ArrivingHasText names (arrivings.Form number new_index) = IsSigned number × IsSigned new_index
ArrivingHasText names (arrivings.Allocate list) = Each (AllottedHasText names) list
ArrivingHasText names (arrivings.Deallocate list) = Each (HasName names) list
ArrivingHasText names arriving = Unit {0}

-- the numbers of an ask are those of its types, and its coarrays have names
abbrev pub AskHasText : List (List ℕ) → Ask → Type 0
AskHasText names (asks.Read owner span) = IsHalf owner.0 × SpanHasText names span
AskHasText names (asks.Write owner span vs) = IsHalf owner.0 × SpanHasText names span × Each IsValueInRange vs
AskHasText names (asks.Create owner coarray cells) = IsHalf owner.0 × HasName names coarray × IsHalf cells
AskHasText names (asks.Delete owner coarray) = IsHalf owner.0 × HasName names coarray
AskHasText names (asks.Atomic owner op span x y) =
    IsHalf owner.0 × SpanHasText names span × IsValueInRange x × IsValueInRange y
AskHasText names (asks.Lock owner span) = IsHalf owner.0 × SpanHasText names span
AskHasText names (asks.TryLock owner span) = IsHalf owner.0 × SpanHasText names span
AskHasText names (asks.Unlock owner span) = IsHalf owner.0 × SpanHasText names span
AskHasText names (asks.Post owner span) = IsHalf owner.0 × SpanHasText names span
AskHasText names (asks.Wait owner span threshold) = IsHalf owner.0 × SpanHasText names span × IsLong threshold
AskHasText names (asks.Query owner span) = IsHalf owner.0 × SpanHasText names span
AskHasText names (asks.Mark owner) = IsHalf owner.0
AskHasText names (asks.Free owner span) = IsHalf owner.0 × SpanHasText names span
AskHasText names (asks.Arrive team arriving) = IsHalf team.0 × ArrivingHasText names arriving
AskHasText names (asks.Leave team round) = IsHalf team.0 × IsLong round
AskHasText names (asks.Gather team op root kind vs) = IsHalf team.0 × IsHalf root × Each IsValueInRange vs
AskHasText names (asks.Take team round) = IsHalf team.0 × IsLong round
AskHasText names (asks.Pair images) = Each IsImageNumber images
AskHasText names (asks.Enter construct) = IsHalf construct
AskHasText names (asks.Exit construct) = IsHalf construct
AskHasText names (asks.Stop code) = IsSigned code
AskHasText names (asks.Failed team) = IsHalf team.0
AskHasText names (asks.Stopped team) = IsHalf team.0
AskHasText names (asks.Status team index) = IsHalf team.0 × IsHalf index
AskHasText names (asks.ErrorStop code) = IsSigned code
AskHasText names (asks.LimitStatements number) = IsLong number
AskHasText names (asks.LimitWords number) = IsLong number
AskHasText names (asks.LimitStamp number) = IsLong number
AskHasText names ask = Unit {0}

-- a team that was formed
pub record FormedHasText (t : FormedTeam) : Type 0 where
  pub team : IsHalf t.team.0
  pub number : IsSigned t.number
  pub members : Each IsImageNumber t.members

-- the numbers of a reply are those of its types
abbrev pub ReplyHasText : Reply → Type 0
ReplyHasText (replies.Values vs) = Each IsValueInRange vs
ReplyHasText (replies.Old value) = IsValueInRange value
ReplyHasText (replies.Number status) = IsSignedHalf status
ReplyHasText (replies.Count count) = IsLong count
ReplyHasText (replies.Round round) = IsLong round
ReplyHasText (replies.Clash image line) = IsHalf image.0 × IsHalf line
ReplyHasText (replies.Indices indices) = Each IsHalf indices
ReplyHasText (replies.Taken status vs) = IsSignedHalf status × Each IsValueInRange vs
ReplyHasText (replies.Left status teams) = IsSignedHalf status × Each FormedHasText teams
ReplyHasText reply = Unit {0}

-- an entry that a line can show
pub record HasText (names : List (List ℕ)) (e : Entry) : Type 0 where
  pub stamp : IsLong e.event.stamp
  pub image : IsHalf e.image.0
  pub line : IsHalf e.event.line
  pub ask : AskHasText names e.event.ask
  pub reply : ReplyHasText e.event.reply
  pub form : HasForm e.event.ask e.event.reply

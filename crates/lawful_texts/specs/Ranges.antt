-- Entries whose numbers are those of the code's types. What a lawful trace says of its entries besides isn't wanted
-- here: that their spans are ones of an access, that their coarrays are declared, and that their replies have a form.
use Rattle.std.specs.Prelude.{ℕ, ◌≤◌, List, length}
use Rattle.caf_base.specs.declared.span.Span.{Span}
use Rattle.caf_events.specs.declared.ask.Ask.{Ask}
use Rattle.caf_events.specs.declared.ask.Ask.TheVariants as asks
use Rattle.caf_events.specs.declared.event.Entry.{Entry}
use Rattle.trace_theory.specs.Entries.{Each}
use Rattle.trace_forms.specs.Ranges.{IsHalf, IsLong, IsValueInRange, IsDimension, AskHasText, ReplyHasText}

-- a span
pub record SpanInRange (s : Span) : Type 0 where
  pub coarray : IsHalf s.coarray
  pub start : IsHalf s.start
  pub dims : Each IsDimension s.dims

-- an ask; ALLOCATE and DEALLOCATE (9.7.1, 9.7.3) name coarrays that have names
abbrev pub AskInRange : List (List ℕ) → Ask → Type 0
AskInRange names (asks.Read owner span) = IsHalf owner.0 × SpanInRange span
AskInRange names (asks.Write owner span vs) = IsHalf owner.0 × SpanInRange span × Each IsValueInRange vs
AskInRange names (asks.Create owner coarray cells) = IsHalf owner.0 × IsHalf coarray × IsHalf cells
AskInRange names (asks.Delete owner coarray) = IsHalf owner.0 × IsHalf coarray
AskInRange names (asks.Atomic owner op span x y) =
    IsHalf owner.0 × SpanInRange span × IsValueInRange x × IsValueInRange y
AskInRange names (asks.Lock owner span) = IsHalf owner.0 × SpanInRange span
AskInRange names (asks.TryLock owner span) = IsHalf owner.0 × SpanInRange span
AskInRange names (asks.Unlock owner span) = IsHalf owner.0 × SpanInRange span
AskInRange names (asks.Post owner span) = IsHalf owner.0 × SpanInRange span
AskInRange names (asks.Wait owner span threshold) = IsHalf owner.0 × SpanInRange span × IsLong threshold
AskInRange names (asks.Query owner span) = IsHalf owner.0 × SpanInRange span
AskInRange names (asks.Free owner span) = IsHalf owner.0 × SpanInRange span
AskInRange names ask = AskHasText names ask

-- a section (ISO/IEC 1539-1:2018, 9.5.3.3) that is read or written has three dimensions at most
abbrev pub IsThreefold : Ask → Type 0
IsThreefold (asks.Read owner span) = length span.dims ≤ 3
IsThreefold (asks.Write owner span vs) = length span.dims ≤ 3
IsThreefold ask = Unit {0}

-- an entry
pub record IsInRange (names : List (List ℕ)) (e : Entry) : Type 0 where
  pub stamp : IsLong e.event.stamp
  pub image : IsHalf e.image.0
  pub line : IsHalf e.event.line
  pub ask : AskInRange names e.event.ask
  pub reply : ReplyHasText e.event.reply

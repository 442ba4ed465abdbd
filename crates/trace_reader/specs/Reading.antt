-- The parts of a line, as they are read one behind the other.
use Rattle.std.specs.Prelude.{ℕ, ◌≡◌, ◌⊎◌, true, List, ◌∷◌, ◌++◌, codes}
use Rattle.std.specs.List.{list_all}
use Rattle.caf_base.specs.declared.place.ImageNo.{ImageNo}
use Rattle.caf_base.specs.declared.place.Place.{Place}
use Rattle.caf_base.specs.declared.place.Place.TheVariants.{Memory, Board, Own}
use Rattle.caf_base.specs.declared.span.Span.{Span}
use Rattle.caf_events.specs.declared.ask.Ask.{Ask}
use Rattle.caf_events.specs.declared.ask.Ask.TheVariants as asks
use Rattle.caf_events.specs.declared.reply.Reply.{Reply}
use Rattle.trace_text.specs.TraceText.{number_text, reply_text}
use Rattle.trace_forms.specs.Ranges.{IsHalf}
use Rattle.trace_fields.specs.Cutting.{other}
use Rattle.trace_fields.specs.declared.words.LimitWord.{LimitWord}
use Rattle.trace_fields.specs.declared.words.LimitWord.TheVariants as limits
use Rattle.trace_fields.specs.declared.words.MemoryWord.{MemoryWord}
use Rattle.trace_fields.specs.declared.words.MemoryWord.TheVariants as memory

-- the text of a team: its number in the run, alone or with more behind a slash
abbrev pub ShowsTeam : ℕ → List ℕ → Type 0
ShowsTeam team text =
    (text ≡ number_text team)
    ⊎ ((more : List ℕ) × (list_all (other 32) more ≡ true) × (text ≡ number_text team ++ (47 ∷ more)))

-- each team has such a text
abbrev pub ShowTeams : (ℕ → List ℕ) → Type 0
ShowTeams of_team = (team : ℕ) → ShowsTeam team (of_team team)

-- the ask at a memory that names cells and nothing else
abbrev pub span_ask : MemoryWord → ImageNo → Span → Ask
span_ask memory.Lock owner span = asks.Lock owner span
span_ask memory.TryLock owner span = asks.TryLock owner span
span_ask memory.Unlock owner span = asks.Unlock owner span
span_ask memory.Post owner span = asks.Post owner span
span_ask memory.Query owner span = asks.Query owner span
span_ask memory.Free owner span = asks.Free owner span
span_ask word owner span = asks.Read owner span

-- the ask that says a limit, and the word of the limit in its text
abbrev pub limit_ask : LimitWord → ℕ → Ask
limit_ask limits.Statements number = asks.LimitStatements number
limit_ask limits.Words number = asks.LimitWords number
limit_ask limits.Stamp number = asks.LimitStamp number

abbrev pub limit_name : LimitWord → List ℕ
limit_name limits.Statements = codes "statements"
limit_name limits.Words = codes "words"
limit_name limits.Stamp = codes "stamp"

-- the number of an owner is one of 32 bits
abbrev pub PlaceHasText : Place → Type 0
PlaceHasText (Memory owner) = IsHalf owner.0
PlaceHasText Board = Unit {0}
PlaceHasText Own = Unit {0}

-- the end of a line behind the blank that ends its ask
abbrev pub reply_part : Reply → List ℕ
reply_part reply = codes "> " ++ reply_text reply ++ codes "\n"

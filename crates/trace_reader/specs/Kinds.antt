-- What an ask can be answered, besides a word.
use Rattle.std.specs.Prelude.{ℕ, ◌≡◌, cond, Bool, true, false, bytes_eq, List, ◌++◌, Option, None, Some}
use Rattle.std.specs.Prelude.{codes}
use Rattle.caf_text.specs.Numbers.{decimal_text}
use Rattle.caf_events.specs.declared.ask.Ask.{Ask}
use Rattle.caf_events.specs.declared.ask.Ask.TheVariants as asks
use Rattle.caf_events.specs.declared.reply.Reply.{Reply}
use Rattle.caf_events.specs.declared.reply.Reply.TheVariants as replies
use Rattle.caf_events.specs.declared.reply.FormedTeam.{FormedTeam}
use Rattle.trace_text.specs.TraceText.{joined, number_text, image_text}
use Rattle.trace_forms.specs.Replies.{ComeWith}
use Rattle.trace_reader.specs.declared.reply.ReplyKind.{ReplyKind}
use Rattle.trace_reader.specs.declared.reply.ReplyKind.TheVariants as kinds

-- the kind of what an ask is answered, besides a word
abbrev pub kind_of : Ask → ReplyKind
kind_of (asks.Read owner span) = kinds.Values
kind_of (asks.Atomic owner op span x y) = kinds.Old
kind_of (asks.Lock owner span) = kinds.Number
kind_of (asks.TryLock owner span) = kinds.Number
kind_of (asks.Unlock owner span) = kinds.Number
kind_of (asks.Post owner span) = kinds.Number
kind_of (asks.Wait owner span threshold) = kinds.Number
kind_of (asks.Query owner span) = kinds.Count
kind_of (asks.Arrive team arriving) = kinds.Round
kind_of (asks.Leave team round) = kinds.Left
kind_of (asks.Gather team op root kind vs) = kinds.Round
kind_of (asks.Take team round) = kinds.Taken
kind_of asks.Unpair = kinds.Number
kind_of (asks.Enter construct) = kinds.Number
kind_of (asks.Failed team) = kinds.Indices
kind_of (asks.Stopped team) = kinds.Indices
kind_of (asks.Status team index) = kinds.Number
kind_of ask = kinds.Word

-- the reply is of this kind, and no word
abbrev pub is_of_kind : ReplyKind → Reply → Bool
is_of_kind kinds.Values (replies.Values vs) = true
is_of_kind kinds.Old (replies.Old value) = true
is_of_kind kinds.Number (replies.Number status) = true
is_of_kind kinds.Count (replies.Count count) = true
is_of_kind kinds.Round (replies.Round round) = true
is_of_kind kinds.Round (replies.Clash image line) = true
is_of_kind kinds.Indices (replies.Indices indices) = true
is_of_kind kinds.Taken (replies.Taken status vs) = true
is_of_kind kinds.Left (replies.Left status teams) = true
is_of_kind kind reply = false

-- and a line can show its values
abbrev pub IsOfKind : ReplyKind → Reply → Type 0
IsOfKind kinds.Taken (replies.Taken status vs) = ComeWith status vs
IsOfKind kind reply = is_of_kind kind reply ≡ true

-- the reply that a word is
abbrev pub word_by : List ℕ → Option Reply
word_by word =
    cond (bytes_eq word (codes "ok")) (Some replies.Done) (
    cond (bytes_eq word (codes "dead")) (Some replies.Dead) (
    cond (bytes_eq word (codes "absent")) (Some replies.Absent) (
    cond (bytes_eq word (codes "overflow")) (Some replies.Overflow) (
    cond (bytes_eq word (codes "busy")) (Some replies.Busy) None))))

-- a team that was formed without the blank before it: its number in the run, its team number and its members
abbrev pub formed_text : FormedTeam → List ℕ
formed_text t =
    number_text t.team.0 ++ codes "/" ++ decimal_text t.number ++ codes ":" ++ joined (codes ".") image_text t.members

-- Which replies the line of an ask can show: the forms that answer it, each with the statuses that it can have.
use Rattle.std.specs.Prelude.{◌≡◌, ℤ, pos, zero, IsTrue, List, [], ◌∷◌}
use Rattle.std.specs.List.{list_any}
use Rattle.std.specs.Ordering.{int_eq}
use Rattle.caf_base.specs.declared.value.Value.{Value}
use Rattle.caf_events.specs.declared.ask.Ask.{Ask}
use Rattle.caf_events.specs.declared.ask.Ask.TheVariants as asks
use Rattle.caf_events.specs.declared.reply.Reply.{Reply}
use Rattle.caf_events.specs.declared.reply.Reply.TheVariants as replies
use Rattle.caf_events.specs.Answers.{Answers}

-- the statuses in the replies to an ask (ISO/IEC 1539-1:2018, 11.6.11, 16.10.2): success, STAT_STOPPED_IMAGE 6000,
-- STAT_FAILED_IMAGE 6001, STAT_LOCKED 6002, STAT_LOCKED_OTHER_IMAGE 6003, STAT_UNLOCKED 6004,
-- STAT_UNLOCKED_FAILED_IMAGE 6005, and 6006 for an argument that isn't allowed
abbrev pub statuses_of : Ask → List ℤ
statuses_of (asks.Lock owner span) = pos 0 ∷ pos 6001 ∷ pos 6002 ∷ pos 6003 ∷ []
statuses_of (asks.TryLock owner span) = pos 0 ∷ pos 6001 ∷ pos 6002 ∷ pos 6003 ∷ []
statuses_of (asks.Unlock owner span) = pos 0 ∷ pos 6001 ∷ pos 6004 ∷ pos 6005 ∷ []
statuses_of (asks.Post owner span) = pos 0 ∷ pos 6001 ∷ []
statuses_of (asks.Wait owner span threshold) = pos 0 ∷ []
statuses_of (asks.Leave team round) = pos 0 ∷ pos 6000 ∷ pos 6001 ∷ pos 6006 ∷ []
statuses_of (asks.Take team round) = pos 0 ∷ pos 6000 ∷ pos 6001 ∷ pos 6006 ∷ []
statuses_of asks.Unpair = pos 0 ∷ pos 6000 ∷ pos 6001 ∷ []
statuses_of (asks.Enter construct) = pos 0 ∷ pos 6001 ∷ []
statuses_of (asks.Status team index) = pos 0 ∷ pos 6000 ∷ pos 6001 ∷ []
statuses_of ask = []

-- the status is one of the ask's
abbrev pub IsStatusOf : Ask → ℤ → Type 0
IsStatusOf ask status = IsTrue (list_any (int_eq status) (statuses_of ask))

-- values of a collective come with status 0 alone
abbrev pub ComeWith : ℤ → List Value → Type 0
ComeWith (pos zero) vs = Unit {0}
ComeWith status vs = vs ≡ []

-- the status in the reply, where it has one, is one of the ask's, and values of a collective come with 0 alone
abbrev pub HasStatusOf : Ask → Reply → Type 0
HasStatusOf ask (replies.Number status) = IsStatusOf ask status
HasStatusOf ask (replies.Taken status vs) = IsStatusOf ask status × ComeWith status vs
HasStatusOf ask (replies.Left status teams) = IsStatusOf ask status
HasStatusOf ask reply = Unit {0}

-- the reply has one of the forms that the line of the ask can show
pub record HasForm (ask : Ask) (reply : Reply) : Type 0 where
  pub answers : Answers ask reply
  pub status : HasStatusOf ask reply

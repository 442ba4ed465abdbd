-- Which steps at the control board are told to be inert: by what the board knows after them.
use Rattle.std.specs.Prelude.{ℕ, Bool, false, not, ◌||◌, List}
use Rattle.caf_events.specs.declared.ask.Ask.{Ask}
use Rattle.caf_events.specs.declared.ask.Ask.TheVariants as asks
use Rattle.caf_events.specs.declared.reply.Reply.{Reply}
use Rattle.caf_events.specs.declared.reply.Reply.TheVariants as replies
use Rattle.caf_events.specs.declared.event.Entry.{Entry}
use Rattle.object_rules.specs.BoardRules.{board_ready}
use Rattle.inert_laws.specs.Silent.{is_silent}

-- after the arrival the image can't leave its round yet
abbrev pub waits : ℕ → List Entry → ℕ → ℕ → Ask → Bool
waits n h i round (asks.Arrive team arriving) = not (board_ready n h i (asks.Leave team round))
waits n h i round (asks.Gather team op root kind values) = not (board_ready n h i (asks.Take team round))
waits n h i round ask = false

-- it joined a round and left it open
abbrev pub leaves_open : ℕ → List Entry → ℕ → Ask → Reply → Bool
leaves_open n h i ask (replies.Round round) = waits n h i round ask
leaves_open n h i ask reply = false

-- the last step of the history, of image i by this ask with this reply
abbrev pub is_inert_step : ℕ → List Entry → ℕ → Ask → Reply → Bool
is_inert_step n h i ask reply = is_silent ask || leaves_open n h i ask reply

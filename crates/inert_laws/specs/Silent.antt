-- Asks at the control board by which nothing happens there: they are told what has happened.
use Rattle.std.specs.Prelude.{Bool, true, false}
use Rattle.caf_events.specs.declared.ask.Ask.{Ask}
use Rattle.caf_events.specs.declared.ask.Ask.TheVariants as asks

-- a departure from a round, a collective subroutine or SYNC IMAGES, or FAILED_IMAGES, STOPPED_IMAGES or IMAGE_STATUS
-- (ISO/IEC 1539-1:2018, 11.6, 16.6, 16.9): it is no arrival, no end of its image, and changes no construct
abbrev pub is_silent : Ask → Bool
is_silent (asks.Leave team round) = true
is_silent (asks.Take team round) = true
is_silent asks.Unpair = true
is_silent (asks.Failed team) = true
is_silent (asks.Stopped team) = true
is_silent (asks.Status team index) = true
is_silent ask = false

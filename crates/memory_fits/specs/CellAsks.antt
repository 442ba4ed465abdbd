-- Which asks name one cell of a lock, an event or an atom (ISO/IEC 1539-1:2018, 11.6.7, 11.6.8, 11.6.10, 16.5, 16.9.72).
use Rattle.std.specs.Prelude.{Bool, true, false}
use Rattle.caf_events.specs.declared.ask.Ask.{Ask}
use Rattle.caf_events.specs.declared.ask.Ask.TheVariants as asks

-- LOCK, UNLOCK, EVENT POST and the atomic subroutines, at whichever image
abbrev pub is_of_cell : Ask → Bool
is_of_cell (asks.Lock owner span) = true
is_of_cell (asks.TryLock owner span) = true
is_of_cell (asks.Unlock owner span) = true
is_of_cell (asks.Post owner span) = true
is_of_cell (asks.Atomic owner op span x y) = true
is_of_cell ask = false

-- EVENT WAIT and EVENT_QUERY, of this image's event
abbrev pub is_of_own_event : Ask → Bool
is_of_own_event (asks.Wait owner span threshold) = true
is_of_own_event (asks.Query owner span) = true
is_of_own_event ask = false

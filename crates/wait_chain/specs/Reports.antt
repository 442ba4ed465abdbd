-- The waits that a report shows, as those of a chain.
use Rattle.std.specs.Prelude.{List, map}
use Rattle.caf_report.specs.declared.report.Waiting.{Waiting}
use Rattle.wait_reason.specs.Chains.{Wait}

-- the image that waits, with its ask
abbrev pub as_wait : Waiting → Wait
as_wait w = record { image = w.image.0; ask = w.ask }

abbrev pub as_waits : List Waiting → List Wait
as_waits ws = map as_wait ws

-- What one step is to rounds and to SYNC IMAGES, and how often an image has made such steps (ISO/IEC 1539-1:2018,
-- 11.6.3, 11.6.4, 16.6).
use Rattle.std.specs.Prelude.{ℕ, Bool, true, false, ◌&&◌, not, nat_eq, nat_le, cond, List}
use Rattle.caf_events.specs.declared.ask.Ask.{Ask}
use Rattle.caf_events.specs.declared.ask.Ask.TheVariants as asks
use Rattle.caf_events.specs.declared.reply.Reply.{Reply}
use Rattle.caf_events.specs.declared.reply.Reply.TheVariants as replies
use Rattle.caf_events.specs.declared.event.Entry.{Entry}
use Rattle.object_rules.specs.Happenings.{control, collective, images, happened, numbers_of, has_ended}
use Rattle.object_rules.specs.TeamRounds.{arrivals}
use Rattle.object_rules.specs.ImagePairs.{names, naming, has_partner}
use Rattle.wait_chain.specs.declared.counts.Step.{Step}
use Rattle.wait_chain.specs.declared.counts.Step.TheVariants as steps
use Rattle.wait_chain.specs.declared.lacking.Due.{Due}
use Rattle.wait_chain.specs.declared.lacking.Due.TheVariants as dues

-- the reply of an arrival says that it joined a round
abbrev pub is_round : Reply → Bool
is_round (replies.Round round) = true
is_round reply = false

-- an arrival that joins a round of the team: by an image control statement, or by a collective subroutine
abbrev pub joins : ℕ → Ask → Reply → Bool
joins team (asks.Arrive t arriving) reply = is_round reply && nat_eq t.0 team
joins team ask reply = false

abbrev pub gathers : ℕ → Ask → Reply → Bool
gathers team (asks.Gather t op root kind values) reply = is_round reply && nat_eq t.0 team
gathers team ask reply = false

-- the beginning of a SYNC IMAGES that names the image
abbrev pub is_naming : ℕ → Ask → Bool
is_naming j (asks.Pair named) = names j (numbers_of named)
is_naming j ask = false

-- the images that image i named last, after this ask of image j
abbrev pub named_by : ℕ → ℕ → Ask → List ℕ → List ℕ
named_by i j (asks.Pair named) js = cond (nat_eq j i) (numbers_of named) js
named_by i j ask js = js

-- an ask by which its image initiates normal termination, and one by which it has done so or has failed
abbrev pub is_stop : Ask → Bool
is_stop (asks.Stop code) = true
is_stop ask = false

abbrev pub is_end : Ask → Bool
is_end (asks.Stop code) = true
is_end asks.Gone = true
is_end ask = false

-- the entry is such a step
abbrev pub is_step : Step → Entry → Bool
is_step (steps.Joins team image) e = joins team e.event.ask e.event.reply && nat_eq e.image.0 image
is_step (steps.Gathers team image) e = gathers team e.event.ask e.event.reply && nat_eq e.image.0 image
is_step (steps.Names image other) e = nat_eq e.image.0 image && is_naming other e.event.ask

-- how many such steps there are
abbrev pub tally : Step → List Entry → ℕ
tally (steps.Joins team image) g = arrivals team image (happened control g)
tally (steps.Gathers team image) g = arrivals team image (happened collective g)
tally (steps.Names image other) g = naming image other (happened images g)

-- image j has arrived in the round, or has begun the SYNC IMAGES that corresponds to the last one of the image
abbrev pub has_come : Due → List Entry → ℕ → Bool
has_come (dues.Arrival team round) g j = nat_le round (arrivals team j (happened control g))
has_come (dues.Gathering team round) g j = nat_le round (arrivals team j (happened collective g))
has_come (dues.Partner image) g j = has_partner image (happened images g) j

-- image j is one of these, hasn't come, and has neither stopped nor failed
abbrev pub lacks : Due → List ℕ → List Entry → ℕ → Bool
lacks due js g j = names j js && not (has_come due g j) && not (has_ended j (happened control g))

-- image i has neither stopped nor failed
abbrev pub is_left : List Entry → ℕ → Bool
is_left g i = not (has_ended i (happened control g))

-- What one step is to the close of rounds and of SYNC IMAGES, and how often an image has made such steps (ISO/IEC
-- 1539-1:2018, 11.6.3, 11.6.4).
use Rattle.std.specs.Prelude.{ℕ, Bool, true, false, ◌&&◌, ◌||◌, not, nat_eq, nat_le, cond, List}
use Rattle.caf_events.specs.declared.ask.Ask.{Ask}
use Rattle.caf_events.specs.declared.ask.Ask.TheVariants as asks
use Rattle.caf_events.specs.declared.reply.Reply.{Reply}
use Rattle.caf_events.specs.declared.reply.Reply.TheVariants as replies
use Rattle.caf_events.specs.declared.event.Entry.{Entry}
use Rattle.object_rules.specs.Happenings.{images, happened, numbers_of}
use Rattle.object_rules.specs.ImagePairs.{names, pairs_of, naming}
use Rattle.order_axioms.specs.Closes.{is_gone, is_over, joined_by, round_closed, pair_closed}
use Rattle.race_search.specs.declared.steps.Step.{Step}
use Rattle.race_search.specs.declared.steps.Step.TheVariants as steps
use Rattle.race_search.specs.declared.closes.Close.{Close}
use Rattle.race_search.specs.declared.closes.Close.TheVariants as closes

-- the reply of an arrival says that it joined a round
abbrev pub is_round : Reply → Bool
is_round (replies.Round round) = true
is_round reply = false

-- an arrival that joins a round of the team
abbrev pub joins : ℕ → Ask → Reply → Bool
joins team (asks.Arrive t arriving) reply = is_round reply && nat_eq t.0 team
joins team ask reply = false

-- the beginning of SYNC IMAGES, and of one that names the image
abbrev pub is_pairing : Ask → Bool
is_pairing (asks.Pair named) = true
is_pairing ask = false

abbrev pub is_naming : ℕ → Ask → Bool
is_naming j (asks.Pair named) = names j (numbers_of named)
is_naming j ask = false

-- the images that image i named last, after this ask of image j
abbrev pub named_by : ℕ → ℕ → Ask → List ℕ → List ℕ
named_by i j (asks.Pair named) js = cond (nat_eq j i) (numbers_of named) js
named_by i j ask js = js

-- an ask by which its image has stopped, or is gone
abbrev pub is_end : Ask → Bool
is_end (asks.Stop code) = true
is_end asks.Gone = true
is_end ask = false

-- the entry is such a step
abbrev pub is_step : Step → Entry → Bool
is_step (steps.Joins team image) e = joins team e.event.ask e.event.reply && nat_eq e.image.0 image
is_step (steps.Pairs image) e = is_pairing e.event.ask && nat_eq e.image.0 image
is_step (steps.Names image other) e = nat_eq e.image.0 image && is_naming other e.event.ask

-- how many such steps there are
abbrev pub tally : Step → List Entry → ℕ
tally (steps.Joins team image) g = joined_by team image g
tally (steps.Pairs image) g = pairs_of image (happened images g)
tally (steps.Names image other) g = naming image other (happened images g)

-- a round, or the last SYNC IMAGES of an image after the entries g, has closed by these entries
abbrev pub closed_by : ℕ → List Entry → Close → List Entry → Bool
closed_by n g (closes.Round team round) = round_closed n team round
closed_by n g (closes.Pairing image) = pair_closed g image

-- by the entries b the other image has named this one so often as this one has named it by the entries g, is gone or
-- has stopped
abbrev pub has_met : ℕ → List Entry → List Entry → ℕ → Bool
has_met i g b j = nat_le (naming i j (happened images g)) (naming j i (happened images b)) || is_over j b

-- the entry's image is gone by it, and this had not closed by the entries b
abbrev pub is_missed : ℕ → List Entry → Close → List Entry → Entry → Bool
is_missed n g close b e = is_gone e.event.ask && not (closed_by n g close b)

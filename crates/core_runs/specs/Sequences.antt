-- The order of the asks of one image: an arrival and its departure (ISO/IEC 1539-1:2018, 11.6.3, 11.6.4, 11.6.9), and
-- the end (5.3.6, 5.3.7).
use Rattle.std.specs.Prelude.{◌≡◌, ◌⊎◌, List, [], ◌∷◌, ◌++◌, Option, Some, None}
use Rattle.trace_theory.specs.Entries.{Each}
use Rattle.trace_theory.specs.Machines.{Move, Said, Walk, WalkTo}
use Rattle.trace_theory.specs.Simulations.{AllAnswer}
use Rattle.caf_events.specs.declared.ask.Ask.{Ask}
use Rattle.caf_events.specs.declared.ask.Ask.TheVariants as asks
use Rattle.caf_events.specs.declared.reply.Reply.{Reply}
use Rattle.caf_events.specs.declared.reply.Reply.TheVariants as replies
use Rattle.caf_events.specs.Answers.{Answers}
use Rattle.caf_events.specs.Events.{EndsImage}
use Rattle.caf_events.specs.Walkers.{IsOver}

-- the departure that is asked next after an arrival: from the round that it joined, or from the images of its SYNC
-- IMAGES
abbrev pub departure_after : Ask → Reply → Option Ask
departure_after (asks.Arrive team arriving) (replies.Round round) = Some (asks.Leave team round)
departure_after (asks.Gather team op root kind values) (replies.Round round) = Some (asks.Take team round)
departure_after (asks.Pair images) reply = Some asks.Unpair
departure_after ask reply = None

-- the ask is a departure
abbrev pub IsDeparture : Ask → Type 0
IsDeparture (asks.Leave team round) = Unit {0}
IsDeparture (asks.Take team round) = Unit {0}
IsDeparture asks.Unpair = Unit {0}
IsDeparture ask = ⊥

-- the ask begins a failure, or is a limit: these may come in place of any other
abbrev pub CutsShort : Ask → Type 0
CutsShort asks.Fail = Unit {0}
CutsShort (asks.LimitStatements number) = Unit {0}
CutsShort (asks.LimitWords number) = Unit {0}
CutsShort (asks.LimitStamp number) = Unit {0}
CutsShort ask = ⊥

-- the ask is a limit of stamps
abbrev pub IsStampLimit : Ask → Type 0
IsStampLimit (asks.LimitStamp number) = Unit {0}
IsStampLimit ask = ⊥

-- after an arrival its departure is asked or the image is cut short, and no departure is asked elsewhere
abbrev pub FollowsOn : Option Ask → Ask → Type 0
FollowsOn None ask = IsDeparture ask → ⊥
FollowsOn (Some departure) ask = (ask ≡ departure) ⊎ CutsShort ask

-- behind what is owed, each arrival is directly followed by its departure, and a departure stands nowhere else
abbrev pub JoinsBehind : Option Ask → List (Said Ask Reply) → Type 0
JoinsBehind owed [] = Unit {0}
JoinsBehind owed (e ∷ es) = FollowsOn owed e.ask × JoinsBehind (departure_after e.ask e.reply) es

abbrev pub Joins : List (Said Ask Reply) → Type 0
Joins es = JoinsBehind None es

-- nothing follows the step that ends the image
abbrev pub NothingAfterEnd : List (Said Ask Reply) → Type 0
NothingAfterEnd es = (before after : List (Said Ask Reply)) (e : Said Ask Reply) → es ≡ before ++ e ∷ after → EndsImage e.ask e.reply → after ≡ []

-- the last step ended the image
abbrev pub HasEndedBy : List (Said Ask Reply) → Type 0
HasEndedBy es = (before : List (Said Ask Reply)) × (e : Said Ask Reply) × (es ≡ before ++ e ∷ []) × EndsImage e.ask e.reply

-- what every walk from here on has in common, whatever the replies are that answer its asks; a limit of stamps isn't a
-- program's own to ask
pub record IsOrderly {C : Type 0} (step : C → Move C Ask Reply) (first : C) : Type 0 where
  pub joins : (es : List (Said Ask Reply)) (c : C) → AllAnswer Answers es → Walk step first es c → Joins es
  pub nothing_after : (es : List (Said Ask Reply)) (c : C) → AllAnswer Answers es → Walk step first es c → NothingAfterEnd es
  pub no_stamp_limit : (es : List (Said Ask Reply)) (c : C) → AllAnswer Answers es → Walk step first es c → Each (λ e. IsStampLimit e.ask → ⊥) es

-- What is wanted of a machine's ends, apart from that: from here on it is over only behind a step that ended the image,
-- whatever the replies are that answer. A run is one without this: it is asked where images that are over are said to
-- have ended.
abbrev pub EndsByItself : {C : Type 0} → (C → Move C Ask Reply) → C → Type 0
EndsByItself {C} step first = (es : List (Said Ask Reply)) (c : C) → AllAnswer Answers es → WalkTo step first es c → IsOver (step c) → HasEndedBy es

-- What the program of an image may ask next (ISO/IEC 1539-1:2018, 5.3.6, 5.3.7, 11.6).
use Rattle.std.specs.Prelude.{Bool, true, false, cond, List, [], ◌∷◌, Option, None}
use Rattle.trace_theory.specs.Machines.{Move, Said, Walk}
use Rattle.trace_theory.specs.Simulations.{AllAnswer}
use Rattle.caf_events.specs.declared.ask.Ask.{Ask}
use Rattle.caf_events.specs.declared.ask.Ask.TheVariants as asks
use Rattle.caf_events.specs.declared.reply.Reply.{Reply}
use Rattle.caf_events.specs.declared.reply.Reply.TheVariants as replies
use Rattle.caf_events.specs.Answers.{Answers}
use Rattle.core_runs.specs.Sequences.{departure_after, FollowsOn}

-- nothing more, or what an image may ask that owes this departure or none
pub data Due : Type 0 where
  ended : Due
  owing : Option Ask → Due

-- an arrival that clashed
abbrev pub is_clash : Reply → Bool
is_clash (replies.Clash image line) = true
is_clash reply = false

-- the program's last step: it ends the image, or begins its failure
abbrev pub is_last : Ask → Reply → Bool
is_last (asks.Stop code) reply = true
is_last (asks.ErrorStop code) reply = true
is_last (asks.Fault kind) reply = true
is_last (asks.LimitStatements number) reply = true
is_last (asks.LimitWords number) reply = true
is_last (asks.LimitStamp number) reply = true
is_last asks.Fail reply = true
is_last asks.Gone reply = true
is_last (asks.Arrive team arriving) reply = is_clash reply
is_last (asks.Gather team op root kind values) reply = is_clash reply
is_last ask reply = false

abbrev pub due_after : Ask → Reply → Due
due_after ask reply = cond (is_last ask reply) ended (owing (departure_after ask reply))

-- A program asks for no step of a failure but the first one, and for no limit but that of statements: the others are
-- its lane's.
abbrev pub IsOfProgram : Ask → Type 0
IsOfProgram (asks.Mark owner) = ⊥
IsOfProgram (asks.Free owner span) = ⊥
IsOfProgram asks.Gone = ⊥
IsOfProgram (asks.LimitWords number) = ⊥
IsOfProgram (asks.LimitStamp number) = ⊥
IsOfProgram ask = Unit {0}

-- after an arrival its departure comes, and a departure comes nowhere else
abbrev pub MayCome : Due → Ask → Type 0
MayCome ended ask = ⊥
MayCome (owing departure) ask = FollowsOn departure ask × IsOfProgram ask

-- what is said and heard from here on may come, one after the other
abbrev pub InOrder : Due → List (Said Ask Reply) → Type 0
InOrder due [] = Unit {0}
InOrder due (e ∷ es) = MayCome due e.ask × InOrder (due_after e.ask e.reply) es

-- what is due behind a list
abbrev pub due_behind : Due → List (Said Ask Reply) → Due
due_behind due [] = due
due_behind due (e ∷ es) = due_behind (due_after e.ask e.reply) es

-- so it is in every walk of a program from here on, whatever the replies are that answer its asks
abbrev pub GoesInOrder : {C : Type 0} → (C → Move C Ask Reply) → C → Type 0
GoesInOrder {C} step first = (es : List (Said Ask Reply)) (c : C) → AllAnswer Answers es → Walk step first es c → InOrder (owing None) es

-- Lines of traces, written by hand and computed.
use Rattle.std.proofs.Common.{◌≡◌, ℕ, List, [], ◌∷◌, codes, refl}
use Rattle.std.specs.Prelude.{ℤ, pos, negsuc, true, false}
use Rattle.std.specs.Fmt.{digits}
use Rattle.caf_base.specs.declared.span.Span.{Span}
use Rattle.caf_base.specs.declared.value.AtomicOp.TheVariants as operations
use Rattle.caf_base.specs.declared.value.Kind.TheVariants as kinds
use Rattle.caf_base.specs.declared.value.Value.TheVariants as values
use Rattle.caf_events.specs.declared.ask.Ask.{Ask}
use Rattle.caf_events.specs.declared.ask.Ask.TheVariants as asks
use Rattle.caf_events.specs.declared.reply.Reply.{Reply}
use Rattle.caf_events.specs.declared.reply.Reply.TheVariants as replies
use Rattle.caf_events.specs.declared.reply.FormedTeam.{FormedTeam}
use Rattle.caf_events.specs.declared.round.Arriving.TheVariants as arrivings
use Rattle.caf_events.specs.declared.round.GatherOp.TheVariants as gathers
use Rattle.caf_events.specs.declared.event.Entry.{Entry}
use Rattle.caf_events.specs.declared.fault.FaultKind.TheVariants as faults
use Rattle.trace_text.specs.TraceText.{ask_text, reply_text}
use Rattle.trace_text.specs.Forms.{Form, First, Second, asked_team, trace_text}

abbrev names : List (List ℕ)
names = codes "x" ∷ codes "field" ∷ []

abbrev cell : ℕ → ℕ → Span
cell coarray start = record { coarray = coarray; start = start; dims = [] }

abbrev step : ℕ → ℕ → ℕ → Ask → Reply → Entry
step stamp image at ask reply = record { image = record { 0 = image }; event = record { ask = ask; reply = reply; stamp = stamp; line = at } }

abbrev line : ℕ → ℕ → ℕ → Ask → Reply → List ℕ
line stamp image at ask reply = trace_text names (step stamp image at ask reply ∷ [])

-- an ask behind these entries
abbrev asked : Form → List Entry → Ask → List ℕ
asked form before ask = ask_text (asked_team form before) names ask

a_write : line 1 2 2 (asks.Write (record { 0 = 2 }) (cell 0 0) (values.Int (pos 1) ∷ [])) replies.Done ≡ codes "1 2 2 m2 write x:0 1 > ok\n"
unfolding digits
a_write = refl

a_stop : line 3 2 4 (asks.Stop (pos 0)) replies.Done ≡ codes "3 2 4 board stop 0 > ok\n"
unfolding digits
a_stop = refl

-- the first and the third row of the second column of an array of 3 rows
a_section : line 7 1 9 (asks.Read (record { 0 = 3 }) (record { coarray = 1; start = 3; dims = (2, pos 2) ∷ [] })) (replies.Values (values.Int (pos 5) ∷ values.Int (negsuc 6) ∷ [])) ≡ codes "7 1 9 m3 read field:3:2*2 > 5,-7\n"
unfolding digits
a_section = refl

logicals : reply_text (replies.Values (values.Bool true ∷ values.Bool false ∷ [])) ≡ codes "T,F"
logicals = refl

an_atomic : asked Second [] (asks.Atomic (record { 0 = 1 }) operations.Cas (cell 0 4) (values.Int (pos 0)) (values.Int (pos 8))) ≡ codes "atomic cas x:4 0 8"
unfolding digits
an_atomic = refl

an_allocation : asked Second [] (asks.Arrive (record { 0 = 1 }) (arrivings.Allocate (
    record { coarray = 0; dims = []; codims = []; last = pos 1 }
    ∷ record { coarray = 1; dims = (pos 1, pos 4) ∷ (pos 0, pos 2) ∷ []; codims = (pos 0, pos 1) ∷ []; last = pos 3 } ∷ [])))
    ≡ codes "arrive 1/-1 allocate x[1:*] field(1:4,0:2)[0:1,3:*]"
unfolding digits
an_allocation = refl

a_deallocation : asked Second [] (asks.Arrive (record { 0 = 2 }) (arrivings.Deallocate (1 ∷ 0 ∷ []))) ≡ codes "arrive 2/ deallocate field x"
unfolding digits
a_deallocation = refl

teams : reply_text (replies.Left (pos 0) (record { team = record { 0 = 2 }; number = pos 7; members = record { 0 = 1 } ∷ record { 0 = 3 } ∷ [] } ∷ [])) ≡ codes "0 teams 2/7:1.3"
unfolding digits
teams = refl

no_teams : reply_text (replies.Left (pos 6000) []) ≡ codes "6000"
unfolding digits
no_teams = refl

a_collective : asked Second [] (asks.Gather (record { 0 = 1 }) gathers.Sum 0 kinds.I4 (values.Int (pos 3) ∷ [])) ≡ codes "gather 1/-1 sum 0 I4 3"
unfolding digits
a_collective = refl

taken : reply_text (replies.Taken (pos 0) (values.Int (pos 6) ∷ [])) ≡ codes "0 6"
unfolding digits
taken = refl

taken_by_none : reply_text (replies.Taken (pos 6001) (values.Int (pos 6) ∷ [])) ≡ codes "6001"
unfolding digits
taken_by_none = refl

no_images : asked Second [] (asks.Pair []) ≡ codes "pair "
unfolding digits
no_images = refl

none_failed : reply_text (replies.Indices []) ≡ codes "-"
none_failed = refl

a_print : asked Second [] (asks.Print (97 ∷ 10 ∷ 92 ∷ [])) ≡ codes "print a\\n\\\\"
a_print = refl

a_clash : reply_text (replies.Clash (record { 0 = 2 }) 5) ≡ codes "clash 2 5"
unfolding digits
a_clash = refl

a_fault : line 4 1 3 (asks.Fault faults.CoBounds) replies.Done ≡ codes "4 1 3 own fault CoBounds > ok\n"
unfolding digits
a_fault = refl

a_limit : asked Second [] (asks.LimitStatements 11) ≡ codes "limit statements 11"
unfolding digits
a_limit = refl

-- ---- team numbers
-- an image leaves the round of a FORM TEAM, in which the team 2 has this team number
abbrev formed : ℕ → ℤ → Entry
formed image number =
    let team : FormedTeam = record { team = record { 0 = 2 }; number = number; members = record { 0 = image } ∷ [] } in
    step 4 image 3 (asks.Leave (record { 0 = 1 }) 1) (replies.Left (pos 0) (team ∷ []))

-- an image takes what a collective subroutine of the team 2 gives
abbrev takes : Ask
takes = asks.Take (record { 0 = 2 }) 2

-- the initial team has the team number -1
the_initial_team : asked Second [] (asks.Leave (record { 0 = 1 }) 1) ≡ codes "leave 1/-1 1"
unfolding digits
the_initial_team = refl

-- a team has the number of the reply that made it, and without one none
a_formed_team : asked Second (formed 1 (pos 7) ∷ []) takes ≡ codes "take 2/7 2"
unfolding digits
a_formed_team = refl

a_team_without_a_number : asked Second [] takes ≡ codes "take 2/ 2"
unfolding digits
a_team_without_a_number = refl

-- the first reply that gives one holds
the_first_number : asked Second (formed 1 (pos 7) ∷ formed 2 (pos 8) ∷ []) takes ≡ codes "take 2/7 2"
unfolding digits
the_first_number = refl

-- in the first form no team has one
the_first_form : asked First (formed 1 (pos 7) ∷ []) takes ≡ codes "take 2 2"
unfolding digits
the_first_form = refl

-- the lines behind each other: the reply of the first gives the number that the second has
two_lines : trace_text names (formed 1 (pos 7) ∷ step 6 1 4 (asks.Failed (record { 0 = 2 })) (replies.Indices []) ∷ [])
    ≡ codes "4 1 3 board leave 1/-1 1 > 0 teams 2/7:1\n6 1 4 board failed 2/7 > -\n"
unfolding digits
two_lines = refl

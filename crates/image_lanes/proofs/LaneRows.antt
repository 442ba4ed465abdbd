-- Small lanes, worked by hand and computed.
use Rattle.std.proofs.Common.{◌≡◌, ℕ, List, [], ◌∷◌, refl}
use Rattle.std.specs.Prelude.{pos}
use Rattle.caf_events.specs.declared.ask.Ask.{Ask}
use Rattle.caf_events.specs.declared.ask.Ask.TheVariants as asking
use Rattle.caf_events.specs.declared.reply.Reply.{Reply}
use Rattle.caf_events.specs.declared.reply.Reply.TheVariants as replies
use Rattle.trace_theory.specs.Machines.{Move, goes, asks, over}
use Rattle.image_lanes.specs.Lanes.{OnLane, lane_step, lane_start}

-- a program is the list of its asks, each at its line
record Line : Type 0 where
  ask : Ask
  line : ℕ

abbrev at : ℕ → Ask → Line
at l a = record { ask = a; line = l }

abbrev step : List Line → Move (List Line) Ask Reply
step [] = over
step (x ∷ xs) = asks x.ask x.line (λ r. xs)

-- what the lane asks when it hears these replies, and its next ask after them
abbrev said_on : Move (OnLane (List Line)) Ask Reply → List Reply → List Line
said_on (goes l) rs = []
said_on over rs = []
said_on (asks a line k) [] = at line a ∷ []
said_on (asks a line k) (r ∷ rs) = at line a ∷ said_on (lane_step step (k r)) rs

-- the asks of image 2, with a limit of 20 words
abbrev lane : ℕ → List Line → List Reply → List Line
lane fails_at program rs = said_on (lane_step step (lane_start 2 fails_at 20 program)) rs

abbrev lock_1 : Ask
lock_1 = asking.Lock (record { 0 = 1 }) (record { coarray = 3; start = 0; dims = [] })

abbrev lock_2 : Ask
lock_2 = asking.Lock (record { 0 = 2 }) (record { coarray = 3; start = 0; dims = [] })

abbrev unlock_1 : Ask
unlock_1 = asking.Unlock (record { 0 = 1 }) (record { coarray = 3; start = 0; dims = [] })

abbrev free_1 : Ask
free_1 = asking.Free (record { 0 = 1 }) (record { coarray = 3; start = 0; dims = [] })

abbrev free_2 : Ask
free_2 = asking.Free (record { 0 = 2 }) (record { coarray = 3; start = 0; dims = [] })

abbrev mark : Ask
mark = asking.Mark (record { 0 = 2 })

abbrev ok : Reply
ok = replies.Number (pos 0)

-- FAIL IMAGE at line 7: the locks in the order in which they were got last, all at its line
by_statement : lane 0 (at 5 lock_1 ∷ at 6 lock_2 ∷ at 6 unlock_1 ∷ at 6 lock_1 ∷ at 7 asking.Fail ∷ []) (ok ∷ ok ∷ ok ∷ replies.Number (pos 6002) ∷ replies.Done ∷ replies.Done ∷ replies.Done ∷ replies.Done ∷ replies.Done ∷ [])
    ≡ at 5 lock_1 ∷ at 6 lock_2 ∷ at 6 unlock_1 ∷ at 6 lock_1 ∷ at 7 asking.Fail ∷ at 7 mark ∷ at 7 free_2 ∷ at 7 free_1 ∷ at 7 asking.Gone ∷ []
by_statement = refl

-- the list lets it fail in place of its second event, at line 0; a LOCK that got nothing is not held
by_list : lane 2 (at 5 lock_1 ∷ at 7 asking.Fail ∷ []) (replies.Number (pos 6003) ∷ replies.Done ∷ replies.Done ∷ replies.Done ∷ [])
    ≡ at 5 lock_1 ∷ at 0 asking.Fail ∷ at 0 mark ∷ at 0 asking.Gone ∷ []
by_list = refl

-- an image that has ended isn't touched
ended : lane 2 (at 9 (asking.Stop (pos 0)) ∷ []) (replies.Done ∷ []) ≡ at 9 (asking.Stop (pos 0)) ∷ []
ended = refl

-- 5 steps of 4 words each reach the limit of 20: the next event is the limit, in place of a run fault too, but not of a
-- failure
limited : lane 0 (at 1 asking.Memory ∷ at 2 asking.Memory ∷ at 3 asking.Memory ∷ at 4 asking.Memory ∷ at 5 asking.Memory ∷ at 6 (asking.ErrorStop (pos 1)) ∷ []) (ok ∷ ok ∷ ok ∷ ok ∷ ok ∷ ok ∷ [])
    ≡ at 1 asking.Memory ∷ at 2 asking.Memory ∷ at 3 asking.Memory ∷ at 4 asking.Memory ∷ at 5 asking.Memory ∷ at 6 (asking.LimitWords 20) ∷ []
limited = refl

full_fails : lane 6 (at 1 asking.Memory ∷ at 2 asking.Memory ∷ at 3 asking.Memory ∷ at 4 asking.Memory ∷ at 5 asking.Memory ∷ at 6 asking.Memory ∷ []) (ok ∷ ok ∷ ok ∷ ok ∷ ok ∷ ok ∷ [])
    ≡ at 1 asking.Memory ∷ at 2 asking.Memory ∷ at 3 asking.Memory ∷ at 4 asking.Memory ∷ at 5 asking.Memory ∷ at 0 asking.Fail ∷ at 0 mark ∷ []
full_fails = refl

-- Small runs at the board, worked by hand and computed.
use Rattle.std.proofs.Common.{◌≡◌, ℕ, true, false, List, [], ◌∷◌, ◌++◌, refl}
use Rattle.std.specs.Prelude.{ℤ, pos, negsuc, map}
use Rattle.caf_base.specs.declared.place.ImageNo.{ImageNo}
use Rattle.caf_base.specs.declared.value.Kind.TheVariants as value_kinds
use Rattle.caf_base.specs.declared.value.Value.TheVariants as values
use Rattle.caf_events.specs.declared.ask.Ask.{Ask}
use Rattle.caf_events.specs.declared.ask.Ask.TheVariants as asks
use Rattle.caf_events.specs.declared.round.Arriving.{Arriving}
use Rattle.caf_events.specs.declared.round.Arriving.TheVariants as arrivings
use Rattle.caf_events.specs.declared.round.GatherOp.{GatherOp}
use Rattle.caf_events.specs.declared.round.GatherOp.TheVariants as ops
use Rattle.caf_events.specs.declared.reply.FormedTeam.{FormedTeam}
use Rattle.caf_events.specs.declared.reply.Reply.{Reply}
use Rattle.caf_events.specs.declared.reply.Reply.TheVariants as replies
use Rattle.caf_events.specs.declared.event.Entry.{Entry}
use Rattle.object_rules.specs.BoardRules.{board_ready, board_reply}

-- an image's ask at a line
record Step : Type 0 where
  image : ℕ
  line : ℕ
  ask : Ask

-- the history of n images that makes these steps, each with its reply
abbrev served : ℕ → List Entry → List Step → List Entry
served n h [] = h
served n h (s ∷ ss) = served n (h ++ record { image = record { 0 = s.image }; event = record { ask = s.ask; reply = board_reply n h s.image s.ask; stamp = 0; line = s.line } } ∷ []) ss

abbrev made : ℕ → List Step → List Entry
made n ss = served n [] ss

abbrev arrive : ℕ → ℕ → Arriving → Step
arrive t i a = record { image = i; line = i; ask = asks.Arrive (record { 0 = t }) a }

abbrev gone : ℕ → Step
gone i = record { image = i; line = 0; ask = asks.Gone }

abbrev stop : ℕ → Step
stop i = record { image = i; line = 9; ask = asks.Stop (pos 0) }

abbrev pair : ℕ → List ImageNo → Step
pair i js = record { image = i; line = i; ask = asks.Pair js }

abbrev leave : ℕ → ℕ → Ask
leave t r = asks.Leave (record { 0 = t }) r

abbrev image : ℕ → ImageNo
image i = record { 0 = i }

abbrev sync : ℕ → Step
sync i = arrive 1 i arrivings.Sync

abbrev form : ℕ → ℤ → ℤ → Step
form i number new_index = arrive 1 i (arrivings.Form number new_index)

abbrev unready : ℕ → List Step → ℕ → Ask → Type 0
unready n ss i a = board_ready n (made n ss) i a ≡ false

abbrev replied : ℕ → List Step → ℕ → Ask → Reply → Type 0
replied n ss i a r = (board_ready n (made n ss) i a ≡ true) × (board_reply n (made n ss) i a ≡ r)

abbrev left : ℤ → Reply
left status = replies.Left status []

-- an image that failed before it arrived: 6001 for each, and nobody leaves before all have arrived
failure_at_a_barrier : replied 4 (gone 3 ∷ sync 1 ∷ sync 2 ∷ sync 4 ∷ []) 1 (leave 1 1) (left (pos 6001)) × unready 4 (gone 3 ∷ sync 1 ∷ sync 2 ∷ []) 1 (leave 1 1)
failure_at_a_barrier = ((refl, refl), refl)

-- an image that fails after the close, and one whose failure closes nothing that it had not joined
failure_after_the_close : replied 4 (sync 1 ∷ sync 2 ∷ sync 3 ∷ sync 4 ∷ gone 3 ∷ []) 4 (leave 1 1) (left (pos 0))
failure_after_the_close = (refl, refl)

failure_before_the_close : replied 4 (sync 1 ∷ sync 2 ∷ sync 3 ∷ gone 3 ∷ sync 4 ∷ []) 4 (leave 1 1) (left (pos 6001))
failure_before_the_close = (refl, refl)

-- a stopped image comes before a failed one; the status is that of the close, whatever happens before the departure
stopped_before_failed : replied 3 (stop 2 ∷ gone 3 ∷ sync 1 ∷ []) 1 (leave 1 1) (left (pos 6000))
stopped_before_failed = (refl, refl)

kept_result : replied 3 (sync 1 ∷ gone 3 ∷ sync 2 ∷ stop 1 ∷ []) 2 (leave 1 1) (left (pos 6001))
kept_result = (refl, refl)

-- 6 images in two teams; a member of the even one fails before SYNC ALL
even_odd : List Step
even_odd = form 1 (pos 1) (pos 0) ∷ form 2 (pos 2) (pos 0) ∷ form 3 (pos 1) (pos 0) ∷ form 4 (pos 2) (pos 0) ∷ form 5 (pos 1) (pos 0) ∷ form 6 (pos 2) (pos 0) ∷ []

abbrev team : ℕ → ℤ → List ℕ → FormedTeam
team t number members = record { team = record { 0 = t }; number = number; members = map image members }

abbrev team_sync : ℕ → ℕ → Step
team_sync t i = arrive t i arrivings.Sync

teams_formed : replied 6 even_odd 3 (leave 1 1) (replies.Left (pos 0) (team 2 (pos 1) (1 ∷ 3 ∷ 5 ∷ []) ∷ team 3 (pos 2) (2 ∷ 4 ∷ 6 ∷ []) ∷ []))
unfolding even_odd
teams_formed = (refl, refl)

failure_inside_a_team : replied 6 (even_odd ++ team_sync 2 1 ∷ gone 2 ∷ team_sync 3 4 ∷ team_sync 2 3 ∷ team_sync 3 6 ∷ team_sync 2 5 ∷ []) 4 (leave 3 1) (left (pos 6001))
unfolding even_odd
failure_inside_a_team = (refl, refl)

no_failure_in_the_other_team : replied 6 (even_odd ++ team_sync 2 1 ∷ gone 2 ∷ team_sync 3 4 ∷ team_sync 2 3 ∷ team_sync 3 6 ∷ team_sync 2 5 ∷ []) 5 (leave 2 1) (left (pos 0))
unfolding even_odd
no_failure_in_the_other_team = (refl, refl)

no_member_of_the_team : unready 6 even_odd 1 (asks.Arrive (record { 0 = 3 }) arrivings.Sync)
unfolding even_odd
no_member_of_the_team = refl

-- SYNC ALL against FORM TEAM
unlike_rounds : board_reply 2 (made 2 (sync 1 ∷ [])) 2 (asks.Arrive (record { 0 = 1 }) (arrivings.Form (pos 1) (pos 0))) ≡ replies.Clash (image 1) 1
unlike_rounds = refl

-- a clash joins no round
clash_joins_no_round : unready 2 (sync 1 ∷ form 2 (pos 1) (pos 0) ∷ []) 1 (leave 1 1)
clash_joins_no_round = refl

-- one event closes two rounds of FORM TEAM: their teams are numbered by the order of the rounds
two_rounds : replied 2 (form 1 (pos 7) (pos 0) ∷ form 1 (pos 5) (pos 0) ∷ gone 2 ∷ []) 1 (leave 1 2) (replies.Left (pos 6001) (team 3 (pos 5) (1 ∷ []) ∷ []))
two_rounds = (refl, refl)

two_rounds_first : replied 2 (form 1 (pos 7) (pos 0) ∷ form 1 (pos 5) (pos 0) ∷ gone 2 ∷ []) 1 (leave 1 1) (replies.Left (pos 6001) (team 2 (pos 7) (1 ∷ []) ∷ []))
two_rounds_first = (refl, refl)

-- a NEW_INDEX that two images of one team give; one that orders them; one that a failure makes good
bad_index : replied 2 (form 1 (pos 1) (pos 1) ∷ form 2 (pos 1) (pos 1) ∷ []) 2 (leave 1 1) (left (pos 6006))
bad_index = (refl, refl)

good_index : replied 2 (form 1 (pos 1) (pos 2) ∷ form 2 (pos 1) (pos 1) ∷ []) 2 (leave 1 1) (replies.Left (pos 0) (team 2 (pos 1) (2 ∷ 1 ∷ []) ∷ []))
good_index = (refl, refl)

failed_index : replied 3 (form 1 (pos 1) (pos 9) ∷ form 2 (negsuc 0) (pos 1) ∷ gone 3 ∷ []) 2 (leave 1 1) (replies.Left (pos 6001) (team 2 (pos 1) (1 ∷ []) ∷ []))
failed_index = (refl, refl)

-- CO_SUM: a partial sum that leaves the kind, and one that doesn't
abbrev gather : ℕ → GatherOp → ℕ → ℤ → Step
gather i op root v = record { image = i; line = 3; ask = asks.Gather (record { 0 = 1 }) op root value_kinds.I4 (values.Int v ∷ []) }

abbrev take_1 : Ask
take_1 = asks.Take (record { 0 = 1 }) 1

sum_beyond_the_kind : replied 2 (gather 1 ops.Sum 0 (pos 1073741824) ∷ gather 2 ops.Sum 0 (pos 1073741824) ∷ []) 1 take_1 (replies.Taken (pos 6006) [])
sum_beyond_the_kind = (refl, refl)

sum_within_the_kind : replied 2 (gather 1 ops.Sum 0 (pos 1073741823) ∷ gather 2 ops.Sum 0 (pos 1073741824) ∷ []) 1 take_1 (replies.Taken (pos 0) (values.Int (pos 2147483647) ∷ []))
sum_within_the_kind = (refl, refl)

co_max : replied 3 (gather 1 ops.Max 2 (pos 1) ∷ gather 3 ops.Max 2 (pos 3) ∷ gather 2 ops.Max 2 (pos 2) ∷ []) 1 take_1 (replies.Taken (pos 0) (values.Int (pos 3) ∷ []))
co_max = (refl, refl)

broadcast : replied 2 (gather 2 ops.Broadcast 2 (pos 5) ∷ gather 1 ops.Broadcast 2 (pos 4) ∷ []) 1 take_1 (replies.Taken (pos 0) (values.Int (pos 5) ∷ []))
broadcast = (refl, refl)

no_such_root : unready 2 [] 1 (asks.Gather (record { 0 = 1 }) ops.Broadcast 3 value_kinds.I4 (values.Int (pos 1) ∷ []))
no_such_root = refl

collective_failed : replied 2 (gather 1 ops.Sum 0 (pos 1) ∷ gone 2 ∷ []) 1 take_1 (replies.Taken (pos 6001) [])
collective_failed = (refl, refl)

-- SYNC IMAGES: the second one of image 1 has no partner, and image 2 stops
sync_images_of_two : replied 2 (pair 1 (image 2 ∷ []) ∷ pair 2 (image 1 ∷ []) ∷ []) 1 asks.Unpair (replies.Number (pos 0))
sync_images_of_two = (refl, refl)

second_without_a_partner : unready 2 (pair 1 (image 2 ∷ []) ∷ pair 2 (image 1 ∷ []) ∷ pair 1 (image 2 ∷ []) ∷ []) 1 asks.Unpair
second_without_a_partner = refl

partner_stopped : replied 2 (pair 1 (image 2 ∷ []) ∷ pair 2 (image 1 ∷ []) ∷ pair 1 (image 2 ∷ []) ∷ stop 2 ∷ []) 1 asks.Unpair (replies.Number (pos 6000))
partner_stopped = (refl, refl)

-- image 2, which has its corresponding one, isn't spoken of when it stops
partner_stopped_later : replied 2 (pair 1 (image 2 ∷ []) ∷ pair 2 (image 1 ∷ []) ∷ stop 2 ∷ []) 1 asks.Unpair (replies.Number (pos 0))
partner_stopped_later = (refl, refl)

pair_failed : replied 3 (pair 1 (image 2 ∷ image 3 ∷ []) ∷ pair 2 (image 1 ∷ []) ∷ gone 2 ∷ gone 3 ∷ []) 1 asks.Unpair (replies.Number (pos 6001))
pair_failed = (refl, refl)

-- SYNC IMAGES against SYNC ALL: both wait
stuck_pair : unready 2 (pair 1 (image 2 ∷ []) ∷ sync 2 ∷ []) 1 asks.Unpair × unready 2 (pair 1 (image 2 ∷ []) ∷ sync 2 ∷ []) 2 (leave 1 1)
stuck_pair = (refl, refl)

-- CRITICAL: another image waits; after a failure inside 6001, and then 0
enters : ℕ → Step
enters i = record { image = i; line = 1; ask = asks.Enter 1 }

inside : unready 2 (enters 1 ∷ []) 2 (asks.Enter 1)
unfolding enters
inside = refl

after_failure : replied 2 (enters 1 ∷ gone 1 ∷ []) 2 (asks.Enter 1) (replies.Number (pos 6001))
unfolding enters
after_failure = (refl, refl)

after_that : replied 2 (enters 1 ∷ gone 1 ∷ enters 2 ∷ record { image = 2; line = 2; ask = asks.Exit 1 } ∷ []) 2 (asks.Enter 1) (replies.Number (pos 0))
unfolding enters
after_that = (refl, refl)

-- FAILED_IMAGES and IMAGE_STATUS in a team: indices of the team
failed_in_team : replied 6 (even_odd ++ gone 4 ∷ stop 6 ∷ []) 2 (asks.Failed (record { 0 = 3 })) (replies.Indices (2 ∷ []))
unfolding even_odd
failed_in_team = (refl, refl)

status_in_team : replied 6 (even_odd ++ gone 4 ∷ stop 6 ∷ []) 2 (asks.Status (record { 0 = 3 }) 3) (replies.Number (pos 6000))
unfolding even_odd
status_in_team = (refl, refl)

-- The reasons tried on steps of two and three images; each answer is worked out by hand.
use Rattle.std.proofs.Common.{◌≡◌, ℕ, List, [], ◌∷◌, refl}
use Rattle.std.specs.Prelude.{pos, Some, None}
use Rattle.caf_events.specs.declared.ask.Ask.{Ask}
use Rattle.caf_events.specs.declared.ask.Ask.TheVariants as asks
use Rattle.caf_events.specs.declared.reply.Reply.{Reply}
use Rattle.caf_events.specs.declared.reply.Reply.TheVariants as replies
use Rattle.caf_events.specs.declared.round.Arriving.TheVariants as arrivings
use Rattle.caf_events.specs.declared.event.Entry.{Entry}
use Rattle.decided_watch.specs.declared.watch.Reason.TheVariants as reasons
use Rattle.decided_watch.specs.Undecided.{reason_of}

-- Stamps and lines are left at 0: no reason looks at them.
abbrev by : ℕ → Ask → Reply → Entry
by i a r = record { image = record { 0 = i }; event = record { ask = a; reply = r; stamp = 0; line = 0 } }

-- image i posts the event at an offset of coarray 0 of image 2
abbrev post : ℕ → ℕ → Entry
post i offset = by i (asks.Post (record { 0 = 2 }) (record { coarray = 0; start = offset; dims = [] })) (replies.Number (pos 0))

abbrev makes : Entry
makes = by 2 (asks.Create (record { 0 = 2 }) 0 4) replies.Done

abbrev forms : ℕ → Entry
forms team = by 1 (asks.Arrive (record { 0 = team }) (arrivings.Form (pos 1) (pos 0))) (replies.Round 1)

one_poster : reason_of (post 1 0 ∷ post 1 0 ∷ []) (post 1 0) ≡ None
one_poster = refl

two_posters : reason_of (post 1 0 ∷ []) (post 3 0) ≡ Some reasons.OtherPoster
two_posters = refl

two_events : reason_of (post 1 0 ∷ []) (post 3 1) ≡ None
two_events = refl

posted_where_made : reason_of (makes ∷ []) (post 1 0) ≡ Some reasons.EventsRemade
posted_where_made = refl

made_where_posted : reason_of (post 1 0 ∷ []) makes ≡ Some reasons.EventsRemade
made_where_posted = refl

lock_taken : reason_of [] (by 1 (asks.Lock (record { 0 = 2 }) (record { coarray = 0; start = 0; dims = [] })) (replies.Number (pos 0))) ≡ Some reasons.NotFree
lock_taken = refl

team_of_the_initial_one : reason_of [] (forms 1) ≡ None
team_of_the_initial_one = refl

team_of_another_team : reason_of [] (forms 2) ≡ Some reasons.NotFree
team_of_another_team = refl

post_that_fails : reason_of [] (by 1 (asks.Post (record { 0 = 2 }) (record { coarray = 0; start = 0; dims = [] })) (replies.Number (pos 6001))) ≡ Some reasons.NotFree
post_that_fails = refl

-- Why an image must have been told of a team that it names: a small run at the board, worked by hand and computed.
use Rattle.std.proofs.Common.{◌≡◌, ℕ, true, false, List, [], ◌∷◌, ◌++◌, refl}
use Rattle.std.specs.Prelude.{pos}
use Rattle.caf_events.specs.declared.ask.Ask.{Ask}
use Rattle.caf_events.specs.declared.ask.Ask.TheVariants as asks
use Rattle.caf_events.specs.declared.round.Arriving.TheVariants as arrivings
use Rattle.caf_events.specs.declared.reply.Reply.{Reply}
use Rattle.caf_events.specs.declared.reply.Reply.TheVariants as replies
use Rattle.caf_events.specs.declared.event.Entry.{Entry}
use Rattle.trace_theory.specs.Machines.{Said}
use Rattle.object_rules.specs.BoardRules.{board_ready, board_reply}
use Rattle.object_rules.specs.Answering.{answers}

-- a step of an image of two with the reply that is due
abbrev served : List Entry → ℕ → Ask → List Entry
served h i a = h ++ record { image = record { 0 = i }; event = record { ask = a; reply = board_reply 2 h i a; stamp = 0; line = 0 } } ∷ []

abbrev form : Ask
form = asks.Arrive (record { 0 = 1 }) (arrivings.Form (pos 1) (pos 0))

abbrev leave : Ask
leave = asks.Leave (record { 0 = 1 }) 1

abbrev failed : Ask
failed = asks.Failed (record { 0 = 2 })

-- both images form team 2, and image 1 fails
abbrev history : List Entry
history = served (served (served [] 1 form) 2 form) 1 asks.Gone

abbrev said : Ask → Reply → Said Ask Reply
said a r = record { ask = a; reply = r; line = 0 }

-- image 2 is told by its departure that team 2 has two members, so that index 1 is one of its own
told : (board_reply 2 history 2 failed ≡ replies.Indices (1 ∷ [])) × (answers [] 2 (said form (replies.Round 1) ∷ said leave (board_reply 2 history 2 leave) ∷ []) failed (replies.Indices (1 ∷ [])) ≡ true)
told = (refl, refl)

-- before its departure it knows nothing of the members, so that the same reply answers nothing, though the board is
-- ready to give it
untold : (board_ready 2 history 2 failed ≡ true) × (answers [] 2 (said form (replies.Round 1) ∷ []) failed (replies.Indices (1 ∷ [])) ≡ false)
untold = (refl, refl)

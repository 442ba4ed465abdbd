-- What a machine does next.
use Rattle.std.proofs.Common.{◌≡◌, sym, ◌∙◌}
use Rattle.trace_theory.specs.Machines.{Move, asks, goes, over}
use Rattle.caf_events.specs.declared.ask.Ask.{Ask}
use Rattle.caf_events.specs.declared.reply.Reply.{Reply}
use Rattle.caf_events.specs.Walkers.{IsAtAsk, AsksNext}

-- where there is a next ask, the machine is at it
pub at_ask : {C : Type 0} (m : Move C Ask Reply) (a : Ask) → AsksNext m a → IsAtAsk m
at_ask (goes c) a h = absurd h
at_ask (asks x l n) a h = tt
at_ask over a h = absurd h

-- two names of the next ask are one
pub same_ask : {C : Type 0} (m : Move C Ask Reply) (a b : Ask) → AsksNext m a → AsksNext m b → a ≡ b
same_ask (goes c) a b h k = absurd h
same_ask (asks x l n) a b h k = h ∙ sym k
same_ask over a b h k = absurd h

use Rattle.trace_theory.proofs.Machines.{one_next_ask}
use Rattle.caf_events.specs.declared.ask.Ask.{Ask}
use Rattle.caf_events.specs.declared.reply.Reply.{Reply}
use Rattle.free_replies.proofs.Memories.{memories_speak}
use Rattle.free_replies.proofs.laws.law_memories.Goals as goal

pub returns : goal.returns
returns g c s n first t u declared fit core end decided alone run =
    memories_speak g.M.Walker.step g.M.Walker.hears (one_next_ask g.M.Walker.Config Ask Reply g.M.Walker.step) s n first t declared fit core decided alone u run

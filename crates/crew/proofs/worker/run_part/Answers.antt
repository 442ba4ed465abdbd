use Rattle.image_turns.proofs.Staying.{stays_same}
use Rattle.crew.proofs.worker.run_part.Goals as goal

pub returns-then-is_paused : goal.returns-then-is_paused
returns-then-is_paused g c = record { stays = stays_same g.M.Walker c.args.gates.now.board c.args.gates.now.memories.items c.args.member.now.run c.args.member.now.passes c.requires.passes }

use Rattle.image_asks.proofs.TeamAsks.{joined_behind}
use Rattle.image_asks.proofs.replies.join.Goals as goal

pub returns : goal.returns
returns c = joined_behind c.args.image.now c.drop_top.new.self c.note_round.new.self c.args.n c.round_in-round.result c.args.reply.now c.round_in-round.ensures c.drop_top.ensures c.note_round.ensures

use Rattle.std.proofs.Common.{◌≡◌, sym, subst}
use Rattle.control_board.specs.Boards.{reply_by}
use Rattle.control_board.proofs.reply.reply.Goals as goal

pub returns-in-Enter : goal.returns-in-Enter
returns-in-Enter c n h b ready = subst (λ a. c.entered.result ≡ reply_by n h c.args.image.0 a) (sym c.in-Enter.is) (c.entered.ensures n c.args.image.0 h b)

-- What contracts see of an event.
use Rattle.std.specs.Prelude.{ℕ}
use Rattle.caf_events.specs.declared.ask.Ask.{Ask}
use Rattle.caf_events.specs.declared.reply.Reply.{Reply}

-- one step of an image: what it asked, the reply, its stamp from 1, and the line of its statement
pub record EventParts : Type 0 where
  pub ask : Ask
  pub reply : Reply
  pub stamp : ℕ
  pub line : ℕ

-- What is heard of replies.
use Rattle.std.specs.Prelude.{ℕ, ℤ, pos, min, List, map, take, replicate}
use Rattle.caf_base.specs.Arithmetic.{number_of}
use Rattle.caf_events.specs.declared.reply.Reply.{Reply}
use Rattle.caf_events.specs.declared.reply.Reply.TheVariants as replies

-- the values of a read of so many cells, as far as there is room for n
abbrev pub values_heard : (n cells : ℕ) → Reply → List ℤ
values_heard n cells (replies.Values vs) = take n (map number_of vs)
values_heard n cells reply = replicate (min n cells) (pos 0)

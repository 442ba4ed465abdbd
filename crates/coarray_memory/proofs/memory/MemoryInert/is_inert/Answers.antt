use Rattle.std.proofs.Common.{◌≡◌, subst}
use Rattle.caf_events.specs.Events.{words_by}
use Rattle.caf_events.specs.declared.event.Entry.{Entry}
use Rattle.caf_events.specs.declared.exchange.Whole.{Whole}
use Rattle.coarray_memory.proofs.Inerting.{five_words, ready_same}
use Rattle.coarray_memory.proofs.memory.MemoryInert.is_inert.Goals as goal

pub returns : goal.returns
returns c holds h is ready due j ask other =
    let m = c.args.self.now.made in
    let i = c.args.image.0 in
    let said = c.args.event.now in
    let e : Entry = record { image = c.args.image; event = c.args.event.now } in
    let five : words_by said.ask said.reply ≡ 5 = subst (λ (w : Whole). words_by w.ask w.reply ≡ 5) c.told.ensures (c.is_inert.ensures holds) in
    ready_same m h e (five_words m h i said.ask said.reply ready due five) j ask

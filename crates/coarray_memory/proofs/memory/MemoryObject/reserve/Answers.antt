use Rattle.std.proofs.Common.{sym, ap, ◌∙◌, subst, IsTrue}
use Rattle.object_rules.specs.MemoryRules.{memory_ready, memory_reply}
use Rattle.coarray_memory.specs.Memories.{MemoryState, stored_at}
use Rattle.coarray_memory.proofs.Replying.{and_both, reply_is}
use Rattle.coarray_memory.proofs.Acting.{section_same}
use Rattle.coarray_memory.proofs.memory.MemoryObject.reserve.Goals as goal

pub returns-clause-told : goal.returns-clause-told
returns-clause-told c =
    let inv = c.self.invariant in
    let ready = subst (λ (s : MemoryState). IsTrue (memory_ready s.made s.history c.args.image.0 c.args.ask.now)) (sym c.self.view_is) c.requires in
    let due = reply_is c.self.inside.declared c.self.inside.history (stored_at c.self.inside.stores.items) inv.tells inv.suits c.args.image.0 c.self.inside.marked c.args.ask.now _ inv.marks (and_both _ _ ready).0 c.in_ok-cells.ensures
    ∙ ap (λ (s : MemoryState). memory_reply s.made s.history c.args.image.0 c.args.ask.now) c.self.view_is in
    c.in_ok-told.ensures ∙ ap (λ r. record { ask = c.args.ask.now; reply = r }) (c.in_ok-due.ensures ∙ due)

pub returns-clause-room : goal.returns-clause-room
returns-clause-room c =
    let inv = c.self.invariant in
    let m = c.self.inside.declared in (
      c.in_ok-cells.ensures ∙ section_same m c.self.inside.history (stored_at c.self.inside.stores.items) inv.tells c.args.ask.now,
      c.in_ok-fresh.ensures,
    )

use Rattle.std.proofs.Common.{ap, sym, ◌∙◌}
use Rattle.object_rules.specs.Cells.{size_after}
use Rattle.coarray_memory.specs.Memories.{MemoryState, stored_at}
use Rattle.coarray_memory.proofs.Replying.{size_told}
use Rattle.coarray_memory.proofs.memory.Memory.size.Goals as goal

pub returns : goal.returns
returns c =
    let inv = c.self.invariant in
    c.size_of.ensures
    ∙ sym (size_told c.self.inside.declared c.self.inside.history c.args.coarray (stored_at c.self.inside.stores.items c.args.coarray) (inv.tells c.args.coarray))
    ∙ ap (λ (s : MemoryState). size_after s.made s.history c.args.coarray) c.self.view_is

use Rattle.std.proofs.Common.{rules, ◌<◌, sym, subst}
use Rattle.atomic_table.proofs.Lists.{at_index}
use Rattle.image_gate.proofs.gates.Gates.turn_at_memory.Goals as goal

pub turn-requires-clause-gate : goal.turn-requires-clause-gate
turn-requires-clause-gate g c =
    let ok = c.requires.passes in
    let n = c.requires.place in
    (ok.each c.args.k c.index.result.now c.index_mut.result.now (at_index _ _ _ n c.index.ensures) (at_index _ _ _ (subst (λ m. c.args.k < m) (sym ok.wide) n) c.index_mut.ensures.value)).0

pub turn-requires-clause-image : goal.turn-requires-clause-image
turn-requires-clause-image g c =
    let ok = c.requires.passes in
    let n = c.requires.place in
    subst (λ i. 0 < i) (sym (ok.each c.args.k c.index.result.now c.index_mut.result.now (at_index _ _ _ n c.index.ensures) (at_index _ _ _ (subst (λ m. c.args.k < m) (sym ok.wide) n) c.index_mut.ensures.value)).1) c.requires.image

pub returns-clause-memory : goal.returns-clause-memory
returns-clause-memory g c =
    let ok = c.requires.passes in
    let n = c.requires.place in
    record {
      gate = c.index.result.now;
      at_gate = at_index _ _ _ n c.index.ensures;
      pass = c.index_mut.result.now;
      at_pass = at_index _ _ _ (subst (λ m. c.args.k < m) (sym ok.wide) n) c.index_mut.ensures.value;
      pass' = c.turn.new.pass;
      passes_are = search rules;
      here = record { same = c.turn.ensures.same; tells = c.turn.ensures.tells };
    }

use Rattle.std.proofs.Common.{◌≡◌, ◌<◌, ◌≤◌, ◌+◌, ◌∙◌, sym, ap, subst, arith, length, List, [], ◌∷◌, ◌++◌, set}
use Rattle.std.proofs.lemmas.Grind.{common_steps}
use Rattle.atomic_table.proofs.Lists.{at_index}
use Rattle.turn_gate.specs.Known.{Known}
use Rattle.image_gate.specs.Rows.{IsRowOf, Grown}
use Rattle.image_gate.proofs.Rows.{asks_free, row_more}
use Rattle.image_gate.proofs.opening.split_row.Goals as goal

pub split-requires-clause-gate : goal.split-requires-clause-gate
split-requires-clause-gate g c =
    let lt : c.loop-k.k < length c.args.gates.now.items = grind (arith, common_steps) in
    let w : length c.loop-k.desks.items ≡ length c.args.gates.now.items = c.loop-k.invariant.2.wide ∙ c.requires.wide in
    (asks_free c.args.gates.now.items c.args.image.0 c.loop-k.k c.args.desks.now.items c.loop-k.desks.items c.index.result.now c.index_mut.result.now c.requires.wide c.requires.free c.loop-k.invariant.2
    (at_index _ _ _ lt c.index.ensures) (at_index _ _ _ (subst (λ n. c.loop-k.k < n) (sym w) lt) c.index_mut.ensures.value)).0

pub split-requires-clause-first : goal.split-requires-clause-first
split-requires-clause-first g c =
    let lt : c.loop-k.k < length c.args.gates.now.items = grind (arith, common_steps) in
    let w : length c.loop-k.desks.items ≡ length c.args.gates.now.items = c.loop-k.invariant.2.wide ∙ c.requires.wide in
    (asks_free c.args.gates.now.items c.args.image.0 c.loop-k.k c.args.desks.now.items c.loop-k.desks.items c.index.result.now c.index_mut.result.now c.requires.wide c.requires.free c.loop-k.invariant.2
    (at_index _ _ _ lt c.index.ensures) (at_index _ _ _ (subst (λ n. c.loop-k.k < n) (sym w) lt) c.index_mut.ensures.value)).1

pub split-requires-clause-image : goal.split-requires-clause-image
split-requires-clause-image g c =
    let lt : c.loop-k.k < length c.args.gates.now.items = grind (arith, common_steps) in
    let w : length c.loop-k.desks.items ≡ length c.args.gates.now.items = c.loop-k.invariant.2.wide ∙ c.requires.wide in
    let a = asks_free c.args.gates.now.items c.args.image.0 c.loop-k.k c.args.desks.now.items c.loop-k.desks.items c.index.result.now c.index_mut.result.now c.requires.wide c.requires.free c.loop-k.invariant.2
    (at_index _ _ _ lt c.index.ensures) (at_index _ _ _ (subst (λ n. c.loop-k.k < n) (sym w) lt) c.index_mut.ensures.value) in
    (c.requires.image, a.2, a.3)

pub loop-k-preserved : goal.loop-k-preserved
loop-k-preserved g c =
    let lt : c.loop-k.k < length c.args.gates.now.items = grind (arith, common_steps) in
    let w : length c.loop-k.desks.items ≡ length c.args.gates.now.items = c.loop-k.invariant.2.wide ∙ c.requires.wide in
    let m = row_more c.args.image.0 c.loop-k.k c.args.desks.now.items c.loop-k.desks.items c.loop-k.row.items c.index_mut.result.now (at_index _ _ _ (subst (λ n. c.loop-k.k < n) (sym w) lt) c.index_mut.ensures.value) c.loop-k.invariant.1 c.loop-k.invariant.2 in (
      subst (λ n. length c.args.gates.now.items ≤ n) (sym c.push_reserved.ensures.capacity) c.loop-k.invariant.0,
      subst (λ (r : List Known). IsRowOf c.args.image.0 (c.loop-k.k + 1) c.args.desks.now.items r) (sym (c.push_reserved.ensures.items ∙ ap (λ (p : Known). c.loop-k.row.items ++ p ∷ []) c.split.ensures.pass)) m.0,
      subst (λ (p : Known). Grown c.args.image.0 (c.loop-k.k + 1) c.args.desks.now.items (set c.loop-k.desks.items c.loop-k.k p)) (sym c.split.ensures.first) m.1,
    )

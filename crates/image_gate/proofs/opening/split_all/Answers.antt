use Rattle.std.proofs.Common.{◌<◌, ◌≤◌, ◌+◌, ◌∙◌, sym, ap, subst, arith, length, map, [], ◌∷◌}
use Rattle.std.proofs.lemmas.Grind.{common_steps}
use Rattle.std.proofs.lemmas.List.{length-append}
use Rattle.turn_gate.specs.Gates.{NotIn}
use Rattle.turn_gate.specs.Known.{Known}
use Rattle.turn_gate.specs.Passes.{split_from, with_split}
use Rattle.image_gate.specs.declared.passes.Passes.{Passes}
use Rattle.image_gate.specs.Fabrics.{images_to, desk_of, AreFresh}
use Rattle.image_gate.proofs.Fresh.{none_split, row_is, desks_are, not_among, images_more, fresh_next}
use Rattle.image_gate.proofs.opening.split_all.Goals as goal

pub split_row-requires-clause-free : goal.split_row-requires-clause-free
split_row-requires-clause-free g c =
    let lt : c.loop-k.k < length c.args.gates.now.items = grind (arith, common_steps) in
    none_split c.args.gates.now.items (c.loop-k.k + 1) (length c.args.gates.now.items) (images_to c.loop-k.k) c.loop-k.desks.items c.loop-k.invariant.2 c.requires.gates.1 (omega arith) (not_among c.loop-k.k (c.loop-k.k + 1) (omega arith))

pub split-requires-clause-image : goal.split-requires-clause-image
split-requires-clause-image g c =
    let lt : c.loop-k.k < length c.args.gates.now.items = grind (arith, common_steps) in
    let many = c.requires.board.1 in (
      omega arith,
      omega arith,
      subst (λ (p : Known). NotIn (c.loop-k.k + 1) p.images) (sym c.loop-k.invariant.1) (not_among c.loop-k.k (c.loop-k.k + 1) (omega arith)),
    )

pub loop-k-preserved : goal.loop-k-preserved
loop-k-preserved g c =
    let k = c.loop-k.k in
    let p : Passes = record { board = c.split.result; memories = c.in_ok-row.row } in (
      subst (λ n. length c.args.gates.now.items ≤ n) (sym c.push_reserved.ensures.capacity) c.loop-k.invariant.0,
      c.split.ensures.first ∙ ap (with_split (k + 1)) c.loop-k.invariant.1 ∙ ap (λ l. desk_of l c.args.board.now) (sym (images_more k)),
      desks_are c.args.gates.now.items (k + 1) (images_to k) c.loop-k.desks.items c.split_row.new.desks.items c.loop-k.invariant.2 c.in_ok-row.ensures.desks ∙ ap (λ l. map (desk_of l) c.args.gates.now.items) (sym (images_more k)),
      ap length c.push_reserved.ensures.items ∙ length-append c.loop-k.passes.items (p ∷ []) ∙ ap (λ n. n + 1) c.loop-k.invariant.3,
      subst (λ l. AreFresh c.args.board.now c.args.gates.now.items l) (sym c.push_reserved.ensures.items)
          (fresh_next c.args.board.now c.args.gates.now.items c.loop-k.passes.items p k c.loop-k.invariant.3 c.loop-k.invariant.4 (c.split.ensures.pass ∙ ap (split_from (k + 1)) c.loop-k.invariant.1)
          (row_is c.args.gates.now.items (k + 1) (images_to k) c.loop-k.desks.items c.in_ok-row.row.items c.loop-k.invariant.2 c.in_ok-row.ensures.row)),
    )

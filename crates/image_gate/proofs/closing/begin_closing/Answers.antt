use Rattle.std.proofs.Common.{◌≡◌, ◌<◌, ◌∙◌, sym, ap, subst, arith, length, map, refl, List, [], ◌∷◌, ◌++◌}
use Rattle.std.proofs.lemmas.Grind.{common_steps}
use Rattle.turn_gate.specs.Known.{Known}
use Rattle.turn_gate.specs.Passes.{IsPassOf}
use Rattle.turn_gate.specs.Closings.{Shutting}
use Rattle.image_gate.specs.Fabrics.{images_to}
use Rattle.image_gate.specs.Closings.{closing_of}
use Rattle.image_gate.proofs.Closings.{desk_next, closes_next, one_more}
use Rattle.image_gate.proofs.closing.begin_closing.Goals as goal

pub remove-desk-requires : goal.remove-desk-requires
remove-desk-requires g c =
    let many : 0 < length c.loop-gate.desks.items = subst (λ (l : List Known). 0 < length l) (sym (desk_next (images_to (length c.args.gates.items)) c.in-Some.gate c.next.new.self.rest.items c.loop-gate.gate-iterator.rest.items c.loop-gate.desks.items c.in-Some.ensures.steps.0 c.loop-gate.invariant.1)) (omega arith) in
    let ok = c.loop-gate.desks.ok in
    grind (arith, common_steps)

pub closing-requires : goal.closing-requires
closing-requires g c =
    let e = closes_next (images_to (length c.args.gates.items)) c.in-Some.gate c.next.new.self.rest.items c.loop-gate.gate-iterator.rest.items c.loop-gate.desks.items c.remove-desk.new.self.items c.remove-desk.result c.in-Some.ensures.steps.0 c.loop-gate.invariant.1 c.remove-desk.ensures.value c.remove-desk.ensures.by_index.2 in
    subst (λ (p : Known). IsPassOf c.in-Some.gate p × (p.image ≡ 0)) (sym e.0) (refl, refl)

pub loop-gate-preserved : goal.loop-gate-preserved
loop-gate-preserved g c =
    let images = images_to (length c.args.gates.items) in
    let next = c.in-Some.ensures.steps.0 in
    let inv = c.loop-gate.invariant in
    let e = closes_next images c.in-Some.gate c.next.new.self.rest.items c.loop-gate.gate-iterator.rest.items c.loop-gate.desks.items c.remove-desk.new.self.items c.remove-desk.result next inv.1 c.remove-desk.ensures.value c.remove-desk.ensures.by_index.2 in
    let made : c.closing.result ≡ closing_of images c.in-Some.gate = c.closing.ensures ∙ ap (λ (p : Known). record { gate = c.in-Some.gate; images = p.images; back = [] }) e.0 in (
      ap (λ (l : List (Shutting g.row.O.Denot)). l ++ map (closing_of images) c.next.new.self.rest.items) (c.in_ok-push.ensures.items ∙ ap (λ (s : Shutting g.row.O.Denot). c.loop-gate.closings.items ++ s ∷ []) made)
          ∙ one_more c.loop-gate.closings.items (closing_of images c.in-Some.gate) (map (closing_of images) c.next.new.self.rest.items)
          ∙ ap (λ l. c.loop-gate.closings.items ++ map (closing_of images) l) (sym next) ∙ inv.0,
      e.1,
    )

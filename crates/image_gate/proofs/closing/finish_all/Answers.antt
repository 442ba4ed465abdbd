use Rattle.std.proofs.Common.{◌∙◌, subst, sym, ap, [], ◌∷◌, ◌++◌}
use Rattle.trace_theory.specs.Entries.{Each}
use Rattle.turn_gate.specs.Closings.{Shutting}
use Rattle.image_gate.specs.Closings.{IsWhole, AllEnd}
use Rattle.image_gate.proofs.Closings.{one_more}
use Rattle.image_gate.proofs.Taking.{ends_more}
use Rattle.image_gate.proofs.closing.finish_all.Goals as goal

pub loop-closing-preserved : goal.loop-closing-preserved
loop-closing-preserved g c =
    let inv = c.loop-closing.invariant in
    let next = c.in-Some.ensures.steps.0 in
    let s : Shutting g.row.O.Denot = c.in-Some.closing in
    let f = c.finish.ensures in (
      (subst (λ l. Each (IsWhole {O = g.row.O.Denot}) l) next inv.0).1,
      (
        inv.1.0 ++ s ∷ [],
        one_more inv.1.0 s c.next.new.self.rest.items ∙ ap (λ l. inv.1.0 ++ l) (sym next) ∙ inv.1.1,
        subst (λ os. AllEnd g.O.Object (inv.1.0 ++ s ∷ []) os) (sym c.in_ok-push.ensures.items) (ends_more g.O.Object inv.1.0 c.loop-closing.memories.items s c.finish.result inv.1.2 (record { made = f.made; served = f.served; rises = f.rises; lists = f.lists; others = f.others })),
      ),
    )

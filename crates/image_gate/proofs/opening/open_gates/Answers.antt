use Rattle.std.proofs.Common.{◌≡◌, ◌∙◌, sym, ap, subst, map, List, [], ◌∷◌, ◌++◌}
use Rattle.trace_theory.specs.Entries.{Each}
use Rattle.trace_theory.proofs.Snocs.{each_last}
use Rattle.turn_gate.specs.Known.{Known}
use Rattle.turn_gate.specs.Passes.{Opened, first_pass}
use Rattle.image_gate.proofs.Fresh.{mapped_front, mapped_more}
use Rattle.image_gate.proofs.opening.open_gates.Goals as goal

pub loop-memory-preserved : goal.loop-memory-preserved
loop-memory-preserved g c =
    let inv = c.loop-memory.invariant in
    let next = c.in-Some.ensures.steps.0 in
    let gate = c.in_ok-gate.gate in
    let old = c.loop-memory.gates.items in
    let start : Opened g.row.O.Denot → g.row.O.Denot = λ x. x.start in
    let gates = c.in_ok-push.ensures.items in
    let made = c.in_ok-gate.ensures.gate in (
      subst (λ l. map start l ++ c.next.new.self.rest.items ≡ c.args.memories.items) (sym gates)
          (mapped_front start old gate c.next.new.self.rest.items ∙ ap (λ m. map start old ++ m ∷ c.next.new.self.rest.items) made.0 ∙ ap (λ l. map start old ++ l) (sym next) ∙ inv.0),
      subst (λ l. Each (λ (x : Opened g.row.O.Denot). x.images ≡ c.args.images) l) (sym gates) (each_last (λ (x : Opened g.row.O.Denot). x.images ≡ c.args.images) old gate inv.1 made.1),
      (subst (λ l. Each (λ o. g.O.Object.history o ≡ []) l) next inv.2).1,
      c.in_ok-push-2.ensures.items ∙ ap (λ (l : List Known). l ++ c.in_ok-gate.desk ∷ []) inv.3 ∙ ap (λ (p : Known). map first_pass old ++ p ∷ []) c.in_ok-gate.ensures.pass ∙ sym (mapped_more first_pass old gate) ∙ ap (map first_pass) (sym gates),
    )

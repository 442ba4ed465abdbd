use Rattle.std.proofs.Common.{◌≡◌, ◌∙◌, sym, ap, subst, ◌<◌}
use Rattle.trace_theory.specs.Entries.{Each}
use Rattle.turn_gate.specs.declared.view.View.{View}
use Rattle.turn_gate.specs.Passes.{Opened}
use Rattle.turn_gate.specs.Known.{Known, view_of}
use Rattle.turn_gate.proofs.Returned.{parts, all_back, gathers, head_same}
use Rattle.turn_gate.proofs.gate.Gate.close.Goals as goal

pub give_all-requires-clause-passes : goal.give_all-requires-clause-passes
give_all-requires-clause-passes g c =
    let p = parts c.args.self c.args.passes.items c.remove-first.new.self.items c.remove-first.result c.requires c.remove-first.ensures.value c.remove-first.ensures.items in
    subst (λ t. Each (λ p. (p.gate ≡ t) × (0 < p.image)) c.remove-first.new.self.items) (sym (ap (λ (o : Opened g.row.O.Denot). o.id) c.self.view_is)) p.each

pub finish-requires-clause-back : goal.finish-requires-clause-back
finish-requires-clause-back g c =
    let p = parts c.args.self c.args.passes.items c.remove-first.new.self.items c.remove-first.result c.requires c.remove-first.ensures.value c.remove-first.ensures.items in
    let i = c.first.invariant in
    let images = ap (λ (v : View). v.images) (ap view_of (sym i.one)) ∙ ap (λ (k : Known). k.images) c.first.view_is in
    let same = head_same c.first.inside.badge.views c.into_seat-seat.result.me.0 i.view c.into_seat-seat.ensures.2 i.one in
    all_back c.remove-first.new.self.items _ _ _ _ c.give_all.ensures.kept (ap (λ (v : View). v.kept) same ∙ i.kept) (sym images ∙ sym (ap (λ (v : View). v.images) same) ∙ sym c.give_all.ensures.images.0) p.back

pub returns-clause-lists : goal.returns-clause-lists
returns-clause-lists g c =
    let p = parts c.args.self c.args.passes.items c.remove-first.new.self.items c.remove-first.result c.requires c.remove-first.ensures.value c.remove-first.ensures.items in
    let i = c.first.invariant in
    let images = ap (λ (v : View). v.images) (ap view_of (sym i.one)) ∙ ap (λ (k : Known). k.images) c.first.view_is in
    let same = head_same c.first.inside.badge.views c.into_seat-seat.result.me.0 i.view c.into_seat-seat.ensures.2 i.one in
    gathers (g.O.Object.history c.finish.result) c.args.passes.items c.remove-first.new.self.items c.remove-first.result _ _ _ p.items c.give_all.ensures.kept (ap (λ (v : View). v.kept) same ∙ i.kept)
    (c.give_all.ensures.images.0 ∙ ap (λ (v : View). v.images) same ∙ images) c.finish.ensures.lists c.finish.ensures.others

use Rattle.std.proofs.Common.{refl, ◌<◌, ◌^◌, ◌+◌, ◌∷◌, [], ◌++◌, max, sym, ap, ◌∙◌, subst, arith, IsTrue}
use Rattle.caf_events.specs.Histories.{last_stamp_of}
use Rattle.caf_events.specs.declared.event.Event.{Event}
use Rattle.object_rules.specs.MemoryRules.{memory_ready, memory_reply}
use Rattle.coarray_memory.specs.declared.prepare.Prepared.{Prepared}
use Rattle.coarray_memory.specs.Memories.{MemoryState, HasRoom, IsMemory, plan_of}
use Rattle.coarray_memory.proofs.Acting.{can_act, memory_kept, due_at, event_of}
use Rattle.coarray_memory.proofs.memory.MemoryObject.apply.Goals as goal

pub act-requires : goal.act-requires
act-requires c =
    let inv = c.self.invariant in
    let ready = subst (λ (s : MemoryState). IsTrue (memory_ready s.made s.history c.args.image.0 c.args.ask)) (sym c.self.view_is) c.requires.ready in
    let room = subst (λ (s : MemoryState). HasRoom s c.args.ask) (sym c.self.view_is) c.requires.room in
    let last : last_stamp_of c.self.inside.history < 2 ^ 62 = subst (λ (s : MemoryState). last_stamp_of s.history < 2 ^ 62) (sym c.self.view_is) c.requires.last in
    let steps = inv.steps in
    can_act c.self.inside.declared c.self.inside.history c.self.inside.stores.items c.self.inside.marked inv c.args.image c.args.ask (plan_of c.replace-prepared.result) ready
    (ap (λ (q : Prepared). (plan_of q).cells) c.replace-prepared.ensures.value ∙ room.0) (ap (λ (q : Prepared). (plan_of q).fresh) c.replace-prepared.ensures.value ∙ room.1) (omega arith)

pub invariant_of-self : goal.invariant_of-self
invariant_of-self c =
    let inv = c.self.invariant in
    let h = c.self.inside.history in
    let ready = subst (λ (s : MemoryState). IsTrue (memory_ready s.made s.history c.args.image.0 c.args.ask)) (sym c.self.view_is) c.requires.ready in
    let room = subst (λ (s : MemoryState). HasRoom s c.args.ask) (sym c.self.view_is) c.requires.room in
    let stamp = max c.args.after (last_stamp_of h) + 1 in
    let one = c.requires.told ∙ ap (λ (s : MemoryState). due_at s.made s.history c.args.image.0 c.args.ask) (sym c.self.view_is) in
    let told = ap (λ w. event_of w stamp c.args.line) one in
    subst (λ es. IsMemory c.self.inside.declared es c.act.new.stores.items c.is_marked_by-self-inside.result)
    (sym (c.append.ensures.entries ∙ ap (λ (e : Event). h ++ record { image = c.args.image; event = e } ∷ []) (c.append.ensures.event ∙ told)))
    (memory_kept c.self.inside.declared h c.self.inside.stores.items c.self.inside.marked inv c.args.image c.args.ask (plan_of c.replace-prepared.result) ready
    (ap (λ (q : Prepared). (plan_of q).cells) c.replace-prepared.ensures.value ∙ room.0) (ap (λ (q : Prepared). (plan_of q).fresh) c.replace-prepared.ensures.value ∙ room.1)
    c.act.new.stores.items c.act.ensures.length c.act.ensures.done c.is_marked_by-self-inside.result c.is_marked_by-self-inside.ensures (memory_reply c.self.inside.declared h c.args.image.0 c.args.ask) refl
    stamp c.args.line (omega arith))

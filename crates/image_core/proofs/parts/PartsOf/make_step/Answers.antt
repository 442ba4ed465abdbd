use Rattle.std.proofs.Common.{◌≡◌, ◌<◌, ◌-◌, suc, length, sym, subst, true, arith}
use Rattle.std.specs.Prelude.{OnOk, Some, None}
use Rattle.caf_base.specs.declared.place.Place.TheVariants as places
use Rattle.caf_events.specs.declared.event.Event.{Event}
use Rattle.core_runs.specs.Moments.{can_step, item_at, rules, Steps}
use Rattle.image_core.specs.NextAsks.{AsksNextAt}
use Rattle.image_core.specs.Parts.{moment, Spends}
use Rattle.image_core.proofs.DirectSteps.{owner_within, taken_at}
use Rattle.image_core.proofs.Readiness.{an_item}
use Rattle.image_core.proofs.Sound.{sound_either}
use Rattle.image_core.proofs.parts.PartsOf.make_step.Goals as goal

pub returns-in-Own-clause-sound : goal.returns-in-Own-clause-sound
returns-in-Own-clause-sound g c =
    sound_either g.M.Walker g.O.Object g.B.Object c.args.self.now c.step_own.new.self c.step_own.result _ c.requires.sound c.step_own.ensures.numbered c.step_own.ensures.step c.step_own.ensures.spends c.step_own.ensures.err

pub returns-in-Own-clause-step : goal.returns-in-Own-clause-step
returns-in-Own-clause-step g c =
    let low = c.requires.image.0 in
    let number : c.args.image.0 ≡ suc (c.args.image.0 - 1) = omega arith in
    subst (λ n. OnOk c.step_own.result ((e : Event) × Steps (rules g.M.Walker g.O.Object g.B.Object) (moment g.M.Walker g.O.Object g.B.Object c.args.self.now) n e (moment g.M.Walker g.O.Object g.B.Object c.step_own.new.self))) (sym number) c.step_own.ensures.step

pub returns-in-Own-clause-spends : goal.returns-in-Own-clause-spends
returns-in-Own-clause-spends g c =
    let low = c.requires.image.0 in
    let number : c.args.image.0 ≡ suc (c.args.image.0 - 1) = omega arith in
    subst (λ n. OnOk c.step_own.result (Spends g.M.Walker.asks_left (moment g.M.Walker g.O.Object g.B.Object c.args.self.now) n (moment g.M.Walker g.O.Object g.B.Object c.step_own.new.self))) (sym number) c.step_own.ensures.spends

pub returns-in-Board-clause-sound : goal.returns-in-Board-clause-sound
returns-in-Board-clause-sound g c =
    sound_either g.M.Walker g.O.Object g.B.Object c.args.self.now c.step_at_board.new.self c.step_at_board.result _ c.requires.sound c.step_at_board.ensures.numbered c.step_at_board.ensures.step c.step_at_board.ensures.spends c.step_at_board.ensures.err

pub returns-in-Board-clause-step : goal.returns-in-Board-clause-step
returns-in-Board-clause-step g c =
    let low = c.requires.image.0 in
    let number : c.args.image.0 ≡ suc (c.args.image.0 - 1) = omega arith in
    subst (λ n. OnOk c.step_at_board.result ((e : Event) × Steps (rules g.M.Walker g.O.Object g.B.Object) (moment g.M.Walker g.O.Object g.B.Object c.args.self.now) n e (moment g.M.Walker g.O.Object g.B.Object c.step_at_board.new.self))) (sym number) c.step_at_board.ensures.step

pub returns-in-Board-clause-spends : goal.returns-in-Board-clause-spends
returns-in-Board-clause-spends g c =
    let low = c.requires.image.0 in
    let number : c.args.image.0 ≡ suc (c.args.image.0 - 1) = omega arith in
    subst (λ n. OnOk c.step_at_board.result (Spends g.M.Walker.asks_left (moment g.M.Walker g.O.Object g.B.Object c.args.self.now) n (moment g.M.Walker g.O.Object g.B.Object c.step_at_board.new.self))) (sym number) c.step_at_board.ensures.spends

pub returns-in-Memory-clause-sound : goal.returns-in-Memory-clause-sound
returns-in-Memory-clause-sound g c =
    sound_either g.M.Walker g.O.Object g.B.Object c.args.self.now c.step_at_memory.new.self c.step_at_memory.result _ c.requires.sound c.step_at_memory.ensures.numbered c.step_at_memory.ensures.step c.step_at_memory.ensures.spends c.step_at_memory.ensures.err

pub returns-in-Memory-clause-step : goal.returns-in-Memory-clause-step
returns-in-Memory-clause-step g c =
    let low = c.requires.image.0 in
    let number : c.args.image.0 ≡ suc (c.args.image.0 - 1) = omega arith in
    subst (λ n. OnOk c.step_at_memory.result ((e : Event) × Steps (rules g.M.Walker g.O.Object g.B.Object) (moment g.M.Walker g.O.Object g.B.Object c.args.self.now) n e (moment g.M.Walker g.O.Object g.B.Object c.step_at_memory.new.self))) (sym number) c.step_at_memory.ensures.step

pub returns-in-Memory-clause-spends : goal.returns-in-Memory-clause-spends
returns-in-Memory-clause-spends g c =
    let low = c.requires.image.0 in
    let number : c.args.image.0 ≡ suc (c.args.image.0 - 1) = omega arith in
    subst (λ n. OnOk c.step_at_memory.result (Spends g.M.Walker.asks_left (moment g.M.Walker g.O.Object g.B.Object c.args.self.now) n (moment g.M.Walker g.O.Object g.B.Object c.step_at_memory.new.self))) (sym number) c.step_at_memory.ensures.spends

pub step_own-requires-clause-kept : goal.step_own-requires-clause-kept
step_own-requires-clause-kept g c =
    let low = c.requires.image.0 in
    let number : c.args.image.0 ≡ suc (c.args.image.0 - 1) = omega arith in
    subst (λ n. item_at c.args.asks.now.kept.items n ≡ Some None → ⊥) number c.requires.kept

pub step_own-requires-clause-place : goal.step_own-requires-clause-place
step_own-requires-clause-place g c =
    let low = c.requires.image.0 in
    let number : c.args.image.0 ≡ suc (c.args.image.0 - 1) = omega arith in
    let r = rules g.M.Walker g.O.Object g.B.Object in
    let m = moment g.M.Walker g.O.Object g.B.Object c.args.self.now in
    subst (λ n. AsksNextAt r m n places.Own) number (subst (AsksNextAt r m c.args.image.0) c.in-Own.is c.requires.place)

pub returns-in-Own-clause-taken : goal.returns-in-Own-clause-taken
returns-in-Own-clause-taken g c =
    let low = c.requires.image.0 in
    let number : c.args.image.0 ≡ suc (c.args.image.0 - 1) = omega arith in
    taken_at c.step_own.result _ _ (sym number) c.args.asks.now.kept.items c.step_own.new.asks.kept.items c.step_own.ensures.taken

pub step_at_board-requires-clause-kept : goal.step_at_board-requires-clause-kept
step_at_board-requires-clause-kept g c =
    let low = c.requires.image.0 in
    let number : c.args.image.0 ≡ suc (c.args.image.0 - 1) = omega arith in
    subst (λ n. item_at c.args.asks.now.kept.items n ≡ Some None → ⊥) number c.requires.kept

pub step_at_board-requires-clause-place : goal.step_at_board-requires-clause-place
step_at_board-requires-clause-place g c =
    let low = c.requires.image.0 in
    let number : c.args.image.0 ≡ suc (c.args.image.0 - 1) = omega arith in
    let r = rules g.M.Walker g.O.Object g.B.Object in
    let m = moment g.M.Walker g.O.Object g.B.Object c.args.self.now in
    subst (λ n. AsksNextAt r m n places.Board) number (subst (AsksNextAt r m c.args.image.0) c.in-Board.is c.requires.place)

pub returns-in-Board-clause-taken : goal.returns-in-Board-clause-taken
returns-in-Board-clause-taken g c =
    let low = c.requires.image.0 in
    let number : c.args.image.0 ≡ suc (c.args.image.0 - 1) = omega arith in
    taken_at c.step_at_board.result _ _ (sym number) c.args.asks.now.kept.items c.step_at_board.new.asks.kept.items c.step_at_board.ensures.taken

pub step_at_memory-requires-clause-kept : goal.step_at_memory-requires-clause-kept
step_at_memory-requires-clause-kept g c =
    let low = c.requires.image.0 in
    let number : c.args.image.0 ≡ suc (c.args.image.0 - 1) = omega arith in
    subst (λ n. item_at c.args.asks.now.kept.items n ≡ Some None → ⊥) number c.requires.kept

pub step_at_memory-requires-clause-place : goal.step_at_memory-requires-clause-place
step_at_memory-requires-clause-place g c =
    let low = c.requires.image.0 in
    let number : c.args.image.0 ≡ suc (c.args.image.0 - 1) = omega arith in
    let r = rules g.M.Walker g.O.Object g.B.Object in
    let m = moment g.M.Walker g.O.Object g.B.Object c.args.self.now in
    subst (λ n. AsksNextAt r m n (places.Memory c.in-Memory.owner)) number (subst (AsksNextAt r m c.args.image.0) c.in-Memory.is c.requires.place)

pub returns-in-Memory-clause-taken : goal.returns-in-Memory-clause-taken
returns-in-Memory-clause-taken g c =
    let low = c.requires.image.0 in
    let number : c.args.image.0 ≡ suc (c.args.image.0 - 1) = omega arith in
    taken_at c.step_at_memory.result _ _ (sym number) c.args.asks.now.kept.items c.step_at_memory.new.asks.kept.items c.step_at_memory.ensures.taken

pub step_at_memory-requires-clause-owner : goal.step_at_memory-requires-clause-owner
step_at_memory-requires-clause-owner g c =
    let low = c.requires.image.0 in
    let high = c.requires.image.1 in
    let number : c.args.image.0 ≡ suc (c.args.image.0 - 1) = omega arith in
    let within : c.args.image.0 - 1 < length c.args.self.now.images.items = omega arith in
    let r = rules g.M.Walker g.O.Object g.B.Object in
    let m = moment g.M.Walker g.O.Object g.B.Object c.args.self.now in
    let run = an_item c.args.self.now.images.items (c.args.image.0 - 1) within in
    owner_within g.M.Walker g.O.Object g.B.Object c.args.self.now (c.args.image.0 - 1) run.0 within run.1 (subst (λ n. can_step r m n ≡ true) number c.requires.can) c.in-Memory.owner
    (subst (λ n. AsksNextAt r m n (places.Memory c.in-Memory.owner)) number (subst (AsksNextAt r m c.args.image.0) c.in-Memory.is c.requires.place))

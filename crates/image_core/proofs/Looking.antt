-- What an image that is looked at asks next, and whether it can step.
use Rattle.std.proofs.Common.{◌≡◌, ℕ, suc, ◌-◌, ◌<◌, ◌≤◌, length, ap, sym, subst, arith, true, false}
use Rattle.std.specs.Prelude.{slice_index_or, Some}
use Rattle.caf_base.specs.declared.place.Place.{Place}
use Rattle.caf_events.specs.declared.object.Object as object
use Rattle.caf_events.specs.declared.walker.Walker as walker
use Rattle.caf_events.specs.declared.walker.Next.TheVariants as nexts
use Rattle.caf_events.specs.declared.ask.Ask.{Ask}
use Rattle.caf_events.specs.declared.reply.Reply.{Reply}
use Rattle.caf_events.specs.Asks.{place_of}
use Rattle.caf_events.specs.Walkers.{IsAtAsk, AsksNext, NextIs}
use Rattle.caf_events.proofs.Walking.{same_ask}
use Rattle.trace_theory.specs.Machines.{Move, asks, goes, over}
use Rattle.core_runs.specs.Moments.{Rules, Moment, item_at, can_move, can_step, ready_there, rules}
use Rattle.image_core.specs.declared.run.ImageRun.{ImageRun}
use Rattle.image_core.specs.declared.parts.PartsOf.{PartsOf}
use Rattle.image_core.specs.NextAsks.{IsNextAsk, AsksNextAt}
use Rattle.image_core.specs.Parts.{moment}
use Rattle.image_core.specs.Prepared.{move_of}
use Rattle.image_core.proofs.Choosing.{ended_cant}
use Rattle.image_core.proofs.Readiness.{an_item, asks_at, at_place, ended, never_asks, next_at, over_now, ready_is, stands_at}
use Rattle.run_outlook.proofs.Slices.{map_get}

pub can_asks : {C M B : Type 0} (r : Rules C M B) (m : Moment C M B) (i : ℕ) (move : Move C Ask Reply) → can_move r m i move ≡ true → IsAtAsk move
can_asks r m i (goes c) h = absurd (cc)
can_asks r m i (asks a l k) h = tt
can_asks r m i over h = absurd (cc)

-- the place of one name of the next ask is that of each
pub place_kept : {C M B : Type 0} (r : Rules C M B) (m : Moment C M B) (i : ℕ) (a : Ask) → IsNextAsk r m i a → AsksNextAt r m i (place_of a)
place_kept r m i a next c at b asked = ap place_of (same_ask (r.step c) b a asked (next c at))

module _ {M O B : Type 0} (walks : walker.Ghosts M) (memory : object.Ghosts O) (control : object.Ghosts B)
    (p : PartsOf M O B) (i : ℕ) (low : 0 < i) (high : i ≤ length p.images.items) where
  number : i ≡ suc (i - 1)
  number = omega arith

  within : i - 1 < length p.images.items
  within = omega arith

  -- an image whose next ask is known can step where that ask can come
  pub can_kept : (q : Place) → AsksNextAt (rules walks memory control) (moment walks memory control p) i q → (a : Ask) → IsNextAsk (rules walks memory control) (moment walks memory control p) i a
      → ready_there (rules walks memory control) (moment walks memory control p) i a q ≡ can_step (rules walks memory control) (moment walks memory control p) i
  can_kept q place a next =
      let run = an_item p.images.items (i - 1) within in
      let there = map_get (λ (x : ImageRun M). walks.config x.machine) p.images.items (i - 1) run.0 within run.1 in
      let stands = subst (λ n. item_at (moment walks memory control p).configs n ≡ Some (walks.config run.0.machine)) (sym number) there in
      let asked = next (walks.config run.0.machine) stands in
      subst (λ n. ready_there (rules walks memory control) (moment walks memory control p) n a q ≡ can_step (rules walks memory control) (moment walks memory control p) n) (sym number)
      (sym (ready_is walks memory control p (i - 1) run.0 within run.1 q a (asks_at q (move_of walks run.0) a asked (place (walks.config run.0.machine) stands a asked)) asked))

  module _ (r : ImageRun M) (run_is : r ≡ slice_index_or p.images.items (i - 1) r) where
    -- one that has ended asks nothing and can't step
    pub ended_at : (q : Place) → NextIs (move_of walks r) nexts.Ended → AsksNextAt (rules walks memory control) (moment walks memory control p) i q
    ended_at q h c at a asked =
        absurd (never_asks walks memory control p (i - 1) r within run_is (over_now (move_of walks r) h) c
        (subst (λ n. item_at (moment walks memory control p).configs n ≡ Some c) number at) a asked)

    pub ended_can : NextIs (move_of walks r) nexts.Ended → false ≡ can_step (rules walks memory control) (moment walks memory control p) i
    ended_can h =
        sym (subst (λ n. can_step (rules walks memory control) (moment walks memory control p) n ≡ false) (sym number)
        (ended_cant (rules walks memory control) (moment walks memory control p) (suc (i - 1)) (ended walks memory control p (i - 1) r within run_is (over_now (move_of walks r) h))))

    -- what its machine tells of its next ask
    pub asked_at : (q : Place) → NextIs (move_of walks r) (nexts.Ask q) → AsksNextAt (rules walks memory control) (moment walks memory control p) i q
    asked_at q next c at a asked =
        next_at walks memory control p (i - 1) r within run_is q (at_place (move_of walks r) q next) c
        (subst (λ n. item_at (moment walks memory control p).configs n ≡ Some c) number at) a asked

    pub asked_next : (a : Ask) → AsksNext (move_of walks r) a → IsNextAsk (rules walks memory control) (moment walks memory control p) i a
    asked_next a asked c at =
        subst (λ d. AsksNext (walks.step d) a) (sym (stands_at walks memory control p (i - 1) r within run_is c
        (subst (λ n. item_at (moment walks memory control p).configs n ≡ Some c) number at))) asked

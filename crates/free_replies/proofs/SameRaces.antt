-- A run that follows a decided trace is decided too.
use Rattle.std.proofs.Common.{◌≡◌, ℕ, Bool, true, false, ◌&&◌, ◌||◌, not, cond, List, inl, inr, refl, ap, sym, ◌∙◌, arith}
use Rattle.std.proofs.lemmas.Bool.{cases_lt}
use Rattle.trace_theory.specs.Machines.{Said}
use Rattle.caf_events.specs.declared.ask.Ask.{Ask}
use Rattle.caf_events.specs.declared.reply.Reply.{Reply}
use Rattle.caf_events.specs.declared.event.Entry.{Entry}
use Rattle.object_rules.specs.Cells.{Declared}
use Rattle.core_runs.specs.Lawful.{IsLawfulTrace}
use Rattle.order_theory.specs.Races.{Class, is_access, is_atomic, defines, is_making, meets, Stands, place, Race}
use Rattle.order_theory.specs.Acts.{Act, posts, creates, deletes}
use Rattle.order_theory.specs.Facts.{AccessesCell}
use Rattle.order_axioms.specs.Views.{view, edges, act_of}
use Rattle.order_axioms.specs.Touching.{touches}
use Rattle.order_axioms.specs.FirstRaces.{HasNoRace}
use Rattle.order_cuts.specs.Cuts.{IsSame}
use Rattle.order_cuts.proofs.OwnParts.{known, same_act}
use Rattle.order_cuts.proofs.Inside.{race_back, stands_short, same_here}
use Rattle.every_order.specs.Decided.{IsDecided}
use Rattle.every_order.specs.Likes.{likes}
use Rattle.free_replies.proofs.Followers.{quiet, IsRun, free_run}

both_swap : (a b : Bool) → (a && b) ≡ (b && a)
both_swap true true = refl
both_swap true false = refl
both_swap false true = refl
both_swap false false = refl

either_swap : (a b : Bool) → (a || b) ≡ (b || a)
either_swap true true = refl
either_swap true false = refl
either_swap false true = refl
either_swap false false = refl

meets_swap : (k m : Class) → meets k m ≡ meets m k
meets_swap k m =
    ap (λ z. cond z ((defines k || defines m) && not (is_atomic k && is_atomic m)) (is_making k || is_making m)) (both_swap (is_access k) (is_access m))
    ∙ ap (λ z. cond (is_access m && is_access k) (z && not (is_atomic k && is_atomic m)) (is_making k || is_making m)) (either_swap (defines k) (defines m))
    ∙ ap (λ z. cond (is_access m && is_access k) ((defines m || defines k) && not z) (is_making k || is_making m)) (both_swap (is_atomic k) (is_atomic m))
    ∙ ap (λ z. cond (is_access m && is_access k) ((defines m || defines k) && not (is_atomic m && is_atomic k)) z) (either_swap (is_making k) (is_making m))

-- a race has no order
race_swap : (n : ℕ) (t : List Entry) (x y : Stands t) → Race (edges n) touches t x y → Race (edges n) touches t y x
race_swap n t x y r = record {
  conflict = record {
    images = λ e. r.conflict.images (sym e);
    cell = r.conflict.cell;
    shared = (r.conflict.shared.1, r.conflict.shared.0);
    met = meets_swap (touches.class_of y.event) (touches.class_of x.event) ∙ r.conflict.met;
  };
  not_before = r.not_after;
  not_after = r.not_before;
}

module _ (s : List Declared) (n : ℕ) (t : List Entry) (lawful_t : IsLawfulTrace s n t) (decided : IsDecided n t) (g : List Entry) (run : IsRun s n t lawful_t decided.free decided.no_race g) where
  abbrev known_as : (y : Stands g) → (x : Stands t) × IsSame (view n) (likes n) x y
  known_as y = known Entry (Said Ask Reply) (view n) (likes n) t g run.follows y

  act_as : (y : Stands g) (a : Act) → act_of y.event ≡ a → act_of (known_as y).0.event ≡ a
  act_as y a e = same_act Entry (Said Ask Reply) (view n) (likes n) t g run.follows (known_as y).0 y (known_as y).1 ∙ e

  no_race : HasNoRace (edges n) touches g
  no_race x y l short race =
      let p = known_as x in
      let q = known_as y in
      let r = race_back Entry (Said Ask Reply) (view n) (likes n) t g run.follows (AccessesCell touches) (quiet s n t lawful_t decided.free decided.no_race) run.silent run.keeps touches decided.no_race
      (λ a b same. (run.alike_class a b same, run.alike_cells a b same)) p.0 q.0 x y p.1 q.1 race in
      elim (cases_lt (place p.0) (place q.0)) [
        | inl m ↦ decided.no_race p.0 q.0 m (stands_short Entry (Said Ask Reply) (view n) (likes n) q.0) r
        | inr m ↦ elim (cases_lt (place q.0) (place p.0)) [
          | inl k ↦ decided.no_race q.0 p.0 k (stands_short Entry (Said Ask Reply) (view n) (likes n) p.0) (race_swap n t p.0 q.0 r)
          | inr k ↦ r.conflict.images (same_here Entry (Said Ask Reply) (view n) (likes n) p.0 q.0 (omega arith))
        ]
      ]

  -- What follows a decided trace is decided.
  pub decided_too : IsLawfulTrace s n g → IsDecided n g
  decided_too lawful = record {
    no_race = no_race;
    free = free_run s n t lawful_t decided.free decided.no_race g lawful run.follows;
    one_poster = λ x y c px py. sym (known_as x).1.image ∙ decided.one_poster (known_as x).0 (known_as y).0 c (act_as x (posts c) px) (act_as y (posts c) py) ∙ (known_as y).1.image;
    events_stay = λ x y c px. (
        let stay = decided.events_stay (known_as x).0 (known_as y).0 c (act_as x (posts c) px) in
        ((λ e. stay.0 (act_as y (creates c.owner c.coarray) e)), (λ e. stay.1 (act_as y (deletes c.owner c.coarray) e))));
  }

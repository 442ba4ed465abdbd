-- Lanes over programs that come to rest near each other come to rest with their programs near each other.
use Rattle.std.proofs.Common.{◌≡◌, ℕ, ◌+◌, List, [], ◌∷◌, inl, inr, refl, ap, ◌∙◌, subst, sym}
use Rattle.std.proofs.lemmas.Bool.{cases_Bool}
use Rattle.caf_events.specs.declared.ask.Ask.{Ask}
use Rattle.caf_events.specs.declared.reply.Reply.{Reply}
use Rattle.caf_events.specs.Answers.{Answers}
use Rattle.caf_events.specs.Events.{counts_words}
use Rattle.trace_theory.specs.Machines.{Move, goes, asks, over, Said, go, goes_on, Comes, Walk, WalkTo, Rests}
use Rattle.trace_theory.specs.Simulations.{Matches, Simulates, AllAnswer, SameRest, RestsNear}
use Rattle.trace_theory.proofs.Machines.{stays, comes_later, go_more, one_next_ask, one_stop, walk_to_later}
use Rattle.trace_theory.proofs.Rests.{same_rest_rests, one_place, rests_onward}
use Rattle.image_lanes.specs.Lanes.{Course, by_program, failing, at_end, OnLane, is_due, is_full, is_failure, begins_to_fail, comes_to_end, goes_past, fails_on, program_next, lane_step, lane_start}
use Rattle.image_lanes.proofs.LaneLaws.{at_program, go_lane}

module _ {D : Type 0} (step : D → Move D Ask Reply) where
  -- what is done at a stop is what comes
  stop_comes : (n : ℕ) (x f : D) → go step n x ≡ goes f → Rests (step f) → Comes step x (step f)
  stop_comes n x f to s = (n + 1, go_more D Ask Reply step n 1 x ∙ ap (λ v. goes_on v (go step 1)) to ∙ stays (step f) (go step 0) s)

  at_once : (f : D) (a : Ask) (l : ℕ) (k : Reply → D) → step f ≡ asks a l k → Comes step f (asks a l k)
  at_once f a l k h = (1, ap (λ v. goes_on v (go step 0)) h)

  -- a walk to a stop goes by the stops on its way
  by_stop : (n : ℕ) (x f g : D) (es : List (Said Ask Reply)) → go step n x ≡ goes f → Rests (step f) → Rests (step g) → WalkTo step x es g → WalkTo step f es g
  by_stop n x f g [] to s t (m, w, k, p) = (f, refl, 0, ap goes (one_place D Ask Reply step n k x f g to (ap (go step k) (sym w) ∙ p) s t))
  by_stop n x f g (e ∷ es) to s t (m, (k, comes, w), j, p) =
      let h = one_stop D Ask Reply step x (step f) (asks e.ask e.line k) s tt (stop_comes n x f to s) comes in
      (m, (k, at_once f e.ask e.line k h, w), j, p)

module _ {C D : Type 0} where
  pub rest_back : (v : Move C Ask Reply) (u : Move D Ask Reply) → SameRest v u → SameRest u v
  rest_back (goes c) u h = absurd h
  rest_back (asks a l j) u h = subst (λ x. SameRest x (asks a l j)) (sym h.1) (j, refl)
  rest_back over u h = subst (λ x. SameRest {D = C} x over) (sym h) refl

module _ {C D : Type 0} (near : C → D → Type 0) (source : C → Move C Ask Reply) (target : D → Move D Ask Reply) where
  -- where the one walks to rest the other walks to rest near it, in the same way
  abbrev pub RestsAs : C → D → Type 0
  RestsAs c d = (es : List (Said Ask Reply)) (e : C) → AllAnswer Answers es → WalkTo source c es e → Rests (source e) → (f : D) × WalkTo target d es f × near e f × SameRest (source e) (target f)

  -- both rest near each other in the same way, and do so from there on
  record AlikeAt (c : C) (d : D) : Type 0 where
    close : near c d
    same : SameRest (source c) (target d)
    rest_on : RestsAs c d

  -- the other comes to a stop that is alike
  record Came (c : C) (y : D) : Type 0 where
    there : D
    steps : ℕ
    comes : go target steps y ≡ goes there
    alike : AlikeAt c there

  later : (n m : ℕ) (x c : C) (y d : D) → RestsAs x y → go source n x ≡ goes c → go target m y ≡ goes d → Rests (target d) → RestsAs c d
  later n m x c y d says p q s es e answers w rests =
      let r = says es e answers (walk_to_later C Ask Reply source n x c e es p w) rests in
      (r.0, by_stop target m y d r.0 es q s (same_rest_rests (source e) (target r.0) r.3) r.1, r.2, r.3)

  come : (x : C) (y : D) → RestsAs x y → (n : ℕ) (c : C) → go source n x ≡ goes c → Rests (source c) → Came c y
  come x y says n c p s =
      let r = says [] c tt (x, refl, n, p) s in
      let w = r.1 in
      let q : go target w.2 y ≡ goes r.0 = ap (go target w.2) (sym w.1) ∙ w.3 in
      record { there = r.0; steps = w.2; comes = q; alike = record { close = r.2; same = r.3; rest_on = later n w.2 x c y r.0 says p q (same_rest_rests (source c) (target r.0) r.3) } }

  -- behind an ask and a reply that answers it too
  behind : (c : C) (d : D) (a : Ask) (l : ℕ) (k : Reply → C) (j : Reply → D) → source c ≡ asks a l k → target d ≡ asks a l j → RestsAs c d → (q : Reply) → Answers a q → RestsAs (k q) (j q)
  behind c d a l k j at to says q answer es e answers w rests =
      let s : Said Ask Reply = record { ask = a; reply = q; line = l } in
      let all = says (s ∷ es) e (answer, answers) (w.0, (k, at_once source c a l k at, w.1), w.2, w.3) rests in
      let u = all.1 in
      let o = (one_next_ask D Ask Reply target d a a l l u.1.0 j u.1.1 (at_once target d a l j to)).2 in
      (all.0, (u.0, subst (λ (i : Reply → D). Walk target (i q) es u.0) o u.1.2, u.2, u.3), all.2, all.3)

  -- ---- lanes
  abbrev other_lane : OnLane C → D → OnLane D
  other_lane l d = record { image = l.image; fails_in = l.fails_in; limit = l.limit; program = d; words = l.words; held = l.held; course = l.course }

  abbrev with_course : OnLane C → Course → OnLane C
  with_course l v = record l { course = v }

  -- where a lane goes on by its program it does what its program does, else its program stays near
  abbrev RestAlike : Course → C → D → Type 0
  RestAlike by_program c d = RestsAs c d
  RestAlike (failing steps line) c d = near c d
  RestAlike at_end c d = near c d

  record Alike (l : OnLane C) (q : OnLane D) : Type 0 where
    program : D
    is : q ≡ other_lane l program
    rest : RestAlike l.course l.program program

  -- the programs of two lanes are near each other
  abbrev pub NearLanes : OnLane C → OnLane D → Type 0
  NearLanes l q = near l.program q.program

  abbrev AlikeMoves : Move (OnLane C) Ask Reply → Move (OnLane D) Ask Reply → Type 0
  AlikeMoves (goes l) u = ⊥
  AlikeMoves (asks a n j) u = (k : Reply → OnLane D) × ((r : Reply) → Answers a r → Alike (j r) (k r)) × (u ≡ asks a n k)
  AlikeMoves over u = u ≡ over

  both_are : (v w : Move (OnLane C) Ask Reply) (u t : Move (OnLane D) Ask Reply) → v ≡ w → u ≡ t → AlikeMoves w t → AlikeMoves v u
  both_are v w u t p q h = subst (λ x. AlikeMoves x u) (sym p) (subst (AlikeMoves w) (sym q) h)

  next_alike : (l : OnLane C) (x : C) (f : D) (a : Ask) (line : ℕ) (k : Reply → C) (j : Reply → D) → near x f → ((r : Reply) → Answers a r → RestsAs (k r) (j r))
      → AlikeMoves (program_next (at_program l x) (asks a line k)) (program_next (at_program (other_lane l f) f) (asks a line j))
  next_alike l x f a line k j close onward =
      let q = other_lane l f in
      elim (cases_Bool (is_due l)) [
        | inl due ↦ rw due (λ r. begins_to_fail (at_program q f) 0, λ r ok. record { program = f; is = refl; rest = close }, refl)
        | inr free ↦ elim (cases_Bool (is_failure a)) [
          | inl fails ↦ rw (free, fails) (λ r. begins_to_fail (at_program q f) line, λ r ok. record { program = f; is = refl; rest = close }, refl)
          | inr none ↦ elim (cases_Bool (is_full l)) [
            | inl full ↦ rw (free, none, full) (λ r. comes_to_end (at_program q f), λ r ok. record { program = f; is = refl; rest = close }, refl)
            | inr room ↦ elim (cases_Bool (counts_words a)) [
              | inl counts ↦ (
                  let here : program_next (at_program l x) (asks a line k) ≡ asks a line (λ r. goes_past (at_program l x) a r (k r)) = rw (free, none, room, counts) refl in
                  let there : program_next (at_program q f) (asks a line j) ≡ asks a line (λ r. goes_past (at_program q f) a r (j r)) = rw (free, none, room, counts) refl in
                  both_are (program_next (at_program l x) (asks a line k)) (asks a line (λ r. goes_past (at_program l x) a r (k r))) (program_next (at_program q f) (asks a line j)) (asks a line (λ r. goes_past (at_program q f) a r (j r))) here there
                  (λ r. goes_past (at_program q f) a r (j r), λ r ok. record { program = j r; is = refl; rest = onward r ok }, refl))
              | inr silent ↦ rw (free, none, room, silent) (λ r. comes_to_end (at_program q f), λ r ok. record { program = f; is = refl; rest = close }, refl)
            ]
          ]
        ]
      ]

  -- the other lane comes to a place near this one, and does the same there
  record Near (l : OnLane C) (q : OnLane D) (v : Move (OnLane C) Ask Reply) : Type 0 where
    place : OnLane D
    steps : ℕ
    comes : go (lane_step target) steps q ≡ goes place
    close : NearLanes l place
    moves : AlikeMoves v (lane_step target place)

  near_program : (l : OnLane C) (d : D) (v : Move C Ask Reply) → source l.program ≡ v → RestsAs l.program d → Rests v → Near (with_course l by_program) (other_lane (with_course l by_program) d) (program_next (with_course l by_program) v)
  near_program l d (goes c) at says s = absurd s
  near_program l d (asks a line k) at says s =
      let r = come l.program d says 0 l.program refl (subst Rests (sym at) tt) in
      let t = subst (λ v. SameRest v (target r.there)) at r.alike.same in
      let q = other_lane l r.there in
      record {
        place = at_program q r.there;
        steps = r.steps;
        comes = go_lane target r.steps q d r.there r.comes;
        close = r.alike.close;
        moves = subst (λ u. AlikeMoves (program_next (with_course l by_program) (asks a line k)) (program_next (at_program q r.there) u)) (sym t.1)
            (next_alike l l.program r.there a line k t.0 r.alike.close (λ x ok. behind l.program r.there a line k t.0 at t.1 r.alike.rest_on x ok));
      }
  near_program l d over at says s =
      let r = come l.program d says 0 l.program refl (subst Rests (sym at) tt) in
      let t = subst (λ v. SameRest v (target r.there)) at r.alike.same in
      let q = other_lane l r.there in
      record {
        place = at_program q r.there;
        steps = r.steps;
        comes = go_lane target r.steps q d r.there r.comes;
        close = r.alike.close;
        moves = ap (program_next (at_program q r.there)) t;
      }

  -- ---- the simulation
  matched_near : (l : OnLane C) (q : OnLane D) (v : Move (OnLane C) Ask Reply) → Near l q v → Matches Alike Answers (lane_step target) v q
  matched_near l q (goes m) n = absurd n.moves
  matched_near l q (asks a line j) n = (n.moves.0, comes_later (OnLane D) Ask Reply (lane_step target) n.steps q n.place a line n.moves.0 n.comes n.moves.2, n.moves.1)
  matched_near l q over n =
      (n.steps + 1, go_more (OnLane D) Ask Reply (lane_step target) n.steps 1 q ∙ ap (λ v. goes_on v (go (lane_step target) 1)) n.comes ∙ ap (λ v. goes_on v (go (lane_step target) 0)) n.moves)

  matched_program : (l : OnLane C) (d : D) (v : Move C Ask Reply) → source l.program ≡ v → RestsAs l.program d
      → Matches Alike Answers (lane_step target) (program_next (with_course l by_program) v) (other_lane (with_course l by_program) d)
  matched_program l d (goes c) at says = (
    0,
    other_lane (with_course l by_program) d,
    refl,
    record {
      program = d;
      is = refl;
      rest = λ es e answers w rests. says es e answers (walk_to_later C Ask Reply source 1 l.program c e es (ap (λ v. goes_on v (go source 0)) at) w) rests;
    },
  )
  matched_program l d (asks a line k) at says = matched_near _ _ (program_next (with_course l by_program) (asks a line k)) (near_program l d (asks a line k) at says tt)
  matched_program l d over at says = matched_near (with_course l by_program) (other_lane (with_course l by_program) d) over (near_program l d over at says tt)

  matched : (l : OnLane C) (d : D) (v : Course) → RestAlike v l.program d → Matches Alike Answers (lane_step target) (lane_step source (with_course l v)) (other_lane (with_course l v) d)
  matched l d by_program says = matched_program l d (source l.program) refl says
  matched l d (failing [] line) close = (1, refl)
  matched l d (failing (a ∷ as_) line) close = (λ r. fails_on (other_lane l d) as_ line, (1, refl), λ r ok. record { program = d; is = refl; rest = close })
  matched l d at_end close = (1, refl)

  sim : Simulates Alike Answers (lane_step source) (lane_step target)
  sim l q h = subst (Matches Alike Answers (lane_step target) (lane_step source l)) (sym h.is) (matched l h.program l.course h.rest)

  -- ---- where they stop
  moves_rest : (v : Move (OnLane C) Ask Reply) (u : Move (OnLane D) Ask Reply) → AlikeMoves v u → SameRest v u
  moves_rest (goes l) u h = h
  moves_rest (asks a n j) u h = (h.0, h.2)
  moves_rest over u h = h

  program_rests : (l : OnLane C) (v : Move C Ask Reply) → Rests (program_next (with_course l by_program) v) → Rests v
  program_rests l (goes c) s = s
  program_rests l (asks a line k) s = tt
  program_rests l over s = tt

  near_there : (l : OnLane C) (d : D) (v : Course) → RestAlike v l.program d → Rests (lane_step source (with_course l v)) → Near (with_course l v) (other_lane (with_course l v) d) (lane_step source (with_course l v))
  near_there l d by_program says s = near_program l d (source l.program) refl says (program_rests l (source l.program) s)
  near_there l d (failing [] line) close s = record { place = other_lane (with_course l (failing [] line)) d; steps = 0; comes = refl; close = close; moves = refl }
  near_there l d (failing (a ∷ as_) line) close s = record {
    place = other_lane (with_course l (failing (a ∷ as_) line)) d;
    steps = 0;
    comes = refl;
    close = close;
    moves = (λ r. fails_on (other_lane l d) as_ line, λ r ok. record { program = d; is = refl; rest = close }, refl);
  }
  near_there l d at_end close s = record { place = other_lane (with_course l at_end) d; steps = 0; comes = refl; close = close; moves = refl }

  stops : RestsNear Alike NearLanes (lane_step source) (lane_step target)
  stops l q h s =
      let n = near_there l h.program l.course h.rest s in
      (n.steps, n.place, ap (go (lane_step target) n.steps) h.is ∙ n.comes, n.close, moves_rest (lane_step source l) (lane_step target n.place) n.moves)

  -- lanes over programs that rest near each other rest with their programs near each other
  pub lanes_rest : (image fails_at limit : ℕ) (c : C) (d : D) → RestsAs c d → (es : List (Said Ask Reply)) (l : OnLane C) → AllAnswer Answers es
      → WalkTo (lane_step source) (lane_start image fails_at limit c) es l → Rests (lane_step source l)
      → (q : OnLane D) × WalkTo (lane_step target) (lane_start image fails_at limit d) es q × NearLanes l q × SameRest (lane_step source l) (lane_step target q)
  lanes_rest image fails_at limit c d says es l answers w rests =
      rests_onward (OnLane C) (OnLane D) Ask Reply Alike Answers (lane_step source) (lane_step target) sim NearLanes stops (lane_start image fails_at limit c) l (lane_start image fails_at limit d) es answers
      (record { program = d; is = refl; rest = says }) w rests

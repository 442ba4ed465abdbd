-- Programs that say the same: where the one comes to rest the other does, and behind an ask and its reply they say the
-- same again.
use Rattle.std.proofs.Common.{◌≡◌, ℕ, ◌+◌, List, [], ◌∷◌, refl, ap, sym, ◌∙◌, subst}
use Rattle.caf_events.specs.declared.ask.Ask.{Ask}
use Rattle.caf_events.specs.declared.reply.Reply.{Reply}
use Rattle.caf_events.specs.Answers.{Answers}
use Rattle.trace_theory.specs.Equivalence.{SameWalks}
use Rattle.trace_theory.specs.Machines.{Move, goes, asks, over, Said, go, goes_on, Comes, Walk, WalkTo, Rests}
use Rattle.trace_theory.specs.Simulations.{AllAnswer, SameRest}
use Rattle.trace_theory.proofs.Machines.{stays, go_more, one_next_ask, one_stop, comes_later, walk_to_later}
use Rattle.trace_theory.proofs.Rests.{same_rest_rests, standing, one_place}
use Rattle.core_runs.specs.Same.{SaysAs}

module _ {D : Type 0} (step : D → Move D Ask Reply) where
  -- what is done at a stop is what comes
  stop_comes : (n : ℕ) (x f : D) → go step n x ≡ goes f → Rests (step f) → Comes step x (step f)
  stop_comes n x f to s = (n + 1, go_more D Ask Reply step n 1 x ∙ ap (λ v. goes_on v (go step 1)) to ∙ stays (step f) (go step 0) s)

  at_once : (f : D) (a : Ask) (l : ℕ) (k : Reply → D) → step f ≡ asks a l k → Comes step f (asks a l k)
  at_once f a l k h = (1, ap (λ v. goes_on v (go step 0)) h)

  -- a walk to a stop goes by the stops on its way
  by_stop : (n : ℕ) (x f g : D) (es : List (Said Ask Reply)) → go step n x ≡ goes f → Rests (step f) → Rests (step g) → WalkTo step x es g → WalkTo step f es g
  by_stop n x f g [] to s t (m, w, k, p) = (f, refl, 0, ap goes (one_place D Ask Reply step n k x f g to (ap (go step k) (sym w) ∙ p) s t))
  by_stop n x f g (e ∷ es) to s t (m, (k, comes, w), j, p) =
      let h = one_stop D Ask Reply step x (step f) (asks e.ask e.line k) s tt (stop_comes n x f to s) comes in
      (m, (k, at_once f e.ask e.line k h, w), j, p)

module _ {C D : Type 0} (source : C → Move C Ask Reply) (target : D → Move D Ask Reply) where
  -- both rest in the same way, and say the same from there on
  pub record AlikeAt (c : C) (d : D) : Type 0 where
    pub same : SameRest (source c) (target d)
    pub says : SaysAs source target c d

  -- the other comes to a stop that is alike
  pub record Came (c : C) (y : D) : Type 0 where
    pub there : D
    pub steps : ℕ
    pub comes : go target steps y ≡ goes there
    pub alike : AlikeAt c there

  later : (n m : ℕ) (x c : C) (y d : D) → SaysAs source target x y → go source n x ≡ goes c → go target m y ≡ goes d → Rests (target d) → SaysAs source target c d
  later n m x c y d says p q s es e answers w rests =
      let r = says es e answers (walk_to_later C Ask Reply source n x c e es p w) rests in
      (r.0, by_stop target m y d r.0 es q s (same_rest_rests (source e) (target r.0) r.2) r.1, r.2)

  -- where the one comes to rest without an ask, the other comes to rest in the same way
  pub come : (x : C) (y : D) → SaysAs source target x y → (n : ℕ) (c : C) → go source n x ≡ goes c → Rests (source c) → Came c y
  come x y says n c p s =
      let r = says [] c tt (x, refl, n, p) s in
      let w = r.1 in
      let q : go target w.2 y ≡ goes r.0 = ap (go target w.2) (sym w.1) ∙ w.3 in
      record { there = r.0; steps = w.2; comes = q; alike = record { same = r.2; says = later n w.2 x c y r.0 says p q (same_rest_rests (source c) (target r.0) r.2) } }

  -- behind an ask and a reply that answers it they say the same
  pub behind : (c : C) (d : D) (a : Ask) (l : ℕ) (k : Reply → C) (j : Reply → D) → source c ≡ asks a l k → target d ≡ asks a l j → SaysAs source target c d → (q : Reply) → Answers a q → SaysAs source target (k q) (j q)
  behind c d a l k j at to says q answer es e answers w rests =
      let s : Said Ask Reply = record { ask = a; reply = q; line = l } in
      let all = says (s ∷ es) e (answer, answers) (w.0, (k, at_once source c a l k at, w.1), w.2, w.3) rests in
      let u = all.1 in
      let o = (one_next_ask D Ask Reply target d a a l l u.1.0 j u.1.1 (at_once target d a l j to)).2 in
      (all.0, (u.0, subst (λ (i : Reply → D). Walk target (i q) es u.0) o u.1.2, u.2, u.3), all.2)

  -- an ask of the one is one of the other, behind which they say the same
  pub record Likewise (a : Ask) (l : ℕ) (k : Reply → C) (d : D) : Type 0 where
    pub there : D
    pub then : Reply → D
    pub steps : ℕ
    pub comes : go target steps d ≡ goes there
    pub asked : target there ≡ asks a l then
    pub onward : (q : Reply) → Answers a q → SaysAs source target (k q) (then q)

  likewise_there : (x : C) (y : D) (a : Ask) (l : ℕ) (k : Reply → C) → source x ≡ asks a l k → Came x y → Likewise a l k y
  likewise_there x y a l k at r =
      let t = subst (λ v. SameRest v (target r.there)) at r.alike.same in
      record { there = r.there; then = t.0; steps = r.steps; comes = r.comes; asked = t.1; onward = behind x r.there a l k t.0 at t.1 r.alike.says }

  pub likewise : (c x : C) (d : D) (a : Ask) (l : ℕ) (k : Reply → C) (n : ℕ) → SaysAs source target c d → go source n c ≡ goes x → source x ≡ asks a l k → Likewise a l k d
  likewise c x d a l k n says h at = likewise_there x d a l k at (come c d says n x h (subst Rests (sym at) tt))

  -- what the one says and hears the other says and hears, also up to where it doesn't stop
  pub walks_same : (es : List (Said Ask Reply)) (x e : C) (y : D) → SaysAs source target x y → AllAnswer Answers es → Walk source x es e → (f : D) × Walk target y es f
  walks_same [] x e y says answers w = (y, refl)
  walks_same (s ∷ es) x e y says (answer, answers) (k, comes, w) =
      let st = standing C Ask Reply source comes.0 x (subst Rests (sym comes.1) tt) in
      let at = one_stop C Ask Reply source x (source st.at) (asks s.ask s.line k) st.stops tt (stop_comes source st.steps x st.at st.comes st.stops) comes in
      let n = likewise x st.at y s.ask s.line k st.steps says st.comes at in
      let r = walks_same es (k s.reply) e (n.then s.reply) (n.onward s.reply answer) answers w in
      (r.0, (n.then, comes_later D Ask Reply target n.steps y n.there s.ask s.line n.then n.comes n.asked, r.1))

  same_back : (v : Move C Ask Reply) (u : Move D Ask Reply) → SameRest v u → SameRest u v
  same_back (goes c) u h = absurd h
  same_back (asks a l j) u h = subst (λ x. SameRest x (asks a l j)) (sym h.1) (j, refl)
  same_back over u h = subst (λ x. SameRest {D = C} x over) (sym h) refl

  -- machines with the same walks say the same, both ways
  pub says_onward : (after near : C → D → Type 0) (c : C) (d : D) → SameWalks Answers after near source c target d → SaysAs source target c d
  says_onward after near c d h es e answers w rests = (let r = h.rests_onward es e answers w rests in (r.0, r.1, r.3))

  pub says_backward : (after near : C → D → Type 0) (c : C) (d : D) → SameWalks Answers after near source c target d → SaysAs target source d c
  says_backward after near c d h es f answers w rests = (let r = h.rests_backward es f answers w rests in (r.0, r.1, same_back (source r.0) (target f) r.3))

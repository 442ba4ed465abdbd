-- Runs of programs that say the same are the same: the same steps, the same candidates, and the same waits.
use Rattle.std.proofs.Common.{◌≡◌, ℕ, zero, suc, ◌+◌, IsTrue, List, [], ◌∷◌, inl, inr, length, refl, ap, sym, ◌∙◌, subst, arith}
use Rattle.std.specs.Prelude.{Option, Some, None, max, slice_get, slice_set}
use Rattle.std.specs.List.{filter}
use Rattle.caf_base.specs.declared.place.Place.{Place}
use Rattle.caf_base.specs.declared.place.Place.TheVariants as places
use Rattle.caf_events.specs.declared.ask.Ask.{Ask}
use Rattle.caf_events.specs.declared.reply.Reply.{Reply}
use Rattle.caf_events.specs.declared.event.Event.{Event}
use Rattle.caf_events.specs.declared.event.Entry.{Entry}
use Rattle.caf_events.specs.Answers.{Answers}
use Rattle.caf_events.specs.Asks.{place_of}
use Rattle.caf_events.specs.Histories.{last_stamp_of}
use Rattle.caf_events.specs.Walkers.{AsksNext, IsAtLine, IsOver, Continues}
use Rattle.trace_theory.specs.Machines.{Move, goes, asks, over, go, Rests}
use Rattle.trace_theory.specs.Simulations.{AllAnswer, SameRest}
use Rattle.trace_theory.proofs.Rests.{same_rest_rests}
use Rattle.core_runs.specs.Lists.{list_at, last_of}
use Rattle.core_runs.specs.Moments.{Rules, Moment, item_at, with_item, history_there, memory_ready_at, memory_reply_at, ready_there, reply_there, can_move, can_move_from, can_step, Steps}
use Rattle.core_runs.specs.Beginnings.{Beginning, IsFirst, IsImage, numbers_to}
use Rattle.core_runs.specs.CoreRuns.{IsCoreRun, IsFit, said_by}
use Rattle.core_runs.specs.Kept.{IsKept}
use Rattle.core_runs.specs.Lanes.{IsMoment, HearsDue}
use Rattle.core_runs.specs.Orders.{Chooser, candidates, Ordered, IsWhole, OrderRun, IsOrderTrace}
use Rattle.core_runs.specs.Sequences.{IsOrderly, EndsByItself}
use Rattle.core_runs.specs.Waits.{IsUnready, IsWaiting}
use Rattle.core_runs.specs.Same.{SaysAs, ImagesSayAs, RepliesAnswer, with_programs}
use Rattle.core_runs.proofs.Answered.{answers_there}
use Rattle.core_runs.proofs.Beginnings.{first_kept}
use Rattle.core_runs.proofs.KeptMore.{kept_more}
use Rattle.core_runs.proofs.Lanes.{own_answers}
use Rattle.core_runs.proofs.Lawfuls.{answered_by, answered_if}
use Rattle.core_runs.proofs.Numbered.{item_within}
use Rattle.core_runs.proofs.SaysSame.{AlikeAt, come, behind, walks_same}

module _ {C D M B : Type 0} (r : Rules C M B) (step : D → Move D Ask Reply) (hears : D → Reply → Type 0) where
  -- the same memories and board for other programs
  abbrev pub other : Rules D M B
  other = record { step = step; hears = hears; memory_ready = r.memory_ready; memory_reply = r.memory_reply; board_ready = r.board_ready; board_reply = r.board_reply }

  -- the same moment with other programs
  abbrev there : Moment C M B → List D → Moment D M B
  there m ds = record { configs = ds; events = m.events; memories = m.memories; histories = m.histories; board = m.board; board_history = m.board_history }

  -- ---- each image's programs are alike
  abbrev Pairs : List C → List D → Type 0
  Pairs [] [] = Unit {0}
  Pairs [] (d ∷ ds) = ⊥
  Pairs (c ∷ cs) [] = ⊥
  Pairs (c ∷ cs) (d ∷ ds) = AlikeAt r.step step c d × Pairs cs ds

  pairs_length : (cs : List C) (ds : List D) → Pairs cs ds → length ds ≡ length cs
  pairs_length [] [] h = refl
  pairs_length [] (d ∷ ds) h = absurd h
  pairs_length (c ∷ cs) [] h = absurd h
  pairs_length (c ∷ cs) (d ∷ ds) h = ap suc (pairs_length cs ds h.1)

  record Paired (c : C) (o : Option D) : Type 0 where
    config : D
    is : o ≡ Some config
    alike : AlikeAt r.step step c config

  pairs_get : (cs : List C) (ds : List D) (k : ℕ) (c : C) → Pairs cs ds → slice_get cs k ≡ Some c → Paired c (slice_get ds k)
  pairs_get [] ds k c h e = absurd (cc)
  pairs_get (x ∷ cs) [] k c h e = absurd h
  pairs_get (x ∷ cs) (d ∷ ds) zero c h e = record { config = d; is = refl; alike = (let s : x ≡ c = cc in subst (λ y. AlikeAt r.step step y d) s h.0) }
  pairs_get (x ∷ cs) (d ∷ ds) (suc k) c h e = pairs_get cs ds k c h.1 e

  pairs_item : (cs : List C) (ds : List D) (i : ℕ) (c : C) → Pairs cs ds → item_at cs i ≡ Some c → Paired c (item_at ds i)
  pairs_item cs ds zero c h e = absurd (cc)
  pairs_item cs ds (suc k) c h e = pairs_get cs ds k c h e

  pairs_set : (cs : List C) (ds : List D) (k : ℕ) (c : C) (d : D) → Pairs cs ds → AlikeAt r.step step c d → Pairs (slice_set cs k c) (slice_set ds k d)
  pairs_set [] [] k c d h a = tt
  pairs_set [] (y ∷ ds) k c d h a = absurd h
  pairs_set (x ∷ cs) [] k c d h a = absurd h
  pairs_set (x ∷ cs) (y ∷ ds) zero c d h a = (a, h.1)
  pairs_set (x ∷ cs) (y ∷ ds) (suc k) c d h a = (h.0, pairs_set cs ds k c d h.1 a)

  pairs_with : (cs : List C) (ds : List D) (i : ℕ) (c : C) (d : D) → Pairs cs ds → AlikeAt r.step step c d → Pairs (with_item cs i c) (with_item ds i d)
  pairs_with cs ds zero c d h a = h
  pairs_with cs ds (suc k) c d h a = pairs_set cs ds k c d h a

  -- ---- the same is ready, and the same reply is due
  memory_ready_same : (h : List Entry) (i : ℕ) (a : Ask) (v : Option M) → memory_ready_at other h i a v ≡ memory_ready_at r h i a v
  memory_ready_same h i a None = refl
  memory_ready_same h i a (Some made) = refl

  memory_reply_same : (h : List Entry) (i : ℕ) (a : Ask) (v : Option M) → memory_reply_at other h i a v ≡ memory_reply_at r h i a v
  memory_reply_same h i a None = refl
  memory_reply_same h i a (Some made) = refl

  module _ (m : Moment C M B) (ds : List D) where
    ready_same : (i : ℕ) (a : Ask) (q : Place) → ready_there other (there m ds) i a q ≡ ready_there r m i a q
    ready_same i a (places.Memory owner) = memory_ready_same _ i a (item_at m.memories owner.0)
    ready_same i a places.Board = refl
    ready_same i a places.Own = refl

    reply_same : (i : ℕ) (a : Ask) (q : Place) → reply_there other (there m ds) i a q ≡ reply_there r m i a q
    reply_same i a (places.Memory owner) = memory_reply_same _ i a (item_at m.memories owner.0)
    reply_same i a places.Board = refl
    reply_same i a places.Own = refl

    history_same : (q : Place) → history_there (there m ds) q ≡ history_there m q
    history_same (places.Memory owner) = refl
    history_same places.Board = refl
    history_same places.Own = refl

    move_same : (i : ℕ) (v : Move C Ask Reply) (u : Move D Ask Reply) → SameRest v u → can_move other (there m ds) i u ≡ can_move r m i v
    move_same i (goes c) u s = absurd s
    move_same i (asks a l k) u s = ap (can_move other (there m ds) i) s.1 ∙ ready_same i a (place_of a)
    move_same i over u s = ap (can_move other (there m ds) i) s

    from_same : (i : ℕ) (cs : List C) (es : List D) (k : ℕ) → Pairs cs es → can_move_from other (there m ds) i (slice_get es k) ≡ can_move_from r m i (slice_get cs k)
    from_same i [] [] k h = refl
    from_same i [] (e ∷ es) k h = absurd h
    from_same i (c ∷ cs) [] k h = absurd h
    from_same i (c ∷ cs) (e ∷ es) zero h = move_same i (r.step c) (step e) h.0.same
    from_same i (c ∷ cs) (e ∷ es) (suc k) h = from_same i cs es k h.1

    can_same : Pairs m.configs ds → (i : ℕ) → can_step other (there m ds) i ≡ can_step r m i
    can_same h zero = refl
    can_same h (suc k) = from_same (suc k) m.configs ds k h

    -- the same images can step
    candidates_same : Pairs m.configs ds → candidates other (there m ds) ≡ candidates r m
    candidates_same h =
        let can : can_step other (there m ds) ≡ can_step r m = λ x i. can_same h i x in
        ap (λ p. filter p (numbers_to (length ds))) can ∙ ap (λ n. filter (can_step r m) (numbers_to n)) (pairs_length m.configs ds h)

  -- ---- a step
  record Onward (d : D) (e : Event) (to : C) : Type 0 where
    stop : D
    asked : AsksNext (step d) e.ask
    line : IsAtLine (step d) e.line
    goes_on : Continues step (step d) e.reply stop
    alike : AlikeAt r.step step to stop

  onward : (c to : C) (d : D) (e : Event) (v : Move C Ask Reply) → r.step c ≡ v → AlikeAt r.step step c d → AsksNext v e.ask → IsAtLine v e.line → Continues r.step v e.reply to → Rests (r.step to) → Answers e.ask e.reply → Onward d e to
  onward c to d e (goes x) at a asked line goes_on rests answer = absurd asked
  onward c to d e (asks b l k) at a asked line goes_on rests answer =
      let s = subst (λ v. SameRest v (step d)) at a.same in
      let says = behind r.step step c d b l k s.0 at s.1 a.says e.reply (subst (λ x. Answers x e.reply) asked answer) in
      let x = come r.step step (k e.reply) (s.0 e.reply) says goes_on.0 to goes_on.1 rests in
      record {
        stop = x.there;
        asked = subst (λ v. AsksNext v e.ask) (sym s.1) asked;
        line = subst (λ v. IsAtLine v e.line) (sym s.1) line;
        goes_on = subst (λ v. Continues step v e.reply x.there) (sym s.1) (x.steps, x.comes);
        alike = x.alike;
      }
  onward c to d e over at a asked line goes_on rests answer = absurd asked

  -- the same step of the other programs
  record StepsToo (m next : Moment C M B) (ds : List D) (i : ℕ) (e : Event) : Type 0 where
    configs : List D
    pairs : Pairs next.configs configs
    steps : Steps other (there m ds) i e (there next configs)

  steps_too : (m next : Moment C M B) (ds : List D) (i : ℕ) (e : Event) → Pairs m.configs ds → Steps r m i e next → Answers e.ask e.reply → StepsToo m next ds i e
  steps_too m next ds i e h s answer =
      let p = pairs_item m.configs ds i s.from h s.stands in
      let o = onward s.from s.to p.config e (r.step s.from) refl p.alike s.due.asked s.due.line s.goes_on s.rests answer in
      let q = place_of e.ask in
      record {
        configs = with_item ds i o.stop;
        pairs = subst (λ cs. Pairs cs (with_item ds i o.stop)) (sym s.configs) (pairs_with m.configs ds i s.to o.stop h o.alike);
        steps = record {
          from = p.config;
          to = o.stop;
          stands = p.is;
          due = record {
            asked = o.asked;
            line = o.line;
            ready = subst IsTrue (sym (ready_same m ds i e.ask q)) s.due.ready;
            reply = s.due.reply ∙ sym (reply_same m ds i e.ask q);
            stamp = s.due.stamp ∙ ap (λ h. max (last_of (list_at m.events i)) (last_stamp_of h) + 1) (sym (history_same m ds q));
          };
          goes_on = o.goes_on;
          rests = same_rest_rests (r.step s.to) (step o.stop) o.alike.same;
          configs = refl;
          events = s.events;
          memories = s.memories;
          histories = s.histories;
          board = s.board;
          board_history = s.board_history;
        };
      }

  -- ---- many steps, where each reply answers
  module _ (S : Type 0) (ch : Chooser S) (Reached : Moment C M B → Type 0) (more : (m next : Moment C M B) (i : ℕ) (e : Event) → Reached m → Steps r m i e next → Reached next)
      (answers : (m next : Moment C M B) (i : ℕ) (e : Event) → Reached m → Steps r m i e next → Answers e.ask e.reply) where
    record OrderedToo (s : S) (m : Moment C M B) (ds : List D) (xs : List Entry) (s' : S) (m' : Moment C M B) : Type 0 where
      configs : List D
      pairs : Pairs m'.configs configs
      ordered : Ordered other ch s (there m ds) xs s' (there m' configs)

    ordered_too : (s : S) (m : Moment C M B) (ds : List D) (xs : List Entry) (s' : S) (m' : Moment C M B) → Pairs m.configs ds → Reached m → Ordered r ch s m xs s' m' → OrderedToo s m ds xs s' m'
    ordered_too s m ds [] s' m' h reached (p, q) = record { configs = ds; pairs = subst (λ (n : Moment C M B). Pairs n.configs ds) (sym q) h; ordered = (p, ap (λ n. there n ds) q) }
    ordered_too s m ds (x ∷ xs) s' m' h reached (chosen, next, one, rest) =
        let same = sym (candidates_same m ds h) in
        let t = steps_too m next ds x.image.0 x.event h one (answers m next x.image.0 x.event reached one) in
        let u = ordered_too (ch.after s (candidates r m)) next t.configs xs s' m' t.pairs (more m next x.image.0 x.event reached one) rest in
        record {
          configs = u.configs;
          pairs = u.pairs;
          ordered = (chosen ∙ ap (ch.chosen s) same, there next t.configs, t.steps, subst (λ is. Ordered other ch (ch.after s is) (there next t.configs) xs s' (there m' u.configs)) same u.ordered);
        }

    -- ---- the beginning
    module _ (b : Beginning C M B) (first : ℕ → D) (says : ImagesSayAs r.step step b first) where
      record Begun (Q : ℕ → D → Type 0) (cs : List C) : Type 0 where
        configs : List D
        pairs : Pairs cs configs
        each : (k : ℕ) (d : D) → slice_get configs k ≡ Some d → Q k d

      begun : (Q : ℕ → D → Type 0) (cs : List C) → ((k : ℕ) (c : C) → slice_get cs k ≡ Some c → (d : D) × Q k d × AlikeAt r.step step c d) → Begun Q cs
      begun Q [] h = record { configs = []; pairs = tt; each = λ k d e. absurd (cc) }
      begun Q (c ∷ cs) h =
          let x = h 0 c refl in
          let rest = begun (λ k. Q (suc k)) cs (λ k. h (suc k)) in
          record { configs = x.0 ∷ rest.configs; pairs = (x.2, rest.pairs); each = λ k d e. at x.0 x.1 rest.configs rest.each k d e }
        where
          at : (x : D) → Q 0 x → (ds : List D) → ((k : ℕ) (d : D) → slice_get ds k ≡ Some d → Q (suc k) d) → (k : ℕ) (d : D) → slice_get (x ∷ ds) k ≡ Some d → Q k d
          at x p ds rest zero d e = (let s : x ≡ d = cc in subst (Q 0) s p)
          at x p ds rest (suc k) d e = rest k d e

      abbrev AtFirst : ℕ → D → Type 0
      AtFirst k d = Rests (step d) × (n : ℕ) × (go step n (first (suc k)) ≡ goes d)

      first_there : (m : Moment C M B) → IsFirst r b m → (k : ℕ) (c : C) → slice_get m.configs k ≡ Some c → (d : D) × AtFirst k d × AlikeAt r.step step c d
      first_there m f k c e =
          let within = item_within m.configs k c e in
          let count = f.count in
          let s = f.starts k c e in
          let x = come r.step step (b.first (suc k)) (first (suc k)) (says (suc k) (omega arith, omega arith)) s.0 c s.1 (f.rests k c e) in
          (x.there, (same_rest_rests (r.step c) (step x.there) x.alike.same, x.steps, x.comes), x.alike)

      first_too : (m : Moment C M B) → IsFirst r b m → (x : Begun AtFirst m.configs) → IsFirst other (with_programs b first) (there m x.configs)
      first_too m f x = record {
        count = pairs_length m.configs x.configs x.pairs ∙ f.count;
        starts = λ k d e. (let a = x.each k d e in (a.1, a.2));
        rests = λ k d e. (x.each k d e).0;
        events = f.events;
        memories = f.memories;
        histories = f.histories;
        board = f.board;
        board_history = f.board_history;
      }

      whole_too : (xs : List Entry) (m : Moment C M B) (ds : List D) → Pairs m.configs ds → IsWhole r xs m → IsWhole other xs (there m ds)
      whole_too xs m ds h (inl w) = inl w
      whole_too xs m ds h (inr w) = inr (w.0, candidates_same m ds h ∙ w.1)

      -- the whole run
      run_too : (s : S) (xs : List Entry) → ((m : Moment C M B) → IsFirst r b m → Reached m) → OrderRun r b ch s xs → OrderRun other (with_programs b first) ch s xs
      run_too s xs start run =
          let x = begun AtFirst run.from.configs (first_there run.from run.begins) in
          let u = ordered_too s run.from x.configs xs run.last run.to x.pairs (start run.from run.begins) run.ordered in
          record { from = there run.from x.configs; begins = first_too run.from run.begins x; last = run.last; to = there run.to u.configs; ordered = u.ordered; whole = whole_too xs run.to u.configs u.pairs run.whole }

      pub order_too : (s : S) (t : List Entry) → ((m : Moment C M B) → IsFirst r b m → Reached m) → IsOrderTrace r b ch s t → IsOrderTrace other (with_programs b first) ch s t
      order_too s t start o = record { steps = o.steps; run = run_too s o.steps start o.run; ordered = o.ordered; same = o.same }

-- ---- which replies answer
module _ {C M B : Type 0} (r : Rules C M B) (answer : RepliesAnswer r) where
  memory_answer : (h : List Entry) (i : ℕ) (a : Ask) (v : Option M) → IsTrue (memory_ready_at r h i a v) → Answers a (memory_reply_at r h i a v)
  memory_answer h i a None t = absurd (cc)
  memory_answer h i a (Some made) t = answer.memory made h i a t

  there_answers : (m : Moment C M B) (i : ℕ) (a : Ask) (q : Place) → place_of a ≡ q → IsTrue (ready_there r m i a q) → Answers a (reply_there r m i a q)
  there_answers m i a (places.Memory owner) p t = memory_answer _ i a (item_at m.memories owner.0) t
  there_answers m i a places.Board p t = answer.board m.board m.board_history i a t
  there_answers m i a places.Own p t = own_answers a p

module _ {C D M B S : Type 0} (r : Rules C M B) (step : D → Move D Ask Reply) (hears : D → Reply → Type 0) (ch : Chooser S) (b : Beginning C M B) (first : ℕ → D) (says : ImagesSayAs r.step step b first) (s : S) (t : List Entry) where
  step_answers : (m next : Moment C M B) (i : ℕ) (e : Event) → ((q : Place) → place_of e.ask ≡ q → IsTrue (ready_there r m i e.ask q) → Answers e.ask (reply_there r m i e.ask q)) → Steps r m i e next → Answers e.ask e.reply
  step_answers m next i e answer one = subst (Answers e.ask) (sym one.due.reply) (answer (place_of e.ask) refl one.due.ready)

  -- an ordered run of the one is an ordered run of the other, where the run is fit
  pub order_by_fit : IsFit r b → IsOrderTrace r b ch s t → IsOrderTrace (other r step hears) (with_programs b first) ch s t
  order_by_fit fit o =
      order_too r step hears S ch (IsKept r b) (λ m next i e h one. kept_more r b m next i e h one) (λ m next i e h one. step_answers m next i e (answers_there r b m h i e.ask) one) b first says s t (λ m f. first_kept r b m fit f) o

  -- or where each reply answers
  pub order_by_replies : RepliesAnswer r → IsOrderTrace r b ch s t → IsOrderTrace (other r step hears) (with_programs b first) ch s t
  order_by_replies answer o =
      order_too r step hears S ch (λ m. Unit {0}) (λ m next i e h one. tt) (λ m next i e h one. step_answers m next i e (there_answers r answer m i e.ask) one) b first says s t (λ m f. tt) o

module _ {C D M B : Type 0} (r : Rules C M B) (step : D → Move D Ask Reply) (hears : D → Reply → Type 0) (b : Beginning C M B) (first : ℕ → D) (says : ImagesSayAs r.step step b first) (t : List Entry) where
  -- a core run of the one is a core run of the other, and what waits after it there waits here
  module _ (answered : (i : ℕ) → AllAnswer Answers (said_by i t)) where
    core_too : IsCoreRun r b t → IsCoreRun (other r step hears) (with_programs b first) t
    core_too core = record {
      lawful = record {
        ordered = core.lawful.ordered;
        stamped = core.lawful.stamped;
        images = core.lawful.images;
        places = core.lawful.places;
        memories = core.lawful.memories;
        board = core.lawful.board;
        alone = core.lawful.alone;
        joins = core.lawful.joins;
      };
      walks = λ i in_run. (let w = core.walks i in_run in walks_same r.step step (said_by i t) (b.first i) w.0 (first i) (says i in_run) (answered i) w.1);
      nothing_after = core.nothing_after;
    }

    unready_too : (i : ℕ) (a : Ask) (q : Place) → IsUnready r b t i a q → IsUnready (other r step hears) (with_programs b first) t i a q
    unready_too i a (places.Memory owner) u = u
    unready_too i a places.Board u = u
    unready_too i a places.Own u = u

    asks_rests : (v : Move C Ask Reply) (a : Ask) → AsksNext v a → Rests v
    asks_rests (goes c) a h = h
    asks_rests (asks b l k) a h = tt
    asks_rests over a h = tt

    asks_too : (v : Move C Ask Reply) (u : Move D Ask Reply) (a : Ask) → SameRest v u → AsksNext v a → AsksNext u a
    asks_too (goes c) u a s h = absurd s
    asks_too (asks b l k) u a s h = subst (λ x. AsksNext x a) (sym s.1) h
    asks_too over u a s h = absurd h

    line_too : (v : Move C Ask Reply) (u : Move D Ask Reply) (n : ℕ) → SameRest v u → IsAtLine v n → IsAtLine u n
    line_too (goes c) u n s h = absurd s
    line_too (asks b l k) u n s h = subst (λ x. IsAtLine x n) (sym s.1) h
    line_too over u n s h = absurd h

    waits_too : (i line : ℕ) (a : Ask) → IsWaiting r b t i line a → IsWaiting (other r step hears) (with_programs b first) t i line a
    waits_too i line a w =
        let x = says i w.image (said_by i t) w.config (answered i) w.walks (asks_rests (r.step w.config) a w.asks) in
        record {
          image = w.image;
          config = x.0;
          walks = x.1;
          asks = asks_too (r.step w.config) (step x.0) a x.2 w.asks;
          line_is = line_too (r.step w.config) (step x.0) line x.2 w.line_is;
          unready = unready_too i a (place_of a) w.unready;
        }

  pub core_by_fit : IsFit r b → IsCoreRun r b t → IsCoreRun (other r step hears) (with_programs b first) t
  core_by_fit fit core = core_too (answered_by r b t fit core) core

  pub core_by_replies : RepliesAnswer r → IsCoreRun r b t → IsCoreRun (other r step hears) (with_programs b first) t
  core_by_replies answer core = core_too (answered_if r b t (λ made h i a served ready. answer.memory made h i a ready) (λ made h i a served ready. answer.board made h i a ready) core) core

  pub waits_by_fit : IsFit r b → IsCoreRun r b t → (i line : ℕ) (a : Ask) → IsWaiting r b t i line a → IsWaiting (other r step hears) (with_programs b first) t i line a
  waits_by_fit fit core = waits_too (answered_by r b t fit core)

  pub waits_by_replies : RepliesAnswer r → IsCoreRun r b t → (i line : ℕ) (a : Ask) → IsWaiting r b t i line a → IsWaiting (other r step hears) (with_programs b first) t i line a
  waits_by_replies answer core = waits_too (answered_if r b t (λ made h i a served ready. answer.memory made h i a ready) (λ made h i a served ready. answer.board made h i a ready) core)

-- ---- what every walk of the one has, every walk of a program that says nothing else has
module _ {C D : Type 0} (source : C → Move C Ask Reply) (target : D → Move D Ask Reply) (c : C) (d : D) (says : SaysAs target source d c) where
  over_too : (v : Move D Ask Reply) (u : Move C Ask Reply) → SameRest v u → IsOver v → IsOver u
  over_too (goes x) u s o = absurd s
  over_too (asks a l k) u s o = absurd o
  over_too over u s o = subst IsOver (sym s) tt

  over_rests : (v : Move D Ask Reply) → IsOver v → Rests v
  over_rests (goes x) o = o
  over_rests (asks a l k) o = tt
  over_rests over o = tt

  pub ends_too : EndsByItself source c → EndsByItself target d
  ends_too ends es f answers w o =
      let x = says es f answers w (over_rests (target f) o) in
      ends es x.0 answers x.1 (over_too (target f) (source x.0) x.2 o)

  pub orderly_too : IsOrderly source c → IsOrderly target d
  orderly_too o = record {
    joins = λ es e answers w. (let x = walks_same target source es d e c says answers w in o.joins es x.0 answers x.1);
    nothing_after = λ es e answers w. (let x = walks_same target source es d e c says answers w in o.nothing_after es x.0 answers x.1);
    no_stamp_limit = λ es e answers w. (let x = walks_same target source es d e c says answers w in o.no_stamp_limit es x.0 answers x.1);
  }

-- a run of programs that say nothing else is fit, where they hear the replies that are due
pub fit_too : {C D M B : Type 0} (r : Rules C M B) (step : D → Move D Ask Reply) (hears : D → Reply → Type 0) (b : Beginning C M B) (first : ℕ → D) → ((i : ℕ) → IsImage b i → SaysAs step r.step (first i) (b.first i))
    → ((m : Moment D M B) → IsMoment (other r step hears) (with_programs b first) m → HearsDue (other r step hears) m) → IsFit r b → IsFit (other r step hears) (with_programs b first)
fit_too r step hears b first says hear fit = record {
  memory_answers = fit.memory_answers;
  board_answers = fit.board_answers;
  orderly = λ i in_run. orderly_too r.step step (b.first i) (first i) (says i in_run) (fit.orderly i in_run);
  fails = λ i in_run es e answers w. (let x = walks_same step r.step es (first i) e (b.first i) (says i in_run) answers w in fit.fails i in_run es x.0 answers x.1);
  hears = hear;
}

-- The ends of iterations, and DO WHILE and DO (ISO/IEC 1539-1:2018, 11.1.7.4).
use Rattle.std.proofs.Common.{◌≡◌, refl, ap, sym, subst, ◌∙◌, ℕ, zero, suc, ◌+◌, ◌*◌, ◌≤◌, ◌<◌, ℤ, pos, Bool, true, false, cond, nat_lt, List, [], ◌∷◌, arith, le_refl}
use Rattle.std.proofs.lemmas.Bool.{le-ltb}
use Rattle.trace_theory.specs.Machines.{goes, asks}
use Rattle.caf_base.specs.Arithmetic.{is_true}
use Rattle.caf_events.specs.declared.ask.Ask.TheVariants as asking
use Rattle.walk_theory.specs.Syntax.{Parts, end_parts, Steps}
use Rattle.walk_theory.specs.Walks.{Task, Loop, Config, run, eval, tally, again, iterate, to}
use Rattle.checked_tree.specs.Statements as s
use Rattle.image_acts.specs.Acts.{Act}
use Rattle.image_acts.specs.Core.{Core, pushed}
use Rattle.tree_meaning.specs.Environment.{Environment}
use Rattle.tree_meaning.specs.Forms.{steps}
use Rattle.direct_meaning.specs.States.{State}
use Rattle.direct_meaning.specs.Outcomes.{Outcome, and_then, Does, giving, nothing_said, ◌▹◌}
use Rattle.direct_meaning.specs.Values.{Value}
use Rattle.direct_meaning.specs.Expressions.{Passed}
use Rattle.direct_meaning.specs.Synchronizing.{ending}
use Rattle.direct_meaning.specs.Statements.{Control, onward, exits, cycles, returns, Executes, followed, iterated, counting, while_loop, block}
use Rattle.direct_walks.specs.Walking.{Beside, core_of, behind, Walks}
use Rattle.direct_walks.specs.Ready.{Keeps, IsReady, GoesOn}
use Rattle.direct_walks.proofs.Walking.{W, by_step, by_more, walks_before, walks_then, walks_as, counted_by, counted_walks, chosen_walks}
use Rattle.direct_walks.proofs.Cells.{keeps_all}

module _ (procedures : ℕ → Steps Act) (limit : ℕ) (e : Environment) (most lines : ℕ) where
  -- where execution goes on, seen from a place before
  pub goes_later : (h i : ℕ) (ts : List (Task Act)) (c : Core) (b f : Beside) (n k : ℕ) → h ≤ i → Keeps h b f → n ≤ k
      → (q : Control × ℕ) (z : State) (d : Config Act Core) → GoesOn e most lines i ts c f k q z d → GoesOn e most lines h ts c b n q z d
  goes_later h i ts c b f n k below kept more q z d (g, at', keeps, later, ready) =
      (g, at', (λ j p. keeps j (omega (arith, p, below)) ∙ kept j p), omega (arith, more, later), ready)

  -- where nothing is done any more
  pub goes_here : (h i : ℕ) (ts : List (Task Act)) (c : Core) (b f : Beside) (n k : ℕ) → h ≤ i → Keeps i b f → n ≤ k → (z : State)
      → IsReady e most lines c f z
      → (r : Control) (us : List (Task Act)) → us ≡ behind r ts → Walks procedures limit (GoesOn e most lines h ts c b n) (giving (r, k) 0 z) (to us (core_of c f z) k)
  goes_here h i ts c b f n k below kept more z ready r us same =
      (to us (core_of c f z) k, (0, refl), (f, ap (λ ws. to ws (core_of c f z) k) same, (λ j p. kept j (omega (arith, p, below))), more, ready))

  -- what follows in a block
  pub followed_walks : (h l n : ℕ) (ts : List (Task Act)) (c : Core) (b : Beside) (rest : Steps Act) (next : Executes)
      → ((f : Beside) (z : State) (k : ℕ) → IsReady e most lines c f z
      → Walks procedures limit (GoesOn e most lines h ts c f k) (next k l z) (to (run rest ∷ ts) (core_of c f z) k))
      → (q : Control × ℕ) (z : State) (d : Config Act Core) → GoesOn e most lines h (run rest ∷ ts) c b (n + 1) q z d
      → Walks procedures limit (GoesOn e most lines h ts c b n) (followed next q l z) d
  followed_walks h l n ts c b rest next more (onward, k) z d (f, at', keeps, later, ready) =
      subst (Walks procedures limit (GoesOn e most lines h ts c b n) (next k l z)) (sym at')
      (walks_as procedures limit (GoesOn e most lines h ts c f k) (GoesOn e most lines h ts c b n) (next k l z)
      (to (run rest ∷ ts) (core_of c f z) k) (more f z k ready)
      (goes_later h h ts c b f n k (le_refl h) keeps (omega (arith, later))))
  followed_walks h l n ts c b rest next more (exits i, k) z d (f, at', keeps, later, ready) =
      subst (Walks procedures limit (GoesOn e most lines h ts c b n) (giving (exits i, k) l z)) (sym at')
      (goes_here h h ts c b f n k (le_refl h) keeps (omega (arith, later)) z ready (exits i) _ refl)
  followed_walks h l n ts c b rest next more (cycles i, k) z d (f, at', keeps, later, ready) =
      subst (Walks procedures limit (GoesOn e most lines h ts c b n) (giving (cycles i, k) l z)) (sym at')
      (goes_here h h ts c b f n k (le_refl h) keeps (omega (arith, later)) z ready (cycles i) _ refl)
  followed_walks h l n ts c b rest next more (returns, k) z d (f, at', keeps, later, ready) =
      subst (Walks procedures limit (GoesOn e most lines h ts c b n) (giving (returns, k) l z)) (sym at')
      (goes_here h h ts c b f n k (le_refl h) keeps (omega (arith, later)) z ready returns _ refl)

  -- what follows behind the body of a loop
  pub iterated_walks : (h i l n : ℕ) → h ≤ i → (m : Loop Act) (ts : List (Task Act)) (c : Core) (b : Beside) (next : Executes)
      → ((f : Beside) (z : State) (k : ℕ) → Keeps i b f → n < k → IsReady e most lines c f z
      → Walks procedures limit (GoesOn e most lines h ts c b n) (next k l z) (to (again m ∷ ts) (core_of c f z) k))
      → (q : Control × ℕ) (z : State) (d : Config Act Core) → GoesOn e most lines i (again m ∷ ts) c b (n + 1) q z d
      → Walks procedures limit (GoesOn e most lines h ts c b n) (iterated next q l z) d
  iterated_walks h i l n below m ts c b next more (onward, k) z d (f, at', keeps, later, ready) =
      subst (Walks procedures limit (GoesOn e most lines h ts c b n) (next k l z)) (sym at') (more f z k keeps (omega (arith, later)) ready)
  iterated_walks h i l n below m ts c b next more (exits zero, k) z d (f, at', keeps, later, ready) =
      subst (Walks procedures limit (GoesOn e most lines h ts c b n) (giving (onward, k) l z)) (sym at')
      (goes_here h i ts c b f n k below keeps (omega (arith, later)) z ready onward _ refl)
  iterated_walks h i l n below m ts c b next more (exits (suc j), k) z d (f, at', keeps, later, ready) =
      subst (Walks procedures limit (GoesOn e most lines h ts c b n) (giving (exits j, k) l z)) (sym at')
      (goes_here h i ts c b f n k below keeps (omega (arith, later)) z ready (exits j) _ refl)
  iterated_walks h i l n below m ts c b next more (cycles zero, k) z d (f, at', keeps, later, ready) =
      subst (Walks procedures limit (GoesOn e most lines h ts c b n) (next k l z)) (sym at') (more f z k keeps (omega (arith, later)) ready)
  iterated_walks h i l n below m ts c b next more (cycles (suc j), k) z d (f, at', keeps, later, ready) =
      subst (Walks procedures limit (GoesOn e most lines h ts c b n) (giving (cycles j, k) l z)) (sym at')
      (goes_here h i ts c b f n k below keeps (omega (arith, later)) z ready (cycles j) _ refl)
  iterated_walks h i l n below m ts c b next more (returns, k) z d (f, at', keeps, later, ready) =
      subst (Walks procedures limit (GoesOn e most lines h ts c b n) (giving (returns, k) l z)) (sym at')
      (goes_here h i ts c b f n k below keeps (omega (arith, later)) z ready returns _ refl)

  -- a loop with a test
  module _ (calls : ℕ → List Passed → Does Value) (h l : ℕ) (t : Does ℤ) (p : Parts Act) (body : s.Statements) (ts : List (Task Act)) (c : Core) where
    abbrev pub the_loop : Loop Act
    the_loop = record { line = l; next = end_parts; test = p; body = steps e body }

    abbrev pub Tested : Beside → ℕ → ℤ → State → Config Act Core → Type 0
    Tested b n v z d = (d ≡ to (iterate the_loop ∷ ts) (pushed v (core_of c b z)) n) × IsReady e most lines c b z

    abbrev Goes : Beside → ℕ → Control × ℕ → State → Config Act Core → Type 0
    Goes b n q z d = GoesOn e most lines h ts c b n q z d

    module _ (tests : (b : Beside) (z : State) (n : ℕ) → IsReady e most lines c b z
        → Walks procedures limit (Tested b n) (t l z) (to (eval l p ∷ iterate the_loop ∷ ts) (core_of c b z) n))
        (does : (b : Beside) (z : State) (n : ℕ) → IsReady e most lines c b z
        → Walks procedures limit (GoesOn e most lines h (again the_loop ∷ ts) c b n) (block limit e calls body n l z)
        (to (run (steps e body) ∷ again the_loop ∷ ts) (core_of c b z) n)) where
      -- behind the test
      tested_walks : (b : Beside) (n : ℕ) (v : ℤ) (z : State) (d : Config Act Core) (m : Does (Control × ℕ)) → Tested b n v z d
          → Walks procedures limit (Goes b n) (m l z) (to (tally l ∷ run (steps e body) ∷ again the_loop ∷ ts) (core_of c b z) n)
          → Walks procedures limit (Goes b n) (cond (is_true v) m (giving (onward, n)) l z) d
      tested_walks b n v z d m (at', ready) k =
          let C : Core = core_of c b z in
          subst (Walks procedures limit (Goes b n) (cond (is_true v) m (giving (onward, n)) l z)) (sym at')
          (chosen_walks procedures limit (Goes b n) (is_true v) m (giving (onward, n)) l z (to (iterate the_loop ∷ ts) (pushed v C) n) C
          (λ x. to (tally l ∷ run (steps e body) ∷ again the_loop ∷ ts) x n) (λ x. to ts x n) refl k
          (goes_here h h ts c b b n n (le_refl h) (keeps_all h b) (le_refl n) z ready onward ts refl))

      pub while_walks : (fuel n : ℕ) (b : Beside) (z : State) → limit ≤ n + fuel → IsReady e most lines c b z
          → Walks procedures limit (Goes b n) (while_loop limit e calls fuel t (block limit e calls body) n l z)
          (to (eval l p ∷ iterate the_loop ∷ ts) (core_of c b z) n)
      while_walks zero n b z enough ready =
          let U : List (Task Act) = run (steps e body) ∷ again the_loop ∷ ts in
          let M : Does (Control × ℕ) = ending (asking.LimitStatements (n + 1)) in
          let full : nat_lt n limit ≡ false = le-ltb n limit (omega (arith, enough)) in
          walks_then procedures limit (Tested b n) (Goes b n) (t l z) (λ v. cond (is_true v.0) M (giving (onward, n)) l v.1)
          (to (eval l p ∷ iterate the_loop ∷ ts) (core_of c b z) n) (tests b z n ready)
          (λ v y d k. tested_walks b n v y d M k
          (let D : Core = core_of c b y in
          counted_by procedures limit (Goes b n) false nothing_said l n y b.hidden (to (tally l ∷ U) D n) U D
          (ap (λ x. cond x (goes (to U D (n + 1))) (asks (asking.LimitStatements (n + 1)) l (λ r. to [] D n))) full) refl refl tt))
      while_walks (suc f) n b z enough ready =
          let U : List (Task Act) = run (steps e body) ∷ again the_loop ∷ ts in
          let B : Does (Control × ℕ) = counting limit e calls (block limit e calls body) n in
          let N : Executes = while_loop limit e calls f t (block limit e calls body) in
          let M : Does (Control × ℕ) = B ▹ iterated N in
          walks_then procedures limit (Tested b n) (Goes b n) (t l z) (λ v. cond (is_true v.0) M (giving (onward, n)) l v.1)
          (to (eval l p ∷ iterate the_loop ∷ ts) (core_of c b z) n) (tests b z n ready)
          (λ v y d k. tested_walks b n v y d M k
          (let D : Core = core_of c b y in
          walks_then procedures limit (GoesOn e most lines h (again the_loop ∷ ts) c b (n + 1)) (Goes b n) (B l y) (λ q. iterated N q.0 l q.1)
          (to (tally l ∷ U) D n)
          (counted_walks procedures limit (GoesOn e most lines h (again the_loop ∷ ts) c b (n + 1)) (block limit e calls body (n + 1)) l n y
          b.hidden (to (tally l ∷ U) D n) U D refl refl refl (does b y (n + 1) k.1))
          (λ q x a w. iterated_walks h h l n (le_refl h) the_loop ts c b N
          (λ g u j keeps more again'. walks_before procedures limit (Goes b n) (N j l u) (to (again the_loop ∷ ts) (core_of c g u) j)
          (to (eval l p ∷ iterate the_loop ∷ ts) (core_of c g u) j)
          (by_more procedures limit (to (again the_loop ∷ ts) (core_of c g u) j)
          (to (eval l end_parts ∷ eval l p ∷ iterate the_loop ∷ ts) (core_of c g u) j) (to (eval l p ∷ iterate the_loop ∷ ts) (core_of c g u) j)
          (by_step procedures limit (to (again the_loop ∷ ts) (core_of c g u) j)
          (to (eval l end_parts ∷ eval l p ∷ iterate the_loop ∷ ts) (core_of c g u) j) refl)
          (by_step procedures limit (to (eval l end_parts ∷ eval l p ∷ iterate the_loop ∷ ts) (core_of c g u) j)
          (to (eval l p ∷ iterate the_loop ∷ ts) (core_of c g u) j) refl))
          (walks_as procedures limit (Goes g j) (Goes b n) (N j l u) (to (eval l p ∷ iterate the_loop ∷ ts) (core_of c g u) j)
          (while_walks f j g u (omega (arith, enough, more)) again') (goes_later h h ts c b g n j (le_refl h) keeps (omega (arith, more))))) q x
          a w)))

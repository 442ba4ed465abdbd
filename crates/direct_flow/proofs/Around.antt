-- Constructs with a step at each end (ISO/IEC 1539-1:2018, 11.1.5, 11.1.6).
use Rattle.std.proofs.Common.{◌≡◌, refl, ap, sym, subst, ◌∙◌, ℕ, ◌+◌, List, ◌∷◌, slice_get, arith, le_refl}
use Rattle.caf_events.specs.declared.ask.Ask.TheVariants as asking
use Rattle.walk_theory.specs.Syntax.{Parts, end_parts, Steps}
use Rattle.walk_theory.specs.Walks.{Task, Config, run, eval, tally, to}
use Rattle.checked_tree.specs.Statements as s
use Rattle.image_acts.specs.Acts.{Act}
use Rattle.image_acts.specs.Core.{Core}
use Rattle.tree_meaning.specs.Environment.{Environment}
use Rattle.tree_meaning.specs.Sequences.{released}
use Rattle.tree_meaning.specs.ImageControl as control
use Rattle.tree_meaning.specs.Forms.{steps}
use Rattle.direct_meaning.specs.States.{State}
use Rattle.direct_meaning.specs.Outcomes.{Outcome, and_then, Does, giving, ◌▹◌, asking as asking_for}
use Rattle.direct_meaning.specs.Values.{Value}
use Rattle.direct_meaning.specs.Expressions.{Passed}
use Rattle.direct_meaning.specs.Statements as meaning
use Rattle.direct_meaning.specs.Statements.{Control, onward, exits, cycles, returns, Executes, followed, at_line, counting, block}
use Rattle.direct_hidden.specs.Hiding.{IsBlind}
use Rattle.direct_walks.specs.Walking.{Beside, core_of, Walks}
use Rattle.direct_walks.specs.Ready.{Keeps, IsReady, GoesOn}
use Rattle.direct_walks.proofs.Walking.{by_step, walks_before, walks_then, walks_as, counted_walks}
use Rattle.direct_walks.proofs.Cells.{keeps_all}
use Rattle.direct_walks.proofs.Loops.{goes_later, goes_here}
use Rattle.direct_control.proofs.Freed.{Performs}
use Rattle.direct_control.proofs.Walking.{Behind, released_walks}

module _ (procedures : ℕ → Steps Act) (limit : ℕ) (e : Environment) (calls : ℕ → List Passed → Does Value) (most lines : ℕ) where
  abbrev On : ℕ → List (Task Act) → Core → Beside → ℕ → Control × ℕ → State → Config Act Core → Type 0
  On h ts c b n q z d = GoesOn e most lines h ts c b n q z d

  abbrev Ready : Core → Beside → State → Type 0
  Ready c b z = IsReady e most lines c b z

  -- END CRITICAL
  pub exit_walks : (h k m : ℕ) (ts : List (Task Act)) (c : Core) (b : Beside) (z : State) (n : ℕ) → Ready c b z
      → Walks procedures limit (On h ts c b n) ((asking_for (asking.Exit k) ▹ (λ r. giving (onward, n))) m z)
      (to (eval m (control.end_critical e k) ∷ ts) (core_of c b z) n)
  exit_walks h k m ts c b z n r =
      let D : Core = core_of c b z in
      let A : Config Act Core = to (eval m (control.end_critical e k) ∷ ts) D n in
      let B : Config Act Core = to (eval m end_parts ∷ ts) D n in (
        A,
        (0, refl),
        (b.hidden, refl),
        (λ q. B),
        refl,
        λ q. walks_before procedures limit (On h ts c b n) (giving (onward, n) m z) B (to ts D n) (by_step procedures limit B
            (to ts D n) refl)
            (goes_here procedures limit e most lines h h ts c b b n n (le_refl h) (keeps_all h b) (le_refl n) z r onward ts refl),
      )

  -- the end of a construct, where execution comes to it
  module _ (h l n m : ℕ) (ts : List (Task Act)) (c : Core) (b f : Beside) (same : f.hidden ≡ b.hidden) (q : Parts Act) (last : Executes)
      (ends : (g : Beside) (y : State) (j : ℕ) → Ready c g y
      → Walks procedures limit (On h ts c g j) (last j m y) (to (eval m q ∷ ts) (core_of c g y) j)) where
    abbrev tasks : List (Task Act)
    tasks = tally m ∷ eval m q ∷ ts

    abbrev next : Executes
    next = at_line limit e calls m (counting limit e calls last)

    kept : (g : Beside) → Keeps h f g → Keeps h b g
    kept g keeps j p = keeps j p ∙ ap (λ hs. slice_get hs j) same

    end_walks : (k : Control × ℕ) (z : State) (d : Config Act Core) → On h tasks c f n k z d
        → Walks procedures limit (On h ts c b n) (followed next k l z) d
    end_walks (onward, k) z d (g, at', keeps, later, ready) =
        let D : Core = core_of c g z in
        subst (Walks procedures limit (On h ts c b n) (next k l z)) (sym at')
        (counted_walks procedures limit (On h ts c b n) (last (k + 1)) m k z g.hidden (to tasks D k) (eval m q ∷ ts) D refl refl refl
        (walks_as procedures limit (On h ts c g (k + 1)) (On h ts c b n) (last (k + 1) m z) (to (eval m q ∷ ts) D (k + 1))
        (ends g z (k + 1) ready)
        (goes_later procedures limit e most lines h h ts c b g n (k + 1) (le_refl h) (kept g keeps) (omega (arith, later)))))
    end_walks (exits i, k) z d (g, at', keeps, later, ready) =
        subst (Walks procedures limit (On h ts c b n) (giving (exits i, k) l z)) (sym at')
        (goes_here procedures limit e most lines h h ts c b g n k (le_refl h) (kept g keeps) later z ready (exits i) _ refl)
    end_walks (cycles i, k) z d (g, at', keeps, later, ready) =
        subst (Walks procedures limit (On h ts c b n) (giving (cycles i, k) l z)) (sym at')
        (goes_here procedures limit e most lines h h ts c b g n k (le_refl h) (kept g keeps) later z ready (cycles i) _ refl)
    end_walks (returns, k) z d (g, at', keeps, later, ready) =
        subst (Walks procedures limit (On h ts c b n) (giving (returns, k) l z)) (sym at')
        (goes_here procedures limit e most lines h h ts c b g n k (le_refl h) (kept g keeps) later z ready returns _ refl)

  -- the head, the block, and the end
  pub around_walks : (h l n m : ℕ) (ts : List (Task Act)) (c : Core) (b : Beside) (z : State) (head : Does (Unit {0})) (p q : Parts Act)
      (body : s.Statements) (last : Executes) → IsBlind head → Performs head p l → Ready c b z
      → ((f : Beside) (y : State) → Ready c f y
      → Walks procedures limit (On h (tally m ∷ eval m q ∷ ts) c f n) (block limit e calls body n l y)
      (to (run (steps e body) ∷ tally m ∷ eval m q ∷ ts) (core_of c f y) n))
      → ((g : Beside) (y : State) (j : ℕ) → Ready c g y
      → Walks procedures limit (On h ts c g j) (last j m y) (to (eval m q ∷ ts) (core_of c g y) j))
      → Walks procedures limit (On h ts c b n)
      (and_then (meaning.released head l z) (λ u. (block limit e calls body n ▹ followed (at_line limit e calls m
      (counting limit e calls last))) l u.1))
      (to (eval l (released p) ∷ run (steps e body) ∷ tally m ∷ eval m q ∷ ts) (core_of c b z) n)
  around_walks h l n m ts c b z head p q body last blind performs r blocks ends =
      let vs : List (Task Act) = tally m ∷ eval m q ∷ ts in
      let us : List (Task Act) = run (steps e body) ∷ vs in
      let N : Executes = at_line limit e calls m (counting limit e calls last) in
      let F : State → Outcome ((Control × ℕ) × State) = λ y. and_then (block limit e calls body n l y) (λ k. followed N k.0 l k.1) in
      walks_then procedures limit (λ u y d. Behind procedures limit e most lines us c b n y d) (On h ts c b n) (meaning.released head l z)
      (λ u. F u.1)
      (to (eval l (released p) ∷ us) (core_of c b z) n)
      (released_walks procedures limit e most lines head p l n us c b z blind performs r)
      (λ u y d w. subst (Walks procedures limit (On h ts c b n) (F y)) (sym w.2)
      (walks_then procedures limit (On h vs c w.0 n) (On h ts c b n) (block limit e calls body n l y) (λ k. followed N k.0 l k.1)
      (to us (core_of c w.0 y) n) (blocks w.0 y w.3)
      (λ k x a v. end_walks h l n m ts c b w.0 w.1 q last ends k x a v)))

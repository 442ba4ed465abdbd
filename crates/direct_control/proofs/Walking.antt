-- The walk of image control statements: where their acts meet what they do, the walk makes their asks, and goes on where
-- they do.
use Rattle.std.proofs.Common.{◌≡◌, refl, ap, subst, ◌∙◌, ℕ, ℤ, List, ◌∷◌, le_refl, slice_get}
use Rattle.walk_theory.specs.Syntax.{Parts, Steps}
use Rattle.walk_theory.specs.Walks.{Task, Config, eval, to}
use Rattle.image_acts.specs.Acts.{Act}
use Rattle.image_acts.specs.Core.{Core}
use Rattle.tree_meaning.specs.Environment.{Environment}
use Rattle.tree_meaning.specs.Sequences.{released}
use Rattle.direct_meaning.specs.States.{State}
use Rattle.direct_meaning.specs.Outcomes.{Outcome, done, faults as faulty, asks as asked, over, unsaid, and_then, Does}
use Rattle.direct_meaning.specs.Told.{told, Says}
use Rattle.direct_meaning.specs.Statements as meaning
use Rattle.direct_meaning.specs.Statements.{Control, onward, simply}
use Rattle.direct_meaning.proofs.Walks.{says}
use Rattle.direct_hidden.specs.Hiding.{with_hidden, SameFrame, Alike, IsBlind}
use Rattle.direct_hidden.proofs.BlindStatements.{b_released}
use Rattle.direct_walks.specs.Walking.{Beside, core_of, Walks}
use Rattle.direct_walks.specs.Ready.{IsReady, GoesOn}
use Rattle.direct_walks.proofs.Walking.{Only, walks_then, walks_as}
use Rattle.direct_walks.proofs.Cells.{ready_after, ready_beside}
use Rattle.direct_control.specs.Meeting.{Meets, Lies}
use Rattle.direct_control.proofs.Freed.{Performs, freed, released_meets}

-- behind parts: what is left to do, over a core with this state and with the stack of c, in the same frame
abbrev pub Ends : {X : Type 0} → (X → State → Type 0) → Core → List ℤ → State → List (Task Act) → ℕ → X → State → Config Act Core → Type 0
Ends P c hs s ts n x z d = (e : Core) × P x z × SameFrame s z × (d ≡ to ts e n) × Lies c x (with_hidden hs z) e

freed_only : (m : Outcome (Unit {0} × State)) → Only (λ u z. z.used ≡ z.frame.base) (and_then m freed)
freed_only (done p) = refl
freed_only (faulty k l z) = tt
freed_only (asked a l z f) = λ r. freed_only (f r)
freed_only (over z) = tt
freed_only unsaid = tt

module _ (procedures : ℕ → Steps Act) (limit : ℕ) where
  joined : {X : Type 0} (P : X → State → Type 0) (c : Core) (hs : List ℤ) (s : State) (m h : Outcome (X × State)) (o : Outcome Core)
      (ts : List (Task Act)) (n : ℕ) (b : Config Act Core)
      → Only P m → Alike hs s m h → Meets (Lies c) h o → Says procedures limit o ts n b → Walks procedures limit (Ends P c hs s ts n) m b
  joined P c hs s (done p) h o ts n b only k met w =
      let v = subst (λ u. Meets (Lies c) u o) k.0 met in
      (to ts v.0 n, subst (λ u. Says procedures limit u ts n b) v.1 w, (v.0, only, k.1, refl, v.2))
  joined P c hs s (faulty j l z) h o ts n b only k met w =
      let e : o ≡ faulty j l (with_hidden hs z) = subst (λ u. Meets (Lies c) u o) k met in
      let v = subst (λ u. Says procedures limit u ts n b) e w in
      (v.0, v.1, (hs, v.2), n, v.3, v.4)
  joined P c hs s (asked a l z f) h o ts n b only (g, e, k) met w =
      let i = subst (λ u. Meets (Lies c) u o) e met in
      let v = subst (λ u. Says procedures limit u ts n b) i.1 w in
      (v.0, v.1, (hs, v.2), v.3, v.4, λ r. joined P c hs s (f r) (g r) (i.0 r) ts n (v.3 r) (only r) (k r) (i.2 r) (v.5 r))
  joined P c hs s (over z) h o ts n b only k met w =
      let e : o ≡ over (with_hidden hs z) = subst (λ u. Meets (Lies c) u o) k met in
      let v = subst (λ u. Says procedures limit u ts n b) e w in
      (v.0, v.1, (hs, v.2), v.3)
  joined P c hs s unsaid h o ts n b only k met w = tt

  module _ (e : Environment) (most lines : ℕ) where
    -- behind a statement, or the head of a construct: ready for what follows
    abbrev pub Behind : List (Task Act) → Core → Beside → ℕ → State → Config Act Core → Type 0
    Behind ts c b n z d = (f : Beside) × (f.hidden ≡ b.hidden) × (d ≡ to ts (core_of c f z) n) × IsReady e most lines c f z

    behind_parts : (ts : List (Task Act)) (c : Core) (b : Beside) (n : ℕ) (z y : State) (u : Unit {0}) (d : Config Act Core)
        → IsReady e most lines c b z
        → Ends (λ v x. x.used ≡ x.frame.base) (core_of c b z) b.hidden z ts n u y d → Behind ts c b n y d
    behind_parts ts c b n z y u d r (x, free, same, at', lies) =
        let f : Beside = record { hidden = b.hidden; round = x.round; formed = x.formed } in
        (f, refl, at' ∙ ap (λ v. to ts v n) lies, ready_beside e most lines c b f y (ready_after e most lines c b z y r same free) refl)

    pub released_walks : (m : Does (Unit {0})) (p : Parts Act) (l n : ℕ) (ts : List (Task Act)) (c : Core) (b : Beside) (z : State)
        → IsBlind m → Performs m p l → IsReady e most lines c b z
        → Walks procedures limit (λ u y d. Behind ts c b n y d) (meaning.released m l z) (to (eval l (released p) ∷ ts) (core_of c b z) n)
    released_walks m p l n ts c b z blind k r =
        let C : Core = core_of c b z in
        let E : Unit {0} → State → Config Act Core → Type 0 = Ends (λ v x. x.used ≡ x.frame.base) C b.hidden z ts n in
        walks_as procedures limit E (λ u y d. Behind ts c b n y d) (meaning.released m l z) (to (eval l (released p) ∷ ts) C n)
        (joined (λ v x. x.used ≡ x.frame.base) C b.hidden z (meaning.released m l z) (meaning.released m l (with_hidden b.hidden z))
        (told (released p) l C) ts n (to (eval l (released p) ∷ ts) C n) (freed_only (m l z)) (b_released m blind b.hidden l z)
        (released_meets m p l k C (r.cells, r.room) r.free) (says procedures limit (released p) l ts n C))
        (λ u y d w. behind_parts ts c b n z y u d r w)

    pub simply_walks : (m : Does (Unit {0})) (p : Parts Act) (l n h : ℕ) (ts : List (Task Act)) (c : Core) (b : Beside) (z : State)
        → IsBlind m → Performs m p l → IsReady e most lines c b z
        → Walks procedures limit (GoesOn e most lines h ts c b n) (simply m n l z) (to (eval l (released p) ∷ ts) (core_of c b z) n)
    simply_walks m p l n h ts c b z blind k r =
        walks_then procedures limit (λ u y d. Behind ts c b n y d) (GoesOn e most lines h ts c b n) (meaning.released m l z)
        (λ q. done ((onward, n), q.1)) (to (eval l (released p) ∷ ts) (core_of c b z) n) (released_walks m p l n ts c b z blind k r)
        (λ u y d w. (d, (0, refl), (w.0, w.2, (λ j i. ap (λ hs. slice_get hs j) w.1), le_refl n, w.3)))

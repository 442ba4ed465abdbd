-- EXIT, CYCLE and RETURN: what the code leads to is what the walk goes on with.
use Rattle.std.proofs.Common.{◌≡◌, ℕ, zero, suc, List, [], ◌∷◌, length, refl, ap, sym, subst, inl, inr}
use Rattle.std.specs.Prelude.{Some, slice_get}
use Rattle.walk_theory.specs.Walks.{Task, run, eval, tally, decide, pick, again, iterate, back, after_loop, from_loop, from_back, backs}
use Rattle.walk_theory.specs.Code.{Line, on, jump, go_back}
use Rattle.walk_theory.specs.Made.{Places, exit_instr, cycle_instr}
use Rattle.walk_theory.proofs.Alike.{Does, Leads}

module _ {A : Type 0} (code : List (Line A)) (starts : ℕ → ℕ) where
  -- the place leads to one where the code does these tasks
  pub record Reaches (p : ℕ) (rs : List ℕ) (ts : List (Task A)) : Type 0 where
    pub to : ℕ
    pub loops : List Places
    pub leads : Leads code starts p to
    pub does : Does code starts loops to rs ts

  pub reach_back : (ts : List (Task A)) (xs : List Places) (p q l : ℕ) (rs : List ℕ) → Does code starts xs p rs ts → slice_get code q ≡ Some (on l go_back) → Does code starts [] q rs (from_back ts)
  reach_back [] xs p q l rs h at = (refl, h.1, inr (l, at))
  reach_back (run ss ∷ ts) xs p q l rs h at = reach_back ts xs h.1 q l rs h.3 at
  reach_back (eval m a ∷ ts) xs p q l rs h at = reach_back ts xs _ q l rs h.1 at
  reach_back (tally m ∷ ts) xs p q l rs h at = reach_back ts xs _ q l rs h.1 at
  reach_back (decide b ∷ ts) xs p q l rs h at = reach_back ts xs _ q l rs h.1 at
  reach_back (pick m a b ∷ ts) xs p q l rs h at = reach_back ts xs _ q l rs h.1 at
  reach_back (again m ∷ ts) [] p q l rs h at = absurd h
  reach_back (again m ∷ ts) (x ∷ xs) p q l rs h at = reach_back ts xs _ q l rs h.4 at
  reach_back (iterate m ∷ ts) xs p q l rs h at = reach_back ts xs _ q l rs h.3 at
  reach_back (back ∷ ts) xs p q l [] h at = absurd h
  reach_back (back ∷ ts) xs p q l (r ∷ rs) h at = (refl, l, at, h.3, h.4)

  pub leave_loop : (n : ℕ) (ts : List (Task A)) (xs : List Places) (p q l : ℕ) (rs : List ℕ) → Does code starts xs p rs ts → slice_get code q ≡ Some (on l (exit_instr xs n)) → Reaches q rs (after_loop n ts)
  leave_loop n [] xs p q l rs h at =
      record { to = q; loops = []; leads = inl refl; does = (refl, h.1, inr (l, subst (λ ys. slice_get code q ≡ Some (on l (exit_instr ys n))) h.0 at)) }
  leave_loop n (run ss ∷ ts) xs p q l rs h at = leave_loop n ts xs h.1 q l rs h.3 at
  leave_loop n (eval m a ∷ ts) xs p q l rs h at = leave_loop n ts xs _ q l rs h.1 at
  leave_loop n (tally m ∷ ts) xs p q l rs h at = leave_loop n ts xs _ q l rs h.1 at
  leave_loop n (decide b ∷ ts) xs p q l rs h at = leave_loop n ts xs _ q l rs h.1 at
  leave_loop n (pick m a b ∷ ts) xs p q l rs h at = leave_loop n ts xs _ q l rs h.1 at
  leave_loop n (again m ∷ ts) [] p q l rs h at = absurd h
  leave_loop zero (again m ∷ ts) (x ∷ xs) p q l rs h at =
      record { to = x.exit; loops = xs; leads = inr (l, jump x.exit, at, refl); does = subst (λ k. Does code starts xs k rs ts) (sym (ap (λ (y : Places). y.exit) h.1)) h.4 }
  leave_loop (suc n) (again m ∷ ts) (x ∷ xs) p q l rs h at = leave_loop n ts xs _ q l rs h.4 at
  leave_loop n (iterate m ∷ ts) xs p q l rs h at = leave_loop n ts xs _ q l rs h.3 at
  leave_loop n (back ∷ ts) xs p q l [] h at = absurd h
  leave_loop n (back ∷ ts) xs p q l (r ∷ rs) h at =
      record { to = q; loops = []; leads = inl refl; does = (refl, l, subst (λ ys. slice_get code q ≡ Some (on l (exit_instr ys n))) h.0 at, h.3, h.4) }

  pub cycle_loop : (n : ℕ) (ts : List (Task A)) (xs : List Places) (p q l : ℕ) (rs : List ℕ) → Does code starts xs p rs ts → slice_get code q ≡ Some (on l (cycle_instr xs n)) → Reaches q rs (from_loop n ts)
  cycle_loop n [] xs p q l rs h at =
      record { to = q; loops = []; leads = inl refl; does = (refl, h.1, inr (l, subst (λ ys. slice_get code q ≡ Some (on l (cycle_instr ys n))) h.0 at)) }
  cycle_loop n (run ss ∷ ts) xs p q l rs h at = cycle_loop n ts xs h.1 q l rs h.3 at
  cycle_loop n (eval m a ∷ ts) xs p q l rs h at = cycle_loop n ts xs _ q l rs h.1 at
  cycle_loop n (tally m ∷ ts) xs p q l rs h at = cycle_loop n ts xs _ q l rs h.1 at
  cycle_loop n (decide b ∷ ts) xs p q l rs h at = cycle_loop n ts xs _ q l rs h.1 at
  cycle_loop n (pick m a b ∷ ts) xs p q l rs h at = cycle_loop n ts xs _ q l rs h.1 at
  cycle_loop n (again m ∷ ts) [] p q l rs h at = absurd h
  cycle_loop zero (again m ∷ ts) (x ∷ xs) p q l rs h at =
      record { to = x.next; loops = x ∷ xs; leads = inr (l, jump x.next, at, refl); does = (h.0, h.1, ap (λ (y : Places). y.next) h.1, h.3, h.4) }
  cycle_loop (suc n) (again m ∷ ts) (x ∷ xs) p q l rs h at = cycle_loop n ts xs _ q l rs h.4 at
  cycle_loop n (iterate m ∷ ts) xs p q l rs h at = cycle_loop n ts xs _ q l rs h.3 at
  cycle_loop n (back ∷ ts) xs p q l [] h at = absurd h
  cycle_loop n (back ∷ ts) xs p q l (r ∷ rs) h at =
      record { to = q; loops = []; leads = inl refl; does = (refl, l, subst (λ ys. slice_get code q ≡ Some (on l (cycle_instr ys n))) h.0 at, h.3, h.4) }

  -- there are as many return places as bodies that are being run
  pub same_depth : (ts : List (Task A)) (xs : List Places) (p : ℕ) (rs : List ℕ) → Does code starts xs p rs ts → length rs ≡ backs ts
  same_depth [] xs p rs h = ap length h.1
  same_depth (run ss ∷ ts) xs p rs h = same_depth ts xs h.1 rs h.3
  same_depth (eval m a ∷ ts) xs p rs h = same_depth ts xs _ rs h.1
  same_depth (tally m ∷ ts) xs p rs h = same_depth ts xs _ rs h.1
  same_depth (decide b ∷ ts) xs p rs h = same_depth ts xs _ rs h.1
  same_depth (pick m a b ∷ ts) xs p rs h = same_depth ts xs _ rs h.1
  same_depth (again m ∷ ts) [] p rs h = absurd h
  same_depth (again m ∷ ts) (x ∷ xs) p rs h = same_depth ts xs _ rs h.4
  same_depth (iterate m ∷ ts) xs p rs h = same_depth ts xs _ rs h.3
  same_depth (back ∷ ts) xs p [] h = absurd h
  same_depth (back ∷ ts) xs p (r ∷ rs) h = ap suc (same_depth ts h.3 r rs h.4)

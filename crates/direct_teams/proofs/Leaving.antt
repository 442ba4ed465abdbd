-- END TEAM deallocates the coarrays that were allocated in the team (ISO/IEC 1539-1:2018, 11.1.5.2).
use Rattle.std.proofs.Common.{refl, sym, subst, ℕ, suc, Bool, true, false, cond, List, [], ◌∷◌, Option, None, Some}
use Rattle.walk_theory.specs.Syntax.{Parts, end_parts}
use Rattle.walk_theory.specs.Language.{holds, fails}
use Rattle.image_acts.specs.Acts as a
use Rattle.image_acts.specs.Acts.{Act, allocation, ask}
use Rattle.image_acts.specs.Core.{Core, Own}
use Rattle.image_acts.specs.Operate.Allocating.{own_freed}
use Rattle.image_acts.specs.Meaning.{settled}
use Rattle.tree_meaning.specs.Environment.{Environment}
use Rattle.tree_meaning.specs.Sequences.{doing, nothing}
use Rattle.tree_meaning.specs.ImageControl as control
use Rattle.tree_meaning.specs.ImageControl.{is_allocatable_in}
use Rattle.direct_meaning.specs.States.{State, with_state, own_in}
use Rattle.direct_meaning.specs.Outcomes.{and_then, giving, ◌▹◌, of_some, changing}
use Rattle.direct_meaning.specs.Told.{of_effect, of_test, told}
use Rattle.direct_meaning.specs.Images.{current_team}
use Rattle.direct_meaning.specs.Synchronizing.{is_of_team, without_own, delete_own, delete_made, delete_all}
use Rattle.direct_agreement.proofs.Agreement.{Kept, Comes, comes_then}
use Rattle.direct_agreement.proofs.Scalars.{Keeps}
use Rattle.direct_statements.specs.Laws.{put_nothing}
use Rattle.direct_walks.proofs.Cases.{true_back}

module _ (l : ℕ) (B : Core) (n : ℕ) where
  -- the image knows no more of a coarray
  forgotten : (c : ℕ) (o : Option Own) (z : State) → Kept n z
      → Comes (put_nothing B) (Keeps n) ((of_some o ▹ (λ w. changing (without_own c w))) l z)
      (and_then (and_then (of_effect l (with_state z B) (settled (allocation (a.note_freed c)) (own_freed c o (with_state z B))))
      (told end_parts l)) (told end_parts l))
  forgotten c None z k = tt
  forgotten c (Some w) z k = (refl, k)

  -- where it was allocated in the team
  abbrev freeing : ℕ → Parts Act
  freeing c = doing (ask (a.delete c) ∷ allocation (a.note_freed c) ∷ [])

  made_comes : (c : ℕ) (b : Bool) (z : State) → Kept n z
      → Comes (put_nothing B) (Keeps n) (cond b (delete_own c) (giving tt) l z)
      (and_then (of_test (cond b (holds (with_state z B)) (fails (with_state z B))) (told (freeing c) l) (told nothing l))
      (told end_parts l))
  made_comes c true z k = (
    (λ r. and_then (and_then (of_effect l (with_state z B) (settled (allocation (a.note_freed c)) (own_freed c (own_in c z)
        (with_state z B)))) (told end_parts l)) (told end_parts l)),
    refl,
    λ r. forgotten c (own_in c z) z k,
  )
  made_comes c false z k = (refl, k)

  one_comes : (e : Environment) (c : ℕ) (z : State) → Kept n z
      → Comes (put_nothing B) (Keeps n) (delete_made c l z) (told (control.deleting_one e c) l (with_state z B))
  one_comes e c z k =
      let b : Bool = is_of_team (own_in c z) (current_team z) in
      subst (λ q. Comes (put_nothing B) (Keeps n) (delete_made c l z)
      (and_then (of_test (cond q (holds (with_state z B)) (fails (with_state z B))) (told (freeing c) l) (told nothing l))
      (told end_parts l)))
      (sym (true_back b)) (made_comes c b z k)

  -- one that may be there
  chosen_comes : (e : Environment) (c : ℕ) (b : Bool) (z : State) → Kept n z
      → Comes (put_nothing B) (Keeps n) (cond b (delete_made c) (giving tt) l z)
      (told (cond b (control.deleting_one e c) nothing) l (with_state z B))
  chosen_comes e c true z k = one_comes e c z k
  chosen_comes e c false z k = (refl, k)

  pub deleted : (e : Environment) (ns : List ℕ) (c : ℕ) (z : State) → Kept n z
      → Comes (put_nothing B) (Keeps n) (delete_all e ns c l z) (told (control.deleting e ns c) l (with_state z B))
  deleted e [] c z k = (refl, k)
  deleted e (m ∷ ms) c z k =
      let b : Bool = is_allocatable_in e e.program.main.variables m in
      comes_then (put_nothing B) (Keeps n) (put_nothing B) (Keeps n) (cond b (delete_made c) (giving tt) l z)
      (told (cond b (control.deleting_one e c) nothing) l (with_state z B)) (λ p. delete_all e ms (suc c) l p.1)
      (told (control.deleting e ms (suc c)) l)
      (chosen_comes e c b z k) (λ u y j. deleted e ms (suc c) y j)

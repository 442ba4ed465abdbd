-- What holds before the first step.
use Rattle.std.proofs.Common.{◌≡◌, ℕ, zero, suc, List, [], ◌∷◌, ◌++◌, length, refl, ap, sym, ◌∙◌, subst}
use Rattle.std.specs.Prelude.{map, replicate, slice_index_or, Some}
use Rattle.std.proofs.lemmas.List.{length-replicate}
use Rattle.caf_events.specs.declared.event.Event.{Event}
use Rattle.caf_events.specs.declared.event.Entry.{Entry}
use Rattle.caf_events.specs.Histories.{Served}
use Rattle.trace_theory.specs.Entries.{Each, Rises, of}
use Rattle.core_runs.specs.Lists.{image_of, key_of, stamp_of, list_at, entries_of, history_of, IsWoven}
use Rattle.core_runs.specs.Moments.{Rules, Moment, item_at}
use Rattle.core_runs.specs.Beginnings.{Beginning, IsFirst}
use Rattle.core_runs.specs.CoreRuns.{IsFit}
use Rattle.core_runs.specs.Lanes.{IsLane}
use Rattle.core_runs.specs.Kept.{IsKept}

pub not_cons : {A : Type 0} (g g' : List A) (e : A) → [] ≡ g ++ e ∷ g' → ⊥
not_cons [] g' e h = cc
not_cons (x ∷ g) g' e h = cc

-- lists without an entry are of one run
pub empty_woven : (ls : List (List Event)) (board : List Entry) (hs : List (List Entry)) → ((i : ℕ) → entries_of ls i ≡ []) → ((o : ℕ) → history_of board hs o ≡ []) → IsWoven ls board hs
empty_woven ls board hs no_events no_entries = record {
  mine = λ i. subst (Each (λ e. image_of e ≡ i)) (sym (no_events i)) tt;
  there = λ o. subst (Each (λ e. key_of e ≡ suc o)) (sym (no_entries (suc o))) tt;
  image_rises = λ i. subst (Rises stamp_of) (sym (no_events i)) tt;
  object_rises = λ o. subst (Rises stamp_of) (sym (no_entries (suc o))) tt;
  agree = λ i o. ap (of image_of i) (no_entries (suc o)) ∙ sym (ap (of key_of (suc o)) (no_events i));
  fits = λ i o g g' h h' e p q. absurd (not_cons g g' e (sym (no_events i) ∙ p));
  own_fits = λ i g g' e z p. absurd (not_cons g g' e (sym (no_events i) ∙ p));
}

same_index : {A : Type 0} (n k : ℕ) (x : A) → slice_index_or (replicate n x) k x ≡ x
same_index zero k x = refl
same_index (suc n) zero x = refl
same_index (suc n) (suc k) x = same_index n k x

-- each of so many empty lists is empty
pub empty_at : {A : Type 0} (ls : List (List A)) (n i : ℕ) → ls ≡ replicate n [] → list_at ls i ≡ []
empty_at ls n zero h = refl
empty_at ls n (suc k) h = ap (λ v. slice_index_or v k []) h ∙ same_index n k []

module _ {C M B : Type 0} (r : Rules C M B) (b : Beginning C M B) (m : Moment C M B) (fit : IsFit r b) (f : IsFirst r b m) where
  no_events : (i : ℕ) → entries_of m.events i ≡ []
  no_events i = ap (map _) (empty_at m.events b.images i f.events)

  no_entries : (o : ℕ) → history_of m.board_history m.histories o ≡ []
  no_entries zero = refl
  no_entries (suc zero) = f.board_history
  no_entries (suc (suc k)) = empty_at m.histories b.images (suc k) f.histories

  lane : (i : ℕ) (c : C) → item_at m.configs i ≡ Some c → IsLane r b i [] c
  lane zero c h = absurd (cc)
  lane (suc k) c h = record {
    walks = (b.first (suc k), refl, (f.starts k c h).0, (f.starts k c h).1);
    rests = f.rests k c h;
    places = tt;
    answered = tt;
    alone = tt;
  }

  -- before the first step all that is kept holds
  pub first_kept : IsKept r b m
  first_kept = record {
    fit = fit;
    count = f.count;
    event_count = ap length f.events ∙ length-replicate b.images [];
    history_count = ap length f.histories ∙ length-replicate b.images [];
    memories = f.memories;
    board = f.board;
    woven = empty_woven m.events m.board_history m.histories no_events no_entries;
    memories_served = λ i h. subst (Served (r.memory_ready (b.memory i)) (r.memory_reply (b.memory i)) []) (sym (empty_at m.histories b.images i f.histories)) tt;
    board_served = subst (Served (r.board_ready b.board) (r.board_reply b.board) []) (sym f.board_history) tt;
    lanes = λ i c h. subst (λ es. IsLane r b i es c) (sym (empty_at m.events b.images i f.events)) (lane i c h);
  }

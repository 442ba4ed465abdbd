-- The state of all teams, when an image stops or fails.
use Rattle.std.proofs.Common.{◌≡◌, ℕ, zero, suc, ◌+◌, ◌<◌, ◌≤◌, Bool, List, [], ◌∷◌, ◌++◌, inl, inr, length, refl, ap, sym, ◌∙◌, subst, arith, length-set}
use Rattle.std.specs.Prelude.{slice_get, slice_set, slice_index_or, Some}
use Rattle.std.proofs.lemmas.Bool.{cases_eq}
use Rattle.object_rules.specs.Scans.{or_else}
use Rattle.object_rules.specs.Happenings.{Happening, numbers_of}
use Rattle.object_rules.specs.TeamRounds.{opening_of}
use Rattle.object_rules.proofs.Growing.{or_else_none, opening_more}
use Rattle.failure_status.specs.Endings.{Ended, end_of, ended_with, TellsEnded}
use Rattle.failure_status.proofs.Noted.{tells_end as ended_end}
use Rattle.team_round.specs.TeamStates.{TeamState, RoundsState, fresh_team, Tells, TellsAll, EndsTo, AreEnded}
use Rattle.team_round.proofs.Trying.{get_same, get_other, get_within}
use Rattle.team_round.proofs.Telling.{same_some, get_back, unclosed_more, end_counts, joins_none}
use Rattle.team_round.proofs.AllTeams.{get_from}

pub none_ended : (i : ℕ) (ended : Ended) (ts : List TeamState) → AreEnded i ended 0 ts ts
none_ended i ended ts = record { as_many = refl; each = λ k x h. (x, h, (λ l. absurd (omega arith)), (λ l. refl)) }

-- the team at the place hasn't heard of it yet
pub not_yet : (i : ℕ) (ended : Ended) (at : ℕ) (before ts : List TeamState) (d : TeamState) → AreEnded i ended at before ts → at < length ts → d ≡ slice_index_or ts at d → slice_get before at ≡ Some d
not_yet i ended at before ts d a h e =
    let n = a.as_many in
    let x = get_back before at (omega arith) in
    let y = a.each at x.0 x.1 in
    x.1 ∙ ap Some (sym (y.3 (omega arith))) ∙ sym y.1 ∙ get_from ts at d h e

pub ended_more : (i : ℕ) (ended : Ended) (at next : ℕ) (before ts : List TeamState) (d y : TeamState) → AreEnded i ended at before ts → next ≡ at + 1 → at < length ts → d ≡ slice_index_or ts at d → EndsTo i ended d y → AreEnded i ended next before (slice_set ts at y)
ended_more i ended at next before ts d y a n h e to = record {
  as_many = length-set ts at y ∙ a.as_many;
  each = λ k x g. elim (cases_eq at k) [
    | inl same ↦ (
        let was : d ≡ x = same_some d x (sym (not_yet i ended at before ts d a h e) ∙ ap (slice_get before) same ∙ g) in
        (y, subst (λ q. slice_get (slice_set ts at y) q ≡ Some y) same (get_same ts at y h), (λ l. subst (λ q. EndsTo i ended q y) was to), (λ l. absurd (omega arith))))
    | inr other ↦ (
        let z = a.each k x g in
        (z.0, get_other ts at k y other ∙ z.1, (λ l. z.2 (let o : (at ≡ k → ⊥) = other in omega arith)), (λ l. z.3 (omega arith))))
  ];
}

-- nobody arrives at a team that isn't there
fresh_end : (t i : ℕ) (failed : Bool) (s : TeamState) (hs : List Happening) → s.rounds ≡ [] → Tells t s hs → Tells t s (hs ++ end_of i failed ∷ [])
fresh_end t i failed s hs none told = record {
  counts = λ j a b. told.counts j a b ∙ sym (end_counts t j i failed hs);
  rounds = λ k x at. absurd (let e : slice_get [] k ≡ Some x = ap (λ rs. slice_get rs k) (sym none) ∙ at in no_item k x e);
  no_more = λ k h. opening_more t (suc k) hs (end_of i failed) ∙ ap (or_else (opening_of t (suc k) hs)) (joins_none t (suc k) i failed hs) ∙ or_else_none (opening_of t (suc k) hs) ∙ told.no_more k h;
  unclosed = λ k h. unclosed_more (numbers_of s.members) t (suc k) hs (end_of i failed) (told.unclosed k h) (λ j. (let f = told.few j in let g = end_counts t j i failed hs in omega arith));
  few = λ j. (let f = told.few j in let g = end_counts t j i failed hs in omega arith);
}
  where
    no_item : {A : Type 0} (k : ℕ) (x : A) → slice_get [] k ≡ Some x → ⊥
    no_item zero x h = absurd (cc)
    no_item (suc k) x h = absurd (cc)

-- what is told after an image's end
pub all_ended : (n i : ℕ) (failed : Bool) (s s' : RoundsState) (hs : List Happening) → 0 < i → i ≤ n → s'.ended ≡ ended_with s.ended i failed → AreEnded i s'.ended (length s.teams) s.teams s'.teams → TellsAll n s hs → TellsAll n s' (hs ++ end_of i failed ∷ [])
all_ended n i failed s s' hs low high ended are all = record {
  ended_told = ends;
  told = λ k y g. (
      let x = back k y g in
      subst (λ q. Tells (suc k) q (hs ++ end_of i failed ∷ [])) (same_some (to k y g).0 y (sym (to k y g).1 ∙ g))
      (((to k y g).2 (get_within s.teams k x.0 x.1)).told (suc k) hs failed (all.told k x.0 x.1) (subst (λ m. TellsEnded m s'.ended (hs ++ end_of i failed ∷ [])) (sym (all.sizes k x.0 x.1)) ends)));
  sizes = λ k y g. (
      let x = back k y g in
      ap (λ q. length q.joined) (sym (same_some (to k y g).0 y (sym (to k y g).1 ∙ g))) ∙ ((to k y g).2 (get_within s.teams k x.0 x.1)).images ∙ all.sizes k x.0 x.1);
  fresh = λ t ms h. fresh_end t i failed (fresh_team n ms) hs refl (all.fresh t ms (let c = are.as_many in omega arith));
}
  where
    ends : TellsEnded n s'.ended (hs ++ end_of i failed ∷ [])
    ends = subst (λ q. TellsEnded n q (hs ++ end_of i failed ∷ [])) (sym ended) (ended_end n s.ended hs i failed low high all.ended_told)

    back : (k : ℕ) (y : TeamState) → slice_get s'.teams k ≡ Some y → (x : TeamState) × (slice_get s.teams k ≡ Some x)
    back k y g = let b = get_within s'.teams k y g in let c = are.as_many in get_back s.teams k (omega arith)

    to : (k : ℕ) (y : TeamState) (g : slice_get s'.teams k ≡ Some y) → (z : TeamState) × (slice_get s'.teams k ≡ Some z) × (k < length s.teams → EndsTo i s'.ended (back k y g).0 z) × (length s.teams ≤ k → z ≡ (back k y g).0)
    to k y g = are.each k (back k y g).0 (back k y g).1

-- The teams of a run stay as they were made: each history only adds teams behind those that are there.
use Rattle.std.proofs.Common.{◌≡◌, ℕ, zero, suc, true, false, List, [], ◌∷◌, ◌++◌, refl, ap, sym, ◌∙◌, subst, arith, append_assoc}
use Rattle.std.specs.Prelude.{◌-◌, nat_eq, Option, Some, None, slice_get}
use Rattle.std.proofs.lemmas.List.{append-nil}
use Rattle.std.proofs.lemmas.Bool.{ne_eqb}
use Rattle.caf_events.specs.declared.event.Entry.{Entry}
use Rattle.object_rules.specs.ImagePairs.{names}
use Rattle.object_rules.specs.BoardTeams.{Team, made_by, teams_from, teams_after, members_there, members_at}
use Rattle.team_laws.proofs.Lists.{get_front}

teams_from_grow : (ts : List Team) (before es : List Entry) → (new : List Team) × (teams_from ts before es ≡ ts ++ new)
teams_from_grow ts before [] = ([], sym (append-nil ts))
teams_from_grow ts before (e ∷ es) =
    let r = teams_from_grow (ts ++ made_by 1 ts before e) (before ++ e ∷ []) es in
    (made_by 1 ts before e ++ r.0, r.1 ∙ append_assoc ts (made_by 1 ts before e) r.0)

teams_from_append : (ts : List Team) (before es fs : List Entry) → teams_from ts before (es ++ fs) ≡ teams_from (teams_from ts before es) (before ++ es) fs
teams_from_append ts before [] fs = ap (λ b. teams_from ts b fs) (sym (append-nil before))
teams_from_append ts before (e ∷ es) fs =
    let next = ts ++ made_by 1 ts before e in
    teams_from_append next (before ++ e ∷ []) es fs
    ∙ ap (λ b. teams_from (teams_from next (before ++ e ∷ []) es) b fs) (append_assoc before (e ∷ []) es)

-- one more entry adds the teams that it makes
pub teams_more : (n : ℕ) (h : List Entry) (e : Entry) → teams_after n (h ++ e ∷ []) ≡ teams_after n h ++ made_by 1 (teams_after n h) h e
teams_more n h e = teams_from_append _ [] h (e ∷ [])

-- the teams stay
pub teams_stay : (n : ℕ) (h g : List Entry) → (new : List Team) × (teams_after n (h ++ g) ≡ teams_after n h ++ new)
teams_stay n h g =
    let r = teams_from_grow (teams_after n h) h g in
    (r.0, teams_from_append _ [] h g ∙ r.1)

-- the members of a team by its place in the list
members_is : (ts : List Team) (k : ℕ) → members_at ts (suc k) ≡ members_there (slice_get ts k)
members_is ts k =
    let away : nat_eq (suc k) 0 ≡ false = ne_eqb (suc k) 0 (λ e. absurd (omega arith)) in
    let at : suc k - 1 ≡ k = omega arith in
    rw (away, at) refl

pub members_of_team : (ts : List Team) (k : ℕ) (x : Team) → slice_get ts k ≡ Some x → members_at ts (suc k) ≡ x.members
members_of_team ts k x h = members_is ts k ∙ ap members_there h

-- the members of a team that has one stay
pub members_stay : (ts new : List Team) (i t : ℕ) → names i (members_at ts t) ≡ true → members_at (ts ++ new) t ≡ members_at ts t
members_stay ts new i zero h = absurd (cc)
members_stay ts new i (suc k) h = by (slice_get ts k) refl
  where
    by : (o : Option Team) → slice_get ts k ≡ o → members_at (ts ++ new) (suc k) ≡ members_at ts (suc k)
    by None e = absurd (let w : names i [] ≡ true = subst (λ z. names i z ≡ true) (members_is ts k ∙ ap members_there e) h in cc)
    by (Some x) e = members_of_team (ts ++ new) k x (get_front ts new k x e) ∙ sym (members_of_team ts k x e)

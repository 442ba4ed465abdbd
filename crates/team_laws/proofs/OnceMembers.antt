-- No image stands twice in a team.
use Rattle.std.proofs.Common.{◌≡◌, ℕ, suc, ◌≤◌, List, [], ◌∷◌, ◌++◌, sym, subst, arith}
use Rattle.std.specs.Prelude.{Some, slice_get}
use Rattle.caf_events.specs.declared.event.Entry.{Entry}
use Rattle.trace_theory.specs.Entries.{Each}
use Rattle.object_rules.specs.BoardTeams.{Team, teams_made, made_in_rounds, made_in_team, made_by, teams_after}
use Rattle.team_laws.proofs.Times.{times, range_once}
use Rattle.team_laws.proofs.Teams.{teams_more}
use Rattle.team_laws.proofs.Lists.{grown, each_append, each_get}
use Rattle.team_laws.proofs.FormArgs.{made_few}

each_le : (m bound : ℕ) (xs : List Team) → bound ≤ 1 → Each (λ (x : Team). times m x.members ≤ bound) xs → Each (λ (x : Team). times m x.members ≤ 1) xs
each_le m bound [] le h = tt
each_le m bound (x ∷ xs) le h = (let a = h.0 in omega arith, each_le m bound xs le h.1)

module _ (m : ℕ) where
  abbrev Once : List Team → Type 0
  Once ts = Each (λ (x : Team). times m x.members ≤ 1) ts

  rounds_once : (t : ℕ) (ms : List ℕ) (f : List Entry) (rs : List ℕ) → times m ms ≤ 1 → Once (made_in_rounds t ms f rs)
  rounds_once t ms f [] le = tt
  rounds_once t ms f (r ∷ rs) le =
      each_append (λ (x : Team). times m x.members ≤ 1) (teams_made t r ms f) (made_in_rounds t ms f rs) (each_le m (times m ms) (teams_made t r ms f) le (made_few m t r ms f)) (rounds_once t ms f rs le)

  by_once : (t : ℕ) (xs : List Team) (before : List Entry) (e : Entry) → Once xs → Once (made_by t xs before e)
  by_once t [] before e h = tt
  by_once t (x ∷ xs) before e h =
      each_append (λ (y : Team). times m y.members ≤ 1) (made_in_team t x.members before e) (made_by (suc t) xs before e) (rounds_once t x.members (before ++ e ∷ []) _ h.0) (by_once (suc t) xs before e h.1)

  all_once : (n : ℕ) (h : List Entry) → Once (teams_after n h)
  all_once n h =
      grown (λ g. Once (teams_after n g))
      (λ g e old. subst Once (sym (teams_more n g e)) (each_append (λ (y : Team). times m y.members ≤ 1) (teams_after n g) (made_by 1 (teams_after n g) g e) old (by_once 1 (teams_after n g) g e old)))
      [] h (range_once m 1 n, tt)

  pub members_once : (n : ℕ) (h : List Entry) (k : ℕ) (x : Team) → slice_get (teams_after n h) k ≡ Some x → times m x.members ≤ 1
  members_once n h k x e = each_get (λ (y : Team). times m y.members ≤ 1) (teams_after n h) k x (all_once n h) e

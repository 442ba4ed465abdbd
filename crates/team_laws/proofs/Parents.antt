-- Each team but the initial one has a member, and all its members are members of its parent, which stands before it.
use Rattle.std.proofs.Common.{◌≡◌, ℕ, suc, ◌+◌, ◌<◌, ◌≤◌, true, List, [], ◌∷◌, ◌++◌, length, inl, inr, refl, ap, sym, ◌∙◌, subst, arith}
use Rattle.std.specs.Prelude.{nat_le, Some, slice_get}
use Rattle.std.specs.List.{list_all}
use Rattle.caf_events.specs.declared.event.Entry.{Entry}
use Rattle.trace_theory.specs.Entries.{Each}
use Rattle.object_rules.specs.Happenings.{control}
use Rattle.object_rules.specs.ImagePairs.{names}
use Rattle.object_rules.specs.FormedTeams.{Members, numbers_given, teams_of}
use Rattle.object_rules.specs.BoardTeams.{Team, form_args, round_of, teams_made, made_in_rounds, made_in_team, made_by, teams_after, members_at}
use Rattle.team_laws.proofs.Lists.{grown, each_append, each_get, each_from, each_by, each_true, each_mapped, get_front, get_low, get_either}
use Rattle.team_laws.proofs.Times.{times, all_named_by}
use Rattle.team_laws.proofs.Teams.{teams_more, members_of_team}
use Rattle.team_laws.proofs.Formed.{has_members, formed_there}
use Rattle.team_laws.proofs.FormArgs.{made_few}
use Rattle.team_laws.proofs.Departures.{made_or_none, as_team, forms_made}

-- a team that a round of this one made: it has a member, and nobody stands oftener in it than among the members of its
-- parent
record IsMade (team : ℕ) (ms : List ℕ) (x : Team) : Type 0 where
  parent : x.parent ≡ team
  some : nat_le 1 (length x.members) ≡ true
  few : (m : ℕ) → times m x.members ≤ times m ms

-- a team whose parent is one of these, of which the first has the own number t
pub record IsChild (t : ℕ) (ts : List Team) (x : Team) : Type 0 where
  pub place : ℕ
  pub parent : Team
  pub number : t + place ≡ x.parent
  pub there : slice_get ts place ≡ Some parent
  pub some : nat_le 1 (length x.members) ≡ true
  pub few : (m : ℕ) → times m x.members ≤ times m parent.members

module _ (team round : ℕ) (ms : List ℕ) (f : List Entry) where
  abbrev HasOne : Team → Type 0
  HasOne x = (x.parent ≡ team) × (nat_le 1 (length x.members) ≡ true)

  each_one : Each HasOne (teams_made team round ms f)
  each_one =
      let args = form_args (round_of control team round ms f) in
      let ns = teams_of (numbers_given args) args in
      let all : Each (λ (x : Members). has_members x ≡ true) ns = each_true has_members ns (formed_there args) in
      let one : Each (λ (x : Members). HasOne (as_team team round ms f x)) ns = each_by (λ (x : Members). has_members x ≡ true) (λ (x : Members). HasOne (as_team team round ms f x)) (λ x h. (refl, h)) ns all in
      elim (made_or_none team round ms f) [
        | inl nil ↦ subst (Each HasOne) (sym nil) tt
        | inr forms ↦ subst (Each HasOne) (sym (forms_made team round ms f forms)) (each_mapped HasOne (as_team team round ms f) ns one)
      ]

  each_made : Each (IsMade team ms) (teams_made team round ms f)
  each_made =
      let xs = teams_made team round ms f in
      each_from (IsMade team ms) xs
      (λ k x e. (let one = each_get HasOne xs k x each_one e in record { parent = one.0; some = one.1; few = λ m. each_get (λ (y : Team). times m y.members ≤ times m ms) xs k x (made_few m team round ms f) e }))

rounds_made : (t : ℕ) (ms : List ℕ) (f : List Entry) (rs : List ℕ) → Each (IsMade t ms) (made_in_rounds t ms f rs)
rounds_made t ms f [] = tt
rounds_made t ms f (r ∷ rs) = each_append (IsMade t ms) (teams_made t r ms f) (made_in_rounds t ms f rs) (each_made t r ms f) (rounds_made t ms f rs)

children : (t : ℕ) (xs : List Team) (before : List Entry) (e : Entry) → Each (IsChild t xs) (made_by t xs before e)
children t [] before e = tt
children t (x ∷ xs) before e =
    each_append (IsChild t (x ∷ xs)) (made_in_team t x.members before e) (made_by (suc t) xs before e)
    (each_by (IsMade t x.members) (IsChild t (x ∷ xs)) (λ y m. (let p = m.parent in record { place = 0; parent = x; number = omega arith; there = refl; some = m.some; few = m.few })) (made_in_team t x.members before e) (rounds_made t x.members (before ++ e ∷ []) _))
    (each_by (IsChild (suc t) xs) (IsChild t (x ∷ xs)) (λ y c. (let p = c.number in record { place = suc c.place; parent = c.parent; number = omega arith; there = c.there; some = c.some; few = c.few })) (made_by (suc t) xs before e) (children (suc t) xs before e))

more_there : (ts new : List Team) (x : Team) → IsChild 1 ts x → IsChild 1 (ts ++ new) x
more_there ts new x c = record { place = c.place; parent = c.parent; number = c.number; there = get_front ts new c.place c.parent c.there; some = c.some; few = c.few }

-- each team behind the first is a child of one before it
abbrev AllChildren : List Team → Type 0
AllChildren ts = (k : ℕ) (x : Team) → slice_get ts (suc k) ≡ Some x → IsChild 1 ts x × (x.parent ≤ suc k)

more_children : (ts new : List Team) → Each (IsChild 1 ts) new → AllChildren ts → AllChildren (ts ++ new)
more_children ts new made old k x e = elim (get_either ts new (suc k) x e) [
  | inl was ↦ (let o = old k x was in (more_there ts new x o.0, o.1))
  | inr is ↦ (
      let c = each_get (IsChild 1 ts) new is.0 x made is.1 in
      let number = c.number in
      let low = get_low ts c.place c.parent c.there in
      let long = is.2 in
      (more_there ts new x c, omega arith))
]

all_children : (n : ℕ) (h : List Entry) → AllChildren (teams_after n h)
all_children n h =
    grown (λ g. AllChildren (teams_after n g))
    (λ g e old. subst AllChildren (sym (teams_more n g e)) (more_children (teams_after n g) (made_by 1 (teams_after n g) g e) (children 1 (teams_after n g) g e) old))
    [] h (λ k x e. absurd (cc))

module _ (n : ℕ) (h : List Entry) (k : ℕ) (x : Team) (is : slice_get (teams_after n h) (suc k) ≡ Some x) where
  pub some_member : nat_le 1 (length x.members) ≡ true
  some_member = (all_children n h k x is).0.some

  pub parent_before : (1 ≤ x.parent) × (x.parent < suc (suc k))
  parent_before = let at = (all_children n h k x is).0.number in let low = (all_children n h k x is).1 in (omega arith, omega arith)

  pub members_of_parent : list_all (λ m. names m (members_at (teams_after n h) x.parent)) x.members ≡ true
  members_of_parent =
      let c = (all_children n h k x is).0 in
      let at = c.number in
      let number : suc c.place ≡ x.parent = omega arith in
      let p : members_at (teams_after n h) x.parent ≡ c.parent.members = ap (members_at (teams_after n h)) (sym number) ∙ members_of_team (teams_after n h) c.place c.parent c.there in
      subst (λ z. list_all (λ m. names m z) x.members ≡ true) (sym p) (all_named_by x.members c.parent.members c.few)

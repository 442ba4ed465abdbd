-- What images have brought to collective subroutines, with one more entry.
use Rattle.std.specs.Prelude.{Result, Ok, Err, OnOk, slice_get}
use Rattle.team_round.proofs.Trying.{get_same}
use Rattle.std.proofs.Common.{◌≡◌, ℕ, zero, suc, ◌-◌, ◌<◌, ◌≤◌, true, ◌&&◌, cond, List, [], ◌∷◌, ◌++◌, inl, inr, length, map, refl, ap, sym, ◌∙◌, subst, arith, length-set}
use Rattle.std.specs.Prelude.{Option, Some, None, slice_set, slice_index_or}
use Rattle.std.proofs.lemmas.List.{append-nil, length-map}
use Rattle.std.proofs.lemmas.List.Elements.{filter_map-append}
use Rattle.std.proofs.lemmas.Bool.{cases_eq, eq-eqb, ne_eqb, and_parts}
use Rattle.std.specs.List.{list_all}
use Rattle.caf_base.specs.declared.place.TeamNo.{TeamNo}
use Rattle.caf_base.specs.declared.value.Kind.{Kind}
use Rattle.caf_base.specs.declared.value.Value.{Value}
use Rattle.caf_events.specs.declared.ask.Ask.{Ask}
use Rattle.caf_events.specs.declared.ask.Ask.TheVariants as asks
use Rattle.caf_events.specs.declared.reply.Reply.{Reply}
use Rattle.caf_events.specs.declared.round.GatherOp.{GatherOp}
use Rattle.caf_events.specs.declared.event.Entry.{Entry}
use Rattle.object_rules.specs.Happenings.{collective, happens}
use Rattle.object_rules.specs.ImagePairs.{names}
use Rattle.object_rules.specs.Folds.{is_of_kind}
use Rattle.object_rules.specs.BoardTeams.{arrives_there, teams_after, members_at}
use Rattle.object_rules.specs.BoardRules.{gathered, is_gathered, is_root, fits_board}
use Rattle.team_round.specs.declared.round.Arrival.{Arrival}
use Rattle.team_round.specs.declared.round.Arrival.TheVariants as arrived
use Rattle.control_board.specs.Values.{BroughtState}
use Rattle.control_board.specs.Boards.{IsKeptWith, reply_to, brings, brought, values_in, values_of, table_of}

pub brought_none : (u j : ℕ) (h : List Entry) (e : Entry) → brings u j e ≡ None → brought u j (h ++ e ∷ []) ≡ brought u j h
brought_none u j h e n = filter_map-append (brings u j) h (e ∷ []) ∙ rw n (append-nil (brought u j h))

pub brought_some : (u j : ℕ) (h : List Entry) (e : Entry) (vs : List Value) → brings u j e ≡ Some vs → brought u j (h ++ e ∷ []) ≡ brought u j h ++ vs ∷ []
brought_some u j h e vs s = filter_map-append (brings u j) h (e ∷ []) ∙ rw s refl

pub kept_count : (bs cs : List BroughtState) (i : ℕ) (vs : List Value) (a : Arrival) → IsKeptWith bs cs i vs a → length cs ≡ length bs
kept_count bs cs i vs (arrived.Joined r) e =
    sym (length-map cs (λ (b : BroughtState). b.values)) ∙ ap length e ∙ length-set (values_in bs) (i - 1) (values_of bs i ++ vs ∷ []) ∙ length-map bs (λ (b : BroughtState). b.values)
kept_count bs cs i vs (arrived.Clash j l) e = ap length e

set_same : {A : Type 0} (xs : List A) (k : ℕ) (x d : A) → k < length xs → slice_index_or (slice_set xs k x) k d ≡ x
set_same [] k x d h = absurd (omega arith)
set_same (y ∷ ys) zero x d h = refl
set_same (y ∷ ys) (suc k) x d h = set_same ys k x d (omega arith)

set_other : {A : Type 0} (xs : List A) (k j : ℕ) (x d : A) → (k ≡ j → ⊥) → slice_index_or (slice_set xs k x) j d ≡ slice_index_or xs j d
set_other [] k j x d n = refl
set_other (y ∷ ys) zero zero x d n = absurd (n refl)
set_other (y ∷ ys) zero (suc j) x d n = refl
set_other (y ∷ ys) (suc k) zero x d n = refl
set_other (y ∷ ys) (suc k) (suc j) x d n = set_other ys k j x d (λ e. n (ap suc e))

-- what an ask with its reply brings
abbrev brings_by : ℕ → ℕ → ℕ → ℕ → Ask → Reply → Option (List Value)
brings_by u j i line a r = cond (arrives_there u j (happens collective i line a r)) (gathered a) None

brings_is : (u j : ℕ) (e : Entry) (a : Ask) (r : Reply) → e.event.ask ≡ a → e.event.reply ≡ r → brings u j e ≡ brings_by u j e.image.0 e.event.line a r
brings_is u j e a r ask reply = ap (λ x. brings_by u j e.image.0 e.event.line x e.event.reply) ask ∙ ap (brings_by u j e.image.0 e.event.line a) reply

module _ (bs cs : List BroughtState) (h : List Entry) (e : Entry) (team : TeamNo) (op : GatherOp) (root : ℕ) (kind : Kind) (vs : List Value) where
  -- the values of the table of the team
  pub kept_values : (a : Arrival) → e.event.ask ≡ asks.Gather team op root kind vs → e.event.reply ≡ reply_to a → IsKeptWith bs cs e.image.0 vs a → 0 < e.image.0 → e.image.0 ≤ length bs
      → (j : ℕ) → 0 < j → values_of bs j ≡ brought team.0 j h → values_of cs j ≡ brought team.0 j (h ++ e ∷ [])
  kept_values (arrived.Clash k l) ask reply kept low high j there is =
      ap (λ b. values_of b j) kept ∙ is ∙ sym (brought_none team.0 j h e (brings_is team.0 j e (asks.Gather team op root kind vs) (reply_to (arrived.Clash k l)) ask reply))
  kept_values (arrived.Joined r) ask reply kept low high j there is =
      let brings_now = brings_is team.0 j e (asks.Gather team op root kind vs) (reply_to (arrived.Joined r)) ask reply in
      let count = length-map bs (λ (b : BroughtState). b.values) in
      elim (cases_eq e.image.0 j) [
        | inl same ↦ (
            let some_there : brings team.0 j e ≡ Some vs = brings_now ∙ rw (eq-eqb team.0 team.0 refl, eq-eqb e.image.0 j same) refl in
            let at : slice_index_or (values_in cs) (e.image.0 - 1) [] ≡ values_of bs e.image.0 ++ vs ∷ [] =
            ap (λ xs. slice_index_or xs (e.image.0 - 1) []) kept ∙ set_same (values_in bs) (e.image.0 - 1) (values_of bs e.image.0 ++ vs ∷ []) [] (omega arith) in
            ap (λ k. slice_index_or (values_in cs) (k - 1) []) (sym same) ∙ at ∙ ap (λ k. values_of bs k ++ vs ∷ []) same ∙ ap (λ xs. xs ++ vs ∷ []) is ∙ sym (brought_some team.0 j h e vs some_there))
        | inr other ↦ (
            let none_there : brings team.0 j e ≡ None = brings_now ∙ rw (eq-eqb team.0 team.0 refl, ne_eqb e.image.0 j other) refl in
            ap (λ xs. slice_index_or xs (j - 1) []) kept ∙ set_other (values_in bs) (e.image.0 - 1) (j - 1) (values_of bs e.image.0 ++ vs ∷ []) [] (λ q. other (omega arith)) ∙ is ∙ sym (brought_none team.0 j h e none_there))
      ]

  -- those of the table of another team
  pub other_values : (a : Arrival) → e.event.ask ≡ asks.Gather team op root kind vs → e.event.reply ≡ reply_to a → (u j : ℕ) → (team.0 ≡ u → ⊥) → brought u j (h ++ e ∷ []) ≡ brought u j h
  other_values (arrived.Clash k l) ask reply u j n = brought_none u j h e (brings_is u j e (asks.Gather team op root kind vs) (reply_to (arrived.Clash k l)) ask reply)
  other_values (arrived.Joined r) ask reply u j n = brought_none u j h e (brings_is u j e (asks.Gather team op root kind vs) (reply_to (arrived.Joined r)) ask reply ∙ rw (ne_eqb team.0 u n) refl)

-- the tables by the values that they hold
pub table_values : (ts us : List (List BroughtState)) (k : ℕ) → map values_in ts ≡ map values_in us → values_in (slice_index_or ts k []) ≡ values_in (slice_index_or us k [])
table_values [] [] k e = refl
table_values [] (u ∷ us) k e = absurd (cc)
table_values (t ∷ ts) [] k e = absurd (cc)
table_values (t ∷ ts) (u ∷ us) zero e = cc
table_values (t ∷ ts) (u ∷ us) (suc k) e = table_values ts us k (let f : map values_in ts ≡ map values_in us = cc in f)

table_set : (ts us : List (List BroughtState)) (k j : ℕ) (v : List (List (List Value))) → map values_in us ≡ slice_set (map values_in ts) k v → (k ≡ j → ⊥) → values_in (slice_index_or us j []) ≡ values_in (slice_index_or ts j [])
table_set [] [] k j v e n = refl
table_set [] (u ∷ us) k j v e n = absurd (cc)
table_set (t ∷ ts) [] zero j v e n = absurd (cc)
table_set (t ∷ ts) [] (suc k) j v e n = absurd (cc)
table_set (t ∷ ts) (u ∷ us) zero zero v e n = absurd (n refl)
table_set (t ∷ ts) (u ∷ us) zero (suc j) v e n = table_values us ts j (let f : map values_in us ≡ map values_in ts = cc in f)
table_set (t ∷ ts) (u ∷ us) (suc k) zero v e n = cc
table_set (t ∷ ts) (u ∷ us) (suc k) (suc j) v e n = table_set ts us k j v (let f : map values_in us ≡ slice_set (map values_in ts) k v = cc in f) (λ q. n (ap suc q))

-- the tables of other teams stay
pub tables_other : (ts us : List (List BroughtState)) (t u : ℕ) (v : List (List (List Value))) → 0 < t → 0 < u → map values_in us ≡ slice_set (map values_in ts) (t - 1) v → (t ≡ u → ⊥) → values_in (table_of us u) ≡ values_in (table_of ts u)
tables_other ts us t u v a b e n = table_set ts us (t - 1) (u - 1) v e (λ q. n (omega arith))

pub tables_count : (ts us : List (List BroughtState)) (k : ℕ) (v : List (List (List Value))) → map values_in us ≡ slice_set (map values_in ts) k v → length us ≡ length ts
tables_count ts us k v e = sym (length-map us values_in) ∙ ap length e ∙ length-set (map values_in ts) k v ∙ length-map ts values_in

pub tables_same : (ts us : List (List BroughtState)) → map values_in ts ≡ map values_in us → length ts ≡ length us
tables_same ts us e = sym (length-map ts values_in) ∙ ap length e ∙ length-map us values_in

pub bringers_same : (bs cs : List BroughtState) → values_in bs ≡ values_in cs → length bs ≡ length cs
bringers_same bs cs e = sym (length-map bs (λ (b : BroughtState). b.values)) ∙ ap length e ∙ length-map cs (λ (b : BroughtState). b.values)

-- a table that is set
pub table_kept : (ts : List (List BroughtState)) (k : ℕ) (b y : List BroughtState) → k < length ts → b ≡ slice_index_or ts k b → (slice_index_or ts k [] ≡ b) × (slice_index_or (slice_set ts k y) k [] ≡ y) × (map values_in (slice_set ts k y) ≡ slice_set (map values_in ts) k (values_in y))
table_kept [] k b y h is = absurd (omega arith)
table_kept (t ∷ ts) zero b y h is = (sym is, refl, refl)
table_kept (t ∷ ts) (suc k) b y h is = let r = table_kept ts k b y (omega arith) is in (r.0, r.1, ap (λ l. values_in t ∷ l) r.2)

pub table_itself : (ts : List (List BroughtState)) (k : ℕ) → k < length ts → map values_in ts ≡ slice_set (map values_in ts) k (values_in (slice_index_or ts k []))
table_itself [] k h = absurd (omega arith)
table_itself (t ∷ ts) zero h = refl
table_itself (t ∷ ts) (suc k) h = ap (λ l. values_in t ∷ l) (table_itself ts k (omega arith))

pub table_as : (ts : List (List BroughtState)) (k : ℕ) (b y : List BroughtState) → k < length ts → b ≡ slice_index_or ts k b → values_in y ≡ values_in b → map values_in (slice_set ts k y) ≡ map values_in ts
table_as [] k b y h is e = absurd (omega arith)
table_as (t ∷ ts) zero b y h is e = ap (λ l. l ∷ map values_in ts) (e ∙ ap values_in is)
table_as (t ∷ ts) (suc k) b y h is e = ap (λ l. values_in t ∷ l) (table_as ts k b y (omega arith) is e)

-- the image of a call that fits is a member of the team
pub gather_member : (n : ℕ) (h : List Entry) (i : ℕ) (team : TeamNo) (op : GatherOp) (root : ℕ) (kind : Kind) (vs : List Value) → fits_board n h i (asks.Gather team op root kind vs) ≡ true → names i (members_at (teams_after n h) team.0) ≡ true
gather_member n h i team op root kind vs f =
    let a = and_parts (names i (members_at (teams_after n h) team.0) && is_gathered op kind && is_root op (length (members_at (teams_after n h) team.0)) root) (list_all (is_of_kind kind) vs) f in
    let b = and_parts (names i (members_at (teams_after n h) team.0) && is_gathered op kind) (is_root op (length (members_at (teams_after n h) team.0)) root) a.0 in
    (and_parts (names i (members_at (teams_after n h) team.0)) (is_gathered op kind) b.0).0

-- one more call of an image, as it is kept
pub values_set : (bs : List BroughtState) (k : ℕ) (b y : BroughtState) (vs : List Value) → k < length bs → b ≡ slice_index_or bs k b → y.values ≡ b.values ++ vs ∷ []
    → values_in (slice_set bs k y) ≡ slice_set (values_in bs) k (slice_index_or (values_in bs) k [] ++ vs ∷ [])
values_set [] k b y vs h is e = absurd (omega arith)
values_set (x ∷ xs) zero b y vs h is e = ap (λ v. v ∷ values_in xs) (e ∙ ap (λ (q : BroughtState). q.values ++ vs ∷ []) is)
values_set (x ∷ xs) (suc k) b y vs h is e = ap (λ l. x.values ∷ l) (values_set xs k b y vs (omega arith) is e)

-- room for one more call changes no values
pub values_same : (bs : List BroughtState) (k : ℕ) (b y : BroughtState) → k < length bs → b ≡ slice_index_or bs k b → y.values ≡ b.values → values_in (slice_set bs k y) ≡ values_in bs
values_same [] k b y h is e = absurd (omega arith)
values_same (x ∷ xs) zero b y h is e = ap (λ v. v ∷ values_in xs) (e ∙ ap (λ (q : BroughtState). q.values) is)
values_same (x ∷ xs) (suc k) b y h is e = ap (λ l. x.values ∷ l) (values_same xs k b y (omega arith) is e)

some_same : {A : Type 0} {x y : A} → Some x ≡ Some y → x ≡ y
some_same e = cc

pub room_set : (bs : List BroughtState) (k : ℕ) (y : BroughtState) → k < length bs → 0 < y.room → (x : BroughtState) → slice_get (slice_set bs k y) k ≡ Some x → 0 < x.room
room_set bs k y h room x at = subst (λ (q : BroughtState). 0 < q.room) (some_same (sym (get_same bs k y h) ∙ at)) room

pub on_ok : {T E : Type 0} {P Q : Type 0} (r : Result T E) → (P → Q) → OnOk r P → OnOk r Q
on_ok (Ok x) f p = f p
on_ok (Err e) f p = tt

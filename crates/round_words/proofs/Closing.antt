-- The close of a round in a trace: a front of the trace by which it has closed, and before which it hadn't.
use Rattle.std.proofs.Common.{◌≡◌, ◌<◌, ◌≤◌, ℕ, Bool, true, false, nat_eq, cond, List, [], ◌∷◌, ◌++◌, length, inl, inr, refl, ap, sym, ◌∙◌, subst, arith, append_assoc, length-append}
use Rattle.std.specs.Prelude.{Option, Some, None, is_some}
use Rattle.std.proofs.lemmas.Bool.{cases_Bool, cases_eq, both_ways}
use Rattle.trace_theory.proofs.Filters.{filter_append}
use Rattle.caf_events.specs.declared.event.Entry.{Entry}
use Rattle.object_rules.specs.Scans.{or_else, first_front_from, first_front}
use Rattle.object_rules.specs.Happenings.{Class, happened}
use Rattle.object_rules.specs.TeamRounds.{has_closed}
use Rattle.object_rules.specs.BoardTeams.{closing}
use Rattle.object_rules.proofs.Growing.{none_now}
use Rattle.team_laws.proofs.Rounds.{closing_is, closed_now}
use Rattle.core_runs.specs.Lists.{key_of}
use Rattle.core_runs.specs.CoreRuns.{at_board}
use Rattle.order_theory.proofs.Splits.{same_fronts}
use Rattle.round_words.proofs.BoardWords.{happened_board}

module _ {E : Type 0} (test : List E → Bool) where
  is_here : (b : List E) (f : List E) → cond (test b) (Some b) None ≡ Some f → (test b ≡ true) × (b ≡ f)
  is_here b f e = by (test b) e
    where
      by : (c : Bool) → cond c (Some b) None ≡ Some f → (c ≡ true) × (b ≡ f)
      by true e = (refl, cc)
      by false e = absurd (cc)

  sooner_from : (before es f : List E) → first_front_from test before es ≡ Some f → (b r : List E) → before ++ es ≡ b ++ r → length before ≤ length b → length b < length f → test b ≡ false
  sooner_from before [] f h b r s low high = let e = ap length (is_here before f h).1 in absurd (omega arith)
  sooner_from before (x ∷ es) f h b r s low high = elim (cases_Bool (test before)) [
    | inl t ↦ absurd (
        let q : or_else (Some before) (first_front_from test (before ++ x ∷ []) es) ≡ Some f = rw t at h in
        let w : before ≡ f = cc in
        let e = ap length w in
        omega arith)
    | inr n ↦ elim (cases_eq (length before) (length b)) [
      | inl e ↦ subst (λ z. test z ≡ false) (same_fronts E before (x ∷ es) b r s e).0 n
      | inr other ↦ (
          let more = length-append before (x ∷ []) in
          sooner_from (before ++ x ∷ []) es f (rw n at h) b r (append_assoc before (x ∷ []) es ∙ s) (omega arith) high)
    ]
  ]

  -- before the first place where a test holds it doesn't
  pub not_sooner : (h f : List E) → first_front test h ≡ Some f → (b r : List E) → h ≡ b ++ r → length b < length f → test b ≡ false
  not_sooner h f e b r s high = sooner_from [] h f e b r s (omega arith) high

pub board_append : (g h : List Entry) → at_board (g ++ h) ≡ at_board g ++ at_board h
board_append g h = filter_append (λ y. nat_eq (key_of y) 1) g h

-- a front of the board's history is that of a front of the trace
pub board_front : (g f r : List Entry) → at_board g ≡ f ++ r → (a : List Entry) × (b : List Entry) × (g ≡ a ++ b) × (at_board a ≡ f) × (at_board b ≡ r)
board_front g [] r e = ([], g, refl, refl, e)
board_front [] (y ∷ f) r e = absurd (cc)
board_front (x ∷ g) (y ∷ f) r e = elim (cases_Bool (nat_eq (key_of x) 1)) [
  | inl t ↦ (
      let q : x ∷ at_board g ≡ y ∷ (f ++ r) = rw t at e in
      let heads : x ≡ y = cc in
      let tails : at_board g ≡ f ++ r = cc in
      let s = board_front g f r tails in
      (x ∷ s.0, s.1, ap (λ z. x ∷ z) s.2, (rw t (ap (λ z. x ∷ z) s.3 ∙ ap (λ z. z ∷ f) heads)), s.4))
  | inr n ↦ (
      let s = board_front g (y ∷ f) r (rw n at e) in
      (x ∷ s.0, s.1, ap (λ z. x ∷ z) s.2, (rw n s.3), s.4))
]

module _ (class : Class) (team k : ℕ) (ms : List ℕ) where
  -- the close of the round in g
  pub record ClosedBy (g : List Entry) : Type 0 where
    pub front : List Entry
    pub back : List Entry
    pub split : g ≡ front ++ back
    pub is : closing class team k ms (at_board g) ≡ Some (at_board front)
    pub closed : has_closed ms team k (happened class front) ≡ true
    pub sooner : (b r : List Entry) → front ≡ b ++ r → length (at_board b) < length (at_board front) → has_closed ms team k (happened class b) ≡ false

  pub closed_at : (g f : List Entry) → closing class team k ms (at_board g) ≡ Some f → ClosedBy g
  closed_at g f e =
      let c = closing_is class team k ms (at_board g) f e in
      let s = board_front g f c.0 c.1 in
      record {
        front = s.0;
        back = s.1;
        split = s.2;
        is = e ∙ ap Some (sym s.3);
        closed = ap (has_closed ms team k) (sym (happened_board class s.0) ∙ ap (happened class) s.3) ∙ c.2;
        sooner = λ b r w l. (
            let whole : at_board g ≡ at_board b ++ at_board (r ++ s.1) = ap at_board (s.2 ∙ ap (λ z. z ++ s.1) w ∙ append_assoc b r s.1) ∙ board_append b (r ++ s.1) in
            let size = ap length s.3 in
            ap (has_closed ms team k) (sym (happened_board class b)) ∙ not_sooner (λ x. has_closed ms team k (happened class x)) (at_board g) f e (at_board b) (at_board (r ++ s.1)) whole (omega arith));
      }

  pub closed_by : (g : List Entry) → is_some (closing class team k ms (at_board g)) ≡ true → ClosedBy g
  closed_by g h = by (closing class team k ms (at_board g)) refl h
    where
      by : (o : Option (List Entry)) → closing class team k ms (at_board g) ≡ o → is_some o ≡ true → ClosedBy g
      by None e h = absurd (cc)
      by (Some f) e h = closed_at g f e

  -- it stands in the trace exactly where the round is closed then
  pub some_closed : (g : List Entry) → is_some (closing class team k ms (at_board g)) ≡ true → has_closed ms team k (happened class g) ≡ true
  some_closed g h = by (closing class team k ms (at_board g)) refl h
    where
      by : (o : Option (List Entry)) → closing class team k ms (at_board g) ≡ o → is_some o ≡ true → has_closed ms team k (happened class g) ≡ true
      by None e h = absurd (cc)
      by (Some f) e h = ap (has_closed ms team k) (sym (happened_board class g)) ∙ closed_now class team k ms (at_board g) f e

  pub closed_some : (g : List Entry) → has_closed ms team k (happened class g) ≡ true → is_some (closing class team k ms (at_board g)) ≡ true
  closed_some g h = by (closing class team k ms (at_board g)) refl
    where
      by : (o : Option (List Entry)) → closing class team k ms (at_board g) ≡ o → is_some o ≡ true
      by None e = absurd (both_ways (has_closed ms team k (happened class (at_board g))) (none_now (λ x. has_closed ms team k (happened class x)) (at_board g) e) (ap (has_closed ms team k) (happened_board class g) ∙ h))
      by (Some f) e = refl

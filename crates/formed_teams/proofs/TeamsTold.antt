-- The teams of a run, by the words of a run that is ahead of it: the initial team, and those of its rounds of FORM TEAM
-- that have closed, in the order of the rounds.
use Rattle.std.proofs.Common.{◌≡◌, ◌<◌, ◌≤◌, ℕ, zero, suc, ◌+◌, Bool, true, false, nat_eq, not, List, [], ◌∷◌, ◌++◌, inl, inr, refl, ap, sym, ◌∙◌, subst, arith, append_assoc}
use Rattle.std.specs.Prelude.{Some}
use Rattle.std.specs.List.{filter, range_with_len}
use Rattle.std.proofs.lemmas.List.{append-nil}
use Rattle.std.proofs.lemmas.Bool.{cases_Bool, and_parts, and_right}
use Rattle.trace_theory.specs.Entries.{Each}
use Rattle.trace_theory.proofs.Filters.{each_filter}
use Rattle.caf_events.specs.declared.event.Entry.{Entry}
use Rattle.object_rules.specs.Cells.{Declared}
use Rattle.object_rules.specs.Happenings.{control, happened}
use Rattle.object_rules.specs.TeamRounds.{arrivals, has_closed}
use Rattle.object_rules.specs.BoardTeams.{closing, teams_made, most_joined, closes_now, made_in_rounds, made_in_team, made_by, teams_after}
use Rattle.team_laws.proofs.Lists.{grown}
use Rattle.team_laws.proofs.Rounds.{closing_here}
use Rattle.team_laws.proofs.Teams.{teams_more}
use Rattle.core_runs.specs.Lists.{key_of}
use Rattle.core_runs.specs.CoreRuns.{at_board, said_by}
use Rattle.free_replies.proofs.Alike.{IsFree}
use Rattle.round_words.specs.RoundRuns.{IsAhead, IsRoundRun}
use Rattle.round_words.proofs.BoardWords.{happened_board, own_arrivals, closed_is}
use Rattle.round_words.proofs.Ahead.{arrivals_ahead, closed_ahead, front_ahead}
use Rattle.round_words.proofs.Closing.{board_append, closed_at}
use Rattle.round_words.proofs.RoundRuns.{round_front}
use Rattle.formed_teams.proofs.FlatForms.{later_none}
use Rattle.formed_teams.proofs.RoundLists.{filter_none, filter_more, filter_grows, closed_falls, past_most, none_closed, most_more}
use Rattle.formed_teams.proofs.RoundTeams.{first_team, rounds_said, rounds_append, made_said, made_told}

not_true : (b : Bool) → not b ≡ true → b ≡ false
not_true true h = absurd (cc)
not_true false h = refl

same_some : (f h : List Entry) → Some f ≡ Some h → f ≡ h
same_some f h e = cc

pub ahead_front_of : (t g h : List Entry) → IsAhead t (g ++ h) → IsAhead t g
ahead_front_of t g h ahead i =
    let a = ahead i in
    let f = front_ahead g h i in
    (f.0 ++ a.0, a.1 ∙ ap (λ z. z ++ a.0) f.1 ∙ append_assoc (said_by i g) f.0 a.0)

module _ (s : List Declared) (n : ℕ) (t : List Entry) (run_t : IsRoundRun s n t) where
  abbrev pub ms : List ℕ
  ms = range_with_len 1 n

  -- no image joins more rounds
  abbrev pub most : ℕ
  most = most_joined 1 ms (happened control t)

  -- the rounds that have closed by a history of the board
  abbrev pub closed : List Entry → ℕ → Bool
  closed b r = has_closed ms 1 r (happened control b)

  abbrev pub IsTold : List Entry → Type 0
  IsTold b = teams_after n b ≡ first_team n ∷ rounds_said n t (filter (closed b) (range_with_len 1 most))

  -- what has closed in a run has closed in one that is ahead
  pub closed_more : (u w : List Entry) → IsRoundRun s n u → IsRoundRun s n w → IsAhead u w → (r : ℕ) → closed (at_board w) r ≡ true → closed (at_board u) r ≡ true
  closed_more u w run_u run_w ahead r h =
      ap (has_closed ms 1 r) (happened_board control u)
      ∙ closed_is control 1 r ms u run_u.free
      ∙ closed_ahead control u w ahead 1 r ms (sym (ap (has_closed ms 1 r) (happened_board control w) ∙ closed_is control 1 r ms w run_w.free) ∙ h)

  module _ (h : List Entry) (e : Entry) (run : IsRoundRun s n (h ++ e ∷ [])) (ahead : IsAhead t (h ++ e ∷ [])) where
    abbrev g : List Entry
    g = h ++ e ∷ []

    abbrev b : List Entry
    b = at_board h

    elsewhere : nat_eq (key_of e) 1 ≡ false → at_board g ≡ b
    elsewhere f = board_append h (e ∷ []) ∙ ap (λ z. b ++ z) (board_none f) ∙ append-nil b
      where
        board_none : nat_eq (key_of e) 1 ≡ false → at_board (e ∷ []) ≡ []
        board_none f = rw f refl

    module _ (at : nat_eq (key_of e) 1 ≡ true) where
      board : at_board g ≡ b ++ e ∷ []
      board = board_append h (e ∷ []) ∙ ap (λ z. b ++ z) (board_one at)
        where
          board_one : nat_eq (key_of e) 1 ≡ true → at_board (e ∷ []) ≡ e ∷ []
          board_one t = rw t refl

      free : Each IsFree (b ++ e ∷ [])
      free = subst (Each IsFree) board (each_filter IsFree _ g run.free)

      -- the rounds that close with the entry
      abbrev closes : ℕ → Bool
      closes r = closes_now 1 ms (happened control b) (happened control (b ++ e ∷ [])) r

      made_there : (r : ℕ) → 1 ≤ r → closes r ≡ true → teams_made 1 r ms (b ++ e ∷ []) ≡ made_said n t r
      made_there r low is =
          let p = and_parts (not (closed b r)) (closed (b ++ e ∷ []) r) is in
          let now : closing control 1 r ms (at_board g) ≡ Some (at_board g) =
          subst (λ z. closing control 1 r ms z ≡ Some z) (sym board) (closing_here control 1 r ms b e (not_true (closed b r) p.0) p.1) in
          let c = closed_at control 1 r ms g (at_board g) now in
          ap (teams_made 1 r ms) (sym board ∙ same_some (at_board g) (at_board c.front) (sym now ∙ c.is)) ∙ made_told n t s run_t g run ahead r low c

      rounds_there : (k m : ℕ) → 1 ≤ k → made_in_rounds 1 ms (b ++ e ∷ []) (filter closes (range_with_len k m)) ≡ rounds_said n t (filter closes (range_with_len k m))
      rounds_there k zero low = refl
      rounds_there k (suc m) low =
          let more = rounds_there (k + 1) m (omega arith) in
          elim (cases_Bool (closes k)) [
            | inl is ↦ rw is (ap (λ z. z ++ made_in_rounds 1 ms (b ++ e ∷ []) (filter closes (range_with_len (k + 1) m))) (made_there k low is) ∙ ap (λ z. made_said n t k ++ z) more)
            | inr off ↦ rw off more
          ]

      few : most_joined 1 ms (happened control (b ++ e ∷ [])) ≤ most
      few = most_more 1 ms (happened control (b ++ e ∷ [])) (happened control t) (λ m. (
          let a = ap (λ z. arrivals 1 m (happened control z)) (sym board) ∙ ap (arrivals 1 m) (happened_board control g) ∙ own_arrivals control m 1 g in
          let c = own_arrivals control m 1 t in
          let l = arrivals_ahead control t g ahead 1 m in
          omega arith))

      none_more : (r : ℕ) → most_joined 1 ms (happened control (b ++ e ∷ [])) < r → closes r ≡ false
      none_more r l = and_right (not (closed b r)) (closed (b ++ e ∷ []) r) (past_most 1 r ms (happened control (b ++ e ∷ [])) l)

      -- the teams that the entry makes
      made_now : made_by 1 (teams_after n b) b e ≡ rounds_said n t (filter closes (range_with_len 1 most)) → IsTold b → IsTold (b ++ e ∷ [])
      made_now new old =
          let more = filter_grows (closed b) (closed (b ++ e ∷ [])) (closed_falls ms 1 (happened control b))
          (λ r l. subst (λ z. closed z r ≡ true) board (closed_more g h run (round_front s n h (e ∷ []) run) (front_ahead h (e ∷ [])) r l)) 1 most in
          teams_more n b e
          ∙ ap (λ z. z ++ made_by 1 (teams_after n b) b e) old
          ∙ ap (λ z. (first_team n ∷ rounds_said n t (filter (closed b) (range_with_len 1 most))) ++ z) new
          ∙ ap (λ z. first_team n ∷ z) (sym (rounds_append n t (filter (closed b) (range_with_len 1 most)) (filter closes (range_with_len 1 most))))
          ∙ ap (λ z. first_team n ∷ rounds_said n t z) (sym more)

      made_new : IsTold b → made_by 1 (teams_after n b) b e ≡ rounds_said n t (filter closes (range_with_len 1 most))
      made_new old =
          let rest = rounds_said n t (filter (closed b) (range_with_len 1 most)) in
          let now = most_joined 1 ms (happened control (b ++ e ∷ [])) in
          ap (λ ts. made_by 1 ts b e) old
          ∙ ap (λ z. made_in_team 1 ms b e ++ z) (later_none 2 rest b e (omega arith) free)
          ∙ append-nil (made_in_team 1 ms b e)
          ∙ rounds_there 1 now (omega arith)
          ∙ ap (rounds_said n t) (sym (filter_more closes 1 now most few (λ r l. none_more r (omega arith))))

      told_there : IsTold b → IsTold (at_board g)
      told_there old = subst IsTold (sym board) (made_now (made_new old) old)

    told_next : IsTold b → IsTold (at_board g)
    told_next old = elim (cases_Bool (nat_eq (key_of e) 1)) [
      | inl at ↦ told_there at old
      | inr off ↦ subst IsTold (sym (elsewhere off)) old
    ]

  -- a run of which t is ahead has such teams
  abbrev So : List Entry → Type 0
  So h = IsRoundRun s n h → IsAhead t h → IsTold (at_board h)

  so_next : (h : List Entry) (e : Entry) → So h → So (h ++ e ∷ [])
  so_next h e old run ahead = told_next h e run ahead (old (round_front s n h (e ∷ []) run) (ahead_front_of t h (e ∷ []) ahead))

  so_none : So []
  so_none run ahead = ap (λ z. first_team n ∷ rounds_said n t z) (sym (filter_none (closed []) 1 most (λ r l. none_closed 1 r ms l)))

  -- THE TEAMS OF A RUN
  pub teams_told : (g : List Entry) → IsRoundRun s n g → IsAhead t g → IsTold (at_board g)
  teams_told g run ahead = grown So so_next [] g so_none run ahead

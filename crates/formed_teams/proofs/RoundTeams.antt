-- The teams that a round of the initial team makes, by what the images say in all: FORM TEAM forms teams of what each
-- member gives to the round, and none where a member never comes to it (ISO/IEC 1539-1:2018, 11.6.9, 11.6.11).
use Rattle.std.proofs.Common.{◌≡◌, ◌≤◌, ℕ, false, nat_lt, cond, List, [], ◌∷◌, ◌++◌, map, refl, ap, sym, ◌∙◌, append_assoc}
use Rattle.std.specs.Prelude.{negsuc, Option, Some, filter_map}
use Rattle.std.specs.List.{list_any, range_with_len}
use Rattle.caf_events.specs.declared.event.Entry.{Entry}
use Rattle.object_rules.specs.Cells.{Declared}
use Rattle.object_rules.specs.Happenings.{control, happened}
use Rattle.object_rules.specs.TeamRounds.{Opening, opening_of, Missed, missed_by}
use Rattle.object_rules.specs.FormedTeams.{FormArg, Members, formed}
use Rattle.object_rules.specs.BoardTeams.{Team, form_arg, form_args, round_of, is_form, is_form_kind, teams_made}
use Rattle.answer_laws.proofs.KnownTeams.{told_members}
use Rattle.core_runs.specs.CoreRuns.{at_board, said_by}
use Rattle.round_words.specs.RoundRuns.{IsAhead, IsRoundRun, arrivals_said, team_members}
use Rattle.round_words.proofs.Brought.{brought}
use Rattle.round_words.proofs.Closing.{ClosedBy}
use Rattle.round_words.proofs.ClosedRounds.{opening, kind, missed, brings}

-- the initial team
abbrev pub first_team : ℕ → Team
first_team n = record { parent = 0; round = 0; number = negsuc 0; members = range_with_len 1 n }

pub first_members : (n : ℕ) (g : List Entry) → team_members n g 1 ≡ range_with_len 1 n
first_members n g = sym (told_members n (at_board g) [] tt 1 refl)

abbrev pub as_team : ℕ → Members → Team
as_team k x = record { parent = 1; round = k; number = x.number; members = x.images }

module _ (n : ℕ) (t : List Entry) where
  -- the teams that these members form, if the round is of FORM TEAM
  abbrev pub made_of : ℕ → Option Opening → Missed → List FormArg → List Team
  made_of k o m args = cond (is_form o) (map (as_team k) (formed m.stopped m.failed args)) []

  -- by the words of t
  abbrev pub made_said : ℕ → List Team
  made_said k =
      made_of k (opening_of 1 k (happened control t)) (record { stopped = list_any (λ m. nat_lt (arrivals_said control 1 m (said_by m t)) k) (range_with_len 1 n); failed = false })
      (filter_map (λ m. brought control form_arg 1 m k (said_by m t)) (range_with_len 1 n))

  -- the teams of several rounds
  abbrev pub rounds_said : List ℕ → List Team
  rounds_said [] = []
  rounds_said (k ∷ ks) = made_said k ++ rounds_said ks

  pub rounds_append : (js ks : List ℕ) → rounds_said (js ++ ks) ≡ rounds_said js ++ rounds_said ks
  rounds_append [] ks = refl
  rounds_append (j ∷ js) ks = ap (λ z. made_said j ++ z) (rounds_append js ks) ∙ sym (append_assoc (made_said j) (rounds_said js) (rounds_said ks))

  same_form : (o p : Option Opening) (a b : Opening) → o ≡ Some a → p ≡ Some b → a.kind ≡ b.kind → is_form o ≡ is_form p
  same_form o p a b e f h = ap is_form e ∙ ap is_form_kind h ∙ sym (ap is_form f)

  -- WHAT FORM TEAM GIVES: the teams that a round made which closed in a run, by the words of a run that is ahead.
  pub made_told : (s : List Declared) (run_t : IsRoundRun s n t) (g : List Entry) → IsRoundRun s n g → IsAhead t g → (k : ℕ) → 1 ≤ k → (c : ClosedBy control 1 k (range_with_len 1 n) g)
      → teams_made 1 k (range_with_len 1 n) (at_board c.front) ≡ made_said k
  made_told s run_t g run ahead k low c =
      let ms = range_with_len 1 n in
      let are = first_members n g in
      let f = at_board c.front in
      let o = opening s n t g run_t run ahead control tt 1 k low ms are c in
      let p = kind s n t g run_t run ahead control tt 1 k low ms are c in
      let args = form_args (round_of control 1 k ms f) in
      ap (λ b. cond b (map (as_team k) (formed (missed_by ms (happened control f)).stopped (missed_by ms (happened control f)).failed args)) [])
      (same_form (opening_of 1 k (happened control f)) (opening_of 1 k (happened control t)) o.0 p.0 o.1 p.1 p.2)
      ∙ ap (λ m. made_of k (opening_of 1 k (happened control t)) m args) (missed s n t g run_t run ahead control tt 1 k low ms are c)
      ∙ ap (made_of k (opening_of 1 k (happened control t)) (record { stopped = list_any (λ m. nat_lt (arrivals_said control 1 m (said_by m t)) k) ms; failed = false })) (brings s n t g run_t run ahead control tt 1 k low ms are c form_arg)

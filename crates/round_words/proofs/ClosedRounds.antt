-- A round that has closed in a run, by what the images say in a run that is ahead of it: which members had stopped, of
-- which kind it was, and what its members brought to it.
use Rattle.std.proofs.Common.{◌≡◌, ◌≤◌, ℕ, Bool, false, nat_le, nat_lt, ◌||◌, List, inl, inr, ap, sym, ◌∙◌}
use Rattle.std.specs.Prelude.{Option, Some, filter_map}
use Rattle.std.specs.List.{list_any, list_all}
use Rattle.std.proofs.lemmas.Bool.{cases_Bool, and_parts, leb-true}
use Rattle.caf_events.specs.declared.ask.Ask.{Ask}
use Rattle.caf_events.specs.declared.event.Entry.{Entry}
use Rattle.object_rules.specs.Cells.{Declared}
use Rattle.object_rules.specs.Happenings.{Class, happened}
use Rattle.object_rules.specs.TeamRounds.{has_closed, Opening, opening_of, missed_by}
use Rattle.object_rules.specs.BoardTeams.{round_of}
use Rattle.team_laws.proofs.Openings.{closed_opens}
use Rattle.core_runs.specs.CoreRuns.{at_board, said_by}
use Rattle.round_words.specs.RoundRuns.{IsAhead, IsRoundClass, IsRoundRun, arrivals_said, team_members}
use Rattle.round_words.proofs.BoardWords.{happened_board, stopped_said, closed_is, or_none}
use Rattle.round_words.proofs.Ahead.{stopped_whole}
use Rattle.round_words.proofs.Closing.{ClosedBy}
use Rattle.round_words.proofs.RoundStops.{front_run, ahead_front, missed_told}
use Rattle.round_words.proofs.Openings.{opening_kind}
use Rattle.round_words.proofs.Brought.{all_given, brought, brought_append, brought_told}

module _ (s : List Declared) (n : ℕ) (t g : List Entry) (run_t : IsRoundRun s n t) (run : IsRoundRun s n g) (ahead : IsAhead t g)
    (class : Class) (round : IsRoundClass class) (team k : ℕ) (low : 1 ≤ k) (ms : List ℕ) (are : team_members n g team ≡ ms) (c : ClosedBy class team k ms g) where
  front : IsRoundRun s n c.front
  front = front_run s n class round team k low g run ms are c

  far : IsAhead t c.front
  far = ahead_front s n class round team k low g run ms are c t run_t.ends ahead

  pub opening : (o : Opening) × (opening_of team k (happened class (at_board c.front)) ≡ Some o)
  opening = closed_opens ms team k (happened class (at_board c.front)) low (ap (has_closed ms team k) (happened_board class c.front) ∙ c.closed)

  pub kind : (p : Opening) × (opening_of team k (happened class t) ≡ Some p) × (opening.0.kind ≡ p.kind)
  kind = opening_kind s n class team t c.front run_t front far k opening.0 (sym (ap (opening_of team k) (happened_board class c.front)) ∙ opening.1)

  pub missed : missed_by ms (happened class (at_board c.front)) ≡ record { stopped = list_any (λ m. nat_lt (arrivals_said class team m (said_by m t)) k) ms; failed = false }
  missed = missed_told s n class round team k low g run ms are c t run_t.ends ahead

  pub brings : {A : Type 0} (give : ℕ → Ask → Option A) → all_given give (round_of class team k ms (at_board c.front)) ≡ filter_map (λ m. brought class give team m k (said_by m t)) ms
  brings give =
      let come : ℕ → Bool = λ m. nat_le k (arrivals_said class team m (said_by m c.front)) || stopped_said (said_by m c.front) in
      let all = (and_parts (list_any (λ m. nat_le k (arrivals_said class team m (said_by m c.front))) ms) (list_all come ms) (sym (closed_is class team k ms c.front front.free) ∙ c.closed)).1 in
      brought_told class give team k ms c.front t come (λ m q. (
      let a = far m in
      elim (cases_Bool (stopped_said (said_by m c.front))) [
        | inl stopped ↦ ap (brought class give team m k) (sym (stopped_whole t c.front m (run_t.ends m) far stopped))
        | inr goes ↦ (
            let l = leb-true k (arrivals_said class team m (said_by m c.front)) (sym (or_none (nat_le k (arrivals_said class team m (said_by m c.front))) (stopped_said (said_by m c.front)) goes) ∙ q) in
            sym (ap (brought class give team m k) a.1 ∙ brought_append class give team m k (said_by m c.front) a.0 low l))
      ])) all

use Rattle.std.proofs.Common.{◌≡◌, List, refl, sym, ◌∙◌, ap}
use Rattle.std.specs.Prelude.{Some}
use Rattle.caf_events.specs.declared.event.Entry.{Entry}
use Rattle.object_rules.specs.Happenings.{happened}
use Rattle.object_rules.specs.TeamRounds.{missed_by}
use Rattle.round_words.specs.RoundRuns.{team_members}
use Rattle.round_words.proofs.Closing.{closed_at}
use Rattle.round_words.proofs.RoundStops.{missed_told}
use Rattle.round_words.proofs.laws.law_who_missed.Goals as goal

same : (f h : List Entry) → Some f ≡ Some h → f ≡ h
same f h e = cc

pub returns : goal.returns
returns c s n class team k t g f run_t run ahead round low is =
    let at = closed_at class team k (team_members n g team) g f is in
    ap (λ h. missed_by (team_members n g team) (happened class h)) (same f _ (sym is ∙ at.is)) ∙ missed_told s n class round team k low g run (team_members n g team) refl at t run_t.ends ahead

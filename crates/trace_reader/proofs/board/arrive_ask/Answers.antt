use Rattle.std.proofs.Common.{◌≡◌, List, ℕ, ◌∷◌, ◌++◌, drop, refl, ap, sym, ◌∙◌}
use Rattle.caf_events.specs.declared.ask.Ask.TheVariants as asks
use Rattle.caf_events.specs.declared.round.Arriving.{Arriving}
use Rattle.caf_events.specs.declared.round.Arriving.TheVariants as arrivings
use Rattle.trace_text.specs.TraceText.{arriving_text}
use Rattle.trace_reader.proofs.board.arrive_ask.Goals as goal

-- what is brought to a round begins with a blank
blank : (names : List (List ℕ)) (arriving : Arriving) (tail : List ℕ) → arriving_text names arriving ++ tail
    ≡ 32 ∷ drop 1 (arriving_text names arriving ++ tail)
blank names arrivings.Sync tail = refl
blank names (arrivings.Form number new_index) tail = refl
blank names arrivings.Change tail = refl
blank names arrivings.End tail = refl
blank names (arrivings.Allocate list) tail = refl
blank names (arrivings.Deallocate list) tail = refl

pub returns : goal.returns
returns c of_team team arriving more shows half has e =
    let names = c.args.names.now in
    let first = blank names arriving (32 ∷ (62 ∷ more)) in
    let a = c.next_team-team.ensures of_team team (drop 1 (arriving_text names arriving ++ (32 ∷
    (62 ∷ more)))) shows half (e ∙ ap (λ z. of_team team.0 ++ z) first) in
    let b = c.in_ok-arriving.ensures arriving more has (ap (λ z. 32 ∷ z) a.1 ∙ sym first) in
    (λ i. asks.Arrive (a.0 i) (b.0 i), b.1)

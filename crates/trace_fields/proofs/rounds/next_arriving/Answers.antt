use Rattle.std.proofs.Common.{◌∷◌, ◌++◌, ap, sym, ◌∙◌, subst}
use Rattle.caf_events.specs.declared.round.Arriving.TheVariants as arrivings
use Rattle.caf_text.specs.Numbers.{decimal_text}
use Rattle.trace_forms.specs.Ranges.{ArrivingHasText}
use Rattle.trace_fields.specs.declared.words.RoundWord.TheVariants as rounds
use Rattle.trace_fields.proofs.Parts.{passed}
use Rattle.trace_fields.proofs.Arrivals.{behind_word, allotted_blank, names_blank, arrival_shown}
use Rattle.trace_fields.proofs.rounds.next_arriving.Goals as goal

pub returns-in-Sync : goal.returns-in-Sync
returns-in-Sync c arriving more has e =
    let names = c.args.names.now in
    let s = arrival_shown rounds.Sync names arriving more _ _ _ c.next_field.ensures e _ c.round_word.ensures
    c.in-Sync.is in
    (sym s.0, s.1 ∙ ap (λ a. behind_word names a more) s.0)

pub returns-in-Change : goal.returns-in-Change
returns-in-Change c arriving more has e =
    let names = c.args.names.now in
    let s = arrival_shown rounds.Change names arriving more _ _ _ c.next_field.ensures e _ c.round_word.ensures
    c.in-Change.is in
    (sym s.0, s.1 ∙ ap (λ a. behind_word names a more) s.0)

pub returns-in-End : goal.returns-in-End
returns-in-End c arriving more has e =
    let names = c.args.names.now in
    let s = arrival_shown rounds.End names arriving more _ _ _ c.next_field.ensures e _ c.round_word.ensures
    c.in-End.is in
    (sym s.0, s.1 ∙ ap (λ a. behind_word names a more) s.0)

pub returns-in-Form : goal.returns-in-Form
returns-in-Form c arriving more has e =
    let names = c.args.names.now in
    let s = arrival_shown rounds.Form names arriving more _ _ _ c.next_field.ensures e _ c.round_word.ensures
    c.in-Form.is in
    let f = s.0 in
    let h = subst (ArrivingHasText names) f.2 has in
    let a = c.next_signed.ensures f.0 (decimal_text f.1 ++ (32 ∷ (62 ∷ more))) h.0 (s.1
    ∙ ap (λ z. behind_word names z more) f.2) in
    let b = c.next_signed-in-Form.ensures f.1 (62 ∷ more) h.1 a.1 in
    let number = passed f.0 _ h.0 a.0 in
    let new_index = passed f.1 _ h.1 b.0 in
    ((λ i. arrivings.Form (number i) (new_index i)) ∙ sym f.2, b.1)

pub returns-in_ok-allotments_of-in-Allocate : goal.returns-in_ok-allotments_of-in-Allocate
returns-in_ok-allotments_of-in-Allocate c arriving more has e =
    let names = c.args.names.now in
    let s = arrival_shown rounds.Allocate names arriving more _ _ _ c.next_field.ensures e _ c.round_word.ensures
    c.in-Allocate.is in
    let f = s.0 in
    let r = c.in_ok-allotments_of-in-Allocate.ensures f.0 more (subst (ArrivingHasText names) f.1 has) (ap (λ z. 32 ∷ z)
    (s.1 ∙ ap (λ z. behind_word names z more) f.1) ∙ sym (allotted_blank names f.0 more)) in
    (ap arrivings.Allocate r.0 ∙ sym f.1, r.1)

pub returns-in_ok-coarrays_of-in-Deallocate : goal.returns-in_ok-coarrays_of-in-Deallocate
returns-in_ok-coarrays_of-in-Deallocate c arriving more has e =
    let names = c.args.names.now in
    let s = arrival_shown rounds.Deallocate names arriving more _ _ _ c.next_field.ensures e _ c.round_word.ensures
    c.in-Deallocate.is in
    let f = s.0 in
    let r = c.in_ok-coarrays_of-in-Deallocate.ensures f.0 more (subst (ArrivingHasText names) f.1 has) (ap (λ z. 32 ∷ z)
    (s.1 ∙ ap (λ z. behind_word names z more) f.1) ∙ sym (names_blank names f.0 more)) in
    (ap arrivings.Deallocate r.0 ∙ sym f.1, r.1)

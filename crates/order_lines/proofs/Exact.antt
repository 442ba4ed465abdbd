-- Nothing keeps a decided run from speaking for every order, and its line says so there alone.
use Rattle.std.proofs.Common.{◌≡◌, ℕ, ◌<◌, List, ◌∷◌, length, get_or, sym, ap, ◌∙◌, subst, arith, length-append}
use Rattle.std.specs.Prelude.{Option, Some, None, slice_get, ◌↔◌}
use Rattle.caf_events.specs.declared.event.Entry.{Entry}
use Rattle.caf_report.specs.declared.report.End.{End}
use Rattle.caf_report.specs.declared.report.End.TheVariants as ends
use Rattle.caf_report.specs.declared.report.Race.{Race}
use Rattle.caf_report.specs.Ends.{IsPlain}
use Rattle.order_axioms.specs.Views.{edges}
use Rattle.order_axioms.specs.Touching.{touches}
use Rattle.order_axioms.specs.FirstRaces.{HasNoRace}
use Rattle.order_theory.specs.Races.{Stands, place}
use Rattle.every_order.specs.Decided.{IsDecided}
use Rattle.decided_watch.specs.declared.watch.Reason.{Reason}
use Rattle.decided_watch.proofs.Deciding.{no_reason}
use Rattle.order_lines.specs.declared.bar.Cause.{Cause}
use Rattle.order_lines.specs.declared.bar.Cause.TheVariants as causes
use Rattle.order_lines.specs.Bars.{IsCause, TellsRace}
use Rattle.order_lines.specs.Lines.{cause_line, every_order_text, IsOrderLine}

none_some : (r : Reason) → None ≡ Some r → ⊥
none_some r h = cc

-- an entry stands within its trace
within : (t : List Entry) (x : Stands t) → place x < length t
within t x = let a = ap length x.split ∙ length-append x.before (x.event ∷ x.rest) in omega arith

no_cause : (n : ℕ) (t : List Entry) (k : ℕ) (cause : Cause) → IsCause n t k cause → IsDecided n t → ⊥
no_cause n t k causes.Race (p, c, first) decided =
    let a = first.first_place in
    let b = first.second_place in
    let l = first.in_order in
    decided.no_race first.first first.second (omega arith) (within t first.second) first.race
no_cause n t k (causes.Undecided reason) (clean, first) decided = none_some reason (sym (no_reason n t decided first.0) ∙ first.2)

other_line : (o : Option Entry) (cause : Cause) → cause_line o cause ≡ every_order_text → ⊥
other_line None cause h = let l : ◌≡◌ {A = ℕ} 0 101 = ap (λ z. get_or z 0 0) h in omega arith
other_line (Some e) cause h = let l : ◌≡◌ {A = ℕ} 116 101 = ap (λ z. get_or z 0 0) h in omega arith

-- the line of a run is `every order` exactly where it is decided
pub exact : (n : ℕ) (t : List Entry) (end : End) (text : List ℕ) → TellsRace n t end → IsOrderLine n t end text → (text ≡ every_order_text) ↔ IsDecided n t
exact n t end text told (None, bar, is) = (λ _. bar told, λ _. is)
exact n t end text told (Some b, bar, is) = (λ said. absurd (other_line (slice_get t b.at) b.cause (sym is ∙ said)), λ decided. absurd (no_cause n t b.at b.cause (bar told) decided))

-- a race that is the end of a run is the first one of its trace, and an end that tells none has none
pub race_told : (n : ℕ) (t : List Entry) (end : End) (x : Race) → TellsRace n t end → end ≡ ends.Raced x → IsCause n t x.second causes.Race
race_told n t end x told is = let h = subst (TellsRace n t) is told in (x.first, h.0, h.1)

pub no_race_told : (n : ℕ) (t : List Entry) (end : End) → TellsRace n t end → IsPlain end → HasNoRace (edges n) touches t
no_race_told n t (ends.Raced x) told plain = absurd plain
no_race_told n t ends.Finished told plain = told
no_race_told n t (ends.ErrorStop k) told plain = told
no_race_told n t (ends.RunFault k) told plain = told
no_race_told n t (ends.Clash k) told plain = told
no_race_told n t (ends.Limit k) told plain = told
no_race_told n t (ends.Stuck ws) told plain = told

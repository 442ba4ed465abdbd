-- What a lawful trace gives the search.
use Rattle.std.proofs.Common.{ℕ, ◌<◌, ◌^◌, List, ◌∷◌, ◌++◌, length, ap, ◌∙◌, subst, append_assoc}
use Rattle.caf_events.specs.declared.event.Entry.{Entry}
use Rattle.trace_theory.specs.Entries.{Each}
use Rattle.trace_theory.proofs.Snocs.{each_at}
use Rattle.object_rules.specs.Cells.{Declared}
use Rattle.core_runs.specs.Beginnings.{IsOneOf}
use Rattle.core_runs.specs.Lists.{image_of}
use Rattle.core_runs.specs.Lawful.{IsLawfulTrace}
use Rattle.order_theory.specs.Facts.{AccessesCell, Pauses}
use Rattle.order_axioms.specs.Views.{view}
use Rattle.order_axioms.specs.Touching.{touches}
use Rattle.order_axioms.proofs.OwnFacts.{accesses_pause}
use Rattle.order_axioms.proofs.Quiet.{lawful_quiet}
use Rattle.race_watch.proofs.Fits.{lawful_fits}
use Rattle.race_search.specs.Known.{AllFit}

pub lawful_pauses : (s : List Declared) (n : ℕ) (t : List Entry) → IsLawfulTrace s n t → Pauses (view n) (AccessesCell touches) t
lawful_pauses s n t lawful = accesses_pause n t (lawful_quiet s n t lawful)

pub all_fit : (s : List Declared) (n : ℕ) (t : List Entry) → IsLawfulTrace s n t → length t < 2 ^ 62 → AllFit n t
all_fit s n t lawful short x = record {
  run = lawful_fits s n t x.before x.rest x.event lawful x.split short;
  spoken = λ j w.
      let q = (lawful_quiet s n t lawful).spoken x.before x.rest x.event j x.split w in
      let split = x.split ∙ ap (λ z. z ++ x.event ∷ x.rest) q.3 ∙ append_assoc q.0 (q.1 ∷ q.2) (x.event ∷ x.rest) in
      subst (IsOneOf n) q.4 (each_at (λ e. IsOneOf n (image_of e)) q.0 (q.2 ++ x.event ∷ x.rest) q.1 (subst (Each (λ e. IsOneOf n (image_of e))) split lawful.images));
}

-- The laws of segment order, of the entries of a trace; and what tells a race with the release of a lock by a failing
-- image.
use Rattle.std.proofs.Common.{◌≡◌, ◌<◌, ◌↔◌, ℕ, true, ◌&&◌, not, nat_lt, List, ◌∷◌, ◌++◌, inl, inr, refl, ap, arith, sym}
use Rattle.std.specs.Prelude.{Option}
use Rattle.std.proofs.lemmas.Bool.{lt-ltb, le-ltb, cases_lt, and_parts, not-true, both_ways}
use Rattle.caf_base.specs.declared.value.Value.{Value}
use Rattle.caf_events.specs.declared.event.Entry.{Entry}
use Rattle.object_rules.specs.Cells.{MadeMemory}
use Rattle.order_theory.specs.Order.{Precedes, Begun, done, segment_of}
use Rattle.order_theory.specs.Clocks.{TellsOthers}
use Rattle.order_theory.specs.Races.{Stands, place, reads, Forward, ReadsLast, NoRace, Justified, Conflict, Race}
use Rattle.order_theory.specs.Acts.{entries}
use Rattle.order_theory.proofs.Splits.{done_append}
use Rattle.order_theory.proofs.Paths.{prefixes}
use Rattle.order_theory.proofs.Sources.{sound}
use Rattle.order_theory.proofs.Clocks.{tells_keep}
use Rattle.order_theory.proofs.Laws as laws
use Rattle.order_theory.proofs.Partners.{race_told}
use Rattle.order_axioms.specs.Views.{view, edges}
use Rattle.order_axioms.specs.Touching.{class_of, accesses, touches}
use Rattle.order_axioms.specs.OwnLists.{IsQuiet}
use Rattle.order_axioms.proofs.OwnFacts.{accesses_pause}

here_begun : (n : ℕ) (t : List Entry) (y : Stands t) → Begun (entries (view n)) t (segment_of (entries (view n)) y.before y.event)
here_begun n t y =
    let e = ap (done (entries (view n)) y.event.image.0) y.split in
    let f = done_append Entry (entries (view n)) y.event.image.0 y.before (y.event ∷ y.rest) in
    omega arith

pub prefixes_of : (n : ℕ) (t u : List Entry) (x y : Stands t) → Precedes (edges n) (t ++ u) (segment_of (entries (view n)) x.before x.event) (segment_of (entries (view n)) y.before y.event)
    ↔ Precedes (edges n) t (segment_of (entries (view n)) x.before x.event) (segment_of (entries (view n)) y.before y.event)
prefixes_of n t u x y = prefixes Entry (edges n) (sound Entry (view n)) t u _ _ (here_begun n t y)

pub forward_of : (n : ℕ) (t : List Entry) → IsQuiet n t → Forward (edges n) touches t
forward_of n t quiet = laws.law_forward Entry (view n) touches t (accesses_pause n t quiet)

pub reads_of : (n : ℕ) (made : ℕ → MadeMemory) (t : List Entry) → IsQuiet n t → ReadsLast (edges n) (accesses made) t → (m : ℕ) → NoRace (edges n) touches t m
    → (x : Stands t) → class_of x.event ≡ reads → place x < m → Justified (edges n) (accesses made) t x
reads_of n made t quiet memory m clean x k l = laws.law_reads Entry (view n) (Option Value) (accesses made) t (accesses_pause n t quiet) memory m clean x k l

both_late : (i j k l : ℕ) → (i < j → ⊥) → (k < l → ⊥) → (not (nat_lt i j) && not (nat_lt k l)) ≡ true
both_late i j k l h g = rw (le-ltb i j (elim (cases_lt i j) [ inl x ↦ absurd (h x) | inr x ↦ x ]), le-ltb k l (elim (cases_lt k l) [ inl x ↦ absurd (g x) | inr x ↦ x ])) refl

late_both : (i j k l : ℕ) → (not (nat_lt i j) && not (nat_lt k l)) ≡ true → (i < j → ⊥) × (k < l → ⊥)
late_both i j k l h =
    let p = and_parts (not (nat_lt i j)) (not (nat_lt k l)) h in
    ((λ x. both_ways (nat_lt i j) (not-true _ p.0) (lt-ltb i j x)), (λ x. both_ways (nat_lt k l) (not-true _ p.1) (lt-ltb k l x)))

-- An allocation or deallocation x, and a later release y of a lock by a failing image, whose segment may precede x's.
-- Where `kept` is the clock of x's image at x and `own` that of y's image at y, the two clocks tell whether the two are
-- a race.
module _ (n : ℕ) (t : List Entry) (x y : Stands t) (short : place x < place y) (kept own : ℕ → ℕ) (at_x : TellsOthers (edges n) y.before (segment_of (entries (view n)) x.before x.event) kept)
    (at_y : TellsOthers (edges n) y.before (segment_of (entries (view n)) y.before y.event) own) where
  pub told_by_clocks : (conflict : Conflict (edges n) touches t x y)
      → Race (edges n) touches t x y
      ↔ ((not (nat_lt (done (entries (view n)) x.event.image.0 x.before) (own x.event.image.0)) && not (nat_lt (done (entries (view n)) y.event.image.0 y.before) (kept y.event.image.0))) ≡ true)
  told_by_clocks conflict =
      let told = race_told Entry (edges n) (sound Entry (view n)) touches t x y short in (
        λ r. let b = told.0 r in both_late (done (entries (view n)) x.event.image.0 x.before) (own x.event.image.0) (done (entries (view n)) y.event.image.0 y.before) (kept y.event.image.0)
            (λ l. b.1 ((at_y.exactly x.event.image.0 (done (entries (view n)) x.event.image.0 x.before) conflict.images).0 l))
            (λ l. b.2 ((at_x.exactly y.event.image.0 (done (entries (view n)) y.event.image.0 y.before) (λ e. conflict.images (sym e))).0 l)),
        λ h. let k = late_both (done (entries (view n)) x.event.image.0 x.before) (own x.event.image.0) (done (entries (view n)) y.event.image.0 y.before) (kept y.event.image.0) h in
            told.1 (
              conflict,
              (λ p. k.0 ((at_y.exactly x.event.image.0 (done (entries (view n)) x.event.image.0 x.before) conflict.images).1 p)),
              (λ p. k.1 ((at_x.exactly y.event.image.0 (done (entries (view n)) y.event.image.0 y.before) (λ e. conflict.images (sym e))).1 p)),
            ),
      )

-- the clock that is kept of an allocation or deallocation goes on to tell while the trace grows
pub kept_on : (n : ℕ) (g u : List Entry) (x : Stands g) (kept : ℕ → ℕ) → TellsOthers (edges n) g (segment_of (entries (view n)) x.before x.event) kept → TellsOthers (edges n) (g ++ u) (segment_of (entries (view n)) x.before x.event) kept
kept_on n g u x kept h = tells_keep Entry (edges n) (sound Entry (view n)) g u _ kept (here_begun n g x) h

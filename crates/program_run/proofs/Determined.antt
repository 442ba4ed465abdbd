-- A trace determines the final values.
use Rattle.std.proofs.Common.{◌≡◌, ℕ, zero, suc, true, false, List, [], ◌∷◌, ◌++◌, inl, inr, ap, sym, ◌∙◌, subst}
use Rattle.caf_events.specs.declared.ask.Ask.{Ask}
use Rattle.caf_events.specs.declared.reply.Reply.{Reply}
use Rattle.caf_events.specs.declared.event.Entry.{Entry}
use Rattle.trace_theory.specs.Machines.{Move, go, Said, Walk, WalkTo, Rests}
use Rattle.trace_theory.proofs.Machines.{one_next_ask}
use Rattle.trace_theory.proofs.Rests.{one_place}
use Rattle.checked_tree.specs.Statements as checked
use Rattle.core_runs.specs.CoreRuns.{of_memory}
use Rattle.core_runs.specs.Lawful.{made_memory}
use Rattle.object_rules.specs.Cells.{Declared}
use Rattle.caf_report.specs.declared.report.Final.{Final}
use Rattle.final_values.specs.declared.listing.Listed.{Listed}
use Rattle.final_values.specs.Finals.{image_finals}
use Rattle.program_run.specs.Finals.{AreImageFinals, AreOwnFinals, AreFinalsFrom, AreProgramFinals}

-- a walk to a stop comes to one place
one_stop_of : {C : Type 0} (step : C → Move C Ask Reply) (es : List (Said Ask Reply)) (x a b : C) → WalkTo step x es a → WalkTo step x es b → Rests (step a) → Rests (step b) → a ≡ b
one_stop_of {C} step [] x a b (m, w, n, p) (o, v, k, q) s t = one_place C Ask Reply step n k x a b (ap (go step n) (sym w) ∙ p) (ap (go step k) (sym v) ∙ q) s t
one_stop_of {C} step (e ∷ es) x a b (m, (j, comes, w), n, p) (o, (i, comes', v), k, q) s t =
    let same = (one_next_ask C Ask Reply step x e.ask e.ask e.line e.line j i comes comes').2 in
    one_stop_of step es (j e.reply) a b (m, w, n, p) (o, subst (λ (f : Reply → C). Walk step (f e.reply) es o) (sym same) v, k, q) s t

module _ (p : checked.Program) (limit : ℕ) (coarrays : List Declared) (n : ℕ) (fails_at : ℕ → ℕ) (words : ℕ) (listed : List Listed) (t : List Entry) where
  one_image : (i : ℕ) (own other : List Final) → AreImageFinals p limit coarrays n fails_at words listed t i own → AreImageFinals p limit coarrays n fails_at words listed t i other → own ≡ other
  one_image i own other a b =
      let place = one_stop_of _ _ _ a.at b.at a.stands.walks b.stands.walks a.stands.rests b.stands.rests in
      a.are ∙ ap (λ c. image_finals listed i c.program.core (made_memory coarrays i) (of_memory i t)) place ∙ sym b.are

  one_own : (i : ℕ) (own other : List Final) → AreOwnFinals p limit coarrays n fails_at words listed t i own → AreOwnFinals p limit coarrays n fails_at words listed t i other → own ≡ other
  one_own i own other (inl a) (inl b) = a.1 ∙ sym b.1
  one_own i own other (inl a) (inr b) = absurd (let e : true ≡ false = sym a.0 ∙ b.0 in cc)
  one_own i own other (inr a) (inl b) = absurd (let e : true ≡ false = sym b.0 ∙ a.0 in cc)
  one_own i own other (inr a) (inr b) = one_image i own other a.1 b.1

  one_from : (i images : ℕ) (fs gs : List Final) → AreFinalsFrom p limit coarrays n fails_at words listed t i images fs → AreFinalsFrom p limit coarrays n fails_at words listed t i images gs → fs ≡ gs
  one_from i zero fs gs a b = a ∙ sym b
  one_from i (suc more) fs gs (own, rest, first, others, is) (own', rest', first', others', is') =
      is ∙ ap (λ l. l ++ rest) (one_own i own own' first first') ∙ ap (λ l. own' ++ l) (one_from (suc i) more rest rest' others others') ∙ sym is'

  pub determined : (fs gs : List Final) → AreProgramFinals p limit coarrays n fails_at words listed t fs → AreProgramFinals p limit coarrays n fails_at words listed t gs → fs ≡ gs
  determined fs gs = one_from 1 n fs gs

-- What a report's text shows of a run, the trace and the line that sums it up apart, is told by what its images said, by
-- its end and by its final values.
use Rattle.std.proofs.Common.{◌≡◌, ℕ, zero, suc, ◌+◌, Bool, false, nat_eq, cond, List, [], ◌∷◌, ◌++◌, inl, inr, refl, ap, sym, ◌∙◌}
use Rattle.std.specs.Prelude.{flat_map}
use Rattle.std.proofs.lemmas.Bool.{cases_Bool}
use Rattle.caf_events.specs.declared.ask.Ask.{Ask}
use Rattle.caf_events.specs.declared.reply.Reply.{Reply}
use Rattle.caf_events.specs.declared.event.Entry.{Entry}
use Rattle.trace_theory.specs.Machines.{Said}
use Rattle.core_runs.specs.CoreRuns.{said_by}
use Rattle.caf_report.specs.declared.report.Report.{Report}
use Rattle.caf_report.specs.declared.report.Waiting.{Waiting}
use Rattle.caf_report.specs.Ends.{end_of_waits}
use Rattle.caf_report.specs.ReportText.{printed_by, printed_at, printed_from, end_text, final_line, report_text}
use Rattle.every_report.specs.SameReports.{without_steps}

-- what an image prints by what it says
abbrev printed_said : ℕ → Said Ask Reply → List ℕ
printed_said i s = printed_by i s.ask

prints : (i : ℕ) (es : List Entry) → flat_map (printed_at i) es ≡ flat_map (printed_said i) (said_by i es)
prints i [] = refl
prints i (e ∷ es) = elim (cases_Bool (nat_eq e.image.0 i)) [
  | inl own ↦ rw own (ap (λ z. printed_by i e.event.ask ++ z) (prints i es))
  | inr other ↦ rw other (prints i es)
]

module _ (t u : List Entry) (said : (i : ℕ) → said_by i u ≡ said_by i t) where
  one_prints : (i : ℕ) → flat_map (printed_at i) u ≡ flat_map (printed_at i) t
  one_prints i = prints i u ∙ ap (flat_map (printed_said i)) (said i) ∙ sym (prints i t)

  pub same_prints : (image images : ℕ) → printed_from image images u ≡ printed_from image images t
  same_prints image zero = refl
  same_prints image (suc more) = ap (λ z. z ++ printed_from (image + 1) more u) (one_prints image) ∙ ap (λ z. flat_map (printed_at image) t ++ z) (same_prints (image + 1) more)

-- the lines of an end of waits are told by it alone
end_alone : (names other : List (List ℕ)) (t u : List Entry) (ws : List Waiting) → end_text other u (end_of_waits ws) ≡ end_text names t (end_of_waits ws)
end_alone names other t u [] = refl
end_alone names other t u (w ∷ ws) = refl

abbrev finals_shown : Bool → Report → List ℕ
finals_shown vars r = cond vars (flat_map final_line r.finals) []

pub same_text : (vars : Bool) (r s : Report) (ws : List Waiting) → s.images ≡ r.images → ((i : ℕ) → said_by i s.trace.entries ≡ said_by i r.trace.entries)
    → r.end ≡ end_of_waits ws → s.end ≡ end_of_waits ws → finals_shown vars s ≡ finals_shown vars r → report_text (without_steps vars) s ≡ report_text (without_steps vars) r
same_text vars r s ws images said end_r end_s finals =
    let printed : printed_from 1 s.images s.trace.entries ≡ printed_from 1 r.images r.trace.entries = ap (λ k. printed_from 1 k s.trace.entries) images ∙ same_prints r.trace.entries s.trace.entries said 1 r.images in
    let lines : end_text s.names s.trace.entries s.end ≡ end_text r.names r.trace.entries r.end =
    ap (end_text s.names s.trace.entries) end_s ∙ end_alone r.names s.names r.trace.entries s.trace.entries ws ∙ sym (ap (end_text r.names r.trace.entries) end_r) in
    ap (λ z. (z ++ finals_shown vars s ++ []) ++ end_text s.names s.trace.entries s.end ++ []) printed
    ∙ ap (λ z. (printed_from 1 r.images r.trace.entries ++ z ++ []) ++ end_text s.names s.trace.entries s.end ++ []) finals
    ∙ ap (λ z. (printed_from 1 r.images r.trace.entries ++ finals_shown vars r ++ []) ++ z ++ []) lines

pub no_finals : (r s : Report) → finals_shown false s ≡ finals_shown false r
no_finals r s = refl

pub same_finals : (vars : Bool) (r s : Report) → s.finals ≡ r.finals → finals_shown vars s ≡ finals_shown vars r
same_finals vars r s is = ap (λ fs. cond vars (flat_map final_line fs) []) is

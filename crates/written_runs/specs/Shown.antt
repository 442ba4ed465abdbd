-- Reports whose text shows their trace.
use Rattle.std.specs.Prelude.{◌≡◌, ◌≤◌, true, []}
use Rattle.caf_report.specs.declared.report.Final.{Final}
use Rattle.caf_report.specs.declared.report.Report.{Report}
use Rattle.caf_report.specs.declared.report.Shown.{Shown}
use Rattle.trace_theory.specs.Entries.{Each}
use Rattle.trace_text.specs.Forms.{Second}
use Rattle.trace_forms.specs.Names.{IsName, AreNames}
use Rattle.trace_forms.specs.Shown.{HaveTexts}

-- the trace is shown; the run has 1 to 256 images; its coarrays, and the variables whose final values are shown, have
-- names; and each entry of its trace can be shown by a line
pub record ShowsTrace (shown : Shown) (r : Report) : Type 0 where
  pub trace : shown.trace ≡ true
  pub some : 1 ≤ r.images
  pub most : r.images ≤ 256
  pub names : AreNames r.names
  pub finals : Each (λ (f : Final). IsName f.name) r.finals
  pub texts : HaveTexts Second r.names [] r.trace.entries

use Rattle.std.proofs.Common.{[], inl, refl, sym, subst, true≢false}
use Rattle.trace_forms.specs.Files.{LinesWritten}
use Rattle.trace_text.proofs.Tables.{given_nothing}
use Rattle.trace_reader.proofs.trace.Reading.new.Goals as goal

pub returns : goal.returns
returns c names = record {
  written = subst (λ t. LinesWritten [] names t) (sym c.new.ensures.items) (record { lines = refl; texts = tt });
  form = refl;
  begun = refl;
  given = λ yes. absurd (true≢false (sym yes));
  none = inl (given_nothing c.new-2.result c.new-2.ensures.empty);
}

use Rattle.std.proofs.Common.{[], sym, ◌∙◌, subst}
use Rattle.trace_forms.specs.Names.{AreNames}
use Rattle.trace_reader_tests.proofs.files.what_is_read.Goals as goal

-- no names are names
none : AreNames []
none = record { differ = λ j k name p q. absurd (cc); each = tt }

pub read_trace-read-requires-clause-names : goal.read_trace-read-requires-clause-names
read_trace-read-requires-clause-names g c =
    subst AreNames (sym (c.as_slice.ensures.value ∙ c.new-names.ensures.items)) none

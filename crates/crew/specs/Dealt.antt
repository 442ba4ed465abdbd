-- The images of a run and their passes, together and apart.
use Rattle.image_core.specs.declared.run.ImageRun.{ImageRun}
use Rattle.image_gate.specs.declared.passes.Passes.{Passes}
use Rattle.crew.specs.declared.member.Member.{Member}

abbrev pub run_of : {M : Type 0} → Member M → ImageRun M
run_of m = m.run

abbrev pub passes_of : {M : Type 0} → Member M → Passes
passes_of m = m.passes

-- Entries of two runs are alike in their ask, their reply and their line.
use Rattle.std.specs.Prelude.{ℕ, refl}
use Rattle.caf_events.specs.declared.ask.Ask.{Ask}
use Rattle.caf_events.specs.declared.reply.Reply.{Reply}
use Rattle.trace_theory.specs.Machines.{Said}
use Rattle.core_runs.specs.Lists.{said}
use Rattle.order_axioms.specs.Views.{view, act_by}
use Rattle.order_cuts.specs.Cuts.{Likeness}

abbrev pub likes : (n : ℕ) → Likeness (view n) (Said Ask Reply)
likes n = record { mark = λ e. said e.event; act_by = λ s. act_by s.ask s.reply; tells = λ e. refl }

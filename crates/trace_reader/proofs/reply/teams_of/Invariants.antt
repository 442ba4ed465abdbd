use Rattle.std.proofs.Common.{◌≡◌, List, [], ◌∷◌, length}
use Rattle.caf_events.specs.declared.reply.FormedTeam.{FormedTeam}
use Rattle.trace_theory.specs.Entries.{Each}
use Rattle.trace_text.specs.TraceText.{joined}
use Rattle.trace_forms.specs.Ranges.{FormedHasText}
use Rattle.trace_fields.proofs.Items.{Left}
use Rattle.trace_reader.specs.Kinds.{formed_text}
use Rattle.trace_reader.proofs.reply.teams_of.Given as goal

-- the teams so far, and what is left of the text
abbrev pub invariant-loop-rest : goal.invariant-loop-rest
invariant-loop-rest l = (all : List FormedTeam) → Each FormedHasText all → l.text ≡ joined (32 ∷ []) formed_text all
    → Left FormedHasText 32 formed_text l.teams.items l.rest all

abbrev pub decreases-loop-rest : goal.decreases-loop-rest
decreases-loop-rest l = length l.rest

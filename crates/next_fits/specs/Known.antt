-- Of which programs, and of which of their asks, it is known that the next ask of an image fits.
use Rattle.std.specs.Prelude.{◌≡◌, Bool, true, false, List, slice_get}
use Rattle.std.specs.List.{list_all}
use Rattle.trace_theory.specs.Entries.{Each}
use Rattle.caf_events.specs.declared.ask.Ask.{Ask}
use Rattle.caf_events.specs.declared.ask.Ask.TheVariants as asks
use Rattle.checked_tree.specs.Statements as checked
use Rattle.tree_meaning.specs.Start.{own_coarrays}
use Rattle.made_code.specs.Ranks.{IsRankedProgram}
use Rattle.object_rules.specs.Cells.{Declared}
use Rattle.object_rules.specs.MemoryRules.{has_first_values, holds, is_values}
use Rattle.walk_laws.specs.Fits.{AreDeclaredBy}
use Rattle.fit_laws.specs.Asks.{AllocatesAllocatable}
use Rattle.cell_walks.specs.Fitting.{IsSmall}
use Rattle.cell_statements.specs.Typed.{IsTypedProgram}

-- Each part of the program has the rank that its place wants; its statements on locks, events and atoms name such, and
-- those that allocate name ALLOCATABLE coarrays. The memories of a run have from the start the coarrays that the program
-- declares, none of more cells than an image may have.
pub record IsSound (coarrays : List Declared) (p : checked.Program) : Type 0 where
  pub values : list_all has_first_values coarrays ≡ true
  pub declared : AreDeclaredBy p coarrays
  pub small : Each IsSmall (own_coarrays p)
  pub ranked : IsRankedProgram p
  pub typed : IsTypedProgram coarrays p
  pub allocates : AllocatesAllocatable coarrays p

-- all asks but a write, an arrival at a collective, and a read of what holds no values: of a lock or an event
abbrev pub is_known : List Declared → Ask → Bool
is_known coarrays (asks.Read owner span) = holds is_values (slice_get coarrays span.coarray)
is_known coarrays (asks.Write owner span values) = false
is_known coarrays (asks.Gather team op root kind values) = false
is_known coarrays ask = true

-- The final values of a report are of variables that have names.
use Rattle.std.proofs.Common.{ℕ, zero, suc, List, [], ◌∷◌, ◌++◌, inl, inr, map, sym, subst}
use Rattle.std.specs.Prelude.{Option, None, Some}
use Rattle.caf_base.specs.declared.value.Value.{Value}
use Rattle.caf_events.specs.declared.event.Entry.{Entry}
use Rattle.trace_theory.specs.Entries.{Each}
use Rattle.checked_tree.specs.Statements.{Program}
use Rattle.checked_tree.specs.declared.data.DataType.{DataType}
use Rattle.checked_tree.specs.declared.data.DataType.TheVariants as types
use Rattle.checked_tree.specs.declared.data.Variable.{Variable}
use Rattle.image_acts.specs.Core.{Core}
use Rattle.object_rules.specs.Cells.{Declared, MadeMemory}
use Rattle.core_runs.specs.CoreRuns.{of_memory}
use Rattle.core_runs.specs.Lawful.{made_memory}
use Rattle.caf_report.specs.declared.report.Final.{Final}
use Rattle.final_values.specs.declared.listing.Listed.{Listed}
use Rattle.final_values.specs.Finals.{held, final_with, image_finals}
use Rattle.final_values.specs.Listings.{listed_by, listed_from, listed_of}
use Rattle.program_run.specs.Finals.{AreOwnFinals, AreFinalsFrom, AreProgramFinals}
use Rattle.trace_forms.specs.Names.{IsName}
use Rattle.trace_names.specs.Entities.{name_of}

both_named : {A : Type 0} (P : A → Type 0) (xs ys : List A) → Each P xs → Each P ys → Each P (xs ++ ys)
both_named P [] ys h k = k
both_named P (x ∷ xs) ys h k = (h.0, both_named P xs ys h.1 k)

abbrev IsListed : Listed → Type 0
IsListed l = IsName l.name

by_named : (cs : List ℕ) (x : ℕ) (v : Variable) (y : DataType) → IsName v.name → Each IsListed (listed_by cs x v y)
by_named cs x v (types.Intrinsic k) h = (h, tt)
by_named cs x v types.Team h = tt
by_named cs x v types.Event h = tt
by_named cs x v types.Lock h = tt

from_named : (cs : List ℕ) (x : ℕ) (vs : List Variable) → Each IsName (map name_of vs) → Each IsListed (listed_from cs x vs)
from_named cs x [] h = tt
from_named cs x (v ∷ vs) h = both_named IsListed (listed_by cs x v v.of_type) (listed_from cs (suc x) vs) (by_named cs x v v.of_type h.0) (from_named cs (suc x) vs h.1)

abbrev pub IsFinal : Final → Type 0
IsFinal f = IsName f.name

with_named : (i : ℕ) (name : List ℕ) (o : Option (List Value)) → IsName name → IsFinal (final_with i name o)
with_named i name None h = h
with_named i name (Some vs) h = h

image_named : (ls : List Listed) (i : ℕ) (c : Core) (m : MadeMemory) (h : List Entry) → Each IsListed ls → Each IsFinal (image_finals ls i c m h)
image_named [] i c m h n = tt
image_named (l ∷ ls) i c m h n = (with_named i l.name (held c m h l.variable l.kind l.form) n.0, image_named ls i c m h n.1)

module _ (p : Program) (limit : ℕ) (coarrays : List Declared) (n : ℕ) (fails_at : ℕ → ℕ) (words : ℕ) (ls : List Listed) (t : List Entry) (listed : Each IsListed ls) where
  own_named : (i : ℕ) (own : List Final) → AreOwnFinals p limit coarrays n fails_at words ls t i own → Each IsFinal own
  own_named i own (inl h) = subst (Each IsFinal) (sym h.1) tt
  own_named i own (inr h) = subst (Each IsFinal) (sym h.1.are) (image_named ls i h.1.at.program.core (made_memory coarrays i) (of_memory i t) listed)

  finals_from : (i images : ℕ) (fs : List Final) → AreFinalsFrom p limit coarrays n fails_at words ls t i images fs → Each IsFinal fs
  finals_from i zero fs h = subst (Each IsFinal) (sym h) tt
  finals_from i (suc more) fs (own, rest, a, b, e) = subst (Each IsFinal) (sym e) (both_named IsFinal own rest (own_named i own a) (finals_from (suc i) more rest b))

pub finals_named : (p : Program) (limit : ℕ) (coarrays : List Declared) (n : ℕ) (fails_at : ℕ → ℕ) (words : ℕ) (t : List Entry) (fs : List Final)
    → Each IsName (map name_of p.main.variables) → AreProgramFinals p limit coarrays n fails_at words (listed_of p) t fs → Each IsFinal fs
finals_named p limit coarrays n fails_at words t fs h are =
    finals_from p limit coarrays n fails_at words (listed_of p) t (from_named p.coarrays 0 p.main.variables h) 1 n fs are

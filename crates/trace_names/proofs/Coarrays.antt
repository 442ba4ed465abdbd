-- The coarrays of a program that a source is read and accepted as have names.
use Rattle.std.proofs.Common.{◌≡◌, ◌∙◌, ℕ, List, sym}
use Rattle.std.proofs.lemmas.Option.{slice_get-map}
use Rattle.std.specs.Option.{option_map}
use Rattle.std.specs.Prelude.{Option, Some, None, slice_get}
use Rattle.fortran_tree.specs.Units as u
use Rattle.checked_tree.specs.Statements.{Program}
use Rattle.checked_tree.specs.declared.data.Variable.{Variable}
use Rattle.source_reader.specs.Sources.{IsRead}
use Rattle.rule_definitions.specs.Acceptance.{Accepts}
use Rattle.checked_run.specs.Coarrays.{name_of, name_at, names_of}
use Rattle.trace_forms.specs.Names.{AreNames}
use Rattle.trace_names.specs.Entities as e
use Rattle.trace_names.specs.Entities.{DeclareNames, variable_names}
use Rattle.trace_names.proofs.Lists.{some_same, none_some}
use Rattle.trace_names.proofs.Spelled.{words_named, tree_named}
use Rattle.trace_names.proofs.Programs.{coarrays_differ}

pub read_named : (bytes : List ℕ) (x : u.Program) → IsRead bytes x → DeclareNames x.body.declarations
read_named bytes x r =
    let s = r.spelled in
    tree_named r.words s.0 64 x (words_named r.are.statements r.words r.are.cut) s.1 s.3

from_option : (o : Option Variable) (n : List ℕ) → option_map e.name_of o ≡ Some n → name_of o ≡ n
from_option None n h = none_some n h
from_option (Some v) n h = some_same v.name n h

-- the name at a number is that of the variable there
name_there : (p : Program) (k : ℕ) (n : List ℕ) → slice_get (variable_names p) k ≡ Some n → name_at p.main.variables k ≡ n
name_there p k n h = from_option (slice_get p.main.variables k) n (sym (slice_get-map e.name_of p.main.variables k) ∙ h)

pub coarrays_named : (bytes : List ℕ) (x : u.Program) (p : Program) → IsRead bytes x → Accepts x p → AreNames (names_of p)
coarrays_named bytes x p r a = coarrays_differ x p (name_at p.main.variables) (name_there p) (read_named bytes x r) a

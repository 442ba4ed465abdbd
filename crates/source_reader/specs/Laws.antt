-- What is proved of sources.
use Rattle.std.specs.Prelude.{ℕ, ◌≡◌, List}
use Rattle.fortran_tree.specs.Units.{Program}
use Rattle.source_reader.specs.declared.fault.ReadFault.{ReadFault}
use Rattle.source_reader.specs.Sources.{IsRead}
use Rattle.source_reader.specs.Refusals.{IsRefused}

-- a source has one program at most
abbrev pub ReadOnce : Type 0
ReadOnce = (bytes : List ℕ) (x y : Program) → IsRead bytes x → IsRead bytes y → x ≡ y

-- and one refusal at most, with one place
abbrev pub RefusedOnce : Type 0
RefusedOnce = (bytes : List ℕ) (f g : ReadFault) → IsRefused bytes f → IsRefused bytes g → f ≡ g

-- and never both
abbrev pub ReadIsNotRefused : Type 0
ReadIsNotRefused = (bytes : List ℕ) (x : Program) (f : ReadFault) → IsRead bytes x → IsRefused bytes f → ⊥

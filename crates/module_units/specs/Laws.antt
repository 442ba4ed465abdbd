-- What is proved of files.
use Rattle.std.specs.Prelude.{◌≡◌, List, [], Option, Some, None, map}
use Rattle.fortran_tree.specs.declared.name.Name.{Name}
use Rattle.fortran_tree.specs.Units as u
use Rattle.fortran_tree.specs.Units.{Program}
use Rattle.unit_tree.specs.Files as f
use Rattle.unit_tree.specs.Files.{UseList, Use, MainProgram, UnitFile}
use Rattle.module_units.specs.Flat.{flat, first_use}

-- a program as a file without modules
abbrev pub list_of : Option (List Name) → UseList
list_of None = f.all_but []
list_of (Some ns) = f.only (map f.named ns)

abbrev pub use_of : u.Use → Use
use_of x = record { nature = x.nature; module_name = x.module_name; list = list_of x.only; at = x.at }

abbrev pub main_of : Program → MainProgram
main_of p = record { name = p.name; uses = map use_of p.uses; body = p.body; procedures = p.procedures; end = p.end }

abbrev pub file_of : Program → UnitFile
file_of p = record { modules = []; main = main_of p }

-- A file without a module whose USE statements have no new names is its own tree but for those statements, of which one
-- of ISO_FORTRAN_ENV is left.
abbrev pub OwnTree : Type 0
OwnTree = (p : Program) → flat (file_of p) ≡ record p { uses = first_use (map use_of p.uses) }

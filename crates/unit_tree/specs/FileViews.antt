-- What a file in memory stands for.
use Rattle.std.specs.Prelude.{map}
use Rattle.fortran_tree.specs.DeclarationViews.{declaration}
use Rattle.fortran_tree.specs.UnitViews.{body, maybe_procedures}
use Rattle.unit_tree.specs.Files as f
use Rattle.unit_tree.specs.declared.file.Rename.{Rename}
use Rattle.unit_tree.specs.declared.file.OnlyItem.{OnlyItem}
use Rattle.unit_tree.specs.declared.file.OnlyItem.TheVariants as items
use Rattle.unit_tree.specs.declared.file.UseList.{UseList}
use Rattle.unit_tree.specs.declared.file.UseList.TheVariants as lists
use Rattle.unit_tree.specs.declared.file.Use.{Use}
use Rattle.unit_tree.specs.declared.file.Module.{Module}
use Rattle.unit_tree.specs.declared.file.MainProgram.{MainProgram}
use Rattle.unit_tree.specs.declared.file.UnitFile.{UnitFile}

abbrev pub rename : Rename → f.Rename
rename r = record { local = r.local; entity = r.entity }

abbrev pub only_item : OnlyItem → f.OnlyItem
only_item (items.Named n) = f.named n
only_item (items.Renamed r) = f.renamed (rename r)

abbrev pub use_list : UseList → f.UseList
use_list (lists.All rs) = f.all_but (map rename rs.items)
use_list (lists.Only is) = f.only (map only_item is.items)

abbrev pub use_statement : Use → f.Use
use_statement x = record { nature = x.nature; module_name = x.module; list = use_list x.list; at = x.at }

abbrev pub module_unit : Module → f.Module
module_unit m = record {
  name = m.name;
  uses = map use_statement m.uses.items;
  implicit_none = m.implicit_none;
  declarations = map declaration m.declarations.items;
  procedures = maybe_procedures m.procedures;
  end = m.end;
  at = m.at;
}

abbrev pub main_program : MainProgram → f.MainProgram
main_program p = record {
  name = p.name;
  uses = map use_statement p.uses.items;
  body = body p.body;
  procedures = maybe_procedures p.procedures;
  end = p.end;
}

abbrev pub unit_file : UnitFile → f.UnitFile
unit_file x = record { modules = map module_unit x.modules.items; main = main_program x.main }

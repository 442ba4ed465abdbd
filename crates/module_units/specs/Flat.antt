-- A file as one program: an entity x of a module m is named `m.x`, which no source has, and a name of ISO_FORTRAN_ENV
-- by its own name (14.2.2, 16.10.2).
use Rattle.std.specs.Prelude.{ℕ, cond, codes, List, [], ◌∷◌, ◌++◌, Option, Some, None, map}
use Rattle.std.specs.Option.{option_map}
use Rattle.fortran_tree.specs.declared.name.Name.{Name}
use Rattle.fortran_tree.specs.declared.statement.End.{End}
use Rattle.fortran_tree.specs.Statements.{Declaration}
use Rattle.fortran_tree.specs.Units as u
use Rattle.fortran_tree.specs.Units.{Procedure, Program}
use Rattle.unit_tree.specs.Files.{Use, Module, UnitFile}
use Rattle.rule_definitions.specs.Units.{is_module}
use Rattle.unit_references.specs.Renamed as r
use Rattle.module_units.specs.Visible.{Entity, of_module, of_main, of_procedure, of_environment, intrinsic, Denoted, one, Scope, denoted, procedure_scope, Placed, scope_of, placed_modules, main_placed}

-- the name of a module's entity
abbrev pub qualified : List ℕ → List ℕ → List ℕ
qualified m x = m ++ codes "." ++ x

-- how an entity is named
abbrev pub name_of_entity : Entity → List ℕ
name_of_entity (of_module m x) = qualified m x
name_of_entity (of_main x) = x
name_of_entity (of_procedure x) = x
name_of_entity (of_environment x) = x
name_of_entity (intrinsic x) = x

abbrev pub name_of_denoted : Denoted → List ℕ → List ℕ
name_of_denoted (one e) x = name_of_entity e
name_of_denoted d x = x

-- how a name of a scope is spelled: as the entity that it denotes
abbrev pub spelled : Scope → List ℕ → List ℕ
spelled s x = name_of_denoted (denoted s x) x

-- the name of a procedure of a unit, in its heading and behind its END
abbrev pub owned_name : Option (List ℕ) → Name → Name
owned_name None n = n
owned_name (Some m) n = record { text = qualified m n.text; at = n.at }

abbrev pub flat_end : Option (List ℕ) → End → End
flat_end o x = record { name = option_map (owned_name o) x.name; at = x.at }

-- a heading, of a unit's scope and of its procedure's
abbrev pub flat_heading : Scope → Scope → u.Heading → u.Heading
flat_heading s p (u.subroutine x n ds) = u.subroutine x (owned_name s.unit n) (option_map (map (r.name (spelled p))) ds)
flat_heading s p (u.function ps n ds a) =
    u.function (map (r.prefix_spec (spelled s)) ps) (owned_name s.unit n) (map (r.name (spelled p)) ds) (option_map (r.name (spelled p)) a)

abbrev pub flat_procedure_in : Scope → Scope → Procedure → Procedure
flat_procedure_in s p x = record {
  heading = flat_heading s p x.heading;
  body = r.body (spelled p) x.body;
  end = flat_end s.unit x.end;
  at = x.at;
}

abbrev pub flat_procedure : Scope → Procedure → Procedure
flat_procedure s x = flat_procedure_in s (procedure_scope s x) x

-- the declarations and the procedures of the modules, in source order
abbrev pub flat_declarations : List Placed → List Declaration
flat_declarations [] = []
flat_declarations (x ∷ xs) = map (r.declaration (spelled (scope_of x))) x.unit.declarations ++ flat_declarations xs

abbrev pub flat_procedures : List Placed → List Procedure
flat_procedures [] = []
flat_procedures (x ∷ xs) = map (flat_procedure (scope_of x)) x.unit.procedures ++ flat_procedures xs

-- and then those of the main program
abbrev pub and_procedures : List Procedure → Option (List Procedure) → Option (List Procedure)
and_procedures [] o = o
and_procedures (x ∷ xs) None = Some (x ∷ xs)
and_procedures (x ∷ xs) (Some ys) = Some (x ∷ xs ++ ys)

-- one USE of ISO_FORTRAN_ENV where any unit has one: the first one, of all names
abbrev pub whole_use : Use → u.Use
whole_use x = record { nature = x.nature; module_name = x.module_name; only = None; at = x.at }

abbrev pub first_use : List Use → List u.Use
first_use [] = []
first_use (x ∷ xs) = cond (is_module x.module_name.text) (whole_use x ∷ []) (first_use xs)

abbrev pub all_uses : List Module → List Use → List Use
all_uses [] xs = xs
all_uses (m ∷ ms) xs = m.uses ++ all_uses ms xs

abbrev pub flat_body : Scope → List Declaration → u.Body → u.Body
flat_body s ds b = record {
  implicit_none = b.implicit_none;
  declarations = ds ++ map (r.declaration (spelled s)) b.declarations;
  statements = r.statements (spelled s) b.statements;
}

abbrev pub flat_in : UnitFile → List Placed → Scope → Program
flat_in x ms s = record {
  name = x.main.name;
  uses = first_use (all_uses x.modules x.main.uses);
  body = flat_body s (flat_declarations ms) x.main.body;
  procedures = and_procedures (flat_procedures ms) (option_map (map (flat_procedure s)) x.main.procedures);
  end = x.main.end;
}

-- the program that a file is
abbrev pub flat : UnitFile → Program
flat x = flat_in x (placed_modules [] x.modules) (scope_of (main_placed x))

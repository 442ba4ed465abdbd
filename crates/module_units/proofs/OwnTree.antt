-- A file without modules and without new names is its own tree.
use Rattle.std.proofs.Common.{◌≡◌, List, [], None, map, refl, ap}
use Rattle.std.specs.Option.{option_map}
use Rattle.fortran_tree.specs.declared.name.Name.{Name}
use Rattle.fortran_tree.specs.declared.statement.End.{End}
use Rattle.fortran_tree.specs.Units as u
use Rattle.fortran_tree.specs.Units.{Body, Heading, Procedure, Program}
use Rattle.unit_references.specs.Renamed as v
use Rattle.module_units.specs.Visible.{Scope, procedure_scope, scope_of, main_placed, locals_of, heading_of}
use Rattle.module_units.specs.Flat.{spelled, flat_body, flat_end, flat_heading, flat_procedure, owned_name, first_use}
use Rattle.module_units.specs.Laws.{use_of, file_of, OwnTree}
use Rattle.module_units.proofs.SameNames.{plain_uses, spelled_same}
use Rattle.unit_references.proofs.SameTrees.{Same, two, three, same_list, same_option, same_name, same_prefix, same_body}

same_end : (x : End) → flat_end None x ≡ x
same_end x = ap (λ n. record { name = n; at = x.at }) (same_option (owned_name None) (λ n. refl) x.name)

same_names : (s : Scope) → Same (spelled s) → (ns : List Name) → map (v.name (spelled s)) ns ≡ ns
same_names s h ns = same_list (v.name (spelled s)) (same_name (spelled s) h) ns

-- the scopes of the main program and of its procedures
abbrev pub main_scope : Program → Scope
main_scope p = scope_of (main_placed (file_of p))

abbrev pub scope_in : Program → Procedure → Scope
scope_in p x = procedure_scope (main_scope p) x

main_same : (p : Program) → Same (spelled (main_scope p))
main_same p n = spelled_same (main_scope p).own (main_scope p).given [] (plain_uses p.uses) n

procedure_same : (p : Program) (x : Procedure) → Same (spelled (scope_in p x))
procedure_same p x n = spelled_same (main_scope p).own (main_scope p).given (locals_of (heading_of x) x.body.declarations) (plain_uses p.uses) n

same_heading : (p : Program) (x : Procedure) (k : Heading) → flat_heading (main_scope p) (scope_in p x) k ≡ k
same_heading p x (u.subroutine a n ds) = ap (u.subroutine a n) (same_option (map (v.name (spelled (scope_in p x)))) (same_names (scope_in p x) (procedure_same p x)) ds)
same_heading p x (u.function ps n ds a) =
    three (λ i j k. u.function i n j k)
    (map (v.prefix_spec (spelled (main_scope p))) ps) ps (map (v.name (spelled (scope_in p x))) ds) ds (option_map (v.name (spelled (scope_in p x))) a) a
    (same_list (v.prefix_spec (spelled (main_scope p))) (same_prefix (spelled (main_scope p)) (main_same p)) ps)
    (same_names (scope_in p x) (procedure_same p x) ds)
    (same_option (v.name (spelled (scope_in p x))) (same_name (spelled (scope_in p x)) (procedure_same p x)) a)

same_procedure : (p : Program) (x : Procedure) → flat_procedure (main_scope p) x ≡ x
same_procedure p x = three (λ a b c. record { heading = a; body = b; end = c; at = x.at })
    (flat_heading (main_scope p) (scope_in p x) x.heading) x.heading (v.body (spelled (scope_in p x)) x.body) x.body (flat_end None x.end) x.end
    (same_heading p x x.heading) (same_body (spelled (scope_in p x)) (procedure_same p x) x.body) (same_end x.end)

same_main_body : (p : Program) → flat_body (main_scope p) [] p.body ≡ p.body
same_main_body p = same_body (spelled (main_scope p)) (main_same p) p.body

pub own_tree : OwnTree
own_tree p = two (λ a b. record { name = p.name; uses = first_use (map use_of p.uses); body = a; procedures = b; end = p.end })
    (flat_body (main_scope p) [] p.body) p.body (option_map (map (flat_procedure (main_scope p))) p.procedures) p.procedures
    (same_main_body p) (same_option (map (flat_procedure (main_scope p))) (same_list (flat_procedure (main_scope p)) (same_procedure p)) p.procedures)

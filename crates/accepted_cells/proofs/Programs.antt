-- Each statement of an accepted program on a lock, an event or an atom names a declared one.
use Rattle.std.proofs.Common.{◌≡◌, ◌∙◌, ◌+◌, true, false, List, [], ◌∷◌, ◌++◌, refl, sym, ap, subst, arith}
use Rattle.std.specs.Prelude.{map, slice_get, Some}
use Rattle.fortran_tree.specs.Statements as fs
use Rattle.fortran_tree.specs.Units as u
use Rattle.checked_tree.specs.Statements as ts
use Rattle.checked_tree.specs.declared.data.Constant.{Constant}
use Rattle.checked_tree.specs.declared.data.Variable.{Variable}
use Rattle.rule_definitions.specs.Judgements.{Judgement, all_made}
use Rattle.rule_definitions.specs.Names.{Scope, Symbol, Interface, variables_of}
use Rattle.rule_definitions.specs.Declarations.{limit_breaks}
use Rattle.rule_definitions.specs.Statements.{Counted, counted_statements, behind, end_breaks, judged_statements}
use Rattle.rule_definitions.specs.Units.{uses_breaks, accessible_of, headed, procedure_names, twice_breaks, Opened, opened_procedure, opened_procedures, constants_behind, interface_of, variable_of, unit_judged, procedure_form, completed, position_of, procedure_judged, procedures_judged, counted_all, procedures_of, main_unit, headings_of, first_scope, opened_breaks, name_of, program_form, program_with, program_opened, main_declared, interfaces_of, program_judged}
use Rattle.rule_laws.proofs.Filled.{all_meant}
use Rattle.accepted_ranks.proofs.Means.{Means, no, of_both, left_nothing, right_nothing, fine_means, ruled_means, made_means, both_means}
use Rattle.accepted_ranks.proofs.Declared.{is_fit, Grows, declarations_grow}
use Rattle.accepted_ranks.proofs.Opened.{procedure_opened}
use Rattle.object_rules.specs.Cells.{Declared}
use Rattle.cell_statements.specs.Typed.{AreTyped, AreTypedProcedures, IsTypedProgram}
use Rattle.accepted_cells.specs.Contents.{content, HoldWhatIsDeclared}
use Rattle.accepted_cells.proofs.Held.{any}
use Rattle.accepted_cells.proofs.Statements.{statements_typed}
use Rattle.accepted_cells.proofs.Declared.{Counted as AreAll, declarations_keep, procedure_counted}
use Rattle.accepted_cells.proofs.Names.{is_right, names_right, locals_right, hosted_all, headings_right, uses_right, IsRightScope, scope_held}

module _ (coarrays : List Declared) where
  abbrev AllRight : List Interface → List Constant → List Opened → Type 0
  AllRight is cs [] = Unit {0}
  AllRight is cs (o ∷ os) = IsRightScope coarrays (completed is cs o.scope) × AllRight is cs os

  -- the main program's names, where its procedures are opened
  pub record IsHost (s : Scope) : Type 0 where
    pub own : all_meant (is_right coarrays) s.own ≡ true
    pub procedures : all_meant (is_right coarrays) s.procedures ≡ true
    pub accessible : all_meant (is_right coarrays) s.accessible ≡ true

  more_constants : (s : Scope) (cs : List Constant) → IsHost s → IsHost (record s { constants = cs })
  more_constants s cs h = record { own = h.own; procedures = h.procedures; accessible = h.accessible }

  opened_right : (is : List Interface) (cs : List Constant) (s : Scope) (xs : List u.Procedure) → IsHost s → opened_breaks (opened_procedures s xs) ≡ [] → AllRight is cs (opened_procedures s xs)
  opened_right is cs s [] h b = tt
  opened_right is cs s (x ∷ xs) h b =
      let o = opened_procedure s (headed x.heading) x in
      let k = procedure_opened s (headed x.heading) x in
      let rest = opened_breaks (opened_procedures (record s { constants = o.scope.constants }) xs) in
      let here = left_nothing o.breaks rest b in
      let c = procedure_counted s (headed x.heading) x here in
      let r = opened_right is cs (record s { constants = o.scope.constants }) xs (more_constants s o.scope.constants h) (right_nothing o.breaks rest b) in
      let all : IsRightScope coarrays (completed is cs o.scope) = record {
        own = locals_right coarrays o.scope.own 0 (k.fits here).0 c.0 (c.1 refl);
        host = hosted_all coarrays s.own h.own;
        procedures = ap (all_meant (is_right coarrays)) k.procedures ∙ h.procedures;
        accessible = ap (all_meant (is_right coarrays)) k.accessible ∙ h.accessible;
      } in
      (all, r)

  -- ---- typed units
  unit_typed : (xs : List Symbol) (ss : fs.Statements) {j : Judgement ts.Statements} → Means j (AreTyped coarrays) → Means (unit_judged xs ss j) (λ x. AreTyped coarrays x.statements)
  unit_typed xs ss h = both_means _ (any {j = all_made (map variable_of xs)}) h (λ vs body v w. w)

  procedure_typed : (is : List Interface) (cs : List Constant) (c : Counted) (o : Opened) → IsRightScope coarrays (completed is cs o.scope) → Means (procedure_judged is cs c o) (λ q. AreTyped coarrays q.unit.statements)
  procedure_typed is cs c o r = ruled_means (end_breaks (Some o.headed.name) o.end)
      (λ b. made_means (procedure_form (interface_of o)) (unit_typed (variables_of o.scope.own) o.body.statements (statements_typed coarrays (position_of (completed is cs o.scope) c) (scope_held coarrays (completed is cs o.scope) r) o.body.statements)) (λ x h. h))

  procedures_typed : (is : List Interface) (cs : List Constant) (c : Counted) (os : List Opened) → AllRight is cs os → Means (procedures_judged is cs c os) (AreTypedProcedures coarrays)
  procedures_typed is cs c [] h = fine_means [] tt
  procedures_typed is cs c (o ∷ os) h = both_means (λ q qs. q ∷ qs) (procedure_typed is cs c o h.0) (procedures_typed is cs (behind c (counted_statements o.body.statements)) os h.1) (λ q qs v w. (v, w))

  -- ---- the program
  abbrev TypedIfDeclared : ts.Program → Type 0
  TypedIfDeclared c = HoldWhatIsDeclared c coarrays → IsTypedProgram coarrays c

  -- the main program's names are right, where the coarrays are those of the program
  main_right : (p : u.Program) (s : Scope) (cs : List Constant) (k : Counted) (x : ts.Unit') (qs : List ts.Procedure) (j : Judgement ts.Statements) → all_meant is_fit s.own ≡ true → AreAll false (variables_of s.own)
      → (unit_judged (variables_of s.own) p.body.statements j).meaning ≡ Some x → HoldWhatIsDeclared (program_form p (variables_of s.own) cs k x qs) coarrays → all_meant (is_right coarrays) s.own ≡ true
  main_right p s cs k x qs j fit counted made declared =
      let o = of_both _ (all_made (map variable_of (variables_of s.own))).meaning j.meaning x made in
      let same : o.0 ≡ x.variables = ap (λ (z : ts.Unit'). z.variables) o.4 in
      names_right coarrays x.variables s.own fit 0 0 o.0 counted.0 o.2 (λ i. ap (slice_get x.variables) (let z : 0 + i ≡ i = omega arith in z) ∙ ap (λ (vs : List Variable). slice_get vs i) (sym same))
      (λ i. ap (slice_get (map content coarrays)) (let z : 0 + i ≡ i = omega arith in z) ∙ ap (λ ts'. slice_get ts' i) declared)

  with_typed : (p : u.Program) (s : Scope) (os : List Opened) (cs : List Constant) → all_meant is_fit s.own ≡ true → AreAll false (variables_of s.own) → s.host ≡ [] → all_meant (is_right coarrays) s.procedures ≡ true → all_meant (is_right coarrays) s.accessible ≡ true
      → (IsHost s → AllRight (map interface_of os) cs os) → Means (program_with p s os (map interface_of os) cs) TypedIfDeclared
  with_typed p s os cs fit counted alone procedures accessible opened = record {
    means = λ e x m.
        let is = map interface_of os in
        let start : Counted = record { criticals = 0; literals = [] } in
        let c = counted_statements p.body.statements in
        let k = behind c (counted_all os) in
        let form = program_form p (variables_of s.own) cs k in
        let j = judged_statements (position_of (completed is cs s) start) p.body.statements in
        let a = unit_judged (variables_of s.own) p.body.statements j in
        let b = procedures_judged is cs c os in
        let o = of_both form a.meaning b.meaning x m in
        subst TypedIfDeclared o.4 (λ declared.
        let own = main_right p s cs k o.0 o.1 j fit counted o.2 declared in
        let host : IsHost s = record { own = own; procedures = procedures; accessible = accessible } in
        let here : IsRightScope coarrays (completed is cs s) = record { own = own; host = ap (all_meant (is_right coarrays)) alone; procedures = procedures; accessible = accessible } in
        let main = (unit_typed (variables_of s.own) p.body.statements (statements_typed coarrays (position_of (completed is cs s) start) (scope_held coarrays (completed is cs s) here) p.body.statements)).means (left_nothing a.breaks b.breaks e) o.0 o.2 in
        let others = (procedures_typed is cs c os (opened host)).means (right_nothing a.breaks b.breaks e) o.1 o.3 in
        (main, others));
  }

  opened_typed : (p : u.Program) (s : Scope) → all_meant is_fit s.own ≡ true → AreAll false (variables_of s.own) → s.host ≡ [] → s.procedures ≡ procedure_names 0 (headings_of p) → s.accessible ≡ accessible_of p.uses → Means (program_opened p s) TypedIfDeclared
  opened_typed p s fit counted alone f g =
      let xs = procedures_of p in
      let os = opened_procedures s xs in
      let is = map interface_of os in
      let cs = constants_behind s os in
      let a = uses_breaks p.uses in
      let b = twice_breaks (map name_of s.own) (headings_of p) in
      let c = opened_breaks os in
      let x = limit_breaks (variables_of s.own) in
      let y = end_breaks p.name p.end.name in
      let procedures : all_meant (is_right coarrays) s.procedures ≡ true = ap (all_meant (is_right coarrays)) f ∙ headings_right coarrays 0 (headings_of p) in
      let accessible : all_meant (is_right coarrays) s.accessible ≡ true = ap (all_meant (is_right coarrays)) g ∙ uses_right coarrays p.uses in
      ruled_means (a ++ (b ++ (c ++ (x ++ y)))) (λ w.
      with_typed p s os cs fit counted alone procedures accessible (λ host. opened_right is cs s xs host (left_nothing c (x ++ y) (right_nothing b (c ++ (x ++ y)) (right_nothing a (b ++ (c ++ (x ++ y))) w)))))

  pub program_typed : (p : u.Program) → Means (program_judged p) TypedIfDeclared
  program_typed p =
      let s = record (first_scope p) { interfaces = interfaces_of p } in
      let x = main_declared p (interfaces_of p) in
      let g : Grows (Unit {0}) false s x = declarations_grow main_unit p.body.declarations s in
      ruled_means x.breaks (λ e. opened_typed p (record x.scope { pending = [] }) (g.fits tt (refl, λ k. no k) e).0 (declarations_keep main_unit p.body.declarations s (tt, λ z. no z) e) g.host g.procedures g.accessible)

-- The statements of an accepted program allocate and deallocate ALLOCATABLE coarrays alone.
use Rattle.std.proofs.Common.{◌≡◌, ◌∙◌, ℕ, ◌+◌, true, false, List, [], ◌∷◌, ◌++◌, refl, ap, subst, arith}
use Rattle.std.specs.Prelude.{Bool, map, slice_get, Some}
use Rattle.fortran_tree.specs.Statements as fs
use Rattle.fortran_tree.specs.Units as u
use Rattle.checked_tree.specs.Statements as ts
use Rattle.checked_tree.specs.declared.data.Constant.{Constant}
use Rattle.checked_tree.specs.declared.data.Variable.{Variable}
use Rattle.rule_definitions.specs.Acceptance.{Accepts}
use Rattle.rule_definitions.specs.Judgements.{Judgement, all_made}
use Rattle.rule_definitions.specs.Names.{Scope, Symbol, Interface, variables_of}
use Rattle.rule_definitions.specs.Declarations.{limit_breaks}
use Rattle.rule_definitions.specs.Statements.{Counted, counted_statements, behind, end_breaks, judged_statements}
use Rattle.rule_definitions.specs.Units.{uses_breaks, accessible_of, headed, procedure_names, twice_breaks, Opened, opened_procedure, opened_procedures, constants_behind, interface_of, variable_of, unit_judged, procedure_form, completed, position_of, procedure_judged, procedures_judged, counted_all, procedures_of, main_unit, headings_of, first_scope, opened_breaks, name_of, program_form, program_with, program_opened, main_declared, interfaces_of, program_judged, coarray_numbers}
use Rattle.rule_laws.proofs.Filled.{all_meant}
use Rattle.accepted_ranks.proofs.Means.{Means, no, of_both, left_nothing, right_nothing, fine_means, ruled_means, made_means, both_means}
use Rattle.accepted_ranks.proofs.Declared.{Grows, declarations_grow}
use Rattle.accepted_ranks.proofs.Opened.{procedure_opened}
use Rattle.object_rules.specs.Cells.{Declared}
use Rattle.tree_meaning.specs.Start.{own_in}
use Rattle.told_walks.specs.Asked.{own_cells}
use Rattle.told_programs.specs.Allowed.{AreAllowed, AreAllowedProcedures, AreEnded, MakesOf, FreesOf}
use Rattle.walk_laws.specs.Fits.{first_cells, AreDeclaredBy}
use Rattle.fit_laws.specs.Asks.{AllocatesAllocatable}
use Rattle.accepted_cells.proofs.Held.{any}
use Rattle.accepted_cells.proofs.Declared.{Counted as AreAll, declarations_keep, procedure_counted}
use Rattle.accepted_runs.proofs.Few.{AreFew, AreAt, made_at, declared_few}
use Rattle.accepted_fits.proofs.Statements.{statements_allowed}
use Rattle.accepted_fits.proofs.Names.{is_made, is_one, locals_made, hosted_all, headings_made, uses_made, IsMadeScope, scope_made, names_made, all_ended}

module _ (f : ℕ → Bool) where
  abbrev Are : ts.Statements → Type 0
  Are x = AreAllowed (MakesOf f) (FreesOf f) x

  abbrev AllMade : List Interface → List Constant → List Opened → Type 0
  AllMade is cs [] = Unit {0}
  AllMade is cs (o ∷ os) = IsMadeScope f (completed is cs o.scope) × AllMade is cs os

  -- the main program's names, where its procedures are opened
  pub record IsHost (s : Scope) : Type 0 where
    pub own : all_meant (is_made f) s.own ≡ true
    pub procedures : all_meant (is_made f) s.procedures ≡ true
    pub accessible : all_meant (is_made f) s.accessible ≡ true

  more_constants : (s : Scope) (cs : List Constant) → IsHost s → IsHost (record s { constants = cs })
  more_constants s cs h = record { own = h.own; procedures = h.procedures; accessible = h.accessible }

  opened_made : (is : List Interface) (cs : List Constant) (s : Scope) (xs : List u.Procedure) → IsHost s
      → opened_breaks (opened_procedures s xs) ≡ [] → AllMade is cs (opened_procedures s xs)
  opened_made is cs s [] h b = tt
  opened_made is cs s (x ∷ xs) h b =
      let o = opened_procedure s (headed x.heading) x in
      let k = procedure_opened s (headed x.heading) x in
      let rest = opened_breaks (opened_procedures (record s { constants = o.scope.constants }) xs) in
      let here = left_nothing o.breaks rest b in
      let c = procedure_counted s (headed x.heading) x here in
      let r = opened_made is cs (record s { constants = o.scope.constants }) xs (more_constants s o.scope.constants h)
      (right_nothing o.breaks rest b) in
      let all : IsMadeScope f (completed is cs o.scope) = record {
        own = locals_made f o.scope.own 0 c.0 (c.1 refl);
        host = hosted_all f s.own h.own;
        procedures = ap (all_meant (is_made f)) k.procedures ∙ h.procedures;
        accessible = ap (all_meant (is_made f)) k.accessible ∙ h.accessible;
      } in
      (all, r)

  -- ---- units
  unit_allowed : (xs : List Symbol) (ss : fs.Statements) {j : Judgement ts.Statements} → Means j Are
      → Means (unit_judged xs ss j) (λ x. Are x.statements)
  unit_allowed xs ss h = both_means _ (any {j = all_made (map variable_of xs)}) h (λ vs body v w. w)

  procedure_allowed : (is : List Interface) (cs : List Constant) (c : Counted) (o : Opened) → IsMadeScope f (completed is cs o.scope)
      → Means (procedure_judged is cs c o) (λ q. Are q.unit.statements)
  procedure_allowed is cs c o r = ruled_means (end_breaks (Some o.headed.name) o.end)
      (λ b. made_means (procedure_form (interface_of o))
      (unit_allowed (variables_of o.scope.own) o.body.statements
      (statements_allowed f (position_of (completed is cs o.scope) c) (scope_made f (completed is cs o.scope) r) o.body.statements))
      (λ x h. h))

  procedures_allowed : (is : List Interface) (cs : List Constant) (c : Counted) (os : List Opened) → AllMade is cs os
      → Means (procedures_judged is cs c os) (AreAllowedProcedures (MakesOf f) (FreesOf f))
  procedures_allowed is cs c [] h = fine_means [] tt
  procedures_allowed is cs c (o ∷ os) h = both_means (λ q qs. q ∷ qs) (procedure_allowed is cs c o h.0)
      (procedures_allowed is cs (behind c (counted_statements o.body.statements)) os h.1) (λ q qs v w. (v, w))

-- ---- the program
module _ (coarrays : List Declared) where
  abbrev AllocatesIfDeclared : ts.Program → Type 0
  AllocatesIfDeclared c = AreDeclaredBy c coarrays → AllocatesAllocatable coarrays c

  -- the main program's names, and what END TEAM deallocates
  main_made : (s : Scope) (vs : List Variable) → AreAll false (variables_of s.own) → AreFew (variables_of s.own)
      → AreAt vs 0 (variables_of s.own) → map first_cells coarrays ≡ map own_cells
      (map (own_in vs) (coarray_numbers 0 (variables_of s.own)))
      → (all_meant (is_made (is_one coarrays vs)) s.own ≡ true) × AreEnded (λ c. is_one coarrays vs c ≡ true) vs
      (coarray_numbers 0 (variables_of s.own)) 0
  main_made s vs counted few at declared =
      let xs = variables_of s.own in
      let follows : (j : ℕ) → slice_get (map first_cells coarrays) (0 + j) ≡ slice_get
      (map own_cells (map (own_in vs) (coarray_numbers 0 xs))) j
      = λ j. ap (slice_get (map first_cells coarrays)) (let z : 0 + j ≡ j = omega arith in z) ∙ ap (λ ns. slice_get ns j) declared in
      (names_made coarrays vs s.own counted.0 few at follows, all_ended coarrays vs xs 0 0 few at follows)

  with_allowed : (p : u.Program) (s : Scope) (os : List Opened) (cs : List Constant) → AreAll false (variables_of s.own)
      → AreFew (variables_of s.own) → s.host ≡ []
      → ((f : ℕ → Bool) → all_meant (is_made f) s.procedures ≡ true) → ((f : ℕ → Bool) → all_meant (is_made f) s.accessible ≡ true)
      → ((f : ℕ → Bool) → IsHost f s → AllMade f (map interface_of os) cs os)
      → Means (program_with p s os (map interface_of os) cs) AllocatesIfDeclared
  with_allowed p s os cs counted few alone procedures accessible opened = record {
    means = λ e x m.
        let is = map interface_of os in
        let start : Counted = record { criticals = 0; literals = [] } in
        let c = counted_statements p.body.statements in
        let xs = variables_of s.own in
        let form = program_form p xs cs (behind c (counted_all os)) in
        let j = judged_statements (position_of (completed is cs s) start) p.body.statements in
        let a = unit_judged xs p.body.statements j in
        let b = procedures_judged is cs c os in
        let o = of_both form a.meaning b.meaning x m in
        let w = of_both _ (all_made (map variable_of xs)).meaning j.meaning o.0 o.2 in
        let same : w.0 ≡ o.0.variables = ap (λ (z : ts.Unit'). z.variables) w.4 in
        subst AllocatesIfDeclared o.4 (λ declared.
        let vs = o.0.variables in
        let f = is_one coarrays vs in
        let main = main_made s vs counted few (subst (λ ws. AreAt ws 0 xs) same (made_at xs w.0 w.2)) declared in
        let host : IsHost f s = record { own = main.0; procedures = procedures f; accessible = accessible f } in
        let here : IsMadeScope f (completed is cs s) = record {
          own = main.0;
          host = ap
              (all_meant (is_made f)) alone;
          procedures = procedures f;
          accessible = accessible f;
        } in
        let body = (unit_allowed f xs p.body.statements
        (statements_allowed f (position_of (completed is cs s) start) (scope_made f (completed is cs s) here) p.body.statements)).means
        (left_nothing a.breaks b.breaks e) o.0 o.2 in
        let others = (procedures_allowed f is cs c os (opened f host)).means (right_nothing a.breaks b.breaks e) o.1 o.3 in
        (body, others, main.1));
  }

  opened_allowed : (p : u.Program) (s : Scope) → AreAll false (variables_of s.own) → AreFew (variables_of s.own) → s.host ≡ []
      → s.procedures ≡ procedure_names 0 (headings_of p) → s.accessible ≡ accessible_of p.uses
      → Means (program_opened p s) AllocatesIfDeclared
  opened_allowed p s counted few alone g h =
      let xs = procedures_of p in
      let os = opened_procedures s xs in
      let is = map interface_of os in
      let cs = constants_behind s os in
      let a = uses_breaks p.uses in
      let b = twice_breaks (map name_of s.own) (headings_of p) in
      let c = opened_breaks os in
      let x = limit_breaks (variables_of s.own) in
      let y = end_breaks p.name p.end.name in
      let procedures : (f : ℕ → Bool) → all_meant (is_made f) s.procedures ≡ true = λ f. ap (all_meant (is_made f)) g ∙ headings_made f 0
      (headings_of p) in
      let accessible : (f : ℕ → Bool) → all_meant (is_made f) s.accessible ≡ true = λ f. ap
      (all_meant (is_made f)) h ∙ uses_made f p.uses in
      ruled_means (a ++ (b ++ (c ++ (x ++ y)))) (λ w.
      with_allowed p s os cs counted few alone procedures accessible
      (λ f host. opened_made f is cs s xs host
      (left_nothing c (x ++ y) (right_nothing b (c ++ (x ++ y)) (right_nothing a (b ++ (c ++ (x ++ y))) w)))))

  program_allowed : (p : u.Program) → Means (program_judged p) AllocatesIfDeclared
  program_allowed p =
      let s = record (first_scope p) { interfaces = interfaces_of p } in
      let x = main_declared p (interfaces_of p) in
      let g : Grows (Unit {0}) false s x = declarations_grow main_unit p.body.declarations s in
      ruled_means x.breaks (λ e. opened_allowed p (record x.scope { pending = [] })
      (declarations_keep main_unit p.body.declarations s (tt, λ z. no z) e)
      (declared_few p (interfaces_of p) e) g.host g.procedures g.accessible)

pub accepted_allocates : (x : u.Program) (p : ts.Program) → Accepts x p → (coarrays : List Declared) → AreDeclaredBy p coarrays
    → AllocatesAllocatable coarrays p
accepted_allocates x p accepts coarrays declared = (program_allowed coarrays x).means accepts.unbroken p accepts.meaning declared

-- Expressions and what stands around them ask for no lock and for no event, and read what may be read alone.
use Rattle.std.proofs.Common.{◌≡◌, ℕ, zero, suc, ◌+◌, Bool, cond, List, [], ◌∷◌, ◌++◌, refl, subst, arith, true}
use Rattle.std.specs.Prelude.{ℤ, ◌==◌, length, Option, None, Some}
use Rattle.walk_theory.specs.Syntax.{Parts, end_parts}
use Rattle.caf_base.specs.declared.value.Kind.{Kind}
use Rattle.checked_tree.specs.declared.data.Object.TheVariants as objects
use Rattle.checked_tree.specs.declared.data.Variable.{Variable}
use Rattle.checked_tree.specs.declared.program.Dummy.{Dummy}
use Rattle.checked_tree.specs.declared.expr.WrittenOrder.{WrittenOrder}
use Rattle.checked_tree.specs.declared.expr.WrittenOrder.TheVariants as orders
use Rattle.checked_tree.specs.Expressions as t
use Rattle.checked_tree.specs.Statements.{Procedure, Unit'}
use Rattle.image_acts.specs.Places.{place_size}
use Rattle.image_acts.specs.Acts as a
use Rattle.image_acts.specs.Acts.{Act}
use Rattle.image_code.specs.Sizes.{numbers}
use Rattle.image_code.specs.Levels.{of_numbers}
use Rattle.tree_meaning.specs.Environment.{Environment, scope_of, kind_of, declared_bounds, rank_in, procedure_in}
use Rattle.tree_meaning.specs.Sequences.{◌▸◌, doing, dropping, copying, bringing}
use Rattle.tree_meaning.specs.Expressions as view
use Rattle.made_code.specs.Ranks as ranks
use Rattle.made_code.proofs.Digits.{section_rank}
use Rattle.made_code.proofs.Turns.{Turns, Runs}
use Rattle.made_code.proofs.Forms.{one_act, then_one, own_needed}
use Rattle.made_code.proofs.Expressions.{scalar_turns, expressions_turns, place_turns}
use Rattle.cell_walks.proofs.Acts.{IsFree}
use Rattle.cell_walks.proofs.References.{reading}
use Rattle.cell_walks.proofs.Levels.{Rises}
use Rattle.cell_walks.proofs.Quieting.{Safe, no_parts, one, acts, both, entering, either_way, own_read, selected_read}
use Rattle.cell_statements.specs.Reading.{ExpressionReads, FormReads, AllRead, OptionalReads, SubscriptsRead, SubscriptReads, PartReads, PlaceReads, SelectorReads, TeamReads, ResultReads, StatReads, ArgumentsRead, ArgumentReads, BoundsRead, IntrinsicReads}

-- ---- small parts
pub quiet_dropping : {readable : ℕ → Bool} (n : ℕ) → Safe readable (dropping n)
quiet_dropping n = either_way _ end_parts (doing (a.stack (a.drop n) ∷ [])) no_parts (one tt)

pub quiet_copying : {readable : ℕ → Bool} (depth n : ℕ) → Safe readable (copying depth n)
quiet_copying depth n = either_way _ end_parts (doing (a.stack (a.copy depth n) ∷ [])) no_parts (one tt)

pub quiet_bringing : {readable : ℕ → Bool} (depth n : ℕ) → Safe readable (bringing depth n)
quiet_bringing depth n = either_way _ end_parts (doing (a.stack (a.bring depth n) ∷ [])) no_parts (one tt)

pub quiet_as_written : {readable : ℕ → Bool} (o : WrittenOrder) (p q : Parts Act) → Safe readable p → Safe readable q → Safe readable (view.as_written o p q)
quiet_as_written orders.Same p q h k = both h k
quiet_as_written orders.Reversed p q h k = both k (both h (quiet_bringing 1 1))

pub quiet_beside : {readable : ℕ → Bool} (o : WrittenOrder) (p q : Parts Act) → Safe readable p → Safe readable q → Safe readable (view.beside_as_written o p q)
quiet_beside orders.Same p q h k = both h k
quiet_beside orders.Reversed p q h k = both k h

pub quiet_storing : {readable : ℕ → Bool} (depth : ℕ) (r : t.ResultVariable) → Safe readable (view.storing depth r)
quiet_storing depth (t.result_variable v t.no_expressions k) = one tt
quiet_storing depth (t.result_variable v (t.more_expressions x es) k) = both (quiet_copying depth 1) (one tt)

pub quiet_status : {readable : ℕ → Bool} (depth : ℕ) (r : t.OptionalResult) → Safe readable (view.storing_status depth r)
quiet_status depth t.no_result = quiet_dropping 1
quiet_status depth (t.result r) = quiet_storing depth r

pub quiet_own : {readable : ℕ → Bool} (c : ℕ) (is_scalar : Bool) (sel : t.Selector) → Safe readable (view.needing_own c is_scalar sel)
quiet_own c is_scalar sel = either_way _ (doing (a.bounded (a.needs_own c) ∷ [])) end_parts (one tt) no_parts

quiet_as_value : {readable : ℕ → Bool} (rank : ℕ) → Safe readable (view.as_value rank)
quiet_as_value zero = one tt
quiet_as_value (suc r) = one tt

pub quiet_cells : {readable : ℕ → Bool} (rank : ℕ) → Safe readable (view.taking_cells rank)
quiet_cells zero = no_parts
quiet_cells (suc r) = one tt

-- ---- calls
quiet_in_one : {readable : ℕ → Bool} (p : view.Passed) (n : ℕ) → Safe readable (view.copying_in_one p n)
quiet_in_one p n =
    either_way (p.rank == 0) (copying n 1 ▸ doing (a.variable (a.store a.here p.dummy) ∷ [])) (doing (a.call (a.copy_in p.dummy) ∷ [])) (both (quiet_copying n 1) (one tt)) (one tt)

quiet_in : {readable : ℕ → Bool} (ps : List view.Passed) → Safe readable (view.copying_in ps)
quiet_in [] = no_parts
quiet_in (p ∷ ps) = both (quiet_in ps) (quiet_in_one p (view.passed_sizes ps))

quiet_out_one : {readable : ℕ → Bool} (rank x : ℕ) → Safe readable (view.copying_out_one rank x)
quiet_out_one zero x = one tt
quiet_out_one (suc r) x = one tt

quiet_out : {readable : ℕ → Bool} (ps : List view.Passed) → Safe readable (view.copying_out ps)
quiet_out [] = no_parts
quiet_out (p ∷ ps) = both (quiet_out ps) (either_way p.goes_back (view.copying_out_one p.rank p.dummy) end_parts (quiet_out_one p.rank p.dummy) no_parts)

quiet_going_back : {readable : ℕ → Bool} (p : view.Passed) (depth : ℕ) → Safe readable (view.going_back p depth)
quiet_going_back p depth =
    let scalar = doing (a.variable (a.put p.scope p.actual 0) ∷ []) in
    let array = doing (a.variable (a.put_array p.scope p.actual p.rank) ∷ []) in
    either_way (p.place == 0) (doing (a.variable (a.store p.scope p.actual) ∷ [])) (copying depth p.place ▸ cond (p.rank == 0) scalar array) (one tt) (both (quiet_copying depth p.place)
    (either_way (p.rank == 0) scalar array (one tt) (one tt)))

quiet_back : {readable : ℕ → Bool} (ps : List view.Passed) (n : ℕ) → Safe readable (view.putting_back ps n)
quiet_back [] n = no_parts
quiet_back (p ∷ ps) n =
    let depth = view.out_sizes (p ∷ ps) + (n + (view.passed_sizes ps + view.value_size p.rank)) in
    (both (either_way p.goes_back (view.going_back p depth) end_parts (quiet_going_back p depth) no_parts) (quiet_back ps n))

quiet_bounds_acts : {readable : ℕ → Bool} (bs : List (ℤ × ℤ)) (x : Act) → IsFree x → Safe readable (doing (view.bounds_acts bs ++ x ∷ []))
quiet_bounds_acts [] x h = acts h no_parts
quiet_bounds_acts (y ∷ bs) x h = acts tt (acts tt (quiet_bounds_acts bs x h))

quiet_laying_one : {readable : ℕ → Bool} (o : Option (List (ℤ × ℤ))) (x : ℕ) → Safe readable (view.laying_out_one o x)
quiet_laying_one None x = no_parts
quiet_laying_one (Some []) x = no_parts
quiet_laying_one (Some (y ∷ bs)) x = quiet_bounds_acts (y ∷ bs) (a.allocation (a.lay_out x (length (y ∷ bs)))) tt

quiet_laying : {readable : ℕ → Bool} (vs : List Variable) (x : ℕ) → Safe readable (view.laying_out vs x)
quiet_laying [] x = no_parts
quiet_laying (v ∷ vs) x = both (quiet_laying_one (declared_bounds v.dimensions) x) (quiet_laying vs (suc x))

quiet_resulting : {readable : ℕ → Bool} (u : Unit') (o : Option ℕ) → Safe readable (view.resulting u o)
quiet_resulting u None = no_parts
quiet_resulting u (Some x) = quiet_out_one (rank_in u.variables x) x

pub quiet_calling : {readable : ℕ → Bool} (k : ℕ) (p : Procedure) (ps : List view.Passed) → Safe readable (view.calling k p ps)
quiet_calling k p ps =
    let n = view.result_numbers p.unit p.answer in
    both (both (one tt) (both (quiet_laying p.unit.variables 0) (quiet_in ps)))
    (entering (suc k) (both (quiet_resulting p.unit p.answer) (both (quiet_out ps) (both (one tt)
    (both (quiet_back ps n) (both (quiet_bringing n (view.passed_sizes ps)) (both (quiet_dropping (view.passed_sizes ps)) (quiet_cells (view.result_rank p.unit p.answer)))))))))

-- ---- parts that leave some numbers
pub rises : {m : ℕ} {p : Parts Act} → Turns (numbers 0 m) p → Rises m p
rises {m = m} {p = p} t h = subst (λ k. Runs of_numbers k (h + m) p) (let e : h + 0 ≡ h = omega arith in e) (t.runs of_numbers h)

pub selected_turns : (e : Environment) (w : t.SelectedTeam) → ranks.IsTeam e.program.procedures w → Turns (numbers 0 1) (view.selected_team e w)
selected_turns e t.current h = one_act
selected_turns e (t.team x) h = then_one (numbers 0 1) (scalar_turns e x h) (omega arith)
selected_turns e (t.team_number x) h = then_one (numbers 0 1) (scalar_turns e x h) (omega arith)

pub same_reading : (c rank : ℕ) → reading c rank ≡ view.reading c rank
same_reading c zero = refl
same_reading c (suc r) = refl

-- ---- references to coarrays
own_referred : {readable : ℕ → Bool} (c rank : ℕ) (ss : t.Subscripts) {q : Parts Act} → readable c ≡ true → ranks.IsSection ss rank → Safe readable q
    → Safe readable (doing (a.bounded (a.co_section c (view.form_of ss rank)) ∷ []) ▸ doing (a.selector (a.own_image rank) ∷ []) ▸ view.needing_own c (view.is_scalar ss rank) t.no_selector ▸ view.reading c rank ▸ q)
own_referred {readable = readable} c rank ss {q = q} v s g =
    let need = view.needing_own c (view.is_scalar ss rank) t.no_selector in
    subst (λ p. Safe readable (doing (a.bounded (a.co_section c (view.form_of ss rank)) ∷ []) ▸ doing (a.selector (a.own_image rank) ∷ []) ▸ need ▸ p ▸ q)) (same_reading c rank)
    (own_read c (view.form_of ss rank) rank v (section_rank ss rank s) (quiet_own c (view.is_scalar ss rank) t.no_selector) (rises (own_needed c (view.is_scalar ss rank) t.no_selector)) g)

module _ (readable : ℕ → Bool) (e : Environment) where
  abbrev Quiet : Parts Act → Type 0
  Quiet p = Safe readable p

  selected_referred : (c rank : ℕ) (ss : t.Subscripts) (cs : t.Expressions) (which : t.SelectedTeam) (stat : t.OptionalResult) {q : Parts Act} → readable c ≡ true → ranks.IsSection ss rank
      → ranks.AreScalars e.program.procedures cs → ranks.IsTeam e.program.procedures which → ranks.IsOptionalResult e.program.procedures stat → Quiet (view.expressions e cs) → Quiet (view.selected_team e which) → Quiet (view.optional_place e stat) → Quiet q
      → Quiet (doing (a.bounded (a.co_section c (view.form_of ss rank)) ∷ []) ▸ view.owner e c rank (t.selector cs which stat) ▸ view.needing_own c (view.is_scalar ss rank) (t.selector cs which stat) ▸ view.reading c rank ▸ q)
  selected_referred c rank ss cs which stat {q = q} v s h i j quiet_cs quiet_which quiet_stat g =
      let need = view.needing_own c (view.is_scalar ss rank) (t.selector cs which stat) in
      subst (λ p. Quiet (doing (a.bounded (a.co_section c (view.form_of ss rank)) ∷ []) ▸ view.owner e c rank (t.selector cs which stat) ▸ need ▸ p ▸ q)) (same_reading c rank)
      (selected_read c (view.form_of ss rank) rank (view.count_of cs) (view.optional_size stat) v (section_rank ss rank s) quiet_cs (rises (expressions_turns e cs h)) quiet_which (rises (selected_turns e which i))
      quiet_stat (rises (place_turns e stat j)) (quiet_own c (view.is_scalar ss rank) (t.selector cs which stat)) (rises (own_needed c (view.is_scalar ss rank) (t.selector cs which stat))) g)

  mutual
    pub quiet_expression : (x : t.Expression) → ranks.IsRanked e.program.procedures x → ExpressionReads readable x → Quiet (view.expression e x)
    quiet_expression (t.typed f type rank) h r = quiet_form f (kind_of type) rank h r

    pub quiet_ranked : (x : t.Expression) (rank : ℕ) → ranks.IsOfRank e.program.procedures x rank → ExpressionReads readable x → Quiet (view.expression e x)
    quiet_ranked (t.typed f type q) rank h r = quiet_form f (kind_of type) q h.1 r

    quiet_array : (x : t.Expression) → ranks.IsArray e.program.procedures x → ExpressionReads readable x → Quiet (view.expression e x)
    quiet_array (t.typed f type rank) h r = quiet_form f (kind_of type) rank h.1 r

    pub quiet_form : (f : t.Form) (k : Kind) (rank : ℕ) → ranks.HasRank e.program.procedures f rank → FormReads readable f → Quiet (view.form e f k rank)
    quiet_form (t.number z) k rank h r = one tt
    quiet_form (t.logical b) k rank h r = one tt
    quiet_form (t.designator d) k rank h r = quiet_designator d rank h r
    quiet_form (t.call n es) k rank h r =
        both (quiet_arguments (procedure_in e n).unit.variables (procedure_in e n).dummies es h.1 r) (quiet_calling n (procedure_in e n) (view.passed (procedure_in e n).unit.variables (procedure_in e n).dummies es))
    quiet_form (t.intrinsic i) k rank h r = quiet_intrinsic i k rank h r
    quiet_form (t.parenthesized x) k rank h r = quiet_ranked x rank h r
    quiet_form (t.array_constructor es) k rank h r = both (one tt) (quiet_items es h.1 r)
    quiet_form (t.plus x) k rank h r = quiet_ranked x 0 h.1 r
    quiet_form (t.minus x) k rank h r = both (quiet_ranked x 0 h.1 r) (one tt)
    quiet_form (t.not x) k rank h r = both (quiet_ranked x 0 h.1 r) (one tt)
    quiet_form (t.arithmetic o x y) k rank h r = both (quiet_ranked x 0 h.1 r.0) (both (quiet_ranked y 0 h.2 r.1) (one tt))
    quiet_form (t.relation o x y) k rank h r = both (quiet_ranked x 0 h.1 r.0) (both (quiet_ranked y 0 h.2 r.1) (one tt))
    quiet_form (t.logic o x y) k rank h r = both (quiet_ranked x 0 h.1 r.0) (both (quiet_ranked y 0 h.2 r.1) (one tt))

    pub quiet_expressions : (es : t.Expressions) → ranks.AreScalars e.program.procedures es → AllRead readable es → Quiet (view.expressions e es)
    quiet_expressions t.no_expressions h r = no_parts
    quiet_expressions (t.more_expressions x es) h r = both (quiet_ranked x 0 h.0 r.0) (quiet_expressions es h.1 r.1)

    quiet_items : (es : t.Expressions) → ranks.AreRanked e.program.procedures es → AllRead readable es → Quiet (view.items e es)
    quiet_items t.no_expressions h r = no_parts
    quiet_items (t.more_expressions (t.typed f type zero) es) h r = both (quiet_form f (kind_of type) 0 h.0 r.0) (both (acts tt (one tt)) (quiet_items es h.1 r.1))
    quiet_items (t.more_expressions (t.typed f type (suc n)) es) h r = both (quiet_form f (kind_of type) (suc n) h.0 r.0) (both (acts tt (one tt)) (quiet_items es h.1 r.1))

    quiet_folded : (o : a.OperatorAct) (es : t.Expressions) → ranks.AreScalars e.program.procedures es → AllRead readable es → Quiet (view.folded e o es)
    quiet_folded o t.no_expressions h r = no_parts
    quiet_folded o (t.more_expressions x es) h r = both (quiet_ranked x 0 h.0 r.0) (both (one tt) (quiet_folded o es h.1 r.1))

    quiet_first : (o : a.OperatorAct) (es : t.Expressions) → ranks.AreSomeScalars e.program.procedures es → AllRead readable es → Quiet (view.first_and_folded e o es)
    quiet_first o t.no_expressions h r = no_parts
    quiet_first o (t.more_expressions x es) h r = both (quiet_ranked x 0 h.0 r.0) (quiet_folded o es h.1 r.1)

    pub quiet_optional : (x : t.OptionalExpression) → ranks.IsOptionalScalar e.program.procedures x → OptionalReads readable x → Quiet (view.optional e x)
    quiet_optional t.missing h r = no_parts
    quiet_optional (t.given x) h r = quiet_ranked x 0 h r

    pub quiet_subscripts : (ss : t.Subscripts) → ranks.AreSubscripts e.program.procedures ss → SubscriptsRead readable ss → Quiet (view.subscripts e ss)
    quiet_subscripts t.no_subscripts h r = no_parts
    quiet_subscripts (t.more_subscripts s ss) h r = both (quiet_subscript s h.0 r.0) (quiet_subscripts ss h.1 r.1)

    quiet_subscript : (s : t.Subscript) → ranks.IsSubscript e.program.procedures s → SubscriptReads readable s → Quiet (view.subscript e s)
    quiet_subscript (t.element x) h r = quiet_ranked x 0 h r
    quiet_subscript (t.triplet l u s) h r = both (quiet_optional l h.0 r.0) (both (quiet_optional u h.1 r.1) (quiet_optional s h.2 r.2))

    pub quiet_result : (x : t.ResultVariable) → ranks.IsResult e.program.procedures x → ResultReads readable x → Quiet (view.result_place e x)
    quiet_result (t.result_variable v t.no_expressions k) h r = no_parts
    quiet_result (t.result_variable v (t.more_expressions x es) k) h r = both (quiet_ranked x 0 h.0.0 r.0) (both (quiet_expressions es h.0.1 r.1) (one tt))

    pub quiet_place : (x : t.OptionalResult) → ranks.IsOptionalResult e.program.procedures x → StatReads readable x → Quiet (view.optional_place e x)
    quiet_place t.no_result h r = no_parts
    quiet_place (t.result x) h r = quiet_result x h r

    pub quiet_selected : (w : t.SelectedTeam) → ranks.IsTeam e.program.procedures w → TeamReads readable w → Quiet (view.selected_team e w)
    quiet_selected t.current h r = one tt
    quiet_selected (t.team x) h r = both (quiet_ranked x 0 h r) (one tt)
    quiet_selected (t.team_number x) h r = both (quiet_ranked x 0 h r) (one tt)

    pub quiet_owner : (c rank : ℕ) (sel : t.Selector) → ranks.IsSelector e.program.procedures sel → SelectorReads readable sel → Quiet (view.owner e c rank sel)
    quiet_owner c rank t.no_selector h r = one tt
    quiet_owner c rank (t.selector cs which stat) h r =
        both (quiet_expressions cs h.0 r.0) (both (quiet_selected which h.1 r.1) (both (quiet_place stat h.2 r.2)
        (both (quiet_bringing (view.optional_size stat) (place_size rank + (view.count_of cs + 1))) (one tt))))

    quiet_designator : (d : t.Designator) (rank : ℕ) → ranks.IsPart e.program.procedures d rank → PartReads readable d → Quiet (view.designator e d rank)
    quiet_designator (t.part (objects.Local v) ss sel) rank h r =
        either_way (view.is_scalar ss rank) (doing (a.variable (a.cell (scope_of v.home) v.variable) ∷ []))
        (view.subscripts e ss ▸ view.local_value e (scope_of v.home) v.variable (view.form_of ss rank) rank) (one tt) (both (quiet_subscripts ss h.0 r.1) (both
        (acts tt (one tt)) (quiet_cells rank)))
    quiet_designator (t.part (objects.Constant n) ss sel) rank h r = both (quiet_subscripts ss h.0 r.1) (both (acts tt (one tt)) (quiet_cells rank))
    quiet_designator (t.part (objects.Coarray c) ss t.no_selector) rank h r =
        both (quiet_subscripts ss h.0 r.1) (own_referred c rank ss r.0 h.1 (both (one tt) (both (quiet_status 1 t.no_result) (both (quiet_dropping 0) (quiet_as_value rank)))))
    quiet_designator (t.part (objects.Coarray c) ss (t.selector cs which stat)) rank h r =
        both (quiet_subscripts ss h.0 r.1) (selected_referred c rank ss cs which stat r.0 h.1 h.2.0 h.2.1 h.2.2
        (quiet_expressions cs h.2.0 r.2.0) (quiet_selected which h.2.1 r.2.1) (quiet_place stat h.2.2 r.2.2)
        (both (one tt) (both (quiet_status 1 stat) (both (quiet_dropping (view.optional_size stat)) (quiet_as_value rank)))))

    pub quiet_arguments : (vs : List Variable) (ds : List Dummy) (es : t.Arguments) → ranks.ArePassed e.program.procedures vs ds es → ArgumentsRead readable es → Quiet (view.arguments e vs ds es)
    quiet_arguments vs ds t.no_arguments h r = no_parts
    quiet_arguments vs [] (t.more_arguments x es) h r = no_parts
    quiet_arguments vs (d ∷ ds) (t.more_arguments x es) h r = both (quiet_argument x (rank_in vs d.variable) h.0 r.0) (quiet_arguments vs ds es h.1 r.1)

    quiet_argument : (x : t.Argument) (rank : ℕ) → ranks.IsPassed e.program.procedures x rank → ArgumentReads readable x → Quiet (view.argument e x rank)
    quiet_argument (t.value x) rank h r = quiet_ranked x rank h r
    quiet_argument (t.variable d) rank h r = quiet_actual d rank h r

    quiet_actual : (d : t.Designator) (rank : ℕ) → ranks.IsVariable e.program.procedures d rank → PlaceReads readable d → Quiet (view.actual e d rank)
    quiet_actual (t.part (objects.Local v) ss sel) rank h r =
        either_way (view.is_scalar ss rank) (doing (a.variable (a.cell (scope_of v.home) v.variable) ∷ []))
        (view.subscripts e ss ▸ doing (a.bounded (a.section (scope_of v.home) v.variable (view.form_of ss rank)) ∷ []) ▸ copying 0 (place_size rank) ▸ doing (a.variable (a.load (scope_of v.home) v.variable rank) ∷ []) ▸ view.taking_cells rank) (one tt)
        (both (quiet_subscripts ss h.0 r.0) (both (one tt) (both (quiet_copying 0 (place_size rank)) (both (one tt) (quiet_cells rank)))))
    quiet_actual (t.part (objects.Constant n) ss sel) rank h r = no_parts
    quiet_actual (t.part (objects.Coarray c) ss sel) rank h r = no_parts

    quiet_team : (w : t.OptionalExpression) → ranks.IsOptionalScalar e.program.procedures w → OptionalReads readable w → Quiet (view.team_of e w)
    quiet_team t.missing h r = one tt
    quiet_team (t.given x) h r = both (quiet_ranked x 0 h r) (one tt)

    quiet_bounds : (x : t.Expression) → ranks.IsArray e.program.procedures x → BoundsRead readable x → Quiet (view.bounds_of e x)
    quiet_bounds (t.typed (t.designator d) type rank) h r = quiet_part d rank h.1 r
    quiet_bounds (t.typed (t.number z) type rank) h r = no_parts
    quiet_bounds (t.typed (t.logical b) type rank) h r = no_parts
    quiet_bounds (t.typed (t.call n es) type rank) h r =
        both
        (both (quiet_arguments (procedure_in e n).unit.variables (procedure_in e n).dummies es h.1.1 r) (quiet_calling n (procedure_in e n) (view.passed (procedure_in e n).unit.variables (procedure_in e n).dummies es))) (one tt)
    quiet_bounds (t.typed (t.intrinsic i) type rank) h r = both (quiet_intrinsic i (kind_of type) rank h.1 r) (one tt)
    quiet_bounds (t.typed (t.parenthesized x) type rank) h r = both (quiet_ranked x rank h.1 r) (one tt)
    quiet_bounds (t.typed (t.array_constructor es) type rank) h r = both (one tt) (both (quiet_items es h.1.1 r) (one tt))
    quiet_bounds (t.typed f type rank) h r = no_parts

    quiet_part : (d : t.Designator) (rank : ℕ) → ranks.IsPart e.program.procedures d rank → PlaceReads readable d → Quiet (view.bounds_of_part e d rank)
    quiet_part (t.part (objects.Local v) t.no_subscripts sel) rank h r = one tt
    quiet_part (t.part (objects.Local v) (t.more_subscripts s ss) sel) rank h r = both (quiet_subscript s h.0.0 r.0.0) (both (quiet_subscripts ss h.0.1 r.0.1) (acts tt (one tt)))
    quiet_part (t.part (objects.Constant n) t.no_subscripts sel) rank h r = one tt
    quiet_part (t.part (objects.Constant n) (t.more_subscripts s ss) sel) rank h r = both (quiet_subscript s h.0.0 r.0.0) (both (quiet_subscripts ss h.0.1 r.0.1) (acts tt (one tt)))
    quiet_part (t.part (objects.Coarray c) t.no_subscripts sel) rank h r = one tt
    quiet_part (t.part (objects.Coarray c) (t.more_subscripts s ss) t.no_selector) rank h r =
        both (quiet_subscript s h.0.0 r.0.0) (both (quiet_subscripts ss h.0.1 r.0.1) (acts tt (acts tt (one tt))))
    quiet_part (t.part (objects.Coarray c) (t.more_subscripts s ss) (t.selector cs which stat)) rank h r =
        both (quiet_subscript s h.0.0 r.0.0) (both (quiet_subscripts ss h.0.1 r.0.1) (both (one tt) (both (quiet_owner c rank (t.selector cs which stat) h.2 r.1) (both (quiet_dropping 1)
        (both (one tt) (quiet_dropping (view.optional_size stat)))))))

    quiet_intrinsic : (i : t.Intrinsic) (k : Kind) (rank : ℕ) → ranks.HasIntrinsicRank e.program.procedures i rank → IntrinsicReads readable i → Quiet (view.intrinsic e i k)
    quiet_intrinsic (t.abs x) k rank h r = both (quiet_ranked x 0 h.1 r) (one tt)
    quiet_intrinsic (t.remainder x p o) k rank h r = both (quiet_as_written o (view.expression e x) (view.expression e p) (quiet_ranked x 0 h.1 r.0) (quiet_ranked p 0 h.2 r.1)) (one tt)
    quiet_intrinsic (t.modulo x p o) k rank h r = both (quiet_as_written o (view.expression e x) (view.expression e p) (quiet_ranked x 0 h.1 r.0) (quiet_ranked p 0 h.2 r.1)) (one tt)
    quiet_intrinsic (t.min es) k rank h r = quiet_first a.least es h.1 r
    quiet_intrinsic (t.max es) k rank h r = quiet_first a.greatest es h.1 r
    quiet_intrinsic t.huge k rank h r = one tt
    quiet_intrinsic (t.int x) k rank h r = both (quiet_ranked x 0 h.1 r) (one tt)
    quiet_intrinsic (t.size x t.missing o) k rank h r = both (quiet_bounds x h.1 r.0) (one tt)
    quiet_intrinsic (t.size x (t.given d) o) k rank h r = both (quiet_beside o (view.bounds_of e x) (view.expression e d) (quiet_bounds x h.1 r.0) (quiet_ranked d 0 h.2 r.1)) (one tt)
    quiet_intrinsic (t.lbound x d o) k rank h r = both (quiet_beside o (view.bounds_of e x) (view.expression e d) (quiet_bounds x h.1 r.0) (quiet_ranked d 0 h.2 r.1)) (one tt)
    quiet_intrinsic (t.ubound x d o) k rank h r = both (quiet_beside o (view.bounds_of e x) (view.expression e d) (quiet_bounds x h.1 r.0) (quiet_ranked d 0 h.2 r.1)) (one tt)
    quiet_intrinsic (t.allocated (objects.Local v)) k rank h r = one tt
    quiet_intrinsic (t.allocated (objects.Coarray c)) k rank h r = one tt
    quiet_intrinsic (t.allocated (objects.Constant n)) k rank h r = no_parts
    quiet_intrinsic (t.this_image which) k rank h r = both (quiet_team which h.1 r) (one tt)
    quiet_intrinsic (t.this_cosubscript c d which o) k rank h r = both (quiet_as_written o (view.expression e d) (view.team_of e which) (quiet_ranked d 0 h.1 r.0) (quiet_team which h.2 r.1)) (one tt)
    quiet_intrinsic (t.num_images which) k rank h r = both (quiet_team which h.1 r) (one tt)
    quiet_intrinsic (t.num_images_of_number n) k rank h r = both (quiet_ranked n 0 h.1 r) (one tt)
    quiet_intrinsic (t.image_index c sub which o) k rank h r = both (quiet_beside o (view.expression e sub) (view.team_of e which) (quiet_array sub h.1 r.0) (quiet_team which h.2 r.1)) (one tt)
    quiet_intrinsic (t.image_status i which o) k rank h r = both (quiet_as_written o (view.expression e i) (view.team_of e which) (quiet_ranked i 0 h.1 r.0) (quiet_team which h.2 r.1)) (acts tt (one tt))
    quiet_intrinsic (t.failed_images which) k rank h r = both (quiet_team which h.1 r) (acts tt (one tt))
    quiet_intrinsic (t.stopped_images which) k rank h r = both (quiet_team which h.1 r) (acts tt (one tt))
    quiet_intrinsic (t.number_of_team which) k rank h r = both (quiet_team which h.1 r) (acts tt (one tt))
    quiet_intrinsic (t.get_team t.missing) k rank h r = one tt
    quiet_intrinsic (t.get_team (t.given level)) k rank h r = both (quiet_ranked level 0 h.1 r) (one tt)

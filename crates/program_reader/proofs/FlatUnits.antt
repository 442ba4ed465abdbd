-- The words of a program are those of its parts, one behind the other.
use Rattle.std.proofs.Common.{◌≡◌, ℕ, codes, List, [], ◌∷◌, ◌++◌, Option, Some, None, inl, inr, refl, sym, subst, append-nil}
use Rattle.caf_base.specs.declared.place.Pos.{Pos}
use Rattle.reader_theory.specs.Words.{Mark}
use Rattle.fortran_tree.specs.declared.name.Name.{Name}
use Rattle.fortran_tree.specs.declared.statement.End.{End}
use Rattle.fortran_tree.specs.Statements as s
use Rattle.fortran_tree.specs.Statements.{Declaration, Statements}
use Rattle.fortran_tree.specs.Units as u
use Rattle.fortran_tree.specs.Units.{Use, Body, Heading, Procedure, Program}
use Rattle.fortran_grammar.specs.Tokens.{Token}
use Rattle.fortran_grammar.specs.Phrases as p
use Rattle.fortran_grammar.specs.Phrases.{Phrase, Words, ◌▸◌}
use Rattle.fortran_grammar.specs.ActionGrammar as a
use Rattle.fortran_grammar.specs.StatementGrammar as c
use Rattle.fortran_grammar.specs.ProgramGrammar as h
use Rattle.statement_reader.specs.Parts as f
use Rattle.statement_reader.specs.Parts.{Part, Form}
use Rattle.program_reader.specs.Sequence as q
use Rattle.program_reader.specs.Sequence.{Stage, Scope, Open, stage_forms, scope_forms, statement_forms, staged, unit_of, start, Rest_of_file}
use Rattle.program_reader.specs.Nesting.{statements_parts, use_parts, declaration_parts, implicit_parts, body_parts, end_of, procedure_parts, contained_parts, name_parts, program_parts}
use Rattle.program_reader.proofs.Grouping.{group}
use Rattle.program_reader.proofs.Steps.{In, step, place, runs_stage}
use Rattle.program_reader.proofs.Flat.{Follows, behind_two, flat_statement, flat_statements}

-- A program unit with its stages, each of which allows its statements.
pub record Unit_with (K : Stage → Scope) : Type 0 where
  pub same : (t v : Stage) → staged t (K v) ≡ K t
  pub has : (t : Stage) (i : Form) → In i (stage_forms t) → In i (scope_forms (K t))

pub main_unit : Unit_with q.main_program
main_unit = record { same = λ t v. refl; has = λ t i m. inr (inr m) }

pub subroutine_unit : (at : Pos) → Unit_with (q.in_subroutine at)
subroutine_unit at = record { same = λ t v. refl; has = λ t i m. inr m }

pub function_unit : (at : Pos) → Unit_with (q.in_function at)
function_unit at = record { same = λ t v. refl; has = λ t i m. inr m }

module _ (limit : ℕ) where
  module _ (K : Stage → Scope) (unit : Unit_with K) where
    -- what may stand in a unit at every stage
    abbrev Anytime : List Part → List (Mark Token) → Type 0
    Anytime es v = (t : Stage) → Follows limit (K t) [] es v

    reached : (t v : Stage) (es : List Part) (w : List (Mark Token)) → Follows limit (K t) [] es w → Follows limit (staged t (K v)) [] es w
    reached t v es w r = subst (λ k. Follows limit k [] es w) (sym (unit.same t v)) r

    unit_statements : (b : Statements) (es : List Part) (x v : List (Mark Token)) → Words (c.statements b) limit 0 x → Anytime es v → Anytime (statements_parts b es) (x ++ v)
    unit_statements s.no_statements es x v h r t = subst (λ z. Follows limit (K t) [] es (z ++ v)) (sym h) (r t)
    unit_statements (s.more_statements y more) es x v (i, j, h, o, e) r t =
        behind_two limit (place (K t) []) (statements_parts (s.more_statements y more) es) x i j v e
        (flat_statement limit y (K t) [] (statements_parts more es) i (j ++ v) (λ k m. unit.has t k (runs_stage t k m)) h
        (reached q.in_statements t (statements_parts more es) (j ++ v)
        (flat_statements limit more (K q.in_statements) [] es j v (unit.same q.in_statements q.in_statements) (λ k m. unit.has q.in_statements k m) o (r q.in_statements))))

    unit_declarations : (ds : List Declaration) (es : List Part) (x v : List (Mark Token)) (t : Stage) → In f.declaration_form (stage_forms t) → Words (p.repeated a.declaration ds) limit 0 x → Anytime es v → Follows limit (K t) [] (declaration_parts ds es) (x ++ v)
    unit_declarations [] es x v t m h r = subst (λ z. Follows limit (K t) [] es (z ++ v)) (sym h) (r t)
    unit_declarations (d ∷ ds) es x v t m (i, j, h, o, e) r =
        behind_two limit (place (K t) []) (declaration_parts (d ∷ ds) es) x i j v e
        (step limit f.declaration_form (place (K t) []) (f.declaration_part d) (declaration_parts ds es) i (j ++ v) (unit.has t f.declaration_form m) (refl, h)
        (reached q.in_declarations t (declaration_parts ds es) (j ++ v) (unit_declarations ds es j v q.in_declarations (inl refl) o r)))

    unit_implicit : (o : Option Pos) (es : List Part) (x v : List (Mark Token)) (t : Stage) → In f.implicit_form (stage_forms t) → Words (p.optional h.implicit_none o) limit 0 x → Follows limit (K t) [] es v → Follows limit (K q.in_declarations) [] es v → Follows limit (K t) [] (implicit_parts o es) (x ++ v)
    unit_implicit None es x v t m h r r2 = subst (λ z. Follows limit (K t) [] es (z ++ v)) (sym h) r
    unit_implicit (Some at) es x v t m h r r2 = step limit f.implicit_form (place (K t) []) (f.implicit_part at) es x v (unit.has t f.implicit_form m) (refl, h) (reached q.in_declarations t es v r2)

    pub unit_body : (b : Body) (es : List Part) (x v : List (Mark Token)) (t : Stage) → In f.implicit_form (stage_forms t) → In f.declaration_form (stage_forms t) → Words (h.body b) limit 0 x → Anytime es v → Follows limit (K t) [] (body_parts b es) (x ++ v)
    unit_body b es x v t m n (x1, y1, h1, (x2, y2, h2, h3, e2), e1) r =
        let later : (z : Stage) → In f.declaration_form (stage_forms z) → Follows limit (K z) [] (declaration_parts b.declarations (statements_parts b.statements es)) (y1 ++ v) =
        λ z i. behind_two limit (place (K z) []) (declaration_parts b.declarations (statements_parts b.statements es)) y1 x2 y2 v e2
        (unit_declarations b.declarations (statements_parts b.statements es) x2 (y2 ++ v) z i h2 (unit_statements b.statements es y2 v h3 r)) in
        behind_two limit (place (K t) []) (body_parts b es) x x1 y1 v e1
        (unit_implicit b.implicit_none (declaration_parts b.declarations (statements_parts b.statements es)) x1 (y1 ++ v) t m h1 (later t n) (later q.in_declarations (inl refl)))

  -- procedures behind CONTAINS
  by_heading : (y : Heading) (b : Body) (at : Pos) (end : End) (es : List Part) (w1 y1 w2 y2 v : List (Mark Token)) → Words (p.from at (h.heading y) ▸ p.over) limit 0 w1 → Words (h.body b) limit 0 w2 → Words (p.from end.at (h.end_of_procedure (h.subprogram_keyword y) end.name) ▸ p.over) limit 0 y2 → y1 ≡ w2 ++ y2 → Follows limit q.between [] es v
      → Follows limit q.between [] (f.heading_part y at ∷ body_parts b (end_of y end ∷ es)) (w1 ++ (y1 ++ v))
  by_heading (u.subroutine r n ns) b at end es w1 y1 w2 y2 v head hb hend e k =
      step limit f.subroutine_form (place q.between []) (f.heading_part (u.subroutine r n ns) at) (body_parts b (f.end_subroutine_part end.name end.at ∷ es)) w1 (y1 ++ v) (inr (inl refl)) (refl, head)
      (behind_two limit (place (q.in_subroutine at q.opening) []) (body_parts b (f.end_subroutine_part end.name end.at ∷ es)) y1 w2 y2 v e
      (unit_body (q.in_subroutine at) (subroutine_unit at) b (f.end_subroutine_part end.name end.at ∷ es) w2 (y2 ++ v) q.opening (inl refl) (inr (inl refl)) hb
      (λ t. step limit f.end_subroutine_form (place (q.in_subroutine at t) []) (f.end_subroutine_part end.name end.at) es y2 v (inl refl) (refl, hend) k)))
  by_heading (u.function ps n ns r) b at end es w1 y1 w2 y2 v head hb hend e k =
      step limit f.function_form (place q.between []) (f.heading_part (u.function ps n ns r) at) (body_parts b (f.end_function_part end.name end.at ∷ es)) w1 (y1 ++ v) (inr (inr (inl refl))) (refl, head)
      (behind_two limit (place (q.in_function at q.opening) []) (body_parts b (f.end_function_part end.name end.at ∷ es)) y1 w2 y2 v e
      (unit_body (q.in_function at) (function_unit at) b (f.end_function_part end.name end.at ∷ es) w2 (y2 ++ v) q.opening (inl refl) (inr (inl refl)) hb
      (λ t. step limit f.end_function_form (place (q.in_function at t) []) (f.end_function_part end.name end.at) es y2 v (inl refl) (refl, hend) k)))

  procedures : (xs : List Procedure) (es : List Part) (w v : List (Mark Token)) → Words (p.repeated h.internal_subprogram xs) limit 0 w → Follows limit q.between [] es v → Follows limit q.between [] (procedure_parts xs es) (w ++ v)
  procedures [] es w v k r = subst (λ z. Follows limit q.between [] es (z ++ v)) (sym k) r
  procedures (x ∷ xs) es w v (i, j, k, o, e) r =
      let (w1, y1, head, (w2, y2, hb, hend, e2), e1) = group (p.from x.at (h.heading x.heading) ∷ []) p.over (h.body x.body ▸ p.from x.end.at (h.end_of_procedure (h.subprogram_keyword x.heading) x.end.name) ▸ p.over) limit 0 i k in
      behind_two limit (place q.between []) (procedure_parts (x ∷ xs) es) w i j v e
      (behind_two limit (place q.between []) (procedure_parts (x ∷ xs) es) i w1 y1 (j ++ v) e1
      (by_heading x.heading x.body x.at x.end (procedure_parts xs es) w1 y1 w2 y2 (j ++ v) head hb hend e2 (procedures xs es j v o r)))

  contained : (o : Option (List Procedure)) (es : List Part) (w v : List (Mark Token)) → Words (p.optional h.contained o) limit 0 w → ((t : Stage) → Follows limit (q.main_program t) [] es v) → Follows limit q.between [] es v → (t : Stage) → Follows limit (q.main_program t) [] (contained_parts o es) (w ++ v)
  contained None es w v k r r2 t = subst (λ z. Follows limit (q.main_program t) [] es (z ++ v)) (sym k) (r t)
  contained (Some xs) es w v k r r2 t =
      let (i, j, head, o, e) = group (p.key (codes "contains") ∷ []) p.over (p.repeated h.internal_subprogram xs) limit 0 w k in
      behind_two limit (place (q.main_program t) []) (contained_parts (Some xs) es) w i j v e
      (step limit f.contains_form (place (q.main_program t) []) f.contains_part (procedure_parts xs es) i (j ++ v) (inr (inl refl)) (refl, head) (procedures xs es j v o r2))

  -- USE, and the program's name
  uses : (xs : List Use) (es : List Part) (w v : List (Mark Token)) (t : Stage) → In f.use_form (stage_forms t) → Words (p.repeated h.use_statement xs) limit 0 w → Follows limit (q.main_program t) [] es v → Follows limit (q.main_program q.in_uses) [] es v → Follows limit (q.main_program t) [] (use_parts xs es) (w ++ v)
  uses [] es w v t m k r r2 = subst (λ z. Follows limit (q.main_program t) [] es (z ++ v)) (sym k) r
  uses (x ∷ xs) es w v t m (i, j, k, o, e) r r2 =
      behind_two limit (place (q.main_program t) []) (use_parts (x ∷ xs) es) w i j v e
      (step limit f.use_form (place (q.main_program t) []) (f.use_part x) (use_parts xs es) i (j ++ v) (inr (inr m)) (refl, k) (uses xs es j v q.in_uses (inl refl) o r2 r2))

  named : (n : Option Name) (es : List Part) (w v : List (Mark Token)) → Words (p.optional h.program_statement n) limit 0 w → Follows limit (q.main_program q.starting) [] es v → Follows limit (q.main_program q.in_uses) [] es v → Follows limit (q.main_program q.starting) [] (name_parts n es) (w ++ v)
  named None es w v k r r2 = subst (λ z. Follows limit (q.main_program q.starting) [] es (z ++ v)) (sym k) r
  named (Some n) es w v k r r2 = step limit f.program_form (place (q.main_program q.starting) []) (f.program_part n) es w v (inr (inr (inl refl))) (refl, k) r2

  -- a program's words are a file of its parts
  pub flat_program : (x : Program) (w : List (Mark Token)) → Words (h.program x) limit 0 w → Rest_of_file limit start (program_parts x) w
  flat_program x w (w1, y1, k1, (w2, y2, k2, (w3, y3, k3, (w4, y4, k4, k5, e4), e3), e2), e1) =
      let tail : List Part = f.end_program_part x.end.name x.end.at ∷ [] in
      let ended : (k : Scope) → In f.end_program_form (scope_forms k) → Follows limit k [] tail (y4 ++ []) =
      λ k m. step limit f.end_program_form (place k []) (f.end_program_part x.end.name x.end.at) [] y4 [] m (refl, k5) (refl, refl) in
      let closing : (t : Stage) → Follows limit (q.main_program t) [] (contained_parts x.procedures tail) (y3 ++ []) =
      λ t. behind_two limit (place (q.main_program t) []) (contained_parts x.procedures tail) y3 w4 y4 [] e4 (contained x.procedures tail w4 (y4 ++ []) k4 (λ z. ended (q.main_program z) (inl refl)) (ended q.between (inl refl)) t) in
      let bodied : (t : Stage) → In f.implicit_form (stage_forms t) → In f.declaration_form (stage_forms t) → Follows limit (q.main_program t) [] (body_parts x.body (contained_parts x.procedures tail)) (y2 ++ []) =
      λ t m n. behind_two limit (place (q.main_program t) []) (body_parts x.body (contained_parts x.procedures tail)) y2 w3 y3 [] e3
      (unit_body q.main_program main_unit x.body (contained_parts x.procedures tail) w3 (y3 ++ []) t m n k3 closing) in
      let used : (t : Stage) → In f.use_form (stage_forms t) → In f.implicit_form (stage_forms t) → In f.declaration_form (stage_forms t) → Follows limit (q.main_program t) [] (use_parts x.uses (body_parts x.body (contained_parts x.procedures tail))) (y1 ++ []) =
      λ t l m n. behind_two limit (place (q.main_program t) []) (use_parts x.uses (body_parts x.body (contained_parts x.procedures tail))) y1 w2 y2 [] e2
      (uses x.uses (body_parts x.body (contained_parts x.procedures tail)) w2 (y2 ++ []) t l k2 (bodied t m n) (bodied q.in_uses (inr (inl refl)) (inr (inr (inl refl))))) in
      subst (Rest_of_file limit start (program_parts x)) (append-nil w)
      (behind_two limit start (program_parts x) w w1 y1 [] e1
      (named x.name (use_parts x.uses (body_parts x.body (contained_parts x.procedures tail))) w1 (y1 ++ []) k1
      (used q.starting (inr (inl refl)) (inr (inr (inl refl))) (inr (inr (inr (inl refl)))))
      (used q.in_uses (inl refl) (inr (inl refl)) (inr (inr (inl refl))))))

-- The code of a whole program.
use mathlib.Core.Path.{fun_ext}
use Rattle.std.proofs.Common.{◌≡◌, ℕ, zero, suc, ◌+◌, ◌<◌, ◌≤◌, List, [], ◌∷◌, ◌++◌, drop, length, subst, refl, ap, ap₂, sym, ◌∙◌, arith, length-append, append_assoc}
use Rattle.std.proofs.Math.ListN.{drop_of_length-le}
use Rattle.std.proofs.lemmas.Result.{IfOk-weaker}
use Rattle.std.specs.Prelude.{false, slice_index_or, map, Result, IfOk}
use Rattle.walk_theory.specs.Syntax.{Steps}
use Rattle.walk_theory.specs.Code.{Line, on, does_act, count_one, call, go_back}
use Rattle.walk_theory.specs.Made.{steps_size, steps_code, start_of, bodies_code, program_code}
use Rattle.walk_theory.proofs.Places.{steps_long}
use Rattle.checked_tree.specs.StatementViews as view
use Rattle.checked_tree.specs.Statements as s
use Rattle.checked_tree.specs.declared.program.Procedure.{Procedure as ProcedureType}
use Rattle.checked_tree.specs.declared.program.Unit.{Unit as UnitType}
use Rattle.checked_tree.specs.declared.statement.TypedStatement.{TypedStatement}
use Rattle.image_acts.specs.Acts.{Act, Scope, host}
use Rattle.image_code.specs.Code.{Program, Whole, code_of}
use Rattle.image_code.specs.declared.tables.Tables.{Tables}
use Rattle.tree_meaning.specs.Forms.{environment_of, procedure_bodies, steps}
use Rattle.expr_code.specs.Drafts.{kept, Drafted, lines_in, body_with, body_with_lines, starts_of, with_line}
use Rattle.code_maker.specs.Blocks.{steps_written}
use Rattle.code_maker.specs.Programs.{starts_from, end_from, procedure_written, procedures_written, beginning_written, program_written, HasLiterals}
use Rattle.code_maker.proofs.Blocks.{steps_made}
use Rattle.code_maker.proofs.Sizes.{item_drop}
use Rattle.code_maker.proofs.Texts.{literals_line, literals_steps}

-- they are where walk_theory says
pub started : (p : ℕ) (bs : List (Steps Act)) (k : ℕ) → slice_index_or (starts_from p bs) k (end_from p bs) ≡ start_of p bs k
started p [] k = refl
started p (b ∷ bs) zero = refl
started p (b ∷ bs) (suc k) = started (p + steps_size b + 1) bs k

-- what stands in a draft that keeps its lines, with others behind it
kept_steps : (is : List (Line Act)) (b : Steps Act) (d : Drafted) (p : ℕ) → d.body ≡ kept is → length is ≡ p → (steps_written [] b d).body ≡ kept (is ++ steps_code (starts_of d) [] p b)
kept_steps is b d p h n =
    let e : lines_in d.body ≡ p = ap lines_in h ∙ n in
    ap (λ (x : Drafted). x.body) (steps_made [] b d p e) ∙ ap (λ x. body_with_lines (steps_code (starts_of d) [] p b) x) h

steps_starts : (b : Steps Act) (d : Drafted) → starts_of (steps_written [] b d) ≡ starts_of d
steps_starts b d = ap (λ (x : Drafted). starts_of x) (steps_made [] b d (lines_in d.body) refl)

kept_line : (is : List (Line Act)) (i : Line Act) (d : Drafted) → d.body ≡ kept is → (with_line i d).body ≡ kept (is ++ i ∷ [])
kept_line is i d h = ap (λ x. body_with i x) h

-- procedures, and the last step back
procedures_made : (l : ℕ) (bs : List (Steps Act)) (d : Drafted) (p : ℕ) (is : List (Line Act)) → d.body ≡ kept is → length is ≡ p
    → (with_line (on l go_back) (procedures_written l bs d)).body ≡ kept (is ++ bodies_code (starts_of d) l p bs)
procedures_made l [] d p is h n = kept_line is (on l go_back) d h
procedures_made l (b ∷ bs) d p is h n =
    let s = starts_of d in
    let code = steps_code s [] p b in
    let i : Line Act = on l go_back in
    let d1 : Drafted = procedure_written l b d in
    let js : List (Line Act) = (is ++ code) ++ i ∷ [] in
    let h1 : d1.body ≡ kept js = kept_line (is ++ code) i (steps_written [] b d) (kept_steps is b d p h n) in
    let c1 = length-append (is ++ code) (i ∷ []) in
    let c2 = length-append is code in
    let c3 = steps_long s [] p b in
    let n1 : length js ≡ p + steps_size b + 1 = omega arith in
    let more = bodies_code s l (p + steps_size b + 1) bs in
    procedures_made l bs d1 (p + steps_size b + 1) js h1 n1
    ∙ ap (λ f. kept (js ++ bodies_code f l (p + steps_size b + 1) bs)) (steps_starts b d)
    ∙ ap (λ x. kept x) (append_assoc (is ++ code) (i ∷ []) more ∙ append_assoc is code (i ∷ more))

-- an empty draft that knows where these procedures begin gets the code of the program
pub program_made : (last : Act) (l : ℕ) (bs : List (Steps Act)) (d : Drafted) → d.body ≡ kept [] → d.starts ≡ starts_from 4 bs → d.end ≡ end_from 4 bs
    → (program_written last l bs d).body ≡ kept (program_code last l bs)
program_made last l bs d h e f =
    let s : starts_of d ≡ start_of 4 bs = fun_ext (λ k. ap₂ (λ xs n. slice_index_or xs k n) e f ∙ started 4 bs k) in
    let i : Line Act = on l (call (starts_of d 0)) in
    let c : Line Act = on l count_one in
    let a : Line Act = on l (does_act last) in
    let b : Line Act = on l go_back in
    let first : List (Line Act) = i ∷ (c ∷ (a ∷ (b ∷ []))) in
    let g : (beginning_written last l d).body ≡ kept first = ap (λ x. body_with b (body_with a (body_with c (body_with i x)))) h in
    procedures_made l bs (beginning_written last l d) 4 first g refl
    ∙ ap (λ (x : ℕ → ℕ). kept (on l (call (x 0)) ∷ (c ∷ (a ∷ (b ∷ bodies_code x l 4 bs))))) s

-- what is left of the procedures
pub bodies_left : (p : s.Program) (qs : List ProcedureType) (i : ℕ) (q : ProcedureType) → q ≡ slice_index_or qs i q → i < length qs
    → procedure_bodies p (map view.procedure (drop i qs)) ≡ steps (environment_of p host (view.unit q.unit)) (view.unit q.unit).statements ∷ procedure_bodies p (map view.procedure (drop (i + 1) qs))
bodies_left p qs i q is lt = ap (λ ys. procedure_bodies p (map view.procedure ys)) (item_drop qs i q is lt)

pub none_left : (p : s.Program) (qs : List ProcedureType) (i : ℕ) → length qs ≤ i → procedure_bodies p (map view.procedure (drop i qs)) ≡ []
none_left p qs i lt = ap (λ ys. procedure_bodies p (map view.procedure ys)) (drop_of_length-le qs lt)

-- the place of one procedure more, and its end
pub place_added : (p : s.Program) (qs : List ProcedureType) (i : ℕ) (q : ProcedureType) (places more all : List ℕ) (at next : ℕ) → q ≡ slice_index_or qs i q → i < length qs
    → next ≡ at + steps_size (steps (environment_of p host (view.unit q.unit)) (view.unit q.unit).statements) + 1 → more ≡ places ++ at ∷ []
    → places ++ starts_from at (procedure_bodies p (map view.procedure (drop i qs))) ≡ all → more ++ starts_from next (procedure_bodies p (map view.procedure (drop (i + 1) qs))) ≡ all
place_added p qs i q places more all at next is lt e f h =
    let b : Steps Act = steps (environment_of p host (view.unit q.unit)) (view.unit q.unit).statements in
    let bs : List (Steps Act) = procedure_bodies p (map view.procedure (drop (i + 1) qs)) in
    ap₂ (λ xs n. xs ++ starts_from n bs) f e ∙ append_assoc places (at ∷ []) (starts_from (at + steps_size b + 1) bs)
    ∙ sym (ap (λ xs. places ++ starts_from at xs) (bodies_left p qs i q is lt)) ∙ h

pub end_moved : (p : s.Program) (qs : List ProcedureType) (i : ℕ) (q : ProcedureType) (at next all : ℕ) → q ≡ slice_index_or qs i q → i < length qs
    → next ≡ at + steps_size (steps (environment_of p host (view.unit q.unit)) (view.unit q.unit).statements) + 1
    → end_from at (procedure_bodies p (map view.procedure (drop i qs))) ≡ all → end_from next (procedure_bodies p (map view.procedure (drop (i + 1) qs))) ≡ all
end_moved p qs i q at next all is lt e h =
    ap (λ n. end_from n (procedure_bodies p (map view.procedure (drop (i + 1) qs)))) e ∙ sym (ap (λ xs. end_from at xs) (bodies_left p qs i q is lt)) ∙ h

-- one procedure more is written
pub procedure_added : (p : s.Program) (l : ℕ) (qs : List ProcedureType) (i : ℕ) (q : ProcedureType) (d e w : Drafted) → q ≡ slice_index_or qs i q → i < length qs
    → e ≡ procedure_written l (steps (environment_of p host (view.unit q.unit)) (view.unit q.unit).statements) d
    → procedures_written l (procedure_bodies p (map view.procedure (drop i qs))) d ≡ w → procedures_written l (procedure_bodies p (map view.procedure (drop (i + 1) qs))) e ≡ w
procedure_added p l qs i q d e w is lt f h =
    ap (λ y. procedures_written l (procedure_bodies p (map view.procedure (drop (i + 1) qs))) y) f ∙ sym (ap (λ xs. procedures_written l xs d) (bodies_left p qs i q is lt)) ∙ h

-- the code of a unit, in the environment in memory
equal_ok : {E : Type 0} (r : Result ℕ E) (a b : ℕ) → a ≡ b → IfOk r (λ n. n ≡ a) → IfOk r (λ n. n ≡ b)
equal_ok r a b e k = IfOk-weaker r (λ n. n ≡ a) (λ n. n ≡ b) (λ n q. q ∙ e) k

pub unit_sized : {E : Type 0} (r : Result ℕ E) (p : s.Program) (main : Scope) (u : UnitType) (h : ℕ) (ss : List TypedStatement) → h ≡ length u.variables.items → ss ≡ u.statements.items
    → IfOk r (λ n. n ≡ steps_size (steps (record { program = p; main = main; hidden = h }) (view.statements ss)))
    → IfOk r (λ n. n ≡ steps_size (steps (environment_of p main (view.unit u)) (view.statements u.statements.items)))
unit_sized r p main u h ss e f k =
    equal_ok r (steps_size (steps (record { program = p; main = main; hidden = h }) (view.statements ss))) (steps_size (steps (environment_of p main (view.unit u)) (view.statements u.statements.items)))
    (ap₂ (λ x ys. steps_size (steps (record { program = p; main = main; hidden = x }) (view.statements ys))) e f) k

pub unit_written : (l : ℕ) (p : s.Program) (main : Scope) (u : UnitType) (h : ℕ) (ss : List TypedStatement) (d e x : Drafted) → h ≡ length u.variables.items → ss ≡ u.statements.items
    → e ≡ steps_written [] (steps (record { program = p; main = main; hidden = h }) (view.statements ss)) d → x ≡ with_line (on l go_back) e
    → x ≡ procedure_written l (steps (environment_of p main (view.unit u)) (view.statements u.statements.items)) d
unit_written l p main u h ss d e x f g k m =
    m ∙ ap (λ y. with_line (on l go_back) y) (k ∙ ap₂ (λ n ys. steps_written [] (steps (record { program = p; main = main; hidden = n }) (view.statements ys)) d) f g)

pub literals_behind_procedure : (ls : List (List ℕ)) (l : ℕ) (b : Steps Act) (d x : Drafted) → x ≡ procedure_written l b d → HasLiterals ls d → HasLiterals ls x
literals_behind_procedure ls l b d x g h =
    subst (λ (y : Drafted). HasLiterals ls y) (sym g) (literals_line ls (on l go_back) (steps_written [] b d) (literals_steps ls [] b d h))

pub literals_behind_beginning : (ls : List (List ℕ)) (last : Act) (l : ℕ) (d x : Drafted) → x ≡ beginning_written last l d → HasLiterals ls d → HasLiterals ls x
literals_behind_beginning ls last l d x g h =
    subst (λ (y : Drafted). HasLiterals ls y) (sym g)
    (literals_line ls (on l go_back) (with_line (on l (does_act last)) (with_line (on l count_one) (with_line (on l (call (starts_of d 0))) d)))
    (literals_line ls (on l (does_act last)) (with_line (on l count_one) (with_line (on l (call (starts_of d 0))) d))
    (literals_line ls (on l count_one) (with_line (on l (call (starts_of d 0))) d) (literals_line ls (on l (call (starts_of d 0))) d h))))

-- the tables stay
procedures_tables : (l : ℕ) (bs : List (Steps Act)) (d : Drafted) → (procedures_written l bs d).tables ≡ d.tables
procedures_tables l [] d = refl
procedures_tables l (b ∷ bs) d = procedures_tables l bs (procedure_written l b d) ∙ ap (λ (x : Drafted). x.tables) (steps_made [] b d (lines_in d.body) refl)

-- the code of a draft that was empty but for its tables, and code that was finished from it
pub code_drafted : (q : Program) (d e : Drafted) (last : Act) (l : ℕ) (bs : List (Steps Act)) (xs : List ℕ) (n : ℕ) (t : Tables)
    → d ≡ record { starts = xs; end = n; tables = t; body = kept []; took = false } → xs ≡ starts_from 4 bs → n ≡ end_from 4 bs → e ≡ program_written last l bs d
    → ((is : List (Line Act)) → e.body ≡ kept is → code_of q ≡ is) → code_of q ≡ program_code last l bs
code_drafted q d e last l bs xs n t h i j k m =
    m (program_code last l bs)
    (ap (λ (x : Drafted). x.body) k ∙ program_made last l bs d (ap (λ (x : Drafted). x.body) h) (ap (λ (x : Drafted). x.starts) h ∙ i) (ap (λ (x : Drafted). x.end) h ∙ j))

pub code_is : {E : Type 0} (r : Result Whole E) (q : Program) (last : Act) (l : ℕ) (bs : List (Steps Act)) → code_of q ≡ program_code last l bs → IfOk r (λ w. w.program ≡ q)
    → IfOk r (λ w. code_of w.program ≡ program_code last l bs)
code_is r q last l bs e o = IfOk-weaker r (λ w. w.program ≡ q) (λ w. code_of w.program ≡ program_code last l bs) (λ w f. ap code_of f ∙ e) o

pub tables_are : {E : Type 0} (r : Result Whole E) (q : Program) (d e : Drafted) (last : Act) (l : ℕ) (bs : List (Steps Act)) (xs : List ℕ) (n : ℕ) (t : Tables)
    → d ≡ record { starts = xs; end = n; tables = t; body = kept []; took = false } → e ≡ program_written last l bs d → q.tables ≡ e.tables
    → IfOk r (λ w. w.program ≡ q) → IfOk r (λ w. w.program.tables ≡ t)
tables_are r q d e last l bs xs n t h k m o =
    let b : q.tables ≡ t = m ∙ ap (λ (x : Drafted). x.tables) k ∙ procedures_tables l bs (beginning_written last l d) ∙ ap (λ (x : Drafted). x.tables) h in
    IfOk-weaker r (λ w. w.program ≡ q) (λ w. w.program.tables ≡ t) (λ w f. ap (λ (x : Program). x.tables) f ∙ b) o

pub ruleset literals = (literals_behind_procedure, literals_behind_beginning)

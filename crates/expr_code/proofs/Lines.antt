-- Lines of code, one more and so many more.
use Rattle.std.proofs.Common.{◌≡◌, ◌≢◌, ℕ, suc, ◌+◌, List, [], ◌∷◌, ◌++◌, length, refl, ap, ap₂, sym, ◌∙◌, arith, length-append, append_assoc, append-nil}
use Rattle.std.specs.Prelude.{Bool, true, false, cond, ◌||◌}
use Rattle.std.specs.List.{list_any}
use Rattle.std.proofs.Math.Bool.{or_assoc}
use Rattle.walk_theory.specs.Syntax.{Parts, end_parts, value, act, enter, either}
use Rattle.walk_theory.specs.Code.{Line, on, does_act, call, skip, skip_unless}
use Rattle.walk_theory.specs.Made.{parts_size, parts_code}
use Rattle.image_acts.specs.Acts.{Act, stack, release}
use Rattle.tree_meaning.specs.Sequences.{is_taking, takes, released}
use Rattle.image_code.specs.declared.step.Step.{Step}
use Rattle.image_code.specs.declared.step.Step.TheVariants as steps
use Rattle.image_code.specs.Table.{instr_of, lines_of}
use Rattle.expr_code.specs.Drafts.{Body, counted, kept, Drafted, lines_in, body_with, body_with_lines, instr_takes, line_takes, with_line, with_lines, starts_of, written, looked, ended}

-- one step more, with its line
pub line_pushed : (ts : List (List ℕ)) (ss : List Step) (ls : List ℕ) (s : Step) (l : ℕ) → length ss ≡ length ls → lines_of ts (ss ++ s ∷ []) (ls ++ l ∷ []) ≡ lines_of ts ss ls ++ on l (instr_of ts s) ∷ []
line_pushed ts [] [] s l e = refl
line_pushed ts [] (k ∷ ls) s l e = cc
line_pushed ts (x ∷ ss) [] s l e = cc
line_pushed ts (x ∷ ss) (k ∷ ls) s l e = ap (λ is. on k (instr_of ts x) ∷ is) (line_pushed ts ss ls s l (omega arith))

-- as many lines as steps
pub lines_long : (ts : List (List ℕ)) (ss : List Step) (ls : List ℕ) → length (lines_of ts ss ls) ≡ length ss
lines_long ts [] ls = refl
lines_long ts (s ∷ ss) [] = ap suc (lines_long ts ss [])
lines_long ts (s ∷ ss) (l ∷ ls) = ap suc (lines_long ts ss ls)

pub body_nothing : (b : Body) → b ≡ body_with_lines [] b
body_nothing (counted n) = ap (λ k. counted k) (let e : n ≡ n + 0 = omega arith in e)
body_nothing (kept is) = ap (λ js. kept js) (sym (append-nil is))

pub body_first : (i : Line Act) (is : List (Line Act)) (b : Body) → body_with_lines is (body_with i b) ≡ body_with_lines (i ∷ is) b
body_first i is (counted n) = ap (λ k. counted k) (let e : n + 1 + length is ≡ n + suc (length is) = omega arith in e)
body_first i is (kept js) = ap (λ ks. kept ks) (append_assoc js (i ∷ []) is)

pub body_twice : (is js : List (Line Act)) (b : Body) → body_with_lines js (body_with_lines is b) ≡ body_with_lines (is ++ js) b
body_twice is js (counted n) = ap (λ k. counted k) (let c = length-append is js in let e : n + length is + length js ≡ n + length (is ++ js) = omega arith in e)
body_twice is js (kept ks) = ap (λ x. kept x) (append_assoc ks is js)

-- which of the steps take cells: four of them
pub few_take : (ts : List (List ℕ)) (s : Step) → s ≢ steps.TakeCell → s ≢ steps.TakeCells → s ≢ steps.PrintNumber → s ≢ steps.PrintTruth → instr_takes (instr_of ts s) ≡ false
few_take ts steps.TakeCell h i j k = absurd (h refl)
few_take ts steps.TakeCells h i j k = absurd (i refl)
few_take ts steps.PrintNumber h i j k = absurd (j refl)
few_take ts steps.PrintTruth h i j k = absurd (k refl)
few_take ts s h i j k = refl

-- whether cells were taken: by the first, the others, or before
taken_first : (x y z : Bool) → (y || (x || z)) ≡ ((x || y) || z)
taken_first true true z = refl
taken_first true false z = refl
taken_first false y z = refl

taken_twice : (is js : List (Line Act)) → list_any line_takes (is ++ js) ≡ (list_any line_takes is || list_any line_takes js)
taken_twice [] js = refl
taken_twice (i ∷ is) js = ap (λ x. line_takes i || x) (taken_twice is js) ∙ sym (or_assoc (line_takes i) (list_any line_takes is) (list_any line_takes js))

first : (i : Line Act) (is : List (Line Act)) (d : Drafted) → with_lines is (with_line i d) ≡ with_lines (i ∷ is) d
first i is d = ap₂ (λ (b : Body) (t : Bool). record d { body = b; took = t }) (body_first i is d.body) (taken_first (line_takes i) (list_any line_takes is) d.took)

twice : (is js : List (Line Act)) (d : Drafted) → with_lines js (with_lines is d) ≡ with_lines (is ++ js) d
twice is js d =
    ap₂ (λ (b : Body) (t : Bool). record d { body = b; took = t }) (body_twice is js d.body)
    (taken_first (list_any line_takes is) (list_any line_takes js) d.took ∙ ap (λ x. x || d.took) (sym (taken_twice is js)))

-- what is written of parts is their code
pub written_code : (l : ℕ) (p : Parts Act) (d : Drafted) → written l p d ≡ with_lines (parts_code (starts_of d) l p) d
written_code l end_parts d = ap (λ (b : Body). record d { body = b }) (body_nothing d.body)
written_code l (value p q) d = ap (λ x. written l q x) (written_code l p d) ∙ written_code l q (with_lines (parts_code (starts_of d) l p) d) ∙ twice (parts_code (starts_of d) l p) (parts_code (starts_of d) l q) d
written_code l (act a q) d = written_code l q (with_line (on l (does_act a)) d) ∙ first (on l (does_act a)) (parts_code (starts_of d) l q) d
written_code l (enter k q) d = written_code l q (with_line (on l (call (starts_of d k))) d) ∙ first (on l (call (starts_of d k))) (parts_code (starts_of d) l q) d
written_code l (either p q r) d =
    let s = starts_of d in
    let i = on l (skip_unless (parts_size p + 1)) in
    let j = on l (skip (parts_size q)) in
    ap (λ x. written l r (written l q (with_line j x))) (written_code l p (with_line i d) ∙ first i (parts_code s l p) d)
    ∙ ap (λ x. written l r x) (written_code l q (with_line j (with_lines (i ∷ parts_code s l p) d)) ∙ first j (parts_code s l q) (with_lines (i ∷ parts_code s l p) d) ∙ twice (i ∷ parts_code s l p) (j ∷ parts_code s l q) d)
    ∙ written_code l r (with_lines ((i ∷ parts_code s l p) ++ (j ∷ parts_code s l q)) d)
    ∙ twice ((i ∷ parts_code s l p) ++ (j ∷ parts_code s l q)) (parts_code s l r) d
    ∙ ap (λ x. with_lines x d) (append_assoc (i ∷ parts_code s l p) (j ∷ parts_code s l q) (parts_code s l r))

-- one line more
line_counted : (i : Line Act) (b : Body) → lines_in (body_with i b) ≡ lines_in b + 1
line_counted i (counted n) = refl
line_counted i (kept is) = let c = length-append is (i ∷ []) in omega arith

-- a draft is longer by the size of what was written
pub written_long : (l : ℕ) (p : Parts Act) (d : Drafted) → lines_in (written l p d).body ≡ lines_in d.body + parts_size p
written_long l end_parts d = omega arith
written_long l (value p q) d =
    let f = written_long l p d in
    let g = written_long l q (written l p d) in
    omega arith
written_long l (act a q) d =
    let f = line_counted (on l (does_act a)) d.body in
    let g = written_long l q (with_line (on l (does_act a)) d) in
    omega arith
written_long l (enter k q) d =
    let f = line_counted (on l (call (starts_of d k))) d.body in
    let g = written_long l q (with_line (on l (call (starts_of d k))) d) in
    omega arith
written_long l (either p q r) d =
    let i = on l (skip_unless (parts_size p + 1)) in
    let j = on l (skip (parts_size q)) in
    let f = line_counted i d.body in
    let g = written_long l p (with_line i d) in
    let h = line_counted j (written l p (with_line i d)).body in
    let k = written_long l q (with_line j (written l p (with_line i d))) in
    let m = written_long l r (written l q (with_line j (written l p (with_line i d)))) in
    omega arith

-- parts take cells where their code does
taken_code : (s : ℕ → ℕ) (l : ℕ) (p : Parts Act) → list_any line_takes (parts_code s l p) ≡ takes p
taken_code s l end_parts = refl
taken_code s l (value p q) = taken_twice (parts_code s l p) (parts_code s l q) ∙ ap₂ (λ x y. x || y) (taken_code s l p) (taken_code s l q)
taken_code s l (act a q) = ap (λ x. is_taking a || x) (taken_code s l q)
taken_code s l (enter k q) = taken_code s l q
taken_code s l (either p q r) =
    taken_twice (parts_code s l p) (on l (skip (parts_size q)) ∷ (parts_code s l q ++ parts_code s l r))
    ∙ ap₂ (λ x y. x || y) (taken_code s l p) (taken_twice (parts_code s l q) (parts_code s l r) ∙ ap₂ (λ x y. x || y) (taken_code s l q) (taken_code s l r))

-- what is written of parts says whether they take cells
pub written_taken : (l : ℕ) (p : Parts Act) (d : Drafted) → (written l p d).took ≡ (takes p || d.took)
written_taken l p d = ap (λ (x : Drafted). x.took) (written_code l p d) ∙ ap (λ x. x || d.took) (taken_code (starts_of d) l p)

written_either : (b : Bool) (l : ℕ) (p q : Parts Act) (d : Drafted) → cond b (written l p d) (written l q d) ≡ written l (cond b p q) d
written_either true l p q d = refl
written_either false l p q d = refl

lines_ended : (t : Bool) (l : ℕ) (b : Body) (d : Drafted) →
    let x : Drafted = record d { body = b; took = t || d.took } in
    ended l d.took (record d { body = b; took = t || false }) ≡ cond t (with_line (on l (does_act (stack release))) x) x
lines_ended true l b d = refl
lines_ended false l b d = refl

-- a statement whose cells are free again behind it
pub released_written : (l : ℕ) (p : Parts Act) (d : Drafted) → ended l d.took (written l p (looked d)) ≡ written l (released p) d
released_written l p d =
    let code = parts_code (starts_of d) l p in
    let b = body_with_lines code d.body in
    let last = on l (does_act (stack release)) in
    ap (λ x. ended l d.took x) (written_code l p (looked d))
    ∙ lines_ended (list_any line_takes code) l b d
    ∙ ap₂ (λ t x. cond t (with_line last x) x) (taken_code (starts_of d) l p) (sym (written_code l p d))
    ∙ written_either (takes p) l (value p (act (stack release) end_parts)) p d

-- what stands beside the code stays
pub written_tables : (l : ℕ) (p : Parts Act) (d : Drafted) → (written l p d).tables ≡ d.tables
written_tables l p d = ap (λ (x : Drafted). x.tables) (written_code l p d)

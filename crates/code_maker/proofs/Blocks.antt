-- What is written of a block is its code.
use Rattle.std.proofs.Common.{◌≡◌, ℕ, ◌+◌, List, [], ◌∷◌, ◌++◌, length, refl, ap, ap₂, sym, ◌∙◌, arith, length-append}
use Rattle.std.specs.Prelude.{Bool, true, false, ◌||◌}
use Rattle.std.specs.List.{list_any}
use Rattle.std.proofs.Math.Bool.{or_assoc}
use Rattle.walk_theory.specs.Syntax.{Form, simple, choose, loop, around, exit, cycle, return, Branches, otherwise, branch, Steps, stop, also}
use Rattle.walk_theory.specs.Code.{Line, on, count_one, jump, jump_if, jump_unless, go_back}
use Rattle.walk_theory.specs.Made.{parts_size, steps_size, form_size, branches_size, Places, places, exit_instr, cycle_instr, parts_code, steps_code, form_code, branches_code}
use Rattle.walk_theory.proofs.Places.{parts_long, steps_long, form_long}
use Rattle.image_acts.specs.Acts.{Act}
use Rattle.expr_code.specs.Drafts.{Body, counted, kept, Drafted, lines_in, body_with, body_with_lines, line_takes, with_line, with_lines, starts_of, written}
use Rattle.expr_code.proofs.Lines.{body_nothing, body_first, body_twice, written_code, written_long}
use Rattle.code_maker.specs.Blocks.{places_at, steps_written, form_written, branches_written}

-- lines, none and one and then others: and whether one of them takes evaluation cells
took_first : (x y z : Bool) → (y || (x || z)) ≡ ((x || y) || z)
took_first true true z = refl
took_first true false z = refl
took_first false y z = refl

took_twice : (is js : List (Line Act)) → list_any line_takes (is ++ js) ≡ (list_any line_takes is || list_any line_takes js)
took_twice [] js = refl
took_twice (i ∷ is) js = ap (λ x. line_takes i || x) (took_twice is js) ∙ sym (or_assoc (line_takes i) (list_any line_takes is) (list_any line_takes js))

nothing_more : (d : Drafted) → d ≡ with_lines [] d
nothing_more d = ap (λ (b : Body). record d { body = b }) (body_nothing d.body)

first : (i : Line Act) (is : List (Line Act)) (d : Drafted) → with_lines is (with_line i d) ≡ with_lines (i ∷ is) d
first i is d = ap₂ (λ (b : Body) (t : Bool). record d { body = b; took = t }) (body_first i is d.body) (took_first (line_takes i) (list_any line_takes is) d.took)

twice : (is js : List (Line Act)) (d : Drafted) → with_lines js (with_lines is d) ≡ with_lines (is ++ js) d
twice is js d =
    ap₂ (λ (b : Body) (t : Bool). record d { body = b; took = t }) (body_twice is js d.body)
    (took_first (list_any line_takes is) (list_any line_takes js) d.took ∙ ap (λ x. x || d.took) (sym (took_twice is js)))

one_more : (i : Line Act) (d : Drafted) → with_line i d ≡ with_lines (i ∷ []) d
one_more i d = nothing_more (with_line i d) ∙ first i [] d

-- how many there are then
pub long_with : (i : Line Act) (b : Body) → lines_in (body_with i b) ≡ lines_in b + 1
long_with i (counted n) = refl
long_with i (kept is) = let c = length-append is (i ∷ []) in omega arith

long_with_lines : (is : List (Line Act)) (b : Body) → lines_in (body_with_lines is b) ≡ lines_in b + length is
long_with_lines is (counted n) = refl
long_with_lines is (kept js) = length-append js is

mutual
  pub steps_made : (xs : List Places) (b : Steps Act) (d : Drafted) (p : ℕ) → lines_in d.body ≡ p → steps_written xs b d ≡ with_lines (steps_code (starts_of d) xs p b) d
  steps_made xs stop d p h = nothing_more d
  steps_made xs (also l f rest) d p h =
      let c : Line Act = on l count_one in
      let s = starts_of d in
      let code = form_code s xs (p + 1) l f in
      let more = steps_code s xs (p + 1 + form_size f) rest in
      let e = long_with c d.body in
      let g = long_with_lines code (body_with c d.body) in
      let k = form_long s xs (p + 1) l f in
      ap (λ x. steps_written xs rest x) (form_made xs l f (with_line c d) (p + 1) (omega arith))
      ∙ steps_made xs rest (with_lines code (with_line c d)) (p + 1 + form_size f) (omega arith)
      ∙ twice code more (with_line c d)
      ∙ first c (code ++ more) d

  pub form_made : (xs : List Places) (l : ℕ) (f : Form Act) (d : Drafted) (p : ℕ) → lines_in d.body ≡ p → form_written xs l f d ≡ with_lines (form_code (starts_of d) xs p l f) d
  form_made xs l (simple q) d p h = written_code l q d
  form_made xs l (choose q bs) d p h =
      let s = starts_of d in
      let code = parts_code s l q in
      let more = branches_code s xs (p + parts_size q) bs in
      let g = long_with_lines code d.body in
      let k = parts_long s l q in
      let e : lines_in d.body + (parts_size q + branches_size bs) ≡ p + parts_size q + branches_size bs = omega arith in
      ap₂ (λ x y. branches_written xs x bs y) e (written_code l q d)
      ∙ branches_made xs bs (with_lines code d) (p + parts_size q) (omega arith)
      ∙ twice code more d
  form_made xs l (loop q n t b) d p h =
      let s = starts_of d in
      let start = parts_code s l q in
      let k = p + parts_size q + 1 in
      let ys = places k b n t ∷ xs in
      let i : Line Act = on l (jump (p + parts_size q + 1 + 1 + steps_size b + parts_size n)) in
      let c : Line Act = on l count_one in
      let j : Line Act = on l (jump_if k) in
      let body = steps_code s ys (k + 1) b in
      let next = parts_code s l n in
      let test = parts_code s l t in
      let d1 : Drafted = with_lines start d in
      let d2 : Drafted = with_line c (with_line i d1) in
      let g1 = written_long l q d in
      let g2 = long_with_lines start d.body in
      let g3 = long_with i d1.body in
      let g4 = long_with c (body_with i d1.body) in
      let g5 = parts_long s l q in
      let e : lines_in (written l q d).body + 1 ≡ k = omega arith in
      ap₂ (λ x (y : Drafted). with_line (on l (jump_if x)) (written l t (written l n (steps_written (places_at x (steps_size b) (parts_size n) (parts_size t) ∷ xs) b (with_line c (with_line (on l (jump (x + 1 + steps_size b + parts_size n))) y)))))) e (written_code l q d)
      ∙ ap (λ x. with_line j (written l t (written l n x))) (steps_made ys b d2 (k + 1) (omega arith))
      ∙ ap (λ x. with_line j (written l t x)) (written_code l n (with_lines body d2))
      ∙ ap (λ x. with_line j x) (written_code l t (with_lines next (with_lines body d2)))
      ∙ one_more j (with_lines test (with_lines next (with_lines body d2)))
      ∙ twice test (j ∷ []) (with_lines next (with_lines body d2))
      ∙ twice next (test ++ j ∷ []) (with_lines body d2)
      ∙ twice body (next ++ (test ++ j ∷ [])) d2
      ∙ first c (body ++ (next ++ (test ++ j ∷ []))) (with_line i d1)
      ∙ first i (c ∷ (body ++ (next ++ (test ++ j ∷ [])))) d1
      ∙ twice start (i ∷ (c ∷ (body ++ (next ++ (test ++ j ∷ []))))) d
  form_made xs l (around q b m r) d p h =
      let s = starts_of d in
      let before = parts_code s l q in
      let body = steps_code s xs (p + parts_size q) b in
      let c : Line Act = on m count_one in
      let last = parts_code s m r in
      let g1 = long_with_lines before d.body in
      let g2 = parts_long s l q in
      ap (λ x. written m r (with_line c (steps_written xs b x))) (written_code l q d)
      ∙ ap (λ x. written m r (with_line c x)) (steps_made xs b (with_lines before d) (p + parts_size q) (omega arith))
      ∙ written_code m r (with_line c (with_lines body (with_lines before d)))
      ∙ first c last (with_lines body (with_lines before d))
      ∙ twice body (c ∷ last) (with_lines before d)
      ∙ twice before (body ++ (c ∷ last)) d
  form_made xs l (exit n) d p h = one_more (on l (exit_instr xs n)) d
  form_made xs l (cycle n) d p h = one_more (on l (cycle_instr xs n)) d
  form_made xs l return d p h = one_more (on l go_back) d

  pub branches_made : (xs : List Places) (bs : Branches Act) (d : Drafted) (p : ℕ) → lines_in d.body ≡ p → branches_written xs (p + branches_size bs) bs d ≡ with_lines (branches_code (starts_of d) xs p bs) d
  branches_made xs (otherwise b) d p h = steps_made xs b d p h
  branches_made xs (branch l q b rest) d p h =
      let s = starts_of d in
      let test = parts_code s l q in
      let k = p + parts_size q + 1 in
      let after = k + steps_size b + 1 in
      let i : Line Act = on l (jump_unless after) in
      let block = steps_code s xs k b in
      let j : Line Act = on l (jump (after + branches_size rest)) in
      let more = branches_code s xs after rest in
      let d1 : Drafted = with_line i (with_lines test d) in
      let g1 = written_long l q d in
      let g2 = long_with_lines test d.body in
      let g3 = long_with i (body_with_lines test d.body) in
      let g4 = parts_long s l q in
      let g5 = long_with_lines block d1.body in
      let g6 = steps_long s xs k b in
      let g7 = long_with j (body_with_lines block d1.body) in
      let e1 : p + (parts_size q + 1 + steps_size b + 1 + branches_size rest) ≡ after + branches_size rest = omega arith in
      let e2 : lines_in (written l q d).body + 1 + steps_size b + 1 ≡ after = omega arith in
      ap₂ (λ x y. branches_written xs x rest (with_line (on l (jump x)) (steps_written xs b (with_line (on l (jump_unless y)) (written l q d))))) e1 e2
      ∙ ap (λ x. branches_written xs (after + branches_size rest) rest (with_line j (steps_written xs b (with_line i x)))) (written_code l q d)
      ∙ ap (λ x. branches_written xs (after + branches_size rest) rest (with_line j x)) (steps_made xs b d1 k (omega arith))
      ∙ branches_made xs rest (with_line j (with_lines block d1)) after (omega arith)
      ∙ first j more (with_lines block d1)
      ∙ twice block (j ∷ more) d1
      ∙ first i (block ++ (j ∷ more)) (with_lines test d)
      ∙ twice test (i ∷ (block ++ (j ∷ more))) d

-- what is written of a block is its code
pub steps_behind : (xs : List Places) (b : Steps Act) (d : Drafted) → steps_written xs b d ≡ with_lines (steps_code (starts_of d) xs (lines_in d.body) b) d
steps_behind xs b d = steps_made xs b d (lines_in d.body) refl

-- a draft is longer by the size of what was written
pub steps_written_long : (xs : List Places) (b : Steps Act) (d : Drafted) → lines_in (steps_written xs b d).body ≡ lines_in d.body + steps_size b
steps_written_long xs b d =
    let code = steps_code (starts_of d) xs (lines_in d.body) b in
    ap (λ (x : Drafted). lines_in x.body) (steps_behind xs b d) ∙ long_with_lines code d.body ∙ ap (λ n. lines_in d.body + n) (steps_long (starts_of d) xs (lines_in d.body) b)

-- Places do not matter to how lines join: with other places there are the same statements, with those places.
use Rattle.std.proofs.Common.{◌≡◌, Bool, true, false, cond, not, ◌&&◌, nat_eq, List, [], ◌∷◌, ◌++◌, map, Option, Some, None, refl, ap, sym, ◌∙◌}
use Rattle.std.specs.List.{flat_map, onto_first}
use Rattle.caf_base.specs.declared.place.Pos.{Pos}
use Rattle.fortran_lines.specs.declared.placed_byte.PlacedByte.{PlacedByte}
use Rattle.fortran_lines.specs.declared.context.Context.{Context}
use Rattle.fortran_lines.specs.declared.context.Context.TheVariants.{Outside, Inside, Closed}
use Rattle.fortran_lines.specs.declared.context.Before.{Before}
use Rattle.fortran_lines.specs.declared.context.Before.TheVariants.{Start, Continued}
use Rattle.fortran_lines.specs.PlacedBytes.{is_blank, is_quote, all_blank}
use Rattle.fortran_lines.specs.Contexts.{is_inside, opened, behind, context_behind}
use Rattle.fortran_lines.specs.Lines.{Part, is_nothing, code_part, put_before, before_amp, behind_amp, open_quote, part_by, part_from, resumed, spaced, continued, part_of, by_next, joined, separates, cut, kept, pieces}

module _ (place : Pos → Pos) where
  -- a byte with another place
  abbrev pub moved : PlacedByte → PlacedByte
  moved m = record { code = m.code; at = place m.at }

  abbrev pub all_moved : List PlacedByte → List PlacedByte
  all_moved l = map moved l

  abbrev pub context_moved : Context → Context
  context_moved Outside = Outside
  context_moved (Inside q) = Inside (moved q)
  context_moved (Closed q) = Closed (moved q)

  abbrev pub before_moved : Before → Before
  before_moved Start = Start
  before_moved (Continued a k) = Continued (moved a) (context_moved k)

  abbrev amp_moved : Option (List PlacedByte × PlacedByte) → Option (List PlacedByte × PlacedByte)
  amp_moved None = None
  amp_moved (Some r) = Some (all_moved r.0, moved r.1)

  abbrev mark_moved : Option PlacedByte → Option PlacedByte
  mark_moved None = None
  mark_moved (Some q) = Some (moved q)

  abbrev part_moved : Part → Part
  part_moved p = record { code = all_moved p.code; text = all_moved p.text; next = before_moved p.next; left_open = mark_moved p.left_open }

  -- a choice of two lists, moved
  chosen : (b : Bool) (x y : List PlacedByte) → map moved (cond b x y) ≡ cond b (map moved x) (map moved y)
  chosen true x y = refl
  chosen false x y = refl

  moved_append : (xs ys : List PlacedByte) → all_moved (xs ++ ys) ≡ all_moved xs ++ all_moved ys
  moved_append [] ys = refl
  moved_append (x ∷ xs) ys = ap (λ l. moved x ∷ l) (moved_append xs ys)

  blank_all : (l : List PlacedByte) → all_blank (all_moved l) ≡ all_blank l
  blank_all [] = refl
  blank_all (m ∷ l) = ap (λ b. is_blank m && b) (blank_all l)

  pub nothing_all : (l : List PlacedByte) → is_nothing (all_moved l) ≡ is_nothing l
  nothing_all [] = refl
  nothing_all (m ∷ l) = ap (λ b. cond (is_blank m) b (nat_eq m.code 33)) (nothing_all l)

  inside_moved : (k : Context) → is_inside (context_moved k) ≡ is_inside k
  inside_moved Outside = refl
  inside_moved (Inside q) = refl
  inside_moved (Closed q) = refl

  opened_by : (m : PlacedByte) (b : Bool) → cond b (Inside (moved m)) Outside ≡ context_moved (cond b (Inside m) Outside)
  opened_by m true = refl
  opened_by m false = refl

  inside_by : (q : PlacedByte) (b : Bool) → cond b (Closed (moved q)) (Inside (moved q)) ≡ context_moved (cond b (Closed q) (Inside q))
  inside_by q true = refl
  inside_by q false = refl

  closed_by : (q m : PlacedByte) (b : Bool) → cond b (Inside (moved q)) (opened (moved m)) ≡ context_moved (cond b (Inside q) (opened m))
  closed_by q m true = refl
  closed_by q m false = opened_by m (is_quote m)

  behind_moved : (k : Context) (m : PlacedByte) → behind (context_moved k) (moved m) ≡ context_moved (behind k m)
  behind_moved Outside m = opened_by m (is_quote m)
  behind_moved (Inside q) m = inside_by q (nat_eq m.code q.code)
  behind_moved (Closed q) m = closed_by q m (nat_eq m.code q.code)

  context_all : (k : Context) (l : List PlacedByte) → context_behind (context_moved k) (all_moved l) ≡ context_moved (context_behind k l)
  context_all k [] = refl
  context_all k (m ∷ l) = ap (λ c. context_behind c (all_moved l)) (behind_moved k m) ∙ context_all (behind k m) l

  code_all : (k : Context) (l : List PlacedByte) → code_part (context_moved k) (all_moved l) ≡ all_moved (code_part k l)
  code_all k [] = refl
  code_all k (m ∷ l) =
      ap (λ i. cond (nat_eq m.code 33 && not i) [] (moved m ∷ code_part (behind (context_moved k) (moved m)) (all_moved l))) (inside_moved k)
      ∙ (ap (λ c. cond (nat_eq m.code 33 && not (is_inside k)) [] (moved m ∷ code_part c (all_moved l))) (behind_moved k m)
      ∙ (ap (λ t. cond (nat_eq m.code 33 && not (is_inside k)) [] (moved m ∷ t)) (code_all (behind k m) l)
      ∙ sym (chosen (nat_eq m.code 33 && not (is_inside k)) [] (m ∷ code_part (behind k m) l))))

  put_moved : (m : PlacedByte) (o : Option (List PlacedByte × PlacedByte)) → put_before (moved m) (amp_moved o) ≡ amp_moved (put_before m o)
  put_moved m None = refl
  put_moved m (Some r) = refl

  amp_by : (m : PlacedByte) (b : Bool) (o : Option (List PlacedByte × PlacedByte)) → cond b (Some ([], moved m)) (amp_moved o) ≡ amp_moved (cond b (Some ([], m)) o)
  amp_by m true o = refl
  amp_by m false o = refl

  before_amp_all : (l : List PlacedByte) → before_amp (all_moved l) ≡ amp_moved (before_amp l)
  before_amp_all [] = refl
  before_amp_all (m ∷ l) =
      ap (λ b. cond (nat_eq m.code 38 && b) (Some ([], moved m)) (put_before (moved m) (before_amp (all_moved l)))) (blank_all l)
      ∙ (ap (λ o. cond (nat_eq m.code 38 && all_blank l) (Some ([], moved m)) (put_before (moved m) o)) (before_amp_all l)
      ∙ (ap (λ o. cond (nat_eq m.code 38 && all_blank l) (Some ([], moved m)) o) (put_moved m (before_amp l))
      ∙ amp_by m (nat_eq m.code 38 && all_blank l) (put_before m (before_amp l))))

  behind_by : (m : PlacedByte) (l : List PlacedByte) (b a : Bool) (o : Option (List PlacedByte × PlacedByte)) → cond b (amp_moved o) (cond a (Some (all_moved l, moved m)) None) ≡ amp_moved (cond b o (cond a (Some (l, m)) None))
  behind_by m l true a o = refl
  behind_by m l false true o = refl
  behind_by m l false false o = refl

  behind_amp_all : (l : List PlacedByte) → behind_amp (all_moved l) ≡ amp_moved (behind_amp l)
  behind_amp_all [] = refl
  behind_amp_all (m ∷ l) =
      ap (λ o. cond (is_blank m) o (cond (nat_eq m.code 38) (Some (all_moved l, moved m)) None)) (behind_amp_all l)
      ∙ behind_by m l (is_blank m) (nat_eq m.code 38) (behind_amp l)

  open_moved : (k : Context) → open_quote (context_moved k) ≡ mark_moved (open_quote k)
  open_moved Outside = refl
  open_moved (Inside q) = refl
  open_moved (Closed q) = refl

  part_by_moved : (k : Context) (code : List PlacedByte) (o : Option (List PlacedByte × PlacedByte)) → part_by (context_moved k) (all_moved code) (amp_moved o) ≡ part_moved (part_by k code o)
  part_by_moved k code None =
      ap (λ c. let p : Part = record { code = all_moved code; text = all_moved code; next = Start; left_open = open_quote c } in p) (context_all k code)
      ∙ ap (λ o. let p : Part = record { code = all_moved code; text = all_moved code; next = Start; left_open = o } in p) (open_moved (context_behind k code))
  part_by_moved k code (Some r) = ap (λ c. let p : Part = record { code = all_moved code; text = all_moved r.0; next = Continued (moved r.1) c; left_open = None } in p) (context_all k r.0)

  part_from_moved : (k : Context) (l : List PlacedByte) → part_from (context_moved k) (all_moved l) ≡ part_moved (part_from k l)
  part_from_moved k l =
      ap (λ t. part_by (context_moved k) t (before_amp t)) (code_all k l)
      ∙ (ap (part_by (context_moved k) (all_moved (code_part k l))) (before_amp_all (code_part k l)) ∙ part_by_moved k (code_part k l) (before_amp (code_part k l)))

  resumed_by : (k : Context) (a : PlacedByte) (p : Part) (b : Bool) → cond b (record { code = all_moved p.code; text = []; next = Continued (moved a) (context_moved k); left_open = None }) (part_moved p)
      ≡ part_moved (cond b (record { code = p.code; text = []; next = Continued a k; left_open = None }) p)
  resumed_by k a p true = refl
  resumed_by k a p false = refl

  resumed_moved : (k : Context) (a : PlacedByte) (p : Part) → resumed (context_moved k) (moved a) (part_moved p) ≡ part_moved (resumed k a p)
  resumed_moved k a p =
      ap (λ b. cond b (record { code = all_moved p.code; text = []; next = Continued (moved a) (context_moved k); left_open = None }) (part_moved p)) (blank_all p.code)
      ∙ resumed_by k a p (all_blank p.code)

  continued_moved : (a : PlacedByte) (k : Context) (l : List PlacedByte) (o : Option (List PlacedByte × PlacedByte)) → continued (moved a) (context_moved k) (all_moved l) (amp_moved o) ≡ part_moved (continued a k l o)
  continued_moved a k l (Some r) = ap (resumed (context_moved k) (moved r.1)) (part_from_moved k r.0) ∙ resumed_moved k r.1 (part_from k r.0)
  continued_moved a Outside l None = ap (spaced (moved a)) (part_from_moved Outside l)
  continued_moved a (Closed q) l None = ap (spaced (moved a)) (part_from_moved Outside l)
  continued_moved a (Inside q) l None = ap (λ t. let p : Part = record { code = t; text = []; next = Start; left_open = Some (moved q) } in p) (code_all (Inside q) l)

  part_of_moved : (b : Before) (l : List PlacedByte) → part_of (before_moved b) (all_moved l) ≡ part_moved (part_of b l)
  part_of_moved Start l = part_from_moved Outside l
  part_of_moved (Continued a k) l = ap (continued (moved a) (context_moved k) (all_moved l)) (behind_amp_all l) ∙ continued_moved a k l (behind_amp l)

  abbrev pub texts_moved : List (List PlacedByte) → List (List PlacedByte)
  texts_moved ls = map all_moved ls

  by_next_moved : (one two : Before → List PlacedByte → List (List PlacedByte)) → ((b : Before) (t : List PlacedByte) → one (before_moved b) (all_moved t) ≡ texts_moved (two b t))
      → (t : List PlacedByte) (b : Before) → by_next one (all_moved t) (before_moved b) ≡ texts_moved (by_next two t b)
  by_next_moved one two same t Start = ap (λ ls. all_moved t ∷ ls) (same Start [])
  by_next_moved one two same t (Continued a k) = same (Continued a k) t

  texts_chosen : (b : Bool) (x y : List (List PlacedByte)) → texts_moved (cond b x y) ≡ cond b (texts_moved x) (texts_moved y)
  texts_chosen true x y = refl
  texts_chosen false x y = refl

  pub joined_moved : (ls : List (List PlacedByte)) (b : Before) (t : List PlacedByte) → joined (texts_moved ls) (before_moved b) (all_moved t) ≡ texts_moved (joined ls b t)
  joined_moved [] b t = refl
  joined_moved (l ∷ ls) b t =
      let part = part_of b l in
      let rest = by_next (joined (texts_moved ls)) in
      ap (λ c. cond c (joined (texts_moved ls) (before_moved b) (all_moved t)) (rest (all_moved t ++ (part_of (before_moved b) (all_moved l)).text) (part_of (before_moved b) (all_moved l)).next)) (nothing_all l)
      ∙ (ap (λ p. cond (is_nothing l) (joined (texts_moved ls) (before_moved b) (all_moved t)) (rest (all_moved t ++ p.text) p.next)) (part_of_moved b l)
      ∙ (ap (λ u. cond (is_nothing l) (joined (texts_moved ls) (before_moved b) (all_moved t)) (rest u (before_moved part.next))) (sym (moved_append t part.text))
      ∙ (ap (λ u. cond (is_nothing l) u (rest (all_moved (t ++ part.text)) (before_moved part.next))) (joined_moved ls b t)
      ∙ (ap (λ u. cond (is_nothing l) (texts_moved (joined ls b t)) u) (by_next_moved (joined (texts_moved ls)) (joined ls) (joined_moved ls) (t ++ part.text) part.next)
      ∙ sym (texts_chosen (is_nothing l) (joined ls b t) (by_next (joined ls) (t ++ part.text) part.next))))))

  onto_moved : (m : PlacedByte) (ps : List (List PlacedByte)) → onto_first (moved m) (texts_moved ps) ≡ texts_moved (onto_first m ps)
  onto_moved m [] = refl
  onto_moved m (p ∷ ps) = refl

  cut_moved : (k : Context) (t : List PlacedByte) → cut (context_moved k) (all_moved t) ≡ texts_moved (cut k t)
  cut_moved k [] = refl
  cut_moved k (m ∷ t) =
      ap (λ i. cond (nat_eq m.code 59 && not i) ([] ∷ cut (behind (context_moved k) (moved m)) (all_moved t)) (onto_first (moved m) (cut (behind (context_moved k) (moved m)) (all_moved t)))) (inside_moved k)
      ∙ (ap (λ c. cond (separates k m) ([] ∷ cut c (all_moved t)) (onto_first (moved m) (cut c (all_moved t)))) (behind_moved k m)
      ∙ (ap (λ u. cond (separates k m) ([] ∷ u) (onto_first (moved m) u)) (cut_moved (behind k m) t)
      ∙ (ap (λ u. cond (separates k m) ([] ∷ texts_moved (cut (behind k m) t)) u) (onto_moved m (cut (behind k m) t))
      ∙ sym (texts_chosen (separates k m) ([] ∷ cut (behind k m) t) (onto_first m (cut (behind k m) t))))))

  kept_moved : (ps : List (List PlacedByte)) → kept (texts_moved ps) ≡ texts_moved (kept ps)
  kept_moved [] = refl
  kept_moved (p ∷ ps) =
      ap (λ b. cond (not b) (all_moved p ∷ kept (texts_moved ps)) (kept (texts_moved ps))) (blank_all p)
      ∙ (ap (λ u. cond (not (all_blank p)) (all_moved p ∷ u) u) (kept_moved ps)
      ∙ sym (texts_chosen (not (all_blank p)) (p ∷ kept ps) (kept ps)))

  texts_append : (xs ys : List (List PlacedByte)) → texts_moved (xs ++ ys) ≡ texts_moved xs ++ texts_moved ys
  texts_append [] ys = refl
  texts_append (x ∷ xs) ys = ap (λ l. all_moved x ∷ l) (texts_append xs ys)

  pub pieces_moved : (ts : List (List PlacedByte)) → flat_map pieces (texts_moved ts) ≡ texts_moved (flat_map pieces ts)
  pieces_moved [] = refl
  pieces_moved (t ∷ ts) =
      ap (λ u. kept u ++ flat_map pieces (texts_moved ts)) (cut_moved Outside t)
      ∙ (ap (λ u. u ++ flat_map pieces (texts_moved ts)) (kept_moved (cut Outside t))
      ∙ (ap (λ u. texts_moved (pieces t) ++ u) (pieces_moved ts) ∙ sym (texts_append (pieces t) (flat_map pieces ts))))

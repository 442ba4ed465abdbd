-- A text that is cut step by step.
use Rattle.std.proofs.Common.{◌≡◌, ℕ, ◌+◌, ◌<◌, ◌≤◌, Bool, true, false, cond, not, List, [], ◌∷◌, ◌++◌, length, get_or, drop, refl, ap, sym, ◌∙◌, arith, append_assoc, append-nil, add-one}
use Rattle.std.proofs.Math.Seq.{drop-cons}
use Rattle.std.specs.List.{between, onto_first}
use Rattle.std.proofs.lemmas.List.Elements.{filter-append}
use Rattle.std.proofs.lemmas.List.Edits.{between_more, between_none}
use Rattle.fortran_lines.specs.declared.placed_byte.PlacedByte.{PlacedByte}
use Rattle.fortran_lines.specs.declared.context.Context.{Context}
use Rattle.fortran_lines.specs.PlacedBytes.{all_blank}
use Rattle.fortran_lines.specs.Contexts.{behind}
use Rattle.fortran_lines.specs.Lines.{cut, kept, separates}

-- a text put in front of the first piece
abbrev pub onto_front : List PlacedByte → List (List PlacedByte) → List (List PlacedByte)
onto_front xs [] = xs ∷ []
onto_front xs (p ∷ ps) = (xs ++ p) ∷ ps

-- a first piece begins with a byte
onto_one : (m : PlacedByte) (ps : List (List PlacedByte)) → onto_front [] (onto_first m ps) ≡ onto_first m ps
onto_one m [] = refl
onto_one m (p ∷ ps) = refl

-- a text has a first piece
pub onto_none : (k : Context) (text : List PlacedByte) → onto_front [] (cut k text) ≡ cut k text
onto_none k [] = refl
onto_none k (m ∷ text) = by_case (separates k m)
  where
    by_case : (b : Bool) → onto_front [] (cond b ([] ∷ cut (behind k m) text) (onto_first m (cut (behind k m) text))) ≡ cond b ([] ∷ cut (behind k m) text) (onto_first m (cut (behind k m) text))
    by_case true = refl
    by_case false = onto_one m (cut (behind k m) text)

-- one more byte of the first piece
pub onto_more : (xs : List PlacedByte) (m : PlacedByte) (ps : List (List PlacedByte)) → onto_front xs (onto_first m ps) ≡ onto_front (xs ++ m ∷ []) ps
onto_more xs m [] = refl
onto_more xs m (p ∷ ps) = ap (λ q. q ∷ ps) (sym (append_assoc xs (m ∷ []) p))

-- a byte that separates nothing belongs to the piece that is begun
pub piece_grows : (text : List PlacedByte) (from i : ℕ) (d : PlacedByte) (k : Context) → from ≤ i → i < length text → separates k (get_or text i d) ≡ false
    → onto_front (between from i text) (cut k (drop i text)) ≡ onto_front (between from (i + 1) text) (cut (behind k (get_or text i d)) (drop (i + 1) text))
piece_grows text from i d k begun within other =
    let here : drop i text ≡ get_or text i d ∷ drop (i + 1) text = rw add-one (drop-cons text i d within) in
    let whole : cut k (drop i text) ≡ onto_first (get_or text i d) (cut (behind k (get_or text i d)) (drop (i + 1) text)) = ap (cut k) here ∙ ap (λ b. cond b ([] ∷ cut (behind k (get_or text i d)) (drop (i + 1) text)) (onto_first (get_or text i d) (cut (behind k (get_or text i d)) (drop (i + 1) text)))) other in
    ap (onto_front (between from i text)) whole
    ∙ (onto_more (between from i text) (get_or text i d) (cut (behind k (get_or text i d)) (drop (i + 1) text))
    ∙ ap (λ xs. onto_front xs (cut (behind k (get_or text i d)) (drop (i + 1) text))) (sym (between_more text from i d begun within)))

-- one that separates ends it, and the next piece begins
pub piece_ends : (text : List PlacedByte) (from i : ℕ) (d : PlacedByte) (k : Context) → i < length text → separates k (get_or text i d) ≡ true
    → kept (onto_front (between from i text) (cut k (drop i text)))
    ≡ kept (between from i text ∷ []) ++ kept (onto_front (between (i + 1) (i + 1) text) (cut (behind k (get_or text i d)) (drop (i + 1) text)))
piece_ends text from i d k within splits =
    let here : drop i text ≡ get_or text i d ∷ drop (i + 1) text = rw add-one (drop-cons text i d within) in
    let next = cut (behind k (get_or text i d)) (drop (i + 1) text) in
    let whole : cut k (drop i text) ≡ [] ∷ next = ap (cut k) here ∙ ap (λ b. cond b ([] ∷ next) (onto_first (get_or text i d) next)) splits in
    let joint : onto_front (between from i text) (cut k (drop i text)) ≡ (between from i text ∷ []) ++ next = ap (onto_front (between from i text)) whole ∙ ap (λ q. q ∷ next) (append-nil (between from i text)) in
    let anew : next ≡ onto_front (between (i + 1) (i + 1) text) next = sym (ap (λ xs. onto_front xs next) (between_none text (i + 1)) ∙ onto_none (behind k (get_or text i d)) (drop (i + 1) text)) in
    ap kept joint ∙ (filter-append (λ p. not (all_blank p)) (between from i text ∷ []) next ∙ ap (λ ps. kept (between from i text ∷ []) ++ kept ps) anew)

-- how far a text is cut: the piece that is begun, and that all pieces are those so far and those of what is left
pub record CutSoFar (text : List PlacedByte) (from i : ℕ) (k : Context) (so_far all : List (List PlacedByte)) : Type 0 where
  pub begun : from ≤ i
  pub same : so_far ++ kept (onto_front (between from i text) (cut k (drop i text))) ≡ all

pub loop_grows : (text : List PlacedByte) (from i : ℕ) (d : PlacedByte) (k : Context) (so_far all : List (List PlacedByte)) → i < length text → separates k (get_or text i d) ≡ false
    → CutSoFar text from i k so_far all → CutSoFar text from (i + 1) (behind k (get_or text i d)) so_far all
loop_grows text from i d k so_far all within other known = record {
  begun = let h = known.begun in omega arith;
  same = ap (λ ps. so_far ++ kept ps) (sym (piece_grows text from i d k known.begun within other)) ∙ known.same;
}

pub loop_ends : (text : List PlacedByte) (from i : ℕ) (d : PlacedByte) (k : Context) (so_far now all : List (List PlacedByte)) → i < length text → separates k (get_or text i d) ≡ true
    → now ≡ so_far ++ kept (between from i text ∷ []) → CutSoFar text from i k so_far all → CutSoFar text (i + 1) (i + 1) (behind k (get_or text i d)) now all
loop_ends text from i d k so_far now all within splits more known = record {
  begun = omega arith;
  same =
      let rest = kept (onto_front (between (i + 1) (i + 1) text) (cut (behind k (get_or text i d)) (drop (i + 1) text))) in
      ap (λ ps. ps ++ rest) more ∙ (append_assoc so_far (kept (between from i text ∷ [])) rest ∙ (ap (λ ps. so_far ++ ps) (sym (piece_ends text from i d k within splits)) ∙ known.same));
}

-- nothing is cut yet
pub cut_first : (text : List PlacedByte) (k : Context) (so_far : List (List PlacedByte)) → CutSoFar text 0 0 k so_far (so_far ++ kept (cut k text))
cut_first text k so_far = record { begun = omega arith; same = ap (λ ps. so_far ++ kept ps) (onto_none k text) }

-- An argument among those of an intrinsic subroutine: they are put down as they are written, and it is found again among
-- them, as that of a cell is.
use Rattle.std.proofs.Common.{◌≡◌, ◌∙◌, ℕ, zero, suc, ◌+◌, ◌<◌, ◌≤◌, inl, inr, true, false, cond, List, [], ◌∷◌, ◌++◌, length, refl, ap, sym, subst, append_assoc, arith, Bool}
use Rattle.std.specs.Prelude.{ℤ, pos, ◌==◌}
use Rattle.std.proofs.lemmas.Bool.Decides.{eqb_tells}
use Rattle.walk_theory.specs.Syntax.{Parts}
use Rattle.checked_tree.specs.declared.data.Object.TheVariants as objects
use Rattle.checked_tree.specs.Expressions as t
use Rattle.object_rules.specs.Cells.{Declared}
use Rattle.core_runs.specs.Beginnings.{IsOneOf}
use Rattle.image_acts.specs.Statuses.{most_cells}
use Rattle.image_acts.specs.Acts.{Act}
use Rattle.image_acts.specs.Core.{Core}
use Rattle.image_code.specs.Sizes.{numbers}
use Rattle.tree_meaning.specs.Environment.{Environment}
use Rattle.tree_meaning.specs.Pieces.{Piece, piece_of, evaluating, sizes, depth}
use Rattle.tree_meaning.specs.Expressions as view
use Rattle.tree_meaning.specs.ImageControl as control
use Rattle.tree_meaning.specs.Subroutines as sub
use Rattle.made_code.specs.Ranks as ranks
use Rattle.made_code.specs.Ranks.{times}
use Rattle.made_code.proofs.Turns.{Turns, closes, ◌⨾◌, part}
use Rattle.made_code.proofs.Forms.{idle}
use Rattle.made_code.proofs.Expressions.{result_turns}
use Rattle.cell_walks.specs.Fitting.{Sizes, IsSound, PartsFit}
use Rattle.cell_walks.proofs.Quieting.{Safe, no_parts, both}
use Rattle.cell_statements.specs.Reading.{PlaceReads}
use Rattle.cell_statements.proofs.Cells.{passed}
use Rattle.cell_statements.proofs.Locks.{any_cell}

-- ---- where an argument stands
pub within : (ps : List Piece) (ds : List ℕ) (d : ℕ) → times d ds ≡ 1 → depth ps ds d + (piece_of ps d).size ≤ sizes ps ds
within ps [] d h = absurd (let z : 0 ≡ 1 = h in omega arith)
within ps (b ∷ ds) d h = elim (eqb_tells b d) [
  | inl e ↦ (let x : depth ps (b ∷ ds) d ≡ sizes ps ds = ap (λ c. cond c (sizes ps ds) (depth ps ds d)) e.0 in
      let y : (piece_of ps b).size ≡ (piece_of ps d).size = ap (λ c. (piece_of ps c).size) e.1 in
      omega arith)
  | inr e ↦ (let x : depth ps (b ∷ ds) d ≡ depth ps ds d = ap (λ c. cond c (sizes ps ds) (depth ps ds d)) e.0 in
      let y : times d (b ∷ ds) ≡ 0 + times d ds = ap (λ c. cond c 1 0 + times d ds) e.0 in
      let z = within ps ds d (let w : times d ds ≡ 1 = omega arith in w) in
      omega arith)
]

pub no_deeper : (ps : List Piece) (ds : List ℕ) (d : ℕ) → depth ps ds d ≤ sizes ps ds
no_deeper ps [] d = omega arith
no_deeper ps (b ∷ ds) d = elim (eqb_tells b d) [
  | inl e ↦ (let x : depth ps (b ∷ ds) d ≡ sizes ps ds = ap (λ c. cond c (sizes ps ds) (depth ps ds d)) e.0 in omega arith)
  | inr e ↦ (let x : depth ps (b ∷ ds) d ≡ depth ps ds d = ap (λ c. cond c (sizes ps ds) (depth ps ds d)) e.0 in let z = no_deeper ps ds d in omega arith)
]

pub long : (xs ys : List ℤ) → length (xs ++ ys) ≡ length xs + length ys
long [] ys = omega arith
long (x ∷ xs) ys = (let h = long xs ys in omega arith)

-- ---- pieces
abbrev pub AllTurn : List Piece → Type 0
AllTurn [] = Unit {0}
AllTurn (p ∷ ps) = Turns (numbers 0 p.size) p.parts × AllTurn ps

pub each_turns : (ps : List Piece) → AllTurn ps → (d : ℕ) → Turns (numbers 0 (piece_of ps d).size) (piece_of ps d).parts
each_turns [] h d = idle
each_turns (p ∷ ps) h zero = h.0
each_turns (p ∷ ps) h (suc d) = each_turns ps h.1 d

-- ---- STAT= among them, where it is there
module _ (e : Environment) (ds : List ℕ) where
  pub stat_placed : (x : t.OptionalResult) (n : ℕ) → ranks.IsStat e.program.procedures ds x n → Turns (numbers 0 (view.optional_size x)) (view.optional_place e x)
  stat_placed t.no_result n g = idle
  stat_placed (t.result r) n g = result_turns e r g.0

  pub stat_below : (x : t.OptionalResult) (n : ℕ) (ps : List Piece) → (piece_of ps n).size ≡ view.optional_size x → ranks.IsStat e.program.procedures ds x n → depth ps ds n + view.optional_size x ≤ sizes ps ds
  stat_below t.no_result n ps z g = (let x = no_deeper ps ds n in omega arith)
  stat_below (t.result r) n ps z g = (let x = within ps ds n g.1 in omega arith)

-- ---- an argument among all
-- what stands behind the arguments for these dummies, over other numbers: the numbers of dummy a, of which Q holds, and
-- others above and beneath them
pub record IsAmong (Q : List ℤ → Type 0) (ps : List Piece) (a : ℕ) (ds : List ℕ) (vs : List ℤ) (d : Core) : Type 0 where
  pub above : List ℤ
  pub here : List ℤ
  pub behind : List ℤ
  pub good : Q here
  pub deep : length above ≡ depth ps ds a
  pub many : length (above ++ (here ++ behind)) ≡ sizes ps ds
  pub values : d.values ≡ (above ++ (here ++ behind)) ++ vs

module _ (n me : ℕ) (coarrays : List Declared) (readable : ℕ → Bool) where
  abbrev On : Parts Act → (Sizes → Core → Type 0) → Sizes → Core → Type 0
  On p After y c = PartsFit n me coarrays readable p After y c

  -- parts that put down numbers of which Q holds
  abbrev pub Puts : (List ℤ → Type 0) → ℕ → Parts Act → Type 1
  Puts Q m p = (vs : List ℤ) (After : Sizes → Core → Type 0) (y : Sizes) (c : Core) → IsSound n me y c → c.values ≡ vs
      → ((u : Sizes) (d : Core) (here : List ℤ) → IsSound n me u d → Q here → length here ≡ m → d.values ≡ here ++ vs → After u d) → On p After y c

  module _ (Q : List ℤ → Type 0) (ps : List Piece) (a : ℕ) (puts : Puts Q (piece_of ps a).size (piece_of ps a).parts) (turns : (d : ℕ) → Turns (numbers 0 (piece_of ps d).size) (piece_of ps d).parts)
      (quiet : (d : ℕ) → Safe readable (piece_of ps d).parts) where
    all_turn : (ds : List ℕ) → Turns (numbers 0 (sizes ps ds)) (evaluating ps ds)
    all_turn [] = idle
    all_turn (d ∷ ds) = closes (part (turns d) ⨾ part (all_turn ds)) (omega arith)

    all_quiet : (ds : List ℕ) → Safe readable (evaluating ps ds)
    all_quiet [] = no_parts
    all_quiet (d ∷ ds) = both (quiet d) (all_quiet ds)

    first_among : (ds : List ℕ) (vs xs here : List ℤ) (d : Core) (b : ℕ) → (b == a) ≡ true → b ≡ a → Q here → length here ≡ (piece_of ps a).size → length xs ≡ sizes ps ds → d.values ≡ xs ++ (here ++ vs)
        → IsAmong Q ps a (b ∷ ds) vs d
    first_among ds vs xs here d b z z' q lh l v = record {
      above = xs;
      here = here;
      behind = [];
      good = q;
      deep = l ∙ sym (ap (λ w. cond w (sizes ps ds) (depth ps ds a)) z);
      many = (let f = long xs (here ++ []) in let g = long here [] in let w : (piece_of ps b).size ≡ (piece_of ps a).size = ap (λ k. (piece_of ps k).size) z' in omega arith);
      values = v ∙ (ap (λ w. xs ++ w) (sym (append_assoc here [] vs)) ∙ sym (append_assoc xs (here ++ []) vs));
    }

    later_among : (ds : List ℕ) (vs ys : List ℤ) (d : Core) (b : ℕ) → (b == a) ≡ false → length ys ≡ (piece_of ps b).size → IsAmong Q ps a ds (ys ++ vs) d → IsAmong Q ps a (b ∷ ds) vs d
    later_among ds vs ys d b z l f =
        let whole = f.above ++ (f.here ++ f.behind) in
        let same : whole ++ ys ≡ f.above ++ (f.here ++ (f.behind ++ ys)) = append_assoc f.above (f.here ++ f.behind) ys ∙ ap (λ w. f.above ++ w) (append_assoc f.here f.behind ys) in
        record {
          above = f.above;
          here = f.here;
          behind = f.behind ++ ys;
          good = f.good;
          deep = f.deep ∙ sym (ap (λ w. cond w (sizes ps ds) (depth ps ds a)) z);
          many = ap length (sym same) ∙ (long whole ys ∙ (let m = f.many in omega arith));
          values = f.values ∙ (sym (append_assoc whole ys vs) ∙ ap (λ w. w ++ vs) same);
        }

    pub among : (ds : List ℕ) → times a ds ≡ 1 → (vs : List ℤ) (After : Sizes → Core → Type 0) (y : Sizes) (c : Core) → IsSound n me y c → c.values ≡ vs
        → ((u : Sizes) (d : Core) → IsSound n me u d → IsAmong Q ps a ds vs d → After u d) → On (evaluating ps ds) After y c
    among [] once vs After y c i v more = absurd (let z : 0 ≡ 1 = once in omega arith)
    among (b ∷ ds) once vs After y c i v more = elim (eqb_tells b a) [
      | inl z ↦
          subst (λ (k : ℕ). On (piece_of ps k).parts (On (evaluating ps ds) After) y c) (sym z.1)
          (puts vs (On (evaluating ps ds) After) y c i v
          (λ u d here x q lh w. passed n me coarrays readable (all_turn ds) (all_quiet ds) (here ++ vs) After u d x w
          (λ u2 f xs x2 m r. more u2 f x2 (first_among ds vs xs here f b z.0 z.1 q lh m r))))
      | inr z ↦
          passed n me coarrays readable (turns b) (quiet b) vs (On (evaluating ps ds) After) y c i v
          (λ u d ys x l w. among ds (let m : times a (b ∷ ds) ≡ 0 + times a ds = ap (λ q. cond q 1 0 + times a ds) z.0 in let g : times a ds ≡ 1 = omega arith in g)
          (ys ++ vs) After u d x w (λ u2 f g r. more u2 f g (later_among ds vs ys f b z.0 l r)))
    ]

-- ---- the cell of dummy a
-- what stands behind the arguments for these dummies, over other numbers: the cell of dummy a, and others above and
-- beneath it
pub record IsFound (n : ℕ) (ps : List Piece) (a : ℕ) (ds : List ℕ) (vs : List ℤ) (d : Core) : Type 0 where
  pub above : List ℤ
  pub owner : ℕ
  pub start : ℕ
  pub behind : List ℤ
  pub image : IsOneOf n owner
  pub small : start < most_cells
  pub deep : length above ≡ depth ps ds a
  pub many : length (above ++ (pos owner ∷ pos start ∷ behind)) ≡ sizes ps ds
  pub values : d.values ≡ (above ++ (pos owner ∷ pos start ∷ behind)) ++ vs

module _ (n me : ℕ) (coarrays : List Declared) (readable : ℕ → Bool) (there : IsOneOf n me) (e : Environment) (k : ℕ) (ss : t.Subscripts) (sel : t.Selector) (h : ranks.IsPart e.program.procedures (t.part (objects.Coarray k) ss sel) 0)
    (reads : PlaceReads readable (t.part (objects.Coarray k) ss sel))
    (ps : List Piece) (a : ℕ) (is_cell : piece_of ps a ≡ sub.cell_piece e (t.part (objects.Coarray k) ss sel)) (turns : (d : ℕ) → Turns (numbers 0 (piece_of ps d).size) (piece_of ps d).parts)
    (quiet : (d : ℕ) → Safe readable (piece_of ps d).parts) where
  abbrev Here : Parts Act → (Sizes → Core → Type 0) → Sizes → Core → Type 0
  Here p After y c = PartsFit n me coarrays readable p After y c

  -- the owner of the cell on top of its place, and what stands beneath both
  abbrev IsOwned : List ℤ → Type 0
  IsOwned here = (o : ℕ) × (j : ℕ) × (rest : List ℤ) × IsOneOf n o × (j < most_cells) × (here ≡ pos o ∷ pos j ∷ rest)

  puts : Puts n me coarrays readable IsOwned (piece_of ps a).size (piece_of ps a).parts
  puts vs After y c i v more =
      subst (λ (q : Piece). Here q.parts After y c) (sym is_cell)
      (any_cell n me coarrays readable there e k ss sel h reads vs After y c i v
      (λ u d o j qs x image small l w. more u d (pos o ∷ pos j ∷ qs) x (o, j, qs, image, small, refl)
      (let g : length (pos o ∷ pos j ∷ qs) ≡ suc (suc (length qs)) = refl in
      let z : (piece_of ps a).size ≡ control.cell_size e (t.part (objects.Coarray k) ss sel) = ap (λ (q : Piece). q.size) is_cell in omega arith) w))

  as_found : (ds : List ℕ) (vs : List ℤ) (d : Core) (f : IsAmong IsOwned ps a ds vs d) → IsOwned f.here → IsFound n ps a ds vs d
  as_found ds vs d f (o, j, rest, image, small, is) =
      let same : f.above ++ (f.here ++ f.behind) ≡ f.above ++ (pos o ∷ pos j ∷ (rest ++ f.behind)) = ap (λ z. f.above ++ (z ++ f.behind)) is in
      record { above = f.above; owner = o; start = j; behind = rest ++ f.behind; image = image; small = small; deep = f.deep; many = ap length (sym same) ∙ f.many; values = f.values ∙ ap (λ z. z ++ vs) same }

  pub found : (ds : List ℕ) → times a ds ≡ 1 → (vs : List ℤ) (After : Sizes → Core → Type 0) (y : Sizes) (c : Core) → IsSound n me y c → c.values ≡ vs
      → ((u : Sizes) (d : Core) → IsSound n me u d → IsFound n ps a ds vs d → After u d) → Here (evaluating ps ds) After y c
  found ds once vs After y c i v more = among n me coarrays readable IsOwned ps a puts turns quiet ds once vs After y c i v (λ u d x f. more u d x (as_found ds vs d f f.good))

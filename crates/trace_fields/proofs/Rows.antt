-- Items with a blank before each, read up to the sign before a reply.
use Rattle.std.proofs.Common.{◌≡◌, ℕ, ◌<◌, Bool, true, false, not, ◌||◌, List, [], ◌∷◌, ◌++◌, flat_map, length, drop}
use Rattle.std.proofs.Common.{refl, ap, sym, ◌∙◌, arith, append_assoc, append-nil, true≢false}
use Rattle.std.specs.List.{list_all}
use Rattle.trace_theory.specs.Entries.{Each}
use Rattle.trace_text.specs.TraceText.{behind}
use Rattle.trace_forms.proofs.Cuts.{and_first, and_second}
use Rattle.trace_forms.proofs.Pieces.{no}
use Rattle.trace_forms.proofs.Fields.{is_field}
use Rattle.trace_fields.specs.Cutting.{IsCutAt, begins_no_name}
use Rattle.trace_fields.proofs.Cut.{found}
use Rattle.trace_fields.proofs.Parts.{no_blank}

neither : (p q : Bool) → not q ≡ true → not p ≡ true → (p || q) ≡ true → ⊥
neither true q b a h = true≢false (sym a)
neither false true b a h = true≢false (sym b)
neither false false b a h = true≢false (sym h)

-- a field isn't the sign before a reply
no_end : (xs ys : List ℕ) → 0 < length xs → list_all is_field xs ≡ true → begins_no_name (xs ++ ys) ≡ true → ⊥
no_end [] ys some inside b = omega arith
no_end (x ∷ xs) ys some inside b = let f = and_first (is_field x) _ inside in
    neither _ _ (and_first (no 32 x) _ f) (and_second (no 32 x) _ f) b

-- where an item follows there is something left
pub begun : (xs : List ℕ) → begins_no_name xs ≡ false → 0 < length xs
begun [] e = absurd (true≢false e)
begun (x ∷ xs) e = omega arith

module _ {A : Type 0} (P : A → Type 0) (text : A → List ℕ) where
  -- the texts of items with a blank before each, and the sign behind them
  abbrev pub row : List A → List ℕ → List ℕ
  row xs more = flat_map (behind (32 ∷ []) text) xs ++ (32 ∷ (62 ∷ more))

  pub row_blank : (xs : List A) (more : List ℕ) → row xs more ≡ 32 ∷ drop 1 (row xs more)
  row_blank [] more = refl
  row_blank (x ∷ xs) more = refl

  -- each item's text is a field: one byte or more, none of them a blank or `>`
  pub record AreFields : Type 0 where
    pub some : (x : A) → P x → 0 < length (text x)
    pub inside : (x : A) → P x → list_all is_field (text x) ≡ true

  -- these are read, and what is left writes the others
  pub record Ahead (out : List A) (rest : List ℕ) (all : List A) (more : List ℕ) : Type 0 where
    pub left : List A
    pub sum : out ++ left ≡ all
    pub each : Each P left
    pub is : 32 ∷ rest ≡ row left more

  module _ (fields : AreFields) where
    -- the first item stands before the others
    first_item : (x : A) (xs : List A) (rest more : List ℕ) → 32 ∷ rest ≡ row (x ∷ xs) more → rest
        ≡ text x ++ row xs more
    first_item x xs rest more e = ap (drop 1) e ∙ append_assoc (text x) (flat_map (behind (32 ∷ []) text) xs) (32 ∷
        (62 ∷ more))

    -- where no item follows, all are read
    pub ended : (out : List A) (rest : List ℕ) (all : List A) (more : List ℕ) → begins_no_name rest ≡ true
        → Ahead out rest all more → (out ≡ all) × (rest ≡ 62 ∷ more)
    ended out rest all more end a = by a.left a.sum a.each a.is
      where
        by : (left : List A) → out ++ left ≡ all → Each P left → 32 ∷ rest ≡ row left more → (out ≡ all)
            × (rest ≡ 62 ∷ more)
        by [] w each e = (sym (append-nil out) ∙ w, ap (drop 1) e)
        by (x ∷ xs) w each e = absurd (no_end (text x) (row xs more) (fields.some x each.0) (fields.inside x each.0)
            (sym (ap begins_no_name (first_item x xs rest more e)) ∙ end))

    -- one item more
    pub next : (out : List A) (rest : List ℕ) (all : List A) (more : List ℕ) → begins_no_name rest ≡ false
        → Ahead out rest all more → (field further : List ℕ) → IsCutAt 32 rest field further
        → (value : A) → ((x : A) → P x → field ≡ text x → value ≡ x) → (new : List A) → new ≡ out ++ (value ∷ [])
        → Ahead new further all more
    next out rest all more go a field further cut value reads new grown = by a.left a.sum a.each a.is
      where
        sums : (x : A) (xs : List A) → value ≡ x → out ++ (x ∷ xs) ≡ all → new ++ xs ≡ all
        sums x xs e w = ap (λ z. z ++ xs) grown ∙ append_assoc out (value ∷ []) xs ∙ ap (λ v. out ++ (v ∷ xs)) e ∙ w

        by : (left : List A) → out ++ left ≡ all → Each P left → 32 ∷ rest ≡ row left more
            → Ahead new further all more
        by [] w each e = absurd (true≢false (sym (ap begins_no_name (ap (drop 1) e)) ∙ go))
        by (x ∷ xs) w each e =
            let at = found 32 rest field further (text x) (drop 1 (row xs more)) cut (no_blank (text x)
            (fields.inside x each.0)) (first_item x xs rest more e ∙ ap (λ z. text x ++ z) (row_blank xs more)) in
            record {
              left = xs;
              sum = sums x xs (reads x each.0 at.0) w;
              each = each.1;
              is = ap (λ z. 32 ∷ z) at.1 ∙ sym (row_blank xs more);
            }

-- Texts of items with a byte between them, read one item behind the other.
use Rattle.std.proofs.Common.{◌≡◌, ℕ, ◌<◌, true, List, [], ◌∷◌, ◌++◌}
use Rattle.std.proofs.Common.{flat_map, length, refl, ap, sym, ◌∙◌, arith, append_assoc, append-nil}
use Rattle.std.specs.List.{list_all}
use Rattle.trace_theory.specs.Entries.{Each}
use Rattle.trace_text.specs.TraceText.{behind, joined}
use Rattle.trace_fields.specs.Cutting.{other, IsCutAt}
use Rattle.trace_fields.proofs.Cut.{found, whole}

module _ {A : Type 0} (P : A → Type 0) (byte : ℕ) (text : A → List ℕ) where
  -- what is wanted of each item's text
  pub record AreItems : Type 0 where
    pub some : (x : A) → P x → 0 < length (text x)
    pub clean : (x : A) → P x → list_all (other byte) (text x) ≡ true

  -- these are read, and what is left writes the others
  pub record Left (out : List A) (rest : List ℕ) (all : List A) : Type 0 where
    pub left : List A
    pub sum : out ++ left ≡ all
    pub each : Each P left
    pub is : rest ≡ joined (byte ∷ []) text left

  pub first : (all : List A) (rest : List ℕ) → Each P all → rest ≡ joined (byte ∷ []) text all → Left [] rest all
  first all rest each e = record { left = all; sum = refl; each = each; is = e }

  module _ (items : AreItems) where
    empty_front : (xs ys : List ℕ) → 0 < length xs → xs ++ ys ≡ [] → ⊥
    empty_front [] ys h e = omega arith
    empty_front (x ∷ xs) ys h e = cc

    -- where nothing is left, all are read
    pub done : (out : List A) (rest : List ℕ) (all : List A) → rest ≡ [] → Left out rest all → out ≡ all
    done out rest all none l = by l.left l.sum l.each l.is
      where
        by : (left : List A) → out ++ left ≡ all → Each P left → rest ≡ joined (byte ∷ []) text left → out ≡ all
        by [] w each e = sym (append-nil out) ∙ w
        by (x ∷ xs) w each e = absurd (empty_front (text x) _ (items.some x each.0) (sym e ∙ none))

    -- one item more
    pub step : (out : List A) (rest : List ℕ) (all : List A) → 0 < length rest → Left out rest all
        → (item further : List ℕ) → IsCutAt byte rest item further
        → (value : A) → ((x : A) → P x → item ≡ text x → value ≡ x) → (new : List A) → new ≡ out ++ (value ∷ [])
        → Left new further all
    step out rest all some l item further cut value reads new grown = by l.left l.sum l.each l.is
      where
        more : (x : A) (xs : List A) → value ≡ x → out ++ (x ∷ xs) ≡ all → new ++ xs ≡ all
        more x xs e w = ap (λ z. z ++ xs) grown ∙ append_assoc out (value ∷ []) xs ∙ ap (λ v. out ++ (v ∷ xs)) e ∙ w

        by : (left : List A) → out ++ left ≡ all → Each P left → rest ≡ joined (byte ∷ []) text left
            → Left new further all
        by [] w each e = absurd (let n : length rest ≡ 0 = ap length e in omega arith)
        by (x ∷ []) w each e =
            let one : rest ≡ text x = e ∙ append-nil (text x) in
            let at = whole byte rest item further cut (ap (list_all (other byte)) one ∙ items.clean x each.0) in
            record { left = []; sum = more x [] (reads x each.0 (at.0 ∙ one)) w; each = tt; is = at.1 }
        by (x ∷ y ∷ ys) w each e =
            let at = found byte rest item further (text x) (text y ++ flat_map (behind (byte ∷ []) text) ys) cut
            (items.clean x each.0) e in
            record { left = y ∷ ys; sum = more x (y ∷ ys) (reads x each.0 at.0) w; each = each.1; is = at.1 }

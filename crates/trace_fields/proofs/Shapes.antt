-- A coarray that is allocated, cut at its brackets, and its cobounds, cut at their commas.
use Rattle.std.proofs.Common.{◌≡◌, ℕ, ◌<◌, true, ℤ, List, [], ◌∷◌, ◌++◌, flat_map, length, drop, refl, ap, sym, ◌∙◌}
use Rattle.std.proofs.Common.{subst, arith, codes, append_assoc, append-nil}
use Rattle.std.specs.List.{list_all}
use Rattle.caf_events.specs.declared.round.Allotted.{Allotted}
use Rattle.caf_text.specs.Numbers.{decimal_text}
use Rattle.trace_theory.specs.Entries.{Each}
use Rattle.trace_text.specs.TraceText.{joined, name_text, bounds_text, shape_text, cobound_text, allotted_text}
use Rattle.trace_forms.specs.Names.{is_name_byte, AreNames}
use Rattle.trace_forms.specs.Ranges.{IsSigned, AreBounds, AllottedHasText}
use Rattle.trace_forms.proofs.Cuts.{all_append}
use Rattle.trace_forms.proofs.Decimals.{signed_some}
use Rattle.trace_forms.proofs.Pieces.{no_of, name_inside, is_bounds, bounds_list_inside}
use Rattle.trace_forms.proofs.Fields.{is_field}
use Rattle.trace_forms.proofs.Rounds.{allot_text, allot_is, allot_some, allot_inside}
use Rattle.trace_fields.specs.Cutting.{other, IsCutAt}
use Rattle.trace_fields.proofs.Cut.{found, whole}
use Rattle.trace_fields.proofs.Parts.{signed_clean, bounds_items, some_behind}
use Rattle.trace_fields.proofs.Rows.{AreFields}

-- ---- the bounds of an array
shape_clean : (ds : List (ℤ × ℤ)) → Each AreBounds ds → list_all (other 91) (shape_text ds) ≡ true
shape_clean [] h = refl
shape_clean (d ∷ ds) h = all_append (other 91) (joined (44 ∷ []) bounds_text (d ∷ ds)) (codes ")")
    (no_of is_bounds 91 refl (joined (44 ∷ []) bounds_text (d ∷ ds)) (bounds_list_inside (d ∷ ds) h)) refl

shape_cut : (n : List ℕ) → list_all (other 40) n ≡ true → (ds : List (ℤ × ℤ)) (front name shape : List ℕ)
    → IsCutAt 40 front name shape → front ≡ n ++ shape_text ds → (name ≡ n) × (shape ≡ drop 1 (shape_text ds))
shape_cut n clean [] front name shape cut e =
    let one : front ≡ n = e ∙ append-nil n in
    let at = whole 40 front name shape cut (ap (list_all (other 40)) one ∙ clean) in
    (at.0 ∙ one, at.1)
shape_cut n clean (d ∷ ds) front name shape cut e =
    found 40 front name shape n (drop 1 (shape_text (d ∷ ds))) cut clean e

pub shape_bounds : (ds : List (ℤ × ℤ)) → Each AreBounds ds → (text bounds behind : List ℕ)
    → IsCutAt 41 text bounds behind → text ≡ drop 1 (shape_text ds) → bounds ≡ joined (44 ∷ []) bounds_text ds
shape_bounds [] each text bounds behind cut e = (whole 41 text bounds behind cut (ap (list_all (other 41)) e)).0 ∙ e
shape_bounds (d ∷ ds) each text bounds behind cut e =
    (found 41 text bounds behind (joined (44 ∷ []) bounds_text (d ∷ ds))
    [] cut (no_of is_bounds 41 refl (joined (44 ∷ []) bounds_text (d ∷ ds)) (bounds_list_inside (d ∷ ds) each)) e).0

-- ---- a coarray with its bounds and cobounds
-- its text without the blank before it
abbrev pub item_text : List (List ℕ) → Allotted → List ℕ
item_text names a = drop 1 (allotted_text names a)

item_is : (names : List (List ℕ)) (a : Allotted) → item_text names a ≡ allot_text names a
item_is names a = ap (drop 1) (allot_is names a)

module _ (names : List (List ℕ)) (are : AreNames names) where
  pub allotted_parts : (a : Allotted) → AllottedHasText names a → (field front cobounds name shape : List ℕ)
      → IsCutAt 91 field front cobounds → IsCutAt 40 front name shape → 32 ∷ field ≡ allotted_text names a
      → (name ≡ name_text names a.coarray) × (shape ≡ drop 1 (shape_text a.dims))
      × (cobounds ≡ flat_map cobound_text a.codims ++ (decimal_text a.last ++ codes ":*]"))
  allotted_parts a h field front cobounds name shape one two e =
      let n = name_text names a.coarray in
      let s = shape_text a.dims in
      let co = flat_map cobound_text a.codims in
      let l = decimal_text a.last in
      let z = codes ":*]" in
      let inside = name_inside names are a.coarray h.named in
      let right : field ≡ (n ++ s) ++ (91 ∷ (co ++ (l ++ z))) = ap (drop 1) e
      ∙ append_assoc (((n ++ s) ++ codes "[") ++ co) l z ∙ append_assoc ((n ++ s) ++ codes "[") co (l ++ z)
      ∙ append_assoc (n ++ s) (codes "[") (co ++ (l ++ z)) in
      let f = found 91 field front cobounds (n ++ s) (co ++ (l ++ z)) one (all_append (other 91) n s
      (no_of is_name_byte 91 refl n inside) (shape_clean a.dims h.dims)) right in
      let g = shape_cut n (no_of is_name_byte 40 refl n inside) a.dims front name shape two f.0 in
      (g.0, g.1, f.1)

  pub allotted_fields : AreFields (AllottedHasText names) (item_text names)
  allotted_fields = record {
    some = λ a h. subst (λ z. 0 < length z) (sym (item_is names a)) (allot_some names are a h);
    inside = λ a h. ap (list_all is_field) (item_is names a) ∙ allot_inside names are a h;
  }

-- ---- cobounds, the last one without its upper bound
pub record Cobounds (out : List (ℤ × ℤ)) (item behind : List ℕ) (all : List (ℤ × ℤ)) (last : ℤ) : Type 0 where
  pub left : List (ℤ × ℤ)
  pub sum : out ++ left ≡ all
  pub each : Each AreBounds left
  pub rest : List ℕ
  pub cut : IsCutAt 44 rest item behind
  pub is : rest ≡ flat_map cobound_text left ++ (decimal_text last ++ codes ":*]")

last_clean : (last : ℤ) → IsSigned last → list_all (other 44) (decimal_text last ++ codes ":*]") ≡ true
last_clean last h = all_append (other 44) (decimal_text last) (codes ":*]") (signed_clean 44 last refl h) refl

-- a cobound ends at its comma
one_cobound : (b : ℤ × ℤ) (bs : List (ℤ × ℤ)) (tail rest item behind : List ℕ) → AreBounds b
    → IsCutAt 44 rest item behind → rest ≡ flat_map cobound_text (b ∷ bs) ++ tail
    → (item ≡ bounds_text b) × (behind ≡ flat_map cobound_text bs ++ tail)
one_cobound b bs tail rest item behind h cut e =
    found 44 rest item behind (bounds_text b) (flat_map cobound_text bs ++ tail) cut (bounds_items.clean b h) (e
    ∙ append_assoc (cobound_text b) (flat_map cobound_text bs) tail ∙ append_assoc (bounds_text b) (codes ",")
    (flat_map cobound_text bs ++ tail))

not_nil : (xs ys : List ℕ) → 0 < length ys → xs ++ ys ≡ [] → ⊥
not_nil [] ys h e = let n : length ys ≡ 0 = ap length e in omega arith
not_nil (x ∷ xs) ys h e = cc

pub next_cobound : (out : List (ℤ × ℤ)) (item behind : List ℕ) (all : List (ℤ × ℤ)) (last : ℤ) → IsSigned last
    → 0 < length behind → Cobounds out item behind all last → (next further : List ℕ)
    → IsCutAt 44 behind next further → (value : ℤ × ℤ) → ((b : ℤ × ℤ) → AreBounds b → item ≡ bounds_text b → value ≡ b)
    → (new : List (ℤ × ℤ)) → new ≡ out ++ (value ∷ []) → Cobounds new next further all last
next_cobound out item behind all last signed some c next further cut value reads new grown =
    by c.left c.sum c.each c.is
  where
    sums : (x : ℤ × ℤ) (xs : List (ℤ × ℤ)) → value ≡ x → out ++ (x ∷ xs) ≡ all → new ++ xs ≡ all
    sums x xs e w = ap (λ z. z ++ xs) grown ∙ append_assoc out (value ∷ []) xs ∙ ap (λ v. out ++ (v ∷ xs)) e ∙ w

    by : (left : List (ℤ × ℤ)) → out ++ left ≡ all → Each AreBounds left → c.rest ≡ flat_map cobound_text left
        ++ (decimal_text last ++ codes ":*]") → Cobounds new next further all last
    by [] w each e = absurd (let none = whole 44 c.rest item behind c.cut (ap (list_all (other 44)) e
        ∙ last_clean last signed) in let n : length behind ≡ 0 = ap length none.1 in omega arith)
    by (b ∷ bs) w each e =
        let at = one_cobound b bs (decimal_text last ++ codes ":*]") c.rest item behind each.0 c.cut e in
        record {
          left = bs;
          sum = sums b bs (reads b each.0 at.0) w;
          each = each.1;
          rest = behind;
          cut = cut;
          is = at.1;
        }

pub last_cobound : (out : List (ℤ × ℤ)) (item behind : List ℕ) (all : List (ℤ × ℤ)) (last : ℤ) → IsSigned last
    → behind ≡ [] → Cobounds out item behind all last → (lower upper : List ℕ) → IsCutAt 58 item lower upper
    → (out ≡ all) × (lower ≡ decimal_text last)
last_cobound out item behind all last signed none c lower upper two = by c.left c.sum c.each c.is
  where
    by : (left : List (ℤ × ℤ)) → out ++ left ≡ all → Each AreBounds left → c.rest ≡ flat_map cobound_text left
        ++ (decimal_text last ++ codes ":*]") → (out ≡ all) × (lower ≡ decimal_text last)
    by [] w each e =
        let at = whole 44 c.rest item behind c.cut (ap (list_all (other 44)) e ∙ last_clean last signed) in (
          sym (append-nil out) ∙ w,
          (found 58 item lower upper (decimal_text last) (codes "*]") two
              (signed_clean 58 last refl signed) (at.0 ∙ e)).0,
        )
    by (b ∷ bs) w each e =
        let at = one_cobound b bs (decimal_text last ++ codes ":*]") c.rest item behind each.0 c.cut e in
        absurd (not_nil (flat_map cobound_text bs) (decimal_text last ++ codes ":*]") (some_behind (decimal_text last)
        (codes ":*]") (signed_some last signed)) (sym at.1 ∙ none))

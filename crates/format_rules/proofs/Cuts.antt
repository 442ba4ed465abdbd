-- Pieces that are cut behind the digits in front, or before the first comma.
use Rattle.std.proofs.Common.{◌≡◌, ◌∙◌, ℕ, suc, Bool, true, false, List, [], ◌∷◌, ◌++◌, length, take, drop, map, refl, sym, ap, append_assoc}
use Rattle.std.specs.Prelude.{cond, Option, Some, None}
use Rattle.std.specs.Option.{option_map}
use Rattle.std.proofs.lemmas.List.{map-append}
use Rattle.checked_tree.specs.declared.format.Descriptor.{Descriptor}
use Rattle.rule_definitions.specs.Formats.{Counted, counted, with_digit, is_digit, is_sign, between_commas, onto_first, with_descriptor}
use Rattle.rule_definitions.specs.Formats as rules
use Rattle.format_rules.specs.declared.piece.Piece.{Piece}
use Rattle.format_rules.specs.declared.piece.Piece.TheVariants.{Sign, Quoted}
use Rattle.format_rules.specs.Views.{seen, first_len, behind_comma}

-- a sign, digit or not, before these
abbrev pub counted_by : Bool → ℕ → List rules.Piece → Counted
counted_by t b xs = cond t (with_digit b (counted xs)) (record { digits = []; rest = rules.sign b ∷ xs })

-- how many digits stand in front
abbrev pub front : List Piece → ℕ
front xs = length (counted (map seen xs)).digits

abbrev CutDigits : Counted → ℕ → List Piece → Type 0
CutDigits c n xs = c ≡ record { digits = (counted (map seen (take n xs))).digits; rest = map seen (drop n xs) }

cut_sign : (t : Bool) (b : ℕ) (xs : List Piece) → is_digit b ≡ t → CutDigits (counted (map seen xs)) (front xs) xs
    → CutDigits (counted_by t b (map seen xs)) (length (counted_by t b (map seen xs)).digits) (Sign b ∷ xs)
cut_sign true b xs e h =
    ap (with_digit b) h
    ∙ ap (λ (t : Bool). record { digits = (counted_by t b (map seen (take (front xs) xs))).digits; rest = map seen (drop (front xs) xs) }) (sym e)
cut_sign false b xs e h = refl

digits_cut : (xs : List Piece) → CutDigits (counted (map seen xs)) (front xs) xs
digits_cut [] = refl
digits_cut (Sign b ∷ xs) = cut_sign (is_digit b) b xs refl (digits_cut xs)
digits_cut (Quoted w ∷ xs) = refl

whole_sign : (t : Bool) (b : ℕ) (xs : List Piece) → is_digit b ≡ t → (counted (map seen (take (front xs) xs))).rest ≡ []
    → (counted (map seen (take (length (counted_by t b (map seen xs)).digits) (Sign b ∷ xs)))).rest ≡ []
whole_sign true b xs e h = ap (λ (t : Bool). (counted_by t b (map seen (take (front xs) xs))).rest) e ∙ h
whole_sign false b xs e h = refl

pub digits_whole : (xs : List Piece) → (counted (map seen (take (front xs) xs))).rest ≡ []
digits_whole [] = refl
digits_whole (Sign b ∷ xs) = whole_sign (is_digit b) b xs refl (digits_whole xs)
digits_whole (Quoted w ∷ xs) = refl

-- the item before the first comma, and the others

abbrev CutItem : List (List rules.Piece) → ℕ → List Piece → Type 0
CutItem gs n xs = gs ≡ map seen (take n xs) ∷ behind_comma (map seen (drop n xs))

cut_comma : (t : Bool) (x : Piece) (xs : List Piece) → CutItem (between_commas (map seen xs)) (first_len (map seen xs)) xs
    → CutItem (cond t ([] ∷ between_commas (map seen xs)) (onto_first (seen x) (between_commas (map seen xs)))) (cond t 0 (suc (first_len (map seen xs)))) (x ∷ xs)
cut_comma true x xs h = refl
cut_comma false x xs h = ap (onto_first (seen x)) h

item_cut : (xs : List Piece) → CutItem (between_commas (map seen xs)) (first_len (map seen xs)) xs
item_cut [] = refl
item_cut (x ∷ xs) = cut_comma (is_sign 44 (seen x)) x xs (item_cut xs)

-- one item more, behind the earlier ones
one_more : (ds es : List Descriptor) (d : Option Descriptor) (o : Option (List Descriptor)) → Some es ≡ option_map (λ x. ds ++ x ∷ []) d
    → option_map (λ xs. es ++ xs) o ≡ option_map (λ xs. ds ++ xs) (with_descriptor d o)
one_more ds es None o h = cc
one_more ds es (Some d) None h = refl
one_more ds es (Some d) (Some xs) h =
    let e : es ≡ ds ++ d ∷ [] = cc in
    ap (λ ys. Some (ys ++ xs)) e ∙ ap Some (append_assoc ds (d ∷ []) xs)

no_more : (ds : List Descriptor) (d : Option Descriptor) (o : Option (List Descriptor)) → None ≡ option_map (λ x. ds ++ x ∷ []) d
    → None ≡ option_map (λ xs. ds ++ xs) (with_descriptor d o)
no_more ds None o h = refl
no_more ds (Some d) o h = cc

with_first : (y : rules.Piece) (xs : List rules.Piece) (t : Bool) → rules.with_piece y (cond t (Some xs) None) ≡ cond t (Some (y ∷ xs)) None
with_first y xs true = refl
with_first y xs false = refl

-- what stands before the closing bracket
bracket_last : (xs : List rules.Piece) (x : rules.Piece) → rules.up_to_bracket (xs ++ x ∷ []) ≡ cond (is_sign 41 x) (Some xs) None
bracket_last [] x = refl
bracket_last (y ∷ []) x = with_first y [] (is_sign 41 x)
bracket_last (y ∷ z ∷ xs) x = ap (rules.with_piece y) (bracket_last (z ∷ xs) x) ∙ with_first y (z ∷ xs) (is_sign 41 x)

pub in_bracket_list : (ps bs inside : List Piece) (x y : Piece) → ps ≡ x ∷ bs → bs ≡ inside ++ y ∷ [] → is_sign 40 (seen x) ≡ true
    → rules.in_brackets (map seen ps) ≡ cond (is_sign 41 (seen y)) (Some (map seen inside)) None
in_bracket_list ps bs inside x y p q h =
    ap (λ (l : List Piece). rules.in_brackets (map seen l)) p
    ∙ ap (λ (t : Bool). cond t (rules.up_to_bracket (map seen bs)) None) h
    ∙ ap (λ (l : List Piece). rules.up_to_bracket (map seen l)) q
    ∙ ap rules.up_to_bracket (map-append seen inside (y ∷ []))
    ∙ bracket_last (map seen inside) (seen y)

-- an item behind its digits
edited_cut : (ps ds bs : List Piece) → ds ≡ take (front ps) ps → bs ≡ drop (front ps) ps
    → rules.edited_behind (counted (map seen ps)) ≡ rules.edited_behind (record { digits = (counted (map seen ds)).digits; rest = map seen bs })
edited_cut ps ds bs d b =
    ap rules.edited_behind (digits_cut ps)
    ∙ ap (λ (l : List Piece). rules.edited_behind (record { digits = (counted (map seen l)).digits; rest = map seen (drop (front ps) ps) })) (sym d)
    ∙ ap (λ (l : List Piece). rules.edited_behind (record { digits = (counted (map seen ds)).digits; rest = map seen l })) (sym b)

pub edited_sign : (ps ds bs cs : List Piece) (b : ℕ) → ds ≡ take (front ps) ps → bs ≡ drop (front ps) ps → bs ≡ Sign b ∷ cs
    → rules.edited_behind (counted (map seen ps)) ≡ rules.edited (counted (map seen ds)).digits b (map seen cs)
edited_sign ps ds bs cs b d e h =
    edited_cut ps ds bs d e
    ∙ ap (λ (l : List Piece). rules.edited_behind (record { digits = (counted (map seen ds)).digits; rest = map seen l })) h

-- turns of the loop over the items: the items so far, and those that are left
abbrev pub read : List Descriptor → Option (List Descriptor) → Option (List Descriptor)
read ds o = option_map (λ xs. ds ++ xs) o

pub nothing_read : (o : Option (List Descriptor)) → read [] o ≡ o
nothing_read None = refl
nothing_read (Some ds) = refl

module _ (ps g bs : List Piece) (ds : List Descriptor) where
  item_parts : g ≡ take (first_len (map seen ps)) ps → bs ≡ drop (first_len (map seen ps)) ps → between_commas (map seen ps) ≡ map seen g ∷ behind_comma (map seen bs)
  item_parts e f =
      item_cut ps
      ∙ ap (λ (l : List Piece). map seen l ∷ behind_comma (map seen (drop (first_len (map seen ps)) ps))) (sym e)
      ∙ ap (λ (l : List Piece). map seen g ∷ behind_comma (map seen l)) (sym f)

  pub item_turn : (es : List Descriptor) → g ≡ take (first_len (map seen ps)) ps → bs ≡ drop (first_len (map seen ps)) ps
      → Some es ≡ option_map (λ x. ds ++ x ∷ []) (rules.descriptor (map seen g))
      → read es (rules.all_descriptors (behind_comma (map seen bs))) ≡ read ds (rules.all_descriptors (between_commas (map seen ps)))
  item_turn es e f h =
      one_more ds es (rules.descriptor (map seen g)) (rules.all_descriptors (behind_comma (map seen bs))) h
      ∙ ap (λ (gs : List (List rules.Piece)). read ds (rules.all_descriptors gs)) (sym (item_parts e f))

  pub item_none : g ≡ take (first_len (map seen ps)) ps → bs ≡ drop (first_len (map seen ps)) ps
      → None ≡ option_map (λ x. ds ++ x ∷ []) (rules.descriptor (map seen g))
      → None ≡ read ds (rules.all_descriptors (between_commas (map seen ps)))
  item_none e f h =
      no_more ds (rules.descriptor (map seen g)) (rules.all_descriptors (behind_comma (map seen bs))) h
      ∙ ap (λ (gs : List (List rules.Piece)). read ds (rules.all_descriptors gs)) (sym (item_parts e f))

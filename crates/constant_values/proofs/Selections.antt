-- The elements of a section, by their places.
use Rattle.std.proofs.Common.{◌≡◌, ℕ, zero, suc, ◌+◌, ◌-◌, ◌<◌, ◌≤◌, Bool, true, false, cond, List, [], ◌∷◌, ◌++◌, length, get_or, take, drop, map, refl, sym, ap, ◌∙◌, arith, append_assoc}
use Rattle.std.specs.Prelude.{ℤ, ◌+ℤ◌, ◌&&◌, Option, Some, None, replicate}
use Rattle.std.specs.Option.{option_map}
use Rattle.std.proofs.lemmas.Grind.{common_steps}
use Rattle.std.proofs.lemmas.List.{map-append}
use Rattle.caf_base.specs.declared.value.Value.{Value}
use Rattle.coarray_types.specs.Places.{subscript_order, size_of}
use Rattle.checked_tree.specs.declared.data.Constant.{Constant}
use Rattle.rule_definitions.specs.Constants as k
use Rattle.rule_definitions.specs.Constants.{before_each, selected, selected_with, selected_before, all_inside, is_inside, row, row_chosen, several, no_choice, taken_elements, element_at}
use Rattle.constant_values.proofs.Lists.{front_of}
use Rattle.constant_values.specs.declared.part.Section.{Section}
use Rattle.constant_values.specs.Selections.{Places, places_of, place_in, places_before, with_choice, with_choice_of, value_at, taken_at}
use Rattle.constant_values.specs.Views.{subscript}

-- one list of subscripts, before which each of these stands
before_one : (d : ℤ × ℤ) (ds : List (ℤ × ℤ)) (l : List ℤ) (ns : List ℤ) → map (subscript_order (d ∷ ds)) (map (λ n. n ∷ l) ns) ≡ map (place_in d (subscript_order ds l)) ns
before_one d ds l [] = refl
before_one d ds l (n ∷ ns) = ap (λ r. place_in d (subscript_order ds l) n ∷ r) (before_one d ds l ns)

before_is : (d : ℤ × ℤ) (ds : List (ℤ × ℤ)) (ns : List ℤ) (ls : List (List ℤ)) → map (subscript_order (d ∷ ds)) (before_each ns ls) ≡ places_before d ns (map (subscript_order ds) ls)
before_is d ds ns [] = refl
before_is d ds ns (l ∷ ls) =
    map-append (subscript_order (d ∷ ds)) (map (λ n. n ∷ l) ns) (before_each ns ls)
    ∙ ap (λ r. r ++ map (subscript_order (d ∷ ds)) (before_each ns ls)) (before_one d ds l ns)
    ∙ ap (λ r. map (place_in d (subscript_order ds l)) ns ++ r) (before_is d ds ns ls)

with_choice_is : (d : ℤ × ℤ) (ds : List (ℤ × ℤ)) (c : k.Chosen) (r : k.Selection) → option_map (places_of (d ∷ ds)) (selected_with c r) ≡ with_choice d c (places_of ds r)
with_choice_is d ds (k.one n) r = ap (λ ps. Some (record { extents = r.extents; places = ps })) (before_is d ds (n ∷ []) r.lists)
with_choice_is d ds (k.several ns) r = ap (λ ps. Some (record { extents = length ns ∷ r.extents; places = ps })) (before_is d ds ns r.lists)
with_choice_is d ds k.no_choice r = refl

before_choice : (d : ℤ × ℤ) (ds : List (ℤ × ℤ)) (c : k.Chosen) (o : Option k.Selection) → option_map (places_of (d ∷ ds)) (selected_before c o) ≡ with_choice_of d c (option_map (places_of ds) o)
before_choice d ds c None = refl
before_choice d ds c (Some r) = with_choice_is d ds c r

abbrev rest : {T : Type 0} → List T → List T
rest xs = take (length xs - 1) (drop 1 xs)

-- a dimension more
pub select_front : (ds : List (ℤ × ℤ)) (xs : List Section) (d : ℤ × ℤ) (x : Section) → 1 ≤ length ds → 1 ≤ length xs
    → with_choice_of (get_or ds 0 d) (k.chosen (get_or ds 0 d) (subscript (get_or xs 0 x))) (option_map (places_of (rest ds)) (selected (rest ds) (map subscript (rest xs))))
    ≡ option_map (places_of ds) (selected ds (map subscript xs))
select_front ds xs d x h g =
    sym (before_choice (get_or ds 0 d) (rest ds) (k.chosen (get_or ds 0 d) (subscript (get_or xs 0 x))) (selected (rest ds) (map subscript (rest xs))))
    ∙ ap (λ l. option_map (places_of l) (selected l (map subscript (get_or xs 0 x ∷ rest xs)))) (front_of ds d h)
    ∙ ap (λ l. option_map (places_of ds) (selected ds (map subscript l))) (front_of xs x g)

taken_lists : (ds : List (ℤ × ℤ)) (vs : List Value) (ls : List (List ℤ)) → map (element_at ds vs) ls ≡ map (value_at vs) (map (subscript_order ds) ls)
taken_lists ds vs [] = refl
taken_lists ds vs (l ∷ ls) = ap (λ r. element_at ds vs l ∷ r) (taken_lists ds vs ls)

taken_with : (ds : List (ℤ × ℤ)) (vs : List Value) (es : List ℕ) (ls : List (List ℤ)) → taken_at vs (places_of ds (record { extents = es; lists = ls })) ≡ taken_elements ds vs (Some (record { extents = es; lists = ls }))
taken_with ds vs [] ls = ap k.first_value (sym (taken_lists ds vs ls))
taken_with ds vs (e ∷ es) ls = ap (k.values (e ∷ es)) (sym (taken_lists ds vs ls))

pub taken_is : (ds : List (ℤ × ℤ)) (vs : List Value) (r : k.Selection) → taken_at vs (places_of ds r) ≡ taken_elements ds vs (Some r)
taken_is ds vs r = taken_with ds vs r.extents r.lists

-- what is taken of an array of which the places are found
pub taken_found : (ds : List (ℤ × ℤ)) (vs : List Value) (o : Option k.Selection) (p : Places) → Some p ≡ option_map (places_of ds) o → taken_at vs p ≡ taken_elements ds vs o
taken_found ds vs None p h = cc
taken_found ds vs (Some r) p h = let e : p ≡ places_of ds r = cc in ap (taken_at vs) e ∙ taken_is ds vs r

pub none_found : (ds : List (ℤ × ℤ)) (vs : List Value) (o : Option k.Selection) → None ≡ option_map (places_of ds) o → k.no_constant ≡ taken_elements ds vs o
none_found ds vs None h = refl
none_found ds vs (Some r) h = cc

pub some_sections : (c : Constant) (xs : List Section) → 1 ≤ length xs
    → taken_elements c.shape.dims (k.initial_values c.values (size_of c.shape.dims)) (selected c.shape.dims (map subscript xs)) ≡ k.part_of_constant c (map subscript xs)
some_sections c [] h = absurd (omega (arith, h))
some_sections c (x ∷ xs) h = refl

-- the rows of triplets

pub row_step : (c i : ℕ) (s n : ℤ) → i < c → row (c - i) s n ≡ n ∷ row (c - (i + 1)) s (n +ℤ s)
row_step c i s n h = let e : c - i ≡ suc (c - (i + 1)) = omega (arith, h) in ap (λ m. row m s n) e

pub all_more : (d : ℤ × ℤ) (xs : List ℤ) (n : ℤ) → all_inside d xs ≡ true → is_inside d n ≡ true → all_inside d (xs ++ n ∷ []) ≡ true
all_more d [] n h g = ap (λ b. b && true) g
all_more d (x ∷ xs) n h g =
    let p : is_inside d x ≡ true = grind (arith, common_steps) in
    let q : all_inside d xs ≡ true = grind (arith, common_steps) in
    ap (λ b. b && all_inside d (xs ++ n ∷ [])) p ∙ all_more d xs n q g

pub inside_none : (b : Bool) (n : ℤ) → None ≡ cond b (Some n) None → b ≡ false
inside_none true n h = cc
inside_none false n h = refl

pub inside_some : (b : Bool) (n m : ℤ) → Some m ≡ cond b (Some n) None → (b ≡ true) × (m ≡ n)
inside_some true n m h = (refl, cc)
inside_some false n m h = cc

pub row_turn : (d : ℤ × ℤ) (xs ys whole : List ℤ) (c i : ℕ) (s n m t : ℤ) → i < c → Some m ≡ cond (is_inside d n) (Some n) None → ys ≡ xs ++ m ∷ [] → t ≡ m +ℤ s
    → (xs ++ row (c - i) s n ≡ whole) × (all_inside d xs ≡ true) → (ys ++ row (c - (i + 1)) s t ≡ whole) × (all_inside d ys ≡ true)
row_turn d xs ys whole c i s n m t h p e q v =
    let b = inside_some (is_inside d n) n m p in
    let k : t ≡ n +ℤ s = q ∙ ap (λ z. z +ℤ s) b.1 in
    let r : ys ≡ xs ++ n ∷ [] = e ∙ ap (λ z. xs ++ z ∷ []) b.1 in (
      ap (λ l. l ++ row (c - (i + 1)) s t) r ∙ ap (λ z. (xs ++ n ∷ []) ++ row (c - (i + 1)) s z) k
          ∙ append_assoc xs (n ∷ []) (row (c - (i + 1)) s (n +ℤ s)) ∙ ap (λ l. xs ++ l) (sym (row_step c i s n h)) ∙ v.0,
      ap (all_inside d) r ∙ all_more d xs n v.1 b.0,
    )

all_before : (d : ℤ × ℤ) (xs : List ℤ) (n : ℤ) (ys : List ℤ) → is_inside d n ≡ false → all_inside d (xs ++ n ∷ ys) ≡ false
all_before d [] n ys h = ap (λ b. b && all_inside d ys) h
all_before d (x ∷ xs) n ys h = ap (λ b. is_inside d x && b) (all_before d xs n ys h) ∙ grind (arith, common_steps)

pub row_left : (d : ℤ × ℤ) (xs whole : List ℤ) (c i : ℕ) (s n : ℤ) → i < c → xs ++ row (c - i) s n ≡ whole → is_inside d n ≡ false → row_chosen d whole ≡ no_choice
row_left d xs whole c i s n h e g =
    let w : all_inside d whole ≡ false = ap (all_inside d) (sym e ∙ ap (λ r. xs ++ r) (row_step c i s n h)) ∙ all_before d xs n (row (c - (i + 1)) s (n +ℤ s)) g in
    ap (λ b. cond b (several whole) no_choice) w

pub row_done : (d : ℤ × ℤ) (xs whole : List ℤ) → xs ≡ whole → all_inside d xs ≡ true → several xs ≡ row_chosen d whole
row_done d xs whole e g = ap (λ b. cond b (several xs) no_choice) (sym g) ∙ ap (row_chosen d) e

-- the elements of an array that has one value throughout
pub same_value : (n i : ℕ) (v d : Value) → i < n → get_or (replicate n v) i d ≡ v
same_value zero i v d h = absurd (omega (arith, h))
same_value (suc n) zero v d h = refl
same_value (suc n) (suc i) v d h = let g : i < n = omega (arith, h) in same_value n i v d g

pub no_value : (n i : ℕ) (v d : Value) → n ≤ i → get_or (replicate n v) i d ≡ d
no_value zero i v d h = refl
no_value (suc n) zero v d h = absurd (omega (arith, h))
no_value (suc n) (suc i) v d h = let g : n ≤ i = omega (arith, h) in no_value n i v d g

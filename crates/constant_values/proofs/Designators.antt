-- What is known of designators.
use Rattle.std.proofs.Common.{◌≡◌, ℕ, ◌-◌, ◌≤◌, Bool, true, List, [], ◌∷◌, ◌++◌, length, get_or, take, drop, map, refl, sym, ap, ◌∙◌, append_assoc}
use Rattle.std.specs.Prelude.{ℤ, pos, ◌&&◌, Option, Some, None, is_some}
use Rattle.caf_base.specs.declared.value.Value.TheVariants.{Int, Bool as Truth}
use Rattle.coarray_types.specs.Places.{size_of}
use Rattle.checked_tree.specs.Expressions as t
use Rattle.checked_tree.specs.ExpressionViews.{maybe_selector, selector_is}
use Rattle.checked_tree.specs.declared.expr.Selector.{Selector as SelectorType}
use Rattle.checked_tree.specs.declared.data.Object.{Object}
use Rattle.checked_tree.specs.declared.data.Object.TheVariants as objects
use Rattle.checked_tree.specs.declared.data.Constant.{Constant}
use Rattle.rule_definitions.specs.Names.{KnownBounds, Scope}
use Rattle.rule_definitions.specs.Judgements.{item_at}
use Rattle.rule_definitions.specs.Arguments.{agrees, all_agree}
use Rattle.rule_definitions.specs.Constants as k
use Rattle.constant_values.proofs.Lists.{front_of}
use Rattle.constant_values.specs.declared.part.Section.{Section}
use Rattle.constant_values.specs.Sections.{section_dimension}
use Rattle.constant_values.specs.Views.{subscript, plain_part, plain_subscript, some_selector, is_there_selector}

abbrev rest : {T : Type 0} → List T → List T
rest xs = take (length xs - 1) (drop 1 xs)

section_more : (d : KnownBounds) (ds : List KnownBounds) (x : k.KnownSubscript) (xs : List k.KnownSubscript) → k.section_bounds (d ∷ ds) (x ∷ xs) ≡ section_dimension d x ++ k.section_bounds ds xs
section_more d ds (k.known_element c) xs = refl
section_more d ds (k.known_triplet a b c) xs = refl

pub section_front : (ds : List KnownBounds) (xs : List Section) (d : KnownBounds) (x : Section) → 1 ≤ length ds → 1 ≤ length xs
    → section_dimension (get_or ds 0 d) (subscript (get_or xs 0 x)) ++ k.section_bounds (rest ds) (map subscript (rest xs)) ≡ k.section_bounds ds (map subscript xs)
section_front ds xs d x h g =
    sym (section_more (get_or ds 0 d) (rest ds) (subscript (get_or xs 0 x)) (map subscript (rest xs)))
    ∙ ap (λ l. k.section_bounds l (map subscript (get_or xs 0 x ∷ rest xs))) (front_of ds d h)
    ∙ ap (λ l. k.section_bounds ds (map subscript l)) (front_of xs x g)

pub section_turn : (old new all : List KnownBounds) (ds : List KnownBounds) (xs : List Section) (d : KnownBounds) (x : Section) → 1 ≤ length ds → 1 ≤ length xs
    → new ≡ old ++ section_dimension (get_or ds 0 d) (subscript (get_or xs 0 x)) → all ≡ new ++ k.section_bounds (rest ds) (map subscript (rest xs)) → all ≡ old ++ k.section_bounds ds (map subscript xs)
section_turn old new all ds xs d x h g e q =
    q ∙ ap (λ l. l ++ k.section_bounds (rest ds) (map subscript (rest xs))) e
    ∙ append_assoc old (section_dimension (get_or ds 0 d) (subscript (get_or xs 0 x))) (k.section_bounds (rest ds) (map subscript (rest xs)))
    ∙ ap (λ l. old ++ l) (section_front ds xs d x h g)

-- of a part of a subscript the integer alone counts

part_or_plain : (p : k.TripletPart) (n : ℤ) → k.part_or (plain_part p) n ≡ k.part_or p n
part_or_plain k.unwritten n = refl
part_or_plain (k.written (k.value (Int m))) n = refl
part_or_plain (k.written (k.value (Truth b))) n = refl
part_or_plain (k.written (k.values es vs)) n = refl
part_or_plain (k.written k.no_constant) n = refl

end_or_plain : (p : k.TripletPart) (o : Option ℤ) → k.end_or (plain_part p) o ≡ k.end_or p o
end_or_plain k.unwritten o = refl
end_or_plain (k.written (k.value (Int m))) o = refl
end_or_plain (k.written (k.value (Truth b))) o = refl
end_or_plain (k.written (k.values es vs)) o = refl
end_or_plain (k.written k.no_constant) o = refl

chosen_plain : (d : ℤ × ℤ) (x : k.KnownSubscript) → k.chosen d (plain_subscript x) ≡ k.chosen d x
chosen_plain d (k.known_element (k.value (Int m))) = refl
chosen_plain d (k.known_element (k.value (Truth b))) = refl
chosen_plain d (k.known_element (k.values es vs)) = refl
chosen_plain d (k.known_element k.no_constant) = refl
chosen_plain d (k.known_triplet a b c) =
    ap (λ o. k.triplet_chosen d o (k.part_or (plain_part b) d.1) (k.part_or (plain_part c) (pos 1))) (part_or_plain a d.0)
    ∙ ap (λ o. k.triplet_chosen d (k.part_or a d.0) o (k.part_or (plain_part c) (pos 1))) (part_or_plain b d.1)
    ∙ ap (k.triplet_chosen d (k.part_or a d.0) (k.part_or b d.1)) (part_or_plain c (pos 1))

selected_plain : (ds : List (ℤ × ℤ)) (xs : List k.KnownSubscript) → k.selected ds (map plain_subscript xs) ≡ k.selected ds xs
selected_plain [] [] = refl
selected_plain [] (x ∷ xs) = refl
selected_plain (d ∷ ds) [] = refl
selected_plain (d ∷ ds) (x ∷ xs) =
    ap (λ c. k.selected_before c (k.selected ds (map plain_subscript xs))) (chosen_plain d x) ∙ ap (k.selected_before (k.chosen d x)) (selected_plain ds xs)

constant_plain : (o : Option Constant) (xs : List k.KnownSubscript) → k.part_of_table o (map plain_subscript xs) ≡ k.part_of_table o xs
constant_plain None xs = refl
constant_plain (Some c) [] = refl
constant_plain (Some c) (x ∷ xs) = ap (k.taken_elements c.shape.dims (k.initial_values c.values (size_of c.shape.dims))) (selected_plain c.shape.dims (x ∷ xs))

constancy_plain : (s : Scope) (o : Object) (xs : List k.KnownSubscript) (c : t.Selector) → k.part_constancy s o (map plain_subscript xs) c ≡ k.part_constancy s o xs c
constancy_plain s (objects.Constant n) xs t.no_selector = constant_plain (item_at s.constants n) xs
constancy_plain s (objects.Constant n) xs (t.selector es y r) = refl
constancy_plain s (objects.Local l) xs c = refl
constancy_plain s (objects.Coarray n) xs c = refl

dimension_plain : (d : KnownBounds) (x : k.KnownSubscript) → section_dimension d (plain_subscript x) ≡ section_dimension d x
dimension_plain d (k.known_element c) = refl
dimension_plain d (k.known_triplet a b c) =
    ap (λ o. k.triplet_bounds o (k.end_or (plain_part b) (k.upper_of d)) (k.part_or (plain_part c) (pos 1)) ∷ []) (end_or_plain a (k.lower_of d))
    ∙ ap (λ o. k.triplet_bounds (k.end_or a (k.lower_of d)) o (k.part_or (plain_part c) (pos 1)) ∷ []) (end_or_plain b (k.upper_of d))
    ∙ ap (λ o. k.triplet_bounds (k.end_or a (k.lower_of d)) (k.end_or b (k.upper_of d)) o ∷ []) (part_or_plain c (pos 1))

sections_plain : (ds : List KnownBounds) (xs : List k.KnownSubscript) → k.section_bounds ds (map plain_subscript xs) ≡ k.section_bounds ds xs
sections_plain [] [] = refl
sections_plain [] (x ∷ xs) = refl
sections_plain (d ∷ ds) [] = refl
sections_plain (d ∷ ds) (x ∷ xs) =
    section_more d ds (plain_subscript x) (map plain_subscript xs)
    ∙ ap (λ l. l ++ k.section_bounds ds (map plain_subscript xs)) (dimension_plain d x)
    ∙ ap (λ l. section_dimension d x ++ l) (sections_plain ds xs)
    ∙ sym (section_more d ds x xs)

bounds_plain : (ds : List KnownBounds) (xs : List k.KnownSubscript) → k.bounds_behind ds (map plain_subscript xs) ≡ k.bounds_behind ds xs
bounds_plain ds [] = refl
bounds_plain ds (x ∷ xs) = sections_plain ds (x ∷ xs)

pub part_plain : (s : Scope) (o : Object) (xs : List k.KnownSubscript) (c : t.Selector) → k.known_part s o (map plain_subscript xs) c ≡ k.known_part s o xs c
part_plain s o xs c =
    ap (λ v. record { constancy = v; bounds = k.bounds_behind (k.declared_bounds s o) (map plain_subscript xs) }) (constancy_plain s o xs c)
    ∙ ap (λ l. record { constancy = k.part_constancy s o xs c; bounds = l }) (bounds_plain (k.declared_bounds s o) xs)

-- whatever a selector says, a coindexed part isn't constant
any_selector : (s : Scope) (o : Object) (xs : List k.KnownSubscript) (c : t.Selector) → k.part_constancy s o xs (some_selector (is_there_selector c)) ≡ k.part_constancy s o xs c
any_selector s o xs t.no_selector = refl
any_selector s (objects.Constant n) xs (t.selector es y r) = refl
any_selector s (objects.Local l) xs (t.selector es y r) = refl
any_selector s (objects.Coarray n) xs (t.selector es y r) = refl

pub part_coindexed : (s : Scope) (o : Object) (xs : List k.KnownSubscript) (c : t.Selector) → k.known_part s o xs (some_selector (is_there_selector c)) ≡ k.known_part s o xs c
part_coindexed s o xs c = ap (λ v. record { constancy = v; bounds = k.bounds_behind (k.declared_bounds s o) xs }) (any_selector s o xs c)

pub part_is : (s : Scope) (o : Object) (ls : List Section) (xs : List k.KnownSubscript) (c : t.Selector) (b : Bool) → map subscript ls ≡ map plain_subscript xs → b ≡ is_there_selector c
    → k.known_part s o (map subscript ls) (some_selector b) ≡ k.known_part s o xs c
part_is s o ls xs c b e h =
    ap (λ l. k.known_part s o l (some_selector b)) e ∙ ap (λ t'. k.known_part s o (map plain_subscript xs) (some_selector t')) h
    ∙ part_plain s o xs (some_selector (is_there_selector c)) ∙ part_coindexed s o xs c

pub is_some_selector : (o : Option SelectorType) (b : Bool) → b ≡ is_some o → b ≡ is_there_selector (maybe_selector o)
is_some_selector None b h = h
is_some_selector (Some c) b h = h ∙ sym (ap is_there_selector (selector_is c))

-- extents that agree

no_extents : (as' : List (Option ℕ)) → all_agree as' [] ≡ true
no_extents [] = refl
no_extents (a ∷ as') = refl

pub agree_front : (ds es : List KnownBounds) (d e : KnownBounds) → 1 ≤ length ds → 1 ≤ length es
    → (agrees (k.known_extent (get_or ds 0 d)) (k.known_extent (get_or es 0 e)) && all_agree (map k.known_extent (rest ds)) (map k.known_extent (rest es)))
    ≡ all_agree (map k.known_extent ds) (map k.known_extent es)
agree_front ds es d e h g =
    ap (λ l. all_agree (map k.known_extent l) (map k.known_extent (get_or es 0 e ∷ rest es))) (front_of ds d h)
    ∙ ap (λ l. all_agree (map k.known_extent ds) (map k.known_extent l)) (front_of es e g)

pub agree_turn : (ds es : List KnownBounds) (d e : KnownBounds) (r : Bool) → 1 ≤ length ds → 1 ≤ length es → true ≡ agrees (k.known_extent (get_or ds 0 d)) (k.known_extent (get_or es 0 e))
    → r ≡ all_agree (map k.known_extent (rest ds)) (map k.known_extent (rest es)) → r ≡ all_agree (map k.known_extent ds) (map k.known_extent es)
agree_turn ds es d e r h g p q =
    q ∙ ap (λ b. b && all_agree (map k.known_extent (rest ds)) (map k.known_extent (rest es))) p ∙ agree_front ds es d e h g

-- What a procedure declares, by what is written in it.
use Rattle.std.proofs.Common.{◌≡◌, ℕ, Bool, true, false, ◌||◌, List, [], ◌∷◌, ◌++◌, Some, None, map, refl, sym, ap, ◌∙◌}
use Rattle.std.specs.Prelude.{bytes_eq, cond}
use Rattle.std.proofs.lemmas.Slice.Eq.{bytes_eq-Decides}
use Rattle.fortran_tree.specs.DeclarationViews.{declaration}
use Rattle.fortran_tree.specs.Statements as t
use Rattle.fortran_tree.specs.Units as u
use Rattle.fortran_tree.specs.Units.{Heading}
use Rattle.fortran_tree.specs.declared.declaration.Declaration.{Declaration}
use Rattle.fortran_tree.specs.declared.name.Name.{Name}
use Rattle.rule_definitions.specs.Declarations.{names_declared, names_of}
use Rattle.rule_definitions.specs.Names.{is_among}
use Rattle.rule_definitions.specs.Units.{headed, text_of, dummies_of}
use Rattle.module_units.specs.Visible.{declared_by, names_of_entities, locals_of, without}
use Rattle.scope_table.proofs.Sets.{among_both}
use Rattle.unit_locals.specs.Written.{is_own_name, written_names}

pub map_append : {A B : Type 0} (f : A → B) (xs ys : List A) → map f (xs ++ ys) ≡ map f xs ++ map f ys
map_append f [] ys = refl
map_append f (x ∷ xs) ys = ap (λ z. f x ∷ z) (map_append f xs ys)

texts_of_entities : (es : List t.Entity) → map text_of (names_of_entities es) ≡ names_of es
texts_of_entities [] = refl
texts_of_entities (e ∷ es) = ap (λ z. e.name.text ∷ z) (texts_of_entities es)

pub declared_texts : (ds : List t.Declaration) → map text_of (declared_by ds) ≡ names_declared ds
declared_texts [] = refl
declared_texts (d ∷ ds) =
    map_append text_of (names_of_entities d.entities) (declared_by ds)
    ∙ ap (λ z. z ++ map text_of (declared_by ds)) (texts_of_entities d.entities)
    ∙ ap (λ z. names_of d.entities ++ z) (declared_texts ds)

or_turned : (a b : Bool) → (a || b) ≡ (b || a)
or_turned true true = refl
or_turned true false = refl
or_turned false true = refl
or_turned false false = refl

or_three : (a b c : Bool) → (a || (b || c)) ≡ (c || (b || a))
or_three true true true = refl
or_three true true false = refl
or_three true false true = refl
or_three true false false = refl
or_three false true true = refl
or_three false true false = refl
or_three false false true = refl
or_three false false false = refl

-- among three lists, in either order
among_turned : (xs ys zs : List (List ℕ)) (n : List ℕ) → is_among (xs ++ (ys ++ zs)) n ≡ is_among (zs ++ (ys ++ xs)) n
among_turned xs ys zs n =
    among_both xs (ys ++ zs) n ∙ ap (λ b. is_among xs n || b) (among_both ys zs n)
    ∙ or_three (is_among xs n) (is_among ys n) (is_among zs n)
    ∙ sym (among_both zs (ys ++ xs) n ∙ ap (λ b. is_among zs n || b) (among_both ys xs n))

-- the name that is left out
left_out_cond : (b c : Bool) (f x n : List ℕ) (xs : List (List ℕ)) → bytes_eq f x ≡ b → bytes_eq x n ≡ c → bytes_eq f n ≡ true → is_among xs n ≡ false
    → is_among (cond b xs (x ∷ xs)) n ≡ false
left_out_cond true c f x n xs p q e i = i
left_out_cond false false f x n xs p q e i = ap (λ k. k || is_among xs n) q ∙ i
left_out_cond false true f x n xs p q e i = absurd (cc (sym p ∙ (ap (bytes_eq f) ((bytes_eq-Decides x n).0 q) ∙ e)))

left_out : (f n : List ℕ) (xs : List (List ℕ)) → bytes_eq f n ≡ true → is_among (without f xs) n ≡ false
left_out f n [] e = refl
left_out f n (x ∷ xs) e = left_out_cond (bytes_eq f x) (bytes_eq x n) f x n (without f xs) refl refl e (left_out f n xs e)

-- the names that stay
stays_cond : (b c : Bool) (f x n : List ℕ) (xs ys : List (List ℕ)) → bytes_eq f x ≡ b → bytes_eq x n ≡ c → bytes_eq f n ≡ false → is_among xs n ≡ is_among ys n
    → is_among (cond b xs (x ∷ xs)) n ≡ (bytes_eq x n || is_among ys n)
stays_cond true false f x n xs ys p q e i = i ∙ sym (ap (λ k. k || is_among ys n) q)
stays_cond true true f x n xs ys p q e i = absurd (cc (sym p ∙ (ap (bytes_eq f) ((bytes_eq-Decides x n).0 q) ∙ e)))
stays_cond false c f x n xs ys p q e i = ap (λ k. bytes_eq x n || k) i

stays : (f n : List ℕ) (xs : List (List ℕ)) → bytes_eq f n ≡ false → is_among (without f xs) n ≡ is_among xs n
stays f n [] e = refl
stays f n (x ∷ xs) e = stays_cond (bytes_eq f x) (bytes_eq x n) f x n (without f xs) xs refl refl e (stays f n xs e)

same_names : (ds : List Declaration) (ns : List Name) (r : List (List ℕ)) (n : List ℕ)
    → is_among (names_declared (map declaration ds) ++ (map text_of ns ++ r)) n ≡ is_among (r ++ (map text_of ns ++ map text_of (declared_by (map declaration ds)))) n
same_names ds ns r n =
    among_turned (names_declared (map declaration ds)) (map text_of ns) r n
    ∙ ap (λ z. is_among (r ++ (map text_of ns ++ z)) n) (sym (declared_texts (map declaration ds)))

-- a name that is a function's and that of its result
pub own_name_left : (h : Heading) (ds : List Declaration) (n : List ℕ) → is_own_name h n ≡ true → false ≡ is_among (locals_of (headed h) (map declaration ds)) n
own_name_left (u.subroutine x m ns) ds n e = absurd (cc e)
own_name_left (u.function ps f ns (Some r)) ds n e = absurd (cc e)
own_name_left (u.function ps f ns None) ds n e = sym (left_out f.text n (map text_of ns ++ map text_of (declared_by (map declaration ds))) e)

-- any other name
pub other_name : (h : Heading) (ds : List Declaration) (n : List ℕ) → is_own_name h n ≡ false → is_among (written_names h ds) n ≡ is_among (locals_of (headed h) (map declaration ds)) n
other_name (u.subroutine x m ns) ds n e = same_names ds (dummies_of ns) [] n
other_name (u.function ps f ns (Some r)) ds n e = same_names ds ns (r.text ∷ []) n
other_name (u.function ps f ns None) ds n e = same_names ds ns [] n ∙ sym (stays f.text n (map text_of ns ++ map text_of (declared_by (map declaration ds))) e)

pub ruleset local_laws = (own_name_left, other_name)

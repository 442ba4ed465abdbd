-- The words here over what is asked of expressions are those of the definitions.
use Rattle.std.proofs.Common.{◌≡◌, ◌∙◌, ℕ, Bool, true, false, not, List, [], ◌∷◌, ◌++◌, refl, ap, sym, map, ℤ}
use Rattle.std.specs.Prelude.{int_lt}
use Rattle.std.specs.Prelude.{cond, Option, Some, None}
use Rattle.caf_base.specs.declared.place.Pos.{Pos}
use Rattle.fortran_tree.specs.Expressions as f
use Rattle.fortran_tree.specs.Statements as d
use Rattle.checked_tree.specs.Expressions as t
use Rattle.rule_definitions.specs.declared.broken.Broken.{Broken}
use Rattle.rule_definitions.specs.Judgements.{Judgement, is_nothing, made, made_of, made_of_both, then, under, formed, ruled, unless, breaks}
use Rattle.rule_definitions.specs.Names.{Scope}
use Rattle.rule_definitions.specs.Parts.{place_of, plain, is_listed}
use Rattle.rule_definitions.specs.Expressions.{judged, placed}
use Rattle.rule_definitions.specs.Declarations.{cobounds_value, dimensions_breaks, dimensions_known, raw_bounds_breaks, raw_dimensions_breaks, constant_expression, lacks_value, without_meaning, declared_kind, bound_value, lower_value, bounds_value, raw_breaks}
use Rattle.declaration_rules.specs.Asked.{Asked, Worth, worth_of, asked_of, plain_worth, constant_worth}
use Rattle.declaration_rules.specs.Bounds.{cobounds_asked, kinds_of, kind_of_worth, kind_asked, bound_of_worth, bound_asked, lower_asked, bounds_asked, bounds_asked_of, maybe_asked_of}
use Rattle.checked_tree.specs.declared.data.DataType.{DataType}
use Rattle.checked_tree.specs.declared.data.DataType.TheVariants.{Intrinsic, Team, Event, Lock}
use Rattle.rule_definitions.specs.Names.{KnownBounds}
use Rattle.rule_definitions.specs.Declarations.{Unit', Attributes, initial_judged, initial_value, initialized_breaks, is_named_constant}
use Rattle.rule_definitions.specs.Constants.{Constancy}
use Rattle.declaration_rules.specs.Initials.{initial_of_worth, constant_initial_asked, initial_asked}
use Rattle.declaration_rules.specs.Shapes.{dimension_asked_of, dimensions_asked, known_dimension, raw_asked, raw_bounds_asked, raw_dimensions_asked}
use Rattle.declaration_rules.specs.declared.kind.KindOf.{KindOf}

abbrev both_parts : {T : Type 0} → List Broken → Option T → Judgement T
both_parts bs m = record { breaks = bs; meaning = m }

same_parts : {T : Type 0} (a b : List Broken) (m n : Option T) → a ≡ b → m ≡ n → both_parts a m ≡ both_parts b n
same_parts a b m n e h = ap (λ k. both_parts k m) e ∙ ap (both_parts b) h

append_nothing : {T : Type 0} (xs : List T) → xs ++ [] ≡ xs
append_nothing [] = refl
append_nothing (x ∷ xs) = ap (λ k. x ∷ k) (append_nothing xs)

made_cond : {A B : Type 0} (h : A → B) (b : Bool) (x : A) → cond b (Some (h x)) None ≡ made h (cond b (Some x) None)
made_cond h true x = refl
made_cond h false x = refl

-- a part that is no list of images, by what is asked of it
plain_parts : (s : Scope) (bs : List Broken) (m : Option t.Expression) (p : Pos)
    → under (both_parts bs (made (worth_of s) m)) (λ w. unless (not w.is_list) 56 p) ≡ made_of (worth_of s) (under (both_parts bs m) (λ x. unless (not (is_listed x)) 56 p))
plain_parts s bs None p = refl
plain_parts s bs (Some x) p = ap (both_parts (bs ++ unless (not (is_listed x)) 56 p)) (made_cond (worth_of s) (is_nothing (unless (not (is_listed x)) 56 p)) x)

pub plain_is : (s : Scope) (e : f.Expression) → plain_worth (asked_of s e) ≡ made_of (worth_of s) (plain (placed s e))
unfolding asked_of
plain_is s e = plain_parts s (judged s e).breaks (judged s e).meaning (place_of e)

then_parts : {T : Type 0} (s : Scope) (g : Worth → Judgement T) (bs : List Broken) (m : Option t.Expression) → then (made_of (worth_of s) (both_parts bs m)) g ≡ then (both_parts bs m) (λ x. g (worth_of s x))
then_parts s g bs None = refl
then_parts s g bs (Some x) = refl

nothing_then : {A B : Type 0} (g : A → Judgement B) (bs : List Broken) (b : Bool) → then (both_parts bs (cond b None None)) g ≡ both_parts bs (cond b None None)
nothing_then g bs true = ap (λ k. both_parts k None) (append_nothing bs)
nothing_then g bs false = ap (λ k. both_parts k None) (append_nothing bs)

constant_parts : {T : Type 0} (s : Scope) (r : ℕ) (e : f.Expression) (g : Worth → Judgement T) (a : Asked) (b : Bool) → plain_worth a ≡ made_of (worth_of s) (plain (placed s e)) → a.judged ≡ made_of (worth_of s) (judged s e) → a.at ≡ place_of e
    → then (cond b (formed (without_meaning a.judged) (breaks r a.at)) (plain_worth a)) g ≡ cond b (formed (without_meaning (judged s e)) (breaks r (place_of e))) (then (plain (placed s e)) (λ x. g (worth_of s x)))
constant_parts s r e g a true h j p =
    nothing_then g (a.judged.breaks ++ cond (is_nothing a.judged.breaks) (breaks r a.at) []) (is_nothing (cond (is_nothing a.judged.breaks) (breaks r a.at) []))
    ∙ ap (λ k. formed (without_meaning k) (breaks r a.at)) j ∙ ap (λ k. formed (without_meaning (judged s e)) (breaks r k)) p
constant_parts s r e g a false h j p = ap (λ k. then k g) h ∙ then_parts s g (plain (placed s e)).breaks (plain (placed s e)).meaning

-- an expression that must be constant, under a rule on its value
pub constant_is : {T : Type 0} (s : Scope) (r : ℕ) (e : f.Expression) (g : Worth → Judgement T) → then (constant_worth r (asked_of s e)) g ≡ constant_expression s r e (λ x. g (worth_of s x))
unfolding asked_of
constant_is s r e g = constant_parts s r e g (asked_of s e) (lacks_value s e) (plain_is s e) refl refl

pub bound_is : (s : Scope) (e : f.Expression) → bound_asked (asked_of s e) ≡ bound_value s e
unfolding asked_of
bound_is s e = constant_is s 25 e (bound_of_worth (place_of e))

pub kind_is : (s : Scope) (k : KindOf) (e : f.Expression) → kind_asked k (asked_of s e) ≡ declared_kind s (kinds_of k) e
unfolding asked_of
kind_is s k e = constant_is s 22 e (kind_of_worth k (place_of e))

pub lower_is : (s : Scope) (o : Option f.Expression) → lower_asked (maybe_asked_of s o) ≡ lower_value s o
lower_is s None = refl
lower_is s (Some e) = bound_is s e

pub bounds_is : (s : Scope) (b : d.Bounds) → bounds_asked (bounds_asked_of s b) ≡ bounds_value s b
bounds_is s b = ap (λ k. made_of_both (λ m n. (m, n)) k (bound_asked (asked_of s b.upper))) (lower_is s b.lower) ∙ ap (made_of_both (λ m n. (m, n)) (lower_value s b.lower)) (bound_is s b.upper)

pub raw_is : (s : Scope) (o : Option f.Expression) → raw_asked (maybe_asked_of s o) ≡ raw_breaks s o
raw_is s None = refl
raw_is s (Some e) = ap (λ (k : Judgement Worth). k.breaks) (plain_is s e)

initial_rules : (s : Scope) (y : Option DataType) (ds : List KnownBounds) (e : f.Expression) → constant_initial_asked y ds (asked_of s e) ≡ constant_expression s 22 e (initial_value s y ds e)
unfolding asked_of
initial_rules s None ds e = constant_is s 22 e (initial_of_worth None ds (place_of e))
initial_rules s (Some (Intrinsic k)) ds e = constant_is s 22 e (initial_of_worth (Some (Intrinsic k)) ds (place_of e))
initial_rules s (Some Team) ds e = constant_is s 22 e (initial_of_worth (Some Team) ds (place_of e))
initial_rules s (Some Event) ds e = constant_is s 22 e (initial_of_worth (Some Event) ds (place_of e))
initial_rules s (Some Lock) ds e = constant_is s 22 e (initial_of_worth (Some Lock) ds (place_of e))

pub initial_is : (s : Scope) (u : Unit') (a : Attributes) (n : List ℕ) (y : Option DataType) (ds : List KnownBounds) (e : f.Expression)
    → made_of Some (initial_asked u (is_named_constant u a n) a.is_allocatable y ds (asked_of s e)) ≡ initial_judged s u a n y ds (Some e)
unfolding asked_of
initial_is s u a n y ds e =
    ap (λ (k : Judgement Constancy). made_of Some (ruled k (cond (is_nothing (plain_worth (asked_of s e)).breaks) (initialized_breaks u (is_named_constant u a n) a.is_allocatable y (place_of e)) []))) (initial_rules s y ds e)
    ∙ ap (λ (k : List Broken). made_of Some (ruled (constant_expression s 22 e (initial_value s y ds e)) (cond (is_nothing k) (initialized_breaks u (is_named_constant u a n) a.is_allocatable y (place_of e)) []))) (raw_is s (Some e))

pub cobounds_is : (s : Scope) (b : d.Bounds) → cobounds_asked (bounds_asked_of s b) ≡ cobounds_value s b
unfolding asked_of
cobounds_is s b = ap (λ (k : Judgement (ℤ × ℤ)). under k (λ m. unless (not (int_lt m.1 m.0)) 25 (place_of b.upper))) (bounds_is s b)

append_both : {T : Type 0} (a b c : List T) → (a ++ b) ++ c ≡ a ++ (b ++ c)
append_both [] b c = refl
append_both (x ∷ a) b c = ap (λ k. x ∷ k) (append_both a b c)

raw_bounds_are : (s : Scope) (b : d.Bounds) → raw_bounds_asked (bounds_asked_of s b) ≡ raw_bounds_breaks s (b ∷ [])
raw_bounds_are s b =
    ap (λ k. k ++ raw_asked (Some (asked_of s b.upper))) (raw_is s b.lower) ∙ ap (λ k. raw_breaks s b.lower ++ k) (raw_is s (Some b.upper) ∙ sym (append_nothing (raw_breaks s (Some b.upper))))

pub raw_dimensions_are : (s : Scope) (ds : List d.Dimension) → raw_dimensions_asked (map (dimension_asked_of s) ds) ≡ raw_dimensions_breaks s ds
raw_dimensions_are s [] = refl
raw_dimensions_are s (d.deferred p ∷ ds) = raw_dimensions_are s ds
raw_dimensions_are s (d.explicit b ∷ ds) =
    ap (λ k. k ++ raw_dimensions_asked (map (dimension_asked_of s) ds)) (raw_bounds_are s b) ∙ ap (λ k. raw_bounds_breaks s (b ∷ []) ++ k) (raw_dimensions_are s ds)

pub dimensions_are : (s : Scope) (a : Bool) (ds : List d.Dimension) → dimensions_asked a (map (dimension_asked_of s) ds) ≡ dimensions_breaks s a ds
dimensions_are s true [] = refl
dimensions_are s true (d.deferred p ∷ ds) = dimensions_are s true ds
dimensions_are s true (d.explicit b ∷ ds) =
    ap (λ k. k ++ dimensions_asked true (map (dimension_asked_of s) ds)) (raw_bounds_are s b) ∙ ap (λ k. raw_bounds_breaks s (b ∷ []) ++ k) (dimensions_are s true ds)
dimensions_are s false [] = refl
dimensions_are s false (d.deferred p ∷ ds) = dimensions_are s false ds
dimensions_are s false (d.explicit b ∷ ds) =
    ap (λ (k : Judgement (ℤ × ℤ)). k.breaks ++ dimensions_asked false (map (dimension_asked_of s) ds)) (bounds_is s b) ∙ ap (λ k. (bounds_value s b).breaks ++ k) (dimensions_are s false ds)

pub known_dimensions_are : (s : Scope) (a : Bool) (ds : List d.Dimension) → map (known_dimension a) (map (dimension_asked_of s) ds) ≡ dimensions_known s a ds
known_dimensions_are s true [] = refl
known_dimensions_are s true (d.deferred p ∷ ds) = ap (λ k. None ∷ k) (known_dimensions_are s true ds)
known_dimensions_are s true (d.explicit b ∷ ds) = ap (λ k. None ∷ k) (known_dimensions_are s true ds)
known_dimensions_are s false [] = refl
known_dimensions_are s false (d.deferred p ∷ ds) = ap (λ k. None ∷ k) (known_dimensions_are s false ds)
known_dimensions_are s false (d.explicit b ∷ ds) =
    ap (λ (k : Judgement (ℤ × ℤ)). k.meaning ∷ map (known_dimension false) (map (dimension_asked_of s) ds)) (bounds_is s b) ∙ ap (λ k. (bounds_value s b).meaning ∷ k) (known_dimensions_are s false ds)

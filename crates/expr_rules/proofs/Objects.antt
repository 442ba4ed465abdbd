-- Variables, named constants and references by what is judged of their brackets.
use Rattle.std.proofs.Common.{◌≡◌, ◌<◌, ◌≤◌, refl, ap, sym, ◌∙◌, arith, rules, tests}
use Rattle.std.specs.Prelude.{ℕ, ℤ, false, cond, nat_eq, List, [], ◌∷◌, ◌++◌, Option, Some, None, length}
use Rattle.std.proofs.lemmas.List.{append-nil}
use Rattle.caf_base.specs.declared.place.Pos.{Pos}
use Rattle.caf_base.specs.declared.value.Value.{Value}
use Rattle.caf_base.specs.declared.value.Value.TheVariants.{Int, Bool as Truth}
use Rattle.checked_tree.specs.Expressions as t
use Rattle.checked_tree.specs.declared.data.DataType.{DataType}
use Rattle.checked_tree.specs.declared.data.Object.{Object}
use Rattle.checked_tree.specs.declared.data.Home.{Home}
use Rattle.checked_tree.specs.declared.data.Home.TheVariants.{Own, Host}
use Rattle.rule_definitions.specs.declared.broken.Broken.{Broken}
use Rattle.rule_definitions.specs.Arguments.{Actual, breaks_in_all}
use Rattle.rule_definitions.specs.Expressions.{WrittenSelector, call_typed, constant_part, rank_behind, scalar_value, subscripts_of, typed_as, unsubscripted, variable_part}
use Rattle.rule_definitions.specs.Judgements.{Judgement, both, breaks, is_nothing, then_made, unless}
use Rattle.rule_definitions.specs.Names as n
use Rattle.rule_definitions.specs.Names.{ConstantSymbol, ConstantValue, Symbol}
use Rattle.part_rules.specs.Designators.{count_breaks}
use Rattle.scope_table.specs.Scopes.{object_seen}
use Rattle.scope_table.specs.Symbols.{seen_from}
use Rattle.expr_rules.specs.Brackets.{refused_breaks}
use Rattle.expr_rules.specs.Objects.{constant_of, first_of_both, module_number}

-- what is made of a meaning without a break
pub silent_then : {A B : Type 0} (f : A → Judgement B) → ((x : A) → (f x).breaks ≡ []) → (o : Option A) → (then_made f o).breaks ≡ []
silent_then f h None = refl
silent_then f h (Some x) = h x

pub silent_behind : {A B : Type 0} (bs : List Broken) (f : A → Judgement B) → ((x : A) → (f x).breaks ≡ []) → (o : Option A) → bs ++ (then_made f o).breaks ≡ bs
silent_behind bs f h o = ap (λ k. bs ++ k) (silent_then f h o) ∙ append-nil bs

typed_silent : (o : Option DataType) (r : ℕ) (d : t.Designator) → (typed_as o r d).breaks ≡ []
typed_silent None r d = refl
typed_silent (Some y) r d = refl

-- what breaks between the brackets of a designator
abbrev pub in_brackets : List Actual → WrittenSelector → List Broken
in_brackets ss c = (subscripts_of ss).breaks ++ c.judged.breaks

-- variables

abbrev counts : Symbol → Pos → List Actual → WrittenSelector → List Broken
counts x p ss c = count_breaks (in_brackets ss c) (length x.bounds) x.corank (length ss) c.count p

abbrev whole : Home → Symbol → Pos → List Actual → WrittenSelector → Option t.Designator
whole h x p ss c = cond (is_nothing (counts x p ss c)) (both (t.part (object_seen h x.object)) (subscripts_of ss).meaning c.judged.meaning) None

pub variable_breaks : (h : Home) (x : Symbol) (p : Pos) (ss : List Actual) (c : WrittenSelector)
    → (variable_part (seen_from h x) p ss c).breaks ≡ in_brackets ss c ++ count_breaks (in_brackets ss c) (length x.bounds) x.corank (length ss) c.count p
variable_breaks Own x p ss c = silent_behind (in_brackets ss c ++ counts x p ss c) (typed_as x.of_type (rank_behind (length x.bounds) ss)) (typed_silent x.of_type (rank_behind (length x.bounds) ss)) (whole Own x p ss c)
variable_breaks Host x p ss c = silent_behind (in_brackets ss c ++ counts x p ss c) (typed_as x.of_type (rank_behind (length x.bounds) ss)) (typed_silent x.of_type (rank_behind (length x.bounds) ss)) (whole Host x p ss c)

pub variable_meaning : (h : Home) (x : Symbol) (p : Pos) (ss : List Actual) (c : WrittenSelector)
    → (variable_part (seen_from h x) p ss c).meaning ≡ (then_made (typed_as x.of_type (rank_behind (length x.bounds) ss)) (cond (is_nothing (count_breaks (in_brackets ss c) (length x.bounds) x.corank (length ss) c.count p)) (both (t.part (object_seen h x.object)) (subscripts_of ss).meaning c.judged.meaning) None)).meaning
variable_meaning Own x p ss c = refl
variable_meaning Host x p ss c = refl

-- with what the code has found of the brackets: their breaks and meaning, rank and count, and the rank of the part
pub variable_found_breaks : (h : Home) (x : Symbol) (p : Pos) (ss : List Actual) (c : WrittenSelector) (bs : List Broken) (r k : ℕ)
    → bs ≡ (subscripts_of ss).breaks → r ≡ length x.bounds → k ≡ length ss
    → (bs ++ c.judged.breaks) ++ count_breaks (bs ++ c.judged.breaks) r x.corank k c.count p ≡ (variable_part (seen_from h x) p ss c).breaks
variable_found_breaks h x p ss c bs r k e f g = rw (e, f, g) (sym (variable_breaks h x p ss c))

pub variable_found_meaning : (h : Home) (x : Symbol) (p : Pos) (ss : List Actual) (c : WrittenSelector) (bs : List Broken) (o : Option t.Subscripts) (r k q : ℕ) (y : Object)
    → bs ≡ (subscripts_of ss).breaks → o ≡ (subscripts_of ss).meaning → r ≡ length x.bounds → k ≡ length ss → q ≡ rank_behind (length x.bounds) ss → y ≡ object_seen h x.object
    → (then_made (typed_as x.of_type q) (cond (is_nothing (count_breaks (bs ++ c.judged.breaks) r x.corank k c.count p)) (both (t.part y) o c.judged.meaning) None)).meaning ≡ (variable_part (seen_from h x) p ss c).meaning
variable_found_meaning h x p ss c bs o r k q y e m f g a b = rw (e, m, f, g, a, b) (sym (variable_meaning h x p ss c))

-- named constants

scalar_silent : (v : Value) (o : Option DataType) → (scalar_value v o).breaks ≡ []
scalar_silent v None = refl
scalar_silent (Int z) (Some y) = refl
scalar_silent (Truth b) (Some y) = refl

constant_silent : (v : ConstantValue) (c : ConstantSymbol) (r : ℕ) (ss : t.Subscripts) → (constant_of (record c { value = v }) r ss).breaks ≡ []
constant_silent n.unknown_value c r ss = refl
constant_silent (n.scalar_constant v) c r ss = scalar_silent v c.of_type
constant_silent (n.array_constant k) c r ss = typed_silent c.of_type r _

pub constant_breaks : (x : ConstantSymbol) (p : Pos) (ss : List Actual) (c : WrittenSelector)
    → (constant_part x p ss c).breaks ≡ in_brackets ss c ++ count_breaks (in_brackets ss c) (length x.bounds) 0 (length ss) c.count p
constant_breaks x p ss c =
    silent_behind (in_brackets ss c ++ count_breaks (in_brackets ss c) (length x.bounds) 0 (length ss) c.count p) (constant_of x (rank_behind (length x.bounds) ss)) (constant_silent x.value x (rank_behind (length x.bounds) ss))
    (cond (is_nothing (count_breaks (in_brackets ss c) (length x.bounds) 0 (length ss) c.count p)) (both first_of_both (subscripts_of ss).meaning c.judged.meaning) None)

pub constant_meaning : (x : ConstantSymbol) (p : Pos) (ss : List Actual) (c : WrittenSelector)
    → (constant_part x p ss c).meaning ≡ (then_made (constant_of x (rank_behind (length x.bounds) ss)) (cond (is_nothing (count_breaks (in_brackets ss c) (length x.bounds) 0 (length ss) c.count p)) (both first_of_both (subscripts_of ss).meaning c.judged.meaning) None)).meaning
constant_meaning x p ss c = refl

pub constant_found_breaks : (x : ConstantSymbol) (p : Pos) (ss : List Actual) (c : WrittenSelector) (bs : List Broken) (r k : ℕ)
    → bs ≡ (subscripts_of ss).breaks → r ≡ length x.bounds → k ≡ length ss
    → (bs ++ c.judged.breaks) ++ count_breaks (bs ++ c.judged.breaks) r 0 k c.count p ≡ (constant_part x p ss c).breaks
constant_found_breaks x p ss c bs r k e f g = rw (e, f, g) (sym (constant_breaks x p ss c))

pub constant_found_meaning : (x : ConstantSymbol) (p : Pos) (ss : List Actual) (c : WrittenSelector) (bs : List Broken) (o : Option t.Subscripts) (r k q : ℕ)
    → bs ≡ (subscripts_of ss).breaks → o ≡ (subscripts_of ss).meaning → r ≡ length x.bounds → k ≡ length ss → q ≡ rank_behind (length x.bounds) ss
    → (then_made (constant_of x q) (cond (is_nothing (count_breaks (bs ++ c.judged.breaks) r 0 k c.count p)) (both first_of_both o c.judged.meaning) None)).meaning ≡ (constant_part x p ss c).meaning
constant_found_meaning x p ss c bs o r k q e m f g a = rw (e, m, f, g, a) (sym (constant_meaning x p ss c))

-- constants of ISO_FORTRAN_ENV

not_zero : (k : ℕ) → 0 < k → nat_eq k 0 ≡ false
not_zero k h = search (rules, tests)

behind_nothing : (bs : List Broken) (r : ℕ) (p : Pos) → cond (is_nothing bs) (breaks r p) bs ≡ refused_breaks bs r p
behind_nothing [] r p = refl
behind_nothing (b ∷ bs) r p = sym (append-nil (b ∷ bs))

pub brackets_refused : (z : ℤ) (ss : List Actual) (p : Pos) → 0 < length ss → (unsubscripted (module_number z) ss p).breaks ≡ refused_breaks (breaks_in_all ss) 33 p
brackets_refused z [] p h = absurd (omega (arith, h))
brackets_refused z (a ∷ ss) p h = ap (λ b. cond (is_nothing (breaks_in_all (a ∷ ss))) (unless b 33 p) (breaks_in_all (a ∷ ss))) (not_zero (length (a ∷ ss)) h) ∙ behind_nothing (breaks_in_all (a ∷ ss)) 33 p

no_number : (bs : List Broken) (r : ℕ) (p : Pos) (o : Option t.Expression) → cond (is_nothing (cond (is_nothing bs) (breaks r p) bs)) o None ≡ None
no_number [] r p o = refl
no_number (b ∷ bs) r p o = refl

pub no_meaning_in_brackets : (z : ℤ) (ss : List Actual) (p : Pos) → 0 < length ss → (unsubscripted (module_number z) ss p).meaning ≡ None
no_meaning_in_brackets z [] p h = absurd (omega (arith, h))
no_meaning_in_brackets z (a ∷ ss) p h =
    ap (λ b. cond (is_nothing (cond (is_nothing (breaks_in_all (a ∷ ss))) (unless b 33 p) (breaks_in_all (a ∷ ss)))) (module_number z).meaning None) (not_zero (length (a ∷ ss)) h)
    ∙ no_number (breaks_in_all (a ∷ ss)) 33 p (module_number z).meaning

pub bare_breaks : (z : ℤ) (ss : List Actual) (p : Pos) → length ss ≤ 0 → (unsubscripted (module_number z) ss p).breaks ≡ []
bare_breaks z [] p h = refl
bare_breaks z (a ∷ ss) p h = absurd (omega (arith, h))

pub bare_meaning : (z : ℤ) (ss : List Actual) (p : Pos) → length ss ≤ 0 → (unsubscripted (module_number z) ss p).meaning ≡ (module_number z).meaning
bare_meaning z [] p h = refl
bare_meaning z (a ∷ ss) p h = absurd (omega (arith, h))

pub ruleset module_laws = (brackets_refused, no_meaning_in_brackets, bare_breaks, bare_meaning)

-- references

pub call_silent : (o : Option Symbol) (k : ℕ) (as' : t.Arguments) → (call_typed o k as').breaks ≡ []
call_silent None k as' = refl
call_silent (Some x) k as' = of_type x.of_type
  where
    of_type : (y : Option DataType) → (call_typed (Some (record x { of_type = y })) k as').breaks ≡ []
    of_type None = refl
    of_type (Some y) = refl

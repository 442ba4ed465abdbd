-- What a name with brackets and a selector stands for has its rank.
use Rattle.std.proofs.Common.{◌≡◌, ◌≤◌, ℕ, suc, ◌+◌, Bool, true, false, List, [], ◌∷◌, ◌++◌, length, refl, ap, arith}
use Rattle.std.specs.Prelude.{codes, cond, nat_eq, ◌||◌, Option, Some, None}
use Rattle.caf_base.specs.declared.place.Pos.{Pos}
use Rattle.caf_base.specs.declared.value.Kind.TheVariants.{I4}
use Rattle.caf_base.specs.declared.value.Value.{Value}
use Rattle.caf_base.specs.declared.value.Value.TheVariants.{Int, Bool as Truth}
use Rattle.checked_tree.specs.Expressions as t
use Rattle.checked_tree.specs.Statements.{Procedure}
use Rattle.checked_tree.specs.declared.data.DataType.{DataType}
use Rattle.checked_tree.specs.declared.data.DataType.TheVariants.{Intrinsic}
use Rattle.checked_tree.specs.declared.data.Object.TheVariants as objects
use Rattle.rule_definitions.specs.Judgements.{is_nothing, Judgement, fine, unknown, made_of, item_at}
use Rattle.rule_definitions.specs.Names
use Rattle.rule_definitions.specs.Names.{Scope, Symbol, ConstantSymbol, ConstantValue, Interface, Meaning, denotes}
use Rattle.rule_definitions.specs.Parts.{Placed, integer}
use Rattle.rule_definitions.specs.Arguments.{Part, expression, triplet, Actual, is_triplet, breaks_in_all}
use Rattle.rule_definitions.specs.Specifiers.{Written, selector_specifiers}
use Rattle.rule_definitions.specs.Expressions as rules
use Rattle.rule_definitions.specs.Expressions.{WrittenSelector, subscripts_of, rank_behind, subscript_breaks, selection_breaks, typed_as, variable_part, scalar_value, constant_form, constant_part, unselected, unsubscripted, result_typed, call_typed, function_called, referenced, function_named, subroutine_named, designated, cosubscripts, selector_written}
use Rattle.accepted_ranks.specs.Kinded as ranks
use Rattle.made_code.specs.Ranks.{procedure_at}
use Rattle.accepted_ranks.specs.Scopes.{AreRanks, IsInterfaceOf, HasResult}
use Rattle.accepted_ranks.proofs.Means.{Means, left_nothing, unless_nothing, same_number, fine_means, no_meaning, unknown_means, refused_means, around_means, ruled_means, formed_means, made_means, both_means, three_means, then_means, cond_means}
use Rattle.accepted_ranks.proofs.Parts.{AllGood, integer_means}
use Rattle.accepted_ranks.proofs.Specifiers.{AllWritten, stat_means, selected_means}
use Rattle.accepted_ranks.proofs.Arguments.{PartGood, AllActuals, arguments_means}
use Rattle.accepted_ranks.proofs.Functions.{intrinsic_means}

either_of : {A : Type 0} (a b : Bool) → (a || b) ≡ true → (a ≡ true → A) → (b ≡ true → A) → A
either_of true b e f g = f refl
either_of false b e f g = g e

module _ (ps : List Procedure) where
  -- ---- brackets
  one_subscript : (x : Part) → PartGood ps x → Means (elim x [ expression e ↦ made_of t.element (integer 31 e) | triplet j ↦ j ])
      (λ s. ranks.IsSubscript ps s × (ranks.is_triplet s ≡ cond (elim x [ expression e ↦ false | triplet j ↦ true ]) 1 0))
  one_subscript (expression e) h = made_means t.element (integer_means ps 31 e h) (λ x u. (u, refl))
  one_subscript (triplet j) h = h

  more_triplets : (b : Bool) (m n k : ℕ) → m ≡ cond b 1 0 → n ≡ k → m + n ≡ cond b (k + 1) k
  more_triplets true m n k e f = omega arith
  more_triplets false m n k e f = omega arith

  abbrev Bracketed : List Actual → t.Subscripts → Type 0
  Bracketed xs ss = ranks.AreSubscripts ps ss × (ranks.subscripts_in ss ≡ length xs) × (ranks.triplets_in ss ≡ rules.triplets_in xs)

  subscripts_means : (xs : List Actual) → AllActuals ps xs → Means (subscripts_of xs) (Bracketed xs)
  subscripts_means [] h = fine_means t.no_subscripts (tt, refl, refl)
  subscripts_means (a ∷ rest) h = both_means t.more_subscripts (one_subscript a.part h.0) (subscripts_means rest h.1)
      (λ x ss u v. ((u.0, v.0), ap suc v.1, more_triplets (is_triplet a) (ranks.is_triplet x) (ranks.triplets_in ss) (rules.triplets_in rest) u.1 v.2))

  section_of : (ss : t.Subscripts) (xs : List Actual) (r : ℕ) → r ≤ 3 → (nat_eq (length xs) 0 || nat_eq (length xs) r) ≡ true → ranks.subscripts_in ss ≡ length xs → ranks.triplets_in ss ≡ rules.triplets_in xs
      → ranks.IsSection ss (rank_behind r xs)
  section_of t.no_subscripts [] r l e m n = l
  section_of (t.more_subscripts s ss) [] r l e m n = absurd (omega arith)
  section_of t.no_subscripts (a ∷ rest) r l e m n = absurd (omega arith)
  section_of (t.more_subscripts s ss) (a ∷ rest) r l e m n = (
    either_of (nat_eq (length (a ∷ rest)) 0) (nat_eq (length (a ∷ rest)) r) e (λ z. (let u = same_number (length (a ∷ rest)) 0 z in absurd (omega arith))) (λ z. (let u = same_number (length (a ∷ rest)) r z in omega arith)),
    n,
  )

  cosubscripts_means : (es : List Placed) → AllGood ps es → Means (cosubscripts es) (ranks.AreScalars ps)
  cosubscripts_means [] h = fine_means t.no_expressions tt
  cosubscripts_means (e ∷ rest) h = both_means t.more_expressions (integer_means ps 31 e h.0) (cosubscripts_means rest h.1) (λ x es u v. (u, v))

  pub selector_means : (es : List Placed) (ws : List Written) → AllGood ps es → AllWritten ps ws → Means (selector_written es ws).judged (ranks.IsSelector ps)
  selector_means es ws h k = ruled_means (selector_specifiers ws) (λ u. three_means t.selector (cosubscripts_means es h)
      (selected_means ps (codes "stat" ∷ codes "team" ∷ codes "team_number" ∷ []) ws k u) (stat_means ps (codes "stat" ∷ codes "team" ∷ codes "team_number" ∷ []) ws k u) (λ cs w o a b c. (a, b, c)))

  abbrev Selects : WrittenSelector → Type 0
  Selects c = Means c.judged (ranks.IsSelector ps)

  -- ---- variables and constants
  typed_means : (o : Option DataType) (r : ℕ) (d : t.Designator) → ranks.IsPart ps d r → Means (typed_as o r d) (ranks.IsRanked ps)
  typed_means None r d h = unknown_means
  typed_means (Some y) r d h = fine_means (t.typed (t.designator d) y r) h

  variable_means : (x : Symbol) (p : Pos) (xs : List Actual) (c : WrittenSelector) → length x.bounds ≤ 3 → AllActuals ps xs → Selects c → Means (variable_part x p xs c) (ranks.IsRanked ps)
  variable_means x p xs c l h k = then_means {P = λ d. ranks.IsPart ps d (rank_behind (length x.bounds) xs)} (typed_as x.of_type (rank_behind (length x.bounds) xs))
      (formed_means (subscript_breaks (length x.bounds) (length xs) p ++ selection_breaks (length x.bounds) x.corank (length xs) c.count p)
      (λ b. both_means (t.part x.object) (subscripts_means xs h) k
      (λ ss sel u v. (u.0, section_of ss xs (length x.bounds) l (unless_nothing (nat_eq (length xs) 0 || nat_eq (length xs) (length x.bounds)) 33 p (left_nothing (subscript_breaks (length x.bounds) (length xs) p) _ b)) u.1 u.2, v))))
      (λ d u. typed_means x.of_type (rank_behind (length x.bounds) xs) d u)

  scalar_means : (v : Value) (o : Option DataType) → Means (scalar_value v o) (ranks.IsRanked ps)
  scalar_means (Int n) None = unknown_means
  scalar_means (Truth b) None = unknown_means
  scalar_means (Int n) (Some y) = fine_means (t.typed (t.number n) y 0) refl
  scalar_means (Truth b) (Some y) = fine_means (t.typed (t.logical b) y 0) refl

  constant_any : (v : ConstantValue) (o : Option DataType) (r : ℕ) (ss : t.Subscripts) → ranks.AreSubscripts ps ss → ranks.IsSection ss r
      → Means (elim v [ Names.unknown_value ↦ unknown {T = t.Expression} | Names.scalar_constant w ↦ scalar_value w o | Names.array_constant n ↦ typed_as o r (t.part (objects.Constant n) ss t.no_selector) ]) (ranks.IsRanked ps)
  constant_any Names.unknown_value o r ss h k = unknown_means
  constant_any (Names.scalar_constant w) o r ss h k = scalar_means w o
  constant_any (Names.array_constant n) o r ss h k = typed_means o r (t.part (objects.Constant n) ss t.no_selector) (h, k, tt)

  constant_means : (x : ConstantSymbol) (p : Pos) (xs : List Actual) (c : WrittenSelector) → length x.bounds ≤ 3 → AllActuals ps xs → Selects c → Means (constant_part x p xs c) (ranks.IsRanked ps)
  constant_means x p xs c l h k = then_means {P = λ ss. ranks.AreSubscripts ps ss × ranks.IsSection ss (rank_behind (length x.bounds) xs)} (constant_form x xs)
      (formed_means (subscript_breaks (length x.bounds) (length xs) p ++ selection_breaks (length x.bounds) 0 (length xs) c.count p)
      (λ b. both_means (λ y z. y) (subscripts_means xs h) k
      (λ ss sel u v. (u.0, section_of ss xs (length x.bounds) l (unless_nothing (nat_eq (length xs) 0 || nat_eq (length xs) (length x.bounds)) 33 p (left_nothing (subscript_breaks (length x.bounds) (length xs) p) _ b)) u.1 u.2))))
      (λ ss u. constant_any x.value x.of_type (rank_behind (length x.bounds) xs) ss u.0 u.1)

  -- ---- other names
  unselected_means : {j : Judgement t.Expression} (xs : List Actual) (c : WrittenSelector) (p : Pos) → Means j (ranks.IsRanked ps) → Selects c → Means (unselected j xs c p) (ranks.IsRanked ps)
  unselected_means {j = j} xs c p h k = both_means (λ x y. x) (ruled_means {j = j} _ (λ b. h)) k (λ x y u v. u)

  unsubscripted_means : {j : Judgement t.Expression} (xs : List Actual) (p : Pos) → Means j (ranks.IsRanked ps) → Means (unsubscripted j xs p) (ranks.IsRanked ps)
  unsubscripted_means {j = j} xs p h = ruled_means {j = j} _ (λ b. h)

  result_given : (o : Option DataType) (n r : ℕ) (es : t.Arguments) → ((y : DataType) → ranks.HasRank ps (t.call n es) y r) → Means (elim o [ None ↦ unknown {T = t.Expression} | Some y ↦ fine (t.typed (t.call n es) y r) ]) (ranks.IsRanked ps)
  result_given None n r es h = unknown_means
  result_given (Some y) n r es h = fine_means (t.typed (t.call n es) y r) (h y)

  call_means : (o : Option Symbol) (n : ℕ) (es : t.Arguments) → HasResult (procedure_at ps n).unit.variables o (procedure_at ps n).answer
      → ranks.ArePassed ps (procedure_at ps n).unit.variables (procedure_at ps n).dummies es → Means (call_typed o n es) (ranks.IsRanked ps)
  call_means None n es h k = unknown_means
  call_means (Some x) n es h k = result_given x.of_type n (length x.bounds) es (λ y. (h, k))

  function_means : (s : Scope) (o : Option Interface) (n : ℕ) (xs : List Actual) (p : Pos) → ((i : Interface) → o ≡ Some i → IsInterfaceOf i (procedure_at ps n)) → AllActuals ps xs → Means (function_called s o n xs p) (ranks.IsRanked ps)
  function_means s None n xs p f h = no_meaning refl
  function_means s (Some i) n xs p f h = then_means (call_typed i.result n) (arguments_means ps s (procedure_at ps n).unit.variables i.dummies (procedure_at ps n).dummies xs p (f i refl).0 h) (λ es u. call_means i.result n es (f i refl).1 u)

  module _ (s : Scope) (r : AreRanks ps s) where
    pub referenced_means : (o : Option Meaning) (p : Pos) (xs : List Actual) → AllActuals ps xs → Means (referenced s o p xs) (ranks.IsRanked ps)
    referenced_means None p xs h = refused_means 20 p
    referenced_means (Some (Names.function n)) p xs h = function_means s (item_at s.interfaces n) n xs p (r.interfaces n) h
    referenced_means (Some (Names.intrinsic_function n)) p xs h = intrinsic_means ps s r.apart n xs p h
    referenced_means (Some (Names.subroutine n)) p xs h = around_means (breaks_in_all xs) 47 p
    referenced_means (Some (Names.intrinsic_subroutine n)) p xs h = around_means (breaks_in_all xs) 47 p
    referenced_means (Some (Names.module_type y)) p xs h = refused_means 20 p
    referenced_means (Some (Names.variable x)) p xs h = around_means (breaks_in_all xs) 33 p
    referenced_means (Some (Names.constant x)) p xs h = around_means (breaks_in_all xs) 33 p
    referenced_means (Some (Names.module_constant n)) p xs h = around_means (breaks_in_all xs) 33 p

    named_means : (m : Meaning) (p : Pos) (xs : List Actual) (c : WrittenSelector) → AllActuals ps xs → Means (function_named s m p xs c) (ranks.IsRanked ps)
    named_means m p [] c h = cond_means (is_nothing c.judged.breaks) (λ e. refused_means 47 p) (λ e. unknown_means)
    named_means m p (a ∷ rest) c h = referenced_means (Some m) p (a ∷ rest) h

    subroutine_means : (p : Pos) (xs : List Actual) (c : WrittenSelector) → Selects c → Means (subroutine_named p xs c) (ranks.IsRanked ps)
    subroutine_means p xs c k = unselected_means xs c p (no_meaning refl) k

    pub designated_means : (n : List ℕ) (o : Option Meaning) (p : Pos) (xs : List Actual) (c : WrittenSelector) → denotes s n ≡ o → AllActuals ps xs → Selects c → Means (designated s o p xs c) (ranks.IsRanked ps)
    designated_means n None p xs c e h k = refused_means 20 p
    designated_means n (Some (Names.variable x)) p xs c e h k = variable_means x p xs c (r.variables n x e) h k
    designated_means n (Some (Names.constant x)) p xs c e h k = constant_means x p xs c (r.constants n x e) h k
    designated_means n (Some (Names.module_constant z)) p xs c e h k = unselected_means xs c p (unsubscripted_means xs p (fine_means (t.typed (t.number z) (Intrinsic I4) 0) refl)) k
    designated_means n (Some (Names.module_type y)) p xs c e h k = refused_means 20 p
    designated_means n (Some (Names.subroutine m)) p xs c e h k = subroutine_means p xs c k
    designated_means n (Some (Names.intrinsic_subroutine m)) p xs c e h k = subroutine_means p xs c k
    designated_means n (Some (Names.function m)) p xs c e h k = unselected_means xs c p (named_means (Names.function m) p xs c h) k
    designated_means n (Some (Names.intrinsic_function m)) p xs c e h k = unselected_means xs c p (named_means (Names.intrinsic_function m) p xs c h) k

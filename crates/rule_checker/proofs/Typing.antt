-- Typed variables, one behind the other, and the numbers of coarrays.
use Rattle.std.proofs.Common.{◌≡◌, ◌∙◌, ℕ, ◌+◌, Bool, true, false, List, [], ◌∷◌, ◌++◌, drop, length, refl, sym, ap, arith, ℤ}
use Rattle.std.specs.Prelude.{Option, Some, None, cond, map, nat_eq, not, ◌&&◌}
use Rattle.std.proofs.lemmas.List.{append-nil, append_assoc}
use Rattle.checked_tree.specs.declared.data.DataType.{DataType}
use Rattle.checked_tree.specs.declared.data.Dimensions.TheVariants as shapes
use Rattle.rule_definitions.specs.Constants.{all_bounds}
use Rattle.rule_definitions.specs.Judgements.{all_made, both, fine, first_of, unknown}
use Rattle.rule_definitions.specs.Names.{Named, Symbol, variables_of}
use Rattle.rule_definitions.specs.declared.broken.Broken.{Broken}
use Rattle.rule_definitions.specs.Statements.{Position, judged_statements, most_hidden_of}
use Rattle.checked_tree.specs.Statements as ts
use Rattle.checked_tree.specs.declared.data.Variable.{Variable}
use Rattle.fortran_tree.specs.Statements as fs
use Rattle.rule_checker.specs.Units.{unit_here}
use Rattle.rule_definitions.specs.Units.{coarray_numbers, dimensions_of, type_known, variable_of}
use Rattle.scope_table.specs.Counts.{variable_count}
use Rattle.scope_table.specs.Symbols.{entry, symbol}
use Rattle.scope_table.specs.declared.symbol.Entry.{Entry}
use Rattle.scope_table.specs.declared.symbol.Entry.TheVariants as entries
use Rattle.rule_checker.specs.Typing.{coarray_number, typed_variables}

pub nothing_behind : {T : Type 0} (xs : List T) → xs ++ [] ≡ xs
nothing_behind xs = append-nil xs

-- typed variables break no rule
type_fine : (o : Option DataType) → (type_known o).breaks ≡ []
type_fine None = refl
type_fine (Some y) = refl

dimensions_cases : (b : Bool) (n : ℕ) (o : Option (List (ℤ × ℤ))) → (cond b (fine (shapes.Deferred n)) (elim o [ None ↦ unknown | Some ds ↦ fine (shapes.Explicit (record { dims = ds })) ])).breaks ≡ []
dimensions_cases true n o = refl
dimensions_cases false n None = refl
dimensions_cases false n (Some ds) = refl

dimensions_fine : (x : Symbol) → (dimensions_of x).breaks ≡ []
dimensions_fine x = dimensions_cases (x.is_allocatable && not (nat_eq (length x.bounds) 0)) (length x.bounds) (all_bounds x.bounds)

variable_fine : (x : Symbol) → (variable_of x).breaks ≡ []
variable_fine x = ap (λ k. k ++ (dimensions_of x).breaks) (type_fine x.of_type) ∙ dimensions_fine x

pub no_breaks : (xs : List Symbol) → (all_made (map variable_of xs)).breaks ≡ []
no_breaks [] = refl
no_breaks (x ∷ xs) = ap (λ k. k ++ (all_made (map variable_of xs)).breaks) (variable_fine x) ∙ no_breaks xs

number_behind : (b : Bool) (n : ℕ) (ns ms : List ℕ) → (ns ++ cond b [] (n ∷ [])) ++ ms ≡ ns ++ cond b ms (n ∷ ms)
number_behind true n ns ms = ap (λ k. k ++ ms) (append-nil ns)
number_behind false n ns ms = append_assoc ns (n ∷ []) ms

abbrev numbers_all : ℕ → List Entry → List ℕ
numbers_all n es = coarray_numbers n (variables_of (map entry es))

entry_number : (n : ℕ) (e : Entry) (es : List Entry) (ns : List ℕ) → (ns ++ coarray_number n e) ++ numbers_all (n + variable_count e) es ≡ ns ++ numbers_all n (e ∷ es)
entry_number n (entries.Variable x) es ns = number_behind (nat_eq x.corank 0) n ns (numbers_all (n + 1) es)
entry_number n (entries.Constant x) es ns =
    let z : n + 0 ≡ n = omega arith in
    ap (λ k. k ++ numbers_all (n + 0) es) (append-nil ns) ∙ ap (λ k. ns ++ numbers_all k es) z

-- a turn of the loop that numbers coarrays
pub turn_numbered : (es : List Entry) (i : ℕ) (e : Entry) (n m : ℕ) (ns ms end : List ℕ) → drop i es ≡ e ∷ drop (i + 1) es
    → ms ≡ ns ++ coarray_number n e → m ≡ n + variable_count e → ns ++ numbers_all n (drop i es) ≡ end → ms ++ numbers_all m (drop (i + 1) es) ≡ end
turn_numbered es i e n m ns ms end d k l h =
    ap (λ z. z ++ numbers_all m (drop (i + 1) es)) k ∙ ap (λ z. (ns ++ coarray_number n e) ++ numbers_all z (drop (i + 1) es)) l
    ∙ entry_number n e (drop (i + 1) es) ns ∙ ap (λ z. ns ++ numbers_all n z) (sym d) ∙ h

-- a unit, from its parts
pub unit_first : (own : List Named) (x : Position) (ss : fs.Statements) (f g : Option Broken) (bs : List Broken) → bs ≡ (judged_statements x ss).breaks → g ≡ first_of f bs → g ≡ first_of f (unit_here own x ss).breaks
unfolding unit_here
unit_first own x ss f g bs e h = h ∙ ap (first_of f) (e ∙ sym (ap (λ k. k ++ (judged_statements x ss).breaks) (no_breaks (variables_of own))))

abbrev unit_with : ℕ → Option (List Variable) → Option ts.Statements → Option ts.Unit'
unit_with h vs m = both (λ ws body. record { variables = ws; hidden = h; statements = body }) vs m

pub unit_meaning : (own : List Named) (x : Position) (ss : fs.Statements) (h : ℕ) (vs : Option (List Variable)) (m : Option ts.Statements) (o : Option ts.Unit')
    → h ≡ most_hidden_of ss → vs ≡ typed_variables (variables_of own) → m ≡ (judged_statements x ss).meaning → o ≡ unit_with h vs m → o ≡ (unit_here own x ss).meaning
unfolding unit_here
unit_meaning own x ss h vs m o e v j k =
    k ∙ ap (λ z. unit_with z vs m) e ∙ ap (λ z. unit_with (most_hidden_of ss) z m) v ∙ ap (unit_with (most_hidden_of ss) (typed_variables (variables_of own))) j

-- Lists of the tree, judged item by item; a turn of a loop that does so.
use Rattle.std.proofs.Math.Seq.{drop-cons}
use Rattle.std.proofs.Common.{◌≡◌, ℕ, suc, ◌+◌, ◌<◌, ◌≤◌, List, [], ◌∷◌, ◌++◌, length, slice_index_or, take, drop, refl, ap, sym, ◌∙◌, arith}
use Rattle.std.specs.Prelude.{Option, map}
use Rattle.std.proofs.lemmas.List.{drop_all, map_more, map-append, take_all}
use Rattle.std.specs.declared.alloc.Global.{Global}
use Rattle.std.specs.declared.boxed.Box.{Box}
use Rattle.std.specs.declared.vec.Vec.{Vec}
use Rattle.caf_base.specs.declared.place.Pos.{Pos}
use Rattle.checked_tree.specs.Expressions as t
use Rattle.fortran_tree.specs.Expressions as f
use Rattle.fortran_tree.specs.ExpressionViews as tree
use Rattle.fortran_tree.specs.ExpressionViews.{expression_number, expression_logical, expression_designator, expression_function_reference, expression_parenthesized, expression_array_constructor, expression_prefix}
use Rattle.fortran_tree.specs.declared.expr.Argument.{Argument}
use Rattle.fortran_tree.specs.declared.expr.Expr.{Expr}
use Rattle.fortran_tree.specs.declared.expr.Expr.TheVariants as exprs
use Rattle.fortran_tree.specs.declared.expr.Link.{Link}
use Rattle.fortran_tree.specs.declared.expr.Operator.{Operator}
use Rattle.fortran_tree.specs.declared.expr.Specifier.{Specifier}
use Rattle.fortran_tree.specs.declared.expr.Subscript.{Subscript}
use Rattle.fortran_tree.specs.declared.expr.Subscript.TheVariants as subs
use Rattle.rule_definitions.specs.Expressions.{judged, judged_arguments, judged_bound, judged_bracket, judged_brackets, judged_list, judged_specifiers, placed}
use Rattle.rule_definitions.specs.Judgements.{Judgement}
use Rattle.rule_definitions.specs.Names.{Scope}
use Rattle.rule_definitions.specs.Parts.{Placed, binary}
use Rattle.expr_rules.specs.Chains.{argument_judged, chain_judged, operator_at, specifier_judged, triplet_with}

pub list_mapped : (s : Scope) (xs : List Expr) → judged_list s (tree.expressions xs) ≡ map (λ x. placed s (tree.expression x)) xs
list_mapped s [] = refl
list_mapped s (x ∷ xs) = ap (λ k. placed s (tree.expression x) ∷ k) (list_mapped s xs)

pub brackets_mapped : (s : Scope) (xs : List Subscript) → judged_brackets s (tree.section_subscripts xs) ≡ map (λ x. judged_bracket s (tree.section_subscript x)) xs
brackets_mapped s [] = refl
brackets_mapped s (x ∷ xs) = ap (λ k. judged_bracket s (tree.section_subscript x) ∷ k) (brackets_mapped s xs)

pub arguments_mapped : (s : Scope) (xs : List Argument) → judged_arguments s (tree.arguments xs) ≡ map (argument_judged s) xs
arguments_mapped s [] = refl
arguments_mapped s (x ∷ xs) = ap (λ k. argument_judged s x ∷ k) (arguments_mapped s xs)

pub specifiers_mapped : (s : Scope) (xs : List Specifier) → judged_specifiers s (tree.specifiers xs) ≡ map (specifier_judged s) xs
specifiers_mapped s [] = refl
specifiers_mapped s (x ∷ xs) = ap (λ k. specifier_judged s x ∷ k) (specifiers_mapped s xs)

-- one item more
pub turn : {X T Y : Type 0} (see : T → Y) (f : X → Y) (xs : List X) (ys : List T) (i : ℕ) (x : X) (y : T)
    → x ≡ slice_index_or xs i x → i < length xs → map see ys ≡ map f (take i xs) → see y ≡ f x → map see (ys ++ y ∷ []) ≡ map f (take (i + 1) xs)
turn see f xs ys i x y e h v w =
    map-append see ys (y ∷ [])
    ∙ ap (λ k. k ++ see y ∷ []) v
    ∙ ap (λ k. map f (take i xs) ++ k ∷ []) (w ∙ ap f e)
    ∙ sym (map_more f xs i x h)

pub ruleset list_laws = (list_mapped, brackets_mapped, arguments_mapped, specifiers_mapped, take_all)

-- a chain behind an operator with its operands
pub chain_is : (s : Scope) (ks : List Link) (p : Pos) (o : Operator) (a b : f.Expression)
    → judged s (tree.chain ks p (f.binary o a b p)) ≡ chain_judged s (judged s (f.binary o a b p)) p ks
chain_is s [] p o a b = refl
chain_is s (k ∷ ks) p o a b = chain_is s ks p k.operator (f.binary o a b p) (tree.expression k.operand)

pub judged_chain : (s : Scope) (o : Operator) (a b : Box Expr Global) (ks : Vec Link Global) (p : Pos)
    → judged s (tree.expression (exprs.Binary o a b ks p)) ≡ chain_judged s (binary o (placed s (tree.expression a.value)) (placed s (tree.expression b.value))) p ks.items
judged_chain s o a b ks p = ap (judged s) (tree.expression_binary o a b ks p) ∙ chain_is s ks.items p o (tree.expression a.value) (tree.expression b.value)

-- with what the code has found of the first operator
pub chain_found : (s : Scope) (e : Expr) (o : Operator) (a b : Box Expr Global) (ks : Vec Link Global) (p : Pos) (x : Placed) (r : Expr) (j : Judgement t.Expression) (xs : List Link)
    → e ≡ exprs.Binary o a b ks p → x ≡ placed s (tree.expression a.value) → r ≡ b.value → j ≡ binary o x (placed s (tree.expression r)) → xs ≡ ks.items
    → chain_judged s j p xs ≡ judged s (tree.expression e)
chain_found s e o a b ks p x r j xs h u v w z =
    ap (λ q. chain_judged s q p xs) (w ∙ ap (λ y. binary o y (placed s (tree.expression r))) u ∙ ap (λ y. binary o (placed s (tree.expression a.value)) (placed s (tree.expression y))) v)
    ∙ ap (chain_judged s (binary o (placed s (tree.expression a.value)) (placed s (tree.expression b.value))) p) z
    ∙ sym (ap (λ y. judged s (tree.expression y)) h ∙ judged_chain s o a b ks p)

-- a triplet, with what the code has found of its parts
pub triplet_found : (s : Scope) (e : Subscript) (a b c : Option (Box Expr Global)) (p : Pos) (x y z : Judgement t.OptionalExpression)
    → e ≡ subs.Triplet a b c p → x ≡ judged_bound s (tree.optional_expression a) → y ≡ judged_bound s (tree.optional_expression b) → z ≡ judged_bound s (tree.optional_expression c)
    → triplet_with x y z p ≡ judged_bracket s (tree.section_subscript e)
triplet_found s e a b c p x y z h u v w =
    ap (λ q. triplet_with q y z p) u
    ∙ ap (λ q. triplet_with (judged_bound s (tree.optional_expression a)) q z p) v
    ∙ ap (λ q. triplet_with (judged_bound s (tree.optional_expression a)) (judged_bound s (tree.optional_expression b)) q p) w
    ∙ sym (ap (λ q. judged_bracket s (tree.section_subscript q)) h ∙ ap (judged_bracket s) (tree.section_subscript_triplet a b c p))

pub ruleset chain_laws = (expression_number, expression_logical, expression_designator, expression_function_reference, expression_parenthesized, expression_array_constructor, expression_prefix, judged_chain)

item_drop : {A : Type 0} (xs : List A) (i : ℕ) (x : A) → x ≡ slice_index_or xs i x → i < length xs → drop i xs ≡ x ∷ drop (i + 1) xs
item_drop xs i x e h =
    let n : suc i ≡ i + 1 = omega arith in
    drop-cons xs i x h ∙ ap (λ y. y ∷ drop (suc i) xs) (sym e) ∙ ap (λ k. x ∷ drop k xs) n

-- one operator more
pub link_turn : (s : Scope) (xs : List Link) (i : ℕ) (x : Link) (p : Pos) (j k end : Judgement t.Expression)
    → x ≡ slice_index_or xs i x → i < length xs → k ≡ binary x.operator (operator_at j p) (placed s (tree.expression x.operand))
    → chain_judged s j p (drop i xs) ≡ end → chain_judged s k p (drop (i + 1) xs) ≡ end
link_turn s xs i x p j k end e h v w =
    ap (λ q. chain_judged s q p (drop (i + 1) xs)) v ∙ sym (ap (chain_judged s j p) (item_drop xs i x e h)) ∙ w

pub links_whole : (s : Scope) (xs : List Link) (i : ℕ) (p : Pos) (j end : Judgement t.Expression) → length xs ≤ i → chain_judged s j p (drop i xs) ≡ end → j ≡ end
links_whole s xs i p j end h w = sym (ap (chain_judged s j p) (drop_all i xs h)) ∙ w

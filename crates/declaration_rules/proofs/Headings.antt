-- Names that stand twice.
use Rattle.std.proofs.Common.{◌≡◌, ◌∙◌, ℕ, Bool, true, false, not, ◌||◌, List, [], ◌∷◌, ◌++◌, refl, sym, ap}
use Rattle.std.specs.Prelude.{Option, bytes_eq}
use Rattle.fortran_tree.specs.declared.name.Name.{Name}
use Rattle.rule_definitions.specs.declared.broken.Broken.{Broken}
use Rattle.rule_definitions.specs.Judgements.{first_of, unless}
use Rattle.rule_definitions.specs.Names.{is_among}
use Rattle.rule_definitions.specs.Units.{Headed, twice_breaks, dummy_breaks}
use Rattle.scope_table.specs.Pending.{Adds}
use Rattle.scope_table.proofs.First.{first_of_both}

or_turned : (a b : Bool) → (a || (b || false)) ≡ (b || a)
or_turned true true = refl
or_turned true false = refl
or_turned false true = refl
or_turned false false = refl

-- the same names
abbrev pub Same : List (List ℕ) → List (List ℕ) → Type 0
Same xs ys = (n : List ℕ) → is_among xs n ≡ is_among ys n

pub added_same : (new old : List (List ℕ)) (x : List ℕ) → Adds new old (x ∷ []) → Same new (x ∷ old)
added_same new old x h n = h n ∙ or_turned (is_among old n) (bytes_eq x n)

more_same : (xs ys : List (List ℕ)) (x : List ℕ) → Same xs ys → Same (x ∷ xs) (x ∷ ys)
more_same xs ys x h n = ap (λ k. bytes_eq x n || k) (h n)

pub twice_same : (xs ys : List (List ℕ)) (hs : List Headed) → Same xs ys → twice_breaks xs hs ≡ twice_breaks ys hs
twice_same xs ys [] h = refl
twice_same xs ys (x ∷ hs) h =
    ap (λ k. unless (not k) 21 x.name.at ++ twice_breaks (x.name.text ∷ xs) hs) (h x.name.text)
    ∙ ap (λ k. unless (not (is_among ys x.name.text)) 21 x.name.at ++ k) (twice_same (x.name.text ∷ xs) (x.name.text ∷ ys) hs (more_same xs ys x.name.text h))

pub dummies_same : (xs ys : List (List ℕ)) (ns : List Name) → Same xs ys → dummy_breaks xs ns ≡ dummy_breaks ys ns
dummies_same xs ys [] h = refl
dummies_same xs ys (n ∷ ns) h =
    ap (λ k. unless (not k) 21 n.at ++ dummy_breaks (n.text ∷ xs) ns) (h n.text)
    ∙ ap (λ k. unless (not (is_among ys n.text)) 21 n.at ++ k) (dummies_same (n.text ∷ xs) (n.text ∷ ys) ns (more_same xs ys n.text h))

-- a turn of a loop over headings, of which this one is the next
pub turn_twice : (before after : List (List ℕ)) (x : Headed) (hs all : List Headed) (f g end : Option Broken) → all ≡ x ∷ hs → g ≡ first_of f (unless (not (is_among before x.name.text)) 21 x.name.at)
    → Adds after before (x.name.text ∷ []) → first_of f (twice_breaks before all) ≡ end → first_of g (twice_breaks after hs) ≡ end
turn_twice before after x hs all f g end d e a h =
    ap (first_of g) (twice_same after (x.name.text ∷ before) hs (added_same after before x.name.text a))
    ∙ ap (λ k. first_of k (twice_breaks (x.name.text ∷ before) hs)) e
    ∙ sym (first_of_both f (unless (not (is_among before x.name.text)) 21 x.name.at) (twice_breaks (x.name.text ∷ before) hs))
    ∙ ap (λ k. first_of f (twice_breaks before k)) (sym d) ∙ h

pub turn_dummies : (before after : List (List ℕ)) (x : Name) (ns all : List Name) (f g end : Option Broken) → all ≡ x ∷ ns → g ≡ first_of f (unless (not (is_among before x.text)) 21 x.at)
    → Adds after before (x.text ∷ []) → first_of f (dummy_breaks before all) ≡ end → first_of g (dummy_breaks after ns) ≡ end
turn_dummies before after x ns all f g end d e a h =
    ap (first_of g) (dummies_same after (x.text ∷ before) ns (added_same after before x.text a))
    ∙ ap (λ k. first_of k (dummy_breaks (x.text ∷ before) ns)) e
    ∙ sym (first_of_both f (unless (not (is_among before x.text)) 21 x.at) (dummy_breaks (x.text ∷ before) ns))
    ∙ ap (λ k. first_of f (dummy_breaks before k)) (sym d) ∙ h

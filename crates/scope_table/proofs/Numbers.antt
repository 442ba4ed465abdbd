-- A variable is found by its number.
use Rattle.std.proofs.Common.{◌&&◌, Bor, ◌≡◌, ◌∙◌, ◌+◌, ◌<◌, ◌++◌, ◌∷◌, [], ℕ, zero, suc, Bool, true, false, cond, List, Option, Some, None, length, map, nat_eq, refl, sym, ap, subst, arith, add-zero, zero-add}
use Rattle.std.specs.Prelude.{slice_get}
use Rattle.std.specs.Option.{option_map}
use Rattle.std.proofs.lemmas.Grind.{common_steps}
use Rattle.std.proofs.lemmas.List.{map-append, length-map}
use Rattle.checked_tree.specs.declared.data.Home.{Home}
use Rattle.checked_tree.specs.declared.data.Home.TheVariants.{Own, Host}
use Rattle.checked_tree.specs.declared.data.Local.{Local}
use Rattle.checked_tree.specs.declared.data.Object.{Object}
use Rattle.checked_tree.specs.declared.data.Object.TheVariants as objects
use Rattle.rule_definitions.specs.Judgements.{made}
use Rattle.rule_definitions.specs.Names as n
use Rattle.rule_definitions.specs.Names.{if_object, is_home, is_local, is_object, symbol_in}
use Rattle.rule_definitions.specs.Units.{hosted, hosted_object}
use Rattle.scope_table.specs.Counts.{variable_count, variables_in}
use Rattle.scope_table.specs.Scopes.{object_seen, seen_entry}
use Rattle.scope_table.specs.Symbols.{entry, symbol, seen_from}
use Rattle.scope_table.proofs.Tables.{hosted_entries}
use Rattle.scope_table.specs.declared.symbol.Entry.{Entry}
use Rattle.scope_table.specs.declared.symbol.Symbol.{Symbol}
use Rattle.scope_table.specs.declared.symbol.ConstantSymbol.{ConstantSymbol}
use Rattle.scope_table.specs.declared.symbol.Entry.TheVariants as entries
use Rattle.scope_table.specs.Numbered.{variable_places, HasNumber, AreNumbered, ArePlaced, local_object, local_in, local_at}

abbrev pub here : Home → ℕ → Object
here h v = objects.Local (record { home = h; variable = v })

get_next : (ps : List ℕ) (k : ℕ) → slice_get (map suc ps) k ≡ made suc (slice_get ps k)
get_next [] k = refl
get_next (p ∷ ps) zero = refl
get_next (p ∷ ps) (suc k) = get_next ps k

next_at : (h : Home) (e : Entry) (es : List Entry) (o : Option ℕ) → local_at h (e ∷ es) (made suc o) ≡ local_at h es o
next_at h e es None = refl
next_at h e es (Some k) = refl

same : (a b : ℕ) → a ≡ b → nat_eq a b ≡ true
same a b e = grind (arith, common_steps)

apart : (a b : ℕ) → a < b → nat_eq a b ≡ false
apart a b e = grind (arith, common_steps)

apart_above : (a i v : ℕ) → a ≡ i → v < i → nat_eq a v ≡ false
apart_above a i v e lt = grind (arith, common_steps)

apart_below : (a i v : ℕ) → a ≡ i → i < v → nat_eq a v ≡ false
apart_below a i v e lt = grind (arith, common_steps)

-- a variable with the number i, against the number v, from this home
home_same : (h : Home) → is_home h h ≡ true
home_same Own = refl
home_same Host = refl

local_test : (h : Home) (l : Local) (v : ℕ) (b : Bool) → l.home ≡ Own → nat_eq l.variable v ≡ b → is_object (object_seen h (objects.Local l)) (here h v) ≡ b
local_test Own l v b e d = ap (λ k. is_home k Own && nat_eq l.variable v) e ∙ d
local_test Host l v b e d = d

from_object : (h : Home) (x : n.Symbol) → (seen_from h x).object ≡ object_seen h x.object
from_object Own x = refl
from_object Host x = refl

-- an object against the variable with the number v
below_false : (h : Home) (o : Object) (i v : ℕ) → HasNumber i o → v < i → is_object (object_seen h o) (here h v) ≡ false
below_false h (objects.Local l) i v a lt = local_test h l v false a.0 (apart_above l.variable i v a.1 lt)
below_false Own (objects.Coarray c) i v a lt = refl
below_false Host (objects.Coarray c) i v a lt = refl
below_false Own (objects.Constant c) i v a lt = refl
below_false Host (objects.Constant c) i v a lt = refl

above_false : (h : Home) (o : Object) (i v : ℕ) → HasNumber i o → i < v → is_object (object_seen h o) (here h v) ≡ false
above_false h (objects.Local l) i v a lt = local_test h l v false a.0 (apart_below l.variable i v a.1 lt)
above_false Own (objects.Coarray c) i v a lt = refl
above_false Host (objects.Coarray c) i v a lt = refl
above_false Own (objects.Constant c) i v a lt = refl
above_false Host (objects.Constant c) i v a lt = refl

skipped : (h : Home) (x : n.Symbol) (v : ℕ) (rest : Option n.Symbol) → is_object (object_seen h x.object) (here h v) ≡ false → if_object (seen_from h x) (here h v) rest ≡ rest
skipped h x v rest e = ap (λ b. cond b (Some (seen_from h x)) rest) (ap (λ o. is_object o (here h v)) (from_object h x) ∙ e)

-- one with a lower number isn't among them
none_below : (h : Home) (es : List Entry) (i v : ℕ) → AreNumbered i es → v < i → symbol_in (map (seen_entry h) es) (here h v) ≡ None
none_below h [] i v a lt = refl
none_below Own (entries.Constant c ∷ es) i v a lt = none_below Own es i v a lt
none_below Host (entries.Constant c ∷ es) i v a lt = none_below Host es i v a lt
none_below Own (entries.Variable x ∷ es) i v a lt = skipped Own (symbol x) v _ (below_false Own x.object i v a.0 lt) ∙ none_below Own es (suc i) v a.1 (omega arith)
none_below Host (entries.Variable x ∷ es) i v a lt = skipped Host (symbol x) v _ (below_false Host x.object i v a.0 lt) ∙ none_below Host es (suc i) v a.1 (omega arith)

-- the first of them, where that has the number
first_by : (h : Home) (x : n.Symbol) (i v : ℕ) (rest : Option n.Symbol) (o : Object) → x.object ≡ o → HasNumber i o → v ≡ i → rest ≡ None
    → if_object (seen_from h x) (here h v) rest ≡ local_object h x o
first_by h x i v rest (objects.Local l) d a e r = ap (λ b. cond b (Some (seen_from h x)) rest) (ap (λ o. is_object o (here h v)) (from_object h x ∙ ap (object_seen h) d) ∙ local_test h l v true a.0 (same l.variable v (a.1 ∙ sym e)))
first_by Own x i v rest (objects.Coarray c) d a e r = ap (λ o. cond (is_object o (here Own v)) (Some x) rest) d ∙ r
first_by Host x i v rest (objects.Coarray c) d a e r = ap (λ o. cond (is_object (hosted_object o) (here Host v)) (Some (seen_from Host x)) rest) d ∙ r
first_by Own x i v rest (objects.Constant c) d a e r = ap (λ o. cond (is_object o (here Own v)) (Some x) rest) d ∙ r
first_by Host x i v rest (objects.Constant c) d a e r = ap (λ o. cond (is_object (hosted_object o) (here Host v)) (Some (seen_from Host x)) rest) d ∙ r

first_one : (h : Home) (x : n.Symbol) (i v : ℕ) (rest : Option n.Symbol) → HasNumber i x.object → v ≡ i → rest ≡ None → if_object (seen_from h x) (here h v) rest ≡ local_object h x x.object
first_one h x i v rest a e r = first_by h x i v rest x.object refl a e r

pub found : (h : Home) (es : List Entry) (i k v : ℕ) → AreNumbered i es → v ≡ i + k → symbol_in (map (seen_entry h) es) (here h v) ≡ local_at h es (slice_get (variable_places es) k)
found h [] i k v a e = refl
found Own (entries.Constant c ∷ es) i k v a e = found Own es i k v a e ∙ sym (next_at Own (entries.Constant c) es (slice_get (variable_places es) k)) ∙ ap (local_at Own (entries.Constant c ∷ es)) (sym (get_next (variable_places es) k))
found Host (entries.Constant c ∷ es) i k v a e = found Host es i k v a e ∙ sym (next_at Host (entries.Constant c) es (slice_get (variable_places es) k)) ∙ ap (local_at Host (entries.Constant c ∷ es)) (sym (get_next (variable_places es) k))
found Own (entries.Variable x ∷ es) i zero v a e = first_one Own (symbol x) i v _ a.0 (omega arith) (none_below Own es (suc i) v a.1 (omega arith))
found Host (entries.Variable x ∷ es) i zero v a e = first_one Host (symbol x) i v _ a.0 (omega arith) (none_below Host es (suc i) v a.1 (omega arith))
found Own (entries.Variable x ∷ es) i (suc k) v a e = skipped Own (symbol x) v _ (above_false Own x.object i v a.0 (omega arith)) ∙ found Own es (suc i) k v a.1 (omega arith)
    ∙ sym (next_at Own (entries.Variable x) es (slice_get (variable_places es) k)) ∙ ap (local_at Own (entries.Variable x ∷ es)) (sym (get_next (variable_places es) k))
found Host (entries.Variable x ∷ es) i (suc k) v a e = skipped Host (symbol x) v _ (above_false Host x.object i v a.0 (omega arith)) ∙ found Host es (suc i) k v a.1 (omega arith)
    ∙ sym (next_at Host (entries.Variable x) es (slice_get (variable_places es) k)) ∙ ap (local_at Host (entries.Variable x ∷ es)) (sym (get_next (variable_places es) k))

-- one entry more
pub variable_more : (es : List Entry) (e : Entry) → variable_count e ≡ 1 → variable_places (es ++ e ∷ []) ≡ variable_places es ++ length es ∷ []
variable_more [] (entries.Variable x) h = refl
variable_more [] (entries.Constant c) h = absurd (omega (arith, h))
variable_more (entries.Constant c ∷ es) e h = ap (map suc) (variable_more es e h) ∙ map-append suc (variable_places es) (length es ∷ [])
variable_more (entries.Variable x ∷ es) e h = ap (λ ps. 0 ∷ map suc ps) (variable_more es e h) ∙ ap (λ ps. 0 ∷ ps) (map-append suc (variable_places es) (length es ∷ []))

pub constant_more : (es : List Entry) (e : Entry) → variable_count e ≡ 0 → variable_places (es ++ e ∷ []) ≡ variable_places es
constant_more [] (entries.Variable x) h = absurd (omega (arith, h))
constant_more [] (entries.Constant c) h = refl
constant_more (entries.Constant c ∷ es) e h = ap (map suc) (constant_more es e h)
constant_more (entries.Variable x ∷ es) e h = ap (λ ps. 0 ∷ map suc ps) (constant_more es e h)

same_home : (a b : Home) → is_home a b ≡ true → a ≡ b
same_home Own Own e = refl
same_home Host Host e = refl
same_home Own Host e = absurd (let d : false ≡ true = e in cc)
same_home Host Own e = absurd (let d : false ≡ true = e in cc)

pub found_as : (h : Home) (o : Object) (l : Local) (es : List Entry) (ps : List ℕ) (b : Bool) → ArePlaced b ps es → b ≡ true → o ≡ objects.Local l → is_home l.home h ≡ true
    → local_at h es (slice_get ps l.variable) ≡ symbol_in (map (seen_entry h) es) o
found_as h o l es ps b p t e d =
    ap (λ qs. local_at h es (slice_get qs l.variable)) p.placed ∙ sym (found h es 0 l.variable l.variable (p.numbers t) (omega arith))
    ∙ ap (λ k. symbol_in (map (seen_entry h) es) (objects.Local (record { home = k; variable = l.variable }))) (sym (same_home l.home h d)) ∙ ap (symbol_in (map (seen_entry h) es)) (sym e)

-- one variable more
numbered_more : (es : List Entry) (x : Symbol) (i j : ℕ) → AreNumbered i es → j ≡ i + length (variable_places es) → HasNumber j x.object → AreNumbered i (es ++ entries.Variable x ∷ [])
numbered_more [] x i j a e h = (subst (λ k. HasNumber k x.object) (e ∙ add-zero i) h, tt)
numbered_more (entries.Constant c ∷ es) x i j a e h = numbered_more es x i j a (e ∙ ap (λ k. i + k) (length-map (variable_places es) suc)) h
numbered_more (entries.Variable y ∷ es) x i j a e h =
    let k = length-map (variable_places es) suc in
    (a.0, numbered_more es x (suc i) j a.1 (omega (arith, e, k)) h)

numbered_constant : (es : List Entry) (c : ConstantSymbol) (i : ℕ) → AreNumbered i es → AreNumbered i (es ++ entries.Constant c ∷ [])
numbered_constant [] c i a = tt
numbered_constant (entries.Constant d ∷ es) c i a = numbered_constant es c i a
numbered_constant (entries.Variable y ∷ es) c i a = (a.0, numbered_constant es c (suc i) a.1)

both_true : (b w : Bool) → (b && w) ≡ true → (b ≡ true) × (w ≡ true)
both_true true w e = (refl, e)
both_true false w e = absurd (let d : false ≡ true = e in cc)

pub variable_placed : (es : List Entry) (ps : List ℕ) (x : Symbol) (b w : Bool) → (w ≡ true → HasNumber (length ps) x.object) → ArePlaced b ps es
    → ArePlaced (b && w) (ps ++ length es ∷ []) (es ++ entries.Variable x ∷ [])
variable_placed es ps x b w h p = record {
  placed = ap (λ qs. qs ++ length es ∷ []) p.placed ∙ sym (variable_more es (entries.Variable x) refl);
  numbers = λ t. let d = both_true b w t in numbered_more es x 0 (length ps) (p.numbers (d.0)) (ap length p.placed ∙ sym (zero-add (length (variable_places es)))) (h (d.1));
}

pub constant_placed : (es : List Entry) (ps : List ℕ) (c : ConstantSymbol) (b : Bool) → ArePlaced b ps es → ArePlaced b ps (es ++ entries.Constant c ∷ [])
constant_placed es ps c b p = record {
  placed = p.placed ∙ sym (constant_more es (entries.Constant c) refl);
  numbers = λ t. numbered_constant es c 0 (p.numbers t);
}

pub next_placed : (es : List Entry) (ps qs : List ℕ) (e : Entry) (x : Symbol) (k n : ℕ) (b w v : Bool) → e ≡ entries.Variable x → length es ≡ k → qs ≡ ps ++ k ∷ [] → n ≡ length ps
    → v ≡ (b && w) → (w ≡ true → HasNumber n x.object) → ArePlaced b ps es → ArePlaced v qs (es ++ e ∷ [])
next_placed es ps qs e x k n b w v d l q m t h p =
    let a = variable_placed es ps x b w (λ s. subst (λ j. HasNumber j x.object) m (h s)) p in
    let y : ArePlaced (b && w) (ps ++ k ∷ []) (es ++ entries.Variable x ∷ []) = subst (λ j. ArePlaced (b && w) (ps ++ j ∷ []) (es ++ entries.Variable x ∷ [])) l a in
    subst (λ j. ArePlaced j qs (es ++ e ∷ [])) (sym t) (subst (λ z. ArePlaced (b && w) z (es ++ e ∷ [])) (sym q) (subst (λ z. ArePlaced (b && w) (ps ++ k ∷ []) (es ++ z ∷ [])) (sym d) y))

pub hosted_found : (h : Home) (o : Object) (r : Option (Bor Symbol)) (es fs : List Entry) (ps qs : List ℕ) (b : Bool) (ns : List n.Named) → h ≡ Host → es ≡ fs → ps ≡ qs → ArePlaced b qs fs → map entry fs ≡ ns
    → (ArePlaced b ps es → option_map (λ (x : Bor Symbol). seen_from h (symbol x.now)) r ≡ symbol_in (map (seen_entry h) es) o)
    → option_map (λ (x : Bor Symbol). seen_from Host (symbol x.now)) r ≡ symbol_in (map hosted ns) o
hosted_found h o r es fs ps qs b ns e f g p v k =
    let a : ArePlaced b ps es = subst (λ z. ArePlaced b z es) (sym g) (subst (λ z. ArePlaced b qs z) (sym f) p) in
    subst (λ z. option_map (λ (x : Bor Symbol). seen_from z (symbol x.now)) r ≡ symbol_in (map (seen_entry z) es) o) e (k a)
    ∙ ap (λ z. symbol_in (map (seen_entry Host) z) o) f ∙ ap (λ z. symbol_in z o) (sym (hosted_entries fs)) ∙ ap (λ z. symbol_in (map hosted z) o) v

-- What a table of names gives, by the map that it stands for.
use Rattle.std.proofs.Common.{◌≡◌, ℕ, Bool, true, false, List, [], ◌∷◌, ◌++◌, ◌||◌, refl, sym, ap, ◌∙◌, map}
use Rattle.std.specs.Prelude.{cond, bytes_eq, Option, Some}
use Rattle.std.specs.Borrow.{Bor}
use Rattle.std.specs.declared.vec.Vec.{Vec}
use Rattle.std.specs.declared.alloc.Global.{Global}
use Rattle.std.specs.Map.{lookup}
use Rattle.std.proofs.lemmas.Slice.Eq.{bytes_eq-Decides}
use Rattle.indexmap.specs.IndexMap.{insert_entry}
use Rattle.rule_definitions.specs.Names.{is_among}
use Rattle.scope_table.proofs.Places.{either_way}
use Rattle.module_units.specs.Visible.{Denoted, nothing}
use Rattle.unit_names.specs.declared.entity.Found.{Found}
use Rattle.unit_names.specs.Found.{Row, found, row, under, texts, found_in, joined}

found_cond : (b : Bool) (f : Found) (o : Option Found) (d : Denoted) → found_in o ≡ d → found_in (cond b (Some f) o) ≡ cond b (found f) d
found_cond true f o d i = refl
found_cond false f o d i = i

pub looked_up : (n : List ℕ) (es : List (Vec ℕ Global × Found)) → found_in (lookup (λ v. bytes_eq n v.items) es) ≡ under (map row es) n
looked_up n [] = refl
looked_up n (e ∷ es) =
    found_cond (bytes_eq n e.0.items) e.1 (lookup (λ v. bytes_eq n v.items) es) (under (map row es) n) (looked_up n es)
    ∙ ap (λ b. cond b (found e.1) (under (map row es) n)) (either_way n e.0.items)

twice_cond : (c : Bool) (a b u : Denoted) → cond c a u ≡ cond c a (cond c b u)
twice_cond true a b u = refl
twice_cond false a b u = refl

-- two names of which at most one is asked for
swap_cond : (c d : Bool) (k e n : List ℕ) (a b u : Denoted) → bytes_eq k e ≡ false → bytes_eq k n ≡ c → bytes_eq e n ≡ d → cond d b (cond c a u) ≡ cond c a (cond d b u)
swap_cond false d k e n a b u z p q = refl
swap_cond true false k e n a b u z p q = refl
swap_cond true true k e n a b u z p q =
    absurd (cc (sym z ∙ (ap (bytes_eq k) ((bytes_eq-Decides e n).0 q ∙ sym ((bytes_eq-Decides k n).0 p)) ∙ (bytes_eq-Decides k k).1 refl)))

insert_cond : (b : Bool) (k : Vec ℕ Global) (f : Found) (e : Vec ℕ Global × Found) (n : List ℕ) (es rest : List (Vec ℕ Global × Found)) → bytes_eq k.items e.0.items ≡ b
    → under (map row rest) n ≡ cond (bytes_eq k.items n) (found f) (under (map row es) n)
    → under (map row (cond b ((e.0, f) ∷ es) (e ∷ rest))) n ≡ cond (bytes_eq k.items n) (found f) (cond (bytes_eq e.0.items n) (found e.1) (under (map row es) n))
insert_cond true k f e n es rest p i =
    ap (λ z. cond (bytes_eq z n) (found f) (under (map row es) n)) (sym ((bytes_eq-Decides k.items e.0.items).0 p))
    ∙ (twice_cond (bytes_eq k.items n) (found f) (found e.1) (under (map row es) n)
    ∙ ap (λ z. cond (bytes_eq k.items n) (found f) (cond (bytes_eq z n) (found e.1) (under (map row es) n))) ((bytes_eq-Decides k.items e.0.items).0 p))
insert_cond false k f e n es rest p i =
    ap (cond (bytes_eq e.0.items n) (found e.1)) i
    ∙ swap_cond (bytes_eq k.items n) (bytes_eq e.0.items n) k.items e.0.items n (found f) (found e.1) (under (map row es) n) p refl refl

abbrev same_bytes : Vec ℕ Global → Vec ℕ Global → Bool
same_bytes a b = bytes_eq a.items b.items

-- a table with a name in it
pub inserted : (k : Vec ℕ Global) (f : Found) (n : List ℕ) (es : List (Vec ℕ Global × Found)) → under (map row (insert_entry same_bytes es k f)) n ≡ cond (bytes_eq k.items n) (found f) (under (map row es) n)
inserted k f n [] = refl
inserted k f n (e ∷ es) = insert_cond (bytes_eq k.items e.0.items) k f e n es (insert_entry same_bytes es k f) refl (inserted k f n es)

at_cond : (b : Bool) (m n : List ℕ) (rs : List Row) (d u : Denoted) → bytes_eq m n ≡ b → cond b (joined (under rs m) d) u ≡ cond b (joined (under rs n) d) u
at_cond true m n rs d u p = ap (λ z. joined (under rs z) d) ((bytes_eq-Decides m n).0 p)
at_cond false m n rs d u p = refl

-- what a name gives, at another name only where the two are one
pub at_name : (m n : List ℕ) (rs : List Row) (d u : Denoted) → cond (bytes_eq m n) (joined (under rs m) d) u ≡ cond (bytes_eq m n) (joined (under rs n) d) u
at_name m n rs d u = at_cond (bytes_eq m n) m n rs d u refl

or_nothing : (b : Bool) → (b || false) ≡ b
or_nothing true = refl
or_nothing false = refl

or_three : (a b c : Bool) → (a || (b || c)) ≡ ((a || b) || c)
or_three true b c = refl
or_three false b c = refl

among_more : (xs : List (Bor (List ℕ))) (y : Bor (List ℕ)) (n : List ℕ) → is_among (texts (xs ++ y ∷ [])) n ≡ (is_among (texts xs) n || bytes_eq y.now n)
among_more [] y n = or_nothing (bytes_eq y.now n)
among_more (x ∷ xs) y n = ap (λ b. bytes_eq x.now n || b) (among_more xs y n) ∙ or_three (bytes_eq x.now n) (is_among (texts xs) n) (bytes_eq y.now n)

neither : (a b : Bool) → (a || b) ≡ false → (a ≡ false) × (b ≡ false)
neither true b e = absurd (cc e)
neither false b e = (refl, e)

pub front_listed : (xs : List (Bor (List ℕ))) (y : Bor (List ℕ)) (n : List ℕ) → is_among (texts (xs ++ y ∷ [])) n ≡ false → is_among (texts xs) n ≡ false
front_listed xs y n e = (neither (is_among (texts xs) n) (bytes_eq y.now n) (sym (among_more xs y n) ∙ e)).0

-- a name that isn't listed has nothing
pub still_listed : (xs : List (Bor (List ℕ))) (y : Bor (List ℕ)) (old new : List Row) (d : Denoted)
    → ((n : List ℕ) → is_among (texts xs) n ≡ false → under old n ≡ nothing)
    → ((n : List ℕ) → under new n ≡ cond (bytes_eq y.now n) d (under old n))
    → (n : List ℕ) → is_among (texts (xs ++ y ∷ [])) n ≡ false → under new n ≡ nothing
still_listed xs y old new d i s n e =
    let h = neither (is_among (texts xs) n) (bytes_eq y.now n) (sym (among_more xs y n) ∙ e) in
    s n ∙ (ap (λ b. cond b d (under old n)) h.1 ∙ i n h.0)

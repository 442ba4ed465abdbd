-- What lists of entities give under a name.
use Rattle.std.proofs.Common.{◌≡◌, ℕ, Bool, true, false, List, [], ◌∷◌, ◌++◌, refl, sym, ap, ◌∙◌}
use Rattle.std.specs.Prelude.{cond, bytes_eq}
use Rattle.module_units.specs.Visible.{Entity, Denoted, nothing, one, several, agreed, same_entity, Given, given, given_under, given_as, has_name, items_given, item_given}
use Rattle.unit_tree.specs.Files as f
use Rattle.unit_tree.specs.Files.{OnlyItem}
use Rattle.unit_names.specs.Found.{joined}
use Rattle.unit_names.specs.Accessible.{accessible, is_given, under_item, under_items}
use Rattle.unit_names.proofs.Joins.{joined_three}

from_cond : (b : Bool) (d : Denoted) (e : Entity) (gs : List Given) (n : List ℕ) → ((x : Denoted) → given_under x gs n ≡ joined x (accessible gs n))
    → given_under (cond b (agreed d e) d) gs n ≡ joined d (given_under (cond b (agreed nothing e) nothing) gs n)
from_cond true d e gs n h = h (agreed d e) ∙ (joined_three d (one e) (accessible gs n) ∙ ap (joined d) (sym (h (one e))))
from_cond false d e gs n h = h d

-- what is there, and what a list gives
pub given_from : (d : Denoted) (gs : List Given) (n : List ℕ) → given_under d gs n ≡ joined d (accessible gs n)
given_from d [] n = refl
given_from d (g ∷ gs) n = from_cond (bytes_eq g.name n) d g.entity gs n (λ x. given_from x gs n)

given_behind : (d : Denoted) (xs ys : List Given) (n : List ℕ) → given_under d (xs ++ ys) n ≡ given_under (given_under d xs n) ys n
given_behind d [] ys n = refl
given_behind d (g ∷ xs) ys n = given_behind (cond (bytes_eq g.name n) (agreed d g.entity) d) xs ys n

pub given_both : (xs ys : List Given) (n : List ℕ) → accessible (xs ++ ys) n ≡ joined (accessible xs n) (accessible ys n)
given_both xs ys n = given_behind nothing xs ys n ∙ given_from (accessible xs n) ys n

one_cond : (b : Bool) (e : Entity) → is_given (cond b (one e) several) ≡ true
one_cond true e = refl
one_cond false e = refl

one_given : (e : Entity) (d : Denoted) → is_given (joined (one e) d) ≡ true
one_given e nothing = refl
one_given e (one z) = one_cond (same_entity e z) e
one_given e several = refl

has_cond : (b h : Bool) (e : Entity) (gs : List Given) (n : List ℕ) → h ≡ is_given (accessible gs n) → cond b true h ≡ is_given (given_under (cond b (agreed nothing e) nothing) gs n)
has_cond true h e gs n i = sym (ap is_given (given_from (one e) gs n) ∙ one_given e (accessible gs n))
has_cond false h e gs n i = i

-- a list has the names under which it gives something
pub has_given : (gs : List Given) (n : List ℕ) → has_name gs n ≡ is_given (accessible gs n)
has_given [] n = refl
has_given (g ∷ gs) n = has_cond (bytes_eq g.name n) (has_name gs n) g.entity gs n (has_given gs n)

as_new : (c : Bool) (new x : List ℕ) (e : Entity) (rest gs : List Given) (n : List ℕ) → bytes_eq new x ≡ c → accessible rest x ≡ cond c (accessible gs n) nothing
    → accessible (given new e ∷ rest) x ≡ cond c (given_under (one e) gs n) nothing
as_new true new x e rest gs n q i =
    ap (λ b. given_under (cond b (one e) nothing) rest x) q ∙ (given_from (one e) rest x ∙ (ap (joined (one e)) i ∙ sym (given_from (one e) gs n)))
as_new false new x e rest gs n q i = ap (λ b. given_under (cond b (one e) nothing) rest x) q ∙ i

as_cond : (b : Bool) (new x : List ℕ) (e : Entity) (rest gs : List Given) (n : List ℕ) → accessible rest x ≡ cond (bytes_eq new x) (accessible gs n) nothing
    → accessible (cond b (given new e ∷ rest) rest) x ≡ cond (bytes_eq new x) (given_under (cond b (agreed nothing e) nothing) gs n) nothing
as_cond true new x e rest gs n i = as_new (bytes_eq new x) new x e rest gs n refl i
as_cond false new x e rest gs n i = i

pub none_cond : (b : Bool) → nothing ≡ cond b nothing nothing
none_cond true = refl
none_cond false = refl

-- the entities of a name under another
pub given_new : (new : List ℕ) (gs : List Given) (n x : List ℕ) → accessible (given_as new gs n) x ≡ cond (bytes_eq new x) (accessible gs n) nothing
given_new new [] n x = none_cond (bytes_eq new x)
given_new new (g ∷ gs) n x = as_cond (bytes_eq g.name n) new x g.entity (given_as new gs n) gs n (given_new new gs n x)

item_is : (gs : List Given) (i : OnlyItem) (x : List ℕ) → accessible (item_given gs i) x ≡ under_item (accessible gs) i x
item_is gs (f.named n) x = given_new n.text gs n.text x
item_is gs (f.renamed r) x = given_new r.local.text gs r.entity.text x

-- what is listed behind ONLY
pub items_are : (gs : List Given) (is : List OnlyItem) (x : List ℕ) → accessible (items_given gs is) x ≡ under_items (accessible gs) is x
items_are gs [] x = refl
items_are gs (i ∷ is) x =
    given_both (item_given gs i) (items_given gs is) x
    ∙ (ap (λ d. joined d (accessible (items_given gs is) x)) (item_is gs i x) ∙ ap (joined (under_item (accessible gs) i x)) (items_are gs is x))

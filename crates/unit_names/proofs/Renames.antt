-- What USE gives without ONLY, some of it under new names.
use Rattle.std.proofs.Common.{◌≡◌, ℕ, Bool, true, false, not, List, [], ◌∷◌, ◌||◌, refl, sym, ap, ◌∙◌}
use Rattle.std.specs.Prelude.{cond, bytes_eq}
use Rattle.std.proofs.lemmas.Slice.Eq.{bytes_eq-Decides}
use Rattle.scope_table.proofs.Places.{either_way}
use Rattle.module_units.specs.Visible.{Entity, Denoted, nothing, one, Given, given_under, new_names, under_each, renamed_given, all_given}
use Rattle.unit_tree.specs.Files.{Rename}
use Rattle.unit_names.specs.Found.{joined}
use Rattle.unit_names.specs.Accessible.{Accessible, accessible, under_new, under_renames, under_own, is_renamed}
use Rattle.unit_names.proofs.Joins.{nothing_before, joined_three, joined_turned}
use Rattle.unit_names.proofs.Given.{given_from, given_both, none_cond}

-- the second and the third of four change places
pub joined_four : (a b c d : Denoted) → joined (joined a b) (joined c d) ≡ joined (joined a c) (joined b d)
joined_four a b c d =
    joined_three a b (joined c d)
    ∙ (ap (joined a) (sym (joined_three b c d) ∙ (ap (λ z. joined z d) (joined_turned b c) ∙ joined_three c b d))
    ∙ sym (joined_three a c (joined b d)))

cond_joined : (b : Bool) (c d : Denoted) → cond b (joined c d) nothing ≡ joined (cond b c nothing) (cond b d nothing)
cond_joined true c d = refl
cond_joined false c d = refl

pub not_cond_joined : (b : Bool) (c d : Denoted) → cond b nothing (joined c d) ≡ joined (cond b nothing c) (cond b nothing d)
not_cond_joined true c d = refl
not_cond_joined false c d = refl

renames_nothing : (rs : List Rename) (x : List ℕ) → under_renames (λ n. nothing) rs x ≡ nothing
renames_nothing [] x = refl
renames_nothing (r ∷ rs) x = ap (λ d. joined d (under_renames (λ n. nothing) rs x)) (sym (none_cond (bytes_eq r.local.text x))) ∙ (nothing_before (under_renames (λ n. nothing) rs x) ∙ renames_nothing rs x)

renames_same : (f g : Accessible) (rs : List Rename) (x : List ℕ) → ((n : List ℕ) → f n ≡ g n) → under_renames f rs x ≡ under_renames g rs x
renames_same f g [] x h = refl
renames_same f g (r ∷ rs) x h =
    ap (λ d. joined (cond (bytes_eq r.local.text x) d nothing) (under_renames f rs x)) (h r.entity.text)
    ∙ ap (joined (under_new g r.local.text r.entity.text x)) (renames_same f g rs x h)

renames_joined : (f g : Accessible) (rs : List Rename) (x : List ℕ) → under_renames (λ n. joined (f n) (g n)) rs x ≡ joined (under_renames f rs x) (under_renames g rs x)
renames_joined f g [] x = refl
renames_joined f g (r ∷ rs) x =
    ap (λ d. joined d (under_renames (λ n. joined (f n) (g n)) rs x)) (cond_joined (bytes_eq r.local.text x) (f r.entity.text) (g r.entity.text))
    ∙ (ap (joined (joined (under_new f r.local.text r.entity.text x) (under_new g r.local.text r.entity.text x))) (renames_joined f g rs x)
    ∙ joined_four (under_new f r.local.text r.entity.text x) (under_new g r.local.text r.entity.text x) (under_renames f rs x) (under_renames g rs x))

-- an entity as one name gives it
abbrev alone : List ℕ → Entity → Accessible
alone m e n = cond (bytes_eq m n) (one e) nothing

first_name : (b c : Bool) (r : Rename) (m x : List ℕ) (e : Entity) (rest : List (List ℕ)) (d : Denoted) → bytes_eq m r.entity.text ≡ b → bytes_eq r.local.text x ≡ c → accessible (under_each e rest) x ≡ d
    → accessible (under_each e (cond b (r.local.text ∷ rest) rest)) x ≡ joined (cond c (cond b (one e) nothing) nothing) d
first_name true true r m x e rest d p q i = ap (λ k. given_under (cond k (one e) nothing) (under_each e rest) x) q ∙ (given_from (one e) (under_each e rest) x ∙ ap (joined (one e)) i)
first_name true false r m x e rest d p q i = ap (λ k. given_under (cond k (one e) nothing) (under_each e rest) x) q ∙ (i ∙ sym (nothing_before d))
first_name false true r m x e rest d p q i = i ∙ sym (nothing_before d)
first_name false false r m x e rest d p q i = i ∙ sym (nothing_before d)

-- an entity under its new names
names_are : (m x : List ℕ) (e : Entity) (rs : List Rename) → accessible (under_each e (new_names rs m)) x ≡ under_renames (alone m e) rs x
names_are m x e [] = refl
names_are m x e (r ∷ rs) =
    ap (λ k. accessible (under_each e (cond k (r.local.text ∷ new_names rs m) (new_names rs m))) x) (either_way r.entity.text m)
    ∙ first_name (bytes_eq m r.entity.text) (bytes_eq r.local.text x) r m x e (new_names rs m) (under_renames (alone m e) rs x) refl refl (names_are m x e rs)

-- a name has new names, or it hasn't
abbrev is_none : List (List ℕ) → Bool
is_none [] = true
is_none (n ∷ ns) = false

none_step : (b : Bool) (n : List ℕ) (ns : List (List ℕ)) (c : Bool) → is_none ns ≡ not c → is_none (cond b (n ∷ ns) ns) ≡ not (b || c)
none_step true n ns c i = refl
none_step false n ns c i = i

none_renamed : (rs : List Rename) (m : List ℕ) → is_none (new_names rs m) ≡ not (is_renamed rs m)
none_renamed [] m = refl
none_renamed (r ∷ rs) m = none_step (bytes_eq r.entity.text m) r.local.text (new_names rs m) (is_renamed rs m) (none_renamed rs m)

-- an entity that keeps its name, and one that has new ones
kept_cond : (b k : Bool) (rs : List Rename) (m x : List ℕ) (e : Entity) → bytes_eq m x ≡ b → is_renamed rs x ≡ k → is_renamed rs m ≡ false → cond b (one e) nothing ≡ cond k nothing (cond b (one e) nothing)
kept_cond b false rs m x e p q z = refl
kept_cond false true rs m x e p q z = refl
kept_cond true true rs m x e p q z = absurd (cc (sym z ∙ (ap (is_renamed rs) ((bytes_eq-Decides m x).0 p) ∙ q)))

gone_cond : (b k : Bool) (rs : List Rename) (m x : List ℕ) (e : Entity) → bytes_eq m x ≡ b → is_renamed rs x ≡ k → is_renamed rs m ≡ true → nothing ≡ cond k nothing (cond b (one e) nothing)
gone_cond b true rs m x e p q z = refl
gone_cond false false rs m x e p q z = refl
gone_cond true false rs m x e p q z = absurd (cc (sym q ∙ (ap (is_renamed rs) (sym ((bytes_eq-Decides m x).0 p)) ∙ z)))

not_false : (c : Bool) → true ≡ not c → c ≡ false
not_false true e = absurd (cc e)
not_false false e = refl

not_true : (c : Bool) → false ≡ not c → c ≡ true
not_true true e = refl
not_true false e = absurd (cc e)

entity_cond : (ns : List (List ℕ)) (rs : List Rename) (g : Given) (x : List ℕ) → is_none ns ≡ not (is_renamed rs g.name) → accessible (under_each g.entity ns) x ≡ under_renames (alone g.name g.entity) rs x
    → accessible (renamed_given g ns) x ≡ joined (cond (is_renamed rs x) nothing (alone g.name g.entity x)) (under_renames (alone g.name g.entity) rs x)
entity_cond [] rs g x z i =
    kept_cond (bytes_eq g.name x) (is_renamed rs x) rs g.name x g.entity refl refl (not_false (is_renamed rs g.name) z)
    ∙ ap (joined (cond (is_renamed rs x) nothing (alone g.name g.entity x))) i
entity_cond (n ∷ ns) rs g x z i =
    i ∙ (sym (nothing_before (under_renames (alone g.name g.entity) rs x))
    ∙ ap (λ d. joined d (under_renames (alone g.name g.entity) rs x)) (gone_cond (bytes_eq g.name x) (is_renamed rs x) rs g.name x g.entity refl refl (not_true (is_renamed rs g.name) z)))

entity_is : (rs : List Rename) (g : Given) (x : List ℕ)
    → accessible (renamed_given g (new_names rs g.name)) x ≡ joined (cond (is_renamed rs x) nothing (alone g.name g.entity x)) (under_renames (alone g.name g.entity) rs x)
entity_is rs g x = entity_cond (new_names rs g.name) rs g x (none_renamed rs g.name) (names_are g.name x g.entity rs)

-- one entity more
more_given : (g : Given) (gs : List Given) (n : List ℕ) → joined (alone g.name g.entity n) (accessible gs n) ≡ accessible (g ∷ gs) n
more_given g gs n = sym (given_from (alone g.name g.entity n) gs n)

-- all entities but those with new names, and these under them
pub all_are : (rs : List Rename) (gs : List Given) (x : List ℕ) → accessible (all_given rs gs) x ≡ joined (under_own (accessible gs) rs x) (under_renames (accessible gs) rs x)
all_are rs [] x = sym (ap (joined (cond (is_renamed rs x) nothing nothing)) (renames_nothing rs x) ∙ sym (none_cond (is_renamed rs x)))
all_are rs (g ∷ gs) x =
    given_both (renamed_given g (new_names rs g.name)) (all_given rs gs) x
    ∙ (ap (λ d. joined d (accessible (all_given rs gs) x)) (entity_is rs g x)
    ∙ (ap (joined (joined (cond (is_renamed rs x) nothing (alone g.name g.entity x)) (under_renames (alone g.name g.entity) rs x))) (all_are rs gs x)
    ∙ (joined_four (cond (is_renamed rs x) nothing (alone g.name g.entity x)) (under_renames (alone g.name g.entity) rs x) (under_own (accessible gs) rs x) (under_renames (accessible gs) rs x)
    ∙ (ap (λ d. joined d (joined (under_renames (alone g.name g.entity) rs x) (under_renames (accessible gs) rs x))) (sym (not_cond_joined (is_renamed rs x) (alone g.name g.entity x) (accessible gs x)) ∙ ap (cond (is_renamed rs x) nothing) (more_given g gs x))
    ∙ ap (joined (under_own (accessible (g ∷ gs)) rs x))
    (sym (renames_joined (alone g.name g.entity) (accessible gs) rs x) ∙ renames_same (λ n. joined (alone g.name g.entity n) (accessible gs n)) (accessible (g ∷ gs)) rs x (more_given g gs))))))

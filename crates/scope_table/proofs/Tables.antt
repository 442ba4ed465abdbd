-- What the look-ups in a table of names find.
use Rattle.std.proofs.Common.{◌≡◌, ◌∙◌, ℕ, zero, suc, Bool, true, false, not, List, [], ◌∷◌, ◌++◌, length, refl, sym, ap, arith, Bor, ◌||◌}
use Rattle.std.specs.Prelude.{cond, map, Option, Some, None, slice_get, bytes_eq}
use Rattle.std.specs.Option.{option_map, option_copied}
use Rattle.rule_definitions.specs.Judgements.{made, is_there, item_at}
use Rattle.rule_definitions.specs.Units.{hosted, hosted_meaning}
use Rattle.rule_definitions.specs.Names.{Named, Meaning, named, denoted_in, is_among}
use Rattle.scope_table.specs.Names.{place_of}
use Rattle.scope_table.specs.Symbols.{entry, entry_name, entry_meaning}
use Rattle.scope_table.specs.declared.symbol.Entry.{Entry}
use Rattle.checked_tree.specs.declared.data.Home.TheVariants.{Own, Host}
use Rattle.scope_table.specs.Scopes.{seen_entry}
use Rattle.scope_table.specs.Known.{listed, known_meaning, with_first}
use Rattle.scope_table.specs.declared.known.Known.{Known}

-- what stands at a place
abbrev pub at_place : {A B : Type 0} → (A → B) → List A → Option ℕ → Option B
at_place f xs None = None
at_place f xs (Some k) = option_map f (slice_get xs k)

next_place : {A B : Type 0} (f : A → B) (x : A) (xs : List A) (o : Option ℕ) → at_place f (x ∷ xs) (made suc o) ≡ at_place f xs o
next_place f x xs None = refl
next_place f x xs (Some k) = refl

at_cond : {A B : Type 0} (f : A → B) (x : A) (xs : List A) (b : Bool) (o : Option ℕ) → at_place f (x ∷ xs) (cond b (Some 0) (made suc o)) ≡ cond b (Some (f x)) (at_place f xs o)
at_cond f x xs true o = refl
at_cond f x xs false o = next_place f x xs o

pub found_entry : (es : List Entry) (n : List ℕ) → at_place entry_meaning es (place_of n (map entry_name es)) ≡ denoted_in (map entry es) n
found_entry [] n = refl
found_entry (e ∷ es) n =
    at_cond entry_meaning e es (bytes_eq (entry_name e) n) (place_of n (map entry_name es))
    ∙ ap (cond (bytes_eq (entry_name e) n) (Some (entry_meaning e))) (found_entry es n)

among_cond : (b c : Bool) (m : Meaning) (o : Option Meaning) → c ≡ is_there o → (b || c) ≡ is_there (cond b (Some m) o)
among_cond true c m o h = refl
among_cond false c m o h = h

pub found_known : (ns : List (List ℕ)) (ms : List Known) (n : List ℕ) → length ns ≡ length ms → at_place known_meaning ms (place_of n ns) ≡ denoted_in (listed ns ms) n
found_known [] ms n h = refl
found_known (x ∷ xs) [] n h = absurd (omega (arith, h))
found_known (x ∷ xs) (m ∷ ms) n h =
    let e : length xs ≡ length ms = omega (arith, h) in
    at_cond known_meaning m ms (bytes_eq x n) (place_of n xs)
    ∙ ap (cond (bytes_eq x n) (Some (known_meaning m))) (found_known xs ms n e)

-- what a look-up that lends finds
pub through : {A B : Type 0} (f : A → B) (r : Option (Bor A)) → option_map (λ e. f e.now) r ≡ option_map f (option_copied r)
through f None = refl
through f (Some x) = refl

among_there : (ns : List (List ℕ)) (ms : List Known) (n : List ℕ) → length ns ≡ length ms → is_among ns n ≡ is_there (denoted_in (listed ns ms) n)
among_there [] ms n h = refl
among_there (x ∷ xs) [] n h = absurd (omega (arith, h))
among_there (x ∷ xs) (m ∷ ms) n h =
    let e : length xs ≡ length ms = omega (arith, h) in
    among_cond (bytes_eq x n) (is_among xs n) (known_meaning m) (denoted_in (listed xs ms) n) (among_there xs ms n e)

listed_more : (ns : List (List ℕ)) (ms : List Known) (n : List ℕ) (m : Known) → length ns ≡ length ms → listed (ns ++ n ∷ []) (ms ++ m ∷ []) ≡ listed ns ms ++ named n (known_meaning m) ∷ []
listed_more [] [] n m h = refl
listed_more [] (k ∷ ms) n m h = absurd (omega (arith, h))
listed_more (x ∷ xs) [] n m h = absurd (omega (arith, h))
listed_more (x ∷ xs) (k ∷ ms) n m h =
    let e : length xs ≡ length ms = omega (arith, h) in
    ap (λ r. named x (known_meaning k) ∷ r) (listed_more xs ms n m e)

entries_there : (es : List Entry) (n : List ℕ) → is_among (map entry_name es) n ≡ is_there (denoted_in (map entry es) n)
entries_there [] n = refl
entries_there (e ∷ es) n = among_cond (bytes_eq (entry_name e) n) (is_among (map entry_name es) n) (entry_meaning e) (denoted_in (map entry es) n) (entries_there es n)

-- a name that is added
pub added_first : (ns : List (List ℕ)) (ms : List Known) (n : List ℕ) (m : Known) → length ns ≡ length ms → is_among ns n ≡ false
    → listed (ns ++ n ∷ []) (ms ++ m ∷ []) ≡ with_first (listed ns ms) n (known_meaning m)
added_first ns ms n m h a =
    listed_more ns ms n m h
    ∙ ap (λ b. cond b (listed ns ms) (listed ns ms ++ named n (known_meaning m) ∷ [])) (sym a ∙ among_there ns ms n h)

-- a name that is there already
pub kept_first : (ns : List (List ℕ)) (ms : List Known) (n : List ℕ) (m : Known) → length ns ≡ length ms → is_among ns n ≡ true
    → listed ns ms ≡ with_first (listed ns ms) n (known_meaning m)
kept_first ns ms n m h a = ap (λ b. cond b (listed ns ms) (listed ns ms ++ named n (known_meaning m) ∷ [])) (sym a ∙ among_there ns ms n h)

pub entries_more : (es : List Entry) (e : Entry) → map entry_name (es ++ e ∷ []) ≡ map entry_name es ++ entry_name e ∷ []
entries_more [] e = refl
entries_more (x ∷ es) e = ap (λ r. entry_name x ∷ r) (entries_more es e)

-- a name that denotes nothing isn't among the names
pub not_among : (es : List Entry) (n : List ℕ) → denoted_in (map entry es) n ≡ None → is_among (map entry_name es) n ≡ false
not_among es n h = entries_there es n ∙ ap is_there h

-- what an entry found by its place is
pub entry_at : (es : List Entry) (n : List ℕ) (o : Option ℕ) (k : ℕ) (r : Option (Bor Entry)) → o ≡ place_of n (map entry_name es) → o ≡ Some k → option_copied r ≡ slice_get es k
    → option_map (λ e. entry_meaning e.now) r ≡ denoted_in (map entry es) n
entry_at es n o k r p h g =
    through entry_meaning r ∙ ap (option_map entry_meaning) g ∙ ap (at_place entry_meaning es) (sym h ∙ p) ∙ found_entry es n

pub no_entry : (es : List Entry) (n : List ℕ) (o : Option ℕ) → o ≡ place_of n (map entry_name es) → o ≡ None → None ≡ denoted_in (map entry es) n
no_entry es n o p h = ap (at_place entry_meaning es) (sym h ∙ p) ∙ found_entry es n

pub known_at : (ns : List (List ℕ)) (ms : List Known) (n : List ℕ) (o : Option ℕ) (k : ℕ) (r : Option (Bor Known)) → length ns ≡ length ms → o ≡ place_of n ns → o ≡ Some k → option_copied r ≡ slice_get ms k
    → option_map known_meaning (option_copied r) ≡ denoted_in (listed ns ms) n
known_at ns ms n o k r l p h g = ap (option_map known_meaning) g ∙ ap (at_place known_meaning ms) (sym h ∙ p) ∙ found_known ns ms n l

pub no_known : (ns : List (List ℕ)) (ms : List Known) (n : List ℕ) (o : Option ℕ) → length ns ≡ length ms → o ≡ place_of n ns → o ≡ None → None ≡ denoted_in (listed ns ms) n
no_known ns ms n o l p h = ap (at_place known_meaning ms) (sym h ∙ p) ∙ found_known ns ms n l

there_first : (b c : Bool) → b ≡ true → b ≡ not c → c ≡ false
there_first b true e h = cc
there_first b false e h = refl

there_already : (b c : Bool) → b ≡ false → b ≡ not c → c ≡ true
there_already b true e h = refl
there_already b false e h = cc

pub if_new : (ns : List (List ℕ)) (ms : List Known) (n : List ℕ) (m : Known) (new : Bool) (ns' : List (List ℕ)) (ms' : List Known) (all : List Named) → length ns ≡ length ms
    → new ≡ not (is_among ns n) → ns' ≡ cond new (ns ++ n ∷ []) ns → new ≡ true → ms' ≡ ms ++ m ∷ [] → listed ns ms ≡ all → listed ns' ms' ≡ with_first all n (known_meaning m)
if_new ns ms n m new ns' ms' all l t h e g v =
    let a : is_among ns n ≡ false = there_first new (is_among ns n) e t in
    let x : ns' ≡ ns ++ n ∷ [] = h ∙ ap (λ b. cond b (ns ++ n ∷ []) ns) e in
    ap (λ k. listed k ms') x ∙ ap (listed (ns ++ n ∷ [])) g ∙ added_first ns ms n m l a ∙ ap (λ k. with_first k n (known_meaning m)) v

pub if_old : (ns : List (List ℕ)) (ms : List Known) (n : List ℕ) (m : Known) (new : Bool) (ns' : List (List ℕ)) (ms' : List Known) (all : List Named) → length ns ≡ length ms
    → new ≡ not (is_among ns n) → ns' ≡ cond new (ns ++ n ∷ []) ns → new ≡ false → ms' ≡ ms → listed ns ms ≡ all → listed ns' ms' ≡ with_first all n (known_meaning m)
if_old ns ms n m new ns' ms' all l t h e g v =
    let a : is_among ns n ≡ true = there_already new (is_among ns n) e t in
    let x : ns' ≡ ns = h ∙ ap (λ b. cond b (ns ++ n ∷ []) ns) e in
    ap (λ k. listed k ms') x ∙ ap (listed ns) g ∙ kept_first ns ms n m l a ∙ ap (λ k. with_first k n (known_meaning m)) v

-- the names after an entry that is new
pub one_more_entry : (es : List Entry) (e : Entry) (ns ns' : List (List ℕ)) (x : List ℕ) (all : List Named) → ns ≡ map entry_name es → map entry es ≡ all → x ≡ entry_name e
    → (is_among ns x ≡ false → ns' ≡ ns ++ x ∷ []) → denoted_in all (entry_name e) ≡ None → ns' ≡ map entry_name (es ++ e ∷ [])
one_more_entry es e ns ns' x all i v n h r =
    let a : is_among ns x ≡ false = ap (λ k. is_among k x) i ∙ ap (is_among (map entry_name es)) n ∙ not_among es (entry_name e) (ap (λ k. denoted_in k (entry_name e)) v ∙ r) in
    h a ∙ ap (λ k. ns ++ k ∷ []) n ∙ ap (λ k. k ++ entry_name e ∷ []) i ∙ sym (entries_more es e)

cond_map : (b : Bool) (m : Meaning) (o : Option Meaning) → cond b (Some (hosted_meaning m)) (option_map hosted_meaning o) ≡ option_map hosted_meaning (cond b (Some m) o)
cond_map true m o = refl
cond_map false m o = refl

-- a name of the host
pub hosted_in : (xs : List Named) (n : List ℕ) → denoted_in (map hosted xs) n ≡ option_map hosted_meaning (denoted_in xs n)
hosted_in [] n = refl
hosted_in (x ∷ xs) n = ap (cond (bytes_eq x.name n) (Some (hosted_meaning x.meaning))) (hosted_in xs n) ∙ cond_map (bytes_eq x.name n) x.meaning (denoted_in xs n)

item_is : {T : Type 0} (xs : List T) (k : ℕ) → item_at xs k ≡ slice_get xs k
item_is [] k = refl
item_is (x ∷ xs) zero = refl
item_is (x ∷ xs) (suc k) = item_is xs k

-- an item of a list that is seen item by item
pub item_of : {A B : Type 0} (f : A → B) (xs : List A) (k : ℕ) → item_at (map f xs) k ≡ option_map f (slice_get xs k)
item_of f [] k = refl
item_of f (x ∷ xs) zero = refl
item_of f (x ∷ xs) (suc k) = item_of f xs k

-- the names of the host, entry by entry
pub hosted_entries : (es : List Entry) → map hosted (map entry es) ≡ map (seen_entry Host) es
hosted_entries [] = refl
hosted_entries (e ∷ es) = ap (λ k. hosted (entry e) ∷ k) (hosted_entries es)

pub own_entries : (es : List Entry) → map (seen_entry Own) es ≡ map entry es
own_entries [] = refl
own_entries (e ∷ es) = ap (λ k. entry e ∷ k) (own_entries es)

-- What levels give together.
use Rattle.std.proofs.Common.{◌≡◌, ℕ, ◌<◌, ◌≤◌, Bool, true, false, List, [], ◌∷◌, ◌++◌, ◌||◌, length, drop, take, Bor, refl, sym, ap, ◌∙◌, subst, arith}
use Rattle.std.proofs.lemmas.Bool.Decides.{nat_tests}
use Rattle.std.specs.Prelude.{cond, bytes_eq, nat_eq}
use Rattle.std.proofs.lemmas.Slice.Eq.{bytes_eq-Decides}
use Rattle.std.proofs.lemmas.Option.{unwrap_or-slice_get}
use Rattle.std.proofs.lemmas.List.{get_or_append_left, take-append-drop}
use Rattle.std.proofs.Math.Seq.{get_or-append_seam}
use Rattle.rule_definitions.specs.Names.{is_among}
use Rattle.module_units.specs.Visible.{Denoted, nothing}
use Rattle.unit_names.specs.declared.entity.Found.{Found}
use Rattle.unit_names.specs.Found.{Row, found, under, joined, texts}
use Rattle.unit_names.specs.Levels.{block_at, reached, under_listed, is_level, AreWithin}
use Rattle.unit_names.proofs.Joins.{joined_three, joined_turned, joined_twice, nothing_before}

-- one level more
pub level_step : (bs : List (List Row)) (ls rest : List ℕ) (l : ℕ) (old new f g : Denoted) (n : List ℕ) → ls ≡ l ∷ rest → new ≡ joined old f → f ≡ under (block_at bs l) n
    → joined old (reached bs ls n) ≡ g → joined new (reached bs rest n) ≡ g
level_step bs ls rest l old new f g n e s p h =
    ap (λ d. joined d (reached bs rest n)) (s ∙ ap (joined old) p)
    ∙ (joined_three old (under (block_at bs l) n) (reached bs rest n)
    ∙ (ap (λ z. joined old (reached bs z n)) (sym e) ∙ h))

pub listed_cond : (b a : Bool) (i f : Denoted) → joined (cond b (joined i f) i) (cond a f nothing) ≡ joined i (cond (b || a) f nothing)
listed_cond true true i f = joined_three i f f ∙ ap (joined i) (joined_twice f)
listed_cond true false i f = refl
listed_cond false a i f = refl

own_cond : (b : Bool) (m n : List ℕ) (rs : List Row) (i : Denoted) → bytes_eq m n ≡ b → cond b (joined i (under rs m)) i ≡ cond b (joined i (under rs n)) i
own_cond true m n rs i p = ap (λ z. joined i (under rs z)) ((bytes_eq-Decides m n).0 p)
own_cond false m n rs i p = refl

-- one name more
pub listed_step : (xs rest : List (Bor (List ℕ))) (x : Bor (List ℕ)) (from old new : List Row) (f : Found) (g : Denoted) (n : List ℕ) → xs ≡ x ∷ rest
    → found f ≡ under from x.now
    → ((m : List ℕ) → under new m ≡ cond (bytes_eq x.now m) (joined (under old m) (found f)) (under old m))
    → joined (under old n) (under_listed xs from n) ≡ g → joined (under new n) (under_listed rest from n) ≡ g
listed_step xs rest x from old new f g n is e s h =
    ap (λ d. joined d (under_listed rest from n)) (s n ∙ (ap (λ d. cond (bytes_eq x.now n) (joined (under old n) d) (under old n)) e ∙ own_cond (bytes_eq x.now n) x.now n from (under old n) refl))
    ∙ (listed_cond (bytes_eq x.now n) (is_among (texts rest) n) (under old n) (under from n)
    ∙ (ap (λ z. joined (under old n) (under_listed z from n)) (sym is) ∙ h))

all_cond : (b : Bool) (xs : List (Bor (List ℕ))) (rs : List Row) (n : List ℕ) → is_among (texts xs) n ≡ b → (is_among (texts xs) n ≡ false → under rs n ≡ nothing) → cond b (under rs n) nothing ≡ under rs n
all_cond true xs rs n p h = refl
all_cond false xs rs n p h = sym (h p)

-- a block gives nothing under names that it hasn't
pub all_listed : (xs : List (Bor (List ℕ))) (rs : List Row) (n : List ℕ) → (is_among (texts xs) n ≡ false → under rs n ≡ nothing) → under_listed xs rs n ≡ under rs n
all_listed xs rs n h = all_cond (is_among (texts xs) n) xs rs n refl h

-- a level that is there gives nothing more
absorbed_cond : (b : Bool) (bs : List (List Row)) (i l : ℕ) (rest : Denoted) (n : List ℕ) → nat_eq i l ≡ b → (b ≡ false → joined rest (under (block_at bs l) n) ≡ rest)
    → joined (joined (under (block_at bs i) n) rest) (under (block_at bs l) n) ≡ joined (under (block_at bs i) n) rest
absorbed_cond true bs i l rest n p h =
    let same : i ≡ l = grind (arith, nat_tests) in
    let x = under (block_at bs l) n in
    ap (λ k. joined (joined (under (block_at bs k) n) rest) x) same
    ∙ (ap (λ d. joined d x) (joined_turned x rest) ∙ (joined_three rest x x ∙ (ap (joined rest) (joined_twice x) ∙ (joined_turned rest x ∙ ap (λ k. joined (under (block_at bs k) n) rest) (sym same)))))
absorbed_cond false bs i l rest n p h = joined_three (under (block_at bs i) n) rest (under (block_at bs l) n) ∙ ap (joined (under (block_at bs i) n)) (h refl)

cond_false : (b c : Bool) → cond b true c ≡ true → b ≡ false → c ≡ true
cond_false true c e p = absurd (cc p)
cond_false false c e p = e

pub absorbed : (bs : List (List Row)) (ls : List ℕ) (l : ℕ) (n : List ℕ) → is_level ls l ≡ true → joined (reached bs ls n) (under (block_at bs l) n) ≡ reached bs ls n
absorbed bs [] l n e = absurd (cc e)
absorbed bs (i ∷ is) l n e = absorbed_cond (nat_eq i l) bs i l (reached bs is n) n refl (λ p. absorbed bs is l n (cond_false (nat_eq i l) (is_level is l) e p))

-- a level at the end
pub reached_more : (bs : List (List Row)) (ls : List ℕ) (l : ℕ) (n : List ℕ) → reached bs (ls ++ l ∷ []) n ≡ joined (reached bs ls n) (under (block_at bs l) n)
reached_more bs [] l n = sym (nothing_before (under (block_at bs l) n))
reached_more bs (i ∷ is) l n = ap (joined (under (block_at bs i) n)) (reached_more bs is l n) ∙ sym (joined_three (under (block_at bs i) n) (reached bs is n) (under (block_at bs l) n))

pub reached_both : (bs : List (List Row)) (xs ys : List ℕ) (n : List ℕ) → reached bs (xs ++ ys) n ≡ joined (reached bs xs n) (reached bs ys n)
reached_both bs [] ys n = sym (nothing_before (reached bs ys n))
reached_both bs (i ∷ is) ys n = ap (joined (under (block_at bs i) n)) (reached_both bs is ys n) ∙ sym (joined_three (under (block_at bs i) n) (reached bs is n) (reached bs ys n))

pub within_more : (k : ℕ) (ls : List ℕ) (l : ℕ) → AreWithin k ls → l < k → AreWithin k (ls ++ l ∷ [])
within_more k [] l w lt = (lt, tt)
within_more k (i ∷ is) l w lt = (w.0, within_more k is l w.1 lt)

pub within_wider : (k j : ℕ) (ls : List ℕ) → k ≤ j → AreWithin k ls → AreWithin j ls
within_wider k j [] h w = tt
within_wider k j (i ∷ is) h w = (omega arith, within_wider k j is h w.1)

pub within_rest : (k : ℕ) (ls : List ℕ) (l : ℕ) (rest : List ℕ) → ls ≡ l ∷ rest → AreWithin k ls → (l < k) × AreWithin k rest
within_rest k ls l rest e w = subst (AreWithin k) e w

-- blocks behind others change nothing for levels that are there
pub block_kept : (bs more : List (List Row)) (i : ℕ) → i < length bs → block_at (bs ++ more) i ≡ block_at bs i
block_kept bs more i lt = unwrap_or-slice_get (bs ++ more) i [] ∙ (get_or_append_left bs more [] i lt ∙ sym (unwrap_or-slice_get bs i []))

pub reached_kept : (bs more : List (List Row)) (ls : List ℕ) (n : List ℕ) → AreWithin (length bs) ls → reached (bs ++ more) ls n ≡ reached bs ls n
reached_kept bs more [] n w = refl
reached_kept bs more (i ∷ is) n w = ap (λ r. joined (under r n) (reached (bs ++ more) is n)) (block_kept bs more i w.0) ∙ ap (joined (under (block_at bs i) n)) (reached_kept bs more is n w.1)

within_front : (k : ℕ) (xs ys : List ℕ) → AreWithin k (xs ++ ys) → AreWithin k xs
within_front k [] ys w = tt
within_front k (x ∷ xs) ys w = (w.0, within_front k xs ys w.1)

pub within_take : (k c : ℕ) (ls : List ℕ) → AreWithin k ls → AreWithin k (take c ls)
within_take k c ls w = within_front k (take c ls) (drop c ls) (subst (AreWithin k) (sym (take-append-drop c ls)) w)

-- levels of which the last are merged with a block more
pub settled : (bs : List (List Row)) (ls : List ℕ) (c : ℕ) (b merged : List Row) (n : List ℕ) → AreWithin (length bs) ls
    → under merged n ≡ joined (under b n) (reached bs (drop c ls) n)
    → reached (bs ++ merged ∷ []) (take c ls ++ length bs ∷ []) n ≡ joined (reached bs ls n) (under b n)
settled bs ls c b merged n w m =
    let front = reached bs (take c ls) n in
    let back = reached bs (drop c ls) n in
    reached_more (bs ++ merged ∷ []) (take c ls) (length bs) n
    ∙ (ap (λ d. joined d (under (block_at (bs ++ merged ∷ []) (length bs)) n)) (reached_kept bs (merged ∷ []) (take c ls) n (within_take (length bs) c ls w))
    ∙ (ap (λ r. joined front (under r n)) (unwrap_or-slice_get (bs ++ merged ∷ []) (length bs) [] ∙ get_or-append_seam bs merged [] [])
    ∙ (ap (joined front) (m ∙ joined_turned (under b n) back)
    ∙ (sym (joined_three front back (under b n))
    ∙ ap (λ d. joined d (under b n)) (sym (reached_both bs (take c ls) (drop c ls) n) ∙ ap (λ z. reached bs z n) (take-append-drop c ls))))))

length_more : (bs : List (List Row)) (b : List Row) → length bs < length (bs ++ b ∷ [])
length_more [] b = omega arith
length_more (x ∷ bs) b = let h = length_more bs b in omega arith

less_before : (k j : ℕ) → k < j → k ≤ j
less_before k j h = omega arith

-- the levels behind it are of blocks that are there
pub settled_within : (bs new : List (List Row)) (b : List Row) (ls more : List ℕ) (c : ℕ) → AreWithin (length bs) ls → new ≡ bs ++ b ∷ [] → more ≡ take c ls ++ length bs ∷ []
    → AreWithin (length new) more
settled_within bs new b ls more c w e f =
    subst (λ k. AreWithin (length k) more) (sym e) (subst (AreWithin (length (bs ++ b ∷ []))) (sym f)
    (within_more (length (bs ++ b ∷ [])) (take c ls) (length bs)
    (within_wider (length bs) (length (bs ++ b ∷ [])) (take c ls) (less_before (length bs) (length (bs ++ b ∷ [])) (length_more bs b)) (within_take (length bs) c ls w)) (length_more bs b)))

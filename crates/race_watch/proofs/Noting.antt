-- Noting a mark at several cells.
use Rattle.std.proofs.Common.{◌≡◌, ℕ, ◌+◌, ◌<◌, Bool, true, false, nat_eq, ◌||◌, ◌&&◌, not, cond, List, [], ◌∷◌, ◌++◌, length, get_or, take, refl, ap, sym, ◌∙◌, inl, inr}
use Rattle.std.proofs.lemmas.Bool.{cases_Bool, eq-eqb}
use Rattle.std.proofs.lemmas.List.{take_more, append-nil}
use Rattle.std.proofs.lemmas.List.Elements.{filter-append}
use Rattle.std.specs.List.{filter}
use Rattle.order_theory.specs.Races.{Class, reads, writes, looks, changes, makes, signals, meets}
use Rattle.order_theory.specs.Marks.{Mark, outranks, same_image, stays, noted}
use Rattle.race_watch.specs.Rows.{is_in, any_of}

outranks_own : (k : Class) → outranks k k ≡ true
outranks_own reads = refl
outranks_own writes = refl
outranks_own looks = refl
outranks_own changes = refl
outranks_own makes = refl
outranks_own signals = refl

stays_own : (q : Mark) → stays q q ≡ false
stays_own q = rw (outranks_own q.class, eq-eqb q.segment.image q.segment.image refl) refl

filter_again : {A : Type 0} (p : A → Bool) (xs : List A) → filter p (filter p xs) ≡ filter p xs
filter_again p [] = refl
filter_again p (x ∷ xs) =
    elim (cases_Bool (p x)) [
      | inl t ↦ rw (t, t) (ap (λ z. x ∷ z) (filter_again p xs))
      | inr f ↦ rw f (filter_again p xs)
    ]

pub noted_again : (q : Mark) (ks : List Mark) → noted q (noted q ks) ≡ noted q ks
noted_again q ks =
    ap (λ z. z ++ q ∷ []) (filter-append (stays q) (filter (stays q) ks) (q ∷ [])
    ∙ ap (λ z. z ++ filter (stays q) (q ∷ [])) (filter_again (stays q) ks)
    ∙ ap (λ b. filter (stays q) ks ++ cond b (q ∷ []) []) (stays_own q) ∙ append-nil (filter (stays q) ks))

pub is_in_append : (k : ℕ) (xs ys : List ℕ) → is_in k (xs ++ ys) ≡ (is_in k xs || is_in k ys)
is_in_append k [] ys = refl
is_in_append k (x ∷ xs) ys =
    elim (cases_Bool (nat_eq k x)) [
      | inl t ↦ rw t refl
      | inr f ↦ rw f (is_in_append k xs ys)
    ]

note_step : (b e : Bool) (q : Mark) (old mid new : List Mark) → mid ≡ cond b (noted q old) old → new ≡ cond e (noted q mid) mid → new ≡ cond (b || (e || false)) (noted q old) old
note_step true true q old mid new h g = g ∙ ap (noted q) h ∙ noted_again q old
note_step true false q old mid new h g = g ∙ h
note_step false true q old mid new h g = g ∙ ap (noted q) h
note_step false false q old mid new h g = g ∙ h

pub note_more : (k i x d : ℕ) (os : List ℕ) (q : Mark) (old mid new : List Mark) → i < length os → x ≡ get_or os i d
    → mid ≡ cond (is_in k (take i os)) (noted q old) old → new ≡ cond (nat_eq k x) (noted q mid) mid → new ≡ cond (is_in k (take (i + 1) os)) (noted q old) old
note_more k i x d os q old mid new l e h g =
    note_step (is_in k (take i os)) (nat_eq k x) q old mid new h g
    ∙ ap (λ b. cond b (noted q old) old) (sym (is_in_append k (take i os) (x ∷ [])) ∙ ap (λ z. is_in k (take i os ++ z ∷ [])) e ∙ ap (is_in k) (sym (take_more os i d l)))

pub any_of_nothing : (c : ℕ → ℕ) (q : Mark) (os : List ℕ) → any_of c q [] os ≡ false
any_of_nothing c q [] = refl
any_of_nothing c q (o ∷ os) = any_of_nothing c q os

met_by_makes : (k : Class) → meets k makes ≡ true
met_by_makes reads = refl
met_by_makes writes = refl
met_by_makes looks = refl
met_by_makes changes = refl
met_by_makes makes = refl
met_by_makes signals = refl

either_met : (b : Bool) → not (true && (b || true)) ≡ false
either_met true = refl
either_met false = refl

stays_not : (q : Mark) → q.class ≡ makes → (k : Mark) → stays q k ≡ false
stays_not q e k = ap (λ c. not (outranks c k.class && (same_image k q || meets k.class c))) e ∙ ap (λ b. not (true && (same_image k q || b))) (met_by_makes k.class) ∙ either_met (same_image k q)

none_stays : (q : Mark) → q.class ≡ makes → (ks : List Mark) → filter (stays q) ks ≡ []
none_stays q e [] = refl
none_stays q e (k ∷ ks) = rw (stays_not q e k) (none_stays q e ks)

-- The mark of an allocation or deallocation is kept alone.
pub makes_alone : (q : Mark) → q.class ≡ makes → (ks : List Mark) → noted q ks ≡ q ∷ []
makes_alone q e ks = ap (λ z. z ++ q ∷ []) (none_stays q e ks)

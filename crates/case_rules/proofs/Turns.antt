-- A turn of a loop that judges the items of a list.
use Rattle.std.proofs.Math.Seq.{drop-cons}
use Rattle.std.proofs.Common.{◌≡◌, ◌∙◌, ℕ, suc, ◌+◌, ◌<◌, List, [], ◌∷◌, ◌++◌, length, drop, slice_index_or, refl, sym, ap, arith}
use Rattle.std.proofs.lemmas.List.{append_assoc, append-nil}
use Rattle.std.specs.Prelude.{Option, Some, None}
use Rattle.std.specs.Option.{option_map}
use Rattle.std.specs.declared.alloc.Global.{Global}
use Rattle.std.specs.declared.vec.Vec.{Vec}
use Rattle.part_rules.specs.Views.{list_of, one_more}
use Rattle.rule_definitions.specs.declared.broken.Broken.{Broken}
use Rattle.rule_definitions.specs.Judgements.{both}

pub item_drop : {A : Type 0} (xs : List A) (i : ℕ) (x : A) → x ≡ slice_index_or xs i x → i < length xs → drop i xs ≡ x ∷ drop (i + 1) xs
item_drop xs i x e h =
    let n : suc i ≡ i + 1 = omega arith in
    drop-cons xs i x h ∙ ap (λ y. y ∷ drop (suc i) xs) (sym e) ∙ ap (λ k. x ∷ drop k xs) n

-- what breaks before, in an item and behind it
pub turn_breaks : (bs cs ds j r all whole : List Broken) → ds ≡ bs ++ cs → cs ≡ j → all ≡ j ++ r → bs ++ all ≡ whole → ds ++ r ≡ whole
turn_breaks bs cs ds j r all whole e f g h = ap (λ x. x ++ r) e ∙ ap (λ x. (bs ++ x) ++ r) f ∙ append_assoc bs j r ∙ ap (λ x. bs ++ x) (sym g) ∙ h

-- a list that is put together from the front
module _ {T Y L : Type 0} (more : Y → L → L) (see : T → Y) where
  -- the items so far before what is to come
  abbrev pub before : List T → L → L
  before [] r = r
  before (x ∷ xs) r = more (see x) (before xs r)

  before_one_more : (xs : List T) (x : T) (r : L) → before (xs ++ x ∷ []) r ≡ before xs (more (see x) r)
  before_one_more [] x r = refl
  before_one_more (y ∷ xs) x r = ap (more (see y)) (before_one_more xs x r)

  kept : (o : Option (List T)) (x : Option T) (r : Option L) → both before (both one_more o x) r ≡ both before o (both more (option_map see x) r)
  kept None x r = refl
  kept (Some xs) None r = refl
  kept (Some xs) (Some x) None = refl
  kept (Some xs) (Some x) (Some r) = ap Some (before_one_more xs x r)

  pub turn_meaning : (o p : Option (List T)) (y : Option T) (m : Option Y) (r all whole : Option L)
      → p ≡ both one_more o y → option_map see y ≡ m → all ≡ both more m r → both before o all ≡ whole → both before p r ≡ whole
  turn_meaning o p y m r all whole e f g h =
      ap (λ k. both before k r) e ∙ kept o y r ∙ ap (λ k. both before o (both more k r)) f ∙ ap (both before o) (sym g) ∙ h

  -- no items before what is to come
  pub nothing_before : (o : Option (List T)) (r : Option L) → o ≡ Some [] → both before o r ≡ r
  nothing_before o None e = ap (λ p. both before p None) e
  nothing_before o (Some x) e = ap (λ p. both before p (Some x)) e

  -- a list that is seen item by item
  pub whole_list : (nil : L) (list : List T → L) → ((xs : List T) → before xs nil ≡ list xs)
      → (o : Option (Vec T Global)) → both before (option_map list_of o) (Some nil) ≡ option_map (λ v. list v.items) o
  whole_list nil list e None = refl
  whole_list nil list e (Some v) = ap Some (e v.items)

-- a list of items that are seen as they are
both_joined : {T : Type 0} (o : Option (List T)) (x : Option T) (r : Option (List T))
    → both (λ xs ys. xs ++ ys) (both one_more o x) r ≡ both (λ xs ys. xs ++ ys) o (both (λ y ys. y ∷ ys) x r)
both_joined None x r = refl
both_joined (Some xs) None r = refl
both_joined (Some xs) (Some x) None = refl
both_joined (Some xs) (Some x) (Some r) = ap Some (append_assoc xs (x ∷ []) r)

pub turn_joined : {T : Type 0} (o p : Option (List T)) (y m : Option T) (r all whole : Option (List T))
    → p ≡ both one_more o y → y ≡ m → all ≡ both (λ z zs. z ∷ zs) m r → both (λ xs ys. xs ++ ys) o all ≡ whole → both (λ xs ys. xs ++ ys) p r ≡ whole
turn_joined o p y m r all whole e f g h =
    ap (λ k. both (λ xs ys. xs ++ ys) k r) e ∙ both_joined o y r ∙ ap (λ k. both (λ xs ys. xs ++ ys) o (both (λ z zs. z ∷ zs) k r)) f
    ∙ ap (both (λ xs ys. xs ++ ys) o) (sym g) ∙ h

pub joined_whole : {T : Type 0} (o : Option (List T)) → both (λ xs ys. xs ++ ys) o (Some []) ≡ o
joined_whole None = refl
joined_whole (Some xs) = ap Some (append-nil xs)

-- an item that goes before what follows
abbrev pub before_all : {L : Type 0} → (L → L) → L → L
before_all f r = f r

-- numbers before, in and behind an item
pub turn_number : (a b k l r all w : ℕ) → b ≡ k + l → k ≡ a → all ≡ l + r → a + all ≡ w → b + r ≡ w
turn_number a b k l r all w e f g h = omega (arith, e, f, g, h)

-- Images are dealt and given back in their order.
use Rattle.std.proofs.Common.{◌≡◌, ℕ, ◌+◌, ◌<◌, ◌≤◌, List, [], ◌∷◌, ◌++◌, length, length-append, map, get_or, take, drop, ap, sym, ◌∙◌, refl, arith, append_assoc}
use Rattle.std.proofs.lemmas.List.{append-nil}
use Rattle.image_gate.proofs.Closings.{one_more}
use Rattle.crew.specs.declared.member.Member.{Member}
use Rattle.crew.specs.declared.member.Worker.{Worker}
use Rattle.crew.specs.Crews.{members_of}

-- the first item is taken out
pub first_out : {A : Type 0} (xs xs' : List A) (x : A) → 0 < length xs → x ≡ get_or xs 0 x → xs' ≡ take 0 xs ++ drop 1 xs → xs ≡ x ∷ xs'
first_out [] xs' x lt is rest = absurd (omega arith)
first_out (y ∷ ys) xs' x lt is rest = ap (λ z. z ∷ ys) (sym is) ∙ ap (λ zs. x ∷ zs) (sym rest)

pub taken_more : {A : Type 0} (taken rest rest' all : List A) (x : A) → rest ≡ x ∷ rest' → taken ++ rest ≡ all → (taken ++ x ∷ []) ++ rest' ≡ all
taken_more taken rest rest' all x next h = one_more taken x rest' ∙ ap (λ l. taken ++ l) (sym next) ∙ h

pub still_some : {A : Type 0} (taken rest all : List A) (k size : ℕ) → taken ++ rest ≡ all → length taken ≡ k → k < size → size ≤ length all → 0 < length rest
still_some taken rest all k size h many lt le = (let a = length-append taken rest in let b = ap length h in omega arith)

pub map_append : {A B : Type 0} (f : A → B) (xs ys : List A) → map f (xs ++ ys) ≡ map f xs ++ map f ys
map_append f [] ys = refl
map_append f (x ∷ xs) ys = ap (λ l. f x ∷ l) (map_append f xs ys)

-- one image more, seen by a view
pub view_more : {A B : Type 0} (f : A → B) (done done' : List B) (x : A) (rest rest' : List A) (end : List B) → rest ≡ x ∷ rest' → done' ≡ done ++ f x ∷ [] → done ++ map f rest ≡ end → done' ++ map f rest' ≡ end
view_more f done done' x rest rest' end next more h = ap (λ l. l ++ map f rest') more ∙ one_more done (f x) (map f rest') ∙ ap (λ l. done ++ map f l) (sym next) ∙ h

pub views_more : {A B : Type 0} (f : A → B) (ms ms' : List A) (x : A) (rest rest' all : List B) → ms' ≡ ms ++ x ∷ [] → rest ≡ f x ∷ rest' → map f ms ++ rest ≡ all → map f ms' ++ rest' ≡ all
views_more f ms ms' x rest rest' all more next h =
    ap (λ l. map f l ++ rest') more ∙ ap (λ l. l ++ rest') (map_append f ms (x ∷ [])) ∙ one_more (map f ms) (f x) rest' ∙ ap (λ l. map f ms ++ l) (sym next) ∙ h

module _ {M : Type 0} where
  pub members_more : (ws : List (Worker M)) (w : Worker M) → members_of (ws ++ w ∷ []) ≡ members_of ws ++ w.members.items
  members_more [] w = append-nil w.members.items
  members_more (v ∷ ws) w = ap (λ l. v.members.items ++ l) (members_more ws w) ∙ sym (append_assoc v.members.items (members_of ws) w.members.items)

  pub dealt_more : (ws ws' : List (Worker M)) (w : Worker M) (rest rest' all : List (Member M)) → ws' ≡ ws ++ w ∷ [] → members_of ws ++ rest ≡ all → w.members.items ++ rest' ≡ rest → members_of ws' ++ rest' ≡ all
  dealt_more ws ws' w rest rest' all more h shared =
      ap (λ l. members_of l ++ rest') more ∙ ap (λ l. l ++ rest') (members_more ws w) ∙ append_assoc (members_of ws) w.members.items rest' ∙ ap (λ l. members_of ws ++ l) shared ∙ h

  pub dealt_last : (ws ws' : List (Worker M)) (w : Worker M) (rest all : List (Member M)) → ws' ≡ ws ++ w ∷ [] → members_of ws ++ rest ≡ all → w.members.items ≡ rest → members_of ws' ≡ all
  dealt_last ws ws' w rest all more h shared = ap members_of more ∙ members_more ws w ∙ ap (λ l. members_of ws ++ l) shared ∙ h

  -- one worker more is back
  pub back_more : (done done' : List (Member M)) (w : Worker M) (rest rest' : List (Worker M)) (all : List (Member M)) → rest ≡ w ∷ rest' → done' ≡ done ++ w.members.items → done ++ members_of rest ≡ all → done' ++ members_of rest' ≡ all
  back_more done done' w rest rest' all next more h = ap (λ l. l ++ members_of rest') more ∙ append_assoc done w.members.items (members_of rest') ∙ ap (λ l. done ++ members_of l) (sym next) ∙ h

-- The teams of formations, one after the other.
use Rattle.std.proofs.Common.{◌≡◌, ◌⊎◌, inl, inr, ℕ, zero, suc, ◌+◌, ◌<◌, ◌≤◌, List, [], ◌∷◌, ◌++◌, length, map, replicate, take, refl, ap, sym, ◌∙◌, subst, arith, append_assoc, length-append}
use Rattle.std.specs.Prelude.{Some, slice_get, slice_index_or}
use Rattle.std.specs.Global.{Vec}
use Rattle.std.proofs.lemmas.List.{append-nil, length-map}
use Rattle.caf_base.specs.declared.place.ImageNo.{ImageNo}
use Rattle.object_rules.specs.FormedTeams.{Members}
use Rattle.object_rules.specs.BoardTeams.{Team}
use Rattle.team_tree.specs.declared.arg.Members.{Members as MadeMembers}
use Rattle.team_tree.specs.Args.{plain_members, plain_teams, image_numbers}
use Rattle.team_tree.specs.KnownTeams.{all_known, images_from, child_of, AreFew}
use Rattle.control_board.specs.declared.forming.Formation.{Formation}
use Rattle.control_board.specs.Boards.{team_with, made_of, all_made, AllFew, images_of_teams, IsCopied}

pub made_append : (fs gs : List Formation) → all_made (fs ++ gs) ≡ all_made fs ++ all_made gs
made_append [] gs = refl
made_append (f ∷ fs) gs = ap (λ l. made_of f ++ l) (made_append fs gs) ∙ sym (append_assoc (made_of f) (all_made fs) (all_made gs))

pub made_last : (fs : List Formation) (f : Formation) → all_made (fs ++ f ∷ []) ≡ all_made fs ++ made_of f
made_last fs f = made_append fs (f ∷ []) ∙ ap (λ l. all_made fs ++ l) (append-nil (made_of f))

pub made_count : (f : Formation) → length (made_of f) ≡ length f.plan.teams.items
made_count f = length-map (plain_teams f.plan.teams.items) (team_with f.plan.parent.0 f.round) ∙ length-map f.plan.teams.items plain_members

get_at : (ys : List Formation) (f : Formation) (rest : List Formation) → slice_get (ys ++ f ∷ rest) (length ys) ≡ Some f
get_at [] f rest = refl
get_at (y ∷ ys) f rest = get_at ys f rest

-- what is asked of the next formation
pub few_there : (fs ys rest : List Formation) (f : Formation) → AllFew fs → ys ++ f ∷ rest ≡ fs → AreFew f.plan.teams.items
few_there fs ys rest f few e = few (length ys) f (ap (λ l. slice_get l (length ys)) (sym e) ∙ get_at ys f rest)

pub count_there : (fs ys rest : List Formation) (f : Formation) → ys ++ f ∷ rest ≡ fs → length (all_made ys) + length f.plan.teams.items ≤ length (all_made fs)
count_there fs ys rest f e =
    let a : length (all_made fs) ≡ length (all_made ys) + length (made_of f ++ all_made rest) = ap (λ l. length (all_made l)) (sym e) ∙ ap length (made_append ys (f ∷ rest)) ∙ length-append (all_made ys) (made_of f ++ all_made rest) in
    let b = length-append (made_of f) (all_made rest) in
    let c = made_count f in
    omega arith

births_of : (t r : ℕ) (ms : List Members) → replicate (length ms) r ≡ map (λ (x : Team). x.round) (map (team_with t r) ms)
births_of t r [] = refl
births_of t r (m ∷ ms) = ap (λ l. r ∷ l) (births_of t r ms)

pub made_births : (f : Formation) → replicate (length f.plan.teams.items) f.round ≡ map (λ (x : Team). x.round) (made_of f)
made_births f = ap (λ k. replicate k f.round) (sym (length-map f.plan.teams.items plain_members)) ∙ births_of f.plan.parent.0 f.round (plain_teams f.plan.teams.items)

images_back : (ms : List ImageNo) → images_from (image_numbers ms) ≡ ms
images_back [] = refl
images_back (m ∷ ms) = ap (λ l. m ∷ l) (images_back ms)

children_of : (t r : ℕ) (ms : List MadeMembers) → map (child_of t) ms ≡ all_known (map (team_with t r) (plain_teams ms))
children_of t r [] = refl
children_of t r (m ∷ ms) =
    ap (λ is. record { parent = t; number = m.number; members = is } ∷ map (child_of t) ms) (sym (images_back m.images.items))
    ∙ ap (λ l. record { parent = t; number = m.number; members = images_from (image_numbers m.images.items) } ∷ l) (children_of t r ms)

pub made_children : (f : Formation) → map (child_of f.plan.parent.0) f.plan.teams.items ≡ all_known (made_of f)
made_children f = children_of f.plan.parent.0 f.round f.plan.teams.items

images_made : (t r : ℕ) (ms : List MadeMembers) → map (λ (m : MadeMembers). m.images.items) ms ≡ images_of_teams (map (team_with t r) (plain_teams ms))
images_made t r [] = refl
images_made t r (m ∷ ms) =
    ap (λ is. is ∷ map (λ (z : MadeMembers). z.images.items) ms) (sym (images_back m.images.items))
    ∙ ap (λ l. images_from (image_numbers m.images.items) ∷ l) (images_made t r ms)

pub map_append : {A B : Type 0} (f : A → B) (xs ys : List A) → map f (xs ++ ys) ≡ map f xs ++ map f ys
map_append f [] ys = refl
map_append f (x ∷ xs) ys = ap (λ l. f x ∷ l) (map_append f xs ys)

take_more : {A : Type 0} (xs : List A) (k : ℕ) (d : A) → k < length xs → take (k + 1) xs ≡ take k xs ++ slice_index_or xs k d ∷ []
take_more [] k d h = absurd (omega arith)
take_more (m ∷ ms) zero d h = refl
take_more (m ∷ ms) (suc k) d h = let e : suc k + 1 ≡ suc (k + 1) = omega arith in ap (λ j. take j (m ∷ ms)) e ∙ ap (λ l. m ∷ l) (take_more ms k d (omega arith))

-- the copies, one team further
pub copied_more : (before after now : List (Vec ImageNo)) (v : Vec ImageNo) (ms : List MadeMembers) (k : ℕ) (d : MadeMembers) → k < length ms → IsCopied before (take k ms) after → now ≡ after ++ v ∷ [] → v.items ≡ (slice_index_or ms k d).images.items → IsCopied before (take (k + 1) ms) now
copied_more before after now v ms k d low was is same =
    ap (map (λ (x : Vec ImageNo). x.items)) is ∙ map_append (λ (x : Vec ImageNo). x.items) after (v ∷ []) ∙ ap (λ l. l ++ v.items ∷ []) was
    ∙ append_assoc (map (λ (x : Vec ImageNo). x.items) before) (map (λ (m : MadeMembers). m.images.items) (take k ms)) (v.items ∷ [])
    ∙ ap (λ x. map (λ (y : Vec ImageNo). y.items) before ++ (map (λ (m : MadeMembers). m.images.items) (take k ms) ++ x ∷ [])) same
    ∙ ap (λ l. map (λ (y : Vec ImageNo). y.items) before ++ l) (sym (ap (map (λ (m : MadeMembers). m.images.items)) (take_more ms k d low) ∙ map_append (λ (m : MadeMembers). m.images.items) (take k ms) (slice_index_or ms k d ∷ [])))

-- one formation further
pub members_more : (before now : List (Vec ImageNo)) (fs : List Formation) (k : ℕ) (d : Formation) → k < length fs → map (λ (v : Vec ImageNo). v.items) before ≡ images_of_teams (all_made (take k fs)) → IsCopied before (slice_index_or fs k d).plan.teams.items now
    → map (λ (v : Vec ImageNo). v.items) now ≡ images_of_teams (all_made (take (k + 1) fs))
members_more before now fs k d low was copied =
    let f = slice_index_or fs k d in
    copied ∙ ap (λ l. l ++ map (λ (m : MadeMembers). m.images.items) f.plan.teams.items) was
    ∙ ap (λ l. images_of_teams (all_made (take k fs)) ++ l) (images_made f.plan.parent.0 f.round f.plan.teams.items)
    ∙ sym (ap (λ l. images_of_teams (all_made l)) (take_more fs k d low) ∙ ap images_of_teams (made_last (take k fs) f) ∙ map_append (λ (x : Team). images_from x.members) (all_made (take k fs)) (made_of f))

-- one formation more
last_of : (fs : List Formation) (f g : Formation) (k : ℕ) → slice_get (fs ++ f ∷ []) k ≡ Some g → (slice_get fs k ≡ Some g) ⊎ (f ≡ g)
last_of [] f g zero e = inr (cc)
last_of [] f g (suc k) e = absurd (cc)
last_of (x ∷ xs) f g zero e = inl e
last_of (x ∷ xs) f g (suc k) e = last_of xs f g k e

pub few_last : (fs : List Formation) (f : Formation) → AllFew fs → AreFew f.plan.teams.items → AllFew (fs ++ f ∷ [])
few_last fs f all few k g at = elim (last_of fs f g k at) [
  | inl a ↦ all k g a
  | inr e ↦ subst (λ (x : Formation). AreFew x.plan.teams.items) e few
]

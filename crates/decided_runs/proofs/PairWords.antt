-- SYNC IMAGES by what each image says: with which images it began each.
use Rattle.std.proofs.Common.{◌≡◌, ℕ, ◌+◌, Bool, true, false, nat_eq, nat_le, ◌||◌, cond, List, [], ◌∷◌, ◌++◌, length, map, inl, inr, refl, ap, sym, ◌∙◌, arith}
use Rattle.std.specs.List.{list_all, cons_option}
use Rattle.std.proofs.lemmas.Bool.{cases_Bool}
use Rattle.trace_theory.specs.Entries.{Each}
use Rattle.trace_theory.specs.Machines.{Said}
use Rattle.caf_events.specs.declared.ask.Ask.{Ask}
use Rattle.caf_events.specs.declared.ask.Ask.TheVariants as asks
use Rattle.caf_events.specs.declared.reply.Reply.{Reply}
use Rattle.caf_events.specs.declared.event.Entry.{Entry}
use Rattle.object_rules.specs.Happenings.{Happening, pairs, images, happens, happened, has_ended, numbers_of}
use Rattle.object_rules.specs.ImagePairs.{names, pairs_of, naming, last_named_from, last_named, has_partner, has_paired}
use Rattle.core_runs.specs.Lists.{said}
use Rattle.core_runs.specs.CoreRuns.{of_image, said_by}
use Rattle.free_replies.proofs.Alike.{IsFree}
use Rattle.round_words.proofs.BoardWords.{all_ext, own_ends, stopped_said}

-- the sets of an image's SYNC IMAGES, the first one first
abbrev pub sets_of : ℕ → List Happening → List (List ℕ)
sets_of i [] = []
sets_of i (pairs k set ∷ hs) = cond (nat_eq k i) (set ∷ sets_of i hs) (sets_of i hs)
sets_of i (x ∷ hs) = sets_of i hs

-- how many of them have the image, and the last one
abbrev pub count_in : ℕ → List (List ℕ) → ℕ
count_in j [] = 0
count_in j (s ∷ ss) = cond (names j s) 1 0 + count_in j ss

abbrev pub last_set : List ℕ → List (List ℕ) → List ℕ
last_set js [] = js
last_set js (s ∷ ss) = last_set s ss

pairs_are : (i : ℕ) (hs : List Happening) → pairs_of i hs ≡ length (sets_of i hs)
pairs_are i [] = refl
pairs_are i (pairs k set ∷ hs) = let e = pairs_are i hs in elim (cases_Bool (nat_eq k i)) [ inl t ↦ rw t (omega arith) | inr f ↦ rw f (omega arith) ]
pairs_are i (x ∷ hs) = let e = pairs_are i hs in omega arith

namings_are : (i j : ℕ) (hs : List Happening) → naming i j hs ≡ count_in j (sets_of i hs)
namings_are i j [] = refl
namings_are i j (pairs k set ∷ hs) = let e = namings_are i j hs in elim (cases_Bool (nat_eq k i)) [ inl t ↦ rw t (omega arith) | inr f ↦ rw f (omega arith) ]
namings_are i j (x ∷ hs) = let e = namings_are i j hs in omega arith

last_is : (i : ℕ) (js : List ℕ) (hs : List Happening) → last_named_from i js hs ≡ last_set js (sets_of i hs)
last_is i js [] = refl
last_is i js (pairs k set ∷ hs) = elim (cases_Bool (nat_eq k i)) [ inl t ↦ rw t (last_is i set hs) | inr f ↦ rw f (last_is i js hs) ]
last_is i js (x ∷ hs) = last_is i js hs

-- the same of an image's words
abbrev pub add_set : Ask → List (List ℕ) → List (List ℕ)
add_set (asks.Pair named) ss = numbers_of named ∷ ss
add_set a ss = ss

abbrev pub sets_said : List (Said Ask Reply) → List (List ℕ)
sets_said [] = []
sets_said (w ∷ ws) = add_set w.ask (sets_said ws)

pub sets_append : (xs ys : List (Said Ask Reply)) → sets_said (xs ++ ys) ≡ sets_said xs ++ sets_said ys
sets_append [] ys = refl
sets_append (w ∷ xs) ys = ap (add_set w.ask) (sets_append xs ys) ∙ by w.ask
  where
    by : (a : Ask) → add_set a (sets_said xs ++ sets_said ys) ≡ add_set a (sets_said xs) ++ sets_said ys
    by (asks.Pair named) = refl
    by a = refl

same_both : (b : Bool) (ss : List (List ℕ)) → cond b ss ss ≡ ss
same_both true ss = refl
same_both false ss = refl

one_set : (i k line : ℕ) (a : Ask) (r : Reply) (hs : List Happening) → sets_of i (cons_option (happens images k line a r) hs) ≡ cond (nat_eq k i) (add_set a (sets_of i hs)) (sets_of i hs)
one_set i k line (asks.Pair named) r hs = refl
one_set i k line (asks.Stop code) r hs = sym (same_both (nat_eq k i) (sets_of i hs))
one_set i k line asks.Gone r hs = sym (same_both (nat_eq k i) (sets_of i hs))
one_set i k line a r hs = sym (same_both (nat_eq k i) (sets_of i hs))

said_set : (x : Entry) (g : List Entry) (o : Bool) → sets_said (map (λ (y : Entry). said y.event) (cond o (x ∷ g) g))
    ≡ cond o (add_set x.event.ask (sets_said (map (λ (y : Entry). said y.event) g))) (sets_said (map (λ (y : Entry). said y.event) g))
said_set x g true = refl
said_set x g false = refl

pub own_sets : (i : ℕ) (g : List Entry) → sets_of i (happened images g) ≡ sets_said (said_by i g)
own_sets i [] = refl
own_sets i (x ∷ g) =
    one_set i x.image.0 x.event.line x.event.ask x.event.reply (happened images g)
    ∙ ap (λ ss. cond (nat_eq x.image.0 i) (add_set x.event.ask ss) ss) (own_sets i g)
    ∙ sym (said_set x (of_image i g) (nat_eq x.image.0 i))

pub own_pairs : (i : ℕ) (g : List Entry) → pairs_of i (happened images g) ≡ length (sets_said (said_by i g))
own_pairs i g = pairs_are i (happened images g) ∙ ap length (own_sets i g)

pub own_naming : (i j : ℕ) (g : List Entry) → naming i j (happened images g) ≡ count_in j (sets_said (said_by i g))
own_naming i j g = namings_are i j (happened images g) ∙ ap (count_in j) (own_sets i g)

pub own_last : (i : ℕ) (g : List Entry) → last_named i (happened images g) ≡ last_set [] (sets_said (said_by i g))
own_last i g = last_is i [] (happened images g) ∙ ap (last_set []) (own_sets i g)

pub count_append : (j : ℕ) (xs ys : List (List ℕ)) → count_in j (xs ++ ys) ≡ count_in j xs + count_in j ys
count_append j [] ys = omega arith
count_append j (s ∷ xs) ys = let e = count_append j xs ys in omega arith

-- whether the image j has come to the SYNC IMAGES of i: by the sets of i and of j, and whether j stopped
abbrev pub comes_said : ℕ → List (List ℕ) → (ℕ → List (Said Ask Reply)) → ℕ → Bool
comes_said i sets words j = nat_le (count_in j sets) (count_in i (sets_said (words j))) || stopped_said (words j)

pub paired_is : (i : ℕ) (g : List Entry) → Each IsFree g
    → has_paired i (happened images g) ≡ list_all (comes_said i (sets_said (said_by i g)) (λ j. said_by j g)) (last_set [] (sets_said (said_by i g)))
paired_is i g f =
    all_ext (λ j. has_partner i (happened images g) j || has_ended j (happened images g)) (comes_said i (sets_said (said_by i g)) (λ j. said_by j g))
    (λ j. ap (λ a. nat_le a (naming j i (happened images g)) || has_ended j (happened images g)) (own_naming i j g)
    ∙ ap (λ b. nat_le (count_in j (sets_said (said_by i g))) b || has_ended j (happened images g)) (own_naming j i g)
    ∙ ap (λ c. nat_le (count_in j (sets_said (said_by i g))) (count_in i (sets_said (said_by j g))) || c) (own_ends images j g f)) (last_named i (happened images g))
    ∙ ap (list_all (comes_said i (sets_said (said_by i g)) (λ j. said_by j g))) (own_last i g)

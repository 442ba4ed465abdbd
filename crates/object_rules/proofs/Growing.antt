-- What one more entry makes of the definitions.
use Rattle.std.proofs.Common.{◌≡◌, ℕ, ◌+◌, Bool, true, false, ◌||◌, cond, List, [], ◌∷◌, ◌++◌, refl, ap, sym, ◌∙◌, arith, add_assoc, append_assoc}
use Rattle.std.specs.Prelude.{Option, Some, None}
use Rattle.std.specs.List.{list_any}
use Rattle.std.proofs.lemmas.List.{append-nil}
use Rattle.std.proofs.lemmas.List.Folds.{list_any-append}
use Rattle.object_rules.specs.Scans.{or_else, first_told_from, first_told, front_where, first_front_from, first_front}
use Rattle.object_rules.specs.Happenings.{Happening}
use Rattle.object_rules.specs.TeamRounds.{is_arrival, arrivals, has_closed, at_close, joins_round, opening_of}

pub or_else_none : {A : Type 0} (x : Option A) → or_else x None ≡ x
or_else_none None = refl
or_else_none (Some v) = refl

pub or_else_assoc : {A : Type 0} (x y z : Option A) → or_else x (or_else y z) ≡ or_else (or_else x y) z
or_else_assoc None y z = refl
or_else_assoc (Some x) y z = refl

module _ {E A : Type 0} (tell : List E → E → Option A) where
  first_told_from_more : (before es : List E) (e : E) → first_told_from tell before (es ++ e ∷ []) ≡ or_else (first_told_from tell before es) (tell (before ++ es) e)
  first_told_from_more before [] e = or_else_none (tell before e) ∙ ap (λ h. tell h e) (sym (append-nil before))
  first_told_from_more before (x ∷ xs) e =
      ap (or_else (tell before x)) (first_told_from_more (before ++ x ∷ []) xs e)
      ∙ or_else_assoc (tell before x) (first_told_from tell (before ++ x ∷ []) xs) (tell ((before ++ x ∷ []) ++ xs) e)
      ∙ ap (λ h. or_else (or_else (tell before x) (first_told_from tell (before ++ x ∷ []) xs)) (tell h e)) (append_assoc before (x ∷ []) xs)

  pub first_told_more : (es : List E) (e : E) → first_told tell (es ++ e ∷ []) ≡ or_else (first_told tell es) (tell es e)
  first_told_more es e = first_told_from_more [] es e

module _ {E : Type 0} (test : List E → Bool) where
  first_front_from_more : (before es : List E) (e : E) → first_front_from test before (es ++ e ∷ []) ≡ or_else (first_front_from test before es) (front_where test (before ++ (es ++ e ∷ [])))
  first_front_from_more before [] e = refl
  first_front_from_more before (x ∷ xs) e =
      ap (or_else (front_where test before)) (first_front_from_more (before ++ x ∷ []) xs e)
      ∙ or_else_assoc (front_where test before) (first_front_from test (before ++ x ∷ []) xs) (front_where test ((before ++ x ∷ []) ++ (xs ++ e ∷ [])))
      ∙ ap (λ h. or_else (or_else (front_where test before) (first_front_from test (before ++ x ∷ []) xs)) (front_where test h)) (append_assoc before (x ∷ []) (xs ++ e ∷ []))

  -- the first place stays, and else it is the new one
  pub first_front_more : (es : List E) (e : E) → first_front test (es ++ e ∷ []) ≡ or_else (first_front test es) (front_where test (es ++ e ∷ []))
  first_front_more es e = first_front_from_more [] es e

  front_false : (f : List E) → front_where test f ≡ None → test f ≡ false
  front_false f h = elim (test f) as (λ b. cond b (Some f) None ≡ None → b ≡ false) [ true ↦ (λ p. absurd (cc)) | false ↦ (λ p. refl) ] h

  or_none : {A : Type 0} (x y : Option A) → or_else x y ≡ None → (x ≡ None) × (y ≡ None)
  or_none None y h = (refl, h)
  or_none (Some v) y h = absurd (cc)

  none_from : (before es : List E) → first_front_from test before es ≡ None → test (before ++ es) ≡ false
  none_from before [] h = ap test (append-nil before) ∙ front_false before h
  none_from before (x ∷ xs) h =
      ap test (sym (append_assoc before (x ∷ []) xs)) ∙ none_from (before ++ x ∷ []) xs (or_none (front_where test before) (first_front_from test (before ++ x ∷ []) xs) h).1

  -- where there is no such place the test doesn't hold now
  pub none_now : (es : List E) → first_front test es ≡ None → test es ≡ false
  none_now es h = none_from [] es h

-- one arrival more, or none
pub arrivals_more : (t i : ℕ) (hs : List Happening) (x : Happening) → arrivals t i (hs ++ x ∷ []) ≡ arrivals t i hs + cond (is_arrival t i x) 1 0
arrivals_more t i [] x = omega arith
arrivals_more t i (y ∷ ys) x = ap (λ n. cond (is_arrival t i y) 1 0 + n) (arrivals_more t i ys x) ∙ sym (add_assoc (cond (is_arrival t i y) 1 0) (arrivals t i ys) (cond (is_arrival t i x) 1 0))

or_false : (b : Bool) → (b || false) ≡ b
or_false true = refl
or_false false = refl

pub any_more : {X : Type 0} (test : X → Bool) (xs : List X) (x : X) → list_any test (xs ++ x ∷ []) ≡ (list_any test xs || test x)
any_more test xs x = list_any-append test xs (x ∷ []) ∙ ap (λ b. list_any test xs || b) (or_false (test x))

-- the close of a round, when one thing more happens
pub at_close_more : (ms : List ℕ) (t r : ℕ) (hs : List Happening) (x : Happening) → at_close ms t r (hs ++ x ∷ []) ≡ or_else (at_close ms t r hs) (front_where (has_closed ms t r) (hs ++ x ∷ []))
at_close_more ms t r hs x = first_front_more (has_closed ms t r) hs x

stays_by : (ms : List ℕ) (t r : ℕ) (hs : List Happening) (x : Happening) (o : Option (List Happening)) → at_close ms t r hs ≡ o → has_closed ms t r (hs ++ x ∷ []) ≡ has_closed ms t r hs → or_else o (front_where (has_closed ms t r) (hs ++ x ∷ [])) ≡ o
stays_by ms t r hs x None h e = let f = e ∙ none_now (has_closed ms t r) hs h in rw f refl
stays_by ms t r hs x (Some g) h e = refl

-- a round that this doesn't touch is as before
pub close_stays : (ms : List ℕ) (t r : ℕ) (hs : List Happening) (x : Happening) → has_closed ms t r (hs ++ x ∷ []) ≡ has_closed ms t r hs → at_close ms t r (hs ++ x ∷ []) ≡ at_close ms t r hs
close_stays ms t r hs x e = at_close_more ms t r hs x ∙ stays_by ms t r hs x (at_close ms t r hs) refl e

-- a round that has closed stays so, by the same place
pub closed_stays : (ms : List ℕ) (t r : ℕ) (hs f : List Happening) (x : Happening) → at_close ms t r hs ≡ Some f → at_close ms t r (hs ++ x ∷ []) ≡ Some f
closed_stays ms t r hs f x h = at_close_more ms t r hs x ∙ ap (λ o. or_else o (front_where (has_closed ms t r) (hs ++ x ∷ []))) h

-- the first arrival of a round, when one thing more happens
pub opening_more : (t r : ℕ) (hs : List Happening) (x : Happening) → opening_of t r (hs ++ x ∷ []) ≡ or_else (opening_of t r hs) (joins_round t r hs x)
opening_more t r hs x = first_told_more (joins_round t r) hs x

-- A run that ends at limits of stamps has no stamp far above the bound.
use Rattle.std.proofs.Common.{◌≡◌, ℕ, zero, suc, ◌≤◌, false, List, [], ◌∷◌, ◌++◌, inl, inr, refl, ap, sym, ◌∙◌, subst, arith, append_assoc}
use Rattle.std.specs.Prelude.{map}
use Rattle.std.proofs.lemmas.Bool.{cases_lt}
use Rattle.std.proofs.lemmas.Bool.Decides.{eqb_tells}
use Rattle.std.proofs.lemmas.List.{map-append}
use Rattle.caf_events.specs.declared.ask.Ask.{Ask}
use Rattle.caf_events.specs.declared.ask.Ask.TheVariants as forms
use Rattle.caf_events.specs.declared.reply.Reply.{Reply}
use Rattle.caf_events.specs.declared.event.Entry.{Entry}
use Rattle.caf_events.specs.Asks.{place_of, object_of}
use Rattle.caf_events.specs.Events.{EndsImage}
use Rattle.trace_theory.specs.Entries.{of, Each, last_or}
use Rattle.trace_theory.proofs.Filters.{of_inside}
use Rattle.core_runs.specs.Lists.{image_of, key_of, stamp_of, said}
use Rattle.core_runs.specs.Moments.{Rules}
use Rattle.core_runs.specs.Beginnings.{Beginning}
use Rattle.core_runs.specs.CoreRuns.{of_image, said_by}
use Rattle.core_runs.specs.Failures.{is_limit}
use Rattle.core_runs.specs.Sequences.{IsStampLimit}
use Rattle.stamp_limits.specs.StampLimits.{most_stamp, last_at, last_stamp, IsStampLimitDue, IsWordLimit, MayStand, IsStampLimitedRun}
use Rattle.stamp_limits.proofs.Few.{each_split, last_few}
use Rattle.stamp_limits.proofs.Limits.{plain_stamp, limit_stamp}

-- what the entries of a key have
pub each_keyed : {E : Type 0} (P Q : E → Type 0) (key : E → ℕ) (k : ℕ) → ((x : E) → key x ≡ k → P x → Q x) → (xs : List E) → Each P xs → Each Q (of key k xs)
each_keyed P Q key k next [] h = tt
each_keyed P Q key k next (x ∷ xs) h = elim (eqb_tells (key x) k) [
  | inl t ↦ rw t.0 (next x t.1 h.0, each_keyed P Q key k next xs h.1)
  | inr f ↦ rw f.0 (each_keyed P Q key k next xs h.1)
]

-- an ask that doesn't end its image is neither limit
goes_on : (a : Ask) (r : Reply) → (EndsImage a r → ⊥) → (IsStampLimit a → ⊥) × (IsWordLimit a → ⊥)
goes_on (forms.LimitStamp number) r on = absurd (on tt)
goes_on (forms.LimitWords number) r on = absurd (on tt)
goes_on a r on = (λ z. z, λ z. z)

-- nor is one at an object
at_object : (a : Ask) (o : ℕ) → object_of (place_of a) ≡ suc o → (IsStampLimit a → ⊥) × (IsWordLimit a → ⊥)
at_object (forms.LimitStamp number) o e = absurd (omega arith)
at_object (forms.LimitWords number) o e = absurd (omega arith)
at_object a o e = (λ z. z, λ z. z)

-- nor is one that is no limit
no_limit : (a : Ask) → is_limit a ≡ false → (IsStampLimit a → ⊥) × (IsWordLimit a → ⊥)
no_limit (forms.LimitStamp number) e = absurd (cc)
no_limit (forms.LimitWords number) e = absurd (cc)
no_limit a e = (λ z. z, λ z. z)

-- the said of an image, split at one of its entries
said_split : (before after : List Entry) (x : Entry) → said_by (image_of x) (before ++ x ∷ after) ≡ said_by (image_of x) before ++ said x.event ∷ said_by (image_of x) after
said_split before after x =
    ap (map (λ (y : Entry). said y.event)) (of_inside image_of before after x) ∙ map-append (λ (y : Entry). said y.event) (of_image (image_of x) before) (x ∷ of_image (image_of x) after)

not_empty : {E : Type 0} (g g' : List E) (x : E) → g ++ x ∷ g' ≡ [] → ⊥
not_empty [] g' x e = cc
not_empty (y ∷ g) g' x e = cc

module _ {C M B : Type 0} (r : Rules C M B) (b : Beginning C M B) (t : List Entry) (run : IsStampLimitedRun r b t) where
  not_due : (before : List Entry) (i line : ℕ) (a : Ask) → (IsStampLimit a → ⊥) × (IsWordLimit a → ⊥) → MayStand r b before i line a → IsStampLimitDue before i a → ⊥
  not_due before i line (forms.LimitStamp number) other may = absurd (other.0 tt)
  not_due before i line (forms.LimitWords number) other may = absurd (other.1 tt)
  not_due before i line a other may = may

  -- the stamp of a step that is neither a limit of stamps nor one of words is at most the bound
  low_there : (before after : List Entry) (x : Entry) → t ≡ before ++ x ∷ after → (IsStampLimit x.event.ask → ⊥) × (IsWordLimit x.event.ask → ⊥) → stamp_of x ≤ most_stamp
  low_there before after x e other =
      let s = plain_stamp r b t run.lawful before after x e other.0 in
      elim (cases_lt most_stamp (stamp_of x)) [
        | inl lt ↦ absurd (not_due before (image_of x) x.event.line x.event.ask other (run.limits before after x e) (omega arith))
        | inr ge ↦ omega arith
      ]

  -- an image's entry before another one of it doesn't end it
  earlier : (g g' after : List Entry) (y x : Entry) → t ≡ g ++ y ∷ (g' ++ x ∷ after) → image_of y ≡ image_of x → EndsImage y.event.ask y.event.reply → ⊥
  earlier g g' after y x e same ends =
      let i = image_of y in
      let none : said_by i (g' ++ x ∷ after) ≡ [] = run.nothing_after i (said_by i g) (said_by i (g' ++ x ∷ after)) (said y.event) (ap (said_by i) e ∙ said_split g (g' ++ x ∷ after) y) ends in
      not_empty (said_by (image_of x) g') (said_by (image_of x) after) (said x.event)
      (sym (said_split g' after x) ∙ ap (λ k. said_by k (g' ++ x ∷ after)) (sym same) ∙ none)

  module _ (before after : List Entry) (x : Entry) (e : t ≡ before ++ x ∷ after) where
    whole : (g g' : List Entry) (y : Entry) → before ≡ g ++ y ∷ g' → t ≡ g ++ y ∷ (g' ++ x ∷ after)
    whole g g' y p = e ∙ ap (λ l. l ++ x ∷ after) p ∙ append_assoc g (y ∷ g') (x ∷ after)

    -- no earlier stamp of the entry's image is above the bound
    mine_low : last_or stamp_of 0 (of_image (image_of x) before) ≤ most_stamp
    mine_low =
        last_few stamp_of 0 most_stamp (of_image (image_of x) before) (omega arith)
        (each_keyed (λ y. image_of y ≡ image_of x → stamp_of y ≤ most_stamp) (λ y. stamp_of y ≤ most_stamp) image_of (image_of x) (λ y same h. h same) before
        (each_split (λ y. image_of y ≡ image_of x → stamp_of y ≤ most_stamp) before (λ g g' y p same.
        low_there g (g' ++ x ∷ after) y (whole g g' y p) (goes_on y.event.ask y.event.reply (earlier g g' after y x (whole g g' y p) same)))))

    -- and none of an object
    there_low : (k : ℕ) → last_at k before ≤ most_stamp
    there_low zero = omega arith
    there_low (suc o) =
        last_few stamp_of 0 most_stamp (of key_of (suc o) before) (omega arith)
        (each_keyed (λ y. key_of y ≡ suc o → stamp_of y ≤ most_stamp) (λ y. stamp_of y ≤ most_stamp) key_of (suc o) (λ y is h. h is) before
        (each_split (λ y. key_of y ≡ suc o → stamp_of y ≤ most_stamp) before (λ g g' y p is.
        low_there g (g' ++ x ∷ after) y (whole g g' y p) (at_object y.event.ask o is))))

    last_low : (a : Ask) → last_stamp before (image_of x) a ≤ most_stamp
    last_low a = let mine = mine_low in let there = there_low (object_of (place_of a)) in omega arith

    number_by : (a : Ask) (number : ℕ) → a ≡ forms.LimitStamp number → MayStand r b before (image_of x) x.event.line a → number ≡ most_stamp
    number_by (forms.LimitStamp m) number p may =
        let l = last_low may.ask in
        let d = may.due in
        let k = may.number_is in
        let q : m ≡ number = cc in
        omega arith
    number_by a number p may = absurd (cc)

    -- each limit of stamps has the bound as its number
    pub number_is_bound : (number : ℕ) → x.event.ask ≡ forms.LimitStamp number → number ≡ most_stamp
    number_is_bound number p = number_by x.event.ask number p (run.limits before after x e)

    high_by : (a : Ask) → x.event.ask ≡ a → stamp_of x ≤ suc most_stamp
    high_by (forms.LimitStamp m) p =
        let s = run.lawful.stamped before after x e in
        let k = limit_stamp x (last_or stamp_of 0 (of_image (image_of x) before)) (last_at (key_of x) before) (forms.LimitStamp m) p tt in
        let n = number_is_bound m p in
        omega arith
    high_by a p =
        let s = plain_stamp r b t run.lawful before after x e (λ is. subst IsStampLimit p is) in
        let l = last_low x.event.ask in
        omega arith

  -- no stamp is more than one above the bound, and only that of a limit is above it
  pub all_low : Each (λ x. stamp_of x ≤ suc most_stamp) t
  all_low = each_split (λ x. stamp_of x ≤ suc most_stamp) t (λ before after x e. high_by before after x e x.event.ask refl)

  pub others_low : Each (λ x. is_limit x.event.ask ≡ false → stamp_of x ≤ most_stamp) t
  others_low = each_split (λ x. is_limit x.event.ask ≡ false → stamp_of x ≤ most_stamp) t (λ before after x e no_limit_here. low_there before after x e (no_limit x.event.ask no_limit_here))

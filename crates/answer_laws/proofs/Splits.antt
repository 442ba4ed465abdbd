-- Where an event that an image hears stands in the trace.
use Rattle.std.proofs.Common.{◌≡◌, ℕ, Bool, true, nat_eq, List, [], ◌∷◌, ◌++◌, inl, inr, refl, ap, sym, ◌∙◌}
use Rattle.std.specs.Prelude.{map}
use Rattle.std.specs.List.{filter}
use Rattle.std.proofs.lemmas.Bool.{cases_Bool, eqb-true}
use Rattle.caf_events.specs.declared.ask.Ask.{Ask}
use Rattle.caf_events.specs.declared.reply.Reply.{Reply}
use Rattle.caf_events.specs.declared.event.Entry.{Entry}
use Rattle.trace_theory.specs.Machines.{Said}
use Rattle.core_runs.specs.Lists.{image_of, said}
use Rattle.core_runs.specs.CoreRuns.{of_image, said_by}

split_behind : {E : Type 0} (x : E) (xs before after : List E) (e : E) → xs ≡ before ++ e ∷ after → x ∷ xs ≡ (x ∷ before) ++ e ∷ after
split_behind x xs before after e h = ap (λ z. x ∷ z) h

same_heads : {E : Type 0} (x y : E) (xs ys : List E) → x ≡ y → xs ≡ ys → x ∷ xs ≡ y ∷ ys
same_heads x y xs ys e h = ap (λ z. x ∷ z) h ∙ ap (λ z. z ∷ ys) e

module _ {E : Type 0} (p : E → Bool) where
  -- an item that passes a test, with what passes before it
  record Passed (xs before after : List E) (e : E) : Type 0 where
    front : List E
    back : List E
    split : xs ≡ front ++ e ∷ back
    kept : filter p front ≡ before
    passes : p e ≡ true

  split_filter : (xs before after : List E) (e : E) → filter p xs ≡ before ++ e ∷ after → Passed xs before after e
  split_filter [] [] after e h = absurd (cc)
  split_filter [] (b ∷ bs) after e h = absurd (cc)
  split_filter (x ∷ xs) [] after e h = elim (cases_Bool (p x)) [
    | inl t ↦ (
        let q : x ∷ filter p xs ≡ e ∷ after = rw t at h in
        let w : x ≡ e = cc in
        record { front = []; back = xs; split = ap (λ z. z ∷ xs) w; kept = refl; passes = ap p (sym w) ∙ t })
    | inr f ↦ (
        let r = split_filter xs [] after e (rw f at h) in
        record { front = x ∷ r.front; back = r.back; split = split_behind x xs r.front r.back e r.split; kept = rw f r.kept; passes = r.passes })
  ]
  split_filter (x ∷ xs) (b ∷ bs) after e h = elim (cases_Bool (p x)) [
    | inl t ↦ (
        let q : x ∷ filter p xs ≡ b ∷ bs ++ e ∷ after = rw t at h in
        let w : x ≡ b = cc in
        let r = split_filter xs bs after e (cc) in
        record { front = x ∷ r.front; back = r.back; split = split_behind x xs r.front r.back e r.split; kept = rw t (same_heads x b (filter p r.front) bs w r.kept); passes = r.passes })
    | inr f ↦ (
        let r = split_filter xs (b ∷ bs) after e (rw f at h) in
        record { front = x ∷ r.front; back = r.back; split = split_behind x xs r.front r.back e r.split; kept = rw f r.kept; passes = r.passes })
  ]

module _ {A B : Type 0} (f : A → B) where
  record Mapped (xs : List A) (before after : List B) (e : B) : Type 0 where
    front : List A
    item : A
    back : List A
    split : xs ≡ front ++ item ∷ back
    kept : map f front ≡ before
    is : f item ≡ e

  split_map : (xs : List A) (before after : List B) (e : B) → map f xs ≡ before ++ e ∷ after → Mapped xs before after e
  split_map [] [] after e h = absurd (cc)
  split_map [] (b ∷ bs) after e h = absurd (cc)
  split_map (x ∷ xs) [] after e h = record { front = []; item = x; back = xs; split = refl; kept = refl; is = cc }
  split_map (x ∷ xs) (b ∷ bs) after e h =
      let r = split_map xs bs after e (cc) in
      let w : f x ≡ b = cc in
      record { front = x ∷ r.front; item = r.item; back = r.back; split = split_behind x xs r.front r.back r.item r.split; kept = same_heads (f x) b (map f r.front) bs w r.kept; is = r.is }

-- the entry of an event that image i heard after these
pub record Heard (i : ℕ) (t : List Entry) (before : List (Said Ask Reply)) (e : Said Ask Reply) : Type 0 where
  pub earlier : List Entry
  pub entry : Entry
  pub later : List Entry
  pub split : t ≡ earlier ++ entry ∷ later
  pub heard : said_by i earlier ≡ before
  pub is : said entry.event ≡ e
  pub image : image_of entry ≡ i

pub heard_at : (i : ℕ) (t : List Entry) (before after : List (Said Ask Reply)) (e : Said Ask Reply) → said_by i t ≡ before ++ e ∷ after → Heard i t before e
heard_at i t before after e h =
    let m = split_map (λ (x : Entry). said x.event) (of_image i t) before after e h in
    let p = split_filter (λ (x : Entry). nat_eq (image_of x) i) t m.front m.back m.item m.split in
    record {
      earlier = p.front;
      entry = m.item;
      later = p.back;
      split = p.split;
      heard = ap (map (λ (x : Entry). said x.event)) p.kept ∙ m.kept;
      is = m.is;
      image = eqb-true (image_of m.item) i p.passes;
    }

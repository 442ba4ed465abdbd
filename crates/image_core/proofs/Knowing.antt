-- What is known of who can step, as more becomes known and as a step is made.
use Rattle.std.proofs.Common.{◌≡◌, ℕ, zero, suc, ◌+◌, ◌<◌, List, [], ◌∷◌, inl, inr, length, refl, ap, sym, ◌∙◌, subst, arith, Bool, true, false}
use Rattle.std.specs.Prelude.{◌||◌, ◌%◌, slice_index, Option, Some, None}
use Rattle.std.specs.List.{filter}
use Rattle.std.proofs.lemmas.Bool.{cases_eq, cases_lt, cases_Bool}
use Rattle.caf_base.specs.declared.place.Place.{Place}
use Rattle.caf_base.specs.declared.place.Place.TheVariants as places
use Rattle.caf_events.specs.declared.ask.Ask.{Ask}
use Rattle.caf_events.specs.declared.reply.Reply.{Reply}
use Rattle.caf_events.specs.declared.event.Event.{Event}
use Rattle.caf_events.specs.Asks.{place_of}
use Rattle.caf_events.specs.Walkers.{AsksNext}
use Rattle.trace_theory.specs.Machines.{Move, goes, asks, over}
use Rattle.core_runs.specs.Beginnings.{numbers_to}
use Rattle.core_runs.specs.Lists.{list_at}
use Rattle.core_runs.specs.Moments.{Rules, Moment, item_at, ready_there, memory_ready_at, can_move, can_move_from, can_step, Steps}
use Rattle.core_runs.specs.Orders.{candidates}
use Rattle.core_runs.proofs.Elsewhere.{ready_elsewhere}
use Rattle.run_outlook.specs.declared.next_asks.NextAsks.{NextAsks}
use Rattle.run_outlook.specs.declared.outlook.Outlook.{Outlook}
use Rattle.run_outlook.specs.ImageSets.{has}
use Rattle.image_core.specs.NextAsks.{AreNextAsks, AsksNextAt}
use Rattle.run_outlook.specs.Outlooks.{IsFileOf, IsFiled, IsForgotten, IsWell, filed_at}
use Rattle.image_core.specs.Outlooks.{Knows, LeavesOthers}
use Rattle.image_core.specs.Choosing.{by_number}
use Rattle.run_outlook.proofs.Counting.{same_in}
use Rattle.image_core.proofs.NextAsks.{item_other, length_with}

item_past : {A : Type 0} (xs : List A) (n : ℕ) → length xs < n → item_at xs n ≡ None
item_past xs zero h = refl
item_past [] (suc zero) h = refl
item_past [] (suc (suc k)) h = refl
item_past (x ∷ xs) (suc zero) h = absurd (omega arith)
item_past (x ∷ xs) (suc (suc k)) h = item_past xs (suc k) (omega arith)

nil_of : (xs : List ℕ) → length xs ≡ 0 → xs ≡ []
nil_of [] h = refl
nil_of (x ∷ xs) h = absurd (omega arith)

or_false : (a b : Bool) → (a || b) ≡ false → (a ≡ false) × (b ≡ false)
or_false true b h = absurd (cc)
or_false false b h = (refl, h)

not_both : (b : Bool) → b ≡ true → b ≡ false → ⊥
not_both b t f = cc

-- an image that is in a set isn't one that isn't in it
pub other_fresh : (words : List ℕ) (i j : ℕ) → has words i ≡ true → has words j ≡ false → j ≡ i → ⊥
other_fresh words i j t f e = not_both _ t (subst (λ n. has words n ≡ false) e f)

-- the same outlook with other asks kept
abbrev pub with_asks : Outlook → NextAsks → Outlook
with_asks o next = record { images = o.images; can = o.can; count = o.count; stale = o.stale; filed = o.filed; asks = next }

still_well : (o : Outlook) (next : NextAsks) → IsWell o → IsWell (with_asks o next)
still_well o next well = record {
  few = well.few;
  can = well.can;
  stale = well.stale;
  filed = well.filed;
  can_within = well.can_within;
  stale_within = well.stale_within;
  filed_within = well.filed_within;
  counted = well.counted;
}

module _ {C M B : Type 0} (r : Rules C M B) (m : Moment C M B) (o : Outlook) (knows : Knows r m o) where
  -- other asks are kept
  pub reasked : (next : NextAsks) → AreNextAsks r m next.kept.items → Knows r m (with_asks o next)
  reasked next asked = record {
    well = still_well o next knows.well;
    images = knows.images;
    files = knows.files;
    asked = asked;
    known = knows.known;
    filed = knows.filed;
  }

  -- what was found out of one image
  module _ (o' : Outlook) (image : ℕ) (place : Place) (well : IsWell o') (images : o'.images ≡ o.images) (files : length o'.filed.items ≡ length o.filed.items)
      (here : has o'.can.words.items image ≡ can_step r m image) (others : (j : ℕ) → (j ≡ image → ⊥) → has o'.can.words.items j ≡ has o.can.words.items j)
      (stale : (j : ℕ) → (j ≡ image → ⊥) → has o'.stale.words.items j ≡ has o.stale.words.items j)
      (filed_here : IsFiled o'.filed.items place image) (filed : (j : ℕ) (q : Place) → IsFiled o.filed.items q j → IsFiled o'.filed.items q j)
      (asks_there : AsksNextAt r m image place) (asked : AreNextAsks r m o'.asks.kept.items) where
    known_now : (i : ℕ) → has o'.stale.words.items i ≡ false → has o'.can.words.items i ≡ can_step r m i
    known_now i f = elim (cases_eq i image) [
      | inl e ↦ subst (λ n. has o'.can.words.items n ≡ can_step r m n) (sym e) here
      | inr n ↦ others i n ∙ knows.known i (sym (stale i n) ∙ f)
    ]

    filed_now : (i : ℕ) → has o'.stale.words.items i ≡ false → (c : C) → item_at m.configs i ≡ Some c → (a : Ask) → AsksNext (r.step c) a → IsFiled o'.filed.items (place_of a) i
    filed_now i f c at a asked = elim (cases_eq i image) [
      | inl e ↦ subst (λ n. IsFiled o'.filed.items (place_of a) n) (sym e) (subst (λ q. IsFiled o'.filed.items q image) (sym (asks_there c (subst (λ n. item_at m.configs n ≡ Some c) e at) a asked)) filed_here)
      | inr n ↦ filed i (place_of a) (knows.filed i (sym (stale i n) ∙ f) c at a asked)
    ]

    pub learned : Knows r m o'
    learned = record {
      well = well;
      images = images ∙ knows.images;
      files = files ∙ knows.files;
      asked = asked;
      known = known_now;
      filed = filed_now;
    }

  -- of some images it was forgotten what was known; the others are filed as before
  module _ (o' : Outlook) (well : IsWell o') (images : o'.images ≡ o.images) (can : o'.can ≡ o.can) (same_asks : o'.asks ≡ o.asks) (files : length o'.filed.items ≡ length o.filed.items)
      (kept : (j : ℕ) → has o.stale.words.items j ≡ true → has o'.stale.words.items j ≡ true)
      (filed : (j : ℕ) → has o'.stale.words.items j ≡ false → (q : Place) → IsFiled o.filed.items q j → IsFiled o'.filed.items q j) where
    before : (j : ℕ) → has o'.stale.words.items j ≡ false → has o.stale.words.items j ≡ false
    before j f = elim (cases_Bool (has o.stale.words.items j)) [ inl t ↦ absurd (not_both _ (kept j t) f) | inr g ↦ g ]

    pub forgot : Knows r m o'
    forgot = record {
      well = well;
      images = images ∙ knows.images;
      files = files ∙ knows.files;
      asked = subst (λ v. AreNextAsks r m v.kept.items) (sym same_asks) knows.asked;
      known = λ j f. ap (λ s. has s.words.items j) can ∙ knows.known j (before j f);
      filed = λ j f c at a asked. filed j f (place_of a) (knows.filed j (before j f) c at a asked);
    }

  -- where nothing is stale the set has the candidates
  pub are_candidates : ((j : ℕ) → has o.stale.words.items j ≡ false) → filter (has o.can.words.items) (numbers_to o.images) ≡ candidates r m
  are_candidates all =
      ap (λ n. filter (has o.can.words.items) (numbers_to n)) knows.images
      ∙ same_in (can_step r m) (has o.can.words.items) 1 (length m.configs) (λ j low high. knows.known j (all j))

  pub none_drawn : ((j : ℕ) → has o.stale.words.items j ≡ false) → o.count ≡ 0 → candidates r m ≡ []
  none_drawn all zero_many = sym (are_candidates all) ∙ nil_of (filter (has o.can.words.items) (numbers_to o.images)) (sym knows.well.counted ∙ zero_many)

  pub one_drawn : ((j : ℕ) → has o.stale.words.items j ≡ false) → (number i : ℕ) → i ≡ slice_index (filter (has o.can.words.items) (numbers_to o.images)) (number % o.count) → i ≡ by_number (Some number) (candidates r m)
  one_drawn all number i it =
      it ∙ ap (λ n. slice_index (filter (has o.can.words.items) (numbers_to o.images)) (number % n)) knows.well.counted
      ∙ ap (λ xs. slice_index xs (number % length xs)) (are_candidates all)

  -- an image that is in neither set is unable to step
  pub not_open : (i : ℕ) → (has o.can.words.items i || has o.stale.words.items i) ≡ false → can_step r m i ≡ false
  not_open i h = let both = or_false (has o.can.words.items i) (has o.stale.words.items i) h in sym (knows.known i both.1) ∙ both.0

  -- a step was made of an image of which it isn't known whether it can step, and of which no ask is kept
  module _ (m' : Moment C M B) (i : ℕ) (e : Event) (s : Steps r m i e m') (stale : has o.stale.words.items i ≡ true) (taken : item_at o.asks.kept.items i ≡ Some None) where
    as_many : length m.configs ≡ length m'.configs
    as_many = sym (ap length s.configs ∙ length_with m.configs i s.to)

    stands_apart : (j : ℕ) → (j ≡ i → ⊥) → item_at m'.configs j ≡ item_at m.configs j
    stands_apart j apart = ap (λ cs. item_at cs j) s.configs ∙ item_other m.configs i j s.to apart

    not_kept : (j : ℕ) (a : Ask) → item_at o.asks.kept.items j ≡ Some (Some a) → j ≡ i → ⊥
    not_kept j a kept same = let one = subst (λ n. item_at o.asks.kept.items n ≡ Some (Some a)) same kept in cc

    asked_still : AreNextAsks r m' o.asks.kept.items
    asked_still = record {
      count = knows.asked.count ∙ as_many;
      each = λ j a kept c at. knows.asked.each j a kept c (sym (stands_apart j (not_kept j a kept)) ∙ at);
    }

    module _ (j : ℕ) (fresh : has o.stale.words.items j ≡ false) where
      apart : j ≡ i → ⊥
      apart = other_fresh o.stale.words.items i j stale fresh

      stands : item_at m'.configs j ≡ item_at m.configs j
      stands = stands_apart j apart

    -- where each image that isn't stale finds its ask as ready as before
    module _ (ready : (j : ℕ) → has o.stale.words.items j ≡ false → (p : Place) → IsFiled o.filed.items p j → (a : Ask) → ready_there r m' j a p ≡ ready_there r m j a p) where
      module _ (j : ℕ) (fresh : has o.stale.words.items j ≡ false) where
        can_move_still : (v : Move C Ask Reply) → ((a : Ask) → AsksNext v a → IsFiled o.filed.items (place_of a) j) → can_move r m' j v ≡ can_move r m j v
        can_move_still (goes c) filed = refl
        can_move_still (asks a l k) filed = ready j fresh (place_of a) (filed a refl) a
        can_move_still over filed = refl

        can_from : (x : Option C) → ((c : C) → x ≡ Some c → (a : Ask) → AsksNext (r.step c) a → IsFiled o.filed.items (place_of a) j) → can_move_from r m' j x ≡ can_move_from r m j x
        can_from None filed = refl
        can_from (Some c) filed = can_move_still (r.step c) (filed c refl)

        still : can_step r m' j ≡ can_step r m j
        still = ap (can_move_from r m' j) (stands j fresh) ∙ can_from (item_at m.configs j) (knows.filed j fresh)

      knows_still : Knows r m' o
      knows_still = record {
        well = knows.well;
        images = knows.images ∙ as_many;
        files = knows.files ∙ ap (λ n. n + 1) (sym (ap length s.memories));
        asked = asked_still;
        known = λ j fresh. knows.known j fresh ∙ sym (still j fresh);
        filed = λ j fresh c at a asked. knows.filed j fresh c (sym (stands j fresh) ∙ at) a asked;
      }

    -- at a place of which all was forgotten
    module _ (place : Place) (at_place : place_of e.ask ≡ place) (forgotten : IsForgotten o place) where
      module _ (j : ℕ) (fresh : has o.stale.words.items j ≡ false) where
        -- it isn't filed at the step's place
        not_there : (k : ℕ) → IsFileOf (length o.filed.items) place k → has (filed_at o.filed.items k) j ≡ true → ⊥
        not_there k file there = not_both _ (forgotten k file j there) fresh

        ready_at : (q p : Place) → place_of e.ask ≡ q → place ≡ q → IsFiled o.filed.items p j → (a : Ask) → ready_there r m' j a p ≡ ready_there r m j a p
        ready_at q places.Own h t filed a = refl
        ready_at places.Own places.Board h t filed a = ready_elsewhere r m m' i e s j a places.Board (λ x. absurd (let z : places.Board ≡ places.Own = x ∙ h in cc))
        ready_at (places.Memory owner) places.Board h t filed a = ready_elsewhere r m m' i e s j a places.Board (λ x. absurd (let z : places.Board ≡ places.Memory owner = x ∙ h in cc))
        ready_at places.Board places.Board h t filed a =
            let file : IsFileOf (length o.filed.items) places.Board 0 = (refl, (let l = knows.files in omega arith)) in
            absurd (not_there 0 (subst (λ q. IsFileOf (length o.filed.items) q 0) (sym t) file) (filed 0 file))
        ready_at places.Own (places.Memory owner) h t filed a = ready_elsewhere r m m' i e s j a (places.Memory owner) (λ x. absurd (let z : places.Memory owner ≡ places.Own = x ∙ h in cc))
        ready_at places.Board (places.Memory owner) h t filed a = ready_elsewhere r m m' i e s j a (places.Memory owner) (λ x. absurd (let z : places.Memory owner ≡ places.Board = x ∙ h in cc))
        ready_at (places.Memory other) (places.Memory owner) h t filed a = elim (cases_eq owner.0 other.0) [
          | inr n ↦ ready_elsewhere r m m' i e s j a (places.Memory owner) (λ x. absurd (let z : places.Memory owner ≡ places.Memory other = x ∙ h in n (cc)))
          | inl same ↦ elim (cases_lt owner.0 (length o.filed.items)) [
            | inl there ↦ (
                let file : IsFileOf (length o.filed.items) (places.Memory owner) owner.0 = (refl, there) in
                let at : IsFileOf (length o.filed.items) (places.Memory other) owner.0 = (same, subst (λ n. n < length o.filed.items) same there) in
                absurd (not_there owner.0 (subst (λ q. IsFileOf (length o.filed.items) q owner.0) (sym t) at) (filed owner.0 file)))
            | inr past ↦ (
                let l = knows.files in
                let none = item_past m.memories owner.0 (omega arith) in
                let none' = ap (λ ms. item_at ms owner.0) s.memories ∙ none in
                ap (memory_ready_at r (list_at m'.histories owner.0) j a) none' ∙ sym (ap (memory_ready_at r (list_at m.histories owner.0) j a) none))
          ]
        ]

      pub stepped : Knows r m' o
      stepped = knows_still (λ j fresh p. ready_at j fresh place p at_place refl)

    -- that left all other images' asks as ready as they were
    pub stepped_beside : (place : Place) → place_of e.ask ≡ place → LeavesOthers r i place m' → Knows r m' o
    stepped_beside place at_place leaves = knows_still (λ j fresh p filed a. leaves m e s at_place j (apart j fresh) a p)

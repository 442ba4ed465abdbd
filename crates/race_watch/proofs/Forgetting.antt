-- The numbered clocks of pairs, of which the first are forgotten.
use Rattle.std.proofs.Common.{◌≡◌, ◌⊎◌, ℕ, zero, suc, ◌+◌, ◌-◌, ◌<◌, ◌≤◌, ◌^◌, min, Bool, true, false, nat_eq, ◌&&◌, cond, List, [], ◌∷◌, ◌++◌, length, map, take, drop, inl, inr, refl, ap, sym, ◌∙◌, subst, arith}
use Rattle.std.proofs.lemmas.Bool.{and_parts, eqb-true}
use Rattle.std.proofs.lemmas.List.{append_assoc, length-append, length-take, length-drop, length-map, drop-drop, drop-map, map-append, take-append-drop}
use Rattle.std.proofs.Math.Seq.{drop-append-add}
use Rattle.caf_events.specs.declared.event.Entry.{Entry}
use Rattle.order_theory.specs.Order.{Segment, segment_of}
use Rattle.order_theory.specs.Acts.{Act, arrives, leaves, pairs, unpairs, gets, unlocks, enters, exits, posts, waits, finishes, creates, deletes, goes_on, names, Key, pair, Turn, adds, clears, drops, leaves_all, turn, turned, entries, waiting, waiting_from}
use Rattle.order_theory.specs.Stored.{EachCovered, turned_queue}
use Rattle.order_theory.proofs.Queues.{queue_more}
use Rattle.segment_clock.specs.Counts.{count_of}
use Rattle.order_axioms.specs.Views.{act_of, view, edges}
use Rattle.race_watch.specs.declared.order.Order.{Order}
use Rattle.race_watch.specs.Tables.{Numbered, numbered_at, count_in, without}
use Rattle.race_watch.specs.Orders.{clock_of, Sized, NumberedKept, Needed, Ordered, Forgets, ForgetsUsed, CanCount, Turned, turned_numbered}
use Rattle.race_watch.proofs.Turning.{own, own_size, sized_last, sized_drop}

-- a part of a list behind the first of two
pub drop_past : {X : Type 0} (xs ys : List X) (k : ℕ) → length xs ≤ k → drop k (xs ++ ys) ≡ drop (k - length xs) ys
drop_past xs ys k h = let e : k ≡ length xs + (k - length xs) = omega arith in ap (λ z. drop z (xs ++ ys)) e ∙ drop-append-add xs ys (k - length xs)

drop_taken : {X : Type 0} (k : ℕ) (xs : List X) → drop k xs ≡ drop (length (take k xs)) xs
drop_taken zero xs = refl
drop_taken (suc k) [] = refl
drop_taken (suc k) (x ∷ xs) = drop_taken k xs

-- nothing is forgotten
pub forgets_none : (b : ℕ) (q q' : Numbered) → q' ≡ q → Forgets b q q'
forgets_none b q q' is = subst (Forgets b q) (sym is) (record { many = 0; there = omega arith; first = omega arith; clocks = refl; below = omega arith })

forgets_below : (b m : ℕ) (q : Numbered) → m ≤ b → Forgets b q (without m q)
forgets_below b m q h =
    let l : length (take (m - q.first) q.clocks) ≡ min (m - q.first) (length q.clocks) = length-take (m - q.first) q.clocks in
    record { many = length (take (m - q.first) q.clocks); there = omega arith; first = refl; clocks = drop_taken (m - q.first) q.clocks; below = omega arith }

-- and then some more
forgets_more : (b : ℕ) (p q r : Numbered) → Forgets b p q → Forgets b q r → Forgets b p r
forgets_more b p q r h k =
    let l : length q.clocks ≡ length p.clocks - h.many = ap length h.clocks ∙ length-drop h.many p.clocks in
    let a = h.there in
    let c = k.there in
    let d = h.first in
    let e = k.first in
    let f = h.below in
    let g = k.below in
    record { many = h.many + k.many; there = omega arith; first = omega arith; clocks = k.clocks ∙ ap (drop k.many) h.clocks ∙ drop-drop k.many h.many p.clocks; below = omega arith }

count_forgets : (b : ℕ) (q q' : Numbered) → Forgets b q q' → count_in q' ≡ count_in q
count_forgets b q q' h =
    let l : length q'.clocks ≡ length q.clocks - h.many = ap length h.clocks ∙ length-drop h.many q.clocks in
    let a = h.there in
    let d = h.first in
    omega arith

forgets_where : (b number : ℕ) (c : Bool) (q q' : Numbered) → (c ≡ true → number ≤ b) → q' ≡ cond c (without number q) q → Forgets b q q'
forgets_where b number true q q' h is = subst (Forgets b q) (sym is) (forgets_below b number q (h refl))
forgets_where b number false q q' h is = forgets_none b q q' is

-- image i has no more to look at the clocks of one image more
pub used_more : (i x number : ℕ) (old mid new : List (List Numbered)) → ForgetsUsed old mid → number ≡ count_in (numbered_at mid i x) - 1
    → ((l k : ℕ) → numbered_at new l k ≡ cond (nat_eq l x && nat_eq k i) (without number (numbered_at mid l k)) (numbered_at mid l k)) → ForgetsUsed old new
used_more i x number old mid new h is step j k =
    forgets_more _ _ _ _ (h j k)
    (forgets_where _ number (nat_eq j x && nat_eq k i) _ _ (λ t.
    let both = and_parts (nat_eq j x) (nat_eq k i) t in
    let here : number ≡ count_in (numbered_at mid k j) - 1 = is ∙ ap (λ z. count_in (numbered_at mid z x) - 1) (sym (eqb-true k i both.1)) ∙ ap (λ z. count_in (numbered_at mid k z) - 1) (sym (eqb-true j x both.0)) in
    let same = count_forgets _ _ _ (h k j) in
    omega arith) (step j k))

-- the clocks can still be counted
pub used_counts : (old new : List (List Numbered)) → ForgetsUsed old new → CanCount old → CanCount new
used_counts old new h c j k = let a = count_forgets _ _ _ (h j k) in let b = c j k in omega arith

each_length : (n : ℕ) (g : List Entry) (q : List Segment) (cs : List (ℕ → ℕ)) → EachCovered (edges n) g q cs → length q ≡ length cs
each_length n g [] [] h = refl
each_length n g [] (c ∷ cs) h = absurd h
each_length n g (s ∷ q) [] h = absurd h
each_length n g (s ∷ q) (c ∷ cs) h = ap suc (each_length n g q cs h.1)

-- as many clocks as segments wait
pub count_kept : (n : ℕ) (g : List Entry) (key : Key) (q : Numbered) → NumberedKept n g key q → length (waiting (view n) key g) ≡ count_in q
count_kept n g key q kept =
    let a = each_length n g (waiting (view n) key g) (kept.gone ++ map count_of q.clocks) kept.covers in
    let b = length-append kept.gone (map count_of q.clocks) in
    let c = length-map q.clocks count_of in
    let d = kept.many in
    omega arith

turned_most : (t : Turn) (s : Segment) (q : List Segment) → length (turned t s q) ≤ suc (length q)
turned_most adds s q = let l = length-append q (s ∷ []) in omega arith
turned_most clears s q = omega arith
turned_most (drops k) s q = let l = length-drop k q in omega arith
turned_most leaves_all s q = omega arith

waiting_most : (n : ℕ) (key : Key) (b : List Entry) (q : List Segment) (es : List Entry) → length (waiting_from (view n) key b q es) ≤ length q + length es
waiting_most n key b q [] = omega arith
waiting_most n key b q (e ∷ es) =
    let t = turn key e.image.0 (act_of e) in
    let s = segment_of (entries (view n)) b e in
    let a = waiting_most n key (b ++ e ∷ []) (turned t s q) es in
    let c = turned_most t s q in
    omega arith

pub can_count : (n : ℕ) (g : List Entry) (s : Order) → Ordered n g s → length g < 2 ^ 62 → CanCount s.pairs
can_count n g s rec short j h =
    let a = count_kept n g (pair j h) (numbered_at s.pairs j h) (rec.pairs j h) in
    let b = waiting_most n (pair j h) [] [] g in
    omega arith

-- what is kept of a queue stays kept where some first clocks are forgotten
kept_forgets : (n : ℕ) (g : List Entry) (key : Key) (b : ℕ) (q q' : Numbered) → NumberedKept n g key q → Forgets b q q' → NumberedKept n g key q'
kept_forgets n g key b q q' kept h =
    let cs = map count_of q.clocks in
    let same : (kept.gone ++ take h.many cs) ++ map count_of q'.clocks ≡ kept.gone ++ cs =
    append_assoc kept.gone (take h.many cs) (map count_of q'.clocks)
    ∙ ap (λ z. kept.gone ++ (take h.many cs ++ z)) (ap (map count_of) h.clocks ∙ sym (drop-map count_of h.many q.clocks))
    ∙ ap (λ z. kept.gone ++ z) (take-append-drop h.many cs) in
    record {
      sized = subst (Sized n) (sym h.clocks) (sized_drop n h.many q.clocks kept.sized);
      gone = kept.gone ++ take h.many cs;
      many =
          let a = length-append kept.gone (take h.many cs) in
          let c = length-take h.many cs in
          let d = length-map q.clocks count_of in
          let e = kept.many in
          let f = h.first in
          let i = h.there in
          omega arith;
      covers = subst (EachCovered (edges n) g (waiting (view n) key g)) (sym same) kept.covers;
    }

-- no act clears or drops what waits for a pair
abbrev OnlyAdds : Turn → Type 0
OnlyAdds t = (t ≡ adds) ⊎ (t ≡ leaves_all)

adds_where : (b : Bool) → OnlyAdds (cond b adds leaves_all)
adds_where true = inl refl
adds_where false = inr refl

pair_adds : (j h i : ℕ) (a : Act) → OnlyAdds (turn (pair j h) i a)
pair_adds j h i (arrives t k) = inr refl
pair_adds j h i (leaves t k w) = inr refl
pair_adds j h i (pairs js) = adds_where (nat_eq i j && names h js)
pair_adds j h i (unpairs w) = inr refl
pair_adds j h i (gets c) = inr refl
pair_adds j h i (unlocks c) = inr refl
pair_adds j h i (enters m) = inr refl
pair_adds j h i (exits m) = inr refl
pair_adds j h i (posts c) = inr refl
pair_adds j h i (waits c k) = inr refl
pair_adds j h i finishes = inr refl
pair_adds j h i (creates o m) = inr refl
pair_adds j h i (deletes o m) = inr refl
pair_adds j h i goes_on = inr refl

first_turned : (t : Turn) (clock : List ℕ) (q : Numbered) → (turned_numbered t clock q).first ≡ q.first
first_turned adds clock q = refl
first_turned clears clock q = refl
first_turned (drops m) clock q = refl
first_turned leaves_all clock q = refl

count_turned : (t : Turn) (clock : List ℕ) (q : Numbered) → count_in q ≤ count_in (turned_numbered t clock q)
count_turned adds clock q = let l = length-append q.clocks (clock ∷ []) in omega arith
count_turned clears clock q = omega arith
count_turned (drops m) clock q = omega arith
count_turned leaves_all clock q = omega arith

numbered_sized : (n : ℕ) (t : Turn) (clock : List ℕ) (q : Numbered) → length clock ≡ n → Sized n q.clocks → Sized n (turned_numbered t clock q).clocks
numbered_sized n adds clock q h k = sized_last n clock q.clocks h k
numbered_sized n clears clock q h k = k
numbered_sized n (drops m) clock q h k = k
numbered_sized n leaves_all clock q h k = k

numbered_turned : (t : Turn) (clock : List ℕ) (gone : List (ℕ → ℕ)) (q : Numbered) → OnlyAdds t
    → turned_queue t (count_of clock) (gone ++ map count_of q.clocks) ≡ gone ++ map count_of (turned_numbered t clock q).clocks
numbered_turned adds clock gone q h = append_assoc gone (map count_of q.clocks) (count_of clock ∷ []) ∙ ap (λ z. gone ++ z) (sym (map-append count_of q.clocks (clock ∷ [])))
numbered_turned clears clock gone q h = absurd (elim h [ inl e ↦ cc | inr e ↦ cc ])
numbered_turned (drops m) clock gone q h = absurd (elim h [ inl e ↦ cc | inr e ↦ cc ])
numbered_turned leaves_all clock gone q h = refl

module _ (n : ℕ) (g : List Entry) (s : Order) (rec : Ordered n g s) (e : Entry) (first : 0 < e.image.0) (last : e.image.0 ≤ n) (a : Act) (is : act_of e ≡ a) where
  kept_turned : (key : Key) (q : Numbered) → OnlyAdds (turn key e.image.0 a) → NumberedKept n g key q → NumberedKept n (g ++ e ∷ []) key (turned_numbered (turn key e.image.0 a) (clock_of s e.image.0) q)
  kept_turned key q only kept = record {
    sized = numbered_sized n (turn key e.image.0 a) (clock_of s e.image.0) q (own_size n g s rec e first last) kept.sized;
    gone = kept.gone;
    many = kept.many ∙ sym (first_turned (turn key e.image.0 a) (clock_of s e.image.0) q);
    covers = subst (EachCovered (edges n) (g ++ e ∷ []) (waiting (view n) key (g ++ e ∷ [])))
        (ap (λ z. turned_queue (turn key e.image.0 z) (count_of (clock_of s e.image.0)) (kept.gone ++ map count_of q.clocks)) is ∙ numbered_turned (turn key e.image.0 a) (clock_of s e.image.0) kept.gone q only)
        (queue_more Entry (view n) g e key (count_of (clock_of s e.image.0)) (kept.gone ++ map count_of q.clocks) kept.covers (own n g s rec e first last));
  }

  module _ (s' : Order) (turned : Turned n e.image.0 a (clock_of s e.image.0) s s') where
    pub pairs_after : (j h : ℕ) → NumberedKept n (g ++ e ∷ []) (pair j h) (numbered_at s'.pairs j h)
    pairs_after j h = kept_forgets n (g ++ e ∷ []) (pair j h) _ _ _ (kept_turned (pair j h) (numbered_at s.pairs j h) (pair_adds j h e.image.0 a) (rec.pairs j h)) (turned.pairs j h)

    -- images have named each other as often as before or more often
    pub needed_after : Needed s'.pairs
    needed_after j h =
        let f = first_turned (turn (pair j h) e.image.0 a) (clock_of s e.image.0) (numbered_at s.pairs j h) in
        let c = count_forgets _ _ _ (turned.pairs h j) in
        let m = count_turned (turn (pair h j) e.image.0 a) (clock_of s e.image.0) (numbered_at s.pairs h j) in
        let b = (turned.pairs j h).below in
        let k = rec.needed j h in
        omega arith

-- What each act does at each key, as the tables have it.
use Rattle.std.proofs.Common.{◌≡◌, ℕ, ◌-◌, ◌<◌, ◌≤◌, Bool, true, false, nat_eq, ◌&&◌, ◌||◌, ◌+◌, cond, List, [], ◌∷◌, ◌++◌, length, get_or, set, drop, take, refl, ap, sym, ◌∙◌, subst, arith, Option, None}
use Rattle.std.proofs.lemmas.Bool.{eq-eqb, ne_eqb, eqb-true}
use Rattle.std.proofs.lemmas.List.{take_more}
use Rattle.caf_events.specs.declared.event.Entry.{Entry}
use Rattle.order_theory.specs.Races.{Cell, same_cell, within_coarray}
use Rattle.order_theory.specs.Acts.{Act, arrives, leaves, pairs, unpairs, gets, unlocks, enters, exits, posts, waits, finishes, creates, deletes, goes_on, adds, clears, drops, leaves_all, names, completing, released}
use Rattle.order_axioms.specs.Views.{view}
use Rattle.race_watch.specs.declared.order.Order.{Order}
use Rattle.race_watch.specs.Tables.{merged, clock_at, queue_at, Numbered, numbered_at, with_next}
use Rattle.race_watch.specs.Orders.{line_of, named_by, OnlyFinishes, Differ, turned_counts, turned_clocks, turned_numbered, Turned}
use Rattle.race_watch.proofs.Lines.{same_row, turned_round}
use Rattle.race_watch.proofs.Turning.{at_set}
use Rattle.race_watch.proofs.Forgetting.{forgets_none}

or_assoc : (a b c : Bool) → ((a || b) || c) ≡ (a || (b || c))
or_assoc true b c = refl
or_assoc false b c = refl

or_false : (a : Bool) → (a || (false || false)) ≡ a
or_false true = refl
or_false false = refl

joint_added : (b c : Bool) → b ≡ c → (own : List ℕ) (x : Option (List ℕ)) → cond b (merged x own) x ≡ turned_counts (cond c adds leaves_all) own x
joint_added b true e own x = ap (λ z. cond z (merged x own) x) e
joint_added b false e own x = ap (λ z. cond z (merged x own) x) e

joint_cleared : (b c : Bool) → b ≡ c → (own : List ℕ) (x : Option (List ℕ)) → cond b None x ≡ turned_counts (cond c clears leaves_all) own x
joint_cleared b true e own x = ap (λ z. cond z None x) e
joint_cleared b false e own x = ap (λ z. cond z None x) e

queue_added : (b c : Bool) → b ≡ c → (own : List ℕ) (x : List (List ℕ)) → cond b (x ++ own ∷ []) x ≡ turned_clocks (cond c adds leaves_all) own x
queue_added b true e own x = ap (λ z. cond z (x ++ own ∷ []) x) e
queue_added b false e own x = ap (λ z. cond z (x ++ own ∷ []) x) e

numbered_added : (b c : Bool) → b ≡ c → (own : List ℕ) (q : Numbered) → cond b (with_next own q) q ≡ turned_numbered (cond c adds leaves_all) own q
numbered_added b true e own q = ap (λ z. cond z (with_next own q) q) e
numbered_added b false e own q = ap (λ z. cond z (with_next own q) q) e

queue_cleared : (b c : Bool) → b ≡ c → (own : List ℕ) (x : List (List ℕ)) → cond b [] x ≡ turned_clocks (cond c clears leaves_all) own x
queue_cleared b true e own x = ap (λ z. cond z [] x) e
queue_cleared b false e own x = ap (λ z. cond z [] x) e

queue_dropped : (b c : Bool) (k : ℕ) → b ≡ c → (own : List ℕ) (x : List (List ℕ)) → cond b (drop k x) x ≡ turned_clocks (cond c (drops k) leaves_all) own x
queue_dropped b true k e own x = ap (λ z. cond z (drop k x) x) e
queue_dropped b false k e own x = ap (λ z. cond z (drop k x) x) e

-- a coarray has one line
pub line_is : (n o m : ℕ) (c : Cell) → 0 < o → o ≤ n → 0 < c.owner → c.owner ≤ n → nat_eq (line_of n c.owner c.coarray) (line_of n o m) ≡ within_coarray o m c
line_is n o m c h k h' k' = turned_round (line_of n c.owner c.coarray) (line_of n o m) ∙ sym (same_row n c.owner c.coarray o m h' k' h k)

cell_is : (n : ℕ) (d c : Cell) → 0 < d.owner → d.owner ≤ n → 0 < c.owner → c.owner ≤ n
    → (nat_eq (line_of n c.owner c.coarray) (line_of n d.owner d.coarray) && nat_eq c.offset d.offset) ≡ same_cell c d
cell_is n d c h k h' k' = ap (λ b. b && nat_eq c.offset d.offset) (line_is n d.owner d.coarray c h k h' k')

module _ (n i : ℕ) (own : List ℕ) (s s' : Order) where
  module _ (named : s'.named ≡ s.named) where
    named_same : (j : ℕ) → named_by s' j ≡ named_by s j
    named_same j = ap (λ z. get_or z.items (j - 1) []) named

    module _ (rounds : s'.rounds ≡ s.rounds) (locks : s'.locks ≡ s.locks) (constructs : s'.constructs ≡ s.constructs) (events : s'.events ≡ s.events) (pairs_is : s'.pairs ≡ s.pairs) where
      -- nothing that waits is concerned
      pub only_finishes : (a : Act) → OnlyFinishes a → Turned n i a own s s'
      only_finishes finishes h = record { rounds = λ t k. ap (λ z. clock_at z t k) rounds; locks = λ c p q. ap (λ z. clock_at z (line_of n c.owner c.coarray) c.offset) locks; constructs = λ k. ap (λ z. clock_at z 0 k) constructs; events = λ c p q. ap (λ z. queue_at z (line_of n c.owner c.coarray) c.offset) events; pairs = λ j h. forgets_none _ _ _ (ap (λ z. numbered_at z j h) pairs_is); named_count = ap (λ z. length z.items) named; named = λ j p q. named_same j }
      only_finishes (leaves t k false) h = record { rounds = λ t k. ap (λ z. clock_at z t k) rounds; locks = λ c p q. ap (λ z. clock_at z (line_of n c.owner c.coarray) c.offset) locks; constructs = λ k. ap (λ z. clock_at z 0 k) constructs; events = λ c p q. ap (λ z. queue_at z (line_of n c.owner c.coarray) c.offset) events; pairs = λ j h. forgets_none _ _ _ (ap (λ z. numbered_at z j h) pairs_is); named_count = ap (λ z. length z.items) named; named = λ j p q. named_same j }
      only_finishes (unpairs false) h = record { rounds = λ t k. ap (λ z. clock_at z t k) rounds; locks = λ c p q. ap (λ z. clock_at z (line_of n c.owner c.coarray) c.offset) locks; constructs = λ k. ap (λ z. clock_at z 0 k) constructs; events = λ c p q. ap (λ z. queue_at z (line_of n c.owner c.coarray) c.offset) events; pairs = λ j h. forgets_none _ _ _ (ap (λ z. numbered_at z j h) pairs_is); named_count = ap (λ z. length z.items) named; named = λ j p q. named_same j }
      only_finishes (leaves t k true) h = absurd h
      only_finishes (unpairs true) h = absurd h
      only_finishes (arrives t k) h = absurd h
      only_finishes (pairs js) h = absurd h
      only_finishes (gets c) h = absurd h
      only_finishes (unlocks c) h = absurd h
      only_finishes (enters m) h = absurd h
      only_finishes (exits m) h = absurd h
      only_finishes (posts c) h = absurd h
      only_finishes (waits c k) h = absurd h
      only_finishes (creates o m) h = absurd h
      only_finishes (deletes o m) h = absurd h
      only_finishes goes_on h = absurd h

module _ (n i : ℕ) (own : List ℕ) where
  pub lock_added : (old new : List (List (Option (List ℕ)))) (d : Cell) → 0 < d.owner → d.owner ≤ n
      → ((l k : ℕ) → clock_at new l k ≡ cond (nat_eq l (line_of n d.owner d.coarray) && nat_eq k d.offset) (merged (clock_at old l k) own) (clock_at old l k))
      → (c : Cell) → 0 < c.owner → c.owner ≤ n → clock_at new (line_of n c.owner c.coarray) c.offset ≡ turned_counts (cond (same_cell c d) adds leaves_all) own (clock_at old (line_of n c.owner c.coarray) c.offset)
  lock_added old new d h k step c p q = step (line_of n c.owner c.coarray) c.offset ∙ joint_added _ _ (cell_is n d c h k p q) own (clock_at old (line_of n c.owner c.coarray) c.offset)

  pub lock_cleared : (old new : List (List (Option (List ℕ)))) (d : Cell) → 0 < d.owner → d.owner ≤ n
      → ((l k : ℕ) → clock_at new l k ≡ cond (nat_eq l (line_of n d.owner d.coarray) && nat_eq k d.offset) None (clock_at old l k))
      → (c : Cell) → 0 < c.owner → c.owner ≤ n → clock_at new (line_of n c.owner c.coarray) c.offset ≡ turned_counts (cond (same_cell c d) clears leaves_all) own (clock_at old (line_of n c.owner c.coarray) c.offset)
  lock_cleared old new d h k step c p q = step (line_of n c.owner c.coarray) c.offset ∙ joint_cleared _ _ (cell_is n d c h k p q) own (clock_at old (line_of n c.owner c.coarray) c.offset)

  pub locks_cleared : (old new : List (List (Option (List ℕ)))) (o m : ℕ) → 0 < o → o ≤ n
      → ((l k : ℕ) → clock_at new l k ≡ cond (nat_eq l (line_of n o m)) None (clock_at old l k))
      → (c : Cell) → 0 < c.owner → c.owner ≤ n → clock_at new (line_of n c.owner c.coarray) c.offset ≡ turned_counts (cond (within_coarray o m c) clears leaves_all) own (clock_at old (line_of n c.owner c.coarray) c.offset)
  locks_cleared old new o m h k step c p q = step (line_of n c.owner c.coarray) c.offset ∙ joint_cleared _ _ (line_is n o m c h k p q) own (clock_at old (line_of n c.owner c.coarray) c.offset)

  pub events_cleared : (old new : List (List (List (List ℕ)))) (o m : ℕ) → 0 < o → o ≤ n
      → ((l k : ℕ) → queue_at new l k ≡ cond (nat_eq l (line_of n o m)) [] (queue_at old l k))
      → (c : Cell) → 0 < c.owner → c.owner ≤ n → queue_at new (line_of n c.owner c.coarray) c.offset ≡ turned_clocks (cond (within_coarray o m c) clears leaves_all) own (queue_at old (line_of n c.owner c.coarray) c.offset)
  events_cleared old new o m h k step c p q = step (line_of n c.owner c.coarray) c.offset ∙ queue_cleared _ _ (line_is n o m c h k p q) own (queue_at old (line_of n c.owner c.coarray) c.offset)

  pub event_added : (old new : List (List (List (List ℕ)))) (d : Cell) → 0 < d.owner → d.owner ≤ n
      → ((l k : ℕ) → queue_at new l k ≡ cond (nat_eq l (line_of n d.owner d.coarray) && nat_eq k d.offset) (queue_at old l k ++ own ∷ []) (queue_at old l k))
      → (c : Cell) → 0 < c.owner → c.owner ≤ n → queue_at new (line_of n c.owner c.coarray) c.offset ≡ turned_clocks (cond (same_cell c d) adds leaves_all) own (queue_at old (line_of n c.owner c.coarray) c.offset)
  event_added old new d h k step c p q = step (line_of n c.owner c.coarray) c.offset ∙ queue_added _ _ (cell_is n d c h k p q) own (queue_at old (line_of n c.owner c.coarray) c.offset)

  pub event_dropped : (old new : List (List (List (List ℕ)))) (d : Cell) (m : ℕ) → 0 < d.owner → d.owner ≤ n
      → ((l k : ℕ) → queue_at new l k ≡ cond (nat_eq l (line_of n d.owner d.coarray) && nat_eq k d.offset) (drop m (queue_at old l k)) (queue_at old l k))
      → (c : Cell) → 0 < c.owner → c.owner ≤ n → queue_at new (line_of n c.owner c.coarray) c.offset ≡ turned_clocks (cond (same_cell c d) (drops m) leaves_all) own (queue_at old (line_of n c.owner c.coarray) c.offset)
  event_dropped old new d m h k step c p q = step (line_of n c.owner c.coarray) c.offset ∙ queue_dropped _ _ m (cell_is n d c h k p q) own (queue_at old (line_of n c.owner c.coarray) c.offset)

  pub round_added : (old new : List (List (Option (List ℕ)))) (u l : ℕ) → ((t k : ℕ) → clock_at new t k ≡ cond (nat_eq t u && nat_eq k l) (merged (clock_at old t k) own) (clock_at old t k))
      → (t k : ℕ) → clock_at new t k ≡ turned_counts (cond (nat_eq t u && nat_eq k l) adds leaves_all) own (clock_at old t k)
  round_added old new u l step t k = step t k ∙ joint_added _ _ refl own (clock_at old t k)

  pub construct_added : (old new : List (List (Option (List ℕ)))) (m : ℕ) → ((l k : ℕ) → clock_at new l k ≡ cond (nat_eq l 0 && nat_eq k m) (merged (clock_at old l k) own) (clock_at old l k))
      → (k : ℕ) → clock_at new 0 k ≡ turned_counts (cond (nat_eq k m) adds leaves_all) own (clock_at old 0 k)
  construct_added old new m step k = step 0 k ∙ joint_added _ _ refl own (clock_at old 0 k)

  pub construct_cleared : (old new : List (List (Option (List ℕ)))) (m : ℕ) → ((l k : ℕ) → clock_at new l k ≡ cond (nat_eq l 0 && nat_eq k m) None (clock_at old l k))
      → (k : ℕ) → clock_at new 0 k ≡ turned_counts (cond (nat_eq k m) clears leaves_all) own (clock_at old 0 k)
  construct_cleared old new m step k = step 0 k ∙ joint_cleared _ _ refl own (clock_at old 0 k)

  pub pair_added : (old new : List (List Numbered)) (js : List ℕ) → ((l k : ℕ) → numbered_at new l k ≡ cond (nat_eq l i && names k js) (with_next own (numbered_at old l k)) (numbered_at old l k))
      → (j h : ℕ) → numbered_at new j h ≡ turned_numbered (cond (nat_eq i j && names h js) adds leaves_all) own (numbered_at old j h)
  pair_added old new js step j h = step j h ∙ numbered_added _ _ (ap (λ b. b && names h js) (turned_round j i)) own (numbered_at old j h)

pub only_completes : (a : Act) → OnlyFinishes a → completing a ≡ true
only_completes finishes h = refl
only_completes (leaves t k false) h = refl
only_completes (unpairs false) h = refl
only_completes (leaves t k true) h = absurd h
only_completes (unpairs true) h = absurd h
only_completes (arrives t k) h = absurd h
only_completes (pairs js) h = absurd h
only_completes (gets c) h = absurd h
only_completes (unlocks c) h = absurd h
only_completes (enters m) h = absurd h
only_completes (exits m) h = absurd h
only_completes (posts c) h = absurd h
only_completes (waits c k) h = absurd h
only_completes (creates o m) h = absurd h
only_completes (deletes o m) h = absurd h
only_completes goes_on h = absurd h

pub only_releases : (n : ℕ) (g : List Entry) (i : ℕ) (a : Act) → OnlyFinishes a → released (view n) g i a ≡ []
only_releases n g i finishes h = refl
only_releases n g i (leaves t k false) h = refl
only_releases n g i (unpairs false) h = refl
only_releases n g i (leaves t k true) h = absurd h
only_releases n g i (unpairs true) h = absurd h
only_releases n g i (arrives t k) h = absurd h
only_releases n g i (pairs js) h = absurd h
only_releases n g i (gets c) h = absurd h
only_releases n g i (unlocks c) h = absurd h
only_releases n g i (enters m) h = absurd h
only_releases n g i (exits m) h = absurd h
only_releases n g i (posts c) h = absurd h
only_releases n g i (waits c k) h = absurd h
only_releases n g i (creates o m) h = absurd h
only_releases n g i (deletes o m) h = absurd h
only_releases n g i goes_on h = absurd h

pub named_set : (i : ℕ) (old new : List (List ℕ)) (js : List ℕ) → 0 < i → i ≤ length old → new ≡ set old (i - 1) js → (j : ℕ) → 0 < j → get_or new (j - 1) [] ≡ cond (nat_eq j i) js (get_or old (j - 1) [])
named_set i old new js h l is j p =
    ap (λ z. get_or z (j - 1) []) is ∙ at_set (λ k z. z ≡ cond (nat_eq j i) js (get_or old (j - 1) [])) old (i - 1) (j - 1) js [] (omega arith)
    (λ e. let same : j ≡ i = omega arith in sym (ap (λ b. cond b js (get_or old (j - 1) [])) (eq-eqb j i same)))
    (λ ne. sym (ap (λ b. cond b js (get_or old (j - 1) [])) (ne_eqb j i (λ e. ne (ap (λ z. z - 1) (sym e))))))

names_append : (k : ℕ) (xs ys : List ℕ) → names k (xs ++ ys) ≡ (names k xs || names k ys)
names_append k [] ys = refl
names_append k (x ∷ xs) ys = ap (λ b. nat_eq x k || b) (names_append k xs ys) ∙ sym (or_assoc (nat_eq x k) (names k xs) (names k ys))

-- one more image of SYNC IMAGES
put_by : (b m e : Bool) (own : List ℕ) (old mid new : Numbered) → (e ≡ true → m ≡ false) → mid ≡ cond (b && m) (with_next own old) old → new ≡ cond (b && e) (with_next own mid) mid → new ≡ cond (b && (m || (e || false))) (with_next own old) old
put_by false m e own old mid new d p q = q ∙ p
put_by true m false own old mid new d p q = q ∙ p ∙ ap (λ z. cond z (with_next own old) old) (sym (or_false m))
put_by true false true own old mid new d p q = q ∙ ap (with_next own) p
put_by true true true own old mid new d p q = absurd (let z = d refl in cc)

pub put_more : (l k line i x d : ℕ) (js : List ℕ) (own : List ℕ) (old mid new : Numbered) → Differ js → i < length js → x ≡ get_or js i d
    → mid ≡ cond (nat_eq l line && names k (take i js)) (with_next own old) old → new ≡ cond (nat_eq l line && nat_eq k x) (with_next own mid) mid
    → new ≡ cond (nat_eq l line && names k (take (i + 1) js)) (with_next own old) old
put_more l k line i x d js own old mid new apart h is p q =
    put_by (nat_eq l line) (names k (take i js)) (nat_eq x k) own old mid new
    (λ t. subst (λ z. names z (take i js) ≡ false) (sym is ∙ eqb-true x k t) (apart i d h)) p (q ∙ ap (λ b. cond (nat_eq l line && b) (with_next own mid) mid) (turned_round k x))
    ∙ ap (λ b. cond (nat_eq l line && b) (with_next own old) old) (sym (ap (names k) (take_more js i d h ∙ ap (λ z. take i js ++ z ∷ []) (sym is)) ∙ names_append k (take i js) (x ∷ [])))

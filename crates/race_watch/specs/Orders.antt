-- What the clocks of a recorder say of the trace so far.
use Rattle.std.specs.Prelude.{ℕ, ◌+◌, ◌*◌, ◌-◌, ◌^◌, ◌<◌, ◌≤◌, ◌≡◌, List, [], ◌∷◌, ◌++◌, length, get_or, map, max, take, drop, false, Option, None}
use Rattle.caf_events.specs.declared.event.Entry.{Entry}
use Rattle.order_theory.specs.Order.{done}
use Rattle.order_theory.specs.Clocks.{Covers}
use Rattle.order_theory.specs.Races.{Cell}
use Rattle.order_theory.specs.Acts.{Act, finishes, leaves, unpairs, pairs, gets, unlocks, posts, waits, creates, deletes, names, others, Key, round, pair, lock, construct, event, Turn, adds, clears, drops, leaves_all, turn, entries, waiting, last_named_from, named_after}
use Rattle.order_theory.specs.Stored.{present, EachCovered}
use Rattle.segment_clock.specs.Counts.{count_of}
use Rattle.order_axioms.specs.Views.{act_of, view, edges}
use Rattle.race_watch.specs.declared.order.Order.{Order}
use Rattle.race_watch.specs.Tables.{counts_of, merged, IsClockOf, clock_at, queue_at, joined_all, Numbered, numbered_at, count_in, numbered, with_next}

-- the line of a coarray in the memory of an owner
abbrev pub line_of : ℕ → ℕ → ℕ → ℕ
line_of n owner coarray = coarray * n + (owner - 1)

-- the clock of an image, and the images that it named last
abbrev pub clock_of : Order → ℕ → List ℕ
clock_of s i = get_or s.images.items (i - 1) []

abbrev pub named_by : Order → ℕ → List ℕ
named_by s i = get_or s.named.items (i - 1) []

-- the clock, and the queue, of a lock or event
abbrev pub lock_at : ℕ → Order → Cell → Option (List ℕ)
lock_at n s c = clock_at s.locks (line_of n c.owner c.coarray) c.offset

abbrev pub event_at : ℕ → Order → Cell → List (List ℕ)
event_at n s c = queue_at s.events (line_of n c.owner c.coarray) c.offset

-- these are clocks of n images
abbrev pub Sized : ℕ → List (List ℕ) → Type 0
Sized n [] = Unit {0}
Sized n (c ∷ cs) = (length c ≡ n) × Sized n cs

-- the clock covers exactly what waits at the key
pub record JointKept (n : ℕ) (g : List Entry) (key : Key) (c : Option (List ℕ)) : Type 0 where
  pub sized : IsClockOf n c
  pub covers : Covers (edges n) g (waiting (view n) key g) (count_of (counts_of c))

-- there is a clock for each segment that waits at the key
pub record QueueKept (n : ℕ) (g : List Entry) (key : Key) (cs : List (List ℕ)) : Type 0 where
  pub sized : Sized n cs
  pub covers : EachCovered (edges n) g (waiting (view n) key g) (map count_of cs)

-- the same where the first clocks are forgotten: `gone` is what they told
pub record NumberedKept (n : ℕ) (g : List Entry) (key : Key) (q : Numbered) : Type 0 where
  pub sized : Sized n q.clocks
  pub gone : List (ℕ → ℕ)
  pub many : length gone ≡ q.first
  pub covers : EachCovered (edges n) g (waiting (view n) key g) (gone ++ map count_of q.clocks)

-- Of the SYNC IMAGES of image j that name image h, the clock of the one that corresponds to the last of h that names j
-- is still kept, and so are all behind it.
abbrev pub Needed : List (List Numbered) → Type 0
Needed table = (j h : ℕ) → (numbered_at table j h).first ≤ count_in (numbered_at table h j) - 1

-- What is kept of segment order after these entries: of each image the clock of its present segment, ticked, how many
-- segments it has completed, and the images that it named last; and the clocks of what waits at each key.
pub record Ordered (n : ℕ) (g : List Entry) (s : Order) : Type 0 where
  pub image_count : length s.images.items ≡ n
  pub completed_count : length s.completed.items ≡ n
  pub named_count : length s.named.items ≡ n
  pub clock_sizes : (i : ℕ) → 0 < i → i ≤ n → length (clock_of s i) ≡ n
  pub clocks : (i : ℕ) → 0 < i → i ≤ n → Covers (edges n) g (present (view n) g i ∷ []) (count_of (clock_of s i))
  pub counts : (i : ℕ) → 0 < i → i ≤ n → get_or s.completed.items (i - 1) 0 ≡ done (entries (view n)) i g
  pub named : (i : ℕ) → 0 < i → i ≤ n → named_by s i ≡ last_named_from (view n) i [] g
  pub rounds : (t k : ℕ) → JointKept n g (round t k) (clock_at s.rounds t k)
  pub locks : (c : Cell) → 0 < c.owner → c.owner ≤ n → JointKept n g (lock c) (lock_at n s c)
  pub constructs : (k : ℕ) → JointKept n g (construct k) (clock_at s.constructs 0 k)
  pub events : (c : Cell) → 0 < c.owner → c.owner ≤ n → QueueKept n g (event c) (event_at n s c)
  pub pairs : (j h : ℕ) → NumberedKept n g (pair j h) (numbered_at s.pairs j h)
  pub needed : Needed s.pairs

-- a key's clock, and its queue, after a turn of an entry whose image has this clock
abbrev pub turned_counts : Turn → List ℕ → Option (List ℕ) → Option (List ℕ)
turned_counts adds own c = merged c own
turned_counts clears own c = None
turned_counts (drops k) own c = c
turned_counts leaves_all own c = c

abbrev pub turned_clocks : Turn → List ℕ → List (List ℕ) → List (List ℕ)
turned_clocks adds own cs = cs ++ own ∷ []
turned_clocks clears own cs = []
turned_clocks (drops k) own cs = drop k cs
turned_clocks leaves_all own cs = cs

-- the clocks of a pair after a turn; no act clears or drops any there
abbrev pub turned_numbered : Turn → List ℕ → Numbered → Numbered
turned_numbered adds own q = with_next own q
turned_numbered t own q = q

-- some first clocks of q, each of a number below the bound, are forgotten in q'
pub record Forgets (bound : ℕ) (q q' : Numbered) : Type 0 where
  pub many : ℕ
  pub there : many ≤ length q.clocks
  pub first : q'.first ≡ q.first + many
  pub clocks : q'.clocks ≡ drop many q.clocks
  pub below : q'.first ≤ max q.first bound

-- of each pair only clocks are forgotten at which no image has to look any more
abbrev pub ForgetsUsed : List (List Numbered) → List (List Numbered) → Type 0
ForgetsUsed old new = (j h : ℕ) → Forgets (count_in (numbered_at old h j) - 1) (numbered_at old j h) (numbered_at new j h)

-- Each key is kept as it is after the turn of an act of image i; of a pair, clocks may be forgotten at which no image
-- has to look any more.
pub record Turned (n i : ℕ) (a : Act) (own : List ℕ) (s s' : Order) : Type 0 where
  pub rounds : (t k : ℕ) → clock_at s'.rounds t k ≡ turned_counts (turn (round t k) i a) own (clock_at s.rounds t k)
  pub locks : (c : Cell) → 0 < c.owner → c.owner ≤ n → lock_at n s' c ≡ turned_counts (turn (lock c) i a) own (lock_at n s c)
  pub constructs : (k : ℕ) → clock_at s'.constructs 0 k ≡ turned_counts (turn (construct k) i a) own (clock_at s.constructs 0 k)
  pub events : (c : Cell) → 0 < c.owner → c.owner ≤ n → event_at n s' c ≡ turned_clocks (turn (event c) i a) own (event_at n s c)
  pub pairs : (j h : ℕ) → Forgets (count_in (numbered_at s.pairs h j) - 1) (turned_numbered (turn (pair j h) i a) own (numbered_at s.pairs j h)) (numbered_at s'.pairs j h)
  pub named_count : length s'.named.items ≡ length s.named.items
  pub named : (j : ℕ) → 0 < j → j ≤ n → named_by s' j ≡ named_after j (named_by s j) i a

-- the act completes a segment, and that alone
abbrev pub OnlyFinishes : Act → Type 0
OnlyFinishes finishes = Unit {0}
OnlyFinishes (leaves t k false) = Unit {0}
OnlyFinishes (unpairs false) = Unit {0}
OnlyFinishes a = ⊥

-- the clock joined with those of the last SYNC IMAGES of image i with these images
abbrev pub paired : List (List Numbered) → ℕ → List ℕ → List ℕ → List ℕ
paired table i [] c = c
paired table i (j ∷ js) c = paired table i js (joined_all c (numbered (count_in (numbered_at table i j) - 1) (numbered_at table j i)))

-- the clocks of each pair can be counted
abbrev pub CanCount : List (List Numbered) → Type 0
CanCount table = (j h : ℕ) → count_in (numbered_at table j h) < 2 ^ 64

-- What is known where an entry comes that completes no segment: its act, and what is kept so far.
pub record GoingOn (n : ℕ) (g : List Entry) (e : Entry) (a : Act) (s : Order) : Type 0 where
  pub first : 0 < e.image.0
  pub last : e.image.0 ≤ n
  pub act : act_of e ≡ a
  pub ordered : Ordered n g s

-- The same where it completes one: these counts cover the last segments of the failed images of which its status
-- speaks.
pub record Completing (n : ℕ) (g : List Entry) (e : Entry) (a : Act) (s : Order) (told : Option (List ℕ)) : Type 0 where
  pub first : 0 < e.image.0
  pub last : e.image.0 ≤ n
  pub short : length g < 2 ^ 62
  pub act : act_of e ≡ a
  pub ordered : Ordered n g s
  pub sized : IsClockOf n told
  pub covers : Covers (edges n) g (others (view n) g e) (count_of (counts_of told))

-- no number stands twice
abbrev pub Differ : List ℕ → Type 0
Differ js = (i d : ℕ) → i < length js → names (get_or js i d) (take i js) ≡ false

-- the lock or event of an act is in a memory of the run, and SYNC IMAGES names no image twice
abbrev pub IsSound : ℕ → Act → Type 0
IsSound n (gets c) = (0 < c.owner) × (c.owner ≤ n)
IsSound n (unlocks c) = (0 < c.owner) × (c.owner ≤ n)
IsSound n (posts c) = (0 < c.owner) × (c.owner ≤ n)
IsSound n (waits c k) = (0 < c.owner) × (c.owner ≤ n)
IsSound n (creates o m) = (0 < o) × (o ≤ n)
IsSound n (deletes o m) = (0 < o) × (o ≤ n)
IsSound n (pairs js) = Differ js
IsSound n a = Unit {0}

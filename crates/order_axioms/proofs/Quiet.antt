-- A lawful trace is quiet, so the laws of segment order hold of it.
use Rattle.std.proofs.Common.{◌≡◌, ◌⊎◌, ℕ, Bool, true, false, cond, List, [], ◌∷◌, ◌++◌, inl, inr, refl, ap, sym, ◌∙◌, subst}
use Rattle.std.specs.List.{filter}
use Rattle.std.proofs.lemmas.Bool.{cases_Bool, and_parts, eqb-true}
use Rattle.caf_base.specs.declared.place.ImageNo.{ImageNo}
use Rattle.caf_base.specs.declared.place.Place.TheVariants as places
use Rattle.caf_base.specs.declared.span.Span.{Span}
use Rattle.caf_events.specs.declared.ask.Ask.{Ask}
use Rattle.caf_events.specs.declared.ask.Ask.TheVariants as asks
use Rattle.caf_events.specs.declared.reply.Reply.{Reply}
use Rattle.caf_events.specs.declared.reply.Reply.TheVariants as replies
use Rattle.caf_events.specs.declared.event.Entry.{Entry}
use Rattle.caf_events.specs.Asks.{place_of, object_of}
use Rattle.caf_events.specs.Histories.{Served}
use Rattle.object_rules.specs.Constructs.{Hold, free, held, left_by, construct_after}
use Rattle.object_rules.specs.Locks.{lock_after, lock_status, is_others}
use Rattle.object_rules.specs.Cells.{Declared, MadeMemory, is_marked}
use Rattle.object_rules.specs.MemoryRules.{cells_there, touch_reply, memory_reply}
use Rattle.object_rules.specs.BoardRules.{enter_status, board_ready, board_reply}
use Rattle.core_runs.specs.Failures.{is_failure_step}
use Rattle.core_runs.specs.CoreRuns.{at_board, of_memory}
use Rattle.core_runs.specs.Lawful.{IsLawfulTrace, made_memory}
use Rattle.order_theory.specs.Order.{Within}
use Rattle.order_axioms.specs.Statuses.{tells_failed, tells_unlocked}
use Rattle.order_axioms.specs.Closes.{is_gone, members, round_closed, named, pair_closed, gone_by}
use Rattle.order_axioms.specs.Views.{first_cell, last_holder, last_inside, lock_speaks, owner_speaks, departure_speaks, pair_speaks, enter_speaks, speaks_by}
use Rattle.order_axioms.specs.OwnLists.{IsQuiet}
use Rattle.order_axioms.proofs.Gone.{gone_tells}
use Rattle.order_axioms.proofs.QuietEnds.{ends_quietly}
use Rattle.order_axioms.proofs.Marked.{FailsIn, SpeaksOfOwner, served_at, of_here, served_here, owner_fails}
use Rattle.order_axioms.proofs.Holders.{Agrees, lock_agrees, construct_agrees}

filter_tells : (test : ℕ → Bool) (k : ℕ) (ks : List ℕ) → Within k (filter test ks) → test k ≡ true
filter_tells test k [] w = absurd w
filter_tells test k (x ∷ ks) w = elim (cases_Bool (test x)) [
  | inl t ↦ (elim (rw t at w) [ inl e ↦ subst (λ z. test z ≡ true) (sym e) t | inr v ↦ filter_tells test k ks v ])
  | inr f ↦ filter_tells test k ks (rw f at w)
]

-- what is among some only where a test holds
tested : (b : Bool) (i : ℕ) (js : List ℕ) → Within i (cond b js []) → (b ≡ true) × Within i js
tested true i js w = (refl, w)
tested false i js w = absurd w

-- either the one list, or the other where a second test holds
tested_twice : (a b : Bool) (i : ℕ) (js ks : List ℕ) → Within i (cond a js (cond b ks [])) → ((a ≡ true) × Within i js) ⊎ ((b ≡ true) × Within i ks)
tested_twice true b i js ks w = inl (refl, w)
tested_twice false b i js ks w = inr (tested b i ks w)

gone_step : (a : Ask) → is_gone a ≡ true → is_failure_step a ≡ true
gone_step asks.Gone h = refl
gone_step a h = absurd (cc)

gone_fails : (closed : List Entry → Bool) (g : List Entry) (i : ℕ) → gone_by closed g i ≡ true → FailsIn g i
gone_fails closed g i h =
    let z = gone_tells closed i g h in
    let p = and_parts _ (is_gone z.1.event.ask) z.4 in
    (z.0, z.1, z.2, z.3, eqb-true z.1.image.0 i p.0, gone_step z.1.event.ask p.1)

one_of_one : (i j : ℕ) → Within i (j ∷ []) → i ≡ j
one_of_one i j (inl e) = e
one_of_one i j (inr z) = absurd z

-- the status of a LOCK that tells of a failed holder
abbrev LeftBy : Hold → Type 0
LeftBy free = ⊥
LeftBy (held j) = ⊥
LeftBy (left_by j) = Unit {0}

lock_left : (s : Hold) (i : ℕ) → tells_unlocked (lock_status s i) ≡ true → LeftBy s
lock_left free i h = absurd (cc)
lock_left (held j) i h = absurd (cc)
lock_left (left_by j) i h = tt

enter_left : (s : Hold) → tells_failed (enter_status s) ≡ true → LeftBy s
enter_left free h = absurd (cc)
enter_left (held j) h = absurd (cc)
enter_left (left_by j) h = tt

holder_fails : (s : Hold) (js : List ℕ) (g : List Entry) (i : ℕ) → Agrees s js g → LeftBy s → Within i js → FailsIn g i
holder_fails free js g i h l w = absurd l
holder_fails (held j) js g i h l w = absurd l
holder_fails (left_by j) js g i h l w = subst (FailsIn g) (sym (one_of_one i j (subst (Within i) h.0 w))) h.1

-- LOCK and its form that doesn't wait
abbrev Locks : ImageNo → Span → Ask → Type 0
Locks o span (asks.Lock owner sp) = (owner ≡ o) × (sp ≡ span)
Locks o span (asks.TryLock owner sp) = (owner ≡ o) × (sp ≡ span)
Locks o span a = ⊥

-- a reply of a lock that tells of a failed holder
abbrev TellsOfHolder : Hold → Reply → Type 0
TellsOfHolder s (replies.Number status) = tells_unlocked status ≡ true → LeftBy s
TellsOfHolder s r = Unit {0}

either_holder : (s : Hold) (b : Bool) (x y : Reply) → TellsOfHolder s x → TellsOfHolder s y → TellsOfHolder s (cond b x y)
either_holder s true x y p q = p
either_holder s false x y p q = q

touch_holder : (m : MadeMemory) (h : List Entry) (i : ℕ) (o : ImageNo) (span : Span) (a : Ask) → Locks o span a → TellsOfHolder (lock_after span.coarray span.start h) (touch_reply m h i a)
touch_holder m h i o span (asks.Lock owner sp) l =
    subst (λ z. TellsOfHolder (lock_after z.coarray z.start h) (touch_reply m h i (asks.Lock owner sp))) l.1 (lock_left (lock_after sp.coarray sp.start h) i)
touch_holder m h i o span (asks.TryLock owner sp) l =
    subst (λ z. TellsOfHolder (lock_after z.coarray z.start h) (touch_reply m h i (asks.TryLock owner sp))) l.1
    (either_holder (lock_after sp.coarray sp.start h) (is_others (lock_after sp.coarray sp.start h) i) replies.Busy (replies.Number (lock_status (lock_after sp.coarray sp.start h) i)) tt (lock_left (lock_after sp.coarray sp.start h) i))
touch_holder m h i o span a l = absurd l

dead_holder : (s : Hold) (m : MadeMemory) (h : List Entry) (i : ℕ) (o : ImageNo) (span : Span) (a : Ask) → Locks o span a → is_marked h ≡ true → TellsOfHolder s (memory_reply m h i a)
dead_holder s m h i o span (asks.Lock owner sp) l t = rw t (λ u. absurd (cc))
dead_holder s m h i o span (asks.TryLock owner sp) l t = rw t (λ u. absurd (cc))
dead_holder s m h i o span a l t = absurd l

reply_holder : (m : MadeMemory) (h : List Entry) (i : ℕ) (o : ImageNo) (span : Span) (a : Ask) → Locks o span a → TellsOfHolder (lock_after span.coarray span.start h) (memory_reply m h i a)
reply_holder m h i o span a l = elim (cases_Bool (is_marked h)) [
  | inl t ↦ dead_holder (lock_after span.coarray span.start h) m h i o span a l t
  | inr f ↦ rw f (either_holder (lock_after span.coarray span.start h) (cells_there m h a) (touch_reply m h i a) replies.Absent (touch_holder m h i o span a l) tt)
]

locks_owner : (o : ImageNo) (span : Span) (a : Ask) → Locks o span a → SpeaksOfOwner o a
locks_owner o span (asks.Lock owner sp) l = l.0
locks_owner o span (asks.TryLock owner sp) l = l.0
locks_owner o span a l = absurd l

locks_place : (o : ImageNo) (span : Span) (a : Ask) → Locks o span a → place_of a ≡ places.Memory o
locks_place o span (asks.Lock owner sp) l = ap places.Memory l.0
locks_place o span (asks.TryLock owner sp) l = ap places.Memory l.0
locks_place o span a l = absurd l

module _ (s : List Declared) (n : ℕ) (t : List Entry) (lawful : IsLawfulTrace s n t) (g h : List Entry) (x : Entry) (split : t ≡ g ++ x ∷ h) where
  abbrev i : ℕ
  i = x.image.0

  -- a status of LOCK speaks of the owner or of the last holder
  lock_spoken : (o : ImageNo) (span : Span) (j : ℕ) (r : Reply) → x.event.reply ≡ r → Locks o span x.event.ask → Within j (lock_speaks g (first_cell o.0 span) r) → FailsIn g j
  lock_spoken o span j (replies.Number status) is l w = elim (tested_twice (tells_failed status) (tells_unlocked status) j (o.0 ∷ []) (last_holder (first_cell o.0 span) [] g) w) [
    | inl owner ↦ subst (FailsIn g) (sym (one_of_one j o.0 owner.1)) (owner_fails s n t lawful g h x split o status (locks_owner o span x.event.ask l) is owner.0)
    | inr holder ↦ (
        let there = (served_here s n t lawful g h x split o (locks_place o span x.event.ask l)).1 in
        let tells = subst (TellsOfHolder (lock_after span.coarray span.start (of_memory o.0 g))) (sym there ∙ is) (reply_holder (made_memory s o.0) (of_memory o.0 g) i o span x.event.ask l) in
        holder_fails (lock_after span.coarray span.start (of_memory o.0 g)) (last_holder (first_cell o.0 span) [] g) g j (lock_agrees o.0 span.coarray span.start [] g free [] tt) (tells holder.0) holder.1)
  ]
  lock_spoken o span j r is l w = absurd w

  owner_spoken : (o : ImageNo) (j : ℕ) (r : Reply) → x.event.reply ≡ r → SpeaksOfOwner o x.event.ask → Within j (owner_speaks o.0 r) → FailsIn g j
  owner_spoken o j (replies.Number status) is l w =
      let p = tested (tells_failed status) j (o.0 ∷ []) w in
      subst (FailsIn g) (sym (one_of_one j o.0 p.1)) (owner_fails s n t lawful g h x split o status l is p.0)
  owner_spoken o j r is l w = absurd w

  departure_spoken : (team round j : ℕ) (r : Reply) → Within j (departure_speaks n g team round r) → FailsIn g j
  departure_spoken team round j (replies.Left status teams) w =
      let p = tested (tells_failed status) j (filter (gone_by (round_closed n team round) g) (members n team g)) w in
      gone_fails (round_closed n team round) g j (filter_tells (gone_by (round_closed n team round) g) j (members n team g) p.1)
  departure_spoken team round j r w = absurd w

  pair_spoken : (j : ℕ) (r : Reply) → Within j (pair_speaks g i r) → FailsIn g j
  pair_spoken j (replies.Number status) w =
      let p = tested (tells_failed status) j (filter (gone_by (pair_closed g i) g) (named i g)) w in
      gone_fails (pair_closed g i) g j (filter_tells (gone_by (pair_closed g i) g) j (named i g) p.1)
  pair_spoken j r w = absurd w

  board_here : object_of (place_of x.event.ask) ≡ 1 → x.event.reply ≡ board_reply n (at_board g) i x.event.ask
  board_here key =
      let there = ap at_board split ∙ of_here 1 g h x key in
      (served_at (board_ready n) (board_reply n) [] (at_board g) x (at_board h) (subst (Served (board_ready n) (board_reply n) []) there lawful.board)).1

  enter_spoken : (k j : ℕ) (r : Reply) → x.event.reply ≡ r → x.event.ask ≡ asks.Enter k → Within j (enter_speaks g k r) → FailsIn g j
  enter_spoken k j (replies.Number status) is ask w =
      let p = tested (tells_failed status) j (last_inside k [] g) w in
      let due : replies.Number status ≡ replies.Number (enter_status (construct_after k (at_board g))) = sym is ∙ board_here (ap (λ a. object_of (place_of a)) ask) ∙ ap (board_reply n (at_board g) i) ask in
      let same : status ≡ enter_status (construct_after k (at_board g)) = cc in
      holder_fails (construct_after k (at_board g)) (last_inside k [] g) g j (construct_agrees k [] g free [] tt) (enter_left (construct_after k (at_board g)) (ap tells_failed (sym same) ∙ p.0)) p.1
  enter_spoken k j r is ask w = absurd w

  spoken : (a : Ask) (j : ℕ) → x.event.ask ≡ a → Within j (speaks_by n g i a x.event.reply) → FailsIn g j
  spoken (asks.Leave team round) j is w = departure_spoken team.0 round j x.event.reply w
  spoken asks.Unpair j is w = pair_spoken j x.event.reply w
  spoken (asks.Lock owner span) j is w = lock_spoken owner span j x.event.reply refl (subst (Locks owner span) (sym is) (refl, refl)) w
  spoken (asks.TryLock owner span) j is w = lock_spoken owner span j x.event.reply refl (subst (Locks owner span) (sym is) (refl, refl)) w
  spoken (asks.Unlock owner span) j is w = owner_spoken owner j x.event.reply refl (subst (SpeaksOfOwner owner) (sym is) refl) w
  spoken (asks.Post owner span) j is w = owner_spoken owner j x.event.reply refl (subst (SpeaksOfOwner owner) (sym is) refl) w
  spoken (asks.Enter construct) j is w = enter_spoken construct j x.event.reply refl is w
  spoken a j is w = absurd w

-- a lawful trace is quiet
pub lawful_quiet : (s : List Declared) (n : ℕ) (t : List Entry) → IsLawfulTrace s n t → IsQuiet n t
lawful_quiet s n t lawful = record {
  joins = lawful.joins;
  ends = ends_quietly s n t lawful;
  spoken = λ g h x i split w. spoken s n t lawful g h x split x.event.ask i refl w;
}

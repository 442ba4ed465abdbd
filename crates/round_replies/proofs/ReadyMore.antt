-- What can come stays so: an ask that is ready after a run is ready after one that is ahead of it, where its own image
-- has said the same.
use Rattle.std.proofs.Common.{◌≡◌, ℕ, Bool, true, false, IsTrue, nat_eq, nat_le, ◌&&◌, ◌||◌, not, cond, List, [], ◌∷◌, length, inl, inr, refl, ap, sym, ◌∙◌, subst}
use Rattle.std.specs.Prelude.{is_some}
use Rattle.std.specs.List.{list_all}
use Rattle.std.proofs.lemmas.Bool.{cases_Bool, and_parts, and_from, both_ways, eqb-true}
use Rattle.trace_theory.specs.Entries.{Each}
use Rattle.trace_theory.proofs.Filters.{each_filter}
use Rattle.caf_base.specs.declared.place.ImageNo.{ImageNo}
use Rattle.caf_base.specs.Spans.{offsets_of}
use Rattle.caf_events.specs.declared.ask.Ask.{Ask}
use Rattle.caf_events.specs.declared.ask.Ask.TheVariants as asks
use Rattle.caf_events.specs.declared.reply.Reply.{Reply}
use Rattle.caf_events.specs.declared.event.Entry.{Entry}
use Rattle.object_rules.specs.Constructs.{free, construct_turn, construct_from, construct_after}
use Rattle.object_rules.specs.Locks.{lock_turn, lock_from, lock_after, is_others}
use Rattle.object_rules.specs.Cells.{Declared, MadeMemory, size_after, is_offset, is_within, is_marked}
use Rattle.object_rules.specs.MemoryRules.{is_lock, is_event, is_cell_of, is_here, is_own, memory_ready}
use Rattle.object_rules.specs.MemoryRules as memories
use Rattle.object_rules.specs.Happenings.{Class, control, collective, happened}
use Rattle.object_rules.specs.ImagePairs.{names}
use Rattle.object_rules.specs.TeamRounds.{arrivals}
use Rattle.object_rules.specs.BoardTeams.{teams_after, members_at, closing}
use Rattle.object_rules.specs.Folds.{is_of_kind}
use Rattle.object_rules.specs.BoardRules.{is_image, is_gathered, is_root, is_open, has_joined, board_ready}
use Rattle.core_runs.specs.CoreRuns.{at_board, of_memory, said_by}
use Rattle.core_runs.specs.Lawful.{made_memory}
use Rattle.free_replies.proofs.OwnSizes.{sizes_own, size_same, ready_same, not_own}
use Rattle.every_order.specs.Decided.{is_free}
use Rattle.free_replies.proofs.Alike.{IsFree}
use Rattle.caf_base.specs.declared.span.Span.{Span}
use Rattle.round_words.proofs.BoardWords.{happened_board, own_arrivals, closed_is}
use Rattle.round_words.proofs.Ahead.{closed_ahead}
use Rattle.round_words.proofs.Closing.{some_closed, closed_some}
use Rattle.round_words.proofs.RoundStops.{joined_member}
use Rattle.formed_teams.proofs.TeamsAhead.{members_ahead}
use Rattle.round_words.specs.RoundRuns.{IsAhead, IsRoundRun, arrivals_said, team_members}

-- free steps enter no construct and get no lock
open_turn : (c i : ℕ) (a : Ask) (r : Reply) → is_free a r ≡ true → construct_turn c free i a ≡ free
open_turn c i (asks.Enter d) r h = absurd (cc)
open_turn c i (asks.Exit d) r h = absurd (cc)
open_turn c i asks.Gone r h = absurd (cc)
open_turn c i a r h = refl

open_from : (c : ℕ) (g : List Entry) → Each IsFree g → construct_from c free g ≡ free
open_from c [] h = refl
open_from c (e ∷ g) h = ap (λ z. construct_from c z g) (open_turn c e.image.0 e.event.ask e.event.reply h.0) ∙ open_from c g h.1

both_free : (b : Bool) → cond b free free ≡ free
both_free true = refl
both_free false = refl

lock_turned : (c o i : ℕ) (a : Ask) (r : Reply) → is_free a r ≡ true → lock_turn c o free i a r ≡ free
lock_turned c o i (asks.Lock owner span) r h = absurd (cc)
lock_turned c o i (asks.TryLock owner span) r h = absurd (cc)
lock_turned c o i (asks.Unlock owner span) r h = absurd (cc)
lock_turned c o i (asks.Free owner span) r h = absurd (cc)
lock_turned c o i (asks.Create owner k cells) r h = both_free (nat_eq k c)
lock_turned c o i (asks.Delete owner k) r h = both_free (nat_eq k c)
lock_turned c o i a r h = refl

unlocked : (c o : ℕ) (g : List Entry) → Each IsFree g → lock_from c o free g ≡ free
unlocked c o [] h = refl
unlocked c o (e ∷ g) h = ap (λ z. lock_from c o z g) (lock_turned c o e.image.0 e.event.ask e.event.reply h.0) ∙ unlocked c o g h.1

or_true : (b c : Bool) → c ≡ true → (b || c) ≡ true
or_true true c h = refl
or_true false c h = h

first_three : (a b c : Bool) → (a && b && c) ≡ true → a ≡ true
first_three a b c h = (and_parts a b (and_parts (a && b) c h).0).0

module _ (s : List Declared) (n : ℕ) (w u : List Entry) (run_w : IsRoundRun s n w) (run_u : IsRoundRun s n u) (ahead : IsAhead u w)
    (i : ℕ) (same : said_by i w ≡ said_by i u) where
  abbrev b : List Entry
  b = at_board w

  abbrev d : List Entry
  d = at_board u

  -- an ask of a member fits there too
  fits_more : (team : ℕ) (fits : List ℕ → Bool) → ((ms : List ℕ) → fits ms ≡ true → names i ms ≡ true) → (is_image n i && fits (members_at (teams_after n b) team) && true) ≡ true
      → (is_image n i && fits (members_at (teams_after n d) team) && true) ≡ true
  fits_more team fits tells h =
      let ms = members_at (teams_after n b) team in
      let both = (and_parts (is_image n i && fits ms) true h).0 in
      let named = tells ms (and_parts (is_image n i) (fits ms) both).1 in
      subst (λ z. (is_image n i && fits z && true) ≡ true) (members_ahead s n u w run_u run_w ahead i team named) h

  joined_more : (class : Class) (team k : ℕ) → has_joined class n b i team k ≡ true → has_joined class n d i team k ≡ true
  joined_more class team k h =
      let count : arrivals team i (happened class b) ≡ arrivals team i (happened class d) =
      ap (arrivals team i) (happened_board class w) ∙ own_arrivals class i team w ∙ ap (arrivals_said class team i) same ∙ sym (ap (arrivals team i) (happened_board class u) ∙ own_arrivals class i team u) in
      let members = members_ahead s n u w run_u run_w ahead i team (joined_member class n b i team k h) in
      subst (λ c. (names i (members_at (teams_after n d) team) && nat_le 1 k && nat_le k c) ≡ true) count
      (subst (λ ms. (names i ms && nat_le 1 k && nat_le k (arrivals team i (happened class b))) ≡ true) members h)

  closes_more : (class : Class) (team k : ℕ) → has_joined class n b i team k ≡ true → is_some (closing class team k (members_at (teams_after n b) team) b) ≡ true
      → is_some (closing class team k (members_at (teams_after n d) team) d) ≡ true
  closes_more class team k joined h =
      let ms = team_members n w team in
      let members = members_ahead s n u w run_u run_w ahead i team (joined_member class n b i team k joined) in
      let here = some_closed class team k ms w h in
      let more = closed_ahead class u w ahead team k ms (sym (closed_is class team k ms w run_w.free) ∙ here) in
      subst (λ z. is_some (closing class team k z d) ≡ true) members (closed_some class team k ms u (closed_is class team k ms u run_u.free ∙ more))

  -- At the board, where the end of SYNC IMAGES can come too.
  pub board_more : (IsTrue (board_ready n b i asks.Unpair) → IsTrue (board_ready n d i asks.Unpair)) → (a : Ask) → IsTrue (board_ready n b i a) → IsTrue (board_ready n d i a)
  board_more unpair (asks.Arrive team arriving) h = fits_more team.0 (λ ms. names i ms) (λ ms f. f) h
  board_more unpair (asks.Gather team op root kind values) h =
      fits_more team.0 (λ ms. names i ms && is_gathered op kind && is_root op (length ms) root && list_all (is_of_kind kind) values)
      (λ ms f. first_three (names i ms) (is_gathered op kind) (is_root op (length ms) root) (and_parts (names i ms && is_gathered op kind && is_root op (length ms) root) (list_all (is_of_kind kind) values) f).0) h
  board_more unpair (asks.Failed team) h = fits_more team.0 (λ ms. names i ms) (λ ms f. f) h
  board_more unpair (asks.Stopped team) h = fits_more team.0 (λ ms. names i ms) (λ ms f. f) h
  board_more unpair (asks.Status team index) h =
      fits_more team.0 (λ ms. names i ms && nat_le 1 index && nat_le index (length ms)) (λ ms f. first_three (names i ms) (nat_le 1 index) (nat_le index (length ms)) f) h
  board_more unpair (asks.Leave team k) h =
      let p = and_parts (is_image n i && has_joined control n b i team.0 k) (is_some (closing control team.0 k (members_at (teams_after n b) team.0) b)) h in
      let q = and_parts (is_image n i) (has_joined control n b i team.0 k) p.0 in
      and_from (is_image n i && has_joined control n d i team.0 k) (is_some (closing control team.0 k (members_at (teams_after n d) team.0) d))
      (and_from (is_image n i) (has_joined control n d i team.0 k) q.0 (joined_more control team.0 k q.1)) (closes_more control team.0 k q.1 p.1)
  board_more unpair (asks.Take team k) h =
      let p = and_parts (is_image n i && has_joined collective n b i team.0 k) (is_some (closing collective team.0 k (members_at (teams_after n b) team.0) b)) h in
      let q = and_parts (is_image n i) (has_joined collective n b i team.0 k) p.0 in
      and_from (is_image n i && has_joined collective n d i team.0 k) (is_some (closing collective team.0 k (members_at (teams_after n d) team.0) d))
      (and_from (is_image n i) (has_joined collective n d i team.0 k) q.0 (joined_more collective team.0 k q.1)) (closes_more collective team.0 k q.1 p.1)
  board_more unpair asks.Unpair h = unpair h
  board_more unpair (asks.Enter construct) h =
      let p = and_parts (is_image n i && true) (is_open (construct_after construct b)) h in
      and_from (is_image n i && true) (is_open (construct_after construct d)) p.0 (ap is_open (open_from construct d (each_filter IsFree _ u run_u.free)))
  board_more unpair a h = h

  module _ (owner : ImageNo) where
    abbrev m : MadeMemory
    m = made_memory s owner.0

    abbrev p : List Entry
    p = of_memory owner.0 w

    abbrev q : List Entry
    q = of_memory owner.0 u

    sizes : (c : ℕ) → i ≡ owner.0 → size_after m p c ≡ size_after m q c
    sizes c is = size_same m owner.0 c w u (sizes_own s n w run_w.lawful) (sizes_own s n u run_u.lawful) (subst (λ j. said_by j w ≡ said_by j u) is same)

    -- At a memory, where EVENT WAIT can come too.
    pub memory_more : ((o : ImageNo) (span : Span) (threshold : ℕ) → IsTrue (memory_ready m p i (asks.Wait o span threshold)) → IsTrue (memory_ready m q i (asks.Wait o span threshold))) → (a : Ask) → IsTrue (memory_ready m p i a) → IsTrue (memory_ready m q i a)
    memory_more wait (asks.Create o c cells) h = sym (ready_same m p q i (asks.Create o c cells) refl sizes) ∙ h
    memory_more wait (asks.Delete o c) h = sym (ready_same m p q i (asks.Delete o c) refl sizes) ∙ h
    memory_more wait (asks.Lock o span) h =
        let parts = and_parts (is_here m o && is_cell_of m is_lock span) (memories.can_come p (is_within m p span) i (asks.Lock o span)) h in
        and_from (is_here m o && is_cell_of m is_lock span) (memories.can_come q (is_within m q span) i (asks.Lock o span)) parts.0
        (or_true (is_marked q || not (is_within m q span)) (not (is_others (lock_after span.coarray span.start q) i))
        (ap (λ z. not (is_others z i)) (unlocked span.coarray span.start q (each_filter IsFree _ u run_u.free))))
    memory_more wait (asks.Wait o span threshold) h = wait o span threshold h
    memory_more wait (asks.Query o span) h = elim (cases_Bool (nat_eq i owner.0)) [
      | inl t ↦ subst (λ z. (is_own m i o && is_cell_of m is_event span && list_all (is_offset z) (offsets_of span) && true) ≡ true) (sizes span.coarray (eqb-true i owner.0 t)) h
      | inr f ↦ absurd (
          let parts = (and_parts (is_own m i o && is_cell_of m is_event span && is_within m p span) true h).0 in
          let two = (and_parts (is_own m i o && is_cell_of m is_event span) (is_within m p span) parts).0 in
          both_ways (is_own m i o) (not_own m i o f) (and_parts (is_own m i o) (is_cell_of m is_event span) two).0)
    ]
    memory_more wait a h = h

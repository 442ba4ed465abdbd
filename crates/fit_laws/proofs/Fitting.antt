-- The next ask of an image fits, where what it names was told, or is its own.
use Rattle.std.proofs.Common.{◌≡◌, ℕ, ◌+◌, ◌≤◌, ◌<◌, Bool, true, false, ◌&&◌, not, List, [], ◌∷◌, ◌++◌, length, slice_get, is_some, inl, inr, refl, sym, ap, ◌∙◌, subst, nat_eq, nat_le, nat_lt, arith}
use Rattle.std.specs.Prelude.{Option, Some, None}
use Rattle.std.specs.List.{list_all, range_with_len}
use Rattle.std.proofs.lemmas.Bool.{and_from, eq-eqb, le-leb}
use Rattle.caf_base.specs.declared.place.ImageNo.{ImageNo}
use Rattle.caf_base.specs.declared.place.TeamNo.{TeamNo}
use Rattle.caf_base.specs.declared.span.Span.{Span}
use Rattle.caf_events.specs.declared.ask.Ask.{Ask}
use Rattle.caf_events.specs.declared.ask.Ask.TheVariants as asking
use Rattle.caf_events.specs.declared.event.Entry.{Entry}
use Rattle.checked_tree.specs.Statements as s
use Rattle.image_acts.specs.Frames.{joined}
use Rattle.image_acts.specs.Teams.{are_indices_of}
use Rattle.image_acts.specs.Operate.Asking.{named}
use Rattle.object_rules.specs.Cells.{Declared, size_after}
use Rattle.object_rules.specs.Happenings.{numbers_of}
use Rattle.object_rules.specs.ImagePairs.{names}
use Rattle.object_rules.specs.BoardTeams.{teams_after, members_at}
use Rattle.object_rules.specs.BoardRules.{is_image, all_differ, fits_board}
use Rattle.object_rules.specs.MemoryRules.{has_first_values, is_allocatable, is_lock, holds, all_cells, cells_used, fits_memory}
use Rattle.core_runs.specs.Beginnings.{IsOneOf}
use Rattle.core_runs.specs.CoreRuns.{IsCoreRun, said_by, at_board, of_memory}
use Rattle.core_runs.specs.Failures.{LockPlace, release_of}
use Rattle.core_runs.specs.Lawful.{made_memory}
use Rattle.wait_reason.specs.WaitsFor.{is_fit_after}
use Rattle.answer_laws.proofs.HeardTeams.{heard_teams}
use Rattle.program_walks.specs.Runs.{program_rules, program_begins}
use Rattle.told_walks.specs.Asked.{Told, Lists, most_team, cells_in}
use Rattle.told_programs.specs.First.{told_first}
use Rattle.walk_laws.specs.Fits.{told_by, StandsAt, AreDeclaredBy}
use Rattle.fit_laws.specs.Asks.{is_told, is_allocation, AllocatesAllocatable}
use Rattle.walk_laws.proofs.Members.{lists_told_of}
use Rattle.fit_laws.proofs.Departures.{leave_fits, take_fits, unpair_fits}
use Rattle.fit_laws.proofs.Pairing.{team_paired, none_paired}
use Rattle.walk_laws.proofs.OwnSizes.{told_me, told_many, sizes_many, own_size_there, used_all}
use Rattle.told_parts.specs.Allocating.{IsOfSet}
use Rattle.trace_theory.specs.Machines.{Said}
use Rattle.caf_events.specs.declared.reply.Reply.{Reply}
use Rattle.fit_laws.proofs.Allocated.{image_acts, each_last}
use Rattle.fit_laws.proofs.HeldLocks.{IsLockPlace, StepOf, next_step}
use Rattle.walk_laws.proofs.Runs.{image_there, there_is, board_fits, stands_named, stands_behind, run_lawful, joined_there}

some_size : (x : Option ℕ) (n : ℕ) → x ≡ Some n → is_some x ≡ true
some_size x n e = rw e refl

no_size : (x : Option ℕ) → x ≡ None → not (is_some x) ≡ true
no_size x e = rw e refl

low_place : (os : List Declared) (c : ℕ) → is_allocatable (slice_get os c) ≡ true → c < length os
low_place [] c h = absurd (cc)
low_place (d ∷ os) ℕ.zero h = omega arith
low_place (d ∷ os) (ℕ.suc c) h = let r = low_place os c h in omega arith

module _ (p : s.Program) (limit : ℕ) (coarrays : List Declared) (n : ℕ) (fails_at : ℕ → ℕ) (words : ℕ) (t : List Entry) (declared : list_all has_first_values coarrays ≡ true)
    (core : IsCoreRun (program_rules p limit) (program_begins p coarrays n fails_at words) t) (few : length (teams_after n (at_board t)) ≤ most_team) where
  abbrev Stands : ℕ → Ask → Type 0
  Stands i a = StandsAt p limit coarrays n fails_at words t i a

  abbrev Fits : ℕ → Ask → Type 0
  Fits i a = is_fit_after coarrays n t i a ≡ true

  abbrev told : ℕ → Told
  told i = told_by (told_first p i n) (said_by i t)

  at_team : (i team : ℕ) → IsOneOf n i → (told i).own team ≡ true → (is_image n i && names i (members_at (teams_after n (at_board t)) team)) ≡ true
  at_team i team there h = there_is p limit coarrays n fails_at words t declared core few i team there h

  named_so : (i : ℕ) (team : ℕ) (ms : List ℕ) → Lists (told i).teams team ms → members_at (teams_after n (at_board t)) team ≡ ms
  named_so i team ms l = lists_told_of p n i (at_board t) (said_by i t) (heard_teams coarrays n t (run_lawful p limit coarrays n fails_at words t declared core few) i) team ms l

  -- IMAGE_STATUS: an index of the team
  status_fits : (i : ℕ) (team : TeamNo) (index : ℕ) → Stands i (asking.Status team index) → Fits i (asking.Status team index)
  status_fits i team index h =
      let k = stands_named p limit coarrays n fails_at words t declared core few i (asking.Status team index) h in
      let ms = members_at (teams_after n (at_board t)) team.0 in
      let own = at_team i team.0 h.image k.0 in
      let many : length k.1 ≡ length ms = ap length (sym (named_so i team.0 k.1 k.2)) in
      let hi = k.4 in
      by (is_image n i) (names i ms) (nat_le 1 index) (nat_le index (length ms)) own (le-leb 1 index k.3) (le-leb index (length ms) (omega arith))
    where
      by : (a b c d : Bool) → (a && b) ≡ true → c ≡ true → d ≡ true → (a && (b && c && d)) ≡ true
      by true true c d e f g = and_from c d f g
      by true false c d e f g = absurd (cc)
      by false b c d e f g = absurd (cc)

  -- SYNC IMAGES: members of one team, none twice
  pair_fits : (i : ℕ) (images : List ImageNo) → Stands i (asking.Pair images) → Fits i (asking.Pair images)
  pair_fits i images h =
      let k = stands_named p limit coarrays n fails_at words t declared core few i (asking.Pair images) h in
      let goal : (list_all (is_image n) (numbers_of (named k.0 k.1)) && all_differ (numbers_of (named k.0 k.1))) ≡ true = elim k.4 [
        | inl none ↦ subst (λ us. (list_all (is_image n) (numbers_of (named us k.1)) && all_differ (numbers_of (named us k.1))) ≡ true) (sym none)
            (none_paired n k.1 (subst (λ us. are_indices_of (length us) k.1 ≡ true) none k.3))
        | inr l ↦ team_paired n (at_board t) l.0 k.0 k.1 (named_so i l.0 k.0 l.1) k.3
      ] in
      and_from (is_image n i) (fits_board n (at_board t) i (asking.Pair images)) (image_there n i h.image)
      (subst (λ js. (list_all (is_image n) (numbers_of js) && all_differ (numbers_of js)) ≡ true) (sym k.2) goal)

  -- a step of a failure
  mark_fits : (i : ℕ) (owner : ImageNo) → Stands i (asking.Mark owner) → Fits i (asking.Mark owner)
  mark_fits i owner h =
      let b = stands_behind p limit coarrays n fails_at words t declared core few i (asking.Mark owner) h in
      let e = subst (StepOf (IsLockPlace coarrays n) i) b.is (next_step coarrays n t (run_lawful p limit coarrays n fails_at words t declared core few) i b.event b.fails) in
      and_from (is_image n owner.0) (nat_eq owner.0 owner.0 && nat_eq i owner.0) (subst (λ j. is_image n j ≡ true) (sym e) (image_there n i h.image))
      (and_from (nat_eq owner.0 owner.0) (nat_eq i owner.0) (eq-eqb owner.0 owner.0 refl) (eq-eqb i owner.0 (sym e)))

  free_fits : (i : ℕ) (owner : ImageNo) (span : Span) → Stands i (asking.Free owner span) → Fits i (asking.Free owner span)
  free_fits i owner span h =
      let b = stands_behind p limit coarrays n fails_at words t declared core few i (asking.Free owner span) h in
      let e = subst (StepOf (IsLockPlace coarrays n) i) b.is (next_step coarrays n t (run_lawful p limit coarrays n fails_at words t declared core few) i b.event b.fails) in
      subst (Fits i) (sym e.2) (released e.0 e.1.0 e.1.1)
    where
      released : (q : LockPlace) → IsOneOf n q.owner → (nat_lt q.offset 65536 && holds is_lock (slice_get coarrays q.coarray)) ≡ true → Fits i (release_of q)
      released q there c = and_from (is_image n q.owner) (nat_eq q.owner q.owner && (nat_lt q.offset 65536 && holds is_lock (slice_get coarrays q.coarray))) (image_there n q.owner there)
          (and_from (nat_eq q.owner q.owner) (nat_lt q.offset 65536 && holds is_lock (slice_get coarrays q.coarray)) (eq-eqb q.owner q.owner refl) c)

  -- all of these
  pub told_fits : (i : ℕ) (a : Ask) → Stands i a → is_told a ≡ true → Fits i a
  told_fits i (asking.Arrive team how) h e = at_team i team.0 h.image (stands_named p limit coarrays n fails_at words t declared core few i (asking.Arrive team how) h)
  told_fits i (asking.Failed team) h e = at_team i team.0 h.image (stands_named p limit coarrays n fails_at words t declared core few i (asking.Failed team) h)
  told_fits i (asking.Stopped team) h e = at_team i team.0 h.image (stands_named p limit coarrays n fails_at words t declared core few i (asking.Stopped team) h)
  told_fits i (asking.Leave team round) h e = board_fits p limit coarrays n fails_at words t declared core few i h.image (asking.Leave team round)
      (leave_fits n (at_board t) i (said_by i t) team round (joined_there p limit coarrays n fails_at words t declared core few i (asking.Leave team round) tt h))
  told_fits i (asking.Take team round) h e = board_fits p limit coarrays n fails_at words t declared core few i h.image (asking.Take team round)
      (take_fits n (at_board t) i (said_by i t) team round (joined_there p limit coarrays n fails_at words t declared core few i (asking.Take team round) tt h))
  told_fits i asking.Unpair h e = board_fits p limit coarrays n fails_at words t declared core few i h.image asking.Unpair
      (unpair_fits n (at_board t) i (said_by i t) (joined_there p limit coarrays n fails_at words t declared core few i asking.Unpair tt h))
  told_fits i (asking.Status team index) h e = status_fits i team index h
  told_fits i (asking.Pair images) h e = pair_fits i images h
  told_fits i (asking.Enter construct) h e = board_fits p limit coarrays n fails_at words t declared core few i h.image (asking.Enter construct) refl
  told_fits i (asking.Exit construct) h e = board_fits p limit coarrays n fails_at words t declared core few i h.image (asking.Exit construct) refl
  told_fits i asking.Gone h e = board_fits p limit coarrays n fails_at words t declared core few i h.image asking.Gone refl
  told_fits i (asking.Stop code) h e = board_fits p limit coarrays n fails_at words t declared core few i h.image (asking.Stop code) refl
  told_fits i (asking.Mark owner) h e = mark_fits i owner h
  told_fits i (asking.Free owner span) h e = free_fits i owner span h
  told_fits i (asking.Print text) h e = refl
  told_fits i asking.Memory h e = refl
  told_fits i asking.Fail h e = refl
  told_fits i (asking.ErrorStop code) h e = refl
  told_fits i (asking.Fault kind) h e = refl
  told_fits i (asking.LimitStatements number) h e = refl
  told_fits i (asking.LimitWords number) h e = refl
  told_fits i (asking.LimitStamp number) h e = refl
  told_fits i a h e = absurd (cc)

  -- ---- allocation and deallocation
  module _ (own : AreDeclaredBy p coarrays) where
    as_many : (i : ℕ) → length (told i).sizes ≡ length coarrays
    as_many i = told_many (said_by i t) (told_first p i n) ∙ sizes_many coarrays n p own

    size_so : (i c : ℕ) → c < length coarrays → joined (slice_get (told i).sizes c) ≡ size_after (made_memory coarrays i) (of_memory i t) c
    size_so i c lt = own_size_there coarrays n p own t (run_lawful p limit coarrays n fails_at words t declared core few) i c lt

    cells_so : (i : ℕ) → all_cells (made_memory coarrays i) (of_memory i t) ≡ cells_in (told i).sizes
    cells_so i =
        ap (λ z. cells_used (made_memory coarrays i) (of_memory i t) (range_with_len 0 z)) (sym (as_many i))
        ∙ used_all (made_memory coarrays i) (of_memory i t) (told i).sizes 0
        (λ j lt. size_so i j (subst (λ z. j < z) (as_many i) lt) ∙ ap (size_after (made_memory coarrays i) (of_memory i t)) (let z : j ≡ 0 + j = omega arith in z))

    create_fits : (i : ℕ) (owner : ImageNo) (c cells : ℕ) → Stands i (asking.Create owner c cells) → is_allocatable (slice_get coarrays c) ≡ true → Fits i (asking.Create owner c cells)
    create_fits i owner c cells h a =
        let k = stands_named p limit coarrays n fails_at words t declared core few i (asking.Create owner c cells) h in
        let lt = low_place coarrays c a in
        let none = no_size (size_after (made_memory coarrays i) (of_memory i t) c) (sym (size_so i c lt) ∙ k.1) in
        let wide = k.2 in
        let same = cells_so i in
        let room = le-leb (all_cells (made_memory coarrays i) (of_memory i t) + cells) 65536 (omega arith) in
        subst (λ o. (is_image n o && fits_memory (made_memory coarrays o) (of_memory o t) i (asking.Create (record { 0 = o }) c cells)) ≡ true) (sym (k.0 ∙ told_me (said_by i t) (told_first p i n)))
        (by (is_image n i) (nat_eq i i) (is_allocatable (slice_get coarrays c)) (not (is_some (size_after (made_memory coarrays i) (of_memory i t) c)))
        (nat_le (all_cells (made_memory coarrays i) (of_memory i t) + cells) 65536) (image_there n i h.image) (eq-eqb i i refl) a none room)
      where
        by : (u v w x y : Bool) → u ≡ true → v ≡ true → w ≡ true → x ≡ true → y ≡ true → (u && ((v && v) && w && x && y)) ≡ true
        by u v w x y d e f g q = rw (d, e, f, g, q) refl

    delete_fits : (i : ℕ) (owner : ImageNo) (c : ℕ) → Stands i (asking.Delete owner c) → is_allocatable (slice_get coarrays c) ≡ true → Fits i (asking.Delete owner c)
    delete_fits i owner c h a =
        let k = stands_named p limit coarrays n fails_at words t declared core few i (asking.Delete owner c) h in
        let lt = low_place coarrays c a in
        let some = some_size (size_after (made_memory coarrays i) (of_memory i t) c) k.1 (sym (size_so i c lt) ∙ k.2) in
        subst (λ o. (is_image n o && fits_memory (made_memory coarrays o) (of_memory o t) i (asking.Delete (record { 0 = o }) c)) ≡ true) (sym (k.0 ∙ told_me (said_by i t) (told_first p i n)))
        (by (is_image n i) (nat_eq i i) (is_allocatable (slice_get coarrays c)) (is_some (size_after (made_memory coarrays i) (of_memory i t) c)) (image_there n i h.image) (eq-eqb i i refl) a some)
      where
        by : (u v w x : Bool) → u ≡ true → v ≡ true → w ≡ true → x ≡ true → (u && ((v && v) && w && x)) ≡ true
        by u v w x d e f g = rw (d, e, f, g) refl

    -- the coarray is one that the program allocates
    of_set : (i : ℕ) (a : Ask) → AllocatesAllocatable coarrays p → Stands i a → IsOfSet (λ c. is_allocatable (slice_get coarrays c)) a
    of_set i a only h =
        let f : ℕ → Bool = (λ c. is_allocatable (slice_get coarrays c)) in
        let b = stands_behind p limit coarrays n fails_at words t declared core few i a h in
        subst (IsOfSet f) b.is
        (each_last (λ (e : Said Ask Reply). IsOfSet f e.ask) (said_by i t) b.event (image_acts f p only limit i n (fails_at i) words (said_by i t ++ b.event ∷ []) b.to b.walks))

    pub allocation_fits : AllocatesAllocatable coarrays p → (i : ℕ) (a : Ask) → Stands i a → is_allocation a ≡ true → Fits i a
    allocation_fits only i (asking.Create owner c cells) h e = create_fits i owner c cells h (of_set i (asking.Create owner c cells) only h)
    allocation_fits only i (asking.Delete owner c) h e = delete_fits i owner c h (of_set i (asking.Delete owner c) only h)
    allocation_fits only i a h e = absurd (cc)

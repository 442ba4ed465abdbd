-- What is counted over the whole trace is what an image waits for.
use Rattle.std.proofs.Common.{◌≡◌, ℕ, suc, pos, Bool, true, false, nat_eq, nat_le, ◌&&◌, not, cond, List, [], ◌∷◌, inl, inr, refl, ap, sym, ◌∙◌}
use Rattle.std.specs.Prelude.{Option, Some, None}
use Rattle.std.proofs.lemmas.Bool.{cases_Bool, cases_eq, and_parts, eq-eqb, ne_eqb}
use Rattle.caf_events.specs.declared.ask.Ask.{Ask}
use Rattle.caf_events.specs.declared.ask.Ask.TheVariants as asks
use Rattle.caf_events.specs.declared.reply.Reply.{Reply}
use Rattle.caf_events.specs.declared.event.Entry.{Entry}
use Rattle.caf_events.specs.Asks.{place_of, object_of}
use Rattle.object_rules.specs.Cells.{Declared}
use Rattle.object_rules.specs.Happenings.{Class, control, collective, images, happened, has_ended}
use Rattle.object_rules.specs.TeamRounds.{arrivals}
use Rattle.object_rules.specs.ImagePairs.{names, last_named, has_partner}
use Rattle.object_rules.specs.Constructs.{Hold, free, held, left_by, released, abandoned, construct_turn, construct_from, construct_after}
use Rattle.object_rules.specs.Locks.{is_at, has_status, acquires, is_done, lock_turn, lock_from, lock_after}
use Rattle.object_rules.specs.BoardTeams.{teams_after, members_at}
use Rattle.object_rules.specs.BoardRules.{is_image, has_joined, fits_board}
use Rattle.core_runs.specs.Lists.{key_of}
use Rattle.core_runs.specs.CoreRuns.{at_board, of_memory}
use Rattle.core_runs.specs.Lawful.{IsLawfulTrace}
use Rattle.wait_reason.specs.WaitsFor.{is_held_by, lacks_arrival, lacks_pair, waits_with, is_fit_after}
use Rattle.wait_chain.specs.declared.holders.LockCell.{LockCell}
use Rattle.wait_chain.specs.Told.{members}
use Rattle.wait_chain.specs.Holders.{holder_of, without, lock_by, lock_holder, inside_by, inside}
use Rattle.wait_chain.specs.Awaited.{awaited_by, is_it, awaits}
use Rattle.wait_chain.proofs.Ended.{happened_all, ended_same}
use Rattle.wait_chain.proofs.Tellings.{members_told}

-- the image that has it
holder_is : (s : Hold) (j : ℕ) → is_it (holder_of s) j ≡ is_held_by j s
holder_is free j = refl
holder_is (held k) j = refl
holder_is (left_by k) j = refl

without_abandoned : (i : ℕ) (s : Hold) → without i (holder_of s) ≡ holder_of (abandoned s i)
without_abandoned i free = refl
without_abandoned i (held k) = elim (cases_Bool (nat_eq k i)) [ inl t ↦ rw t refl | inr f ↦ rw f refl ]
without_abandoned i (left_by k) = refl

without_released : (i : ℕ) (s : Hold) → without i (holder_of s) ≡ holder_of (released s i)
without_released i free = refl
without_released i (held k) = elim (cases_Bool (nat_eq k i)) [ inl t ↦ rw t refl | inr f ↦ rw f refl ]
without_released i (left_by k) = refl

same_either : {A : Type 0} (b : Bool) (x : A) → cond b x x ≡ x
same_either true x = refl
same_either false x = refl

suc_same : (a b : ℕ) → nat_eq (suc a) (suc b) ≡ nat_eq a b
suc_same a b = elim (cases_eq a b) [
  | inl e ↦ eq-eqb (suc a) (suc b) (ap suc e) ∙ sym (eq-eqb a b e)
  | inr ne ↦ ne_eqb (suc a) (suc b) (λ e. ne (cc)) ∙ sym (ne_eqb a b ne)
]

-- a step at a memory, seen from another one or there
either_turn : (k l x : Bool) (u s : Hold) (o : Option ℕ) → l ≡ k → o ≡ holder_of u → cond (k && x) o (holder_of s) ≡ holder_of (cond l (cond x u s) s)
either_turn true l true u s o e h = rw e h
either_turn true l false u s o e h = rw e refl
either_turn false l x u s o e h = rw e refl

module _ (cell : LockCell) where
  lock_same : (s : Hold) (i : ℕ) (a : Ask) (r : Reply) → lock_by cell (holder_of s) i a r ≡ holder_of (cond (nat_eq (object_of (place_of a)) (suc cell.owner)) (lock_turn cell.coarray cell.offset s i a r) s)
  lock_same s i (asks.Lock owner span) r = either_turn (nat_eq owner.0 cell.owner) _ (is_at cell.coarray cell.offset span && acquires r) (held i) s (Some i) (suc_same owner.0 cell.owner) refl
  lock_same s i (asks.TryLock owner span) r = either_turn (nat_eq owner.0 cell.owner) _ (is_at cell.coarray cell.offset span && acquires r) (held i) s (Some i) (suc_same owner.0 cell.owner) refl
  lock_same s i (asks.Unlock owner span) r = either_turn (nat_eq owner.0 cell.owner) _ (is_at cell.coarray cell.offset span && has_status (pos 0) r) free s None (suc_same owner.0 cell.owner) refl
  lock_same s i (asks.Free owner span) r = either_turn (nat_eq owner.0 cell.owner) _ (is_at cell.coarray cell.offset span && is_done r) (abandoned s i) s (without i (holder_of s)) (suc_same owner.0 cell.owner) (without_abandoned i s)
  lock_same s i (asks.Create owner coarray cells) r = either_turn (nat_eq owner.0 cell.owner) _ (nat_eq coarray cell.coarray) free s None (suc_same owner.0 cell.owner) refl
  lock_same s i (asks.Delete owner coarray) r = either_turn (nat_eq owner.0 cell.owner) _ (nat_eq coarray cell.coarray) free s None (suc_same owner.0 cell.owner) refl
  lock_same s i a r = ap holder_of (sym (same_either (nat_eq (object_of (place_of a)) (suc cell.owner)) s))

  -- the holder of a lock by the whole trace is that by the entries at its memory
  lock_holder_is : (s : Hold) (es : List Entry) → lock_holder cell (holder_of s) es ≡ holder_of (lock_from cell.coarray cell.offset s (of_memory cell.owner es))
  lock_holder_is s [] = refl
  lock_holder_is s (e ∷ es) =
      ap (λ h. lock_holder cell h es) (lock_same s e.image.0 e.event.ask e.event.reply)
      ∙ elim (cases_Bool (nat_eq (key_of e) (suc cell.owner))) [
        | inl y ↦ rw y (lock_holder_is (lock_turn cell.coarray cell.offset s e.image.0 e.event.ask e.event.reply) es)
        | inr f ↦ rw f (lock_holder_is s es)
      ]

either_inside : (x : Bool) (u s : Hold) (o : Option ℕ) → o ≡ holder_of u → cond x o (holder_of s) ≡ holder_of (cond x u s)
either_inside true u s o h = h
either_inside false u s o h = refl

inside_same : (c : ℕ) (s : Hold) (i : ℕ) (a : Ask) → inside_by c (holder_of s) i a ≡ holder_of (construct_turn c s i a)
inside_same c s i (asks.Enter d) = either_inside (nat_eq d c) (held i) s (Some i) refl
inside_same c s i (asks.Exit d) = either_inside (nat_eq d c) (released s i) s (without i (holder_of s)) (without_released i s)
inside_same c s i asks.Gone = without_abandoned i s
inside_same c s i a = refl

-- a step elsewhere than at the board changes nothing of a construct
elsewhere_same : (c : ℕ) (s : Hold) (i : ℕ) (a : Ask) → nat_eq (object_of (place_of a)) 1 ≡ false → construct_turn c s i a ≡ s
elsewhere_same c s i (asks.Enter d) h = absurd (cc)
elsewhere_same c s i (asks.Exit d) h = absurd (cc)
elsewhere_same c s i asks.Gone h = absurd (cc)
elsewhere_same c s i a h = refl

inside_is : (c : ℕ) (s : Hold) (es : List Entry) → inside c (holder_of s) es ≡ holder_of (construct_from c s (at_board es))
inside_is c s [] = refl
inside_is c s (e ∷ es) =
    ap (λ h. inside c h es) (inside_same c s e.image.0 e.event.ask)
    ∙ elim (cases_Bool (nat_eq (key_of e) 1)) [
      | inl y ↦ rw y (inside_is c (construct_turn c s e.image.0 e.event.ask) es)
      | inr f ↦ rw f (ap (λ z. inside c (holder_of z) es) (elsewhere_same c s e.image.0 e.event.ask f) ∙ inside_is c s es)
    ]

module _ (coarrays : List Declared) (n : ℕ) (t : List Entry) (lawful : IsLawfulTrace coarrays n t) (i : ℕ) where
  -- a round
  round_same : (class : Class) (team round j : ℕ) → has_joined class n (at_board t) i team round ≡ true
      → (names j (members n team t) && not (nat_le round (arrivals team j (happened class t))) && not (has_ended j (happened control t))) ≡ lacks_arrival class n (at_board t) team round j
  round_same class team round j joined =
      ap (λ ms. names j ms && not (nat_le round (arrivals team j (happened class t))) && not (has_ended j (happened control t))) (members_told coarrays n t lawful class team round i joined)
      ∙ ap (λ z. names j (members_at (teams_after n (at_board t)) team) && not (nat_le round (arrivals team j (happened class t))) && not z) (sym (ended_same j class t))
      ∙ ap (λ hs. names j (members_at (teams_after n (at_board t)) team) && not (nat_le round (arrivals team j hs)) && not (has_ended j hs)) (sym (happened_all class t))

  pair_same : (j : ℕ) → (names j (last_named i (happened images t)) && not (has_partner i (happened images t) j) && not (has_ended j (happened control t))) ≡ lacks_pair (happened images (at_board t)) i j
  pair_same j =
      ap (λ z. names j (last_named i (happened images t)) && not (has_partner i (happened images t) j) && not z) (sym (ended_same j images t))
      ∙ ap (λ hs. lacks_pair hs i j) (sym (happened_all images t))

  joined_of : (a : Ask) → (is_image n i && fits_board n (at_board t) i a) ≡ true → fits_board n (at_board t) i a ≡ true
  joined_of a h = (and_parts (is_image n i) (fits_board n (at_board t) i a) h).1

  pub awaits_same : (a : Ask) → is_fit_after coarrays n t i a ≡ true → (j : ℕ) → awaits n t i (awaited_by a) j ≡ waits_with n t i a j
  awaits_same (asks.Leave team round) fits j = round_same control team.0 round j (joined_of (asks.Leave team round) fits)
  awaits_same (asks.Take team round) fits j = round_same collective team.0 round j (joined_of (asks.Take team round) fits)
  awaits_same asks.Unpair fits j = pair_same j
  awaits_same (asks.Lock owner span) fits j =
      let cell : LockCell = record { owner = owner.0; coarray = span.coarray; offset = span.start } in
      ap (λ o. is_it o j) (lock_holder_is cell free t) ∙ holder_is (lock_after span.coarray span.start (of_memory owner.0 t)) j
  awaits_same (asks.Enter c) fits j = ap (λ o. is_it o j) (inside_is c free t) ∙ holder_is (construct_after c (at_board t)) j
  awaits_same a fits j = refl

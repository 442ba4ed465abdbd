-- Rounds of FORM TEAM that closed with a bad argument, with one more entry.
use Rattle.std.proofs.Common.{◌≡◌, ℕ, suc, Bool, true, false, ◌&&◌, ◌||◌, not, nat_eq, nat_le, List, [], ◌∷◌, ◌++◌, inl, inr, refl, ap, sym, ◌∙◌, subst, arith, append_assoc}
use Rattle.std.specs.Prelude.{Option, Some, None}
use Rattle.std.specs.List.{list_any, list_all}
use Rattle.std.proofs.lemmas.List.{append-nil}
use Rattle.std.proofs.lemmas.List.Elements.{filter_map-append}
use Rattle.std.proofs.lemmas.Bool.{cases_Bool, cases_eq, eq-eqb, ne_eqb, and_parts, or_cases, leb-true, le-leb}
use Rattle.caf_base.specs.declared.place.TeamNo.{TeamNo}
use Rattle.caf_events.specs.declared.round.RoundKind.{RoundKind}
use Rattle.caf_events.specs.declared.event.Entry.{Entry}
use Rattle.object_rules.specs.Scans.{or_else, front_where}
use Rattle.object_rules.specs.Happenings.{Happening, arrives, control, happens, happened, is_stop, is_failure, has_stopped, has_failed, has_ended}
use Rattle.object_rules.specs.TeamRounds.{arrivals, has_arrived, has_closed, Missed, opening_of, result_of}
use Rattle.object_rules.specs.BoardTeams.{closing, closes_now, is_form}
use Rattle.object_rules.proofs.Growing.{first_front_more, none_now, arrivals_more, any_more}
use Rattle.failure_status.specs.Endings.{end_of}
use Rattle.team_round.specs.declared.round.Arrival.TheVariants as arrived
use Rattle.team_round.proofs.Making.{happened_none, happened_some, foreign_closed}
use Rattle.team_round.proofs.Arriving.{closed_other}
use Rattle.team_round.proofs.Telling.{any_same, end_counts}
use Rattle.control_board.specs.declared.forming.BadRound.{BadRound}
use Rattle.control_board.specs.Boards.{is_bad_round, was_bad, bad_now, is_listed, listed_with, Ends}
use Rattle.control_board.proofs.Rounds.{front_holds}

-- ---- what has closed stays closed
one_more : (t r m : ℕ) (hs : List Happening) (x : Happening) → has_arrived t r m hs ≡ true → has_arrived t r m (hs ++ x ∷ []) ≡ true
one_more t r m hs x y = let l = leb-true r (arrivals t m hs) y in let c = arrivals_more t m hs x in le-leb r (arrivals t m (hs ++ x ∷ [])) (omega arith)

or_left : (a b : Bool) → a ≡ true → (a || b) ≡ true
or_left true b e = refl
or_left false b e = absurd (cc)

or_right : (a b : Bool) → b ≡ true → (a || b) ≡ true
or_right true b e = refl
or_right false b e = e

both : (a b : Bool) → a ≡ true → b ≡ true → (a && b) ≡ true
both true b e f = f
both false b e f = absurd (cc)

ended_more : (m : ℕ) (hs : List Happening) (x : Happening) → has_ended m hs ≡ true → has_ended m (hs ++ x ∷ []) ≡ true
ended_more m hs x y = elim (or_cases (has_stopped m hs) (has_failed m hs) y) [
  | inl a ↦ or_left (has_stopped m (hs ++ x ∷ [])) (has_failed m (hs ++ x ∷ [])) (any_more (is_stop m) hs x ∙ or_left (has_stopped m hs) (is_stop m x) a)
  | inr b ↦ or_right (has_stopped m (hs ++ x ∷ [])) (has_failed m (hs ++ x ∷ [])) (any_more (is_failure m) hs x ∙ or_left (has_failed m hs) (is_failure m x) b)
]

any_stays : (t r : ℕ) (ms : List ℕ) (hs : List Happening) (x : Happening) → list_any (λ m. has_arrived t r m hs) ms ≡ true → list_any (λ m. has_arrived t r m (hs ++ x ∷ [])) ms ≡ true
any_stays t r [] hs x y = absurd (cc)
any_stays t r (m ∷ ms) hs x y = elim (or_cases (has_arrived t r m hs) (list_any (λ k. has_arrived t r k hs) ms) y) [
  | inl a ↦ or_left (has_arrived t r m (hs ++ x ∷ [])) _ (one_more t r m hs x a)
  | inr b ↦ or_right (has_arrived t r m (hs ++ x ∷ [])) (list_any (λ k. has_arrived t r k (hs ++ x ∷ [])) ms) (any_stays t r ms hs x b)
]

all_stay : (t r : ℕ) (ms : List ℕ) (hs : List Happening) (x : Happening) → list_all (λ m. has_arrived t r m hs || has_ended m hs) ms ≡ true → list_all (λ m. has_arrived t r m (hs ++ x ∷ []) || has_ended m (hs ++ x ∷ [])) ms ≡ true
all_stay t r [] hs x y = refl
all_stay t r (m ∷ ms) hs x y =
    let p = and_parts (has_arrived t r m hs || has_ended m hs) (list_all (λ k. has_arrived t r k hs || has_ended k hs) ms) y in
    both (has_arrived t r m (hs ++ x ∷ []) || has_ended m (hs ++ x ∷ [])) (list_all (λ k. has_arrived t r k (hs ++ x ∷ []) || has_ended k (hs ++ x ∷ [])) ms)
    (elim (or_cases (has_arrived t r m hs) (has_ended m hs) p.0) [
      | inl a ↦ or_left (has_arrived t r m (hs ++ x ∷ [])) (has_ended m (hs ++ x ∷ [])) (one_more t r m hs x a)
      | inr b ↦ or_right (has_arrived t r m (hs ++ x ∷ [])) (has_ended m (hs ++ x ∷ [])) (ended_more m hs x b)
    ]) (all_stay t r ms hs x p.1)

closed_more : (t r : ℕ) (ms : List ℕ) (hs : List Happening) (x : Happening) → has_closed ms t r hs ≡ true → has_closed ms t r (hs ++ x ∷ []) ≡ true
closed_more t r ms hs x y =
    let p = and_parts (list_any (λ m. has_arrived t r m hs) ms) (list_all (λ m. has_arrived t r m hs || has_ended m hs) ms) y in
    both (list_any (λ m. has_arrived t r m (hs ++ x ∷ [])) ms) _ (any_stays t r ms hs x p.0) (all_stay t r ms hs x p.1)

closed_all : (t r : ℕ) (ms : List ℕ) (hs xs : List Happening) → has_closed ms t r hs ≡ true → has_closed ms t r (hs ++ xs) ≡ true
closed_all t r ms hs [] y = ap (has_closed ms t r) (append-nil hs) ∙ y
closed_all t r ms hs (x ∷ xs) y = ap (has_closed ms t r) (sym (append_assoc hs (x ∷ []) xs)) ∙ closed_all t r ms (hs ++ x ∷ []) xs (closed_more t r ms hs x y)

happened_append : (h es : List Entry) → happened control (h ++ es) ≡ happened control h ++ happened control es
happened_append h es = filter_map-append (λ (y : Entry). happens control y.image.0 y.event.line y.event.ask y.event.reply) h es

pub still_closed : (t r : ℕ) (ms : List ℕ) (h f : List Entry) → closing control t r ms h ≡ Some f → has_closed ms t r (happened control h) ≡ true
still_closed t r ms h f e =
    let c = front_holds (λ g. has_closed ms t r (happened control g)) [] h f e in
    ap (λ g. has_closed ms t r (happened control g)) (sym c.2) ∙ ap (has_closed ms t r) (happened_append f c.1) ∙ closed_all t r ms (happened control f) (happened control c.1) c.0

-- ---- one more entry
pub bad_more : (t r : ℕ) (ms : List ℕ) (h : List Entry) (e : Entry) → was_bad t r ms (closing control t r ms (h ++ e ∷ [])) ≡ (was_bad t r ms (closing control t r ms h) || bad_now t r ms h e)
bad_more t r ms h e =
    ap (was_bad t r ms) (first_front_more (λ f. has_closed ms t r (happened control f)) h e)
    ∙ by (closing control t r ms h) refl
  where
    none_yet : has_closed ms t r (happened control h) ≡ false → (b : Bool) → has_closed ms t r (happened control (h ++ e ∷ [])) ≡ b
        → was_bad t r ms (front_where (λ f. has_closed ms t r (happened control f)) (h ++ e ∷ [])) ≡ bad_now t r ms h e
    none_yet n true y = rw (n, y) refl
    none_yet n false y = rw (n, y) refl

    or_self : (a b : Bool) → b ≡ false → a ≡ (a || b)
    or_self true b q = refl
    or_self false b q = sym q

    by : (o : Option (List Entry)) → closing control t r ms h ≡ o → was_bad t r ms (or_else o (front_where (λ f. has_closed ms t r (happened control f)) (h ++ e ∷ []))) ≡ (was_bad t r ms o || bad_now t r ms h e)
    by None q = none_yet (none_now (λ f. has_closed ms t r (happened control f)) h q) (has_closed ms t r (happened control (h ++ e ∷ []))) refl
    by (Some f) q = or_self (was_bad t r ms (Some f)) (bad_now t r ms h e) (let y = still_closed t r ms h f q in rw y refl)

-- an entry that is nothing to rounds
never : (b c : Bool) → (not b && b && c) ≡ false
never true c = refl
never false c = refl

pub bad_none : (t r : ℕ) (ms : List ℕ) (h : List Entry) (e : Entry) → happens control e.image.0 e.event.line e.event.ask e.event.reply ≡ None → bad_now t r ms h e ≡ false
bad_none t r ms h e n = ap (λ hs. closes_now t ms (happened control h) hs r && is_bad_round t r ms (h ++ e ∷ [])) (happened_none control h e n) ∙ never (has_closed ms t r (happened control h)) (is_bad_round t r ms (h ++ e ∷ []))

-- ---- an end closes no round with a bad argument: a member missed it
not_any : (p : ℕ → Bool) (m : ℕ) (ms : List ℕ) → (p m || list_any p ms) ≡ false → (p m ≡ false) × (list_any p ms ≡ false)
not_any p m ms e = elim (cases_Bool (p m)) [
  | inl y ↦ absurd (let w : true ≡ false = sym (rw y refl) ∙ e in cc)
  | inr n ↦ (n, sym (rw n refl) ∙ e)
]

module _ (t r i : ℕ) (failed : Bool) (hs : List Happening) where
  abbrev after : List Happening
  after = hs ++ end_of i failed ∷ []

  ended_as_before : (m : ℕ) → has_stopped m (hs ++ end_of i failed ∷ []) ≡ false → has_failed m (hs ++ end_of i failed ∷ []) ≡ false → has_ended m (hs ++ end_of i failed ∷ []) ≡ has_ended m hs
  ended_as_before m s f = elim (cases_Bool (has_ended m hs)) [
    | inl y ↦ absurd (let w : true ≡ false = sym (ended_more m hs (end_of i failed) y) ∙ rw (s, f) refl in cc)
    | inr n ↦ rw (s, f) (sym n)
  ]

  any_as : (ms : List ℕ) → list_any (λ m. has_arrived t r m (hs ++ end_of i failed ∷ [])) ms ≡ list_any (λ m. has_arrived t r m hs) ms
  any_as ms = any_same (λ m. has_arrived t r m (hs ++ end_of i failed ∷ [])) (λ m. has_arrived t r m hs) (λ m. ap (nat_le r) (end_counts t m i failed hs)) ms

  all_as : (ms : List ℕ) → list_any (λ m. has_stopped m (hs ++ end_of i failed ∷ [])) ms ≡ false → list_any (λ m. has_failed m (hs ++ end_of i failed ∷ [])) ms ≡ false
      → list_all (λ m. has_arrived t r m (hs ++ end_of i failed ∷ []) || has_ended m (hs ++ end_of i failed ∷ [])) ms ≡ list_all (λ m. has_arrived t r m hs || has_ended m hs) ms
  all_as [] s f = refl
  all_as (m ∷ ms) s f =
      let a = not_any (λ k. has_stopped k (hs ++ end_of i failed ∷ [])) m ms s in
      let b = not_any (λ k. has_failed k (hs ++ end_of i failed ∷ [])) m ms f in
      ap (λ c. (nat_le r c || has_ended m (hs ++ end_of i failed ∷ [])) && list_all (λ k. has_arrived t r k (hs ++ end_of i failed ∷ []) || has_ended k (hs ++ end_of i failed ∷ [])) ms) (end_counts t m i failed hs)
      ∙ ap (λ c. (has_arrived t r m hs || c) && list_all (λ k. has_arrived t r k (hs ++ end_of i failed ∷ []) || has_ended k (hs ++ end_of i failed ∷ [])) ms) (ended_as_before m a.0 b.0)
      ∙ ap (λ c. (has_arrived t r m hs || has_ended m hs) && c) (all_as ms a.1 b.1)

  closed_as : (ms : List ℕ) → list_any (λ m. has_stopped m (hs ++ end_of i failed ∷ [])) ms ≡ false → list_any (λ m. has_failed m (hs ++ end_of i failed ∷ [])) ms ≡ false → has_closed ms t r (hs ++ end_of i failed ∷ []) ≡ has_closed ms t r hs
  closed_as ms s f =
      ap (λ b. b && list_all (λ m. has_arrived t r m (hs ++ end_of i failed ∷ []) || has_ended m (hs ++ end_of i failed ∷ [])) ms) (any_as ms)
      ∙ ap (λ b. list_any (λ m. has_arrived t r m hs) ms && b) (all_as ms s f)

last_false : (a b : Bool) → b ≡ false → (a && b) ≡ false
last_false true b e = e
last_false false b e = refl

pub bad_end : (t r : ℕ) (ms : List ℕ) (h : List Entry) (e : Entry) (i : ℕ) (failed : Bool) → Ends e i failed → bad_now t r ms h e ≡ false
bad_end t r ms h e i failed ends =
    let now : happened control (h ++ e ∷ []) ≡ happened control h ++ end_of i failed ∷ [] = happened_some control h e (end_of i failed) ends in
    elim (cases_Bool (list_any (λ m. has_stopped m (happened control (h ++ e ∷ []))) ms)) [
      | inl s ↦ last_false _ (is_bad_round t r ms (h ++ e ∷ [])) (last_false (is_form (opening_of t r (happened control (h ++ e ∷ [])))) _ (rw s refl))
      | inr s ↦ elim (cases_Bool (list_any (λ m. has_failed m (happened control (h ++ e ∷ []))) ms)) [
        | inl f ↦ last_false _ (is_bad_round t r ms (h ++ e ∷ [])) (last_false (is_form (opening_of t r (happened control (h ++ e ∷ [])))) _ (last_false (not (list_any (λ m. has_stopped m (happened control (h ++ e ∷ []))) ms)) _ (rw f refl)))
        | inr f ↦ (
            let same : has_closed ms t r (happened control (h ++ e ∷ [])) ≡ has_closed ms t r (happened control h) =
            ap (has_closed ms t r) now ∙ closed_as t r i failed (happened control h) ms (ap (λ hs. list_any (λ m. has_stopped m hs) ms) (sym now) ∙ s) (ap (λ hs. list_any (λ m. has_failed m hs) ms) (sym now) ∙ f) in
            ap (λ c. not (has_closed ms t r (happened control h)) && c && is_bad_round t r ms (h ++ e ∷ [])) same ∙ never (has_closed ms t r (happened control h)) (is_bad_round t r ms (h ++ e ∷ [])))
      ]
    ]

-- ---- the list with a round more
or_nil : (a : Bool) → (a || false) ≡ a
or_nil true = refl
or_nil false = refl

or_assoc : (a b c : Bool) → (a || (b || c)) ≡ ((a || b) || c)
or_assoc true b c = refl
or_assoc false b c = refl

listed_last : (bs : List BadRound) (x : BadRound) (t r : ℕ) → is_listed (bs ++ x ∷ []) t r ≡ (is_listed bs t r || (nat_eq x.team.0 t && nat_eq x.round r))
listed_last [] x t r = or_nil (nat_eq x.team.0 t && nat_eq x.round r)
listed_last (y ∷ ys) x t r = ap (λ b. (nat_eq y.team.0 t && nat_eq y.round r) || b) (listed_last ys x t r) ∙ or_assoc (nat_eq y.team.0 t && nat_eq y.round r) (is_listed ys t r) (nat_eq x.team.0 t && nat_eq x.round r)

module _ (bs : List BadRound) (h : List Entry) (e : Entry) (team : TeamNo) (i : ℕ) (kind : RoundKind) (line : ℕ) (ms : ℕ → List ℕ) (is : happens control e.image.0 e.event.line e.event.ask e.event.reply ≡ Some (arrives team.0 i kind line)) where
  abbrev here : ℕ
  here = suc (arrivals team.0 i (happened control h))

  pub other_round : (t r : ℕ) → (team.0 ≡ t → here ≡ r → ⊥) → bad_now t r (ms t) h e ≡ false
  other_round t r n =
      let now : happened control (h ++ e ∷ []) ≡ happened control h ++ arrives team.0 i kind line ∷ [] = happened_some control h e (arrives team.0 i kind line) is in
      let same : has_closed (ms t) t r (happened control (h ++ e ∷ [])) ≡ has_closed (ms t) t r (happened control h) = ap (has_closed (ms t) t r) now ∙ elim (cases_eq team.0 t) [
        | inl a ↦ subst (λ u. has_closed (ms t) u r (happened control h ++ arrives team.0 i kind line ∷ []) ≡ has_closed (ms t) u r (happened control h)) a (closed_other team.0 i kind line (happened control h) (ms t) r (n a))
        | inr a ↦ foreign_closed team.0 i kind line (happened control h) (ms t) t r a
      ] in
      ap (λ c. not (has_closed (ms t) t r (happened control h)) && c && is_bad_round t r (ms t) (h ++ e ∷ [])) same ∙ never (has_closed (ms t) t r (happened control h)) (is_bad_round t r (ms t) (h ++ e ∷ []))

  no_match : (t r : ℕ) → (team.0 ≡ t → here ≡ r → ⊥) → (nat_eq team.0 t && nat_eq here r) ≡ false
  no_match t r n = elim (cases_eq team.0 t) [
    | inr a ↦ rw (ne_eqb team.0 t a) refl
    | inl a ↦ rw (eq-eqb team.0 t a, ne_eqb here r (n a)) refl
  ]

  listed_other : (b : Bool) (t r : ℕ) → (team.0 ≡ t → here ≡ r → ⊥) → is_listed (listed_with bs team (arrived.Joined here) b) t r ≡ is_listed bs t r
  listed_other true t r n = listed_last bs (record { team = team; round = here }) t r ∙ ap (λ c. is_listed bs t r || c) (no_match t r n) ∙ or_nil (is_listed bs t r)
  listed_other false t r n = refl

  listed_here : (b : Bool) → is_listed (listed_with bs team (arrived.Joined here) b) team.0 here ≡ (is_listed bs team.0 here || b)
  listed_here true = listed_last bs (record { team = team; round = here }) team.0 here ∙ ap (λ c. is_listed bs team.0 here || c) (rw (eq-eqb team.0 team.0 refl, eq-eqb here here refl) refl)
  listed_here false = sym (or_nil (is_listed bs team.0 here))

  pub listed_arrival : (b : Bool) → b ≡ bad_now team.0 here (ms team.0) h e → (t r : ℕ) → is_listed (listed_with bs team (arrived.Joined here) b) t r ≡ (is_listed bs t r || bad_now t r (ms t) h e)
  listed_arrival b q t r = elim (cases_eq team.0 t) [
    | inr a ↦ apart b t r (λ x y. a x)
    | inl a ↦ elim (cases_eq here r) [
      | inr c ↦ apart b t r (λ x y. c y)
      | inl c ↦ subst (λ u. is_listed (listed_with bs team (arrived.Joined here) b) u r ≡ (is_listed bs u r || bad_now u r (ms u) h e)) a
          (subst (λ u. is_listed (listed_with bs team (arrived.Joined here) b) team.0 u ≡ (is_listed bs team.0 u || bad_now team.0 u (ms team.0) h e)) c (listed_here b ∙ ap (λ z. is_listed bs team.0 here || z) q))
    ]
  ]
    where
      apart : (b : Bool) (t r : ℕ) → (team.0 ≡ t → here ≡ r → ⊥) → is_listed (listed_with bs team (arrived.Joined here) b) t r ≡ (is_listed bs t r || bad_now t r (ms t) h e)
      apart b t r n = listed_other b t r n ∙ sym (ap (λ z. is_listed bs t r || z) (other_round t r n) ∙ or_nil (is_listed bs t r))

-- ---- the status of a departure
pub result_bad : (m : Missed) (k b : Bool) → result_of m (k && (not m.stopped && (not m.failed && b))) ≡ result_of m (k && b)
result_bad m k b = go m.stopped m.failed refl refl
  where
    go : (x y : Bool) → m.stopped ≡ x → m.failed ≡ y → result_of m (k && (not m.stopped && (not m.failed && b))) ≡ result_of m (k && b)
    go true y s f = rw s refl
    go false true s f = rw (s, f) refl
    go false false s f = rw (s, f) refl

-- a team without members
pub none_closed : (t r : ℕ) (h : List Entry) → was_bad t r [] (closing control t r [] h) ≡ false
none_closed t r h = by (closing control t r [] h) refl
  where
    by : (o : Option (List Entry)) → closing control t r [] h ≡ o → was_bad t r [] o ≡ false
    by None q = refl
    by (Some f) q = absurd (let w : false ≡ true = still_closed t r [] h f q in cc)

-- The reply to a departure from a collective subroutine.
use Rattle.std.proofs.Common.{take}
use Rattle.std.specs.Prelude.{Result, Ok, Err, IfOk}
use Rattle.std.specs.Global.{Vec}
use Rattle.object_rules.specs.ImagePairs.{names}
use Rattle.team_round.specs.TeamStates.{TeamState, TellsAll}
use Rattle.team_tree.specs.KnownTeams.{team_of}
use Rattle.control_board.specs.Values.{BroughtState}
use Rattle.control_board.proofs.Members.{get_there, member_there, tables_there, rounds_members, known_there, known_within}
use Rattle.std.proofs.Common.{◌≡◌, ℕ, zero, suc, ◌+◌, ◌-◌, ◌<◌, ◌≤◌, Bool, true, false, ◌&&◌, ◌||◌, cond, List, [], ◌∷◌, ◌++◌, inl, inr, length, map, refl, ap, sym, ◌∙◌, subst, arith, length-append}
use Rattle.std.specs.Prelude.{ℤ, pos, Option, Some, None, is_some, slice_get, slice_index_or}
use Rattle.std.specs.List.{list_any, list_all}
use Rattle.std.specs.Ordering.{int_eq}
use Rattle.std.proofs.lemmas.List.Elements.{filter_map-append}
use Rattle.std.proofs.lemmas.Bool.{cases_eq, cases_Bool, eq-eqb, ne_eqb, and_parts, leb-true, le-leb}
use Rattle.caf_base.specs.declared.place.ImageNo.{ImageNo}
use Rattle.caf_base.specs.declared.value.Value.{Value}
use Rattle.caf_events.specs.declared.ask.Ask.{Ask}
use Rattle.caf_events.specs.declared.ask.Ask.TheVariants as asks
use Rattle.caf_events.specs.declared.reply.Reply.{Reply}
use Rattle.caf_events.specs.declared.reply.Reply.TheVariants as replies
use Rattle.caf_events.specs.declared.round.RoundKind.{RoundKind}
use Rattle.caf_events.specs.declared.event.Entry.{Entry}
use Rattle.object_rules.specs.Scans.{or_else, first_told_from}
use Rattle.object_rules.specs.Happenings.{Happening, collective, happens, happened, has_stopped, has_failed, has_ended, numbers_of}
use Rattle.object_rules.specs.TeamRounds.{is_arrival, arrivals, has_arrived, has_closed, at_close, joins_round, Opening, opening_of, Missed, missed_by, result_of}
use Rattle.object_rules.specs.BoardTeams.{teams_after, members_at, closing, arrives_there, nth_arrival, round_of}
use Rattle.object_rules.specs.BoardRules.{is_image, gathered, parts_of, collected, taken_by, collective_result, take_reply}
use Rattle.failure_status.specs.Endings.{AreWithin}
use Rattle.team_round.specs.TeamStates.{kind_told}
use Rattle.team_round.proofs.Closings.{happened_by, closing_is}
use Rattle.control_board.specs.declared.parts.Parts.{Parts}
use Rattle.control_board.specs.Boards.{IsBoard, brings, brought, values_of, value_at, table_of, collected_of, taken_of}
use Rattle.control_board.proofs.Members.{image_within}
use Rattle.control_board.proofs.Rounds.{front_holds, close_opens}

-- ---- the calls of an image are its arrivals
some_gathered : (t i line : ℕ) (a : Ask) (r : Reply) (x : Happening) (m : ℕ) → happens collective i line a r ≡ Some x → is_arrival t m x ≡ true → (vs : List Value) × (gathered a ≡ Some vs)
some_gathered t i line (asks.Gather team op root kind vs) r x m h y = (vs, refl)
some_gathered t i line (asks.Stop code) r x m h y = absurd (let s : is_arrival t m x ≡ false = ap (is_arrival t m) (some_same h) in let w : true ≡ false = sym y ∙ s in cc)
  where
    some_same : {A : Type 0} {x y : A} → Some x ≡ Some y → y ≡ x
    some_same e = cc
some_gathered t i line asks.Gone r x m h y = absurd (let s : is_arrival t m x ≡ false = ap (is_arrival t m) (some_same h) in let w : true ≡ false = sym y ∙ s in cc)
  where
    some_same : {A : Type 0} {x y : A} → Some x ≡ Some y → y ≡ x
    some_same e = cc
some_gathered t i line a r x m h y = absurd (cc)

abbrev told_there : ℕ → ℕ → Entry → Bool
told_there u m e = arrives_there u m (happens collective e.image.0 e.event.line e.event.ask e.event.reply)

there_gathered : (u m : ℕ) (e : Entry) → told_there u m e ≡ true → (vs : List Value) × (gathered e.event.ask ≡ Some vs)
there_gathered u m e t = by (happens collective e.image.0 e.event.line e.event.ask e.event.reply) refl t
  where
    by : (o : Option Happening) → happens collective e.image.0 e.event.line e.event.ask e.event.reply ≡ o → arrives_there u m o ≡ true → (vs : List Value) × (gathered e.event.ask ≡ Some vs)
    by None q t = absurd (cc)
    by (Some x) q t = some_gathered u e.image.0 e.event.line e.event.ask e.event.reply x m q t

pub brought_count : (u m : ℕ) (h : List Entry) → length (brought u m h) ≡ arrivals u m (happened collective h)
brought_count u m [] = refl
brought_count u m (e ∷ es) = by (happens collective e.image.0 e.event.line e.event.ask e.event.reply) refl (brought_count u m es)
  where
    counted : (x : Happening) → happens collective e.image.0 e.event.line e.event.ask e.event.reply ≡ Some x → (b : Bool) → is_arrival u m x ≡ b → length (brought u m es) ≡ arrivals u m (happened collective es)
        → length (brought u m (e ∷ es)) ≡ cond (is_arrival u m x) 1 0 + arrivals u m (happened collective es)
    counted x q true t f =
        let vs = some_gathered u e.image.0 e.event.line e.event.ask e.event.reply x m q t in
        let one : brings u m e ≡ Some vs.0 = rw (q, t) vs.1 in
        rw (one, t) (omega (arith, f))
    counted x q false t f =
        let none : brings u m e ≡ None = rw (q, t) refl in
        rw (none, t) (omega (arith, f))

    by : (o : Option Happening) → happens collective e.image.0 e.event.line e.event.ask e.event.reply ≡ o → length (brought u m es) ≡ arrivals u m (happened collective es) → length (brought u m (e ∷ es)) ≡ arrivals u m (happened collective (e ∷ es))
    by None q f = let none : brings u m e ≡ None = rw q refl in rw (none, q) f
    by (Some x) q f = counted x q (is_arrival u m x) refl f ∙ sym (rw q refl)

abbrev gathered_of : Option Entry → Option (List Value)
gathered_of None = None
gathered_of (Some e) = gathered e.event.ask

nth_brought : (u m n : ℕ) (h : List Entry) → 0 < n → gathered_of (nth_arrival collective u m n h) ≡ slice_get (brought u m h) (n - 1)
nth_brought u m n [] low = refl
nth_brought u m n (e ∷ es) low = elim (cases_Bool (told_there u m e)) [
  | inl t ↦ (
      let vs = there_gathered u m e t in
      elim (cases_eq n 1) [
        | inl same ↦ (
            let z : n - 1 ≡ 0 = omega arith in
            rw (t, eq-eqb n 1 same, vs.1, z) refl)
        | inr other ↦ (
            let ne : (n ≡ 1 → ⊥) = other in
            let z : n - 1 ≡ suc (n - 1 - 1) = omega arith in
            rw (t, ne_eqb n 1 other, vs.1) (nth_brought u m (n - 1) es (omega arith) ∙ sym (ap (slice_get (vs.0 ∷ brought u m es)) z)))
      ])
  | inr f ↦ rw f (nth_brought u m n es low)
]

-- ---- the parts of a round to which all members came
front_item : {A : Type 0} (xs ys : List A) (k : ℕ) (d : A) → k < length xs → slice_get xs k ≡ Some (slice_index_or (xs ++ ys) k d)
front_item [] ys k d h = absurd (omega arith)
front_item (x ∷ xs) ys zero d h = refl
front_item (x ∷ xs) ys (suc k) d h = front_item xs ys k d (omega arith)

module _ (u n r : ℕ) (f rest h : List Entry) (joined : f ++ rest ≡ h) (first : 0 < r) (vals : ℕ → List Value) (are : (m : ℕ) → 0 < m → m ≤ n → vals m ≡ slice_index_or (brought u m h) (r - 1) []) where
  nth_there : (m : ℕ) → 0 < m → m ≤ n → r ≤ arrivals u m (happened collective f) → gathered_of (nth_arrival collective u m r f) ≡ Some (vals m)
  nth_there m low high came =
      let c = brought_count u m f in
      nth_brought u m r f first ∙ front_item (brought u m f) (brought u m rest) (r - 1) [] (omega arith)
      ∙ ap Some (ap (λ l. slice_index_or l (r - 1) []) (sym (filter_map-append (brings u m) f rest) ∙ ap (brought u m) joined) ∙ sym (are m low high))

  one_more : (m : ℕ) (ms : List ℕ) (o : Option Entry) → nth_arrival collective u m r f ≡ o → gathered_of o ≡ Some (vals m) → parts_of (round_of collective u r ms f) ≡ map vals ms → parts_of (round_of collective u r (m ∷ ms) f) ≡ vals m ∷ map vals ms
  one_more m ms None q g i = absurd (cc)
  one_more m ms (Some e) q g i = rw q (rw g (ap (λ l. vals m ∷ l) i))

  pub round_parts : (ms : List ℕ) → list_all (is_image n) ms ≡ true → list_all (λ m. has_arrived u r m (happened collective f)) ms ≡ true → parts_of (round_of collective u r ms f) ≡ map vals ms
  round_parts [] w a = refl
  round_parts (m ∷ ms) w a =
      let p = and_parts (is_image n m) (list_all (is_image n) ms) w in
      let q = and_parts (has_arrived u r m (happened collective f)) (list_all (λ k. has_arrived u r k (happened collective f)) ms) a in
      let i = image_within n m p.0 in
      one_more m ms (nth_arrival collective u m r f) refl (nth_there m i.0 i.1 (leb-true r (arrivals u m (happened collective f)) q.0)) (round_parts ms p.1 q.1)

-- ---- a round that no member missed
none_missed : (m : Missed) → result_of m false ≡ pos 0 → (m.stopped ≡ false) × (m.failed ≡ false)
none_missed m e = go m.stopped m.failed refl refl
  where
    differ : (k : ℤ) → int_eq k (pos 0) ≡ false → result_of m false ≡ k → ⊥
    differ k d q = absurd (let w : true ≡ false = sym (ap (λ z. int_eq z (pos 0)) (sym q ∙ e)) ∙ d in cc)

    go : (a b : Bool) → m.stopped ≡ a → m.failed ≡ b → (m.stopped ≡ false) × (m.failed ≡ false)
    go true b s f = absurd (differ (pos 6000) refl (rw s refl))
    go false true s f = absurd (differ (pos 6001) refl (rw (s, f) refl))
    go false false s f = (s, f)

come_all : (t r : ℕ) (ms : List ℕ) (hs : List Happening) → list_any (λ m. has_stopped m hs) ms ≡ false → list_any (λ m. has_failed m hs) ms ≡ false → list_all (λ m. has_arrived t r m hs || has_ended m hs) ms ≡ true → list_all (λ m. has_arrived t r m hs) ms ≡ true
come_all t r [] hs s f a = refl
come_all t r (m ∷ ms) hs s f a = go (has_stopped m hs) (has_failed m hs) (has_arrived t r m hs) refl refl refl s f a (come_all t r ms hs)
  where
    go : (x y z : Bool) → has_stopped m hs ≡ x → has_failed m hs ≡ y → has_arrived t r m hs ≡ z → (has_stopped m hs || list_any (λ k. has_stopped k hs) ms) ≡ false → (has_failed m hs || list_any (λ k. has_failed k hs) ms) ≡ false
        → ((has_arrived t r m hs || (has_stopped m hs || has_failed m hs)) && list_all (λ k. has_arrived t r k hs || has_ended k hs) ms) ≡ true
        → (list_any (λ k. has_stopped k hs) ms ≡ false → list_any (λ k. has_failed k hs) ms ≡ false → list_all (λ k. has_arrived t r k hs || has_ended k hs) ms ≡ true → list_all (λ k. has_arrived t r k hs) ms ≡ true)
        → (has_arrived t r m hs && list_all (λ k. has_arrived t r k hs) ms) ≡ true
    go true y z p q w s f a next = absurd (let e : true ≡ false = sym (rw p refl) ∙ s in cc)
    go false true z p q w s f a next = absurd (let e : true ≡ false = sym (rw q refl) ∙ f in cc)
    go false false false p q w s f a next = absurd (let e : false ≡ true = sym (rw (w, p, q) refl) ∙ a in cc)
    go false false true p q w s f a next = rw w (next (sym (rw p refl) ∙ s) (sym (rw q refl) ∙ f) (sym (rw w refl) ∙ a))

-- ---- the first arrival of a round stays
pub told_stays : {A : Type 0} (tell : List Happening → Happening → Option A) (b es rest : List Happening) (x : A) → first_told_from tell b es ≡ Some x → first_told_from tell b (es ++ rest) ≡ Some x
told_stays {A} tell b [] rest x h = absurd (cc)
told_stays {A} tell b (e ∷ es) rest x h = by (tell b e) refl (told_stays tell (b ++ e ∷ []) es rest x)
  where
    by : (o : Option A) → tell b e ≡ o → (first_told_from tell (b ++ e ∷ []) es ≡ Some x → first_told_from tell (b ++ e ∷ []) (es ++ rest) ≡ Some x) → or_else (tell b e) (first_told_from tell (b ++ e ∷ []) (es ++ rest)) ≡ Some x
    by None q next = rw q (next (sym (rw q refl) ∙ h))
    by (Some y) q next = rw q (sym (rw q refl) ∙ h)

-- ---- the reply
not_missed : (m : Missed) (q : Option (List Value)) → m.stopped ≡ false → m.failed ≡ false → taken_by m q ≡ taken_of q
not_missed m None s f = rw (s, f) refl
not_missed m (Some vs) s f = rw (s, f) refl

missed_any : (m : Missed) (q : Option (List Value)) → (result_of m false ≡ pos 0 → ⊥) → taken_by m q ≡ replies.Taken (result_of m false) []
missed_any m q ne = go m.stopped m.failed q refl refl
  where
    go : (a b : Bool) (q : Option (List Value)) → m.stopped ≡ a → m.failed ≡ b → taken_by m q ≡ replies.Taken (result_of m false) []
    go true b None s f = rw s refl
    go true b (Some vs) s f = rw s refl
    go false true None s f = rw (s, f) refl
    go false true (Some vs) s f = rw (s, f) refl
    go false false q s f = absurd (ne (rw (s, f) refl))

module _ (n : ℕ) (h : List Entry) (p : Parts) (b : IsBoard n h p) (u r : ℕ) (low_u : 0 < u) (high_u : u ≤ length p.brought.items) (first : 0 < r) (within : list_all (is_image n) (members_at (teams_after n h) u) ≡ true) where
  abbrev ms : List ℕ
  ms = members_at (teams_after n h) u

  -- the status of a round that no member missed, by its close
  abbrev IsStatus : ℤ → Type 0
  IsStatus status = (f : List Happening) → at_close ms u r (happened collective h) ≡ Some f → status ≡ result_of (missed_by ms f) false

  close_at : (f : List Entry) → closing collective u r ms h ≡ Some f → at_close ms u r (happened collective h) ≡ Some (happened collective f)
  close_at f e = sym (closing_is collective u r ms h) ∙ ap (happened_by collective) e

  came : (f : List Entry) → closing collective u r ms h ≡ Some f → (status : ℤ) → IsStatus status → status ≡ pos 0 → list_all (λ m. has_arrived u r m (happened collective f)) ms ≡ true
  came f e status is zero_status =
      let m = none_missed (missed_by ms (happened collective f)) (sym (is (happened collective f) (close_at f e)) ∙ zero_status) in
      let c = front_holds (λ g. has_closed ms u r (happened collective g)) [] h f e in
      come_all u r ms (happened collective f) m.0 m.1 (and_parts (list_any (λ k. has_arrived u r k (happened collective f)) ms) _ c.0).1

  open_now : (f : List Entry) → closing collective u r ms h ≡ Some f → (o : Opening) × (opening_of u r (happened collective f) ≡ Some o) × (opening_of u r (happened collective h) ≡ Some o)
  open_now f e =
      let c = close_opens ms u r (happened collective h) (happened collective f) first (close_at f e) in
      by (opening_of u r (happened collective f)) refl c.0 c.1 c.2
    where
      by : (o : Option Opening) → opening_of u r (happened collective f) ≡ o → is_some o ≡ true → (rest : List Happening) → happened collective f ++ rest ≡ happened collective h
          → (o : Opening) × (opening_of u r (happened collective f) ≡ Some o) × (opening_of u r (happened collective h) ≡ Some o)
      by None q s rest j = absurd (cc)
      by (Some o) q s rest j = (o, q, ap (opening_of u r) (sym j) ∙ told_stays (joins_round u r) [] (happened collective f) rest o q)

  pub missed_reply : (status : ℤ) (o : Option (List Entry)) → closing collective u r ms h ≡ o → is_some o ≡ true → IsStatus status → (status ≡ pos 0 → ⊥) → replies.Taken status [] ≡ take_reply n h u r o
  missed_reply status None e s is ne = absurd (cc)
  missed_reply status (Some f) e s is ne =
      let o = open_now f e in
      let same = is (happened collective f) (close_at f e) in
      let m = missed_by ms (happened collective f) in
      ap (λ z. replies.Taken z []) same
      ∙ sym (missed_any m (collected o.0.kind (parts_of (round_of collective u r ms f))) (λ q. ne (same ∙ q)))
      ∙ sym (ap (collective_result u r ms f) o.1)

  pub taken_reply : (status : ℤ) (o : Option (List Entry)) → closing collective u r ms h ≡ o → is_some o ≡ true → IsStatus status → status ≡ pos 0
      → taken_of (collected_of (opening_of u r (happened collective h)) (map (λ m. value_at (table_of p.brought.items u) r m) ms)) ≡ take_reply n h u r o
  taken_reply status None e s is z = absurd (cc)
  taken_reply status (Some f) e s is z =
      let o = open_now f e in
      let m = none_missed (missed_by ms (happened collective f)) (sym (is (happened collective f) (close_at f e)) ∙ z) in
      let c = front_holds (λ g. has_closed ms u r (happened collective g)) [] h f e in
      let parts = round_parts u n r f c.1 h c.2 first (λ k. value_at (table_of p.brought.items u) r k) (λ k low high. ap (λ l. slice_index_or l (r - 1) []) (b.values u k low_u high_u low high)) ms within (came f e status is z) in
      ap (λ q. taken_of (collected_of q (map (λ k. value_at (table_of p.brought.items u) r k) ms))) o.2
      ∙ ap (λ l. taken_of (collected o.0.kind l)) (sym parts)
      ∙ sym (not_missed (missed_by ms (happened collective f)) (collected o.0.kind (parts_of (round_of collective u r ms f))) m.0 m.1)
      ∙ sym (ap (collective_result u r ms f) o.1)

  -- each member has brought the values of the round
  there_all : (f rest : List Entry) → f ++ rest ≡ h → (ks : List ℕ) → list_all (is_image n) ks ≡ true → list_all (λ m. has_arrived u r m (happened collective f)) ks ≡ true → (k m : ℕ) → slice_get ks k ≡ Some m → r ≤ length (values_of (table_of p.brought.items u) m)
  there_all f rest j [] w a k m at = absurd (cc)
  there_all f rest j (x ∷ xs) w a k m at =
      by (there_all f rest j xs (and_parts (is_image n x) (list_all (is_image n) xs) w).1 (and_parts (has_arrived u r x (happened collective f)) (list_all (λ z. has_arrived u r z (happened collective f)) xs) a).1) k at
    where
      some_same : {A : Type 0} {x y : A} → Some x ≡ Some y → x ≡ y
      some_same e = cc

      here : x ≡ m → r ≤ length (values_of (table_of p.brought.items u) m)
      here same =
          let i = image_within n x (and_parts (is_image n x) (list_all (is_image n) xs) w).0 in
          let came_in = leb-true r (arrivals u x (happened collective f)) (and_parts (has_arrived u r x (happened collective f)) (list_all (λ z. has_arrived u r z (happened collective f)) xs) a).0 in
          let count = brought_count u x f in
          let whole : length (brought u x h) ≡ length (brought u x f) + length (brought u x rest) = ap (λ l. length (brought u x l)) (sym j) ∙ ap length (filter_map-append (brings u x) f rest) ∙ length-append (brought u x f) (brought u x rest) in
          let kept : length (values_of (table_of p.brought.items u) x) ≡ length (brought u x h) = ap length (b.values u x low_u high_u i.0 i.1) in
          subst (λ z. r ≤ length (values_of (table_of p.brought.items u) z)) same (omega arith)

      by : ((k m : ℕ) → slice_get xs k ≡ Some m → r ≤ length (values_of (table_of p.brought.items u) m)) → (k : ℕ) → slice_get (x ∷ xs) k ≡ Some m → r ≤ length (values_of (table_of p.brought.items u) m)
      by next zero at = here (some_same at)
      by next (suc k) at = next k m at

  pub members_came : (status : ℤ) (o : Option (List Entry)) → closing collective u r ms h ≡ o → is_some o ≡ true → IsStatus status → status ≡ pos 0 → (k m : ℕ) → slice_get ms k ≡ Some m → r ≤ length (values_of (table_of p.brought.items u) m)
  members_came status None e s is z k m at = absurd (cc)
  members_came status (Some f) e s is z k m at =
      let c = front_holds (λ g. has_closed ms u r (happened collective g)) [] h f e in
      there_all f c.1 c.2 ms within (came f e status is z) k m at

-- ---- the calls
pub images_all : (n : ℕ) (ms : List ImageNo) → AreWithin n ms → list_all (is_image n) (numbers_of ms) ≡ true
images_all n [] w = refl
images_all n (m ∷ ms) w =
    let here : (0 < m.0) × (m.0 ≤ n) = w 0 m (omega arith) in
    let a = le-leb 1 m.0 (let l = here.0 in omega arith) in
    let c = le-leb m.0 n here.1 in
    rw (a, c) (images_all n ms (λ j d l. w (suc j) d (omega arith)))

number_at : (ms : List ImageNo) (k : ℕ) (d : ImageNo) → k < length ms → slice_get (numbers_of ms) k ≡ Some (slice_index_or ms k d).0
number_at [] k d l = absurd (omega arith)
number_at (m ∷ ms) zero d l = refl
number_at (m ∷ ms) (suc k) d l = number_at ms k d (omega arith)

pub all_there : (ms : List ImageNo) (ns : List ℕ) (P : ℕ → Type 0) → numbers_of ms ≡ ns → ((k m : ℕ) → slice_get ns k ≡ Some m → P m) → (k : ℕ) (d : ImageNo) → k < length ms → P (slice_index_or ms k d).0
all_there ms ns P e f k d l = f k (slice_index_or ms k d).0 (ap (λ q. slice_get q k) (sym e) ∙ number_at ms k d l)

pub values_members : (f : ℕ → List Value) (ms : List ImageNo) → map (λ (m : ImageNo). f m.0) ms ≡ map f (numbers_of ms)
values_members f [] = refl
values_members f (m ∷ ms) = ap (λ l. f m.0 ∷ l) (values_members f ms)

pub kind_collected : (o : Option Opening) (what : RoundKind) (parts : List (List Value)) → kind_told o ≡ Some what → collected what parts ≡ collected_of o parts
kind_collected None what parts e = absurd (cc)
kind_collected (Some o) what parts e = let same : what ≡ o.kind = cc in ap (λ k. collected k parts) same

pub none_collected : (o : Option Opening) (parts : List (List Value)) → kind_told o ≡ None → Some [] ≡ collected_of o parts
none_collected None parts e = refl
none_collected (Some o) parts e = absurd (cc)

-- ---- one part more
map_last : {A B : Type 0} (f : A → B) (xs : List A) (x : A) → map f (xs ++ x ∷ []) ≡ map f xs ++ f x ∷ []
map_last f [] x = refl
map_last f (y ∷ ys) x = ap (λ l. f y ∷ l) (map_last f ys x)

take_more : (ms : List ImageNo) (k : ℕ) (d : ImageNo) → k < length ms → take (k + 1) ms ≡ take k ms ++ slice_index_or ms k d ∷ []
take_more [] k d h = absurd (omega arith)
take_more (m ∷ ms) zero d h = refl
take_more (m ∷ ms) (suc k) d h = let e : suc k + 1 ≡ suc (k + 1) = omega arith in ap (λ j. take j (m ∷ ms)) e ∙ ap (λ l. m ∷ l) (take_more ms k d (omega arith))

got_value : (xs : List (List Value)) (j : ℕ) (v : List Value) → slice_get xs j ≡ Some v → slice_index_or xs j [] ≡ v
got_value [] j v e = absurd (cc)
got_value (x ∷ xs) zero v e = cc
got_value (x ∷ xs) (suc j) v e = got_value xs j v e

pub parts_more : (bs : List BroughtState) (call : ℕ) (ms : List ImageNo) (k : ℕ) (d : ImageNo) (parts now : List (Vec Value)) (v : Vec Value) (vs : List Value) → k < length ms
    → map (λ (x : Vec Value). x.items) parts ≡ map (λ (m : ImageNo). value_at bs call m.0) (take k ms) → now ≡ parts ++ v ∷ [] → v.items ≡ vs → slice_get (values_of bs (slice_index_or ms k d).0) (call - 1) ≡ Some vs
    → map (λ (x : Vec Value). x.items) now ≡ map (λ (m : ImageNo). value_at bs call m.0) (take (k + 1) ms)
parts_more bs call ms k d parts now v vs low told is same got =
    ap (map (λ (x : Vec Value). x.items)) is ∙ map_last (λ (x : Vec Value). x.items) parts v
    ∙ ap (λ l. l ++ v.items ∷ []) told
    ∙ ap (λ x. map (λ (m : ImageNo). value_at bs call m.0) (take k ms) ++ x ∷ []) (same ∙ sym (got_value (values_of bs (slice_index_or ms k d).0) (call - 1) vs got))
    ∙ sym (ap (map (λ (m : ImageNo). value_at bs call m.0)) (take_more ms k d low) ∙ map_last (λ (m : ImageNo). value_at bs call m.0) (take k ms) (slice_index_or ms k d))

pub ok_map : {T E : Type 0} {P Q : T → Type 0} (r : Result T E) → ((x : T) → P x → Q x) → IfOk r P → IfOk r Q
ok_map (Ok x) f p = f x p
ok_map (Err e) f p = tt

-- ---- a departure, by the status that is told
abbrev pub IsTold : Parts → ℕ → ℕ → ℤ → Type 0
IsTold p t r status = (n : ℕ) (hs f : List Happening) (x : TeamState) → TellsAll n p.collective hs → slice_get p.collective.teams (t - 1) ≡ Some x → at_close (numbers_of x.members) t r hs ≡ Some f → status ≡ result_of (missed_by (numbers_of x.members) f) false

pub record Departs (n : ℕ) (h : List Entry) (p : Parts) (t r : ℕ) (status : ℤ) : Type 0 where
  pub missed : (status ≡ pos 0 → ⊥) → replies.Taken status [] ≡ take_reply n h t r (closing collective t r (members_at (teams_after n h) t) h)
  pub taken : status ≡ pos 0 → taken_of (collected_of (opening_of t r (happened collective h)) (map (λ m. value_at (table_of p.brought.items t) r m) (members_at (teams_after n h) t))) ≡ take_reply n h t r (closing collective t r (members_at (teams_after n h) t) h)
  pub came : status ≡ pos 0 → (k m : ℕ) → slice_get (members_at (teams_after n h) t) k ≡ Some m → r ≤ length (values_of (table_of p.brought.items t) m)

module _ (n : ℕ) (h : List Entry) (p : Parts) (b : IsBoard n h p) (i r : ℕ) (first : 0 < r) (status : ℤ) where
  pub departs : (t : ℕ) → names i (members_at (teams_after n h) t) ≡ true → is_some (closing collective t r (members_at (teams_after n h) t) h) ≡ true → IsTold p t r status → Departs n h p t r status
  departs t member closed told =
      let there = member_there n h p b true t i member in
      let low : 0 < t = there.0 in
      let high : t ≤ length p.collective.teams = there.1 in
      let x = get_there p.collective.teams (t - 1) (omega arith) in
      let m = rounds_members n h p b true t x.0 low x.1 in
      let within : list_all (is_image n) (members_at (teams_after n h) t) ≡ true = ap (list_all (is_image n)) (sym (known_there n h p b t low there.2)) ∙ images_all n (team_of p.teams.teams t).members (known_within n h p b t low there.2) in
      let table = tables_there n h p b t low there.2 in
      let is : (f : List Happening) → at_close (members_at (teams_after n h) t) t r (happened collective h) ≡ Some f → status ≡ result_of (missed_by (members_at (teams_after n h) t) f) false =
      (λ f e. told n (happened collective h) f x.0 (b.rounds true) x.1 (ap (λ ks. at_close ks t r (happened collective h)) m ∙ e) ∙ ap (λ ks. result_of (missed_by ks f) false) m) in
      record {
        missed = missed_reply n h p b t r low table first within status (closing collective t r (members_at (teams_after n h) t) h) refl closed is;
        taken = taken_reply n h p b t r low table first within status (closing collective t r (members_at (teams_after n h) t) h) refl closed is;
        came = members_came n h p b t r low table first within status (closing collective t r (members_at (teams_after n h) t) h) refl closed is;
      }

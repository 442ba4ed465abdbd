-- The chain of waits: link by link, and how it closes.
use Rattle.std.proofs.Common.{◌≡◌, ℕ, zero, suc, ◌+◌, ◌<◌, ◌≤◌, Bool, true, false, nat_eq, ◌||◌, not, List, [], ◌∷◌, ◌++◌, length, map, inl, inr, refl, ap, sym, ◌∙◌, subst, arith, append_assoc}
use Rattle.std.specs.Prelude.{Option, Some, None}
use Rattle.std.specs.List.{list_any, filter, range_with_len, IsDistinct, AllByRecursion}
use Rattle.std.proofs.lemmas.Bool.{cases_Bool, cases_eq, both_ways, or_from, or_parts, eqb-true, eq-eqb, ne_eqb, not-true}
use Rattle.std.proofs.lemmas.List.{length-append}
use Rattle.std.proofs.lemmas.Map.Steps.{length-le_from_distinct_below}
use Rattle.caf_events.specs.declared.ask.Ask.{Ask}
use Rattle.caf_events.specs.declared.event.Entry.{Entry}
use Rattle.trace_theory.specs.Entries.{Each}
use Rattle.object_rules.specs.Happenings.{control, happened, has_stopped, has_failed, has_ended}
use Rattle.object_rules.specs.ImagePairs.{names}
use Rattle.core_runs.specs.Beginnings.{IsOneOf, numbers_to}
use Rattle.core_runs.specs.CoreRuns.{at_board}
use Rattle.wait_reason.specs.WaitsFor.{waits_with}
use Rattle.wait_reason.specs.Chains.{Wait, Close, post, stopped, cycle, IsAmong, AsksThere, IsEventWait, Stopped, IsLeft, IsNext, GoesOn, IsChain}
use Rattle.wait_reason.proofs.Waiting.{some_waits}
use Rattle.wait_chain.specs.declared.links.Behind.{Behind}
use Rattle.wait_chain.specs.declared.links.Behind.TheVariants as behinds
use Rattle.wait_chain.specs.Stuck.{IsHeld, IsStuck}
use Rattle.wait_chain.specs.Awaited.{awaited_by, awaited_in, awaits, IsLeast}
use Rattle.wait_chain.specs.Counts.{is_left}
use Rattle.wait_chain.specs.ToldChains.{IsNextTold, GoesTo, ToldOn, NoneLeft, IsToldChain}
use Rattle.wait_chain.specs.Links.{close_of, last_link, last_of, behind, Leads, IsOpen, ComesBehind}
use Rattle.wait_chain.proofs.Awaiting.{awaits_same}
use Rattle.wait_chain.proofs.Blocked.{waits_left}
use Rattle.wait_chain.proofs.Ended.{happened_all}
use Rattle.wait_chain.proofs.Images.{waits_one}
use Rattle.wait_chain.proofs.Least.{least_same, least_of}

-- who is named is there
pub among_of : (j : ℕ) (js : List ℕ) → names j js ≡ true → IsAmong j js
among_of j [] h = absurd (cc)
among_of j (k ∷ js) h = elim (cases_Bool (nat_eq j k)) [ inl t ↦ inl (eqb-true j k t) | inr f ↦ inr (among_of j js (rw f at h)) ]

not_among : (j : ℕ) (js : List ℕ) → names j js ≡ false → IsAmong j js → ⊥
not_among j [] h a = a
not_among j (k ∷ js) h (inl e) = both_ways (nat_eq j k) (or_parts (nat_eq j k) (names j js) h).0 (eq-eqb j k e)
not_among j (k ∷ js) h (inr a) = not_among j js (or_parts (nat_eq j k) (names j js) h).1 a

among_front : (j : ℕ) (js ks : List ℕ) → IsAmong j js → IsAmong j (js ++ ks)
among_front j [] ks a = absurd a
among_front j (x ∷ js) ks (inl e) = inl e
among_front j (x ∷ js) ks (inr a) = inr (among_front j js ks a)

among_last : (j : ℕ) (js : List ℕ) → IsAmong j (js ++ j ∷ [])
among_last j [] = inl refl
among_last j (x ∷ js) = inr (among_last j js)

-- an image of the run that passes a test is among those that do
in_numbers : (i a m : ℕ) → a ≤ i → i < a + m → IsAmong i (range_with_len a m)
in_numbers i a zero low high = absurd (omega arith)
in_numbers i a (suc m) low high = elim (cases_eq i a) [ inl e ↦ inl e | inr ne ↦ inr (in_numbers i (a + 1) m (omega arith) (omega arith)) ]

in_filter : (test : ℕ → Bool) (i : ℕ) (js : List ℕ) → test i ≡ true → IsAmong i js → IsAmong i (filter test js)
in_filter test i [] t a = absurd a
in_filter test i (j ∷ js) t (inl e) = rw (ap test (sym e) ∙ t) (inl e)
in_filter test i (j ∷ js) t (inr a) = elim (cases_Bool (test j)) [ inl y ↦ rw y (inr (in_filter test i js t a)) | inr f ↦ rw f (in_filter test i js t a) ]

-- the first of those that pass is the least one
record IsLowest (test : ℕ → Bool) (a m i : ℕ) : Type 0 where
  passes : test i ≡ true
  low : a ≤ i
  high : i < a + m
  least : (k : ℕ) → a ≤ k → k < a + m → test k ≡ true → i ≤ k

first_lowest : (test : ℕ → Bool) (a m i : ℕ) (rest : List ℕ) → i ∷ rest ≡ filter test (range_with_len a m) → IsLowest test a m i
first_lowest test a zero i rest h = absurd (cc)
first_lowest test a (suc m) i rest h = elim (cases_Bool (test a)) [
  | inl t ↦ (
      let e : i ∷ rest ≡ a ∷ filter test (range_with_len (a + 1) m) = rw t at h in
      let same : i ≡ a = cc in
      record { passes = ap test same ∙ t; low = omega arith; high = omega arith; least = λ k low high p. omega arith })
  | inr f ↦ (
      let r = first_lowest test (a + 1) m i rest (rw f at h) in
      let low = r.low in
      let high = r.high in
      record {
        passes = r.passes;
        low = omega arith;
        high = omega arith;
        least = λ k lowest highest p. elim (cases_eq k a) [ inl e ↦ absurd (both_ways (test a) f (ap test (sym e) ∙ p)) | inr ne ↦ r.least k (omega arith) (omega arith) p ];
      })
]

-- the ask of an image in the list, and what it waits for with it
asked_among : (i : ℕ) (ws : List Wait) → IsAmong i (map (λ (w : Wait). w.image) ws) → (a : Ask) × AsksThere ws i a × (awaited_in ws i ≡ awaited_by a)
asked_among i [] h = absurd h
asked_among i (w ∷ ws) h = elim (cases_Bool (nat_eq w.image i)) [
  | inl y ↦ (w.ask, inl (eqb-true w.image i y, refl), rw y refl)
  | inr f ↦ elim h [ inl e ↦ absurd (both_ways (nat_eq w.image i) f (eq-eqb w.image i (sym e))) | inr rest ↦ (let r = asked_among i ws rest in (r.0, inr r.1, rw f r.2)) ]
]

each_there : (P : ℕ → Ask → Type 0) (i : ℕ) (a : Ask) (ws : List Wait) → Each (λ (w : Wait). P w.image w.ask) ws → AsksThere ws i a → P i a
each_there P i a [] h there = absurd there
each_there P i a (w ∷ ws) h (inl e) = subst (P i) e.1 (subst (λ z. P z w.ask) e.0 h.0)
each_there P i a (w ∷ ws) h (inr there) = each_there P i a ws h.1 there

-- the last of the links, where one more is put behind them
pub last_more : (ls : List ℕ) (j : ℕ) → last_of (ls ++ j ∷ []) ≡ j
last_more [] j = refl
last_more (i ∷ js) j = behind_links i js j
  where
    behind_links : (k : ℕ) (ks : List ℕ) (m : ℕ) → last_link k (ks ++ m ∷ []) ≡ m
    behind_links k [] m = refl
    behind_links k (x ∷ ks) m = behind_links x ks m

module _ (n : ℕ) (t : List Entry) (waits : List Wait) where
  -- what is known of the end of a chain with these links, of which this is the last one
  abbrev pub Ends : List ℕ → ℕ → Close → Type 0
  Ends ls i post = IsNextTold n t waits i None
  Ends ls i (stopped j) = IsNextTold n t waits i (Some j) × Stopped n t waits j
  Ends ls i (cycle j) = GoesTo n t waits i j × IsAmong j ls

  closes_here : (before : List ℕ) (i : ℕ) (close : Close) → Ends (before ++ i ∷ []) i close → ToldOn n t waits before i [] close
  closes_here before i post e = e
  closes_here before i (stopped j) e = e
  closes_here before i (cycle j) e = e

  leads_close : (before : List ℕ) (i : ℕ) (js : List ℕ) (close : Close) → Leads n t waits before i js → Ends (before ++ i ∷ js) (last_link i js) close → ToldOn n t waits before i js close
  leads_close before i [] close l e = closes_here before i close e
  leads_close before i (j ∷ js) close l e = (l.0, l.1, leads_close (before ++ i ∷ []) j js close l.2 (subst (λ z. Ends z (last_link j js) close) (sym (append_assoc before (i ∷ []) (j ∷ js))) e))

  leads_more : (before : List ℕ) (i : ℕ) (js : List ℕ) (j : ℕ) → Leads n t waits before i js → GoesTo n t waits (last_link i js) j → (IsAmong j (before ++ i ∷ js) → ⊥) → Leads n t waits before i (js ++ j ∷ [])
  leads_more before i [] j l goes out = (goes, out, tt)
  leads_more before i (k ∷ js) j l goes out = (l.0, l.1, leads_more (before ++ i ∷ []) k js j l.2 goes (λ a. out (subst (IsAmong j) (append_assoc before (i ∷ []) (k ∷ js)) a)))

  -- the links differ, so there are no more than images
  leads_apart : (x : ℕ) (before : List ℕ) (i : ℕ) (js : List ℕ) → IsAmong x (before ++ i ∷ []) → Leads n t waits before i js → AllByRecursion (λ y. nat_eq x y ≡ false) js
  leads_apart x before i [] a l = tt
  leads_apart x before i (j ∷ js) a l = (ne_eqb x j (λ e. l.1 (subst (λ z. IsAmong z (before ++ i ∷ [])) e a)), leads_apart x (before ++ i ∷ []) j js (among_front x (before ++ i ∷ []) (j ∷ []) a) l.2)

  leads_distinct : (before : List ℕ) (i : ℕ) (js : List ℕ) → Leads n t waits before i js → IsDistinct nat_eq (i ∷ js)
  unfolding IsDistinct
  leads_distinct before i [] l = (tt, tt)
  leads_distinct before i (j ∷ js) l = (leads_apart i before i (j ∷ js) (among_last i before) l, leads_distinct (before ++ i ∷ []) j js l.2)

  leads_ones : (before : List ℕ) (i : ℕ) (js : List ℕ) → IsOneOf n i → Leads n t waits before i js → (q : ℕ) → list_any (nat_eq q) (i ∷ js) ≡ true → IsOneOf n q
  leads_ones before i [] one l q h = elim (cases_Bool (nat_eq q i)) [ inl y ↦ subst (IsOneOf n) (sym (eqb-true q i y)) one | inr f ↦ absurd (let z = rw f at h in cc) ]
  leads_ones before i (j ∷ js) one l q h = elim (cases_Bool (nat_eq q i)) [
    | inl y ↦ subst (IsOneOf n) (sym (eqb-true q i y)) one
    | inr f ↦ leads_ones (before ++ i ∷ []) j js l.0.0.0 l.2 q (rw f at h)
  ]

  above_zero : (ls : List ℕ) → ((q : ℕ) → list_any (nat_eq q) ls ≡ true → IsOneOf n q) → AllByRecursion (λ y. nat_eq 0 y ≡ false) ls
  above_zero [] h = tt
  above_zero (x ∷ xs) h =
      let one = (h x (ap (λ b. b || list_any (nat_eq x) xs) (eq-eqb x x refl))).0 in
      (ne_eqb 0 x (λ e. absurd (omega arith)), above_zero xs (λ q k. h q (elim (cases_Bool (nat_eq q x)) [ inl y ↦ rw y refl | inr f ↦ rw f k ])))

  with_zero : (ls : List ℕ) → AllByRecursion (λ y. nat_eq 0 y ≡ false) ls → IsDistinct nat_eq ls → IsDistinct nat_eq (0 ∷ ls)
  unfolding IsDistinct
  with_zero ls a d = (a, d)

  pub open_few : (ls : List ℕ) → IsOpen n t waits ls → length ls ≤ n
  open_few [] o = absurd o
  open_few (i ∷ js) o =
      let ones = leads_ones [] i js o.0.of_run o.1 in
      let few = length-le_from_distinct_below (0 ∷ i ∷ js) (suc n) (with_zero (i ∷ js) (above_zero (i ∷ js) ones) (leads_distinct [] i js o.1))
      (λ q h. elim (cases_Bool (nat_eq q 0)) [ inl y ↦ (let e = eqb-true q 0 y in omega arith) | inr f ↦ (let one = (ones q (rw f at h)).1 in omega arith) ]) in
      omega arith

  -- the least image that is left is the first link; where none is left there is none
  left_of : (i : ℕ) → has_ended i (happened control t) ≡ false → IsLeft n t waits i
  left_of i f =
      let hs = happened control (at_board t) in
      or_parts (has_stopped i hs) (has_failed i hs) (ap (has_ended i) (happened_all control t) ∙ f)

  not_ended_of : (i : ℕ) → IsLeft n t waits i → is_left t i ≡ true
  not_ended_of i left =
      let hs = happened control (at_board t) in
      ap not (ap (has_ended i) (sym (happened_all control t)) ∙ or_from (has_stopped i hs) (has_failed i hs) left.0 left.1)

  pub first_link : (i : ℕ) → IsLeast (is_left t) n (Some i) → IsOpen n t waits (i ∷ [])
  first_link i h = (record { of_run = h.0; left = left_of i (not-true (has_ended i (happened control t)) h.1); least = λ k one left. h.2 k one (not_ended_of k left) }, tt)

  pub no_link : IsLeast (is_left t) n None → IsToldChain n t waits [] post
  no_link h = ((λ i one left. both_ways (is_left t i) (h i one) (not_ended_of i left)), refl)

  -- what comes behind the links of a chain
  comes : (i : ℕ) (js : List ℕ) (o : Option ℕ) → IsOpen n t waits (i ∷ js) → IsNextTold n t waits (last_link i js) o → ComesBehind n t waits (i ∷ js) (behind t (i ∷ js) o)
  comes i js None o h = (o.0, leads_close [] i js post o.1 h)
  comes i js (Some j) o h =
      let whole = ap (has_stopped j) (happened_all control t) in
      elim (cases_Bool (has_stopped j (happened control t))) [
        | inl y ↦ rw y (o.0, leads_close [] i js (stopped j) o.1 (h, whole ∙ y))
        | inr goes ↦ rw goes (elim (cases_Bool (names j (i ∷ js))) [
          | inl y ↦ rw y (o.0, leads_close [] i js (cycle j) o.1 ((h, whole ∙ goes), among_of j (i ∷ js) y))
          | inr f ↦ rw f (o.0, leads_more [] i js j o.1 (h, whole ∙ goes) (not_among j (i ∷ js) f))
        ])
      ]

  comes_behind : (ls : List ℕ) (o : Option ℕ) → IsOpen n t waits ls → IsNextTold n t waits (last_of ls) o → ComesBehind n t waits ls (behind t ls o)
  comes_behind [] o open_ h = absurd open_
  comes_behind (i ∷ js) o open_ h = comes i js o open_ h

  pub comes_by : (ls : List ℕ) (last : ℕ) (o : Option ℕ) → IsOpen n t waits ls → last_of ls ≡ last → IsNextTold n t waits last o → ComesBehind n t waits ls (behind t ls o)
  comes_by ls last o open_ is h = comes_behind ls o open_ (subst (λ z. IsNextTold n t waits z o) (sym is) h)

  -- and so the chain is there
  abbrev pub HasToldChain : Type 0
  HasToldChain = (links : List ℕ) × (close : Close) × IsToldChain n t waits links close

  goes_behind : (ls : List ℕ) (b : Behind) → ComesBehind n t waits ls b → ((j : ℕ) → IsOpen n t waits (ls ++ j ∷ []) → HasToldChain) → HasToldChain
  goes_behind ls (behinds.Next image) c more = more image.0 c
  goes_behind ls (behinds.Closes close) c more = (ls, close_of close, c)

  from_open : (fuel : ℕ) (ls : List ℕ) → IsOpen n t waits ls → n < fuel + length ls → HasToldChain
  from_open zero ls o lt = absurd (let few = open_few ls o in omega arith)
  from_open (suc fuel) ls o lt =
      let next = least_of (awaits n t (last_of ls) (awaited_in waits (last_of ls))) n in
      goes_behind ls (behind t ls next.0) (comes_behind ls next.0 o next.1)
      (λ j more. from_open fuel (ls ++ j ∷ []) more (let len = length-append ls (j ∷ []) in omega arith))

  from_first : (o : Option ℕ) → IsLeast (is_left t) n o → HasToldChain
  from_first None h = ([], post, no_link h)
  from_first (Some i) h = from_open (suc n) (i ∷ []) (first_link i h) (omega arith)

  pub told_there : HasToldChain
  told_there = let first = least_of (is_left t) n in from_first first.0 first.1

module _ (n : ℕ) (t : List Entry) (waits : List Wait) (stuck : IsStuck n t waits) where
  held_there : (i : ℕ) (a : Ask) → AsksThere waits i a → IsHeld stuck.coarrays n t i a
  held_there i a there = each_there (IsHeld stuck.coarrays n t) i a waits stuck.held there

  -- an image that is left is in the list
  left_among : (i : ℕ) → IsOneOf n i → IsLeft n t waits i → IsAmong i (map (λ (w : Wait). w.image) waits)
  left_among i one left =
      let hs = happened control (at_board t) in
      let low = one.0 in
      let high = one.1 in
      subst (IsAmong i) (sym stuck.images)
      (in_filter (λ k. not (has_ended k hs)) i (numbers_to n) (ap not (or_from (has_stopped i hs) (has_failed i hs) left.0 left.1)) (in_numbers i 1 n (omega arith) (omega arith)))

  -- the first of them is left
  first_left : (i : ℕ) (rest : List ℕ) → map (λ (w : Wait). w.image) waits ≡ i ∷ rest → IsOneOf n i × IsLeft n t waits i
  first_left i rest e =
      let hs = happened control (at_board t) in
      let f = first_lowest (λ k. not (has_ended k hs)) 1 n i rest (sym e ∙ stuck.images) in
      let low = f.low in
      let high = f.high in
      ((omega arith, omega arith), or_parts (has_stopped i hs) (has_failed i hs) (not-true (has_ended i hs) f.passes))

  some_left : (ws : List Wait) → waits ≡ ws → NoneLeft n t waits → ⊥
  some_left [] e none = let some = subst (λ (z : List Wait). 0 < length z) e stuck.some in omega arith
  some_left (w ∷ ws) e none = let f = first_left w.image (map (λ (x : Wait). x.image) ws) (ap (map (λ (x : Wait). x.image)) e) in none w.image f.0 f.1

  next_by : (i : ℕ) (a : Ask) (j : ℕ) → AsksThere waits i a → IsLeast (waits_with n t i a) n (Some j) → IsNext n t waits i j
  next_by i a j there h = record { of_run = h.0; ask = a; there = there; waiting = h.1; least = h.2 }

  -- who waits for no image waits for a post
  post_by : (i : ℕ) (a : Ask) → AsksThere waits i a → IsLeast (waits_with n t i a) n None → IsEventWait a
  post_by i a there h =
      let held = held_there i a there in
      elim (some_waits stuck.coarrays n t i a held.0 held.1) [
        | inl wait ↦ wait
        | inr w ↦ absurd (both_ways (waits_with n t i a w.0) (h w.0 (waits_one stuck.coarrays n t stuck.lawful i w.0 a w.1)) w.1)
      ]

  -- whom the whole trace tells is whom an image waits for with its ask
  abbrev Asked : ℕ → Option ℕ → Type 0
  Asked i o = (a : Ask) × AsksThere waits i a × IsLeast (waits_with n t i a) n o

  asked_of : (i : ℕ) (o : Option ℕ) → IsOneOf n i → IsLeft n t waits i → IsNextTold n t waits i o → Asked i o
  asked_of i o one left h =
      let a = asked_among i waits (left_among i one left) in
      let held = held_there i a.0 a.1 in
      let told : IsLeast (awaits n t i (awaited_by a.0)) n o = subst (λ z. IsLeast (awaits n t i z) n o) a.2 h in
      (a.0, a.1, least_same (awaits n t i (awaited_by a.0)) (waits_with n t i a.0) n o (awaits_same stuck.coarrays n t stuck.lawful i a.0 held.0) told)

  goes_by : (before : List ℕ) (i : ℕ) (js : List ℕ) (close : Close) → IsOneOf n i → IsLeft n t waits i → ToldOn n t waits before i js close → GoesOn n t waits before i js close
  goes_by before i [] post one left h = let a = asked_of i None one left h in (a.0, a.1, post_by i a.0 a.1 a.2)
  goes_by before i [] (stopped j) one left h = let a = asked_of i (Some j) one left h.0 in (next_by i a.0 j a.1 a.2, h.1)
  goes_by before i [] (cycle j) one left h = let a = asked_of i (Some j) one left h.0.0 in (next_by i a.0 j a.1 a.2, h.0.1, h.1)
  goes_by before i (j ∷ js) close one left h =
      let a = asked_of i (Some j) one left h.0.0 in
      let next_left : IsLeft n t waits j = (h.0.1, waits_left stuck.coarrays n t stuck.lawful i j a.0 (held_there i a.0 a.1) a.2.1) in
      (next_by i a.0 j a.1 a.2, h.0.1, h.1, goes_by (before ++ i ∷ []) j js close h.0.0.0 next_left h.2)

  -- so the chain that is told is that of the waits
  pub told_chain : (ls : List ℕ) (close : Close) → IsToldChain n t waits ls close → IsChain n t waits ls close
  told_chain [] close h = absurd (some_left waits refl h.0)
  told_chain (i ∷ is) close h = (h.0, goes_by [] i is close h.0.of_run h.0.left h.1)

  pub chain_there : (links : List ℕ) × (close : Close) × IsChain n t waits links close
  chain_there = let r = told_there n t waits in (r.0, r.1, told_chain r.0 r.1 r.2)

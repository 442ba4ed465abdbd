-- What images gave at FORM TEAM, with one more entry.
use Rattle.std.proofs.Common.{◌≡◌, ℕ, zero, suc, ◌+◌, ◌-◌, ◌<◌, Bool, true, false, ◌&&◌, nat_eq, cond, List, [], ◌∷◌, ◌++◌, inl, inr, length, take, refl, ap, sym, ◌∙◌, subst, arith}
use Rattle.std.specs.Prelude.{Option, Some, None, filter_map, slice_index_or}
use Rattle.std.proofs.lemmas.Bool.{cases_Bool, cases_eq, eq-eqb, ne_eqb}
use Rattle.caf_base.specs.declared.place.ImageNo.{ImageNo}
use Rattle.caf_base.specs.declared.place.TeamNo.{TeamNo}
use Rattle.caf_events.specs.declared.ask.Ask.TheVariants as asks
use Rattle.caf_events.specs.declared.round.Arriving.{Arriving}
use Rattle.caf_events.specs.declared.round.Arriving.TheVariants as arrivings
use Rattle.caf_events.specs.declared.round.RoundKind.{RoundKind}
use Rattle.caf_events.specs.declared.event.Entry.{Entry}
use Rattle.object_rules.specs.Scans.{or_else}
use Rattle.object_rules.specs.Happenings.{Happening, arrives, control, happens, happened}
use Rattle.object_rules.specs.TeamRounds.{arrivals}
use Rattle.object_rules.specs.FormedTeams.{FormArg}
use Rattle.object_rules.specs.BoardTeams.{arrives_there, nth_arrival, round_of, form_arg, form_args}
use Rattle.object_rules.proofs.Growing.{or_else_none}
use Rattle.team_round.specs.declared.round.Arrival.TheVariants as arrived
use Rattle.team_tree.specs.declared.arg.FormArg.{FormArg as GivenArg}
use Rattle.team_tree.specs.Orders.{given_by}
use Rattle.control_board.specs.declared.forming.Given.{Given}
use Rattle.control_board.specs.Boards.{args_in, plain_given, arg_of, args_of, given_at, given_with}

-- ---- the arrivals of an image on a team
abbrev pub there : ℕ → ℕ → Entry → Bool
there t m e = arrives_there t m (happens control e.image.0 e.event.line e.event.ask e.event.reply)

counts_first : (t m : ℕ) (e : Entry) (es : List Entry) → arrivals t m (happened control (e ∷ es)) ≡ cond (there t m e) 1 0 + arrivals t m (happened control es)
counts_first t m e es = by (happens control e.image.0 e.event.line e.event.ask e.event.reply) refl
  where
    by : (o : Option Happening) → happens control e.image.0 e.event.line e.event.ask e.event.reply ≡ o → arrivals t m (happened control (e ∷ es)) ≡ cond (there t m e) 1 0 + arrivals t m (happened control es)
    by None q = rw q (omega arith)
    by (Some x) q = rw q refl

counted : (t m : ℕ) (e : Entry) (es : List Entry) (b : Bool) → there t m e ≡ b → arrivals t m (happened control (e ∷ es)) ≡ cond b 1 0 + arrivals t m (happened control es)
counted t m e es b q = counts_first t m e es ∙ ap (λ c. cond c 1 0 + arrivals t m (happened control es)) q

pub nth_none : (t m r : ℕ) (h : List Entry) → arrivals t m (happened control h) < r → nth_arrival control t m r h ≡ None
nth_none t m r [] l = refl
nth_none t m r (e ∷ es) l = elim (cases_Bool (there t m e)) [
  | inl y ↦ (
      let c = counted t m e es true y in
      rw (y, ne_eqb r 1 (λ q. absurd (omega arith))) (nth_none t m (r - 1) es (omega arith)))
  | inr n ↦ (
      let c = counted t m e es false n in
      rw n (nth_none t m r es (omega arith)))
]

-- the arrival that an entry is
abbrev this_one : ℕ → ℕ → ℕ → List Entry → Entry → Option Entry
this_one t m r h e = cond (there t m e && nat_eq r (suc (arrivals t m (happened control h)))) (Some e) None

shifted : (r k : ℕ) → 0 < r - 1 → nat_eq (r - 1) (suc k) ≡ nat_eq r (suc (1 + k))
shifted r k l = elim (cases_eq r (suc (1 + k))) [
  | inl same ↦ eq-eqb (r - 1) (suc k) (omega arith) ∙ sym (eq-eqb r (suc (1 + k)) same)
  | inr other ↦ ne_eqb (r - 1) (suc k) (λ q. other (omega arith)) ∙ sym (ne_eqb r (suc (1 + k)) other)
]

pub nth_more : (t m r : ℕ) (h : List Entry) (e : Entry) → 0 < r → nth_arrival control t m r (h ++ e ∷ []) ≡ or_else (nth_arrival control t m r h) (this_one t m r h e)
nth_more t m r [] e low = elim (cases_Bool (there t m e)) [
  | inl y ↦ rw y refl
  | inr n ↦ rw n refl
]
nth_more t m r (x ∷ xs) e low = elim (cases_Bool (there t m x)) [
  | inl y ↦ elim (cases_eq r 1) [
    | inl one ↦ rw (y, eq-eqb r 1 one) refl
    | inr more ↦ (
        let ne : (r ≡ 1 → ⊥) = more in
        let c = counted t m x xs true y in
        let l : 0 < r - 1 = omega arith in
        let i = nth_more t m (r - 1) xs e l in
        let s = shifted r (arrivals t m (happened control xs)) l in
        let f : nth_arrival control t m r ((x ∷ xs) ++ e ∷ []) ≡ nth_arrival control t m (r - 1) (xs ++ e ∷ []) = rw (y, ne_eqb r 1 more) refl in
        let g : nth_arrival control t m r (x ∷ xs) ≡ nth_arrival control t m (r - 1) xs = rw (y, ne_eqb r 1 more) refl in
        f ∙ i ∙ ap (λ b. or_else (nth_arrival control t m (r - 1) xs) (cond (there t m e && b) (Some e) None)) s
        ∙ ap (λ k. or_else (nth_arrival control t m (r - 1) xs) (cond (there t m e && nat_eq r (suc k)) (Some e) None)) (sym c)
        ∙ ap (λ o. or_else o (this_one t m r (x ∷ xs) e)) (sym g))
  ]
  | inr n ↦ (
      let c = counted t m x xs false n in
      let k : arrivals t m (happened control (x ∷ xs)) ≡ arrivals t m (happened control xs) = omega arith in
      let f : nth_arrival control t m r ((x ∷ xs) ++ e ∷ []) ≡ nth_arrival control t m r (xs ++ e ∷ []) = rw n refl in
      let g : nth_arrival control t m r (x ∷ xs) ≡ nth_arrival control t m r xs = rw n refl in
      f ∙ nth_more t m r xs e low
      ∙ ap (λ j. or_else (nth_arrival control t m r xs) (cond (there t m e && nat_eq r (suc j)) (Some e) None)) (sym k)
      ∙ ap (λ o. or_else o (this_one t m r (x ∷ xs) e)) (sym g))
]

-- ---- what is kept of what images gave
args_more : (gs : List Given) (g : Given) (t r : ℕ) → args_in (gs ++ g ∷ []) t r ≡ args_in gs t r ++ cond (nat_eq g.team.0 t && nat_eq g.round r) (g.arg ∷ []) []
args_more [] g t r = elim (cases_Bool (nat_eq g.team.0 t && nat_eq g.round r)) [ inl y ↦ rw y refl | inr n ↦ rw n refl ]
args_more (x ∷ xs) g t r = elim (cases_Bool (nat_eq x.team.0 t && nat_eq x.round r)) [
  | inl y ↦ rw y (ap (λ l. x.arg ∷ l) (args_more xs g t r))
  | inr n ↦ rw n (args_more xs g t r)
]

given_more : (as_ : List GivenArg) (a : GivenArg) (m : ℕ) → given_by (as_ ++ a ∷ []) m ≡ or_else (given_by as_ m) (cond (nat_eq a.image.0 m) (Some a) None)
given_more [] a m = refl
given_more (x ∷ xs) a m = elim (cases_Bool (nat_eq x.image.0 m)) [
  | inl y ↦ rw y refl
  | inr n ↦ rw n (given_more xs a m)
]

append_none : {A : Type 0} (xs : List A) → xs ++ [] ≡ xs
append_none [] = refl
append_none (x ∷ xs) = ap (λ l. x ∷ l) (append_none xs)

plain_none : (o : Option GivenArg) → plain_given o ≡ None → o ≡ None
plain_none None e = refl
plain_none (Some a) e = absurd (cc)

-- it is what the arrivals gave
abbrev pub AreForms : List Given → List Entry → Type 0
AreForms gs h = (t r m : ℕ) → 0 < r → plain_given (given_by (args_in gs t r) m) ≡ arg_of (nth_arrival control t m r h)

-- an entry that is no arrival
pub forms_none : (gs : List Given) (h : List Entry) (e : Entry) → ((t m : ℕ) → there t m e ≡ false) → AreForms gs h → AreForms gs (h ++ e ∷ [])
forms_none gs h e idle are t r m low =
    are t r m low
    ∙ ap arg_of (sym (nth_more t m r h e low ∙ ap (λ b. or_else (nth_arrival control t m r h) (cond (b && nat_eq r (suc (arrivals t m (happened control h)))) (Some e) None)) (idle t m) ∙ or_else_none (nth_arrival control t m r h)))

module _ (gs : List Given) (h : List Entry) (e : Entry) (i : ImageNo) (team : TeamNo) (kind : RoundKind) (line : ℕ) (is : happens control e.image.0 e.event.line e.event.ask e.event.reply ≡ Some (arrives team.0 i.0 kind line)) (are : AreForms gs h) where
  abbrev here : ℕ
  here = suc (arrivals team.0 i.0 (happened control h))

  there_is : (t m : ℕ) → there t m e ≡ (nat_eq team.0 t && nat_eq i.0 m)
  there_is t m = ap (arrives_there t m) is

  -- an arrival of another round or image, or on another team
  stays : (t r m : ℕ) → 0 < r → (nat_eq team.0 t && nat_eq i.0 m && nat_eq r (suc (arrivals t m (happened control h)))) ≡ false → plain_given (given_by (args_in gs t r) m) ≡ arg_of (nth_arrival control t m r (h ++ e ∷ []))
  stays t r m low differs =
      are t r m low
      ∙ ap arg_of (sym (nth_more t m r h e low ∙ ap (λ b. or_else (nth_arrival control t m r h) (cond (b && nat_eq r (suc (arrivals t m (happened control h)))) (Some e) None)) (there_is t m)
      ∙ ap (λ b. or_else (nth_arrival control t m r h) (cond b (Some e) None)) differs ∙ or_else_none (nth_arrival control t m r h)))

  -- the arrival itself
  none_yet : given_by (args_in gs team.0 here) i.0 ≡ None
  none_yet = plain_none (given_by (args_in gs team.0 here) i.0) (are team.0 here i.0 (omega arith) ∙ ap arg_of (nth_none team.0 i.0 here h (omega arith)))

  this_is : nth_arrival control team.0 i.0 here (h ++ e ∷ []) ≡ Some e
  this_is =
      nth_more team.0 i.0 here h e (omega arith)
      ∙ ap (λ o. or_else o (this_one team.0 i.0 here h e)) (nth_none team.0 i.0 here h (omega arith))
      ∙ ap (λ b. cond (b && nat_eq here here) (Some e) None) (there_is team.0 i.0)
      ∙ rw (eq-eqb team.0 team.0 refl, eq-eqb i.0 i.0 refl, eq-eqb here here refl) refl

  no_other : (t r m : ℕ) → (team.0 ≡ t → i.0 ≡ m → here ≡ r → ⊥) → (nat_eq team.0 t && nat_eq i.0 m && nat_eq r (suc (arrivals t m (happened control h)))) ≡ false
  no_other t r m n = elim (cases_eq team.0 t) [
    | inr a ↦ rw (ne_eqb team.0 t a) refl
    | inl a ↦ elim (cases_eq i.0 m) [
      | inr b ↦ rw (eq-eqb team.0 t a, ne_eqb i.0 m b) refl
      | inl b ↦ (
          let ne : nat_eq r (suc (arrivals t m (happened control h))) ≡ false = ne_eqb r (suc (arrivals t m (happened control h))) (λ q. n a b (ap (λ u. suc (arrivals u i.0 (happened control h))) a ∙ ap (λ u. suc (arrivals t u (happened control h))) b ∙ sym q)) in
          rw (eq-eqb team.0 t a, eq-eqb i.0 m b, ne) refl)
    ]
  ]

  -- what is given with it
  with_given : (a : GivenArg) → a.image ≡ i → (t r m : ℕ) → (team.0 ≡ t → i.0 ≡ m → here ≡ r → ⊥) → given_by (args_in (gs ++ record { team = team; round = here; arg = a } ∷ []) t r) m ≡ given_by (args_in gs t r) m
  with_given a image t r m n =
      ap (λ l. given_by l m) (args_more gs (record { team = team; round = here; arg = a }) t r)
      ∙ elim (cases_Bool (nat_eq team.0 t && nat_eq here r)) [
        | inr unlike ↦ rw unlike (ap (λ l. given_by l m) (append_none (args_in gs t r)))
        | inl alike ↦ (
            let p = parts alike in
            let ne : nat_eq a.image.0 m ≡ false = ne_eqb a.image.0 m (λ q. n p.0 (ap (λ (z : ImageNo). z.0) (sym image) ∙ q) p.1) in
            rw alike (given_more (args_in gs t r) a m ∙ rw ne (or_else_none (given_by (args_in gs t r) m))))
      ]
    where
      parts : (nat_eq team.0 t && nat_eq here r) ≡ true → (team.0 ≡ t) × (here ≡ r)
      parts e = elim (cases_eq team.0 t) [
        | inr a ↦ absurd (let w : false ≡ true = sym (rw (ne_eqb team.0 t a) refl) ∙ e in cc)
        | inl a ↦ elim (cases_eq here r) [
          | inr b ↦ absurd (let w : false ≡ true = sym (rw (eq-eqb team.0 t a, ne_eqb here r b) refl) ∙ e in cc)
          | inl b ↦ (a, b)
        ]
      ]

  new_given : (a : GivenArg) → a.image ≡ i → given_by (args_in (gs ++ record { team = team; round = here; arg = a } ∷ []) team.0 here) i.0 ≡ Some a
  new_given a image =
      ap (λ l. given_by l i.0) (args_more gs (record { team = team; round = here; arg = a }) team.0 here)
      ∙ rw (eq-eqb team.0 team.0 refl, eq-eqb (suc (arrivals team.0 i.0 (happened control h))) (suc (arrivals team.0 i.0 (happened control h))) refl) (given_more (args_in gs team.0 here) a i.0 ∙ ap (λ o. or_else o (cond (nat_eq a.image.0 i.0) (Some a) None)) none_yet ∙ rw (eq-eqb a.image.0 i.0 (ap (λ (z : ImageNo). z.0) image)) refl)

  by_place : (P : ℕ → ℕ → ℕ → Type 0) → P team.0 here i.0 → ((t r m : ℕ) → 0 < r → (team.0 ≡ t → i.0 ≡ m → here ≡ r → ⊥) → P t r m) → (t r m : ℕ) → 0 < r → P t r m
  by_place P x y t r m low = elim (cases_eq team.0 t) [
    | inr a ↦ y t r m low (λ p q s. a p)
    | inl a ↦ elim (cases_eq i.0 m) [
      | inr b ↦ y t r m low (λ p q s. b q)
      | inl b ↦ elim (cases_eq here r) [
        | inr c ↦ y t r m low (λ p q s. c s)
        | inl c ↦ subst (λ u. P u r m) a (subst (λ u. P team.0 u m) c (subst (P team.0 here) b x))
      ]
    ]
  ]

  pub forms_arrival : (arriving : Arriving) → e.image ≡ i → e.event.ask ≡ asks.Arrive team arriving → AreForms (given_with gs team (given_at i arriving) (arrived.Joined here)) (h ++ e ∷ [])
  forms_arrival (arrivings.Form number new_index) image ask =
      by_place (λ t r m. plain_given (given_by (args_in (gs ++ record { team = team; round = here; arg = record { image = i; number = number; new_index = new_index } } ∷ []) t r) m) ≡ arg_of (nth_arrival control t m r (h ++ e ∷ [])))
      (ap plain_given (new_given (record { image = i; number = number; new_index = new_index }) refl) ∙ sym (ap arg_of this_is ∙ ap (λ (z : ImageNo). form_arg z.0 e.event.ask) image ∙ ap (form_arg i.0) ask))
      (λ t r m low n. ap plain_given (with_given (record { image = i; number = number; new_index = new_index }) refl t r m n) ∙ stays t r m low (no_other t r m n))
  forms_arrival arriving image ask =
      by_place (λ t r m. plain_given (given_by (args_in (given_with gs team (given_at i arriving) (arrived.Joined here)) t r) m) ≡ arg_of (nth_arrival control t m r (h ++ e ∷ [])))
      (ap plain_given none_yet ∙ sym (ap arg_of this_is ∙ ap (λ (z : ImageNo). form_arg z.0 e.event.ask) image ∙ ap (form_arg i.0) ask))
      (λ t r m low n. stays t r m low (no_other t r m n))

-- ---- what the members of a round gave
compose : (g : ℕ → Option Entry) (k : ℕ → Option FormArg) → ((m : ℕ) → k m ≡ arg_of (g m)) → (ms : List ℕ) → form_args (filter_map g ms) ≡ filter_map k ms
compose g k h [] = refl
compose g k h (m ∷ ms) = by (g m) refl (compose g k h ms)
  where
    next : (e : Entry) → g m ≡ Some e → (o : Option FormArg) → form_arg e.image.0 e.event.ask ≡ o → form_args (filter_map g ms) ≡ filter_map k ms → form_args (filter_map g (m ∷ ms)) ≡ filter_map k (m ∷ ms)
    next e q None s i = let w : k m ≡ None = h m ∙ ap arg_of q ∙ s in rw (q, w) (rw s i)
    next e q (Some a) s i = let w : k m ≡ Some a = h m ∙ ap arg_of q ∙ s in rw (q, w) (rw s (ap (λ l. a ∷ l) i))

    by : (o : Option Entry) → g m ≡ o → form_args (filter_map g ms) ≡ filter_map k ms → form_args (filter_map g (m ∷ ms)) ≡ filter_map k (m ∷ ms)
    by None q i = let w : k m ≡ None = h m ∙ ap arg_of q in rw (q, w) i
    by (Some e) q i = next e q (form_arg e.image.0 e.event.ask) refl i

pub round_args : (gs : List Given) (h : List Entry) → AreForms gs h → (t r : ℕ) → 0 < r → (ms : List ℕ) → form_args (round_of control t r ms h) ≡ args_of (args_in gs t r) ms
round_args gs h are t r low ms = compose (λ m. nth_arrival control t m r h) (λ m. plain_given (given_by (args_in gs t r) m)) (λ m. are t r m low) ms

-- the same with what an arrival gives now
pub args_with : (gs : List Given) (t r : ℕ) (team : TeamNo) (a : GivenArg) → team.0 ≡ t → args_in gs t r ++ a ∷ [] ≡ args_in (gs ++ record { team = team; round = r; arg = a } ∷ []) t r
args_with gs t r team a same = sym (args_more gs (record { team = team; round = r; arg = a }) t r ∙ rw (eq-eqb team.0 t same, eq-eqb r r refl) refl)

-- one further
take_more : {A : Type 0} (xs : List A) (k : ℕ) (d : A) → k < length xs → take (k + 1) xs ≡ take k xs ++ slice_index_or xs k d ∷ []
take_more [] k d h = absurd (omega arith)
take_more (m ∷ ms) zero d h = refl
take_more (m ∷ ms) (suc k) d h = let e : suc k + 1 ≡ suc (k + 1) = omega arith in ap (λ j. take j (m ∷ ms)) e ∙ ap (λ l. m ∷ l) (take_more ms k d (omega arith))

args_next : (gs : List Given) (k : ℕ) (d : Given) (t r : ℕ) (was now : List GivenArg) (test : Bool) → k < length gs → was ≡ args_in (take k gs) t r → test ≡ (nat_eq (slice_index_or gs k d).team.0 t && nat_eq (slice_index_or gs k d).round r)
    → now ≡ was ++ cond test ((slice_index_or gs k d).arg ∷ []) [] → now ≡ args_in (take (k + 1) gs) t r
args_next gs k d t r was now test low is tested goes =
    goes ∙ ap (λ l. l ++ cond test ((slice_index_or gs k d).arg ∷ []) []) is ∙ ap (λ c. args_in (take k gs) t r ++ cond c ((slice_index_or gs k d).arg ∷ []) []) tested
    ∙ sym (ap (λ l. args_in l t r) (take_more gs k d low) ∙ args_more (take k gs) (slice_index_or gs k d) t r)

pub args_then : (gs : List Given) (k : ℕ) (d : Given) (t r : ℕ) (was now : List GivenArg) (test : Bool) → k < length gs → was ≡ args_in (take k gs) t r → test ≡ (nat_eq (slice_index_or gs k d).team.0 t && nat_eq (slice_index_or gs k d).round r) → test ≡ true
    → now ≡ was ++ (slice_index_or gs k d).arg ∷ [] → now ≡ args_in (take (k + 1) gs) t r
args_then gs k d t r was now test low is tested y goes = args_next gs k d t r was now test low is tested (goes ∙ ap (λ c. was ++ cond c ((slice_index_or gs k d).arg ∷ []) []) (sym y))

pub args_else : (gs : List Given) (k : ℕ) (d : Given) (t r : ℕ) (was now : List GivenArg) (test : Bool) → k < length gs → was ≡ args_in (take k gs) t r → test ≡ (nat_eq (slice_index_or gs k d).team.0 t && nat_eq (slice_index_or gs k d).round r) → test ≡ false
    → now ≡ was → now ≡ args_in (take (k + 1) gs) t r
args_else gs k d t r was now test low is tested z goes = args_next gs k d t r was now test low is tested (goes ∙ sym (append_none was) ∙ ap (λ c. was ++ cond c ((slice_index_or gs k d).arg ∷ []) []) (sym z))

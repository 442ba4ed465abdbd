-- The teams that one more entry makes.
use Rattle.std.proofs.Common.{◌≡◌, ℕ, zero, suc, ◌+◌, ◌<◌, ◌≤◌, Bool, true, false, ◌&&◌, ◌||◌, not, nat_eq, nat_le, cond, List, [], ◌∷◌, ◌++◌, inl, inr, refl, ap, sym, ◌∙◌, subst, arith, append_assoc}
use Rattle.std.specs.Prelude.{filter, Some, None}
use Rattle.std.specs.List.{list_any, list_all, range_with_len}
use Rattle.std.proofs.lemmas.List.{append-nil}
use Rattle.std.proofs.lemmas.List.Elements.{filter_map-append}
use Rattle.std.proofs.lemmas.Bool.{cases_eq, cases_Bool, eq-eqb, ne_eqb, leb-true, and_parts, or_cases}
use Rattle.caf_events.specs.declared.round.RoundKind.{RoundKind}
use Rattle.caf_events.specs.declared.event.Entry.{Entry}
use Rattle.object_rules.specs.Happenings.{Happening, arrives, Class, control, happens, happened, has_ended}
use Rattle.object_rules.specs.TeamRounds.{arrivals, has_arrived, has_closed}
use Rattle.object_rules.specs.BoardTeams.{Team, teams_made, most_joined, closes_now, made_in_rounds, made_in_team, made_by, teams_from, teams_after}
use Rattle.object_rules.proofs.Growing.{arrivals_more}
use Rattle.team_round.proofs.Telling.{any_same, all_same}
use Rattle.team_round.proofs.Arriving.{closed_other, ended_stays}

-- ---- what happened, with one more entry
pub happened_none : (c : Class) (h : List Entry) (e : Entry) → happens c e.image.0 e.event.line e.event.ask e.event.reply ≡ None → happened c (h ++ e ∷ []) ≡ happened c h
happened_none c h e n =
    filter_map-append (λ (x : Entry). happens c x.image.0 x.event.line x.event.ask x.event.reply) h (e ∷ [])
    ∙ rw n (append-nil (happened c h))

pub happened_some : (c : Class) (h : List Entry) (e : Entry) (x : Happening) → happens c e.image.0 e.event.line e.event.ask e.event.reply ≡ Some x → happened c (h ++ e ∷ []) ≡ happened c h ++ x ∷ []
happened_some c h e x s = filter_map-append (λ (y : Entry). happens c y.image.0 y.event.line y.event.ask y.event.reply) h (e ∷ []) ∙ rw s refl

-- ---- the teams, with one more entry
teams_from_more : (ts : List Team) (b es : List Entry) (e : Entry) → teams_from ts b (es ++ e ∷ []) ≡ teams_from ts b es ++ made_by 1 (teams_from ts b es) (b ++ es) e
teams_from_more ts b [] e = ap (λ h. ts ++ made_by 1 ts h e) (sym (append-nil b))
teams_from_more ts b (x ∷ xs) e =
    teams_from_more (ts ++ made_by 1 ts b x) (b ++ x ∷ []) xs e
    ∙ ap (λ h. teams_from (ts ++ made_by 1 ts b x) (b ++ x ∷ []) xs ++ made_by 1 (teams_from (ts ++ made_by 1 ts b x) (b ++ x ∷ []) xs) h e) (append_assoc b (x ∷ []) xs)

pub teams_more : (n : ℕ) (h : List Entry) (e : Entry) → teams_after n (h ++ e ∷ []) ≡ teams_after n h ++ made_by 1 (teams_after n h) h e
teams_more n h e = teams_from_more _ [] h e

-- ---- which rounds an entry closes
filter_none : (p : ℕ → Bool) → ((x : ℕ) → p x ≡ false) → (xs : List ℕ) → filter p xs ≡ []
filter_none p h [] = refl
filter_none p h (x ∷ xs) = ap (λ b. cond b (x ∷ filter p xs) (filter p xs)) (h x) ∙ filter_none p h xs

filter_past : (p : ℕ → Bool) (r : ℕ) → ((x : ℕ) → (r ≡ x → ⊥) → p x ≡ false) → (a n : ℕ) → r < a → filter p (range_with_len a n) ≡ []
filter_past p r h a zero l = refl
filter_past p r h a (suc n) l = ap (λ b. cond b (a ∷ filter p (range_with_len (a + 1) n)) (filter p (range_with_len (a + 1) n))) (h a (λ e. absurd (omega arith))) ∙ filter_past p r h (a + 1) n (omega arith)

-- only one number can pass, and it is within where it does
filter_one : (p : ℕ → Bool) (r : ℕ) → ((x : ℕ) → (r ≡ x → ⊥) → p x ≡ false) → (a n : ℕ) → (p r ≡ true → (a ≤ r) × (r < a + n)) → filter p (range_with_len a n) ≡ cond (p r) (r ∷ []) []
filter_one p r h a zero w = elim (cases_Bool (p r)) [
  | inl t ↦ absurd (let b = w t in let l = b.0 in let u = b.1 in omega arith)
  | inr f ↦ rw f refl
]
filter_one p r h a (suc n) w = elim (cases_eq r a) [
  | inl same ↦ subst (λ k. filter p (k ∷ range_with_len (a + 1) n) ≡ cond (p r) (r ∷ []) []) same (
      ap (λ l. cond (p r) (r ∷ l) l) (filter_past p r h (a + 1) n (omega arith)))
  | inr other ↦ ap (λ b. cond b (a ∷ filter p (range_with_len (a + 1) n)) (filter p (range_with_len (a + 1) n))) (h a other)
      ∙ filter_one p r h (a + 1) n (λ t. (let b = w t in let l = b.0 in let u = b.1 in let ne : (r ≡ a → ⊥) = other in (omega arith, omega arith)))
]

never : (b : Bool) → (not b && b) ≡ false
never true = refl
never false = refl

-- ---- an entry that is nothing to rounds makes no team
pub made_none : (h : List Entry) (e : Entry) → happens control e.image.0 e.event.line e.event.ask e.event.reply ≡ None → (t : ℕ) (ts : List Team) → made_by t ts h e ≡ []
made_none h e n t [] = refl
made_none h e n t (x ∷ xs) =
    ap (λ rs. made_in_rounds t x.members (h ++ e ∷ []) rs ++ made_by (suc t) xs h e)
    (filter_none (closes_now t x.members (happened control h) (happened control (h ++ e ∷ [])))
    (λ r. ap (λ now. closes_now t x.members (happened control h) now r) (happened_none control h e n) ∙ never (has_closed x.members t r (happened control h)))
    (range_with_len 1 (most_joined t x.members (happened control (h ++ e ∷ [])))))
    ∙ made_none h e n (suc t) xs

-- ---- an arrival makes the teams of its own round, where it closes it
module _ (team i : ℕ) (kind : RoundKind) (line : ℕ) (hs : List Happening) where
  pub foreign_count : (t j : ℕ) → (team ≡ t → ⊥) → arrivals t j (hs ++ arrives team i kind line ∷ []) ≡ arrivals t j hs
  foreign_count t j n =
      let e : arrivals t j (hs ++ arrives team i kind line ∷ []) ≡ arrivals t j hs + 0 = arrivals_more t j hs (arrives team i kind line) ∙ ap (λ b. arrivals t j hs + cond (b && nat_eq i j) 1 0) (ne_eqb team t n) in
      omega arith

  -- the rounds of another team don't hear of it
  pub foreign_closed : (ms : List ℕ) (t r : ℕ) → (team ≡ t → ⊥) → has_closed ms t r (hs ++ arrives team i kind line ∷ []) ≡ has_closed ms t r hs
  foreign_closed ms t r n =
      ap (λ b. b && list_all (λ m. has_arrived t r m (hs ++ arrives team i kind line ∷ []) || has_ended m (hs ++ arrives team i kind line ∷ [])) ms)
      (any_same (λ m. has_arrived t r m (hs ++ arrives team i kind line ∷ [])) (λ m. has_arrived t r m hs) (λ m. ap (nat_le r) (foreign_count t m n)) ms)
      ∙ ap (λ b. list_any (λ m. has_arrived t r m hs) ms && b)
      (all_same (λ m. has_arrived t r m (hs ++ arrives team i kind line ∷ []) || has_ended m (hs ++ arrives team i kind line ∷ [])) (λ m. has_arrived t r m hs || has_ended m hs)
      (λ m. ap (λ k. nat_le r k || has_ended m (hs ++ arrives team i kind line ∷ [])) (foreign_count t m n) ∙ ap (λ b. has_arrived t r m hs || b) (ended_stays team i kind line hs m)) ms)

arrived_most : (t r : ℕ) (ms : List ℕ) (hs : List Happening) → list_any (λ m. has_arrived t r m hs) ms ≡ true → r ≤ most_joined t ms hs
arrived_most t r [] hs h = absurd (cc)
arrived_most t r (m ∷ ms) hs h = elim (or_cases (has_arrived t r m hs) (list_any (λ k. has_arrived t r k hs) ms) h) [
  | inl a ↦ (let l = leb-true r (arrivals t m hs) a in omega arith)
  | inr b ↦ (let l = arrived_most t r ms hs b in omega arith)
]

module _ (h : List Entry) (e : Entry) (team i : ℕ) (kind : RoundKind) (line : ℕ) (is : happens control e.image.0 e.event.line e.event.ask e.event.reply ≡ Some (arrives team i kind line)) where
  -- the round that it joins
  abbrev joined : ℕ
  joined = suc (arrivals team i (happened control h))

  -- the teams that it makes: those of its round, where that closes now, and none of another team
  abbrev pub made_there : ℕ → List Team → List Team
  made_there t [] = []
  made_there t (x ∷ xs) =
      cond (nat_eq t team) (cond (closes_now t x.members (happened control h) (happened control (h ++ e ∷ [])) joined) (teams_made t joined x.members (h ++ e ∷ []) ++ []) []) [] ++ made_there (suc t) xs

  now_is : happened control (h ++ e ∷ []) ≡ happened control h ++ arrives team i kind line ∷ []
  now_is = happened_some control h e (arrives team i kind line) is

  here : (t : ℕ) (x : Team) → nat_eq t team ≡ true → t ≡ team → made_in_team t x.members h e ≡ cond (closes_now t x.members (happened control h) (happened control (h ++ e ∷ [])) joined) (teams_made t joined x.members (h ++ e ∷ []) ++ []) []
  here t x b same =
      ap (made_in_rounds t x.members (h ++ e ∷ []))
      (filter_one (closes_now t x.members (happened control h) (happened control (h ++ e ∷ []))) joined
      (λ r o. ap (λ now. closes_now t x.members (happened control h) now r) now_is
      ∙ ap (λ c. not (has_closed x.members t r (happened control h)) && c) (subst (λ q. has_closed x.members q r (happened control h ++ arrives team i kind line ∷ []) ≡ has_closed x.members q r (happened control h)) (sym same) (closed_other team i kind line (happened control h) x.members r o))
      ∙ never (has_closed x.members t r (happened control h)))
      1 (most_joined t x.members (happened control (h ++ e ∷ [])))
      (λ c. (
      let closed = (and_parts (not (has_closed x.members t joined (happened control h))) (has_closed x.members t joined (happened control (h ++ e ∷ []))) c).1 in
      let arrived = (and_parts (list_any (λ m. has_arrived t joined m (happened control (h ++ e ∷ []))) x.members) _ closed).0 in
      let l = arrived_most t joined x.members (happened control (h ++ e ∷ [])) arrived in
      (omega arith, omega arith))))
      ∙ elim (cases_Bool (closes_now t x.members (happened control h) (happened control (h ++ e ∷ [])) joined)) [ inl y ↦ rw y refl | inr z ↦ rw z refl ]

  elsewhere : (t : ℕ) (x : Team) → (team ≡ t → ⊥) → made_in_team t x.members h e ≡ []
  elsewhere t x o =
      ap (made_in_rounds t x.members (h ++ e ∷ []))
      (filter_none (closes_now t x.members (happened control h) (happened control (h ++ e ∷ [])))
      (λ r. ap (λ now. closes_now t x.members (happened control h) now r) now_is
      ∙ ap (λ c. not (has_closed x.members t r (happened control h)) && c) (foreign_closed team i kind line (happened control h) x.members t r o)
      ∙ never (has_closed x.members t r (happened control h)))
      (range_with_len 1 (most_joined t x.members (happened control (h ++ e ∷ [])))))

  pub made_arrival : (t : ℕ) (ts : List Team) → made_by t ts h e ≡ made_there t ts
  made_arrival t [] = refl
  made_arrival t (x ∷ xs) = elim (cases_eq team t) [
    | inl same ↦ (let b = eq-eqb t team (sym same) in ap (λ l. l ++ made_by (suc t) xs h e) (here t x b (sym same)) ∙ rw b (ap (λ l. cond (closes_now t x.members (happened control h) (happened control (h ++ e ∷ [])) joined) (teams_made t joined x.members (h ++ e ∷ []) ++ []) [] ++ l) (made_arrival (suc t) xs)))
    | inr other ↦ (let b = ne_eqb t team (λ q. other (sym q)) in ap (λ l. l ++ made_by (suc t) xs h e) (elsewhere t x other) ∙ rw b (made_arrival (suc t) xs))
  ]

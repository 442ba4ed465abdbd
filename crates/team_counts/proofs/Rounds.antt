-- A round makes no more teams than members arrived in it.
use Rattle.std.proofs.Common.{◌≡◌, ℕ, suc, ◌+◌, ◌≤◌, cond, List, [], ◌∷◌, ◌++◌, length, inl, inr, refl, ap, sym, ◌∙◌, subst, arith}
use Rattle.std.specs.Prelude.{ℤ, pos, int_lt, int_le, nat_le, Option, Some, None}
use Rattle.std.specs.List.{cons_option}
use Rattle.std.specs.Ordering.{int_eq}
use Rattle.std.proofs.lemmas.List.{length-map}
use Rattle.std.proofs.lemmas.Bool.{cases_Bool, and_from, le-leb}
use Rattle.caf_events.specs.declared.event.Entry.{Entry}
use Rattle.object_rules.specs.Happenings.{Happening, control, happened}
use Rattle.object_rules.specs.TeamRounds.{arrivals}
use Rattle.object_rules.specs.FormedTeams.{FormArg, put_number, numbers_given, teams_of}
use Rattle.object_rules.specs.BoardTeams.{nth_arrival, round_of, form_arg, form_args, teams_made}
use Rattle.team_laws.proofs.Arrivals.{nth_at, cons_arrivals}
use Rattle.team_laws.proofs.Rounds.{happened_append}
use Rattle.team_laws.proofs.Departures.{made_or_none, as_team, forms_made}
use Rattle.team_counts.proofs.Sums.{sum_of, is_within}

-- ---- lengths
put_few : (n : ℤ) (xs : List ℤ) → length (put_number n xs) ≤ suc (length xs)
put_few n [] = omega arith
put_few n (x ∷ xs) = elim (cases_Bool (int_eq n x)) [
  | inl t ↦ rw t (omega arith)
  | inr f ↦ elim (cases_Bool (int_lt n x)) [
    | inl t ↦ rw (f, t) (omega arith)
    | inr g ↦ (let r = put_few n xs in rw (f, g) (omega arith))
  ]
]

numbers_few : (args : List FormArg) → length (numbers_given args) ≤ length args
numbers_few [] = omega arith
numbers_few (a ∷ args) = let r = numbers_few args in let p = put_few a.number (numbers_given args) in omega arith

teams_of_few : (ns : List ℤ) (args : List FormArg) → length (teams_of ns args) ≤ length ns
teams_of_few [] args = omega arith
teams_of_few (n ∷ ns) args = let r = teams_of_few ns args in elim
    (cases_Bool (int_le (pos 1) n)) [ inl t ↦ rw t (omega arith) | inr f ↦ rw f (omega arith) ]

option_few : {A : Type 0} (o : Option A) (xs : List A) (k : ℕ) → length xs ≤ k → length (cons_option o xs) ≤ suc k
option_few None xs k h = omega arith
option_few (Some x) xs k h = omega arith

args_few : (es : List Entry) → length (form_args es) ≤ length es
args_few [] = omega arith
args_few (e ∷ es) = option_few (form_arg e.image.0 e.event.ask) (form_args es) (length es) (args_few es)

pub happened_few : (h : List Entry) → length (happened control h) ≤ length h
happened_few [] = omega arith
happened_few (e ∷ h) = option_few _ (happened control h) (length h) (happened_few h)

made_few : (t r : ℕ) (ms : List ℕ) (f : List Entry) → length (teams_made t r ms f) ≤ length (round_of control t r ms f)
made_few t r ms f =
    let args = form_args (round_of control t r ms f) in
    let ns = teams_of (numbers_given args) args in
    elim (made_or_none t r ms f) [
      | inl nil ↦ subst (λ z. length z ≤ length (round_of control t r ms f)) (sym nil) (omega arith)
      | inr forms ↦ (
          let a = args_few (round_of control t r ms f) in
          let b = numbers_few args in
          let c = teams_of_few (numbers_given args) args in
          let d = length-map ns (as_team t r ms f) in
          subst (λ z. length z ≤ length (round_of control t r ms f)) (sym (forms_made t r ms f forms)) (omega arith))
    ]

-- ---- arrivals
arrivals_append : (t i : ℕ) (xs ys : List Happening) → arrivals t i (xs ++ ys) ≡ arrivals t i xs + arrivals t i ys
arrivals_append t i [] ys = omega arith
arrivals_append t i (x ∷ xs) ys = let r = arrivals_append t i xs ys in omega arith

module _ (t r : ℕ) (f g : List Entry) where
  -- an arrival of this number before the close is one after it
  nth_within : (m : ℕ) (e : Entry) → nth_arrival control t m r f ≡ Some e → is_within (arrivals t m (happened control (f ++ g))) r ≡ 1
  nth_within m e h =
      let w = nth_at control t m r f e h in
      let a : arrivals t m (happened control f) ≡ arrivals t m (happened control w.before) + arrivals t m (happened control (e ∷ w.after))
      = ap (λ z. arrivals t m (happened control z)) w.split ∙ ap (arrivals t m)
      (happened_append control w.before (e ∷ w.after)) ∙ arrivals_append t m (happened control w.before)
      (happened control (e ∷ w.after)) in
      let b : arrivals t m (happened control (e ∷ w.after)) ≡ 1 + arrivals t m (happened control w.after) = rw w.joins at
      (cons_arrivals control t m e w.after) in
      let c : arrivals t m (happened control (f ++ g)) ≡ arrivals t m (happened control f) + arrivals t m (happened control g)
      = ap (arrivals t m) (happened_append control f g) ∙ arrivals_append t m (happened control f) (happened control g) in
      let n = w.count in
      let one = le-leb 1 r (omega arith) in
      let all = le-leb r (arrivals t m (happened control (f ++ g))) (omega arith) in
      ap (λ b. cond b 1 0) (and_from (nat_le 1 r) (nat_le r (arrivals t m (happened control (f ++ g)))) one all)

  one_more : (m k : ℕ) (o : Option Entry) (es : List Entry)
      → ((e : Entry) → o ≡ Some e → is_within (arrivals t m (happened control (f ++ g))) r ≡ 1) → length es ≤ k
      → length (cons_option o es) ≤ is_within (arrivals t m (happened control (f ++ g))) r + k
  one_more m k None es h le = omega arith
  one_more m k (Some e) es h le = let one = h e refl in omega arith

  round_few : (ms : List ℕ) → length (round_of control t r ms f) ≤ sum_of (λ m. is_within (arrivals t m (happened control (f ++ g))) r) ms
  round_few [] = omega arith
  round_few (m ∷ ms) = one_more m (sum_of (λ m. is_within (arrivals t m (happened control (f ++ g))) r) ms) (nth_arrival control t m r f)
      (round_of control t r ms f) (λ e. nth_within m e) (round_few ms)

  pub round_makes : (ms : List ℕ) → length (teams_made t r ms f) ≤ sum_of (λ m. is_within (arrivals t m (happened control (f ++ g))) r) ms
  round_makes ms = let a = made_few t r ms f in let b = round_few ms in omega arith

-- What happened at the board is told by what each image said: how often it arrived, and whether it stopped.
use Rattle.std.proofs.Common.{◌≡◌, ℕ, ◌+◌, Bool, true, false, nat_eq, nat_le, ◌&&◌, ◌||◌, cond, List, [], ◌∷◌, ◌++◌, map, inl, inr, refl, ap, sym, ◌∙◌, arith}
use Rattle.std.specs.Prelude.{Option, Some, None}
use Rattle.std.specs.List.{list_any, list_all, cons_option}
use Rattle.std.proofs.lemmas.Bool.{cases_Bool, both_ways, eqb-true, eq-eqb}
use Rattle.trace_theory.specs.Entries.{Each}
use Rattle.trace_theory.specs.Machines.{Said}
use Rattle.caf_events.specs.declared.ask.Ask.{Ask}
use Rattle.caf_events.specs.declared.ask.Ask.TheVariants as asks
use Rattle.caf_events.specs.declared.reply.Reply.{Reply}
use Rattle.caf_events.specs.declared.reply.Reply.TheVariants as replies
use Rattle.caf_events.specs.declared.event.Entry.{Entry}
use Rattle.caf_events.specs.Asks.{place_of, object_of}
use Rattle.object_rules.specs.Happenings.{Happening, Class, control, collective, images, joining, happens, happened, is_stop, has_stopped, is_failure, has_failed, has_ended}
use Rattle.object_rules.specs.TeamRounds.{arrivals, has_arrived, has_closed}
use Rattle.object_rules.specs.BoardTeams.{arrives_there}
use Rattle.team_laws.proofs.Arrivals.{joined_image, cons_arrivals}
use Rattle.core_runs.specs.Lists.{key_of, said}
use Rattle.core_runs.specs.CoreRuns.{of_image, at_board, said_by}
use Rattle.every_order.specs.Decided.{is_free}
use Rattle.free_replies.proofs.Alike.{IsFree}
use Rattle.round_words.specs.RoundRuns.{arrivals_said, joins_by}

pub any_ext : {A : Type 0} (p q : A → Bool) → ((x : A) → p x ≡ q x) → (xs : List A) → list_any p xs ≡ list_any q xs
any_ext p q same [] = refl
any_ext p q same (x ∷ xs) = ap (λ b. b || list_any p xs) (same x) ∙ ap (λ b. q x || b) (any_ext p q same xs)

pub all_ext : {A : Type 0} (p q : A → Bool) → ((x : A) → p x ≡ q x) → (xs : List A) → list_all p xs ≡ list_all q xs
all_ext p q same [] = refl
all_ext p q same (x ∷ xs) = ap (λ b. b && list_all p xs) (same x) ∙ ap (λ b. q x && b) (all_ext p q same xs)

-- nothing happens there by a step elsewhere
pub nothing_elsewhere : (class : Class) (i line : ℕ) (a : Ask) (r : Reply) → nat_eq (object_of (place_of a)) 1 ≡ false → happens class i line a r ≡ None
nothing_elsewhere control i line (asks.Arrive team arriving) r h = absurd (cc)
nothing_elsewhere control i line (asks.Stop code) r h = absurd (cc)
nothing_elsewhere control i line asks.Gone r h = absurd (cc)
nothing_elsewhere control i line a r h = refl
nothing_elsewhere collective i line (asks.Gather team op root kind values) r h = absurd (cc)
nothing_elsewhere collective i line (asks.Stop code) r h = absurd (cc)
nothing_elsewhere collective i line asks.Gone r h = absurd (cc)
nothing_elsewhere collective i line a r h = refl
nothing_elsewhere images i line (asks.Pair named) r h = absurd (cc)
nothing_elsewhere images i line (asks.Stop code) r h = absurd (cc)
nothing_elsewhere images i line asks.Gone r h = absurd (cc)
nothing_elsewhere images i line a r h = refl

pub happened_board : (class : Class) (g : List Entry) → happened class (at_board g) ≡ happened class g
happened_board class [] = refl
happened_board class (e ∷ g) = elim (cases_Bool (nat_eq (key_of e) 1)) [
  | inl t ↦ rw t (ap (cons_option (happens class e.image.0 e.event.line e.event.ask e.event.reply)) (happened_board class g))
  | inr f ↦ rw f (happened_board class g ∙ sym (ap (λ o. cons_option o (happened class g)) (nothing_elsewhere class e.image.0 e.event.line e.event.ask e.event.reply f)))
]

-- whether it stopped
abbrev pub is_stop_ask : Ask → Bool
is_stop_ask (asks.Stop code) = true
is_stop_ask a = false

abbrev pub stopped_said : List (Said Ask Reply) → Bool
stopped_said [] = false
stopped_said (w ∷ ws) = is_stop_ask w.ask || stopped_said ws

pub arrivals_append : (class : Class) (team j : ℕ) (xs ys : List (Said Ask Reply)) → arrivals_said class team j (xs ++ ys) ≡ arrivals_said class team j xs + arrivals_said class team j ys
arrivals_append class team j [] ys = omega arith
arrivals_append class team j (w ∷ xs) ys = let e = arrivals_append class team j xs ys in omega arith

or_assoc : (a b c : Bool) → (a || (b || c)) ≡ ((a || b) || c)
or_assoc true b c = refl
or_assoc false b c = refl

pub stopped_append : (xs ys : List (Said Ask Reply)) → stopped_said (xs ++ ys) ≡ (stopped_said xs || stopped_said ys)
stopped_append [] ys = refl
stopped_append (w ∷ xs) ys = ap (λ b. is_stop_ask w.ask || b) (stopped_append xs ys) ∙ or_assoc (is_stop_ask w.ask) (stopped_said xs) (stopped_said ys)

module _ (class : Class) (j team : ℕ) where
  said_first : (x : Entry) (g : List Entry) (o : Bool) → arrivals_said class team j (map (λ (y : Entry). said y.event) (cond o (x ∷ g) g))
      ≡ cond o (cond (joins_by class team j (said x.event)) 1 0 + arrivals_said class team j (map (λ (y : Entry). said y.event) g)) (arrivals_said class team j (map (λ (y : Entry). said y.event) g))
  said_first x g true = refl
  said_first x g false = refl

  counts_own : (x : Entry) (m : ℕ) (o : Bool) → nat_eq x.image.0 j ≡ o → cond (arrives_there team j (happens class x.image.0 x.event.line x.event.ask x.event.reply)) 1 0 + m
      ≡ cond o (cond (joins_by class team j (said x.event)) 1 0 + m) m
  counts_own x m true own = ap (λ i. cond (arrives_there team j (happens class i x.event.line x.event.ask x.event.reply)) 1 0 + m) (eqb-true x.image.0 j own)
  counts_own x m false own = elim (cases_Bool (arrives_there team j (happens class x.image.0 x.event.line x.event.ask x.event.reply))) [
    | inl t ↦ absurd (both_ways _ own (eq-eqb x.image.0 j (joined_image class team j x.image.0 x.event.line x.event.ask x.event.reply t)))
    | inr f ↦ rw f (omega arith)
  ]

  -- An image's arrivals are those of its words.
  pub own_arrivals : (g : List Entry) → arrivals team j (happened class g) ≡ arrivals_said class team j (said_by j g)
  own_arrivals [] = refl
  own_arrivals (x ∷ g) =
      cons_arrivals class team j x g
      ∙ ap (λ m. cond (arrives_there team j (happens class x.image.0 x.event.line x.event.ask x.event.reply)) 1 0 + m) (own_arrivals g)
      ∙ counts_own x (arrivals_said class team j (said_by j g)) (nat_eq x.image.0 j) refl
      ∙ sym (said_first x (of_image j g) (nat_eq x.image.0 j))

-- what is asked of one thing, if it happened
abbrev by_option : (Happening → Bool) → Option Happening → Bool
by_option test None = false
by_option test (Some x) = test x

any_first : (test : Happening → Bool) (o : Option Happening) (hs : List Happening) → list_any test (cons_option o hs) ≡ (by_option test o || list_any test hs)
any_first test None hs = refl
any_first test (Some x) hs = refl

joining_is : (test : Happening → Bool) (r : Reply) (x : Happening) → test x ≡ false → by_option test (joining r x) ≡ false
joining_is test (replies.Round round) x h = h
joining_is test r x h = refl

stop_at : (class : Class) (i j line : ℕ) (a : Ask) (r : Reply) → by_option (is_stop j) (happens class i line a r) ≡ cond (is_stop_ask a) (nat_eq i j) false
stop_at control i j line (asks.Arrive team arriving) r = joining_is (is_stop j) r _ refl
stop_at control i j line (asks.Stop code) r = refl
stop_at control i j line asks.Gone r = refl
stop_at control i j line a r = refl
stop_at collective i j line (asks.Gather team op root kind values) r = joining_is (is_stop j) r _ refl
stop_at collective i j line (asks.Stop code) r = refl
stop_at collective i j line asks.Gone r = refl
stop_at collective i j line a r = refl
stop_at images i j line (asks.Pair named) r = refl
stop_at images i j line (asks.Stop code) r = refl
stop_at images i j line asks.Gone r = refl
stop_at images i j line a r = refl

fail_at : (class : Class) (i j line : ℕ) (a : Ask) (r : Reply) → is_free a r ≡ true → by_option (is_failure j) (happens class i line a r) ≡ false
fail_at control i j line (asks.Arrive team arriving) r f = joining_is (is_failure j) r _ refl
fail_at control i j line (asks.Stop code) r f = refl
fail_at control i j line asks.Gone r f = absurd (cc)
fail_at control i j line a r f = refl
fail_at collective i j line (asks.Gather team op root kind values) r f = joining_is (is_failure j) r _ refl
fail_at collective i j line (asks.Stop code) r f = refl
fail_at collective i j line asks.Gone r f = absurd (cc)
fail_at collective i j line a r f = refl
fail_at images i j line (asks.Pair named) r f = refl
fail_at images i j line (asks.Stop code) r f = refl
fail_at images i j line asks.Gone r f = absurd (cc)
fail_at images i j line a r f = refl

stop_own : (x : Entry) (g : List Entry) (rest : Bool) (o : Bool) → rest ≡ stopped_said (map (λ (y : Entry). said y.event) g)
    → (cond (is_stop_ask x.event.ask) o false || rest) ≡ stopped_said (map (λ (y : Entry). said y.event) (cond o (x ∷ g) g))
stop_own x g rest true h = by (is_stop_ask x.event.ask)
  where
    by : (b : Bool) → (cond b true false || rest) ≡ (b || stopped_said (map (λ (y : Entry). said y.event) g))
    by true = refl
    by false = h
stop_own x g rest false h = by (is_stop_ask x.event.ask)
  where
    by : (b : Bool) → (cond b false false || rest) ≡ stopped_said (map (λ (y : Entry). said y.event) g)
    by true = h
    by false = h

-- An image has stopped where it said so.
pub own_stops : (class : Class) (j : ℕ) (g : List Entry) → has_stopped j (happened class g) ≡ stopped_said (said_by j g)
own_stops class j [] = refl
own_stops class j (x ∷ g) =
    any_first (is_stop j) (happens class x.image.0 x.event.line x.event.ask x.event.reply) (happened class g)
    ∙ ap (λ b. b || has_stopped j (happened class g)) (stop_at class x.image.0 j x.event.line x.event.ask x.event.reply)
    ∙ stop_own x (of_image j g) (has_stopped j (happened class g)) (nat_eq x.image.0 j) (own_stops class j g)

-- and none has failed
pub none_failed : (class : Class) (j : ℕ) (g : List Entry) → Each IsFree g → has_failed j (happened class g) ≡ false
none_failed class j [] f = refl
none_failed class j (x ∷ g) f =
    any_first (is_failure j) (happens class x.image.0 x.event.line x.event.ask x.event.reply) (happened class g)
    ∙ ap (λ b. b || has_failed j (happened class g)) (fail_at class x.image.0 j x.event.line x.event.ask x.event.reply f.0)
    ∙ none_failed class j g f.1

pub or_none : (a b : Bool) → b ≡ false → (a || b) ≡ a
or_none true b h = refl
or_none false b h = h

pub own_ends : (class : Class) (j : ℕ) (g : List Entry) → Each IsFree g → has_ended j (happened class g) ≡ stopped_said (said_by j g)
own_ends class j g f = or_none (has_stopped j (happened class g)) (has_failed j (happened class g)) (none_failed class j g f) ∙ own_stops class j g

-- whether a round has closed, by the words of its members
abbrev pub closed_said : Class → ℕ → ℕ → List ℕ → (ℕ → List (Said Ask Reply)) → Bool
closed_said class team k ms words =
    list_any (λ m. nat_le k (arrivals_said class team m (words m))) ms && list_all (λ m. nat_le k (arrivals_said class team m (words m)) || stopped_said (words m)) ms

pub closed_is : (class : Class) (team k : ℕ) (ms : List ℕ) (g : List Entry) → Each IsFree g → has_closed ms team k (happened class g) ≡ closed_said class team k ms (λ m. said_by m g)
closed_is class team k ms g f =
    ap (λ b. b && list_all (λ m. has_arrived team k m (happened class g) || has_ended m (happened class g)) ms)
    (any_ext (λ m. has_arrived team k m (happened class g)) (λ m. nat_le k (arrivals_said class team m (said_by m g))) (λ m. ap (nat_le k) (own_arrivals class m team g)) ms)
    ∙ ap (λ b. list_any (λ m. nat_le k (arrivals_said class team m (said_by m g))) ms && b)
    (all_ext (λ m. has_arrived team k m (happened class g) || has_ended m (happened class g)) (λ m. nat_le k (arrivals_said class team m (said_by m g)) || stopped_said (said_by m g))
    (λ m. ap (λ c. nat_le k c || has_ended m (happened class g)) (own_arrivals class m team g) ∙ ap (λ c. nat_le k (arrivals_said class team m (said_by m g)) || c) (own_ends class m g f)) ms)

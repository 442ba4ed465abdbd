-- What the arrivals at a round bring is told by the images' words.
use Rattle.std.proofs.Common.{◌≡◌, ℕ, ◌+◌, ◌-◌, ◌≤◌, Bool, true, false, nat_eq, cond, List, [], ◌∷◌, ◌++◌, map, inl, inr, refl, ap, sym, ◌∙◌, subst, arith}
use Rattle.std.specs.Prelude.{Option, Some, None, filter_map}
use Rattle.std.specs.List.{list_all, cons_option}
use Rattle.std.proofs.lemmas.Bool.{cases_Bool, and_parts, both_ways, eqb-true, eq-eqb}
use Rattle.std.proofs.lemmas.Bool.Decides.{eqb_tells}
use Rattle.trace_theory.specs.Machines.{Said}
use Rattle.caf_events.specs.declared.ask.Ask.{Ask}
use Rattle.caf_events.specs.declared.reply.Reply.{Reply}
use Rattle.caf_events.specs.declared.event.Entry.{Entry}
use Rattle.object_rules.specs.Happenings.{Class, happens}
use Rattle.object_rules.specs.BoardTeams.{arrives_there, nth_arrival, round_of}
use Rattle.team_laws.proofs.Arrivals.{joined_image}
use Rattle.core_runs.specs.Lists.{key_of, said}
use Rattle.core_runs.specs.CoreRuns.{of_image, at_board, said_by}
use Rattle.round_words.proofs.BoardWords.{nothing_elsewhere}
use Rattle.round_words.specs.RoundRuns.{arrivals_said, joins_by}

filter_where : {A B : Type 0} (c : A → Bool) (f h : A → Option B) → ((x : A) → c x ≡ true → f x ≡ h x) → (xs : List A) → list_all c xs ≡ true → filter_map f xs ≡ filter_map h xs
filter_where c f h same [] all = refl
filter_where c f h same (x ∷ xs) all =
    let r = and_parts (c x) (list_all c xs) all in
    ap (λ o. cons_option o (filter_map f xs)) (same x r.0) ∙ ap (cons_option (h x)) (filter_where c f h same xs r.1)

-- what an arrival brings, and several
abbrev given_by : {A : Type 0} → (ℕ → Ask → Option A) → Option Entry → Option A
given_by give None = None
given_by give (Some e) = give e.image.0 e.event.ask

abbrev pub all_given : {A : Type 0} → (ℕ → Ask → Option A) → List Entry → List A
all_given give es = filter_map (λ e. give e.image.0 e.event.ask) es

module _ {A : Type 0} (class : Class) (give : ℕ → Ask → Option A) where
  -- what an image brings to round k of a team, by its words
  abbrev pub brought : ℕ → ℕ → ℕ → List (Said Ask Reply) → Option A
  brought team j k [] = None
  brought team j k (w ∷ ws) = cond (joins_by class team j w) (cond (nat_eq k 1) (give j w.ask) (brought team j (k - 1) ws)) (brought team j k ws)

  given_step : (e : Entry) (x y : Option Entry) (b c : Bool) → given_by give (cond b (cond c (Some e) x) y) ≡ cond b (cond c (give e.image.0 e.event.ask) (given_by give x)) (given_by give y)
  given_step e x y true true = refl
  given_step e x y true false = refl
  given_step e x y false c = refl

  module _ (team j : ℕ) where
    first_word : (k : ℕ) (e : Entry) (g : List Entry) (o : Bool) → brought team j k (map (λ (y : Entry). said y.event) (cond o (e ∷ g) g))
        ≡ cond o (cond (joins_by class team j (said e.event)) (cond (nat_eq k 1) (give j e.event.ask) (brought team j (k - 1) (map (λ (y : Entry). said y.event) g))) (brought team j k (map (λ (y : Entry). said y.event) g)))
        (brought team j k (map (λ (y : Entry). said y.event) g))
    first_word k e g true = refl
    first_word k e g false = refl

    own_step : (e : Entry) (x y : Option A) (o : Bool) → nat_eq e.image.0 j ≡ o → cond (arrives_there team j (happens class e.image.0 e.event.line e.event.ask e.event.reply)) x y
        ≡ cond o (cond (joins_by class team j (said e.event)) x y) y
    own_step e x y true own = ap (λ i. cond (arrives_there team j (happens class i e.event.line e.event.ask e.event.reply)) x y) (eqb-true e.image.0 j own)
    own_step e x y false own = elim (cases_Bool (arrives_there team j (happens class e.image.0 e.event.line e.event.ask e.event.reply))) [
      | inl t ↦ absurd (both_ways _ own (eq-eqb e.image.0 j (joined_image class team j e.image.0 e.event.line e.event.ask e.event.reply t)))
      | inr f ↦ rw f refl
    ]

    -- an arrival there is the image's own
    image_step : (e : Entry) (x y : Option A) (c : Bool) → cond (arrives_there team j (happens class e.image.0 e.event.line e.event.ask e.event.reply)) (cond c (give e.image.0 e.event.ask) x) y
        ≡ cond (arrives_there team j (happens class e.image.0 e.event.line e.event.ask e.event.reply)) (cond c (give j e.event.ask) x) y
    image_step e x y c = elim (cases_Bool (arrives_there team j (happens class e.image.0 e.event.line e.event.ask e.event.reply))) [
      | inl t ↦ rw t (ap (λ i. cond c (give i e.event.ask) x) (joined_image class team j e.image.0 e.event.line e.event.ask e.event.reply t))
      | inr f ↦ rw f refl
    ]

    nth_is : (k : ℕ) (g : List Entry) → given_by give (nth_arrival class team j k g) ≡ brought team j k (said_by j g)
    nth_is k [] = refl
    nth_is k (e ∷ g) =
        let here = arrives_there team j (happens class e.image.0 e.event.line e.event.ask e.event.reply) in
        given_step e (nth_arrival class team j (k - 1) g) (nth_arrival class team j k g) here (nat_eq k 1)
        ∙ ap (λ v. cond here (cond (nat_eq k 1) (give e.image.0 e.event.ask) v) (given_by give (nth_arrival class team j k g))) (nth_is (k - 1) g)
        ∙ ap (λ v. cond here (cond (nat_eq k 1) (give e.image.0 e.event.ask) (brought team j (k - 1) (said_by j g))) v) (nth_is k g)
        ∙ image_step e (brought team j (k - 1) (said_by j g)) (brought team j k (said_by j g)) (nat_eq k 1)
        ∙ own_step e (cond (nat_eq k 1) (give j e.event.ask) (brought team j (k - 1) (said_by j g))) (brought team j k (said_by j g)) (nat_eq e.image.0 j) refl
        ∙ sym (first_word k e (of_image j g) (nat_eq e.image.0 j))

    nth_board : (k : ℕ) (g : List Entry) → nth_arrival class team j k (at_board g) ≡ nth_arrival class team j k g
    nth_board k [] = refl
    nth_board k (e ∷ g) = elim (cases_Bool (nat_eq (key_of e) 1)) [
      | inl t ↦ rw t (
          ap (λ v. cond (arrives_there team j (happens class e.image.0 e.event.line e.event.ask e.event.reply)) (cond (nat_eq k 1) (Some e) v) (nth_arrival class team j k (at_board g))) (nth_board (k - 1) g)
          ∙ ap (λ v. cond (arrives_there team j (happens class e.image.0 e.event.line e.event.ask e.event.reply)) (cond (nat_eq k 1) (Some e) (nth_arrival class team j (k - 1) g)) v) (nth_board k g))
      | inr f ↦ rw f (
          nth_board k g
          ∙ sym (ap (λ o. cond (arrives_there team j o) (cond (nat_eq k 1) (Some e) (nth_arrival class team j (k - 1) g)) (nth_arrival class team j k g)) (nothing_elsewhere class e.image.0 e.event.line e.event.ask e.event.reply f)))
    ]

    -- what comes behind its arrival changes nothing
    pub brought_append : (k : ℕ) (ws more : List (Said Ask Reply)) → 1 ≤ k → k ≤ arrivals_said class team j ws → brought team j k (ws ++ more) ≡ brought team j k ws
    brought_append k [] more low high = absurd (omega arith)
    brought_append k (w ∷ ws) more low high = elim (cases_Bool (joins_by class team j w)) [
      | inl t ↦ elim (eqb_tells k 1) [
        | inl one ↦ rw (t, one.0) refl
        | inr other ↦ (
            let high' : k ≤ 1 + arrivals_said class team j ws = subst (λ b. k ≤ cond b 1 0 + arrivals_said class team j ws) t high in
            let ne = other.1 in
            rw (t, other.0) (brought_append (k - 1) ws more (omega arith) (omega arith)))
      ]
      | inr f ↦ (
          let high' : k ≤ 0 + arrivals_said class team j ws = subst (λ b. k ≤ cond b 1 0 + arrivals_said class team j ws) f high in
          rw f (brought_append k ws more low (omega arith)))
    ]

  all_step : (o : Option Entry) (es : List Entry) → all_given give (cons_option o es) ≡ cons_option (given_by give o) (all_given give es)
  all_step None es = refl
  all_step (Some e) es = refl

  all_are : (team k : ℕ) (ms : List ℕ) (g : List Entry) → all_given give (round_of class team k ms (at_board g)) ≡ filter_map (λ m. brought team m k (said_by m g)) ms
  all_are team k [] g = refl
  all_are team k (m ∷ ms) g =
      all_step (nth_arrival class team m k (at_board g)) (round_of class team k ms (at_board g))
      ∙ ap (λ o. cons_option o (all_given give (round_of class team k ms (at_board g)))) (ap (given_by give) (nth_board team m k g) ∙ nth_is team m k g)
      ∙ ap (cons_option (brought team m k (said_by m g))) (all_are team k ms g)

  -- What is brought to a round by the words that its members say in all, where those that came to it say no less.
  pub brought_told : (team k : ℕ) (ms : List ℕ) (g t : List Entry) (come : ℕ → Bool) → ((m : ℕ) → come m ≡ true → brought team m k (said_by m g) ≡ brought team m k (said_by m t)) → list_all come ms ≡ true
      → all_given give (round_of class team k ms (at_board g)) ≡ filter_map (λ m. brought team m k (said_by m t)) ms
  brought_told team k ms g t come same all =
      all_are team k ms g ∙ filter_where come (λ m. brought team m k (said_by m g)) (λ m. brought team m k (said_by m t)) same ms all

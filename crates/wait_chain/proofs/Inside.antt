-- Who is inside a construct hasn't failed.
use Rattle.std.proofs.Common.{◌≡◌, ℕ, Bool, true, false, nat_eq, ◌||◌, cond, List, [], ◌∷◌, ◌++◌, ◌⊎◌, inl, inr, refl, ap, sym, ◌∙◌, subst}
use Rattle.std.specs.List.{list_any}
use Rattle.std.proofs.lemmas.Bool.{cases_Bool, cases_eq, both_ways, eq-eqb, ne_eqb, eqb-true}
use Rattle.caf_events.specs.declared.ask.Ask.{Ask}
use Rattle.caf_events.specs.declared.ask.Ask.TheVariants as asks
use Rattle.caf_events.specs.declared.event.Entry.{Entry}
use Rattle.caf_events.specs.Asks.{place_of, object_of}
use Rattle.trace_theory.specs.Entries.{Each}
use Rattle.object_rules.specs.Cells.{Declared}
use Rattle.object_rules.specs.Happenings.{control, happened, has_failed}
use Rattle.object_rules.specs.Constructs.{Hold, free, held, left_by, released, abandoned, construct_turn, construct_from, construct_after}
use Rattle.core_runs.specs.Beginnings.{IsOneOf}
use Rattle.core_runs.specs.Lists.{image_of, key_of, said}
use Rattle.core_runs.specs.CoreRuns.{at_board, said_by}
use Rattle.core_runs.specs.Failures.{is_failure_step, is_limit, FailsFrom}
use Rattle.core_runs.specs.Lawful.{IsLawfulTrace}
use Rattle.wait_reason.proofs.Boards.{construct_append}
use Rattle.wait_reason.proofs.Counts.{split_of}
use Rattle.wait_reason.proofs.Fronts.{each_picked}
use Rattle.wait_reason.proofs.Pairing.{said_at, Quiet, fails_quiet}
use Rattle.wait_chain.proofs.Ended.{fails_by, happened_all, failed_is}
use Rattle.wait_chain.proofs.LockTurns.{cond_held, held_same, abandoned_held}

abbrev pub is_entering : Ask → Bool
is_entering (asks.Enter construct) = true
is_entering a = false

released_held : (s : Hold) (i j : ℕ) → released s i ≡ held j → s ≡ held j
released_held (held k) i j h = elim (cases_Bool (nat_eq k i)) [ inl t ↦ absurd (let z : free ≡ held j = rw t at h in cc) | inr f ↦ rw f at h ]
released_held free i j h = h
released_held (left_by k) i j h = h

-- who is inside after a step was inside before, or made the step, which was CRITICAL
inside_before : (c : ℕ) (s : Hold) (i j : ℕ) (a : Ask) → construct_turn c s i a ≡ held j → (s ≡ held j) ⊎ ((i ≡ j) × (is_entering a ≡ true))
inside_before c s i j (asks.Enter d) h = elim (cond_held (nat_eq d c) (held i) s j h) [ inl e ↦ inr (held_same i j e, refl) | inr e ↦ inl e ]
inside_before c s i j (asks.Exit d) h = elim (cond_held (nat_eq d c) (released s i) s j h) [ inl e ↦ inl (released_held s i j e) | inr e ↦ inl e ]
inside_before c s i j asks.Gone h = inl (abandoned_held s i j h)
inside_before c s i j a h = inl h

pub inside_image : (n c : ℕ) (s : Hold) (es : List Entry) (j : ℕ) → Each (λ e. IsOneOf n (image_of e)) es → construct_from c s es ≡ held j → (s ≡ held j) ⊎ IsOneOf n j
inside_image n c s [] j all h = inl h
inside_image n c s (e ∷ es) j all h = elim (inside_image n c (construct_turn c s e.image.0 e.event.ask) es j all.1 h) [
  | inr one ↦ inr one
  | inl now ↦ elim (inside_before c s e.image.0 j e.event.ask now) [ inl was ↦ inl was | inr own ↦ inr (subst (IsOneOf n) own.0 all.0) ]
]

-- an entry that passes a test, and what stands before and behind it
pub record Stands (test : Entry → Bool) (es : List Entry) : Type 0 where
  pub before : List Entry
  pub entry : Entry
  pub after : List Entry
  pub split : es ≡ before ++ entry ∷ after
  pub passes : test entry ≡ true

pub stands : (test : Entry → Bool) (es : List Entry) → list_any test es ≡ true → Stands test es
stands test [] h = absurd (cc)
stands test (e ∷ es) h = elim (cases_Bool (test e)) [
  | inl t ↦ record { before = []; entry = e; after = es; split = refl; passes = t }
  | inr f ↦ (let r = stands test es (rw f at h) in record { before = e ∷ r.before; entry = r.entry; after = r.after; split = ap (λ z. e ∷ z) r.split; passes = r.passes })
]

-- an ask by which image j fails
pub failing : (j i : ℕ) (a : Ask) → fails_by j i a ≡ true → (i ≡ j) × (a ≡ asks.Gone)
failing j i asks.Gone h = (eqb-true i j h, refl)
failing j i a h = absurd (cc)

-- each entry of image j is a step of a failure or a limit
abbrev pub QuietOf : ℕ → Entry → Type 0
QuietOf j e = e.image.0 ≡ j → (is_failure_step e.event.ask || is_limit e.event.ask) ≡ true

each_quiet : (j : ℕ) (es : List Entry) → Each Quiet (said_by j es) → Each (QuietOf j) es
each_quiet j [] h = tt
each_quiet j (e ∷ es) h = elim (cases_Bool (nat_eq (image_of e) j)) [
  | inl t ↦ (let q : Each Quiet (said e.event ∷ said_by j es) = rw t at h in (λ own. q.0, each_quiet j es q.1))
  | inr f ↦ (let q : Each Quiet (said_by j es) = rw f at h in (λ own. absurd (both_ways (nat_eq (image_of e) j) f (eq-eqb (image_of e) j own)), each_quiet j es q))
]

module _ (coarrays : List Declared) (n : ℕ) (t : List Entry) (lawful : IsLawfulTrace coarrays n t) (j : ℕ) where
  -- the entry by which a failed image is gone
  pub record GoneAt : Type 0 where
    pub before : List Entry
    pub entry : Entry
    pub after : List Entry
    pub split : t ≡ before ++ entry ∷ after
    pub own : entry.image.0 ≡ j
    pub ask : entry.event.ask ≡ asks.Gone
    pub quiet : Each (QuietOf j) after

  pub gone_at : has_failed j (happened control (at_board t)) ≡ true → GoneAt
  gone_at h =
      let s = stands (λ (e : Entry). fails_by j e.image.0 e.event.ask) t (sym (failed_is j control t) ∙ sym (ap (has_failed j) (happened_all control t)) ∙ h) in
      let f = failing j s.entry.image.0 s.entry.event.ask s.passes in
      let list : said_by j t ≡ said_by j s.before ++ said s.entry.event ∷ said_by j s.after = ap (said_by j) s.split ∙ said_at j s.before s.after s.entry f.0 in
      let step : is_failure_step s.entry.event.ask ≡ true = ap is_failure_step f.1 in
      record {
        before = s.before;
        entry = s.entry;
        after = s.after;
        split = s.split;
        own = f.0;
        ask = f.1;
        quiet = each_quiet j s.after (fails_quiet j (said_by j s.before) (said_by j s.after) (said s.entry.event) [] step (subst (λ es. FailsFrom j es []) list (lawful.fails j)));
      }

-- a step of a failure or a limit doesn't enter
entering_loud : (a : Ask) → is_entering a ≡ true → (is_failure_step a || is_limit a) ≡ false
entering_loud (asks.Enter construct) h = refl
entering_loud a h = absurd (cc)

outside_stays : (c j : ℕ) (s : Hold) (es : List Entry) → Each (QuietOf j) es → (s ≡ held j → ⊥) → construct_from c s es ≡ held j → ⊥
outside_stays c j s [] quiet out h = out h
outside_stays c j s (e ∷ es) quiet out h =
    outside_stays c j (construct_turn c s e.image.0 e.event.ask) es quiet.1
    (λ now. elim (inside_before c s e.image.0 j e.event.ask now) [ inl was ↦ out was | inr own ↦ both_ways (is_failure_step e.event.ask || is_limit e.event.ask) (entering_loud e.event.ask own.1) (quiet.0 own.0) ]) h

-- an image that is gone isn't inside
pub left_out : (s : Hold) (j : ℕ) → abandoned s j ≡ held j → ⊥
left_out (held k) j h = elim (cases_eq k j) [
  | inl e ↦ (let z : left_by j ≡ held j = rw (eq-eqb k j e) at h in cc)
  | inr ne ↦ (let z : held k ≡ held j = rw (ne_eqb k j ne) at h in ne (held_same k j z))
]
left_out free j h = cc
left_out (left_by k) j h = cc

module _ (coarrays : List Declared) (n : ℕ) (t : List Entry) (lawful : IsLawfulTrace coarrays n t) (j : ℕ) where
  pub inside_left : (c : ℕ) → construct_after c (at_board t) ≡ held j → has_failed j (happened control (at_board t)) ≡ true → ⊥
  inside_left c h failed =
      let g = gone_at coarrays n t lawful j failed in
      let key : key_of g.entry ≡ 1 = ap (λ a. object_of (place_of a)) g.ask in
      let there : at_board t ≡ at_board g.before ++ g.entry ∷ at_board g.after =
      ap at_board g.split ∙ split_of 1 g.before (g.entry ∷ g.after) ∙ ap (λ b. at_board g.before ++ cond b (g.entry ∷ at_board g.after) (at_board g.after)) (eq-eqb (key_of g.entry) 1 key) in
      let s = construct_after c (at_board g.before) in
      let turn : construct_turn c s g.entry.image.0 g.entry.event.ask ≡ abandoned s j = ap (λ a. construct_turn c s g.entry.image.0 a) g.ask ∙ ap (abandoned s) g.own in
      outside_stays c j (construct_turn c s g.entry.image.0 g.entry.event.ask) (at_board g.after) (each_picked (QuietOf j) (λ e. nat_eq (key_of e) 1) g.after g.quiet)
      (λ now. left_out s j (sym turn ∙ now)) (sym (construct_append c free (at_board g.before) (g.entry ∷ at_board g.after)) ∙ sym (ap (construct_after c) there) ∙ h)

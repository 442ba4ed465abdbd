-- An image that goes on after its k-th arrival at a team has departed from round k before it does anything else.
use Rattle.std.proofs.Common.{◌≡◌, ℕ, suc, ◌+◌, ◌<◌, ◌≤◌, true, nat_eq, cond, List, [], ◌∷◌, ◌++◌, inl, inr, refl, ap, sym, ◌∙◌, subst, arith}
use Rattle.std.specs.Prelude.{Option, Some}
use Rattle.std.proofs.lemmas.Bool.{cases_Bool, cases_eq, eqb-true, and_parts}
use Rattle.caf_base.specs.declared.place.TeamNo.{TeamNo}
use Rattle.caf_events.specs.declared.ask.Ask.{Ask}
use Rattle.caf_events.specs.declared.ask.Ask.TheVariants as asks
use Rattle.caf_events.specs.declared.reply.Reply.{Reply}
use Rattle.caf_events.specs.declared.reply.Reply.TheVariants as replies
use Rattle.trace_theory.specs.Machines.{Said}
use Rattle.object_rules.specs.Happenings.{Class, control, collective, images, happens}
use Rattle.object_rules.specs.BoardTeams.{arrives_there}
use Rattle.core_runs.specs.Sequences.{departure_after, IsDeparture, CutsShort, JoinsBehind}
use Rattle.round_words.specs.RoundRuns.{arrivals_said, joins_by}

-- the departure from a round of a team
abbrev pub departs : Class → TeamNo → ℕ → Ask
departs control team k = asks.Leave team k
departs collective team k = asks.Take team k
departs images team k = asks.Unpair

-- what an arrival is
pub record Arrived (class : Class) (team : ℕ) (a : Ask) (r : Reply) : Type 0 where
  pub of_team : TeamNo
  pub number : ℕ
  pub is_team : of_team.0 ≡ team
  pub heard : r ≡ replies.Round number
  pub owes : departure_after a r ≡ Some (departs class of_team number)

pub arrived : (class : Class) (team i j line : ℕ) (a : Ask) (r : Reply) → arrives_there team j (happens class i line a r) ≡ true → Arrived class team a r
arrived control team i j line (asks.Arrive t arriving) (replies.Round n) h = record { of_team = t; number = n; is_team = eqb-true t.0 team (and_parts (nat_eq t.0 team) (nat_eq i j) h).0; heard = refl; owes = refl }
arrived control team i j line (asks.Arrive t arriving) r h = absurd (cc)
arrived control team i j line a r h = absurd (cc)
arrived collective team i j line (asks.Gather t op root kind values) (replies.Round n) h = record { of_team = t; number = n; is_team = eqb-true t.0 team (and_parts (nat_eq t.0 team) (nat_eq i j) h).0; heard = refl; owes = refl }
arrived collective team i j line (asks.Gather t op root kind values) r h = absurd (cc)
arrived collective team i j line a r h = absurd (cc)
arrived images team i j line (asks.Pair named) r h = absurd (cc)
arrived images team i j line (asks.Stop code) r h = absurd (cc)
arrived images team i j line asks.Gone r h = absurd (cc)
arrived images team i j line a r h = absurd (cc)

module _ (class : Class) (team j : ℕ) where
  -- each arrival at the team has the number behind the last one's, where c stand before
  abbrev pub Numbered : ℕ → List (Said Ask Reply) → Type 0
  Numbered c [] = Unit {0}
  Numbered c (w ∷ ws) = (joins_by class team j w ≡ true → (k : ℕ) → w.reply ≡ replies.Round k → k ≡ suc c) × Numbered (cond (joins_by class team j w) 1 0 + c) ws

  -- none of these cuts the image short
  abbrev pub NoneCuts : List (Said Ask Reply) → Type 0
  NoneCuts [] = Unit {0}
  NoneCuts (w ∷ ws) = (CutsShort w.ask → ⊥) × NoneCuts ws

  -- the departure from round k of the team
  pub record Departed (k : ℕ) (es : List (Said Ask Reply)) : Type 0 where
    pub before : List (Said Ask Reply)
    pub word : Said Ask Reply
    pub after : List (Said Ask Reply)
    pub split : es ≡ before ++ word ∷ after
    pub of_team : TeamNo
    pub asked : word.ask ≡ departs class of_team k
    pub is_team : of_team.0 ≡ team

  later : (k : ℕ) (w : Said Ask Reply) (es : List (Said Ask Reply)) → Departed k es → Departed k (w ∷ es)
  later k w es d = record { before = w ∷ d.before; word = d.word; after = d.after; split = ap (λ z. w ∷ z) d.split; of_team = d.of_team; asked = d.asked; is_team = d.is_team }

  module _ (k : ℕ) (last : Said Ask Reply) (stays : IsDeparture last.ask → ⊥) (uncut : CutsShort last.ask → ⊥) where
    departing : (c : Class) (t : TeamNo) (m : ℕ) → IsDeparture (departs c t m)
    departing control t m = tt
    departing collective t m = tt
    departing images t m = tt

    at_once : (t : TeamNo) (es : List (Said Ask Reply)) → t.0 ≡ team → NoneCuts es → JoinsBehind (Some (departs class t k)) (es ++ last ∷ []) → Departed k es
    at_once t [] is none q = elim q.0 [ inl e ↦ absurd (stays (subst IsDeparture (sym e) (departing class t k))) | inr c ↦ absurd (uncut c) ]
    at_once t (e ∷ es) is none q = elim q.0 [
      | inl same ↦ record { before = []; word = e; after = es; split = refl; of_team = t; asked = same; is_team = is }
      | inr c ↦ absurd (none.0 c)
    ]

    -- Who has said something that is no departure behind k arrivals at the team has departed from round k.
    pub departed : (c : ℕ) (owed : Option Ask) (es : List (Said Ask Reply)) → JoinsBehind owed (es ++ last ∷ []) → Numbered c es → NoneCuts es → c < k → k ≤ c + arrivals_said class team j es → Departed k es
    departed c owed [] q num none low high = absurd (omega arith)
    departed c owed (w ∷ es) q num none low high =
        elim (cases_Bool (joins_by class team j w)) [
          | inl a ↦ (
              let r = arrived class team j j w.line w.ask w.reply a in
              let number = num.0 a r.number r.heard in
              let tail = subst (λ z. Numbered (cond z 1 0 + c) es) a num.1 in
              let high' : k ≤ c + (1 + arrivals_said class team j es) = subst (λ z. k ≤ c + (cond z 1 0 + arrivals_said class team j es)) a high in
              elim (cases_eq (suc c) k) [
                | inl same ↦ later k w es (at_once r.of_team es r.is_team none.1 (subst (λ z. JoinsBehind z (es ++ last ∷ [])) (r.owes ∙ ap (λ z. Some (departs class r.of_team z)) (number ∙ same)) q.1))
                | inr other ↦ later k w es (departed (1 + c) (departure_after w.ask w.reply) es q.1 tail none.1 (omega arith) (omega arith))
              ])
          | inr a ↦ (
              let tail = subst (λ z. Numbered (cond z 1 0 + c) es) a num.1 in
              let high' : k ≤ c + (0 + arrivals_said class team j es) = subst (λ z. k ≤ c + (cond z 1 0 + arrivals_said class team j es)) a high in
              later k w es (departed (0 + c) (departure_after w.ask w.reply) es q.1 tail none.1 (omega arith) (omega arith)))
        ]

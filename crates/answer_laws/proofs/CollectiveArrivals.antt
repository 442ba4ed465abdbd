-- Arrivals at the collective subroutines of a team, and that an image which has arrived k times has a k-th one.
use Rattle.std.proofs.Common.{◌≡◌, ℕ, ◌+◌, ◌-◌, ◌≤◌, true, false, List, [], ◌∷◌, inl, inr, refl, ◌∙◌, arith}
use Rattle.std.specs.Prelude.{nat_eq, Some}
use Rattle.std.proofs.lemmas.Bool.{cases_Bool, and_parts, eqb-true}
use Rattle.std.proofs.lemmas.Bool.Decides.{eqb_tells}
use Rattle.caf_base.specs.declared.place.TeamNo.{TeamNo}
use Rattle.caf_base.specs.declared.value.Kind.{Kind}
use Rattle.caf_base.specs.declared.value.Value.{Value}
use Rattle.caf_events.specs.declared.ask.Ask.{Ask}
use Rattle.caf_events.specs.declared.ask.Ask.TheVariants as asks
use Rattle.caf_events.specs.declared.reply.Reply.{Reply}
use Rattle.caf_events.specs.declared.reply.Reply.TheVariants as replies
use Rattle.caf_events.specs.declared.round.GatherOp.{GatherOp}
use Rattle.caf_events.specs.declared.event.Entry.{Entry}
use Rattle.object_rules.specs.Happenings.{Class, collective, happens, happened}
use Rattle.object_rules.specs.TeamRounds.{arrivals}
use Rattle.object_rules.specs.BoardTeams.{arrives_there, nth_arrival}
use Rattle.team_laws.proofs.Arrivals.{joins, cons_arrivals}

-- an arrival at a collective subroutine
pub record Gathers (team : ℕ) (a : Ask) (r : Reply) : Type 0 where
  pub team_at : TeamNo
  pub op : GatherOp
  pub root : ℕ
  pub kind : Kind
  pub values : List Value
  pub round : ℕ
  pub asked : a ≡ asks.Gather team_at op root kind values
  pub joins : r ≡ replies.Round round
  pub number : team_at.0 ≡ team

pub gathers_there : (team image i line : ℕ) (a : Ask) (r : Reply) → arrives_there team image (happens collective i line a r) ≡ true → Gathers team a r
gathers_there team image i line (asks.Gather t op root kind values) (replies.Round round) h =
    record { team_at = t; op = op; root = root; kind = kind; values = values; round = round; asked = refl; joins = refl; number = eqb-true t.0 team (and_parts (nat_eq t.0 team) (nat_eq i image) h).0 }
gathers_there team image i line a r h = absurd (cc)

module _ (class : Class) (team image : ℕ) where
  nth_next : (k : ℕ) (y : Entry) (h : List Entry) → joins class team image y ≡ true → nat_eq k 1 ≡ false → nth_arrival class team image k (y ∷ h) ≡ nth_arrival class team image (k - 1) h
  nth_next k y h t ne = rw (t, ne) refl

  nth_same : (k : ℕ) (y : Entry) (h : List Entry) → joins class team image y ≡ false → nth_arrival class team image k (y ∷ h) ≡ nth_arrival class team image k h
  nth_same k y h f = rw f refl

  -- an image that has arrived k times has a k-th arrival
  pub nth_there : (k : ℕ) (h : List Entry) → 1 ≤ k → k ≤ arrivals team image (happened class h) → (x : Entry) × (nth_arrival class team image k h ≡ Some x)
  nth_there k [] low high = absurd (omega arith)
  nth_there k (y ∷ h) low high = elim (cases_Bool (joins class team image y)) [
    | inl t ↦ elim (eqb_tells k 1) [
      | inl one ↦ (y, rw (t, one.0) refl)
      | inr more ↦ (
          let c = cons_arrivals class team image y h in
          let c' : arrivals team image (happened class (y ∷ h)) ≡ 1 + arrivals team image (happened class h) = rw t at c in
          let ne = more.1 in
          let r = nth_there (k - 1) h (omega arith) (omega arith) in
          (r.0, nth_next k y h t more.0 ∙ r.1))
    ]
    | inr f ↦ (
        let c = cons_arrivals class team image y h in
        let c' : arrivals team image (happened class (y ∷ h)) ≡ 0 + arrivals team image (happened class h) = rw f at c in
        let r = nth_there k h low (omega arith) in
        (r.0, nth_same k y h f ∙ r.1))
  ]

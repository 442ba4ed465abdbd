-- Arrivals at the rounds of a team: which entry is the k-th one of an image.
use Rattle.std.proofs.Common.{◌≡◌, ℕ, suc, ◌+◌, ◌-◌, Bool, true, cond, List, [], ◌∷◌, ◌++◌, inl, inr, refl, ap, subst, arith}
use Rattle.std.specs.Prelude.{nat_eq, Option, Some, None}
use Rattle.std.specs.List.{cons_option}
use Rattle.std.proofs.lemmas.Bool.{cases_Bool, and_parts, eqb-true}
use Rattle.std.proofs.lemmas.Bool.Decides.{eqb_tells}
use Rattle.caf_events.specs.declared.ask.Ask.{Ask}
use Rattle.caf_events.specs.declared.ask.Ask.TheVariants as asks
use Rattle.caf_events.specs.declared.reply.Reply.{Reply}
use Rattle.caf_events.specs.declared.reply.Reply.TheVariants as replies
use Rattle.caf_events.specs.declared.event.Entry.{Entry}
use Rattle.object_rules.specs.Happenings.{Happening, Class, control, collective, images, happens, happened}
use Rattle.object_rules.specs.TeamRounds.{arrivals}
use Rattle.object_rules.specs.BoardTeams.{arrives_there, nth_arrival}

-- an arrival is of its image
pub joined_image : (class : Class) (team image i line : ℕ) (a : Ask) (r : Reply) → arrives_there team image (happens class i line a r) ≡ true → i ≡ image
joined_image control team image i line (asks.Arrive t arriving) (replies.Round round) h = eqb-true i image (and_parts (nat_eq t.0 team) (nat_eq i image) h).1
joined_image collective team image i line (asks.Gather t op root kind values) (replies.Round round) h = eqb-true i image (and_parts (nat_eq t.0 team) (nat_eq i image) h).1
joined_image images team image i line (asks.Pair named) r h = absurd (cc)
joined_image class team image i line a r h = absurd (cc)

module _ (class : Class) (team image : ℕ) where
  abbrev pub joins : Entry → Bool
  joins x = arrives_there team image (happens class x.image.0 x.event.line x.event.ask x.event.reply)

  pub cons_arrivals : (x : Entry) (h : List Entry) → arrivals team image (happened class (x ∷ h)) ≡ cond (joins x) 1 0 + arrivals team image (happened class h)
  cons_arrivals x h = by (happens class x.image.0 x.event.line x.event.ask x.event.reply)
    where
      by : (o : Option Happening) → arrivals team image (cons_option o (happened class h)) ≡ cond (arrives_there team image o) 1 0 + arrivals team image (happened class h)
      by None = omega arith
      by (Some y) = refl

  -- the k-th arrival stands behind k - 1 others
  pub record NthAt (k : ℕ) (h : List Entry) (x : Entry) : Type 0 where
    pub before : List Entry
    pub after : List Entry
    pub split : h ≡ before ++ x ∷ after
    pub joins : joins x ≡ true
    pub count : suc (arrivals team image (happened class before)) ≡ k

  split_behind : (y : Entry) (h before after : List Entry) (x : Entry) → h ≡ before ++ x ∷ after → y ∷ h ≡ (y ∷ before) ++ x ∷ after
  split_behind y h before after x e = ap (λ z. y ∷ z) e

  pub nth_at : (k : ℕ) (h : List Entry) (x : Entry) → nth_arrival class team image k h ≡ Some x → NthAt k h x
  nth_at k [] x e = absurd (cc)
  nth_at k (y ∷ h) x e = elim (cases_Bool (joins y)) [
    | inl t ↦ elim (eqb_tells k 1) [
      | inl one ↦ (
          let q : Some y ≡ Some x = rw (t, one.0) at e in
          let w : y ≡ x = cc in
          let k1 = one.1 in
          record { before = []; after = h; split = ap (λ z. z ∷ h) w; joins = subst (λ z. joins z ≡ true) w t; count = omega arith })
      | inr more ↦ (
          let r = nth_at (k - 1) h x (rw (t, more.0) at e) in
          let c = cons_arrivals y r.before in
          let c' : arrivals team image (happened class (y ∷ r.before)) ≡ 1 + arrivals team image (happened class r.before) = rw t at c in
          let n = r.count in
          record { before = y ∷ r.before; after = r.after; split = split_behind y h r.before r.after x r.split; joins = r.joins; count = omega arith })
    ]
    | inr f ↦ (
        let r = nth_at k h x (rw f at e) in
        let c = cons_arrivals y r.before in
        let c' : arrivals team image (happened class (y ∷ r.before)) ≡ 0 + arrivals team image (happened class r.before) = rw f at c in
        let n = r.count in
        record { before = y ∷ r.before; after = r.after; split = split_behind y h r.before r.after x r.split; joins = r.joins; count = omega arith })
  ]

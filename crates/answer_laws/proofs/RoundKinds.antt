-- The kind of an arrival that joins a round: that of the round's first arrival, whatever happens then.
use Rattle.std.proofs.Common.{◌≡◌, ℕ, suc, true, ◌&&◌, List, [], ◌∷◌, ◌++◌, ◌⊎◌, inl, inr, refl, ap, sym, ◌∙◌, subst, append_assoc}
use Rattle.std.specs.Prelude.{nat_eq, Option, Some, None}
use Rattle.std.specs.List.{cons_option}
use Rattle.std.proofs.lemmas.Bool.{cases_Bool, and_from, eq-eqb}
use Rattle.caf_events.specs.declared.reply.Reply.TheVariants as replies
use Rattle.caf_events.specs.declared.round.RoundKind.{RoundKind}
use Rattle.caf_events.specs.declared.event.Entry.{Entry}
use Rattle.object_rules.specs.Scans.{or_else}
use Rattle.object_rules.specs.Happenings.{Happening, arrives, Class, happens, happened}
use Rattle.object_rules.specs.TeamRounds.{arrivals, Opening, joins_round, opening_of}
use Rattle.object_rules.specs.Kinds.{same_kind}
use Rattle.object_rules.specs.BoardRules.{joined_or_clash, arrival_reply}
use Rattle.object_rules.proofs.Growing.{opening_more}
use Rattle.team_laws.proofs.Rounds.{happened_append, opening_stays}

-- the kind of an arrival and that of its round agree
abbrev pub Alike : RoundKind → RoundKind → Type 0
Alike a b = (a ≡ b) ⊎ (same_kind a b ≡ true)

-- an arrival that joined a round
joined_round : (kind : RoundKind) (r round : ℕ) (o : Option Opening) → replies.Round round ≡ joined_or_clash kind r o → (r ≡ round) × ((p : Opening) → o ≡ Some p → same_kind kind p.kind ≡ true)
joined_round kind r round None h = (cc, λ p e. absurd (cc))
joined_round kind r round (Some o) h = elim (cases_Bool (same_kind kind o.kind)) [
  | inl t ↦ (
      let q : replies.Round round ≡ replies.Round r = rw t at h in
      (cc, λ p e. (let w : o ≡ p = cc in subst (λ z. same_kind kind z.kind ≡ true) w t)))
  | inr f ↦ absurd (let q : replies.Round round ≡ replies.Clash (record { 0 = o.image }) o.line = rw f at h in cc)
]

-- it is of the kind of the round's first arrival, or is that arrival
pub record InRound (class : Class) (team round : ℕ) (kind : RoundKind) (h : List Entry) : Type 0 where
  pub opening : Opening
  pub opens : opening_of team round (happened class h) ≡ Some opening
  pub alike : Alike kind opening.kind

module _ (class : Class) (team i line : ℕ) (kind : RoundKind) (before : List Entry) (x : Entry)
    (what : happens class x.image.0 x.event.line x.event.ask x.event.reply ≡ Some (arrives team i kind line)) (round : ℕ) (due : replies.Round round ≡ arrival_reply class before i team kind) where
  abbrev hs : List Happening
  hs = happened class before

  abbrev y : Happening
  y = arrives team i kind line

  pub joins_next : suc (arrivals team i (happened class before)) ≡ round
  joins_next = (joined_round kind (suc (arrivals team i (happened class before))) round (opening_of team (suc (arrivals team i (happened class before))) (happened class before)) due).0

  happened_with : (after : List Entry) → happened class (before ++ x ∷ after) ≡ (happened class before ++ arrives team i kind line ∷ []) ++ happened class after
  happened_with after =
      happened_append class before (x ∷ after)
      ∙ ap (λ o. happened class before ++ cons_option o (happened class after)) what
      ∙ sym (append_assoc (happened class before) (arrives team i kind line ∷ []) (happened class after))

  pub in_round : (after : List Entry) → InRound class team round kind (before ++ x ∷ after)
  in_round after = by (opening_of team round hs) refl
    where
      kept : (o : Opening) → opening_of team round (hs ++ y ∷ []) ≡ Some o → opening_of team round (happened class (before ++ x ∷ after)) ≡ Some o
      kept o e = ap (opening_of team round) (happened_with after) ∙ opening_stays (hs ++ y ∷ []) (happened class after) team round o e

      by : (o : Option Opening) → opening_of team round hs ≡ o → InRound class team round kind (before ++ x ∷ after)
      by None e =
          let here : (nat_eq team team && nat_eq (suc (arrivals team i hs)) round) ≡ true = and_from (nat_eq team team) (nat_eq (suc (arrivals team i hs)) round) (eq-eqb team team refl) (eq-eqb (suc (arrivals team i hs)) round joins_next) in
          let first : opening_of team round (hs ++ y ∷ []) ≡ Some (record { kind = kind; image = i; line = line }) = opening_more team round hs y ∙ ap (λ z. or_else z (joins_round team round hs y)) e ∙ rw here refl in
          record { opening = record { kind = kind; image = i; line = line }; opens = kept (record { kind = kind; image = i; line = line }) first; alike = inl refl }
      by (Some o) e =
          let j = joined_round kind (suc (arrivals team i hs)) round (opening_of team (suc (arrivals team i hs)) hs) due in
          let same = j.1 o (ap (λ r. opening_of team r hs) joins_next ∙ e) in
          record { opening = o; opens = kept o (opening_more team round hs y ∙ ap (λ z. or_else z (joins_round team round hs y)) e); alike = inr same }

-- An arrival that clashes joins no round.
use Rattle.std.proofs.Common.{◌≡◌, ℕ, Bool, List, inl, inr, refl, sym, ◌∙◌}
use Rattle.std.specs.Prelude.{Option, Some, None}
use Rattle.std.proofs.lemmas.Bool.{cases_Bool}
use Rattle.caf_events.specs.declared.round.RoundKind.{RoundKind}
use Rattle.object_rules.specs.Happenings.{Happening}
use Rattle.team_round.specs.declared.round.Round.{Round}
use Rattle.team_round.specs.declared.round.Arrival.{Arrival}
use Rattle.team_round.specs.declared.round.Arrival.TheVariants as arrived
use Rattle.team_round.specs.TeamStates.{clash_of, happened_with}

pub nothing_happened : (same : RoundKind → RoundKind → Bool) (kind k : RoundKind) (t i line : ℕ) (hs : List Happening) (o : Option Round) (clash : Arrival) → clash_of same kind o ≡ Some clash → happened_with hs t i k line clash ≡ hs
nothing_happened same kind k t i line hs None clash h = absurd (cc)
nothing_happened same kind k t i line hs (Some x) clash h = elim (cases_Bool (same x.kind kind)) [
  | inl b ↦ absurd (let e : None ≡ Some clash = sym (rw b refl) ∙ h in cc)
  | inr b ↦ (let e : arrived.Clash x.image x.line ≡ clash = some_same (sym (rw b refl) ∙ h) in rw (sym e) refl)
]
  where
    some_same : {A : Type 0} {x y : A} → Some x ≡ Some y → x ≡ y
    some_same e = cc

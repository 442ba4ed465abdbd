use Rattle.std.proofs.Common.{◌≡◌, ℕ, true, List, ◌∷◌, inl, inr, refl, ap, sym, ◌∙◌, subst}
use Rattle.std.proofs.Common.{arith}
use Rattle.std.specs.List.{list_all}
use Rattle.trace_text.specs.TraceText.{number_text}
use Rattle.trace_forms.specs.Ranges.{IsHalf}
use Rattle.trace_forms.proofs.Cuts.{all_append}
use Rattle.trace_fields.specs.Cutting.{other, IsCutAt}
use Rattle.trace_reader.specs.Reading.{ShowsTeam}
use Rattle.trace_fields.proofs.Cut.{found, whole}
use Rattle.trace_fields.proofs.Parts.{digits_clean}
use Rattle.trace_reader.proofs.board.next_team.Goals as goal

-- the text of a team has no blank
team_clean : (team : ℕ) (text : List ℕ) → IsHalf team → ShowsTeam team text → list_all (other 32) text ≡ true
team_clean team text h (inl is) = ap (list_all (other 32)) is ∙ digits_clean 32 team refl (omega arith)
team_clean team text h (inr s) = ap (list_all (other 32)) s.2 ∙ all_append (other 32) (number_text team)
    (47 ∷ s.0) (digits_clean 32 team refl (omega arith)) s.1

-- its front up to a slash is the number
team_front : (team : ℕ) (text front behind : List ℕ) → IsHalf team → ShowsTeam team text
    → IsCutAt 47 text front behind → front ≡ number_text team
team_front team text front behind h (inl is) cut = (whole 47 text front behind cut (ap (list_all (other 47)) is
    ∙ digits_clean 47 team refl (omega arith))).0 ∙ is
team_front team text front behind h (inr s) cut = (found 47 text front behind (number_text team) s.0 cut
    (digits_clean 47 team refl (omega arith)) s.2).0

pub returns : goal.returns
returns c of_team team behind shows half e =
    let text = of_team team.0 in
    let at = found 32 _ _ _ text behind c.next_field.ensures (team_clean team.0 text half (shows team.0)) e in
    let number = team_front team.0 _ _ _ half (subst (ShowsTeam team.0) (sym at.0) (shows team.0)) c.cut_at.ensures in
    let k = c.half_of.ensures team.0 half number in
    ((λ i. record { 0 = k i }), at.1)

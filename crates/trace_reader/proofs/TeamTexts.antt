-- The texts of the teams that asks name, in the form of a file.
use Rattle.std.proofs.Common.{◌≡◌, ℕ, ℤ, Bool, true, false, cond, List, [], ◌∷◌, ◌++◌, inl, inr, Option, None, Some}
use Rattle.std.proofs.Common.{refl, sym, append_assoc, codes, subst}
use Rattle.std.specs.List.{list_all}
use Rattle.caf_events.specs.declared.event.Entry.{Entry}
use Rattle.trace_theory.specs.Entries.{Each}
use Rattle.trace_text.specs.TraceText.{number_text}
use Rattle.trace_text.specs.Forms.{Form, number_behind, team_number_text, numbered_team, team_by_table}
use Rattle.trace_forms.specs.Ranges.{HasText}
use Rattle.trace_forms.specs.Shown.{HaveTexts}
use Rattle.trace_forms.specs.Files.{form_of}
use Rattle.trace_forms.proofs.Asks.{IsGivenSigned}
use Rattle.trace_forms.proofs.Lines.{after_signed}
use Rattle.trace_fields.specs.Cutting.{other}
use Rattle.trace_fields.proofs.Parts.{signed_clean}
use Rattle.trace_reader.specs.Reading.{ShowsTeam, ShowTeams}
use Rattle.trace_reader.specs.Tables.{team_text_by}
use Rattle.trace_reader.specs.Files.{HasRead}
use Rattle.trace_reader.specs.declared.trace.Reading.{Reading}
use Rattle.trace_reader.proofs.Growing.{by_table}

number_clean : (n : Option ℤ) → IsGivenSigned n → list_all (other 32) (team_number_text n) ≡ true
number_clean None h = refl
number_clean (Some z) h = signed_clean 32 z refl h

numbered : (team : ℕ) (n : Option ℤ) → IsGivenSigned n → ShowsTeam team (numbered_team team n)
numbered team n h = inr (
  team_number_text n,
  number_clean n h,
  append_assoc (number_text team) (codes "/") (team_number_text n),
)

each_of : (form : Form) (names : List (List ℕ)) (before t : List Entry) → HaveTexts form names before t
    → Each (HasText names) t
each_of form names before [] h = tt
each_of form names before (e ∷ es) h = (h.0, each_of form names (before ++ e ∷ []) es h.2)

-- each team has a text that is read back
pub teams_show : (done names : List (List ℕ)) (r : Reading) → HasRead done names r → ShowTeams (team_text_by r.teams)
teams_show done names r read team = by r.teams.is_second refl
  where
    t : List Entry
    t = r.entries.items

    signed : IsGivenSigned (number_behind t team)
    signed = after_signed names t (each_of (form_of done) names [] t read.written.texts) team

    by : (s : Bool) → r.teams.is_second ≡ s
        → ShowsTeam team (cond s (team_by_table r.teams.numbers) number_text team)
    by true is = subst (ShowsTeam team) (sym (by_table t r.teams.numbers (read.given is) team))
        (numbered team (number_behind t team) signed)
    by false is = inl refl

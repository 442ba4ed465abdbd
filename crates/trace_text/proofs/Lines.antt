-- The text of a trace, with one line more.
use Rattle.std.proofs.Common.{ℕ, ◌+◌, ◌≡◌, ◌<◌, sym, ap, ◌∙◌, ℤ}
use Rattle.std.proofs.Common.{List, [], ◌∷◌, ◌++◌, append-nil, append_assoc, length, take, get_or}
use Rattle.std.proofs.Math.Path.{fun_ext}
use Rattle.std.proofs.lemmas.List.{take_more}
use Rattle.std.specs.BTreeMap.{BTreeMap}
use Rattle.std.specs.List.{concat}
use Rattle.caf_events.specs.declared.event.Entry.{Entry}
use Rattle.trace_text.specs.TraceText.{entry_line}
use Rattle.trace_text.specs.Forms.{Form, Second, number_or_initial, numbered_team, asked_team}
use Rattle.trace_text.specs.Forms.{lines_behind, trace_text, team_by_table, HasGiven}

lines_more : (form : Form) (names : List (List ℕ)) (before es : List Entry) (e : Entry)
    → concat (lines_behind form names before (es ++ e ∷ []))
    ≡ concat (lines_behind form names before es) ++ entry_line (asked_team form (before ++ es)) names e
lines_more form names before [] e =
    append-nil (entry_line (asked_team form before) names e)
    ∙ ap (λ b. entry_line (asked_team form b) names e) (sym (append-nil before))
lines_more form names before (x ∷ es) e =
    let first = entry_line (asked_team form before) names x in
    let rest = concat (lines_behind form names (before ++ x ∷ []) es) in
    ap (λ bytes. first ++ bytes) (lines_more form names (before ++ x ∷ []) es e
    ∙ ap (λ b. rest ++ entry_line (asked_team form b) names e) (append_assoc before (x ∷ []) es))
    ∙ sym (append_assoc first rest (entry_line (asked_team form (before ++ x ∷ es)) names e))

-- a table with what the entries give writes each team as it stands behind them
by_table : (es : List Entry) (m : BTreeMap ℕ ℤ) → HasGiven es m → team_by_table m ≡ asked_team Second es
by_table es m has = fun_ext (λ team. ap (λ given. numbered_team team (number_or_initial team given)) (has team))

-- one line more
pub line_turn : (names : List (List ℕ)) (old now new : List ℕ) (m : BTreeMap ℕ ℤ) (es : List Entry) (i : ℕ) (e : Entry)
    → i < length es → e ≡ get_or es i e → HasGiven (take i es) m → now ≡ old ++ trace_text names (take i es)
    → new ≡ now ++ entry_line (team_by_table m) names e
    → new ≡ old ++ trace_text names (take (i + 1) es)
line_turn names old now new m es i e below is has is_now is_new =
    let line = entry_line (asked_team Second (take i es)) names e in
    is_new ∙ (ap (λ bs. bs ++ entry_line (team_by_table m) names e) is_now
    ∙ (ap (λ f. (old ++ trace_text names (take i es)) ++ entry_line f names e) (by_table (take i es) m has)
    ∙ (append_assoc old (trace_text names (take i es)) line
    ∙ ap (λ bs. old ++ bs) (sym (lines_more Second names [] (take i es) e)
    ∙ ap (trace_text names) (ap (λ y. take i es ++ y ∷ []) is ∙ sym (take_more es i e below))))))

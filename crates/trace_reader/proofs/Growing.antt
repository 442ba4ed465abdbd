-- A trace with one entry more, and its lines.
use Rattle.std.proofs.Common.{◌≡◌, ℕ, ℤ, Bool, true, false, not, cond, ◌&&◌, ◌||◌, List, [], ◌∷◌}
use Rattle.std.proofs.Common.{◌++◌, Option, None, Some, refl, ap, sym, ◌∙◌, subst}
use Rattle.std.proofs.Common.{append_assoc, append-nil}
use Rattle.std.specs.BTreeMap.{BTreeMap}
use Rattle.std.specs.List.{list_any}
use Rattle.std.specs.Option.{option_or}
use Rattle.std.proofs.lemmas.List.Elements.{filter-append}
use Rattle.caf_events.specs.declared.event.Entry.{Entry}
use Rattle.trace_text.specs.TraceText.{entry_line}
use Rattle.trace_text.specs.Forms.{Form, Second, asked_team, number_behind, number_or_initial, numbered_team}
use Rattle.trace_text.specs.Forms.{given_number, number_in_reply, number_by_table, team_by_table, lines_behind}
use Rattle.trace_text.specs.Forms.{HasGiven, Gains}
use Rattle.trace_forms.specs.Ranges.{HasText}
use Rattle.trace_forms.specs.Shown.{TeamHasNumber, HaveTexts}
use Rattle.trace_forms.specs.Files.{is_trace_line, traced_lines, says_second, is_second}

-- ---- one entry more
pub lines_more : (form : Form) (names : List (List ℕ)) (before t : List Entry) (e : Entry)
    → lines_behind form names before (t ++ (e ∷ [])) ≡ lines_behind form names before t
    ++ (entry_line (asked_team form (before ++ t)) names e ∷ [])
lines_more form names before [] e = ap (λ b. entry_line (asked_team form b) names e ∷ []) (sym (append-nil before))
lines_more form names before (x ∷ xs) e =
    ap (λ ls. entry_line (asked_team form before) names x ∷ ls) (lines_more form names (before ++ (x ∷ [])) xs e
    ∙ ap (λ b. lines_behind form names (before ++ (x ∷ [])) xs ++ (entry_line (asked_team form b) names e ∷ []))
    (append_assoc before (x ∷ []) xs))

pub texts_more : (form : Form) (names : List (List ℕ)) (before t : List Entry) (e : Entry)
    → HaveTexts form names before t → HasText names e → TeamHasNumber form (before ++ t) e.event.ask
    → HaveTexts form names before (t ++ (e ∷ []))
texts_more form names before [] e all has team = (
  has,
  subst (λ b. TeamHasNumber form b e.event.ask)
      (append-nil before) team,
  tt,
)
texts_more form names before (x ∷ xs) e all has team = (
  all.0,
  all.1,
  texts_more form names (before ++ (x ∷ [])) xs e all.2 has (subst
      (λ b. TeamHasNumber form b e.event.ask) (sym (append_assoc before (x ∷ []) xs)) team),
)

-- ---- the table of team numbers
or_assoc : (a b c : Option ℤ) → option_or (option_or a b) c ≡ option_or a (option_or b c)
or_assoc None b c = refl
or_assoc (Some n) b c = refl

or_none : (a : Option ℤ) → option_or a None ≡ a
or_none None = refl
or_none (Some n) = refl

given_more : (team : ℕ) (t : List Entry) (e : Entry) → given_number team (t ++ (e ∷ []))
    ≡ option_or (given_number team t) (number_in_reply team e.event.reply)
given_more team [] e = or_none (number_in_reply team e.event.reply)
given_more team (x ∷ xs) e =
    ap (option_or (number_in_reply team x.event.reply)) (given_more team xs e) ∙ sym (or_assoc
    (number_in_reply team x.event.reply) (given_number team xs) (number_in_reply team e.event.reply))

pub table_more : (t : List Entry) (e : Entry) (old new : BTreeMap ℕ ℤ) → HasGiven t old
    → Gains old (λ team. number_in_reply team e.event.reply) new → HasGiven (t ++ (e ∷ [])) new
table_more t e old new given gains team =
    gains team ∙ ap (λ o. option_or o (number_in_reply team e.event.reply)) (given team) ∙ sym (given_more team t e)

-- a team's text by a table that has the numbers
pub by_table : (t : List Entry) (numbers : BTreeMap ℕ ℤ) → HasGiven t numbers → (team : ℕ)
    → team_by_table numbers team ≡ asked_team Second t team
by_table t numbers given team = ap (λ o. numbered_team team (number_or_initial team o)) (given team)

pub number_by : (t : List Entry) (numbers : BTreeMap ℕ ℤ) → HasGiven t numbers → (team : ℕ)
    → number_by_table numbers team ≡ number_behind t team
number_by t numbers given team = ap (number_or_initial team) (given team)

-- ---- one line more
pub traced_more : (ls : List (List ℕ)) (l : List ℕ) → is_trace_line l ≡ true → traced_lines (ls ++ (l ∷ []))
    ≡ traced_lines ls ++ (l ∷ [])
traced_more ls l is = filter-append is_trace_line ls (l ∷ []) ∙ ap (λ b. traced_lines ls ++ cond b (l ∷ []) []) is

pub traced_same : (ls : List (List ℕ)) (l : List ℕ) → is_trace_line l ≡ false → traced_lines (ls ++ (l ∷ []))
    ≡ traced_lines ls
traced_same ls l not_one = filter-append is_trace_line ls (l ∷ []) ∙ ap (λ b. traced_lines ls ++ cond b
    (l ∷ []) []) not_one ∙ append-nil (traced_lines ls)

-- a line says the second form only where no line of the trace stands before it
second_by : (s t a b m : Bool) → b ≡ (a || (not m && s)) → (s' : Bool) → (s' || (not t && b))
    ≡ ((s' || (not t && a)) || (not (t || m) && s))
second_by s t a b m e true = refl
second_by s true a b m e false = refl
second_by s false a b m e false = e

pub second_more : (ls : List (List ℕ)) (l : List ℕ) → is_second (ls ++ (l ∷ []))
    ≡ (is_second ls || (not (list_any is_trace_line ls) && says_second l))
second_more [] l = by (says_second l) (is_trace_line l)
  where
    by : (s t : Bool) → (s || (not t && false)) ≡ s
    by true t = refl
    by false true = refl
    by false false = refl
second_more (x ∷ xs) l = second_by (says_second l) (is_trace_line x) (is_second xs) (is_second (xs ++ (l ∷ [])))
    (list_any is_trace_line xs) (second_more xs l) (says_second x)

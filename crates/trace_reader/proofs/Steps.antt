-- What is known of a file when a line more of it is read.
use Rattle.std.proofs.Common.{◌≡◌, ℕ, ℤ, Bool, true, false, not, cond, ◌&&◌, ◌||◌, List, [], ◌∷◌}
use Rattle.std.proofs.Common.{◌++◌, ◌⊎◌, inl, inr, codes, is_some, refl, ap, sym, ◌∙◌, subst, bytes_eq}
use Rattle.std.proofs.Common.{true≢false, append-nil, append_assoc}
use Rattle.std.specs.BTreeMap.{BTreeMap}
use Rattle.std.specs.List.{list_any, range_with_len}
use Rattle.std.proofs.lemmas.Slice.Eq.{bytes_eq-Decides}
use Rattle.caf_events.specs.declared.ask.Ask.{Ask}
use Rattle.caf_events.specs.declared.ask.Ask.TheVariants as asks
use Rattle.caf_events.specs.declared.event.Entry.{Entry}
use Rattle.trace_text.specs.TraceText.{number_text, entry_line}
use Rattle.trace_text.specs.Forms.{Form, First, Second, asked_team, team_by_table, trace_lines, HasGiven}
use Rattle.trace_forms.specs.Names.{is_digit_byte, AreNames}
use Rattle.trace_forms.specs.Ranges.{HasText}
use Rattle.trace_forms.specs.Shown.{TeamHasNumber, HaveTexts}
use Rattle.trace_forms.specs.Files.{is_trace_line, traced_lines, images_line, says_images, says_second, is_second}
use Rattle.trace_forms.specs.Files.{form_of, LinesWritten}
use Rattle.trace_forms.proofs.Cuts.{and_first}
use Rattle.trace_forms.proofs.Once.{written_once}
use Rattle.trace_reader.specs.Tables.{is_numbered_by, TakesNumbers, IsLineOf}
use Rattle.trace_reader.specs.Files.{HasRead}
use Rattle.trace_reader.specs.declared.trace.Reading.{Reading}
use Rattle.trace_reader.proofs.Growing.{lines_more, texts_more, table_more, by_table, number_by, traced_more}
use Rattle.trace_reader.proofs.Growing.{traced_same, second_more}

-- ---- a line of the trace doesn't say the second form
differ : (xs ys : List ℕ) → (xs ≡ ys → ⊥) → bytes_eq xs ys ≡ false
differ xs ys apart = by (bytes_eq xs ys) refl
  where
    by : (t : Bool) → bytes_eq xs ys ≡ t → bytes_eq xs ys ≡ false
    by true e = absurd (apart ((bytes_eq-Decides xs ys).0 e))
    by false e = e

neither : (a b : Bool) → a ≡ false → b ≡ false → (a || b) ≡ false
neither a b p q = ap (λ t. t || b) p ∙ q

no_digit : (b : ℕ) (bs ys : List ℕ) → is_digit_byte b ≡ true → b ∷ bs ≡ 116 ∷ ys → ⊥
no_digit b bs ys digit e = let h : b ≡ 116 = cc in true≢false (sym digit ∙ ap is_digit_byte h)

not_images : (l : List ℕ) → is_trace_line l ≡ true → (n : ℕ) → says_images l n ≡ false
not_images [] is n = absurd (true≢false (sym is))
not_images (b ∷ bs) is n =
    let digit = and_first (is_digit_byte b) _ is in
    neither _ _ (differ (b ∷ bs) (images_line n ++ codes "\n") (no_digit b bs _ digit)) (differ (b ∷ bs)
    (images_line n) (no_digit b bs _ digit))

none_of : (f : ℕ → Bool) → ((n : ℕ) → f n ≡ false) → (ns : List ℕ) → list_any f ns ≡ false
none_of f all [] = refl
none_of f all (n ∷ ns) = neither (f n) (list_any f ns) (all n) (none_of f all ns)

pub not_second : (l : List ℕ) → is_trace_line l ≡ true → says_second l ≡ false
not_second l is = none_of (says_images l) (not_images l is) (range_with_len 1 256)

-- the form stays where a line of the trace follows
form_kept : (ls : List (List ℕ)) (l : List ℕ) → is_trace_line l ≡ true → is_second (ls ++ (l ∷ [])) ≡ is_second ls
form_kept ls l is = second_more ls l ∙ ap (λ s. is_second ls || (not (list_any is_trace_line ls) && s))
    (not_second l is) ∙ by (is_second ls) (list_any is_trace_line ls)
  where
    by : (a m : Bool) → (a || (not m && false)) ≡ a
    by true m = refl
    by false true = refl
    by false false = refl

-- ---- the teams of a line, by the table and by the entries so far
module _ (t : List Entry) (numbers : BTreeMap ℕ ℤ) (given : HasGiven t numbers) where
  shown : (ask : Ask) → is_numbered_by numbers ask ≡ true → TeamHasNumber Second t ask
  shown (asks.Arrive team arriving) n = ap is_some (sym (number_by t numbers given team.0)) ∙ n
  shown (asks.Leave team round) n = ap is_some (sym (number_by t numbers given team.0)) ∙ n
  shown (asks.Gather team op root kind vs) n = ap is_some (sym (number_by t numbers given team.0)) ∙ n
  shown (asks.Take team round) n = ap is_some (sym (number_by t numbers given team.0)) ∙ n
  shown (asks.Failed team) n = ap is_some (sym (number_by t numbers given team.0)) ∙ n
  shown (asks.Stopped team) n = ap is_some (sym (number_by t numbers given team.0)) ∙ n
  shown (asks.Status team index) n = ap is_some (sym (number_by t numbers given team.0)) ∙ n
  shown ask n = tt

  told : (ask : Ask) → TeamHasNumber Second t ask → is_numbered_by numbers ask ≡ true
  told (asks.Arrive team arriving) n = ap is_some (number_by t numbers given team.0) ∙ n
  told (asks.Leave team round) n = ap is_some (number_by t numbers given team.0) ∙ n
  told (asks.Gather team op root kind vs) n = ap is_some (number_by t numbers given team.0) ∙ n
  told (asks.Take team round) n = ap is_some (number_by t numbers given team.0) ∙ n
  told (asks.Failed team) n = ap is_some (number_by t numbers given team.0) ∙ n
  told (asks.Stopped team) n = ap is_some (number_by t numbers given team.0) ∙ n
  told (asks.Status team index) n = ap is_some (number_by t numbers given team.0) ∙ n
  told ask n = refl

teams_are : (numbers : BTreeMap ℕ ℤ) (t : List Entry) (s d : Bool) → s ≡ d → (s ≡ true → HasGiven t numbers)
    → cond s (team_by_table numbers) number_text ≡ asked_team (cond d Second First) t
teams_are numbers t true true e given = λ i team. by_table t numbers (given refl) team i
teams_are numbers t false false e given = λ i team. number_text team
teams_are numbers t true false e given = absurd (true≢false e)
teams_are numbers t false true e given = absurd (true≢false (sym e))

has_number : (numbers : BTreeMap ℕ ℤ) (t : List Entry) (s d : Bool) → s ≡ d → (s ≡ true → HasGiven t numbers)
    → (ask : Ask) → (not s || is_numbered_by numbers ask) ≡ true → TeamHasNumber (cond d Second First) t ask
has_number numbers t true true e given ask n = shown t numbers (given refl) ask n
has_number numbers t false false e given ask n = tt
has_number numbers t true false e given ask n = absurd (true≢false e)
has_number numbers t false true e given ask n = absurd (true≢false (sym e))

is_numbered : (numbers : BTreeMap ℕ ℤ) (t : List Entry) (s d : Bool) → s ≡ d → (s ≡ true → HasGiven t numbers)
    → (ask : Ask) → TeamHasNumber (cond d Second First) t ask → (not s || is_numbered_by numbers ask) ≡ true
is_numbered numbers t true true e given ask n = told t numbers (given refl) ask n
is_numbered numbers t false d e given ask n = refl
is_numbered numbers t true false e given ask n = absurd (true≢false e)

any_more : (ls : List (List ℕ)) (l : List ℕ) → is_trace_line l ≡ true → list_any is_trace_line (ls ++ (l ∷ [])) ≡ true
any_more [] l is = ap (λ b. b || false) is
any_more (x ∷ xs) l is = by (is_trace_line x) (any_more xs l is)
  where
    by : (b : Bool) {a : Bool} → a ≡ true → (b || a) ≡ true
    by true e = refl
    by false e = e

-- ---- a line that shows a step
pub read_step : (done names : List (List ℕ)) (line : List ℕ) (old new : Reading) (e : Entry)
    → is_trace_line line ≡ true → HasRead done names old → IsLineOf old.teams names e line
    → TakesNumbers old.teams e.event.reply new.teams → new.entries.items ≡ old.entries.items ++ (e ∷ [])
    → new.has_begun ≡ true
    → HasRead (done ++ (line ∷ [])) names new
read_step done names line old new e is read shows takes grown begun =
    let t = old.entries.items in
    let d = is_second done in
    let kept = form_kept done line is in
    let teams = teams_are old.teams.numbers t old.teams.is_second d read.form read.given in
    let at : entry_line (asked_team (form_of done) t) names e ≡ line = ap (λ f. entry_line f names e)
    (sym teams) ∙ shows.printed in
    let lines : traced_lines (done ++ (line ∷ [])) ≡ trace_lines (form_of done) names (t ++ (e ∷ [])) =
    traced_more done line is ∙ ap (λ ls. ls ++ (line ∷ [])) read.written.lines ∙ ap (λ l. trace_lines
    (form_of done) names t ++ (l ∷ [])) (sym at) ∙ sym (lines_more (form_of done) names [] t e) in
    let texts = texts_more (form_of done) names [] t e read.written.texts shows.has_text
    (has_number old.teams.numbers t old.teams.is_second d read.form read.given e.event.ask shows.numbered) in
    let same_form : form_of (done ++ (line ∷ [])) ≡ form_of done = ap (λ b. cond b Second First) kept in
    record {
      written = record {
        lines = lines ∙ ap (λ f. trace_lines f names (t ++ (e ∷ []))) (sym same_form) ∙ ap (trace_lines (form_of
            (done ++ (line ∷ []))) names) (sym grown);
        texts = subst (λ f. HaveTexts f names [] new.entries.items) (sym same_form) (subst (λ u. HaveTexts
            (form_of done) names [] u) (sym grown) texts);
      };
      form = takes.form ∙ read.form ∙ sym kept;
      begun = begun ∙ sym (any_more done line is);
      given = λ yes. let was = sym takes.form ∙ yes in subst (λ u. HasGiven u new.teams.numbers) (sym grown)
          (table_more t e old.teams.numbers new.teams.numbers (read.given was) (takes.gains was));
      none = inr begun;
    }

-- ---- a line that shows none
-- the last of a list, where it isn't empty
abbrev Last : {A : Type 0} → List A → Type 0
Last {A} xs = (xs ≡ []) ⊎ ((front : List A) × (last : A) × (xs ≡ front ++ (last ∷ [])))

last_of : {A : Type 0} (xs : List A) → Last xs
last_of [] = inl refl
last_of (x ∷ xs) = elim (last_of xs) [
  | inl none ↦ inr ([], x, ap (λ z. x ∷ z) none)
  | inr l ↦ inr (x ∷ l.0, l.1, ap (λ z. x ∷ z) l.2)
]

same_last : {A : Type 0} (xs ys : List A) (x y : A) → xs ++ (x ∷ []) ≡ ys ++ (y ∷ []) → (xs ≡ ys) × (x ≡ y)
same_last [] [] x y e = (refl, cc)
same_last [] (b ∷ []) x y e = absurd (cc)
same_last [] (b ∷ c ∷ ys) x y e = absurd (cc)
same_last (a ∷ []) [] x y e = absurd (cc)
same_last (a ∷ c ∷ xs) [] x y e = absurd (cc)
same_last (a ∷ xs) (b ∷ ys) x y e =
    let first : a ≡ b = cc in
    let more : xs ++ (x ∷ []) ≡ ys ++ (y ∷ []) = cc in
    let s = same_last xs ys x y more in
    ((λ i. first i ∷ s.0 i), s.1)

not_empty : {A : Type 0} (xs : List A) (x : A) → xs ++ (x ∷ []) ≡ [] → ⊥
not_empty [] x e = cc
not_empty (y ∷ ys) x e = cc

-- the texts of a trace with one entry more
texts_front : (form : Form) (names : List (List ℕ)) (before t : List Entry) (e : Entry)
    → HaveTexts form names before (t ++ (e ∷ []))
    → HaveTexts form names before t × HasText names e × TeamHasNumber form (before ++ t) e.event.ask
texts_front form names before [] e all = (
  tt,
  all.0,
  subst (λ b. TeamHasNumber form b e.event.ask) (sym
      (append-nil before)) all.1,
)
texts_front form names before (x ∷ xs) e all =
    let r = texts_front form names (before ++ (x ∷ [])) xs e all.2 in
    ((all.0, all.1, r.0), r.1, subst (λ b. TeamHasNumber form b e.event.ask) (append_assoc before (x ∷ []) xs) r.2)

pub read_none : (done names : List (List ℕ)) (line : List ℕ) (old : Reading) → AreNames names
    → is_trace_line line ≡ true → HasRead done names old → ((e : Entry) → IsLineOf old.teams names e line → ⊥)
    → (t : List Entry) → LinesWritten (done ++ (line ∷ [])) names t → ⊥
read_none done names line old are is read none t w = elim (last_of t) [
  | inl empty ↦ not_empty (traced_lines done) line (lines ∙ ap (trace_lines (form_of done) names) empty)
  | inr l ↦ (
      let front = l.0 in
      let e = l.1 in
      let s = same_last (traced_lines done) (trace_lines (form_of done) names front) line (entry_line (asked_team
      (form_of done) front) names e)
      (lines ∙ ap (trace_lines (form_of done) names) l.2 ∙ lines_more (form_of done) names [] front e) in
      let texts = texts_front (form_of done) names [] front e (subst (λ u. HaveTexts
      (form_of done) names [] u) l.2 (subst (λ f. HaveTexts f names [] t) same_form w.texts)) in
      let same : front ≡ old.entries.items = written_once done names front old.entries.items are
      (record { lines = s.0; texts = texts.0 }) read.written in
      let teams = teams_are old.teams.numbers old.entries.items old.teams.is_second
      (is_second done) read.form read.given in
      none e (record {
        has_text = texts.1;
        numbered = is_numbered old.teams.numbers old.entries.items old.teams.is_second
            (is_second done) read.form read.given e.event.ask (subst (λ u. TeamHasNumber
            (form_of done) u e.event.ask) same texts.2);
        printed = ap (λ f. entry_line f names e) teams ∙ ap (λ u. entry_line (asked_team (form_of done) u) names e)
            (sym same) ∙ sym s.1;
      }))
]
  where
    same_form : form_of (done ++ (line ∷ [])) ≡ form_of done
    same_form = ap (λ b. cond b Second First) (form_kept done line is)

    lines : traced_lines done ++ (line ∷ []) ≡ trace_lines (form_of done) names t
    lines = sym (traced_more done line is) ∙ w.lines ∙ ap (λ f. trace_lines f names t) same_form

-- ---- a line that isn't of the trace
list_any_false : (ls : List (List ℕ)) → list_any is_trace_line ls ≡ false → traced_lines ls ≡ []
list_any_false [] none = refl
list_any_false (x ∷ xs) none = by (is_trace_line x) refl (list_any_false xs)
  where
    by : (b : Bool) → is_trace_line x ≡ b → (list_any is_trace_line xs ≡ false → traced_lines xs ≡ [])
        → traced_lines (x ∷ xs) ≡ []
    by true e go = absurd (true≢false (sym (ap (λ t. t || list_any is_trace_line xs) e) ∙ none))
    by false e go = ap (λ t. cond t (x ∷ traced_lines xs) (traced_lines xs)) e ∙ go (sym (ap
        (λ t. t || list_any is_trace_line xs) e) ∙ none)

no_lines : (form : Form) (names : List (List ℕ)) (t : List Entry) → [] ≡ trace_lines form names t → t ≡ []
no_lines form names [] e = refl
no_lines form names (x ∷ xs) e = absurd (cc)

any_same : (ls : List (List ℕ)) (l : List ℕ) → is_trace_line l ≡ false → list_any is_trace_line (ls ++ (l ∷ []))
    ≡ list_any is_trace_line ls
any_same [] l not_one = ap (λ b. b || false) not_one
any_same (x ∷ xs) l not_one = ap (λ b. is_trace_line x || b) (any_same xs l not_one)

-- where the trace has begun its form stays, and where not there is no entry
written_on : (done names : List (List ℕ)) (line : List ℕ) (t : List Entry) → is_trace_line line ≡ false
    → LinesWritten done names t → (begun : Bool) → list_any is_trace_line done ≡ begun → LinesWritten (done
    ++ (line ∷ [])) names t
written_on done names line t not_one w true is =
    let kept : is_second (done ++ (line ∷ [])) ≡ is_second done = second_more done line ∙ ap
    (λ b. is_second done || (not b && says_second line)) is ∙ by (is_second done) in
    let same : form_of (done ++ (line ∷ [])) ≡ form_of done = ap (λ b. cond b Second First) kept in
    record {
      lines = traced_same done line not_one ∙ w.lines ∙ ap (λ f. trace_lines f names t) (sym same);
      texts = subst (λ f. HaveTexts f names [] t) (sym same) w.texts;
    }
  where
    by : (b : Bool) → (b || false) ≡ b
    by true = refl
    by false = refl
written_on done names line t not_one w false is =
    let none = list_any_false done is in
    let empty : t ≡ [] = no_lines (form_of done) names t (sym none ∙ w.lines) in
    subst (λ u. LinesWritten (done ++ (line ∷ [])) names u) (sym empty)
    (record { lines = traced_same done line not_one ∙ none; texts = tt })

pub read_other : (done names : List (List ℕ)) (line : List ℕ) (old new : Reading) → is_trace_line line ≡ false
    → HasRead done names old
    → new.entries.items ≡ old.entries.items → new.teams.numbers ≡ old.teams.numbers → new.has_begun ≡ old.has_begun
    → new.teams.is_second ≡ (old.teams.is_second || (not old.has_begun && says_second line)) → HasRead (done
    ++ (line ∷ [])) names new
read_other done names line old new not_one read entries numbers begun second = record {
  written = subst (λ u. LinesWritten (done ++ (line ∷ [])) names u) (sym entries)
      (written_on done names line old.entries.items not_one read.written (list_any is_trace_line done) refl);
  form = second ∙ (λ i. read.form i || (not (read.begun i) && says_second line)) ∙ sym (second_more done line);
  begun = begun ∙ read.begun ∙ sym (any_same done line not_one);
  given = λ yes. subst (λ u. HasGiven u new.teams.numbers) (sym entries) (subst
      (λ m. HasGiven old.entries.items m) (sym numbers) (known old.teams.is_second refl old.has_begun refl
      (sym second ∙ yes)));
  none = elim read.none [
    | inl n ↦ inl (subst (λ m. HasGiven [] m) (sym numbers) n)
    | inr b ↦ inr (begun ∙ b)
  ];
}
  where
    entries_none : old.has_begun ≡ false → old.entries.items ≡ []
    entries_none at = no_lines (form_of done) names old.entries.items (sym (list_any_false done (sym read.begun
        ∙ at)) ∙ read.written.lines)

    known : (s : Bool) → old.teams.is_second ≡ s → (b : Bool) → old.has_begun ≡ b
        → (old.teams.is_second || (not old.has_begun && says_second line)) ≡ true
        → HasGiven old.entries.items old.teams.numbers
    known true is b at told = read.given is
    known false is true at told = absurd (true≢false (sym told ∙ (λ i. is i || (not (at i) && says_second line))))
    known false is false at told = subst (λ u. HasGiven u old.teams.numbers) (sym (entries_none at)) (elim read.none [
      | inl n ↦ n
      | inr b ↦ absurd (true≢false (sym b ∙ at))
    ])

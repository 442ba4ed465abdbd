-- A file is written for one trace at most, and the front of its lines for a front of it.
use Rattle.std.proofs.Common.{◌≡◌, ℕ, zero, suc, ◌≤◌, Bool, true, false, not, cond, ◌&&◌, ◌||◌, List, [], ◌∷◌, ◌++◌}
use Rattle.std.proofs.Common.{◌⊎◌, inl, inr, length, take, drop, refl, ap, sym, ◌∙◌, subst, arith, take-append-drop}
use Rattle.std.proofs.Common.{take_all}
use Rattle.std.proofs.lemmas.Bool.{cases_order}
use Rattle.std.proofs.lemmas.List.Elements.{filter-append}
use Rattle.caf_events.specs.declared.event.Entry.{Entry}
use Rattle.trace_forms.specs.Names.{AreNames}
use Rattle.trace_text.specs.TraceText.{entry_line}
use Rattle.trace_text.specs.Forms.{Form, First, Second, asked_team, lines_behind, trace_lines}
use Rattle.trace_forms.specs.Shown.{HaveTexts}
use Rattle.trace_forms.specs.Files.{lines_of, is_trace_line, traced_lines, says_second, is_second, form_of}
use Rattle.trace_forms.specs.Files.{LinesWritten, Written, WrittenForNone, IsBadLine}
use Rattle.trace_forms.proofs.Lines.{lines_same}

pub written_once : (ls names : List (List ℕ)) (t u : List Entry) → AreNames names → LinesWritten ls names t
    → LinesWritten ls names u → t ≡ u
written_once ls names t u are w v = lines_same (form_of ls) names are [] t u tt w.texts v.texts
    (sym w.lines ∙ v.lines)

-- entries whose lines are these and others are some with these lines, and others
pub record Split (form : Form) (names : List (List ℕ)) (before t : List Entry) (front : List (List ℕ)) : Type 0 where
  pub these : List Entry
  pub lines : lines_behind form names before these ≡ front
  pub texts : HaveTexts form names before these

split : (form : Form) (names : List (List ℕ)) (before t : List Entry) (front rest : List (List ℕ))
    → lines_behind form names before t ≡ front ++ rest → HaveTexts form names before t
    → Split form names before t front
split form names before t [] rest e h = record { these = []; lines = refl; texts = tt }
split form names before [] (l ∷ ls) rest e h = absurd (cc)
split form names before (x ∷ xs) (l ∷ ls) rest e h =
    let first : entry_line (asked_team form before) names x ≡ l = cc in
    let later : lines_behind form names (before ++ x ∷ []) xs ≡ ls ++ rest = cc in
    let r = split form names (before ++ x ∷ []) xs ls rest later h.2 in
    record { these = x ∷ r.these; lines = λ i. first i ∷ r.lines i; texts = (h.0, h.1, r.texts) }

-- where a line of the trace stands in front, what follows changes nothing of the form
by_cases : (s t : Bool) (a b : Bool) → (t ≡ false → a ≡ b) → (s || (not t && a)) ≡ (s || (not t && b))
by_cases true t a b f = refl
by_cases false true a b f = refl
by_cases false false a b f = f refl

same_second : (xs ys : List (List ℕ)) → (traced_lines xs ≡ [] → ⊥) → is_second (xs ++ ys) ≡ is_second xs
same_second [] ys some = absurd (some refl)
same_second (x ∷ xs) ys some = by_cases (says_second x) (is_trace_line x) (is_second (xs ++ ys)) (is_second xs)
    (λ f. same_second xs ys (λ none. some (ap (λ b. cond b (x ∷ traced_lines xs) (traced_lines xs)) f ∙ none)))

none_or_some : (ls : List (List ℕ)) → (ls ≡ []) ⊎ (ls ≡ [] → ⊥)
none_or_some [] = inl refl
none_or_some (l ∷ ls) = inr (λ e. cc)

-- the front of a file's lines is written for some trace where the file is written for one
pub written_front : (xs ys names : List (List ℕ)) (t : List Entry) → LinesWritten (xs ++ ys) names t
    → (u : List Entry) × LinesWritten xs names u
written_front xs ys names t w = elim (none_or_some (traced_lines xs)) [
  | inl none ↦ ([], record { lines = none; texts = tt })
  | inr some ↦ (
      let form : form_of (xs ++ ys) ≡ form_of xs = ap (λ b. cond b Second First) (same_second xs ys some) in
      let lines = sym (ap (λ f. trace_lines f names t) (sym form) ∙ sym w.lines) in
      let texts = subst (λ f. HaveTexts f names [] t) form w.texts in
      let r = split (form_of xs) names [] t (traced_lines xs) (traced_lines ys)
      (sym lines ∙ filter-append is_trace_line xs ys) texts in
      (r.these, record { lines = sym r.lines; texts = r.texts }))
]

take_take : {A : Type 0} (j k : ℕ) (xs : List A) → j ≤ k → take j (take k xs) ≡ take j xs
take_take zero k xs l = refl
take_take (suc j) zero xs l = absurd (omega arith)
take_take (suc j) (suc k) [] l = refl
take_take (suc j) (suc k) (x ∷ xs) l = ap (λ z. x ∷ z) (take_take j k xs (omega arith))

-- so where the first so many lines are written for none, more of them aren't either
pub none_later : (ls names : List (List ℕ)) (j k : ℕ) → j ≤ k → WrittenForNone ls names j → WrittenForNone ls names k
none_later ls names j k l none t w =
    let front = take j (take k ls) in
    let whole = subst (λ z. LinesWritten z names t) (sym (take-append-drop j (take k ls))) w in
    let r = written_front (take j (take k ls)) (drop j (take k ls)) names t whole in
    none r.0 (subst (λ z. LinesWritten z names r.0) (take_take j k ls l) r.1)

-- a file with a bad line is written for no trace
pub none_of_bad : (bytes : List ℕ) (names : List (List ℕ)) (line : ℕ) (t : List Entry)
    → IsBadLine (lines_of bytes) names line
    → Written bytes names t → ⊥
none_of_bad bytes names line t bad w =
    let ls = lines_of bytes in
    let all : length (lines_of bytes) ≤ length (lines_of bytes) = omega arith in
    none_later ls names line (length ls) bad.most bad.none t
    (subst (λ z. LinesWritten z names t) (sym (take_all (length ls) ls all)) w)

-- and it has one at most
pub one_bad : (ls names : List (List ℕ)) (j k : ℕ) → IsBadLine ls names j → IsBadLine ls names k → j ≡ k
one_bad ls names j k f g = elim (cases_order j k) [
  | inl same ↦ same
  | inr (inl less) ↦ (let w = g.before j less in absurd (f.none w.0 w.1))
  | inr (inr more) ↦ (let w = f.before k more in absurd (g.none w.0 w.1))
]

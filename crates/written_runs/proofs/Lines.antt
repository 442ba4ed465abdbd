-- Texts that are lines, all of a trace or none: their lines are these.
use Rattle.std.proofs.Common.{◌≡◌, ◌∙◌, ℕ, zero, suc, ◌+◌, ◌<◌, ◌≤◌, Bool, true, false, not, ◌&&◌, ◌||◌, ◌==◌, cond, List, [], ◌∷◌, ◌++◌, length, inl, inr}
use Rattle.std.proofs.Common.{flat_map, refl, ap, sym, arith, append_assoc}
use Rattle.std.specs.List.{list_all, list_any, concat, range_with_len}
use Rattle.std.proofs.lemmas.Bool.{and_parts, and_from, cases_order}
use Rattle.std.proofs.lemmas.Bool.Decides.{nat_tests}
use Rattle.std.proofs.lemmas.List.Folds.{concat-append}
use Rattle.trace_theory.specs.Entries.{Each}
use Rattle.trace_forms.specs.Names.{is_digit_byte}
use Rattle.trace_forms.specs.Files.{with_byte, lines_of, is_blank, goes_on_as_stamp, is_trace_line, traced_lines, says_second, is_second}
use Rattle.written_runs.proofs.Clean.{no_feed, Clean, is_late}

-- a line of a file, with its line feed, that is one of the trace or isn't
pub record IsLineOf (traced : Bool) (line : List ℕ) : Type 0 where
  pub body : List ℕ
  pub clean : Clean body
  pub whole : line ≡ body ++ 10 ∷ []
  pub is : is_trace_line line ≡ traced

and_false : (b : Bool) → (b && false) ≡ false
and_false true = refl
and_false false = refl

or_true : (b : Bool) → (b || true) ≡ true
or_true true = refl
or_true false = refl

-- ---- the lines of a text that is put together from lines
end_first : (ls : List (List ℕ)) → with_byte 10 ls ≡ (10 ∷ []) ∷ ls
end_first [] = refl
end_first (l ∷ ls) = refl

byte_first : (b : ℕ) (l : List ℕ) (ls : List (List ℕ)) → no_feed b ≡ true → with_byte b (l ∷ ls) ≡ (b ∷ l) ∷ ls
byte_first b l ls h = by_test (b == 10) h
  where
    by_test : (t : Bool) → not t ≡ true → cond t ((b ∷ []) ∷ l ∷ ls) ((b ∷ l) ∷ ls) ≡ (b ∷ l) ∷ ls
    by_test true e = absurd (never e)
      where
        never : false ≡ true → ⊥
        never k = cc
    by_test false e = refl

line_first : (body rest : List ℕ) → Clean body → lines_of (body ++ 10 ∷ rest) ≡ (body ++ 10 ∷ []) ∷ lines_of rest
line_first [] rest h = end_first (lines_of rest)
line_first (b ∷ body) rest h =
    let k = and_parts (no_feed b) (list_all no_feed body) h in
    ap (with_byte b) (line_first body rest k.1) ∙ byte_first b (body ++ 10 ∷ []) (lines_of rest) k.0

pub one_first : (traced : Bool) (line rest : List ℕ) → IsLineOf traced line → lines_of (line ++ rest) ≡ line ∷ lines_of rest
one_first traced line rest h =
    let e = h.whole in
    let split : (h.body ++ 10 ∷ []) ++ rest ≡ h.body ++ 10 ∷ rest = append_assoc h.body (10 ∷ []) rest in
    ap (λ l. lines_of (l ++ rest)) e ∙ ap lines_of split ∙ line_first h.body rest h.clean ∙ ap (λ l. l ∷ lines_of rest) (sym e)

pub lines_behind : (traced : Bool) (ls : List (List ℕ)) (rest : List ℕ) → Each (IsLineOf traced) ls → lines_of (concat ls ++ rest) ≡ ls ++ lines_of rest
lines_behind traced [] rest h = refl
lines_behind traced (l ∷ ls) rest h =
    ap lines_of (append_assoc l (concat ls) rest) ∙ one_first traced l (concat ls ++ rest) h.0
    ∙ ap (λ k. l ∷ k) (lines_behind traced ls rest h.1)

-- ---- texts of such lines
pub record Lined (traced : Bool) (text : List ℕ) : Type 0 where
  pub lines : List (List ℕ)
  pub whole : text ≡ concat lines
  pub each : Each (IsLineOf traced) lines

each_both : {A : Type 0} (P : A → Type 0) (xs ys : List A) → Each P xs → Each P ys → Each P (xs ++ ys)
each_both P [] ys h k = k
each_both P (x ∷ xs) ys h k = (h.0, each_both P xs ys h.1 k)

pub append_none : (xs : List ℕ) → xs ++ [] ≡ xs
append_none [] = refl
append_none (x ∷ xs) = ap (λ k. x ∷ k) (append_none xs)

module _ (traced : Bool) where
  pub lined_none : Lined traced []
  lined_none = record { lines = []; whole = refl; each = tt }

  pub lined_one : (body : List ℕ) → Clean body → is_trace_line (body ++ 10 ∷ []) ≡ traced → Lined traced (body ++ 10 ∷ [])
  lined_one body h is = record {
    lines = (body ++ 10 ∷ []) ∷ [];
    whole = sym (append_none (body ++ 10 ∷ []));
    each = (record { body = body; clean = h; whole = refl; is = is }, tt);
  }

  pub lined_both : (xs ys : List ℕ) → Lined traced xs → Lined traced ys → Lined traced (xs ++ ys)
  lined_both xs ys h k = record {
    lines = h.lines ++ k.lines;
    whole = (λ i. h.whole i ++ k.whole i) ∙ sym (concat-append h.lines k.lines);
    each = each_both (IsLineOf traced) h.lines k.lines h.each k.each;
  }

  pub lined_flat : {A : Type 0} (f : A → List ℕ) → ((x : A) → Lined traced (f x)) → (xs : List A) → Lined traced (flat_map f xs)
  lined_flat f h [] = lined_none
  lined_flat f h (x ∷ xs) = lined_both (f x) (flat_map f xs) (h x) (lined_flat f h xs)

  pub lined_each : {A : Type 0} (P : A → Type 0) (f : A → List ℕ) → ((x : A) → P x → Lined traced (f x)) → (xs : List A) → Each P xs → Lined traced (flat_map f xs)
  lined_each P f h [] k = lined_none
  lined_each P f h (x ∷ xs) k = lined_both (f x) (flat_map f xs) (h x k.0) (lined_each P f h xs k.1)

  pub lined_cond : (b : Bool) (xs : List ℕ) → Lined traced xs → Lined traced (cond b xs [])
  lined_cond true xs h = h
  lined_cond false xs h = lined_none

-- ---- lines of a trace and others
-- behind digits a byte that is no blank and no digit: no line of a trace
late_is : (b : ℕ) → is_late b ≡ true → is_blank b ≡ false
late_is b h = grind (arith, nat_tests)

stamp_ends : (ds : List ℕ) (c : ℕ) (rest : List ℕ) → list_all is_late ds ≡ true → is_blank c ≡ false → is_digit_byte c ≡ false
    → goes_on_as_stamp (ds ++ c ∷ rest) ≡ false
stamp_ends [] c rest h p q = (λ i. p i || (q i && goes_on_as_stamp rest))
stamp_ends (d ∷ ds) c rest h p q =
    let k = and_parts (is_late d) (list_all is_late ds) h in
    let r = stamp_ends ds c rest k.1 p q in
    (λ i. late_is d k.0 i || (is_digit_byte d && r i)) ∙ and_false (is_digit_byte d)

pub not_traced : (ds : List ℕ) (c : ℕ) (rest : List ℕ) → list_all is_late ds ≡ true → is_blank c ≡ false → is_digit_byte c ≡ false
    → is_trace_line (ds ++ c ∷ rest) ≡ false
not_traced [] c rest h p q = ap (λ b. b && goes_on_as_stamp rest) q
not_traced (d ∷ ds) c rest h p q =
    ap (λ b. is_digit_byte d && b) (stamp_ends ds c rest (and_parts (is_late d) (list_all is_late ds) h).1 p q) ∙ and_false (is_digit_byte d)

-- digits, and a blank behind them: a line of a trace
stamp_goes_on : (ds rest : List ℕ) → list_all is_digit_byte ds ≡ true → goes_on_as_stamp (ds ++ 32 ∷ rest) ≡ true
stamp_goes_on [] rest h = refl
stamp_goes_on (d ∷ ds) rest h =
    let k = and_parts (is_digit_byte d) (list_all is_digit_byte ds) h in
    let r = stamp_goes_on ds rest k.1 in
    (λ i. is_blank d || (k.0 i && r i)) ∙ or_true (is_blank d)

pub is_traced : (ds rest : List ℕ) → 0 < length ds → list_all is_digit_byte ds ≡ true → is_trace_line (ds ++ 32 ∷ rest) ≡ true
is_traced [] rest some h = absurd (omega arith)
is_traced (d ∷ ds) rest some h =
    let k = and_parts (is_digit_byte d) (list_all is_digit_byte ds) h in
    and_from (is_digit_byte d) (goes_on_as_stamp (ds ++ 32 ∷ rest)) k.0 (stamp_goes_on ds rest k.1)

-- ---- which lines of a file are the trace's, and its form
pub none_traced : (ls : List (List ℕ)) → Each (IsLineOf false) ls → traced_lines ls ≡ []
none_traced [] h = refl
none_traced (l ∷ ls) h = ap (λ b. cond b (l ∷ traced_lines ls) (traced_lines ls)) h.0.is ∙ none_traced ls h.1

pub all_traced : (ls : List (List ℕ)) → Each (IsLineOf true) ls → traced_lines ls ≡ ls
all_traced [] h = refl
all_traced (l ∷ ls) h = ap (λ b. cond b (l ∷ traced_lines ls) (traced_lines ls)) h.0.is ∙ ap (λ k. l ∷ k) (all_traced ls h.1)

pub second_behind : (ls rest : List (List ℕ)) → Each (IsLineOf false) ls → is_second rest ≡ true → is_second (ls ++ rest) ≡ true
second_behind [] rest h e = e
second_behind (l ∷ ls) rest h e =
    let r = second_behind ls rest h.1 e in
    (λ i. says_second l || (not (h.0.is i) && r i)) ∙ or_true (says_second l)

-- a test that passes at a number of a range
pub any_within : (test : ℕ → Bool) (a n k : ℕ) → a ≤ k → k < a + n → test k ≡ true → list_any test (range_with_len a n) ≡ true
any_within test a zero k low high h = absurd (omega arith)
any_within test a (suc n) k low high h = elim (cases_order a k) [
  | inl same ↦ ap (λ b. b || list_any test (range_with_len (a + 1) n)) (ap test same ∙ h)
  | inr (inl less) ↦ (let r = any_within test (a + 1) n k (omega arith) (omega arith) h in ap (λ b. test a || b) r ∙ or_true (test a))
  | inr (inr more) ↦ absurd (omega arith)
]

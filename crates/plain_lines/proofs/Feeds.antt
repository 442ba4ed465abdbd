-- The lines of a text are those that it was made of.
use Rattle.std.proofs.Common.{◌≡◌, ℕ, zero, suc, ◌-◌, true, false, cond, List, [], ◌∷◌, ◌++◌, length, take, refl, ap, ◌∙◌, append_assoc, arith}
use Rattle.std.specs.Prelude.{slice_index, ◌==◌}
use Rattle.std.specs.List.{AllByRecursion, All, list_all, slice_split}
use Rattle.std.specs.Str.Lines.{lines, lines_of_parts, strip_carriage_return}
use Rattle.std.proofs.lemmas.List.Splits.{slice_split_at}
use Rattle.plain_lines.specs.PlainLines.{is_plain, IsPlainLine, ended}
use Rattle.plain_lines.proofs.PlainBytes.{no_feed, no_return, first_plain, rest_plain}

-- no byte of a plain line is a line feed
feedless : (l : List ℕ) → list_all is_plain l ≡ true → All (λ b. (b == 10) ≡ false) l
feedless [] e k d h = absurd (omega arith)
feedless (b ∷ l) e zero d h = no_feed b (first_plain b l e)
feedless (b ∷ l) e (suc k) d h = feedless l (rest_plain b l e) k d (omega arith)

-- nor a carriage return
returnless : (l : List ℕ) (k : ℕ) → list_all is_plain l ≡ true → (slice_index l k == 13) ≡ false
returnless [] k e = refl
returnless (b ∷ l) zero e = no_return b (first_plain b l e)
returnless (b ∷ l) (suc k) e = returnless l k (rest_plain b l e)

kept : (l : List ℕ) → list_all is_plain l ≡ true → strip_carriage_return l ≡ l
kept l e = ap (λ b. cond b (take (length l - 1) l) l) (returnless l (length l - 1) e)

-- the parts between line feeds
parts : (ls : List (List ℕ)) → AllByRecursion IsPlainLine ls → slice_split (λ b. b == 10) (ended ls) ≡ ls ++ [] ∷ []
parts [] h = refl
parts (l ∷ ls) h =
    ap (slice_split (λ b. b == 10)) (append_assoc l (10 ∷ []) (ended ls))
    ∙ slice_split_at (λ b. b == 10) l 10 (ended ls) (feedless l h.0.plain) refl
    ∙ ap (λ r. l ∷ r) (parts ls h.1)

whole : (ls : List (List ℕ)) → AllByRecursion IsPlainLine ls → lines_of_parts (ls ++ [] ∷ []) ≡ ls
whole [] h = refl
whole (l ∷ []) h = ap (λ x. x ∷ []) (kept l h.0.plain)
whole (l ∷ k ∷ ls) h = ap (λ x. x ∷ lines_of_parts (k ∷ (ls ++ [] ∷ []))) (kept l h.0.plain) ∙ ap (λ r. l ∷ r) (whole (k ∷ ls) h.1)

pub lines-ended : (ls : List (List ℕ)) → AllByRecursion IsPlainLine ls → lines (ended ls) ≡ ls
lines-ended ls h = ap lines_of_parts (parts ls h) ∙ whole ls h

-- Where the first token too deep stands in the rest of a file, of all words that begin with some tokens.
use Rattle.std.proofs.Common.{◌≡◌, ℕ, true, false, List, [], ◌++◌, length, ap, ◌∙◌, arith}
use Rattle.std.proofs.lemmas.List.{length-append}
use Rattle.reader_theory.specs.Words.{Mark, bare, Verdict, found, fault}
use Rattle.reader_theory.specs.Refusals.{Answers}
use Rattle.reader_theory.specs.Limits.{Goes, FirstSunk, goes_through}
use Rattle.reader_theory.specs.Readers.{more_of}
use Rattle.reader_theory.specs.Exactness.{never}
use Rattle.reader_theory.specs.Languages.{By}
use Rattle.reader_theory.specs.Texts.{one_form}
use Rattle.reader_theory.proofs.Marks.{never_stops}
use Rattle.reader_theory.proofs.Tail.{exact_tail}
use Rattle.reader_theory.proofs.Sinking.{through_begins, stopped_begins}
use Rattle.reader_theory.proofs.Moved.{moved_begins, moved_goes}
use Rattle.reader_theory.proofs.TextLimits.{first_of_texts}
use Rattle.fortran_grammar.specs.Tokens.{Token}
use Rattle.statement_reader.specs.Parts.{Part}
use Rattle.statement_reader.specs.Forms.{Place, part_reader}
use Rattle.statement_reader.specs.Laws.{Part_at}
use Rattle.statement_reader.proofs.Places.{exact_part}
use Rattle.program_reader.specs.Sequence.{State, forms, next, may_end, Rest_of_file, rest_reader}
use Rattle.program_reader.proofs.Files.{part_longer, file_answered}
use Rattle.refusal_reasons.specs.Reasons.{through, goes_from, out_of_reach, goes, place_at}
use Rattle.refusal_reasons.proofs.Moving.{way_moved}
use Rattle.refusal_reasons.proofs.Through.{form_through, rest_through}

-- a part of a form, and what may stand behind it
abbrev pub Way : ℕ → State → Place → List Part → List (Mark Token) → Type 0
Way limit s i = By more_of (Part_at limit i) (λ b. λ fs v. Rest_of_file limit (next s b) fs v)

-- from each place on some file goes on
record Some_rest (limit : ℕ) (s : State) : Type 0 where
  parts : List Part
  word : List (Mark Token)
  is_rest : Rest_of_file limit s parts word

some_rest : (limit : ℕ) (s : State) → Some_rest limit s
some_rest limit s = by_answer (rest_reader limit 0 s []) (file_answered limit 0 s [] (omega arith))
  where
    by_answer : (v : Verdict Token (List Part)) → Answers (λ fs v. Rest_of_file limit s fs v) [] v → Some_rest limit s
    by_answer (found fs rest) (e, (w, h, sh, same)) = record { parts = fs; word = w; is_rest = h }
    by_answer (fault c rest) r = let (fs, w, v, h, shallow, same) = r.begins in record { parts = fs; word = w ++ v; is_rest = h }

way_answered : (limit : ℕ) (s : State) (i : Place) (us : List Token) → Answers (Way limit s i) us (one_form (part_reader limit) next (rest_reader limit (length us)) s i us)
way_answered limit s i us = exact_tail more_of (Part_at limit i) (λ b. λ fs v. Rest_of_file limit (next s b) fs v) (part_reader limit i) (λ b. rest_reader limit (length us) (next s b)) never (exact_part limit i) (λ b fs v h. never_stops (bare v))
    (λ b. (some_rest limit (next s b)).parts) (λ b. (some_rest limit (next s b)).word) (λ b. (some_rest limit (next s b)).is_rest) us
    (λ b left e t. file_answered limit (length us) (next s b) left (let k = ap length t.split ∙ length-append (bare t.word) left in omega arith))

module _ (limit : ℕ) (s : State) (i : Place) (us : List Token) where
  told_by : (far : ℕ) → goes_through (one_form (part_reader far) next (rest_reader far (length us)) s i us) ≡ through (λ b. goes_from far (length us) (next s b)) (part_reader far i us)
  told_by far = form_through far (length us) (rest_through far (length us)) s i us (omega arith)

  goes_on : goes s i us ≡ true → Goes (Way limit s i) us
  goes_on e = let far = out_of_reach s i (length us) in
      moved_goes (Way limit s i) (Way far s i) us (λ fs w h. way_moved far limit s i 0 fs w h (λ k. omega arith)) (through_begins (Way far s i) us _ (way_answered far s i us) (told_by far ∙ e))

  goes_no_further : goes s i us ≡ false → Goes (Way limit s i) us → ⊥
  goes_no_further e g = let far = out_of_reach s i (length us) in
      stopped_begins (Way far s i) us _ (way_answered far s i us) (told_by far ∙ e) (moved_begins (Way limit s i) (Way far s i) us (length us) (λ fs w h. way_moved limit far s i (length us) fs w h (λ k. omega arith)) (omega arith) g)

pub first_of_rest : (limit : ℕ) (s : State) (us : List Token) → FirstSunk (λ fs v. Rest_of_file limit s fs v) us (place_at limit s us)
first_of_rest limit s us = first_of_texts (Part_at limit) (part_reader limit) (exact_part limit) forms next may_end (part_longer limit) goes (goes_on limit) (goes_no_further limit) (length us) s us (omega arith)

-- The reason of a whole file's refusal.
use Rattle.std.proofs.Common.{◌≡◌, ℕ, List, [], ◌∷◌, ◌++◌, length, Option, Some, None, refl, ap, sym, ◌∙◌, subst, append_assoc, ◌+◌, ◌-◌, true, arith}
use Rattle.std.proofs.lemmas.List.{length-append}
use Rattle.reader_theory.specs.Words.{Mark, bare, Shallow, Cause}
use Rattle.reader_theory.specs.Refusals.{Refused}
use Rattle.reader_theory.specs.Limits.{SinksAt, FirstSunk, RefusedFor, reason, shifted}
use Rattle.reader_theory.proofs.Marks.{bare_length, same_front}
use Rattle.reader_theory.proofs.Limits.{refused_for}
use Rattle.fortran_grammar.specs.Tokens.{Token}
use Rattle.fortran_grammar.specs.ProgramGrammar.{Programs}
use Rattle.statement_reader.specs.Parts.{Part}
use Rattle.program_reader.specs.Sequence.{allowed, start, Rest_of_file}
use Rattle.program_reader.specs.Nesting.{program_parts}
use Rattle.program_reader.specs.Unfinished.{Parts_from, behind}
use Rattle.program_reader.proofs.FlatUnits.{flat_program}
use Rattle.program_reader.proofs.NestedUnits.{nested_program}
use Rattle.refusal_reasons.specs.Reasons.{levels_at, place_at}
use Rattle.refusal_reasons.specs.Statements.{one_statement, statement_place, before}
use Rattle.refusal_reasons.proofs.Earliest.{place_within, shifted_from, place_from_end}
use Rattle.refusal_reasons.proofs.Going.{first_of_rest}
use Rattle.refusal_reasons.proofs.Fronts.{first_behind}

module _ (limit : ℕ) where
  sinks_parts : (us : List Token) (d : ℕ) → SinksAt (Programs limit) us d → SinksAt (λ fs v. Rest_of_file limit start fs v) us d
  sinks_parts us d (x, f, g, v, m, h, here, flat, deep, l) = (program_parts x, f, g, v, m, flat_program limit x ((f ++ m ∷ g) ++ v) h, here, flat, deep, l)

  sinks_program : (us : List Token) (d : ℕ) → SinksAt (λ fs v. Rest_of_file limit start fs v) us d → SinksAt (Programs limit) us d
  sinks_program us d (fs, f, g, v, m, h, here, flat, deep, l) = let (x, is, k) = nested_program limit fs ((f ++ m ∷ g) ++ v) h in (x, f, g, v, m, k, here, flat, deep, l)

  first_program : (us : List Token) (o : Option ℕ) → FirstSunk (λ fs v. Rest_of_file limit start fs v) us o → FirstSunk (Programs limit) us o
  first_program us None h = λ d k. h d (sinks_parts us d k)
  first_program us (Some d) h = (sinks_program us d h.0, λ e l k. h.1 e l (sinks_parts us e k))

  pub told_by_last : (es : List Part) (w : List (Mark Token)) (ts us : List Token) (c : Cause) (x : Token) (rest : List Token) → Parts_from limit start es w → Shallow w → (behind start es).conditions ≡ 0 → ts ≡ bare w ++ (us ++ x ∷ rest) → Refused (Programs limit) ts c (x ∷ rest)
      → RefusedFor (Programs limit) ts (reason (shifted (length w) (place_at limit (behind start es) (us ++ x ∷ [])))) (x ∷ rest)
  told_by_last es w ts us c x rest h sh z split r =
      let fronts = same_front r.front (bare w ++ us) (x ∷ rest) (x ∷ rest) (sym r.split ∙ (split ∙ sym (append_assoc (bare w) us (x ∷ rest)))) refl in
      let first = first_program (bare w ++ (us ++ x ∷ [])) _ (first_behind limit start es w (us ++ x ∷ []) h sh z _ (first_of_rest limit (behind start es) (us ++ x ∷ []))) in
      let whole : bare w ++ (us ++ x ∷ []) ≡ r.front ++ x ∷ [] = sym (append_assoc (bare w) us (x ∷ [])) ∙ ap (λ y. y ++ x ∷ []) (sym fronts.0) in
      refused_for (Programs limit) ts c x rest _ r (subst (λ y. FirstSunk (Programs limit) y (shifted (length w) (place_at limit (behind start es) (us ++ x ∷ [])))) whole first)

  -- by the readers of the forms that the statement's place allows
  pub told_by_statement : (left : ℕ) (es : List Part) (w : List (Mark Token)) (ts us : List Token) (c : Cause) (x : Token) (rest : List Token) → Parts_from limit start es w → Shallow w → (behind start es).conditions ≡ 0
      → one_statement (us ++ x ∷ []) ≡ true → length (behind start es).blocks + left ≡ limit → ts ≡ bare w ++ (us ++ x ∷ rest) → Refused (Programs limit) ts c (x ∷ rest)
      → RefusedFor (Programs limit) ts (reason (before (length ts - length rest) (statement_place left (allowed (behind start es)) (us ++ x ∷ [])))) (x ∷ rest)
  told_by_statement left es w ts us c x rest h sh z one levels split r =
      let s = behind start es in
      let front = us ++ x ∷ [] in
      let place = statement_place left (allowed s) front in
      let all : levels_at s + left ≡ limit = omega arith in
      let size : length w + length front ≡ length ts - length rest =
      (let i = ap length split ∙ length-append (bare w) (us ++ x ∷ rest) in let j = length-append us (x ∷ rest) in let k = length-append us (x ∷ []) in let l = bare_length w in omega arith) in
      let same : shifted (length w) (place_at limit s front) ≡ before (length ts - length rest) place =
      ap (shifted (length w)) (place_from_end limit left s front one all) ∙ (shifted_from (length w) (length front) place (place_within left (allowed s) front) ∙ ap (λ n. before n place) size) in
      subst (λ o. RefusedFor (Programs limit) ts (reason o) (x ∷ rest)) same (told_by_last es w ts us c x rest h sh z split r)

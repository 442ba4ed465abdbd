-- A whole file is answered as the grammar of programs wants.
use Rattle.std.proofs.Common.{◌≡◌, ℕ, List, [], ◌∷◌, ◌++◌, length, sym, ◌∙◌, subst, arith}
use Rattle.reader_theory.specs.Words.{Mark, Cause, expected, too_deep, found, fault}
use Rattle.reader_theory.specs.Refusals.{Reads, Begins, Opens, StopsAt, Refused, Answers}
use Rattle.fortran_tree.specs.Units.{Program}
use Rattle.fortran_grammar.specs.Tokens.{Token}
use Rattle.fortran_grammar.specs.ProgramGrammar.{Programs}
use Rattle.statement_reader.specs.Parts.{Part}
use Rattle.program_reader.specs.Sequence.{start, Rest_of_file, rest_reader}
use Rattle.program_reader.specs.Nesting.{program_parts}
use Rattle.program_reader.proofs.Files.{file_answered}
use Rattle.program_reader.proofs.FlatUnits.{flat_program}
use Rattle.program_reader.proofs.NestedUnits.{nested_program}
use Rattle.program_reader.proofs.SameParts.{program_same}
use Rattle.program_reader.proofs.OneReading.{one_file}

module _ (limit : ℕ) where
  abbrev Parts : List Part → List (Mark Token) → Type 0
  Parts es w = Rest_of_file limit start es w

  begins_parts : (front : List Token) → Begins (Programs limit) front → Begins Parts front
  begins_parts front (x, w, v, h, s, e) = (program_parts x, w, v, flat_program limit x (w ++ v) h, s, e)

  begins_program : (front : List Token) → Begins Parts front → Begins (Programs limit) front
  begins_program front (es, w, v, h, s, e) = let (x, is, k) = nested_program limit es (w ++ v) h in (x, w, v, k, s, e)

  opens_parts : (front : List Token) (y : Token) → Opens (Programs limit) front y → Opens Parts front y
  opens_parts front y (x, w, v, h, s, e) = (program_parts x, w, v, flat_program limit x (w ++ record { token = y; deep = _ } ∷ v) h, s, e)

  opens_program : (front : List Token) (y : Token) → Opens Parts front y → Opens (Programs limit) front y
  opens_program front y (es, w, v, h, s, e) = let (x, is, k) = nested_program limit es (w ++ record { token = y; deep = _ } ∷ v) h in (x, w, v, k, s, e)

  stops_program : (front : List Token) (c : Cause) (rest : List Token) → StopsAt Parts front c rest → StopsAt (Programs limit) front c rest
  stops_program front c [] h = (h.0, λ x (w, k, s, e). h.1 (program_parts x) (w, flat_program limit x w k, s, e))
  stops_program front expected (y ∷ rest) h = (λ b. h.0 (begins_parts (front ++ y ∷ []) b), λ o. h.1 (opens_parts front y o))
  stops_program front too_deep (y ∷ rest) h = (λ b. h.0 (begins_parts (front ++ y ∷ []) b), opens_program front y h.1)

  answered : (ts : List Token) → Answers Parts ts (rest_reader limit (length ts) start ts)
  answered ts = file_answered limit (length ts) start ts (omega arith)

  pub fault_refused : (ts : List Token) (c : Cause) (rest : List Token) → rest_reader limit (length ts) start ts ≡ fault c rest → Refused (Programs limit) ts c rest
  fault_refused ts c rest e = let h = subst (Answers Parts ts) e (answered ts) in
      record { front = h.front; split = h.split; begins = begins_program h.front h.begins; stops = stops_program h.front c rest h.stops }

  pub found_read : (ts : List Token) (es : List Part) (rest : List Token) (x : Program) → rest_reader limit (length ts) start ts ≡ found es rest → es ≡ program_parts x → (rest ≡ []) × Reads (Programs limit) ts x
  found_read ts es rest x e is =
      let (none, (w, h, s, same)) = subst (Answers Parts ts) e (answered ts) in
      let (y, parts, k) = nested_program limit es w h in
      (none, (w, subst (λ z. Programs limit z w) (program_same y x (sym parts ∙ is)) k, s, same))

  parts_read : (ts : List Token) (x : Program) → Reads (Programs limit) ts x → Reads Parts ts (program_parts x)
  parts_read ts x (w, h, s, e) = (w, flat_program limit x w h, s, e)

  pub one_program : (ts : List Token) (x y : Program) → Reads (Programs limit) ts x → Reads (Programs limit) ts y → x ≡ y
  one_program ts x y h k = program_same x y (one_file limit ts (program_parts x) (program_parts y) (parts_read ts x h) (parts_read ts y k))

-- The first line by which the lines so far are written for none.
use Rattle.std.proofs.Common.{◌≡◌, ℕ, zero, suc, ◌+◌, ◌≤◌, List, [], ◌∷◌, ◌++◌, length, take, drop, refl, ap, sym}
use Rattle.std.proofs.Common.{◌∙◌, subst, arith, append_assoc, append-nil, length-append, take-append-drop}
use Rattle.caf_events.specs.declared.event.Entry.{Entry}
use Rattle.trace_forms.specs.Files.{lines_of, LinesWritten, IsBadLine}
use Rattle.trace_forms.proofs.Once.{written_front}
use Rattle.trace_reader.specs.Files.{HasRead}
use Rattle.trace_reader.specs.declared.trace.Reading.{Reading}

take_front : (xs ys : List (List ℕ)) → take (length xs) (xs ++ ys) ≡ xs
take_front [] ys = refl
take_front (x ∷ xs) ys = ap (λ z. x ∷ z) (take_front xs ys)

take_within : (k : ℕ) (xs ys : List (List ℕ)) → k ≤ length xs → take k (xs ++ ys) ≡ take k xs
take_within zero xs ys h = refl
take_within (suc k) [] ys h = absurd (omega arith)
take_within (suc k) (x ∷ xs) ys h = ap (λ z. x ∷ z) (take_within k xs ys (omega arith))

one_longer : (xs : List (List ℕ)) (x : List ℕ) → length (xs ++ (x ∷ [])) ≡ suc (length xs)
one_longer xs x = omega (arith, length-append xs (x ∷ []))

pub bad_line : (ls done others names : List (List ℕ)) (first : List ℕ) (t : List Entry) → ls ≡ done ++ (first ∷ others)
    → LinesWritten done names t → ((u : List Entry) → LinesWritten (done ++ (first ∷ [])) names u → ⊥)
    → IsBadLine ls names (suc (length done))
bad_line ls done others names first t whole written none =
    let split : ls ≡ (done ++ (first ∷ [])) ++ others = whole ∙ sym (append_assoc done (first ∷ []) others) in
    let front : take (suc (length done)) ls ≡ done ++ (first ∷ []) =
    (λ i. take (sym (one_longer done first) i) (split i)) ∙ take_front (done ++ (first ∷ [])) others in
    record {
      least = omega arith;
      most = omega (arith, ap length whole, length-append done (first ∷ others));
      none = λ u w. none u (subst (λ z. LinesWritten z names u) front w);
      before = λ k h.
          let same : take k ls ≡ take k done = ap (take k) whole ∙ take_within k done (first ∷ others) (omega arith) in
          let r = written_front (take k done) (drop k done) names t
          (subst (λ z. LinesWritten z names t) (sym (take-append-drop k done)) written) in
          (r.0, subst (λ z. LinesWritten z names r.0) (sym same) r.1);
    }

-- the lines so far and those that are left are those of the file
pub record AtLine (bytes rest : List ℕ) (names : List (List ℕ)) (line : ℕ) (reading : Reading) : Type 0 where
  pub done : List (List ℕ)
  pub whole : lines_of bytes ≡ done ++ lines_of rest
  pub number : line ≡ suc (length done)
  pub read : HasRead done names reading

-- at the end all lines are read
pub at_end : (bytes rest : List ℕ) (names : List (List ℕ)) (line : ℕ) (reading : Reading) → rest ≡ []
    → AtLine bytes rest names line reading → LinesWritten (lines_of bytes) names reading.entries.items
at_end bytes rest names line reading none at =
    let all : lines_of bytes ≡ at.done = at.whole ∙ ap (λ r. at.done ++ lines_of r) none ∙ append-nil at.done in
    subst (λ ls. LinesWritten ls names reading.entries.items) (sym all) at.read.written

-- a line more is read
pub at_next : (bytes rest others : List ℕ) (names : List (List ℕ)) (line : ℕ) (first : List ℕ) (old new : Reading)
    → lines_of rest ≡ first ∷ lines_of others → (at : AtLine bytes rest names line old)
    → HasRead (at.done ++ (first ∷ [])) names new → AtLine bytes others names (line + 1) new
at_next bytes rest others names line first old new is at read = record {
  done = at.done ++ (first ∷ []);
  whole = at.whole ∙ ap (λ z. at.done ++ z) is ∙ sym (append_assoc at.done (first ∷ []) (lines_of others));
  number = omega (arith, at.number, one_longer at.done first);
  read = read;
}

-- A write of bytes, piece by piece.
use Rattle.std.proofs.Common.{◌≡◌, ℕ, ◌-◌, List, [], ◌++◌, length, take, drop, Option, sym, ap, ◌∙◌, append_assoc, take-append-drop, length-append, arith}
use Rattle.std.specs.Io.KnownBytes.{Appends}
use Rattle.std.proofs.KnownBytes.{Appends-trans}
use Rattle.std.proofs.lemmas.Grind.{common_steps}

-- a front of the bytes is written, and the rest isn't
pub record HasWritten (old new : Option (List ℕ)) (bytes rest : List ℕ) : Type 0 where
  pub front : List ℕ
  pub split : bytes ≡ front ++ rest
  pub grew : Appends old new front

-- the rest, as code takes it
pub rest_whole : (rest : List ℕ) (n : ℕ) → take (length rest - n) (drop n rest) ≡ drop n rest
rest_whole rest n = grind (arith, common_steps)

pub written_more : {old mid : Option (List ℕ)} {bytes rest : List ℕ} (new : Option (List ℕ)) (n : ℕ) → HasWritten old mid bytes rest → Appends mid new (take n rest) → HasWritten old new bytes (take (length rest - n) (drop n rest))
written_more {old} {mid} {bytes} {rest} new n w more = record {
  front = w.front ++ take n rest;
  split = rw (rest_whole rest n) (w.split ∙ ap (λ l. w.front ++ l) (sym (take-append-drop n rest)) ∙ sym (append_assoc w.front (take n rest) (drop n rest)));
  grew = Appends-trans old mid new w.front (take n rest) w.grew more;
}

-- where there are no bytes, there is no rest
pub none_left : {old new : Option (List ℕ)} {bytes rest : List ℕ} → HasWritten old new bytes rest → bytes ≡ [] → length rest ≡ 0
none_left {old} {new} {bytes} {rest} w none =
    let long = ap length w.split in
    let zero = ap length none in
    omega (arith, long, zero, length-append w.front rest)

-- What one more byte at the end of a code part changes.
use Rattle.std.proofs.Common.{◌≡◌, Bool, true, false, ◌&&◌, nat_eq, List, [], ◌∷◌, ◌++◌, Some, None, refl, ap, sym, ◌∙◌, arith}
use Rattle.std.proofs.Math.Bool.{and-true}
use Rattle.std.proofs.lemmas.List.Folds.{list_all-append}
use Rattle.std.proofs.lemmas.Bool.{eq-eqb, ne_eqb, and_right}
use Rattle.std.proofs.lemmas.Bool.Decides.{nat_tests}
use Rattle.fortran_lines.specs.declared.placed_byte.PlacedByte.{PlacedByte}
use Rattle.fortran_lines.specs.PlacedBytes.{is_blank, all_blank}
use Rattle.fortran_lines.specs.Lines.{before_amp}

-- a blank is no `&`
pub blank_no_amp : (m : PlacedByte) → is_blank m ≡ true → nat_eq m.code 38 ≡ false
blank_no_amp m h = grind (arith, nat_tests)

-- an `&` is no blank
pub amp_no_blank : (m : PlacedByte) → nat_eq m.code 38 ≡ true → is_blank m ≡ false
amp_no_blank m h = grind (arith, nat_tests)

-- with a blank more all are blanks as before
all_blank-blank : (code : List PlacedByte) (m : PlacedByte) → is_blank m ≡ true → all_blank (code ++ m ∷ []) ≡ all_blank code
all_blank-blank code m h = list_all-append is_blank code (m ∷ []) ∙ (ap (λ b. all_blank code && (b && true)) h ∙ and-true (all_blank code))

-- with another byte more they are not
pub not_all_blank : (code : List PlacedByte) (m : PlacedByte) (b : Bool) → is_blank m ≡ false → (b && all_blank (code ++ m ∷ [])) ≡ false
not_all_blank code m b h = and_right b (all_blank (code ++ m ∷ [])) (list_all-append is_blank code (m ∷ []) ∙ (ap (λ b. all_blank code && (b && true)) h ∙ and_right (all_blank code) false refl))

-- a blank more
pub before_amp-blank : (code : List PlacedByte) (m : PlacedByte) → is_blank m ≡ true → before_amp (code ++ m ∷ []) ≡ before_amp code
before_amp-blank [] m h = rw (blank_no_amp m h) refl
before_amp-blank (x ∷ code) m h = rw (all_blank-blank code m h, before_amp-blank code m h) refl

-- an `&` more
pub before_amp-amp : (code : List PlacedByte) (m : PlacedByte) → nat_eq m.code 38 ≡ true → before_amp (code ++ m ∷ []) ≡ Some (code, m)
before_amp-amp [] m h = rw h refl
before_amp-amp (x ∷ code) m h = rw (not_all_blank code m (nat_eq x.code 38) (amp_no_blank m h), before_amp-amp code m h) refl

-- another byte more
pub before_amp-other : (code : List PlacedByte) (m : PlacedByte) → is_blank m ≡ false → nat_eq m.code 38 ≡ false → before_amp (code ++ m ∷ []) ≡ None
before_amp-other [] m h k = rw k refl
before_amp-other (x ∷ code) m h k = rw (not_all_blank code m (nat_eq x.code 38) h, before_amp-other code m h k) refl

-- the rest of a code part ends with an `&`
pub amp_last : (rest front : List PlacedByte) (m : PlacedByte) → rest ≡ front ++ m ∷ [] → m.code ≡ 38 → Some (front, m) ≡ before_amp rest
amp_last rest front m e h = sym (ap before_amp e ∙ before_amp-amp front m (eq-eqb m.code 38 h))

-- it ends with another byte that is no blank
pub other_last : (rest front : List PlacedByte) (m : PlacedByte) → rest ≡ front ++ m ∷ [] → (m.code ≡ 38 → ⊥) → is_blank m ≡ false → None ≡ before_amp rest
other_last rest front m e h k = sym (ap before_amp e ∙ before_amp-other front m k (ne_eqb m.code 38 h))

-- it ends with a blank
pub blank_last : (rest front : List PlacedByte) (m : PlacedByte) → rest ≡ front ++ m ∷ [] → is_blank m ≡ true → before_amp front ≡ before_amp rest
blank_last rest front m e h = sym (ap before_amp e ∙ before_amp-blank front m h)

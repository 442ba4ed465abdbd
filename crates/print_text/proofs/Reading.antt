-- One byte more of a format's text.
use Rattle.std.proofs.Common.{◌≡◌, ◌∙◌, ℕ, ◌+◌, ◌*◌, Bool, true, false, cond, List, [], ◌∷◌, ◌++◌, replicate, reverse, refl, sym, ap}
use Rattle.std.specs.Prelude.{nat_eq}
use Rattle.image_acts.specs.Formats.{Descriptor, i_edit, l_edit, a_edit, x_edit, text_edit, Reading, between, in_width, in_literal, at_quote, Next, sign_of, descriptors_in, descriptors}
use Rattle.image_acts.specs.Formats as formats
use Rattle.print_text.specs.declared.sign.Sign.{Sign}
use Rattle.print_text.specs.declared.sign.Sign.TheVariants as signs
use Rattle.print_text.specs.declared.piece.DataKind.{DataKind}
use Rattle.print_text.specs.declared.piece.DataKind.TheVariants as kinds
use Rattle.print_text.specs.Pieces.{sign_seen, edit, is_integer, IsNumeric, IsOnce}

-- what is read from this state on
abbrev pub turn : Next → List ℕ → List Descriptor
turn x bs = x.before ++ descriptors_in x.state x.number bs

abbrev next : Reading → ℕ → List Descriptor → Next
next r n ds = record { state = r; number = n; before = ds }

-- in a width, by the sign that a byte is
abbrev width_next : Bool → ℕ → ℕ → formats.Sign → Next
width_next i times n (formats.digit d) = next (in_width i times) ((10 * n) + d) []
width_next i times n formats.blank = next (in_width i times) n []
width_next i times n s = next between 0 (replicate times (cond i (i_edit n) (l_edit n)))

width_turn : (i : Bool) (times n b : ℕ) (bs : List ℕ) (s : formats.Sign) → sign_of b ≡ s → descriptors_in (in_width i times) n (b ∷ bs) ≡ turn (width_next i times n s) bs
width_turn i times n b bs s e = ap (λ (t : formats.Sign). turn (width_next i times n t) bs) e

-- a sign that ends a width
abbrev pub Ends : Sign → Type 0
Ends (signs.Digit d) = ⊥
Ends signs.Blank = ⊥
Ends s = Unit {0}

edit_numeric : (k : DataKind) (n : ℕ) → IsNumeric k → cond (is_integer k) (i_edit n) (l_edit n) ≡ edit k n
edit_numeric kinds.Integer n h = refl
edit_numeric kinds.Logical n h = refl
edit_numeric kinds.Character n h = absurd h

pub once : (k : DataKind) (n : ℕ) → IsNumeric k → IsOnce k n
once kinds.Integer n h = tt
once kinds.Logical n h = tt
once kinds.Character n h = absurd h

width_ends : (s : Sign) (i : Bool) (times n : ℕ) (bs : List ℕ) → Ends s → turn (width_next i times n (sign_seen s)) bs ≡ replicate times (cond i (i_edit n) (l_edit n)) ++ descriptors bs
width_ends (signs.Digit d) i times n bs h = absurd h
width_ends signs.Blank i times n bs h = absurd h
width_ends signs.Integer i times n bs h = refl
width_ends signs.Logical i times n bs h = refl
width_ends signs.Skip i times n bs h = refl
width_ends signs.Character i times n bs h = refl
width_ends signs.Quote i times n bs h = refl
width_ends signs.Other i times n bs h = refl

pub width_end : (k : DataKind) (times n b : ℕ) (bs : List ℕ) (s : Sign) → IsNumeric k → Ends s → sign_seen s ≡ sign_of b
    → descriptors_in (in_width (is_integer k) times) n (b ∷ bs) ≡ replicate times (edit k n) ++ descriptors bs
width_end k times n b bs s g h e =
    width_turn (is_integer k) times n b bs (sign_seen s) (sym e)
    ∙ width_ends s (is_integer k) times n bs h
    ∙ ap (λ (d : Descriptor). replicate times d ++ descriptors bs) (edit_numeric k n g)

-- in a literal
pub literal_next : (q b : ℕ) (back bs : List ℕ) → nat_eq b q ≡ false → descriptors_in (in_literal q back) 0 (b ∷ bs) ≡ descriptors_in (in_literal q (b ∷ back)) 0 bs
literal_next q b back bs e = ap (λ (t : Bool). turn (cond t (next (at_quote q back) 0 []) (next (in_literal q (b ∷ back)) 0 [])) bs) e

pub literal_quote : (q b : ℕ) (back bs : List ℕ) → nat_eq b q ≡ true → descriptors_in (in_literal q back) 0 (b ∷ bs) ≡ descriptors_in (at_quote q back) 0 bs
literal_quote q b back bs e = ap (λ (t : Bool). turn (cond t (next (at_quote q back) 0 []) (next (in_literal q (b ∷ back)) 0 [])) bs) e

pub quote_doubled : (q b : ℕ) (back bs : List ℕ) → nat_eq b q ≡ true → descriptors_in (at_quote q back) 0 (b ∷ bs) ≡ descriptors_in (in_literal q (q ∷ back)) 0 bs
quote_doubled q b back bs e = ap (λ (t : Bool). turn (cond t (next (in_literal q (q ∷ back)) 0 []) (next between 0 (text_edit (reverse back) ∷ []))) bs) e

pub ends_of : (s : Sign) → ((d : ℕ) → s ≡ signs.Digit d → ⊥) → (s ≡ signs.Blank → ⊥) → Ends s
ends_of (signs.Digit d) f g = f d refl
ends_of signs.Blank f g = g refl
ends_of signs.Integer f g = tt
ends_of signs.Logical f g = tt
ends_of signs.Skip f g = tt
ends_of signs.Character f g = tt
ends_of signs.Quote f g = tt
ends_of signs.Other f g = tt

-- The pieces of a format's text, as its reader has them (ISO/IEC 1539-1:2018, 13.3).
use Rattle.std.specs.Prelude.{ℕ, ◌≡◌, ◌-◌, ◌^◌, ◌<◌, Bool, true, false, cond, nat_eq, min, List, [], ◌∷◌, ◌++◌, replicate}
use Rattle.image_acts.specs.Formats.{Descriptor, i_edit, l_edit, a_edit, x_edit, text_edit, Reading, between, descriptors, descriptors_in}
use Rattle.image_acts.specs.Formats as formats
use Rattle.print_text.specs.declared.sign.Sign.{Sign}
use Rattle.print_text.specs.declared.sign.Sign.TheVariants as signs
use Rattle.print_text.specs.declared.piece.DataKind.{DataKind}
use Rattle.print_text.specs.declared.piece.DataKind.TheVariants as kinds
use Rattle.print_text.specs.declared.piece.Piece.{Piece}
use Rattle.print_text.specs.declared.piece.Piece.TheVariants.{Data, Skip, Literal}

abbrev pub sign_seen : Sign → formats.Sign
sign_seen (signs.Digit d) = formats.digit d
sign_seen signs.Integer = formats.letter_i
sign_seen signs.Logical = formats.letter_l
sign_seen signs.Skip = formats.letter_x
sign_seen signs.Character = formats.letter_a
sign_seen signs.Quote = formats.quote
sign_seen signs.Blank = formats.blank
sign_seen signs.Other = formats.other

-- a number of the text as it is kept: the largest of 64 bits for what is larger
abbrev pub kept : ℕ → ℕ
kept n = min n (2 ^ 64 - 1)

-- the data edit descriptor of a kind, with this width
abbrev pub edit : DataKind → ℕ → Descriptor
edit kinds.Integer w = i_edit w
edit kinds.Logical w = l_edit w
edit kinds.Character w = a_edit

-- the letters before a width: I, else L
abbrev pub is_integer : DataKind → Bool
is_integer kinds.Integer = true
is_integer kinds.Logical = false
is_integer kinds.Character = false

abbrev pub IsNumeric : DataKind → Type 0
IsNumeric kinds.Integer = Unit {0}
IsNumeric kinds.Logical = Unit {0}
IsNumeric kinds.Character = ⊥

-- a descriptor with a repeat count: that of literals has none
abbrev pub IsOnce : DataKind → ℕ → Type 0
IsOnce kinds.Integer n = Unit {0}
IsOnce kinds.Logical n = Unit {0}
IsOnce kinds.Character n = n ≡ 1

-- the characters of a literal as it stands between its delimiters: a doubled delimiter is one (7.4.4)
abbrev pub characters : ℕ → List ℕ → List ℕ
characters q [] = []
characters q (b ∷ []) = b ∷ []
characters q (b ∷ c ∷ bs) = cond (nat_eq b q) (b ∷ characters q bs) (b ∷ characters q (c ∷ bs))

-- the descriptors that a piece stands for
abbrev pub Means : Piece → List Descriptor → Type 0
Means (Data kind times width) ds = (n : ℕ) × (w : ℕ) × (0 < n) × (times ≡ kept n) × (width ≡ kept w) × (ds ≡ replicate n (edit kind w)) × IsOnce kind n
Means (Skip places) ds = (n : ℕ) × (places ≡ kept n) × (ds ≡ x_edit n ∷ [])
Means (Literal q inside) ds = ds ≡ text_edit (characters q inside.now) ∷ []

-- the first piece of a text that is read in this state with this number so far, and the text behind it
abbrev pub ReadsIn : Reading → ℕ → List ℕ → Piece → List ℕ → Type 0
ReadsIn r n text p rest = (ds : List Descriptor) × Means p ds × (descriptors_in r n text ≡ ds ++ descriptors rest)

abbrev pub Reads : List ℕ → Piece → List ℕ → Type 0
Reads text p rest = ReadsIn between 0 text p rest

-- A text is cut into its longest tokens.
use Rattle.std.specs.Prelude.{ℕ, ◌≡◌, ◌+◌, ◌<◌, ◌≤◌, Bool, true, false, cond, not, nat_lt, List, [], ◌∷◌, length, take, drop, position, slice_index, Option, Some, None, ◌⊎◌}
use Rattle.std.specs.List.{take_while}
use Rattle.std.specs.Option.{option_map}
use Rattle.std.specs.Str.Parse.{digits_value}
use Rattle.fortran_tokens.specs.declared.token.TokenKind.{TokenKind}
use Rattle.fortran_tokens.specs.declared.token.TokenKind.TheVariants.{Name, Number, Literal, Fixed}
use Rattle.fortran_tokens.specs.declared.fault.Excess.{Excess}
use Rattle.fortran_tokens.specs.declared.fault.Excess.TheVariants as excess
use Rattle.fortran_tokens.specs.declared.cut.Piece.{Piece}
use Rattle.fortran_tokens.specs.declared.cut.Wrong.{Wrong}
use Rattle.fortran_tokens.specs.Bytes.{is_blank, is_digit, is_printing}
use Rattle.fortran_tokens.specs.Forms.{HasForm}

-- the first n bytes have a form, and no more of them have one
pub record IsLongest (text : List ℕ) (k : TokenKind) (n : ℕ) : Type 0 where
  pub within : n ≤ length text
  pub form : HasForm k (take n text)
  pub most : (j : TokenKind) (m : ℕ) → m ≤ length text → HasForm j (take m text) → m ≤ n

-- no form begins the text
abbrev pub NoForm : List ℕ → Type 0
NoForm text = (j : TokenKind) (m : ℕ) → m ≤ length text → HasForm j (take m text) → ⊥

-- the value of a digit-string (R711)
abbrev pub value_of : List ℕ → ℕ
value_of digits = digits_value 10 digits

-- The limits: a name has at most 63 characters (6.2.2), also as a kind; an integer is at most 2^63 - 1; a literal has
-- printing characters and tabs. None where the token keeps them, else which byte or number breaks one.
abbrev pub excess_of : TokenKind → List ℕ → Option Excess
excess_of Name w = cond (nat_lt 63 (length w)) (Some (excess.Character 63)) None
excess_of Number w =
    let digits = take_while is_digit w in
    cond (nat_lt 9223372036854775807 (value_of digits)) (Some excess.Number)
    (cond (nat_lt (length digits + 64) (length w)) (Some (excess.Character (length digits + 64))) None)
excess_of Literal w = option_map excess.Character (position (λ b. not (is_printing b)) w)
excess_of (Fixed s) w = None

-- a token begins the text: the longest front that has a form, and it breaks no limit
pub record IsToken (text : List ℕ) (k : TokenKind) (n : ℕ) : Type 0 where
  pub longest : IsLongest text k n
  pub allowed : excess_of k (take n text) ≡ None

-- what is wrong at the front of a text that does not begin with a blank: no form begins it, or the longest front that
-- has one breaks a limit
abbrev pub IsWrong : List ℕ → Excess → Type 0
IsWrong text e = (NoForm text × (e ≡ excess.Character 0)) ⊎ ((k : TokenKind) × (n : ℕ) × IsLongest text k n × (excess_of k (take n text) ≡ Some e))

-- blanks alone stand from one place up to another
pub record AreBlanks (text : List ℕ) (from to : ℕ) : Type 0 where
  pub ordered : from ≤ to
  pub blanks : (i : ℕ) → from ≤ i → i < to → is_blank (slice_index text i) ≡ true

-- from one place up to another the text is these tokens with blanks around them
abbrev pub IsCut : List ℕ → ℕ → List Piece → ℕ → Type 0
IsCut text from [] to = AreBlanks text from to
IsCut text from (p ∷ ps) to = AreBlanks text from p.from × (n : ℕ) × (p.to ≡ p.from + n) × IsToken (drop p.from text) p.kind n × IsCut text p.to ps to

-- the text is cut up to a byte that is no blank, and there something is wrong
pub record IsStopped (text : List ℕ) (w : Wrong) : Type 0 where
  pub pieces : List Piece
  pub cut : IsCut text 0 pieces w.end
  pub within : w.end < length text
  pub ink : is_blank (slice_index text w.end) ≡ false
  pub wrong : IsWrong (drop w.end text) w.excess

-- how far behind the front of a text a wrong byte stands
abbrev pub distance_of : Excess → ℕ
distance_of (excess.Character n) = n
distance_of excess.Number = 0

-- a token lies within n bytes, and `::` is two bytes long
pub record LiesWithin (n : ℕ) (p : Piece) (colons : Bool) : Type 0 where
  pub some : p.from < p.to
  pub within : p.to ≤ n
  pub two : colons ≡ true → p.to ≡ p.from + 2

-- How far the scans of a text's front go.
use Rattle.std.specs.Prelude.{ℕ, ◌+◌, Bool, true, false, cond, not, ◌&&◌, ◌||◌, nat_eq, nat_lt, List, [], ◌∷◌, length, Option, Some, None}
use Rattle.std.specs.List.{prefix_len}
use Rattle.std.specs.Char.{to_ascii_lowercase}
use Rattle.std.specs.Option.{option_map}
use Rattle.fortran_tokens.specs.declared.byte.Sort.{Sort}
use Rattle.fortran_tokens.specs.declared.byte.Sort.TheVariants.{Letter, Digit, Quote, Other}
use Rattle.fortran_tokens.specs.declared.token.Sign.{Sign}
use Rattle.fortran_tokens.specs.declared.token.TokenKind.{TokenKind}
use Rattle.fortran_tokens.specs.declared.token.TokenKind.TheVariants.{Name, Number, Literal, Fixed}
use Rattle.fortran_tokens.specs.Bytes.{is_letter, is_digit, is_name_byte, sort_of}
use Rattle.fortran_tokens.specs.Forms.{spellings}

-- the length of an underscore and the kind that this text behind it begins with, or 0
abbrev pub kind_behind : List ℕ → ℕ
kind_behind [] = 0
kind_behind (b ∷ t) = cond (is_letter b) (2 + prefix_len is_name_byte t) (cond (nat_eq b 52 || nat_eq b 56) 2 0)

-- the length of an underscore and a kind at the front, or 0
abbrev pub kind_len : List ℕ → ℕ
kind_len [] = 0
kind_len (u ∷ t) = cond (nat_eq u 95) (kind_behind t) 0

-- the length of more digits, and a kind
abbrev pub number_rest_len : List ℕ → ℕ
number_rest_len [] = 0
number_rest_len (b ∷ t) = cond (is_digit b) (1 + number_rest_len t) (kind_len (b ∷ t))

-- a place found further on, or the one before
abbrev pub later : Option ℕ → ℕ → Option ℕ → Option ℕ
later last i None = last
later last i (Some n) = Some (i + n)

-- the last place at which a literal with this delimiter is closed
abbrev pub closes : ℕ → Bool → List ℕ → Option ℕ
closes q true [] = None
closes q false [] = Some 0
closes q true (b ∷ t) = later None 1 (closes q (not (nat_eq b q)) t)
closes q false (b ∷ t) = cond (nat_eq b q) (later (Some 0) 1 (closes q true t)) (Some 0)

-- the text begins with a spelling, letters in either case
abbrev pub begins : List ℕ → List ℕ → Bool
begins [] text = true
begins (x ∷ xs) [] = false
begins (x ∷ xs) (b ∷ text) = nat_eq (to_ascii_lowercase b) x && begins xs text

-- n is longer than the best so far
abbrev pub is_longer : Option (Sign × ℕ) → ℕ → Bool
is_longer None n = true
is_longer (Some r) n = nat_lt r.1 n

-- the longer of the best so far and of a row that begins the text
abbrev pub better : Option (Sign × ℕ) → List ℕ × Sign → List ℕ → Option (Sign × ℕ)
better best row text = cond (begins row.0 text && is_longer best (length row.0)) (Some (row.1, length row.0)) best

-- the longest of the best so far and of the rows that begin the text
abbrev pub best_of : Option (Sign × ℕ) → List (List ℕ × Sign) → List ℕ → Option (Sign × ℕ)
best_of best [] text = best
best_of best (row ∷ rows) text = best_of (better best row text) rows text

-- the longest spelling that begins the text, and its length
unfoldable pub sign_found : List ℕ → Option (Sign × ℕ)
sign_found text = best_of None spellings text

-- the form that is found at the front of a text
abbrev pub found_by : Sort → ℕ → List ℕ → Option (TokenKind × ℕ)
found_by Letter b t = Some (Name, 1 + prefix_len is_name_byte t)
found_by Digit b t = Some (Number, 1 + number_rest_len t)
found_by Quote b t = option_map (λ n. (Literal, 1 + n)) (closes b true t)
found_by Other b t = option_map (λ r. (Fixed r.0, r.1)) (sign_found (b ∷ t))

-- the form at the front of a text, by its first byte
abbrev pub form_found : List ℕ → Option (TokenKind × ℕ)
form_found [] = None
form_found (b ∷ t) = found_by (sort_of b) b t

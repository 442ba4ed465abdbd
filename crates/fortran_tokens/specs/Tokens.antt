-- The tokens of a statement, and what is wrong in one that has none.
use Rattle.std.specs.Prelude.{ℕ, ◌≡◌, ◌+◌, ◌-◌, Bool, true, false, cond, ◌&&◌, nat_lt, List, [], ◌∷◌, ◌++◌, length, map, slice_get, Some, All}
use Rattle.caf_base.specs.declared.place.Pos.{Pos}
use Rattle.fortran_lines.specs.declared.stmt.Stmt.{Stmt}
use Rattle.fortran_tokens.specs.declared.token.Token.{Token}
use Rattle.fortran_tokens.specs.declared.token.Sign.{Sign}
use Rattle.fortran_tokens.specs.declared.token.Sign.TheVariants as sign
use Rattle.fortran_tokens.specs.declared.token.TokenKind.{TokenKind}
use Rattle.fortran_tokens.specs.declared.token.TokenKind.TheVariants.{Fixed}
use Rattle.fortran_tokens.specs.declared.fault.Excess.{Excess}
use Rattle.fortran_tokens.specs.declared.fault.Excess.TheVariants as excess
use Rattle.fortran_tokens.specs.declared.fault.TokenFault.{TokenFault}
use Rattle.fortran_tokens.specs.declared.fault.TokenFault.TheVariants.{BadCharacter, NumberTooWide}
use Rattle.fortran_tokens.specs.declared.cut.Piece.{Piece}
use Rattle.fortran_tokens.specs.declared.cut.Wrong.{Wrong}
use Rattle.fortran_tokens.specs.Cuts.{IsCut, IsStopped, distance_of}

-- how many brackets are open behind a sign; a closing one too many leaves none
abbrev pub depth_behind_sign : ℕ → Sign → ℕ
depth_behind_sign d sign.OpenRound = d + 1
depth_behind_sign d sign.OpenSquare = d + 1
depth_behind_sign d sign.OpenArray = d + 1
depth_behind_sign d sign.CloseRound = d - 1
depth_behind_sign d sign.CloseSquare = d - 1
depth_behind_sign d sign.CloseArray = d - 1
depth_behind_sign d s = d

-- how many brackets are open behind a token
abbrev pub depth_behind : ℕ → TokenKind → ℕ
depth_behind d (Fixed s) = depth_behind_sign d s
depth_behind d k = d

-- the sign is `::`
abbrev pub is_colons_sign : Sign → Bool
is_colons_sign sign.Colons = true
is_colons_sign s = false

-- the token is `::`
abbrev pub is_colons : TokenKind → Bool
is_colons (Fixed s) = is_colons_sign s
is_colons k = false

-- `::` within brackets is two tokens `:`
abbrev pub halves : Piece → List Piece
halves p = record { kind = Fixed sign.Colon; from = p.from; to = p.from + 1 } ∷ record { kind = Fixed sign.Colon; from = p.from + 1; to = p.to } ∷ []

-- a token, or its halves where it is `::` and brackets are open
abbrev pub halved : ℕ → Piece → List Piece
halved d p = cond (is_colons p.kind && nat_lt 0 d) (halves p) (p ∷ [])

-- the tokens, where so many brackets are open before them
abbrev pub with_halves : ℕ → List Piece → List Piece
with_halves d [] = []
with_halves d (p ∷ ps) = halved d p ++ with_halves (depth_behind d p.kind) ps

-- a token without its place
abbrev pub piece_of : Token → Piece
piece_of t = record { kind = t.kind; from = t.from; to = t.to }

-- these are the tokens of a statement, each with the place of its first byte
pub record AreTokens (s : Stmt) (ts : List Token) : Type 0 where
  pub cut : (ps : List Piece) × IsCut s.text 0 ps (length s.text) × (map piece_of ts ≡ with_halves 0 ps)
  pub places : All (λ t. slice_get s.at t.from ≡ Some t.at) ts

-- what is wrong, with its place
abbrev pub fault_at : Excess → Pos → TokenFault
fault_at (excess.Character n) at = BadCharacter at
fault_at excess.Number at = NumberTooWide at

-- what is wrong at a place of a text, with the places of its bytes
pub record IsFaultOf (at : List Pos) (w : Wrong) (f : TokenFault) : Type 0 where
  pub place : Pos
  pub stands : slice_get at (w.end + distance_of w.excess) ≡ Some place
  pub is : f ≡ fault_at w.excess place

-- the statement has no tokens: it is cut up to where this is wrong
pub record IsRefused (s : Stmt) (f : TokenFault) : Type 0 where
  pub wrong : Wrong
  pub stopped : IsStopped s.text wrong
  pub fault : IsFaultOf s.at wrong f

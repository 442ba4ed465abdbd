-- What is held of a format, as the rule sees it.
use Rattle.std.specs.Prelude.{ℕ, suc, Bool, false, List, [], ◌∷◌, ◌-◌, Option, Some, None, cond, map}
use Rattle.std.specs.declared.alloc.Global.{Global}
use Rattle.std.specs.declared.vec.Vec.{Vec}
use Rattle.checked_tree.specs.declared.format.Descriptor.{Descriptor}
use Rattle.rule_definitions.specs.Formats as rules
use Rattle.format_rules.specs.declared.piece.Piece.{Piece}
use Rattle.format_rules.specs.declared.piece.Piece.TheVariants.{Sign, Quoted}

abbrev pub seen : Piece → rules.Piece
seen (Sign b) = rules.sign b
seen (Quoted w) = rules.quoted w

abbrev pub pieces_of : Vec Piece Global → List rules.Piece
pieces_of v = map seen v.items

-- what is read of a text that begins in a literal: its characters, and the text behind it
abbrev pub with_literal : Option (List ℕ × List ℕ) → Option (List rules.Piece)
with_literal None = None
with_literal (Some r) = rules.with_piece (rules.quoted r.0) (rules.pieces rules.outside r.1)

abbrev pub digit_of : rules.Piece → Option ℕ
digit_of (rules.sign b) = cond (rules.is_digit b) (Some (b - 48)) None
digit_of (rules.quoted w) = None

abbrev pub list_of : Vec Descriptor Global → List Descriptor
list_of v = v.items

-- how many pieces stand before the first comma
abbrev pub first_len : List rules.Piece → ℕ
first_len [] = 0
first_len (x ∷ xs) = cond (rules.is_sign 44 x) 0 (suc (first_len xs))

-- what stands between commas behind the first comma
abbrev pub behind_comma : List rules.Piece → List (List rules.Piece)
behind_comma [] = []
behind_comma (x ∷ xs) = rules.between_commas xs

-- the digit 0 alone
abbrev pub lone_zero : List rules.Piece → Bool
lone_zero (x ∷ []) = rules.is_sign 48 x
lone_zero xs = false

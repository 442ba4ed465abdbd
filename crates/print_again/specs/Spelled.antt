-- Which tokens are read again as they are laid.
use Rattle.std.specs.Prelude.{ℕ, Bool, true, false, not, ◌&&◌, nat_le, nat_lt, List, [], ◌∷◌, length, bytes_eq}
use Rattle.std.specs.List.{list_all}
use Rattle.std.specs.Str.{str_to_ascii_lowercase}
use Rattle.fortran_tokens.specs.Bytes.{is_printing}
use Rattle.fortran_tokens.specs.Forms.{is_name}
use Rattle.fortran_tokens.specs.Tokens.{depth_behind_sign, is_colons_sign}
use Rattle.fortran_tree.specs.declared.expr.NumberKind.{NumberKind}
use Rattle.fortran_tree.specs.declared.expr.NumberKind.TheVariants as kinds
use Rattle.fortran_grammar.specs.Tokens as t
use Rattle.fortran_grammar.specs.Tokens.{Tok}

-- a name of 63 characters at most, in lower case
abbrev pub is_plain_name : List ℕ → Bool
is_plain_name x = is_name x && (nat_le (length x) 63 && bytes_eq (str_to_ascii_lowercase x) x)

-- a kind that a number can have
abbrev pub is_plain_kind : NumberKind → Bool
is_plain_kind kinds.Unstated = true
is_plain_kind kinds.Four = true
is_plain_kind kinds.Eight = true
is_plain_kind (kinds.Named x) = is_plain_name x

-- a token that a source can have, but the end of a statement
abbrev pub is_plain : Tok → Bool
is_plain (t.word x) = is_plain_name x
is_plain (t.integer n k) = nat_le n 9223372036854775807 && is_plain_kind k
is_plain (t.literal x) = list_all is_printing x
is_plain (t.sign s) = true
is_plain t.over = false

-- `::` stands in no brackets: there it would be two tokens
abbrev pub may_stand : ℕ → Tok → Bool
may_stand d (t.sign s) = not (is_colons_sign s && nat_lt 0 d)
may_stand d x = true

-- how many brackets are open behind a token
abbrev pub depth_past : ℕ → Tok → ℕ
depth_past d (t.sign s) = depth_behind_sign d s
depth_past d x = d

-- Tokens of whole statements, where one is begun or isn't, and so many brackets are open: each statement has a token,
-- and its end behind the last.
abbrev pub are_statements : Bool → ℕ → List Tok → Bool
are_statements begun d [] = not begun
are_statements begun d (t.over ∷ ts) = begun && are_statements false 0 ts
are_statements begun d (x ∷ ts) = (is_plain x && may_stand d x) && are_statements true (depth_past d x) ts

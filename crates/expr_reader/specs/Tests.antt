-- Tests of tokens, and readers that keep places.
use Rattle.std.specs.Prelude.{ℕ, ◌≡◌, Bool, true, false, nat_eq, List, [], ◌∷◌, bytes_eq}
use Rattle.caf_base.specs.declared.place.Pos.{Pos}
use Rattle.reader_theory.specs.Words.{Mark, Language}
use Rattle.reader_theory.specs.Readers.{turned, token, mapped, both, many, pick, behind, between}
use Rattle.fortran_tokens.specs.declared.token.Sign.{Sign}
use Rattle.fortran_tokens.specs.declared.token.Sign.TheVariants as sign
use Rattle.fortran_tree.specs.declared.name.Name.{Name}
use Rattle.fortran_grammar.specs.Acceptance.{sign_number}
use Rattle.fortran_grammar.specs.Phrases.{FirstAt}
use Rattle.fortran_grammar.specs.Tokens as t
use Rattle.fortran_grammar.specs.Tokens.{Tok, Token}
use Rattle.expr_reader.specs.Reading.{Reader}

-- the token is this sign
abbrev pub is_sign_tok : Sign → Tok → Bool
is_sign_tok s (t.sign r) = nat_eq (sign_number s) (sign_number r)
is_sign_tok s x = false

abbrev pub is_sign : Sign → Token → Bool
is_sign s x = is_sign_tok s x.tok

-- the token is this keyword
abbrev pub is_key_tok : List ℕ → Tok → Bool
is_key_tok k (t.word x) = bytes_eq k x
is_key_tok k x = false

abbrev pub is_key : List ℕ → Token → Bool
is_key k x = is_key_tok k x.tok

-- the token is a name
abbrev pub is_word_tok : Tok → Bool
is_word_tok (t.word x) = true
is_word_tok x = false

abbrev pub is_word : Token → Bool
is_word x = is_word_tok x.tok

abbrev pub text_of : Tok → List ℕ
text_of (t.word x) = x
text_of x = []

abbrev pub name_of : Token → Name
name_of x = record { text = text_of x.tok; at = x.at }

abbrev pub a_name : Reader Name
a_name = mapped name_of (token is_word)

-- no place
abbrev pub nowhere : Pos
nowhere = record { line = 0; col = 0 }

-- the words of a language, each with the place of its first token
abbrev pub Placed : {A B : Type 0} → (Pos → A → B) → Language Token A → B → List (Mark Token) → Type 0
Placed {A} {B} f L b w = (p : Pos) × (a : A) × (b ≡ f p a) × FirstAt p w × L a w

abbrev pub placed : {A B : Type 0} → (Pos → A → B) → Reader A → Reader B
placed f r [] = turned (f nowhere) (r [])
placed f r (x ∷ ts) = turned (f x.at) (r (x ∷ ts))

-- in round brackets, in square ones, and lists with commas
abbrev pub in_round : {A : Type 0} → Reader A → Reader A
in_round r = between (is_sign sign.OpenRound) (is_sign sign.CloseRound) r

abbrev pub in_square : {A : Type 0} → Reader A → Reader A
in_square r = pick (is_sign sign.OpenSquare) (between (is_sign sign.OpenSquare) (is_sign sign.CloseSquare) r) (between (is_sign sign.OpenArray) (is_sign sign.CloseArray) r)

abbrev pub followed_by : {A : Type 0} → Reader A → Reader (List A)
followed_by r = many (is_sign sign.Comma) (behind (is_sign sign.Comma) r)

abbrev pub list_of : {A : Type 0} → Reader A → Reader (List A)
list_of r = both (λ a es. a ∷ es) r (followed_by r)

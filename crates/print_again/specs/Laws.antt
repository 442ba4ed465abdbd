-- What is proved of programs that are printed and read again.
use Rattle.std.specs.Prelude.{ℕ, ◌≡◌, true, false, List, map}
use Rattle.reader_theory.specs.Refusals.{Reads}
use Rattle.fortran_tree.specs.Units.{Program}
use Rattle.fortran_grammar.specs.Tokens.{Tok, Token}
use Rattle.fortran_grammar.specs.Phrases.{canonical}
use Rattle.fortran_grammar.specs.ProgramGrammar as g
use Rattle.fortran_grammar.specs.ProgramGrammar.{Programs}
use Rattle.fortran_grammar.specs.Laws.{tok_of}
use Rattle.fortran_layout.specs.Layout.{laid_text}
use Rattle.print_again.specs.Spelled.{are_statements}
use Rattle.fortran_print.specs.Printing.{printed}
use Rattle.source_reader.specs.Sources.{AreSourceWords, IsRead}
use Rattle.print_again.specs.Unplaced as unplaced

-- two programs that the same tokens spell, but for places, are the same but for places
abbrev pub PlacesDontMatter : Type 0
PlacesDontMatter = (limit : ℕ) (x y : Program) (ts us : List Token) → Reads (Programs limit) ts x → Reads (Programs limit) us y → map tok_of ts ≡ map tok_of us → unplaced.program x ≡ unplaced.program y

-- where some tokens spell a program, the same tokens at one place spell it without its places
abbrev pub UnplacedIsRead : Type 0
UnplacedIsRead = (limit : ℕ) (x : Program) (ts : List Token) → Reads (Programs limit) ts x → Reads (Programs limit) (map unplaced.token ts) (unplaced.program x)

-- where some tokens spell a program, the same tokens at any other places spell one too, which is the same but for
-- places
abbrev pub PlacesMayChange : Type 0
PlacesMayChange = (limit : ℕ) (x : Program) (ts us : List Token) → Reads (Programs limit) ts x → map tok_of us ≡ map tok_of ts
    → (y : Program) × Reads (Programs limit) us y × (unplaced.program y ≡ unplaced.program x)

-- and so do its canonical tokens, at any places
abbrev pub CanonicalIsRead : Type 0
CanonicalIsRead = (limit : ℕ) (x : Program) (ts us : List Token) → Reads (Programs limit) ts x → map tok_of us ≡ canonical (g.program x)
    → (y : Program) × Reads (Programs limit) us y × (unplaced.program y ≡ unplaced.program x)

-- The text of laid tokens that make whole statements breaks no rule of lines, and its words are these tokens.
abbrev pub LaidIsCut : Type 0
LaidIsCut = (ts : List Tok) → are_statements false 0 ts ≡ true → (us : List Token) × AreSourceWords (laid_text ts) us × (map tok_of us ≡ ts)

-- and it has no other words
abbrev pub LaidIsCutOnce : Type 0
LaidIsCutOnce = (ts : List Tok) (us : List Token) → are_statements false 0 ts ≡ true → AreSourceWords (laid_text ts) us → map tok_of us ≡ ts

-- The words of what is printed of a program that some source has are its canonical tokens.
abbrev pub PrintIsCut : Type 0
PrintIsCut = (bytes : List ℕ) (x : Program) → IsRead bytes x → (us : List Token) × AreSourceWords (printed x) us × (map tok_of us ≡ canonical (g.program x))

-- What is printed of a program that some source has is read again, as a program that is the same but for places.
abbrev pub PrintIsRead : Type 0
PrintIsRead = (bytes : List ℕ) (x : Program) → IsRead bytes x → (y : Program) × IsRead (printed x) y × (unplaced.program y ≡ unplaced.program x)

-- and as no other
abbrev pub PrintIsReadAsIt : Type 0
PrintIsReadAsIt = (bytes : List ℕ) (x y : Program) → IsRead bytes x → IsRead (printed x) y → unplaced.program y ≡ unplaced.program x

-- Programs that are the same but for places are printed alike.
abbrev pub PrintHasNoPlaces : Type 0
PrintHasNoPlaces = (x y : Program) → unplaced.program x ≡ unplaced.program y → printed x ≡ printed y

-- so what is printed of what was read again is the same text
abbrev pub PrintIsFixed : Type 0
PrintIsFixed = (bytes : List ℕ) (x y : Program) → IsRead bytes x → IsRead (printed x) y → printed y ≡ printed x

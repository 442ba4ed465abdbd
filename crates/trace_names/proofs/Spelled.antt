-- The entities of a source that is read have the names that its words spell.
use Rattle.std.proofs.Common.{◌≡◌, ℕ, ◌+◌, ◌-◌, Bool, true, false, cond, List, [], ◌∷◌, length, take, drop, map}
use Rattle.std.proofs.Common.{refl, sym, subst, arith}
use Rattle.std.specs.Prelude.{nat_lt, ◌&&◌}
use Rattle.std.specs.Char.{to_ascii_lowercase}
use Rattle.std.specs.List.{list_all}
use Rattle.std.specs.Str.{str_to_ascii_lowercase}
use Rattle.std.proofs.lemmas.Bool.{and_parts, and_from}
use Rattle.std.proofs.lemmas.Bool.Decides.{nat_tests}
use Rattle.caf_base.specs.declared.place.Pos.{Pos}
use Rattle.reader_theory.specs.Words.{Mark, bare}
use Rattle.fortran_lines.specs.declared.stmt.Stmt.{Stmt}
use Rattle.fortran_tokens.specs.declared.cut.Piece.{Piece}
use Rattle.fortran_tokens.specs.declared.token.Sign.TheVariants.{Colon, Comma}
use Rattle.fortran_tokens.specs.declared.token.Token.{Token as Cut}
use Rattle.fortran_tokens.specs.declared.token.TokenKind.{TokenKind}
use Rattle.fortran_tokens.specs.declared.token.TokenKind.TheVariants.{Name, Number, Literal, Fixed}
use Rattle.fortran_tokens.specs.Bytes as bytes
use Rattle.fortran_tokens.specs.Forms as forms
use Rattle.fortran_tokens.specs.Forms.{HasForm}
use Rattle.fortran_tokens.specs.Cuts.{IsCut}
use Rattle.fortran_tokens.specs.Tokens.{AreTokens, depth_behind, halved, is_colons, piece_of, with_halves}
use Rattle.fortran_tree.specs.Statements.{Declaration, Entity}
use Rattle.fortran_tree.specs.Units.{Program}
use Rattle.fortran_grammar.specs.Tokens as t
use Rattle.fortran_grammar.specs.Tokens.{Tok, Token}
use Rattle.fortran_grammar.specs.Phrases.{Phrase, Words, ◌▸◌, from, name, sign, over, optional, listed, followed, repeated}
use Rattle.fortran_grammar.specs.ActionGrammar as g
use Rattle.fortran_grammar.specs.StatementGrammar.{statements}
use Rattle.fortran_grammar.specs.ProgramGrammar as p
use Rattle.expr_reader.specs.Plain as plain
use Rattle.expr_reader.specs.Plain.{seen}
use Rattle.token_words.specs.Words.{AreSeen, AreWords, just_past}
use Rattle.trace_theory.specs.Entries.{Each}
use Rattle.trace_forms.specs.Names.{IsName, is_name_byte}
use Rattle.trace_names.specs.Entities.{AreNamed, DeclareNames}
use Rattle.trace_names.proofs.Lists.{each_first, each_second, each_both}

-- ---- names in lower case
lower_byte : (b : ℕ) → bytes.is_name_byte b ≡ true → is_name_byte (to_ascii_lowercase b) ≡ true
lower_byte b h = grind (arith, nat_tests)

lower_letter : (b : ℕ) → bytes.is_letter b ≡ true → is_name_byte (to_ascii_lowercase b) ≡ true
lower_letter b h = grind (arith, nat_tests)

lower_bytes : (w : List ℕ) → list_all bytes.is_name_byte w ≡ true → list_all is_name_byte (str_to_ascii_lowercase w) ≡ true
lower_bytes [] h = refl
lower_bytes (b ∷ w) h =
    let k = and_parts (bytes.is_name_byte b) (list_all bytes.is_name_byte w) h in
    and_from (is_name_byte (to_ascii_lowercase b)) (list_all is_name_byte (str_to_ascii_lowercase w)) (lower_byte b k.0) (lower_bytes w k.1)

lower_name : (w : List ℕ) → forms.is_name w ≡ true → IsName (str_to_ascii_lowercase w)
lower_name [] h = absurd (cc)
lower_name (b ∷ w) h =
    let k = and_parts (bytes.is_letter b) (list_all bytes.is_name_byte w) h in
    let l = str_to_ascii_lowercase w in
    record {
      some = omega arith;
      bytes = and_from (is_name_byte (to_ascii_lowercase b)) (list_all is_name_byte l) (lower_letter b k.0) (lower_bytes w k.1);
    }

-- ---- the words of a statement
-- a token that is a word has a name
abbrev pub IsNamed : Tok → Type 0
IsNamed (t.word x) = IsName x
IsNamed (t.integer n k) = Unit {0}
IsNamed (t.literal x) = Unit {0}
IsNamed (t.sign s) = Unit {0}
IsNamed t.over = Unit {0}

tok_named : (k : TokenKind) (w : List ℕ) → HasForm k w → IsNamed (plain.tok_of k w)
tok_named Name w h = lower_name w h
tok_named Number w h = tt
tok_named Literal [] h = tt
tok_named Literal (q ∷ w) h = tt
tok_named (Fixed s) w h = tt

abbrev PieceNamed : List ℕ → Piece → Type 0
PieceNamed text x = IsNamed (plain.tok_of x.kind (take (x.to - x.from) (drop x.from text)))

pieces_named : (text : List ℕ) (from : ℕ) (ps : List Piece) (to : ℕ) → IsCut text from ps to → Each (PieceNamed text) ps
pieces_named text at [] to h = tt
pieces_named text at (x ∷ ps) to (b, n, s, k, rest) =
    let width : n ≡ x.to - x.from = omega arith in
    let here = tok_named x.kind (take n (drop x.from text)) k.longest.form in
    (subst (λ m. IsNamed (plain.tok_of x.kind (take m (drop x.from text)))) width here, pieces_named text x.to ps to rest)

halves_named : (text : List ℕ) (x : Piece) → PieceNamed text x → (b : Bool)
    → Each (PieceNamed text) (cond b (record { kind = Fixed Colon; from = x.from; to = x.from + 1 } ∷ record { kind = Fixed Colon; from = x.from + 1; to = x.to } ∷ []) (x ∷ []))
halves_named text x h true = (tt, (tt, tt))
halves_named text x h false = (h, tt)

with_halves_named : (text : List ℕ) (d : ℕ) (ps : List Piece) → Each (PieceNamed text) ps → Each (PieceNamed text) (with_halves d ps)
with_halves_named text d [] h = tt
with_halves_named text d (x ∷ ps) h =
    each_both (PieceNamed text) (halved d x) (with_halves (depth_behind d x.kind) ps) (halves_named text x h.0 (is_colons x.kind && nat_lt 0 d))
    (with_halves_named text (depth_behind d x.kind) ps h.1)

abbrev TokenNamed : Token → Type 0
TokenNamed y = IsNamed y.tok

seen_named : (text : List ℕ) (end : Pos) (ts : List Cut) → Each (PieceNamed text) (map piece_of ts) → Each TokenNamed (seen text end ts)
seen_named text end [] h = (tt, tt)
seen_named text end (x ∷ ts) h = (h.0, seen_named text end ts h.1)

statement_named : (s : Stmt) (ts : List Cut) (us : List Token) → AreTokens s ts → AreSeen s ts us → Each TokenNamed us
statement_named s [] us h e = subst (Each TokenNamed) (sym e) tt
statement_named s (x ∷ ts) us h (q, a, b) =
    let cut = with_halves_named s.text 0 h.cut.0 (pieces_named s.text 0 h.cut.0 (length s.text) h.cut.1) in
    subst (Each TokenNamed) (sym b) (seen_named s.text (just_past q) (x ∷ ts) (subst (Each (PieceNamed s.text)) (sym h.cut.2) cut))

pub words_named : (ss : List Stmt) (ts : List Token) → AreWords ss ts → Each TokenNamed ts
words_named [] ts e = subst (Each TokenNamed) (sym e) tt
words_named (s ∷ ss) ts (xs, us, vs, a, b, c, d) =
    subst (Each TokenNamed) (sym d) (each_both TokenNamed us vs (statement_named s xs us a b) (words_named ss vs c))

-- ---- the tree that they spell
abbrev MarkNamed : Mark Token → Type 0
MarkNamed m = IsNamed m.token.tok

marks_named : (w : List (Mark Token)) → Each TokenNamed (bare w) → Each MarkNamed w
marks_named [] h = tt
marks_named (m ∷ w) h = (h.0, marks_named w h.1)

-- a word of a phrase, all of whose words have names
record Spells (P : Phrase) (limit level : ℕ) : Type 0 where
  word : List (Mark Token)
  is_word : Words P limit level word
  named : Each MarkNamed word

front : (P Q : Phrase) (limit level : ℕ) → Spells (P ▸ Q) limit level → Spells P limit level
front P Q limit level s =
    let h = s.is_word in
    record { word = h.0; is_word = h.2; named = each_first MarkNamed h.0 h.1 (subst (Each MarkNamed) h.4 s.named) }

rest : (P Q : Phrase) (limit level : ℕ) → Spells (P ▸ Q) limit level → Spells Q limit level
rest P Q limit level s =
    let h = s.is_word in
    record { word = h.1; is_word = h.3; named = each_second MarkNamed h.0 h.1 (subst (Each MarkNamed) h.4 s.named) }

entity_named : (e : Entity) (limit level : ℕ) → Spells (g.entity e) limit level → IsName e.name.text
entity_named e limit level s =
    let behind = g.maybe_dimensions e.dimensions ▸ optional g.bracketed_coarray_spec e.coshape ▸ optional g.initial e.initial in
    let n = front (name e.name) behind limit level s in
    (subst (Each MarkNamed) n.is_word n.named).0

followed_named : (es : List Entity) (limit level : ℕ) → Spells (followed g.entity es) limit level → AreNamed es
followed_named [] limit level s = tt
followed_named (e ∷ es) limit level s =
    let r = rest (sign Comma) (g.entity e ▸ followed g.entity es) limit level s in (
      entity_named e limit level (front (g.entity e) (followed g.entity es) limit level r),
      followed_named es limit level (rest (g.entity e) (followed g.entity es) limit level r),
    )

listed_named : (es : List Entity) (limit level : ℕ) → Spells (listed g.entity es) limit level → AreNamed es
listed_named [] limit level s = tt
listed_named (e ∷ es) limit level s = (
  entity_named e limit level (front (g.entity e) (followed g.entity es) limit level s),
  followed_named es limit level (rest (g.entity e) (followed g.entity es) limit level s),
)

declaration_named : (d : Declaration) (limit level : ℕ) → Spells (g.declaration d) limit level → AreNamed d.entities
declaration_named d limit level s =
    let es = listed g.entity d.entities in
    let whole = g.declaration_type_spec d.type_spec ▸ followed g.attribute d.attributes ▸ g.colons d ▸ es ▸ over in
    let here : Spells whole limit level = record { word = s.word; is_word = s.is_word.1; named = s.named } in
    let a = rest (g.declaration_type_spec d.type_spec) (followed g.attribute d.attributes ▸ g.colons d ▸ es ▸ over) limit level here in
    let b = rest (followed g.attribute d.attributes) (g.colons d ▸ es ▸ over) limit level a in
    let c = rest (g.colons d) (es ▸ over) limit level b in
    listed_named d.entities limit level (front es over limit level c)

declarations_named : (ds : List Declaration) (limit level : ℕ) → Spells (repeated g.declaration ds) limit level → DeclareNames ds
declarations_named [] limit level s = tt
declarations_named (d ∷ ds) limit level s = (
  declaration_named d limit level (front (g.declaration d) (repeated g.declaration ds) limit level s),
  declarations_named ds limit level (rest (g.declaration d) (repeated g.declaration ds) limit level s),
)

program_named : (x : Program) (limit level : ℕ) → Spells (p.program x) limit level → DeclareNames x.body.declarations
program_named x limit level s =
    let last = optional p.contained x.procedures ▸ from x.end.at (p.end_of_program x.end.name) ▸ over in
    let a = rest (optional p.program_statement x.name) (repeated p.use_statement x.uses ▸ p.body x.body ▸ last) limit level s in
    let b = rest (repeated p.use_statement x.uses) (p.body x.body ▸ last) limit level a in
    let c = front (p.body x.body) last limit level b in
    let ds = repeated g.declaration x.body.declarations in
    let e = rest (optional p.implicit_none x.body.implicit_none) (ds ▸ statements x.body.statements) limit level c in
    declarations_named x.body.declarations limit level (front ds (statements x.body.statements) limit level e)

pub tree_named : (ts : List Token) (w : List (Mark Token)) (limit : ℕ) (x : Program) → Each TokenNamed ts
    → Words (p.program x) limit 0 w → ts ≡ bare w → DeclareNames x.body.declarations
tree_named ts w limit x h k e =
    program_named x limit 0 (record { word = w; is_word = k; named = marks_named w (subst (Each TokenNamed) e h) })

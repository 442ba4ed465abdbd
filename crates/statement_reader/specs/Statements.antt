-- Readers of some actions.
use Rattle.std.specs.Prelude.{ℕ, Bool, true, false, codes, List, []}
use Rattle.reader_theory.specs.Readers.{token, both, mapped, pick, optional, behind, pair}
use Rattle.fortran_tokens.specs.declared.token.Sign.TheVariants as sign
use Rattle.fortran_tree.specs.declared.name.Literal.{Literal}
use Rattle.fortran_tree.specs.Expressions.{Expression}
use Rattle.fortran_tree.specs.Statements as s
use Rattle.fortran_tree.specs.Statements.{ActionStatement, Format, Item}
use Rattle.fortran_grammar.specs.Tokens as t
use Rattle.fortran_grammar.specs.Tokens.{Tok, Token}
use Rattle.expr_reader.specs.Openings.{opens}
use Rattle.expr_reader.specs.Reading.{Reader}
use Rattle.expr_reader.specs.Tests.{is_sign, is_key, is_word, a_name, followed_by}

-- exit [ NAME ]
abbrev pub exit_reader : Reader ActionStatement
exit_reader = mapped s.exit (behind (is_key (codes "exit")) (optional is_word a_name))

-- stop [ expr ]
abbrev pub stop_reader : Reader Expression → Reader ActionStatement
stop_reader r = mapped s.stop (behind (is_key (codes "stop")) (optional (opens 1) r))

abbrev pub is_literal_tok : Tok → Bool
is_literal_tok (t.literal x) = true
is_literal_tok x = false

abbrev pub is_literal : Token → Bool
is_literal x = is_literal_tok x.tok

abbrev pub characters_of : Tok → List ℕ
characters_of (t.literal x) = x
characters_of x = []

abbrev pub literal_of : Token → Literal
literal_of x = record { text = characters_of x.tok; at = x.at }

abbrev pub a_literal : Reader Literal
a_literal = mapped literal_of (token is_literal)

abbrev pub free_of : Token → Format
free_of x = s.free

-- "*" | LITERAL, and expr | LITERAL
abbrev pub format_reader : Reader Format
format_reader = pick (is_sign sign.Star) (mapped free_of (token (is_sign sign.Star))) (mapped s.written a_literal)

abbrev pub item_reader : Reader Expression → Reader Item
item_reader r = pick is_literal (mapped s.quoted a_literal) (mapped s.value r)

-- print format { , item }
abbrev pub print_of : Format × List Item → ActionStatement
print_of q = s.print q.0 q.1

abbrev pub print_list : Reader Expression → Reader (Format × List Item)
print_list r = both pair format_reader (followed_by (item_reader r))

abbrev pub print_reader : Reader Expression → Reader ActionStatement
print_reader r = mapped print_of (behind (is_key (codes "print")) (print_list r))

-- Which tokens spell which file: modules (ISO/IEC 1539-1:2018, 14.2.1), and behind them the main program (14.1).
-- Modules are no levels.
use Rattle.std.specs.Prelude.{ℕ, codes, List}
use Rattle.reader_theory.specs.Words.{Mark}
use Rattle.fortran_tokens.specs.declared.token.Sign.TheVariants.{Arrow, Colon, Comma}
use Rattle.unit_tree.specs.Files as f
use Rattle.unit_tree.specs.Files.{Rename, OnlyItem, UseList, Use, Module, MainProgram, UnitFile}
use Rattle.fortran_grammar.specs.Tokens.{Token}
use Rattle.fortran_grammar.specs.Phrases.{Phrase, Words, ◌▸◌, from, name, key, sign, over, optional, followed, maybe_listed, repeated}
use Rattle.fortran_grammar.specs.ActionGrammar.{declaration}
use Rattle.fortran_grammar.specs.ProgramGrammar.{nature, implicit_none, body, contained, program_statement, end_of_procedure, end_of_program}

-- NAME "=>" NAME (R1411)
abbrev pub rename : Rename → Phrase
rename r = name r.local ▸ sign Arrow ▸ name r.entity

-- NAME | rename (R1412)
abbrev pub only_item : OnlyItem → Phrase
only_item (f.named n) = name n
only_item (f.renamed r) = rename r

-- { "," rename } | "," "only" ":" [ only_item { "," only_item } ]
abbrev pub use_list : UseList → Phrase
use_list (f.all_but rs) = followed rename rs
use_list (f.only is) = sign Comma ▸ key (codes "only") ▸ sign Colon ▸ maybe_listed only_item is

-- "use" [ nature ] NAME use_list (R1409)
abbrev pub use_statement : Use → Phrase
use_statement x = from x.at (key (codes "use") ▸ nature x.nature ▸ name x.module_name ▸ use_list x.list ▸ over)

-- "module" NAME { use } [ "implicit" "none" ] { declaration } [ "contains" { internal_subprogram } ]
-- "end" [ "module" [ NAME ] ] (R1404, with R1405 to R1408)
abbrev pub module_unit : Module → Phrase
module_unit x = from x.at (key (codes "module") ▸ name x.name) ▸ over ▸ repeated use_statement x.uses
    ▸ optional implicit_none x.implicit_none ▸ repeated declaration x.declarations ▸ optional contained x.procedures
    ▸ from x.end.at (end_of_procedure (codes "module") x.end.name) ▸ over

-- a main program whose USE statements may have renames
abbrev pub main_program : MainProgram → Phrase
main_program x = optional program_statement x.name ▸ repeated use_statement x.uses ▸ body x.body
    ▸ optional contained x.procedures ▸ from x.end.at (end_of_program x.end.name) ▸ over

-- { module } program
abbrev pub unit_file : UnitFile → Phrase
unit_file x = repeated module_unit x.modules ▸ main_program x.main

-- the language of whole files with modules, where so many levels may be open
abbrev pub Files : ℕ → UnitFile → List (Mark Token) → Type 0
Files limit x = Words (unit_file x) limit 0

-- the language of source files with modules: 64 levels may be open (docs/use/LANGUAGE.md)
abbrev pub UnitSources : UnitFile → List (Mark Token) → Type 0
UnitSources = Files 64

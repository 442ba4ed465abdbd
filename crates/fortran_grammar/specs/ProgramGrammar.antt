-- Which tokens spell which program (ISO/IEC 1539-1:2018, 14.1 and 15.6.2). Procedures are no levels.
use Rattle.std.specs.Prelude.{ℕ, codes, List, Option, Some, None}
use Rattle.caf_base.specs.declared.place.Pos.{Pos}
use Rattle.reader_theory.specs.Words.{Mark}
use Rattle.fortran_tokens.specs.declared.token.Sign.TheVariants.{Colon, Colons, Comma}
use Rattle.fortran_tree.specs.declared.name.Name.{Name}
use Rattle.fortran_tree.specs.declared.unit.ModuleNature.{ModuleNature}
use Rattle.fortran_tree.specs.declared.unit.ModuleNature.TheVariants as natures
use Rattle.fortran_tree.specs.declared.unit.Recursion.{Recursion}
use Rattle.fortran_tree.specs.declared.unit.Recursion.TheVariants as recursions
use Rattle.fortran_tree.specs.Units as u
use Rattle.fortran_tree.specs.Units.{Use, Body, PrefixSpec, Heading, Procedure, Program}
use Rattle.fortran_grammar.specs.Tokens.{Token}
use Rattle.fortran_grammar.specs.Phrases.{Phrase, Words, nothing, ◌▸◌, ◌∪◌, from, name, key, sign, over, joined, round, optional, maybe_listed, repeated}
use Rattle.fortran_grammar.specs.ActionGrammar.{declaration_type_spec, declaration}
use Rattle.fortran_grammar.specs.StatementGrammar.{statements}

-- "," "intrinsic" "::" | "::" | nothing
abbrev pub nature : ModuleNature → Phrase
nature natures.Unstated = sign Colons ∪ nothing
nature natures.Intrinsic = sign Comma ▸ key (codes "intrinsic") ▸ sign Colons

-- "," "only" ":" [ NAME { "," NAME } ]
abbrev pub only_names : List Name → Phrase
only_names ns = sign Comma ▸ key (codes "only") ▸ sign Colon ▸ maybe_listed name ns

-- "use" [ nature ] NAME [ only_names ] (R1409)
abbrev pub use_statement : Use → Phrase
use_statement x = from x.at (key (codes "use") ▸ nature x.nature ▸ name x.module_name ▸ optional only_names x.only ▸ over)

-- "implicit" "none"
abbrev pub implicit_none : Pos → Phrase
implicit_none at = from at (key (codes "implicit") ▸ key (codes "none") ▸ over)

-- [ "implicit" "none" ] { declaration } { statement }
abbrev pub body : Body → Phrase
body b = optional implicit_none b.implicit_none ▸ repeated declaration b.declarations ▸ statements b.statements

-- [ "recursive" ]
abbrev pub recursion : Recursion → Phrase
recursion recursions.Unstated = nothing
recursion recursions.Recursive = key (codes "recursive")

-- "recursive" | declaration_type_spec (R1527)
abbrev pub prefix_spec : PrefixSpec → Phrase
prefix_spec u.recursive = key (codes "recursive")
prefix_spec (u.result_type t) = declaration_type_spec t

-- "(" [ names ] ")"
abbrev pub dummies : List Name → Phrase
dummies ns = round (maybe_listed name ns)

-- "result" "(" NAME ")"
abbrev pub result : Name → Phrase
result n = key (codes "result") ▸ round (name n)

-- a SUBROUTINE or FUNCTION statement (R1535, R1530)
abbrev pub heading : Heading → Phrase
heading (u.subroutine r n ns) = recursion r ▸ key (codes "subroutine") ▸ name n ▸ optional dummies ns
heading (u.function ps n ns r) = repeated prefix_spec ps ▸ key (codes "function") ▸ name n ▸ dummies ns ▸ optional result r

-- the keyword of a subprogram
abbrev pub subprogram_keyword : Heading → List ℕ
subprogram_keyword (u.subroutine r n ns) = codes "subroutine"
subprogram_keyword (u.function ps n ns r) = codes "function"

-- "end" [ KEYWORD [ NAME ] ] of a subprogram, and of the main program, which has its keyword in the canonical spelling
-- only before a name
abbrev pub end_of_procedure : List ℕ → Option Name → Phrase
end_of_procedure word None = joined (codes "end") word ∪ key (codes "end")
end_of_procedure word (Some n) = joined (codes "end") word ▸ name n

abbrev pub end_of_program : Option Name → Phrase
end_of_program None = key (codes "end") ∪ joined (codes "end") (codes "program")
end_of_program (Some n) = joined (codes "end") (codes "program") ▸ name n

-- a subprogram within the main program (R512)
abbrev pub internal_subprogram : Procedure → Phrase
internal_subprogram x = from x.at (heading x.heading) ▸ over ▸ body x.body ▸ from x.end.at (end_of_procedure (subprogram_keyword x.heading) x.end.name) ▸ over

-- "program" NAME
abbrev pub program_statement : Name → Phrase
program_statement n = key (codes "program") ▸ name n ▸ over

-- "contains" { internal_subprogram }
abbrev pub contained : List Procedure → Phrase
contained ps = key (codes "contains") ▸ over ▸ repeated internal_subprogram ps

-- [ "program" NAME ] { use } [ "implicit" "none" ] { declaration } { statement } [ "contains" { internal_subprogram } ]
-- "end" [ "program" [ NAME ] ]
abbrev pub program : Program → Phrase
program x = optional program_statement x.name ▸ repeated use_statement x.uses ▸ body x.body ▸ optional contained x.procedures ▸ from x.end.at (end_of_program x.end.name) ▸ over

-- the language of whole files, where so many levels may be open
abbrev pub Programs : ℕ → Program → List (Mark Token) → Type 0
Programs limit x = Words (program x) limit 0

-- the language of source files: 64 levels may be open (docs/use/LANGUAGE.md)
abbrev pub Sources : Program → List (Mark Token) → Type 0
Sources = Programs 64

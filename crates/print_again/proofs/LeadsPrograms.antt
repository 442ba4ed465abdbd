-- The canonical tokens of a program are those of whole statements.
use Rattle.std.proofs.Common.{◌≡◌, ℕ, Bool, true, false, ◌&&◌, List, [], ◌∷◌, codes, Option, Some, None, refl, append-nil, subst}
use Rattle.std.proofs.lemmas.Bool.{and_from}
use Rattle.caf_base.specs.declared.place.Pos.{Pos}
use Rattle.reader_theory.specs.Words.{Mark}
use Rattle.fortran_tokens.specs.declared.token.Sign.TheVariants as signs
use Rattle.fortran_tree.specs.declared.name.Name.{Name}
use Rattle.fortran_tree.specs.declared.unit.ModuleNature.{ModuleNature}
use Rattle.fortran_tree.specs.declared.unit.ModuleNature.TheVariants as natures
use Rattle.fortran_tree.specs.declared.unit.Recursion.{Recursion}
use Rattle.fortran_tree.specs.declared.unit.Recursion.TheVariants as recursions
use Rattle.fortran_tree.specs.Units as u
use Rattle.fortran_tree.specs.Units.{Use, Body, PrefixSpec, Heading, Procedure, Program}
use Rattle.fortran_grammar.specs.Tokens.{Token}
use Rattle.fortran_grammar.specs.Phrases.{Phrase, ◌▸◌, Words, canonical, repeated}
use Rattle.fortran_grammar.specs.ProgramGrammar as g
use Rattle.print_again.specs.Spelled.{is_plain_name, are_statements}
use Rattle.print_again.proofs.Leads.{Leads, fit_word, leads_nothing, leads_both, leads_from, leads_first, leads_key, leads_sign, leads_over, leads_name, leads_joined, leads_round, leads_optional, leads_maybe_listed, leads_repeated}
use Rattle.print_again.proofs.LeadsStatements.{leads_declaration_type_spec, leads_declaration, leads_statements}

leads_nature : (x : ModuleNature) → Leads true 0 (g.nature x) true 0
leads_nature natures.Unstated = leads_first (λ ts a. a)
leads_nature natures.Intrinsic = leads_both (leads_sign signs.Comma refl) (leads_both (leads_key (codes "intrinsic") refl) (leads_sign signs.Colons refl))

leads_only_names : (ns : List Name) → Leads true 0 (g.only_names ns) true 0
leads_only_names ns = leads_both (leads_sign signs.Comma refl) (leads_both (leads_key (codes "only") refl) (leads_both (leads_sign signs.Colon refl) (leads_maybe_listed leads_name ns)))

leads_use : (x : Use) → Leads false 0 (g.use_statement x) false 0
leads_use x = leads_from (leads_both (leads_key (codes "use") refl) (leads_both (leads_nature x.nature) (leads_both (leads_name x.module_name) (leads_both (leads_optional leads_only_names x.only) leads_over))))

leads_implicit : (at : Pos) → Leads false 0 (g.implicit_none at) false 0
leads_implicit at = leads_from (leads_both (leads_key (codes "implicit") refl) (leads_both (leads_key (codes "none") refl) leads_over))

leads_body : (b : Body) → Leads false 0 (g.body b) false 0
leads_body b = leads_both (leads_optional leads_implicit b.implicit_none) (leads_both (leads_repeated leads_declaration b.declarations) (leads_statements b.statements))

-- what may stand before a subprogram's keyword
recursive : {m k : ℕ} {c : Bool} {P : Phrase} (r : Recursion) → ((b : Bool) → Leads b m P c k) → Leads false m (g.recursion r ▸ P) c k
recursive recursions.Unstated f = leads_both leads_nothing (f false)
recursive recursions.Recursive f = leads_both (leads_key (codes "recursive") refl) (f true)

leads_prefix : {b : Bool} (x : PrefixSpec) → Leads b 0 (g.prefix_spec x) true 0
leads_prefix u.recursive = leads_key (codes "recursive") refl
leads_prefix (u.result_type x) = leads_declaration_type_spec x

prefixed : {k : ℕ} {c : Bool} {P : Phrase} (ps : List PrefixSpec) → ((b : Bool) → Leads b 0 P c k) → Leads false 0 (repeated g.prefix_spec ps ▸ P) c k
prefixed [] f = leads_both leads_nothing (f false)
prefixed (x ∷ ps) f = leads_both (leads_both (leads_prefix x) (leads_repeated leads_prefix ps)) (f true)

leads_dummies : (ns : List Name) → Leads true 0 (g.dummies ns) true 0
leads_dummies ns = leads_round (leads_maybe_listed leads_name ns)

leads_result : (n : Name) → Leads true 0 (g.result n) true 0
leads_result n = leads_both (leads_key (codes "result") refl) (leads_round (leads_name n))

leads_heading : (x : Heading) → Leads false 0 (g.heading x) true 0
leads_heading (u.subroutine r n ns) = recursive r (λ b. leads_both (leads_key (codes "subroutine") refl) (leads_both (leads_name n) (leads_optional leads_dummies ns)))
leads_heading (u.function ps n ns r) = prefixed ps (λ b. leads_both (leads_key (codes "function") refl) (leads_both (leads_name n) (leads_both (leads_dummies ns) (leads_optional leads_result r))))

keyword_plain : (x : Heading) → is_plain_name (g.subprogram_keyword x) ≡ true
keyword_plain (u.subroutine r n ns) = refl
keyword_plain (u.function ps n ns r) = refl

leads_end_of_procedure : (k : List ℕ) (n : Option Name) → is_plain_name k ≡ true → Leads false 0 (g.end_of_procedure k n) true 0
leads_end_of_procedure k None e = leads_first (λ ts a. and_from (is_plain_name k && true) (are_statements true 0 ts) (and_from (is_plain_name k) true e refl) a)
leads_end_of_procedure k (Some n) e = leads_both (leads_joined (codes "end") k refl e) (leads_name n)

leads_end_of_program : (n : Option Name) → Leads false 0 (g.end_of_program n) true 0
leads_end_of_program None = leads_first (λ ts a. a)
leads_end_of_program (Some n) = leads_both (leads_joined (codes "end") (codes "program") refl refl) (leads_name n)

leads_procedure : (x : Procedure) → Leads false 0 (g.internal_subprogram x) false 0
leads_procedure x = leads_both (leads_from (leads_heading x.heading)) (leads_both leads_over (leads_both (leads_body x.body) (leads_both (leads_from (leads_end_of_procedure (g.subprogram_keyword x.heading) x.end.name (keyword_plain x.heading))) leads_over)))

leads_program_statement : (n : Name) → Leads false 0 (g.program_statement n) false 0
leads_program_statement n = leads_both (leads_key (codes "program") refl) (leads_both (leads_name n) leads_over)

leads_contained : (ps : List Procedure) → Leads false 0 (g.contained ps) false 0
leads_contained ps = leads_both (leads_key (codes "contains") refl) (leads_both leads_over (leads_repeated leads_procedure ps))

leads_program : (x : Program) → Leads false 0 (g.program x) false 0
leads_program x = leads_both (leads_optional leads_program_statement x.name) (leads_both (leads_repeated leads_use x.uses) (leads_both (leads_body x.body) (leads_both (leads_optional leads_contained x.procedures) (leads_both (leads_from (leads_end_of_program x.end.name)) leads_over))))

pub program_statements : (x : Program) (l : ℕ) (w : List (Mark Token)) → Words (g.program x) l 0 w → fit_word w ≡ true → are_statements false 0 (canonical (g.program x)) ≡ true
program_statements x l w h f = subst (λ z. are_statements false 0 z ≡ true) (append-nil (canonical (g.program x))) ((leads_program x).runs l 0 w h f [] refl)

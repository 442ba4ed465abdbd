-- The parts of constructs that are over.
use Rattle.std.proofs.Common.{◌≡◌, List, ◌∷◌, Some, None, ap, sym, ◌∙◌}
use Rattle.std.specs.declared.alloc.Global.{Global}
use Rattle.std.specs.declared.vec.Vec.{Vec}
use Rattle.caf_base.specs.declared.place.Pos.{Pos}
use Rattle.fortran_tree.specs.declared.statement.End.{End}
use Rattle.fortran_tree.specs.declared.statement.Statement.{Statement}
use Rattle.fortran_tree.specs.declared.statement.Statement.TheVariants as statements
use Rattle.fortran_tree.specs.declared.statement.BracketedSpecifier.{BracketedSpecifier}
use Rattle.fortran_tree.specs.StatementViews.{statement, statement_list, bracketed_specifier, statement_if, statement_do, statement_critical, statement_change_team}
use Rattle.statement_reader.specs.Parts as f
use Rattle.statement_reader.specs.Parts.{Part}
use Rattle.program_reader.specs.Nesting.{statement_parts, statements_parts}
use Rattle.program_tree.specs.declared.construct.IfPart.{IfPart}
use Rattle.program_tree.specs.declared.construct.Construct.{Construct}
use Rattle.program_tree.specs.declared.construct.Construct.TheVariants as c
use Rattle.program_tree.specs.Blocks.{construct_front, if_front}

pub do_whole : (x : Construct) (n : _) (k : _) (at : Pos) (body : Vec Statement Global) (end : End) (es : List Part) → x ≡ c.Do n k at
    → construct_front x (statements_parts (statement_list body.items) (f.end_do_part end.name end.at ∷ es)) ≡ statement_parts (statement (statements.Do n k body at end)) es
do_whole x n k at body end es e = ap (λ z. construct_front z (statements_parts (statement_list body.items) (f.end_do_part end.name end.at ∷ es))) e ∙ ap (λ z. statement_parts z es) (sym (statement_do n k body at end))

pub critical_whole : (x : Construct) (p : BracketedSpecifier) (at : Pos) (body : Vec Statement Global) (end : Pos) (es : List Part) → x ≡ c.Critical p at
    → construct_front x (statements_parts (statement_list body.items) (f.end_critical_part end ∷ es)) ≡ statement_parts (statement (statements.Critical p body at end)) es
critical_whole x p at body end es e = ap (λ z. construct_front z (statements_parts (statement_list body.items) (f.end_critical_part end ∷ es))) e ∙ ap (λ z. statement_parts z es) (sym (statement_critical p body at end))

pub team_whole : (x : Construct) (t : _) (ps : _) (at : Pos) (body : Vec Statement Global) (p : BracketedSpecifier) (end : Pos) (es : List Part) → x ≡ c.Team t ps at
    → construct_front x (statements_parts (statement_list body.items) (f.end_team_part (bracketed_specifier p) end ∷ es)) ≡ statement_parts (statement (statements.ChangeTeam t ps body p at end)) es
team_whole x t ps at body p end es e = ap (λ z. construct_front z (statements_parts (statement_list body.items) (f.end_team_part (bracketed_specifier p) end ∷ es))) e ∙ ap (λ z. statement_parts z es) (sym (statement_change_team t ps body p at end))

pub else_whole : (x : Construct) (p : IfPart) (at : Pos) (body : Vec Statement Global) (end : Pos) (es : List Part) → x ≡ c.Else p at
    → construct_front x (statements_parts (statement_list body.items) (f.end_if_part end ∷ es)) ≡ statement_parts (statement (statements.If p.condition p.body p.else_ifs (Some (record { body = body; at = at })) p.at end)) es
else_whole x p at body end es e = ap (λ z. construct_front z (statements_parts (statement_list body.items) (f.end_if_part end ∷ es))) e ∙ ap (λ z. statement_parts z es) (sym (statement_if p.condition p.body p.else_ifs (Some (record { body = body; at = at })) p.at end))

pub if_whole : (p : IfPart) (end : Pos) (es : List Part) → if_front p (f.end_if_part end ∷ es) ≡ statement_parts (statement (statements.If p.condition p.body p.else_ifs None p.at end)) es
if_whole p end es = ap (λ z. statement_parts z es) (sym (statement_if p.condition p.body p.else_ifs None p.at end))

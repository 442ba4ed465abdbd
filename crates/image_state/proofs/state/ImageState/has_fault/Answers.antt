use Rattle.std.proofs.Common.{◌≡◌, ◌∙◌, ap, sym, subst, refl, IsTrue, IsFalse}
use Rattle.std.specs.Arc.{arc_value}
use Rattle.walk_theory.specs.Terms.{at_fault}
use Rattle.image_acts.specs.Core.{Printing}
use Rattle.image_acts.specs.Faults.{format_fault}
use Rattle.image_acts.specs.Operate.Printing.{text_of}
use Rattle.image_code.specs.Code.{Whole}
use Rattle.image_code.specs.declared.tables.Tables.{Tables}
use Rattle.print_text.specs.Items.{IsFound}
use Rattle.image_state.specs.contracts.state.ImageState.{the_view}
use Rattle.image_state.proofs.PrintLaws.{innermost_told}
use Rattle.image_state.proofs.state.ImageState.has_fault.Goals as goal

pub returns-clause-faults : goal.returns-clause-faults
returns-clause-faults c =
    let d : c.deref.result.now ≡ arc_value c.self.inside.code = search (c.deref.ensures) in
    let e = innermost_told (the_view c.self.inside) c.args.self.now c.self.inside.prints.piles c.in-Some.format c.as_slice.result.now c.newest.result.now c.self.view_is refl (sym c.head.ensures ∙ c.in-Some.is)
    (c.as_slice.ensures ∙ ap (λ (x : Tables). x.texts) c.tables.ensures ∙ ap (λ (w : Whole). w.program.tables.texts) d) c.newest.ensures in
    subst (λ (p : Printing). IsTrue c.fault_of.result → text_of p ≡ at_fault format_fault) e c.fault_of.ensures.faults

pub returns-clause-prints : goal.returns-clause-prints
returns-clause-prints c =
    let d : c.deref.result.now ≡ arc_value c.self.inside.code = search (c.deref.ensures) in
    let e = innermost_told (the_view c.self.inside) c.args.self.now c.self.inside.prints.piles c.in-Some.format c.as_slice.result.now c.newest.result.now c.self.view_is refl (sym c.head.ensures ∙ c.in-Some.is)
    (c.as_slice.ensures ∙ ap (λ (x : Tables). x.texts) c.tables.ensures ∙ ap (λ (w : Whole). w.program.tables.texts) d) c.newest.ensures in
    subst (λ (p : Printing). IsFalse c.fault_of.result → IsFound (text_of p)) e c.fault_of.ensures.prints

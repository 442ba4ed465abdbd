use Rattle.std.proofs.Common.{◌≡◌, ℕ, List, Some, slice_get, ap, sym, ◌∙◌, subst, arith, bytes_eq}
use Rattle.std.specs.Prelude.{Vec, position}
use Rattle.std.specs.declared.alloc.Global.{Global}
use Rattle.trace_forms.specs.Names.{AreNames}
use Rattle.trace_fields.proofs.Table.{items_of, place_is}
use Rattle.trace_fields.proofs.names.NameTable.number_of.Goals as goal

-- the place of a name among the keys that the table has
place_among : (keys : List (Vec ℕ Global)) (names : List (List ℕ)) → items_of keys ≡ names → AreNames names
    → (coarray : ℕ) (name : List ℕ) → slice_get names coarray ≡ Some name
    → position (λ v. bytes_eq name v.items) keys ≡ Some coarray
place_among keys names is are coarray name e = place_is keys (subst AreNames (sym is) are) coarray name (ap
    (λ ns. slice_get ns coarray) is ∙ e)

pub returns-in-Some : goal.returns-in-Some
returns-in-Some c coarray h e =
    let at = place_among c.self.inside.set.keys c.args.self.now c.self.view_is c.requires coarray c.args.name.now e in
    let s : Some c.in-Some.place ≡ Some coarray = sym c.in-Some.is ∙ c.get_index_of.ensures.index ∙ at in
    cc

pub returns-in_default : goal.returns-in_default
returns-in_default c coarray h e =
    let at = place_among c.self.inside.set.keys c.args.self.now c.self.view_is c.requires coarray c.args.name.now e in
    let s : Some c.in-Some.place ≡ Some coarray = sym c.in-Some.is ∙ c.get_index_of.ensures.index ∙ at in
    let k : c.in-Some.place ≡ coarray = cc in
    absurd (omega arith)

pub returns-in_default-2 : goal.returns-in_default-2
returns-in_default-2 c coarray h e =
    let at = place_among c.self.inside.set.keys c.args.self.now c.self.view_is c.requires coarray c.args.name.now e in
    let s = sym c.in_default.is ∙ c.get_index_of.ensures.index ∙ at in
    absurd (cc)

use Rattle.std.proofs.Common.{◌≡◌, ◌∙◌, ◌++◌, ◌∷◌, ◌&&◌, [], ap, sym, subst, length, arith}
use Rattle.std.proofs.lemmas.Grind.{common_steps}
use Rattle.scope_table.specs.Numbered.{ArePlaced}
use Rattle.scope_table.proofs.Numbers.{constant_placed, next_placed}
use Rattle.scope_table.proofs.numbered.place_variable.Goals as goal

pub returns-in_default : goal.returns-in_default
returns-in_default c = λ es e p.
    subst (λ n. ArePlaced c.args.are_numbered c.args.places.now.items (es ++ n ∷ [])) (sym c.in_default.is) (constant_placed es c.args.places.now.items c.in_default.field-0 c.args.are_numbered p)

pub returns-then-are_numbered : goal.returns-then-are_numbered
returns-then-are_numbered c = λ es e p.
    let q : c.push.new.self.items ≡ c.args.places.now.items ++ c.args.place ∷ [] = grind (arith, common_steps) in
    let n : c.len.result ≡ length c.args.places.now.items = grind (arith, common_steps) in
    next_placed es c.args.places.now.items c.push.new.self.items c.args.next.now c.in-Variable.symbol c.args.place c.len.result c.args.are_numbered c.has_number-is_numbered.result c.has_number-is_numbered.result
    c.in-Variable.is e q n (sym (ap (λ z. z && c.has_number-is_numbered.result) c.if-are_numbered.true)) c.has_number-is_numbered.ensures p

pub returns-else-are_numbered : goal.returns-else-are_numbered
returns-else-are_numbered c = λ es e p.
    let q : c.push.new.self.items ≡ c.args.places.now.items ++ c.args.place ∷ [] = grind (arith, common_steps) in
    let n : c.len.result ≡ length c.args.places.now.items = grind (arith, common_steps) in
    next_placed es c.args.places.now.items c.push.new.self.items c.args.next.now c.in-Variable.symbol c.args.place c.len.result c.args.are_numbered c.has_number-is_numbered.result c.args.are_numbered
    c.in-Variable.is e q n (c.if-are_numbered.false ∙ sym (ap (λ z. z && c.has_number-is_numbered.result) c.if-are_numbered.false)) c.has_number-is_numbered.ensures p

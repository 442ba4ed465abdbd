-- The cells of a coarray, one after the other.
use Rattle.std.proofs.Common.{◌≡◌, ℕ, suc, ◌+◌, ◌-◌, ◌<◌, List, [], ◌∷◌, ◌++◌, ap, sym, ◌∙◌, arith, append_assoc}
use Rattle.std.specs.Prelude.{Some}
use Rattle.caf_base.specs.declared.value.Value.{Value}
use Rattle.caf_events.specs.declared.event.Entry.{Entry}
use Rattle.object_rules.specs.Cells.{MadeMemory}
use Rattle.object_rules.specs.MemoryRules.{value_there}
use Rattle.final_values.specs.Finals.{before, cells_from}

-- one cell more
pub cells_more : (m : MadeMemory) (h : List Entry) (c o n : ℕ) (v : Value) (vs now whole : List Value) → o < n → value_there m h c o ≡ Some v → now ≡ vs ++ v ∷ []
    → vs ++ cells_from m h c o (n - o) ≡ whole → now ++ cells_from m h c (o + 1) (n - (o + 1)) ≡ whole
cells_more m h c o n v vs now whole inside there more is =
    let count : n - o ≡ suc (n - (o + 1)) = omega arith in
    let next : o + 1 ≡ suc o = omega arith in
    ap (λ l. l ++ cells_from m h c (o + 1) (n - (o + 1))) more
    ∙ append_assoc vs (v ∷ []) (cells_from m h c (o + 1) (n - (o + 1)))
    ∙ ap (λ k. vs ++ v ∷ cells_from m h c k (n - (o + 1))) next
    ∙ ap (λ x. vs ++ before x (cells_from m h c (suc o) (n - (o + 1)))) (sym there)
    ∙ ap (λ k. vs ++ cells_from m h c o k) (sym count)
    ∙ is

use Rattle.std.proofs.Common.{rules, ◌≡◌, ◌∙◌, ◌<◌, ◌≤◌, ◌^◌, ◌-◌, ◌+◌, Bool, List, [], ◌∷◌, ◌++◌, cond, length, replicate, sym, ap, arith}
use Rattle.image_acts.specs.Formats.{Descriptor, pass, wrong}
use Rattle.print_text.specs.declared.item.Item.{Item}
use Rattle.print_text.specs.Items.{items_of, items_left}
use Rattle.print_text.specs.Passes.{bare, values_ahead}
use Rattle.print_text.specs.Pieces.{edit}
use Rattle.print_text.proofs.Passing.{bare_skip, bare_behind, all_of, one_of, none_of, no_item, none_left, left_few, one_ahead, all_taken}
use Rattle.print_text.proofs.judge.behind_data.Goals as goal

pub loop-taken-init : goal.loop-taken-init
loop-taken-init c = record {
  within = omega arith;
  gone = λ k. omega arith;
  same = λ texts n w s ds h. ap (λ (l : List Descriptor). bare (pass l (items_of texts (items_left c.args.items)) 0)) (all_of n (edit c.args.kind w) ds)
      ∙ bare_skip (replicate n (edit c.args.kind w) ++ ds) (items_of texts (items_left c.args.items)) 0 s;
}

pub returns-in_default : goal.returns-in_default
returns-in_default c =
    let empty : length (items_left c.loop-taken.left) ≡ 0 = search rules in
    let none : (items_left c.loop-taken.left) ≡ [] = none_left (items_left c.loop-taken.left) empty in
    λ texts n w s ds e o.
    let h : c.loop-taken.taken + 1 ≤ n = omega arith in
    let g : c.loop-taken.taken ≤ n = omega arith in
    sym (c.loop-taken.invariant.same texts n w s ds g)
    ∙ ap (λ (l : List Descriptor). bare (pass l (items_of texts (items_left c.loop-taken.left)) 0)) (one_of n c.loop-taken.taken (edit c.args.kind w) ds h)
    ∙ ap (λ (l : List Item). bare (pass (edit c.args.kind w ∷ (replicate (n - (c.loop-taken.taken + 1)) (edit c.args.kind w) ++ ds)) (items_of texts l) 0)) none
    ∙ ap bare (no_item c.args.kind w 0 (replicate (n - (c.loop-taken.taken + 1)) (edit c.args.kind w) ++ ds))

pub returns-then-not-is_of : goal.returns-then-not-is_of
returns-then-not-is_of c =
    let split : (items_left c.loop-taken.left) ≡ c.in-Some.first ∷ (items_left c.in-Some.rest) = search rules in
    λ texts n w s ds e o.
    let h : c.loop-taken.taken + 1 ≤ n = omega arith in
    let g : c.loop-taken.taken ≤ n = omega arith in
    sym (c.loop-taken.invariant.same texts n w s ds g)
    ∙ ap (λ (l : List Descriptor). bare (pass l (items_of texts (items_left c.loop-taken.left)) 0)) (one_of n c.loop-taken.taken (edit c.args.kind w) ds h)
    ∙ ap (λ (l : List Item). bare (pass (edit c.args.kind w ∷ (replicate (n - (c.loop-taken.taken + 1)) (edit c.args.kind w) ++ ds)) (items_of texts l) 0)) split
    ∙ c.is_of.ensures.takes texts w 0 (replicate (n - (c.loop-taken.taken + 1)) (edit c.args.kind w) ++ ds) (items_of texts (items_left c.in-Some.rest))
    ∙ ap (λ (t : Bool). cond t (bare (pass (replicate (n - (c.loop-taken.taken + 1)) (edit c.args.kind w) ++ ds) (items_of texts (items_left c.in-Some.rest)) 0)) wrong) c.if-not-is_of.true

pub loop-taken-preserved : goal.loop-taken-preserved
loop-taken-preserved c =
    let split : (items_left c.loop-taken.left) ≡ c.in-Some.first ∷ (items_left c.in-Some.rest) = search rules in
    record {
      within = omega arith;
      gone = λ k.
          let ahead = ap values_ahead split ∙ one_ahead c.in-Some.first (items_left c.in-Some.rest) (c.is_of.ensures.values c.if-not-is_of.false k) in
          let before = c.loop-taken.invariant.gone k in
          omega arith;
      same = λ texts n w s ds h.
          let g : c.loop-taken.taken ≤ n = omega arith in
          ap (λ (t : Bool). cond t (bare (pass (replicate (n - (c.loop-taken.taken + 1)) (edit c.args.kind w) ++ ds) (items_of texts (items_left c.in-Some.rest)) 0)) wrong) (sym c.if-not-is_of.false)
          ∙ sym (c.is_of.ensures.takes texts w 0 (replicate (n - (c.loop-taken.taken + 1)) (edit c.args.kind w) ++ ds) (items_of texts (items_left c.in-Some.rest)))
          ∙ ap (λ (l : List Item). bare (pass (edit c.args.kind w ∷ (replicate (n - (c.loop-taken.taken + 1)) (edit c.args.kind w) ++ ds)) (items_of texts l) 0)) (sym split)
          ∙ ap (λ (l : List Descriptor). bare (pass l (items_of texts (items_left c.loop-taken.left)) 0)) (sym (one_of n c.loop-taken.taken (edit c.args.kind w) ds h))
          ∙ c.loop-taken.invariant.same texts n w s ds g;
    }

pub returns : goal.returns
returns c =
    let small : length c.args.items.portions.now < 2 ^ 64 - 1 = search rules in
    let all : c.loop-taken.taken ≡ c.args.times = omega arith in
    λ texts n w s ds e o.
    let h = all_taken c.args.kind n c.args.times c.loop-taken.taken (values_ahead (items_left c.loop-taken.left)) (values_ahead (items_left c.args.items)) (length c.args.items.portions.now)
    e o all c.loop-taken.invariant.gone (left_few c.args.items) small in
    let g : c.loop-taken.taken ≤ n = omega arith in
    sym (c.loop-taken.invariant.same texts n w s ds g)
    ∙ ap (λ (l : List Descriptor). bare (pass l (items_of texts (items_left c.loop-taken.left)) 0)) (none_of n c.loop-taken.taken (edit c.args.kind w) ds h)
    ∙ sym (bare_behind [] (pass ds (items_of texts (items_left c.loop-taken.left)) 0))

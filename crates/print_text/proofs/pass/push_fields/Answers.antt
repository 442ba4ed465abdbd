use Rattle.std.proofs.Common.{rules, ◌≡◌, ◌∙◌, ◌<◌, ◌≤◌, ◌^◌, ◌-◌, ◌+◌, Bool, List, [], ◌∷◌, ◌++◌, cond, length, replicate, sym, ap, arith}
use Rattle.std.proofs.lemmas.List.{append-nil}
use Rattle.image_acts.specs.Formats.{Descriptor, pass, wrong, ended}
use Rattle.print_text.specs.declared.item.Item.{Item}
use Rattle.print_text.specs.Items.{items_of, items_left}
use Rattle.print_text.specs.Passes.{behind, values_ahead}
use Rattle.print_text.specs.Pieces.{edit}
use Rattle.print_text.proofs.Passing.{one_of, no_item, none_left, none_of, left_few, one_ahead, all_taken}
use Rattle.print_text.proofs.pass.push_fields.Goals as goal

pub returns : goal.returns
returns c =
    let small : length c.args.items.portions.now < 2 ^ 64 - 1 = search rules in
    let all : c.loop-taken.taken ≡ c.args.fields.times = omega arith in
    let k = c.args.fields.kind in
    λ n w ds e o v.
    let h = all_taken k n c.args.fields.times c.loop-taken.taken (values_ahead (items_left c.loop-taken.left)) (values_ahead (items_left c.args.items)) (length c.args.items.portions.now)
    e o all c.loop-taken.invariant.gone (left_few c.args.items) small in
    let g : c.loop-taken.taken ≤ n = omega arith in
    sym (c.loop-taken.invariant.same n w ds g v)
    ∙ ap (λ (l : List Descriptor). behind c.loop-taken.out.items (pass l (items_of c.args.texts.now (items_left c.loop-taken.left)) 0)) (none_of n c.loop-taken.taken (edit k w) ds h)

pub returns-in_default : goal.returns-in_default
returns-in_default c =
    let empty : length (items_left c.loop-taken.left) ≡ 0 = search rules in
    let none : (items_left c.loop-taken.left) ≡ [] = none_left (items_left c.loop-taken.left) empty in
    let k = c.args.fields.kind in
    λ n w ds e o v.
    let h : c.loop-taken.taken + 1 ≤ n = omega arith in
    let g : c.loop-taken.taken ≤ n = omega arith in
    sym (c.loop-taken.invariant.same n w ds g v)
    ∙ ap (λ (l : List Descriptor). behind c.loop-taken.out.items (pass l (items_of c.args.texts.now (items_left c.loop-taken.left)) 0)) (one_of n c.loop-taken.taken (edit k w) ds h)
    ∙ ap (λ (l : List Item). behind c.loop-taken.out.items (pass (edit k w ∷ (replicate (n - (c.loop-taken.taken + 1)) (edit k w) ++ ds)) (items_of c.args.texts.now l) 0)) none
    ∙ ap (behind c.loop-taken.out.items) (no_item k w 0 (replicate (n - (c.loop-taken.taken + 1)) (edit k w) ++ ds))
    ∙ ap ended (append-nil c.loop-taken.out.items)

pub returns-then-not-branch : goal.returns-then-not-branch
returns-then-not-branch c =
    let split : (items_left c.loop-taken.left) ≡ c.in-Some.first ∷ (items_left c.in-Some.rest) = search rules in
    let k = c.args.fields.kind in
    λ n w ds e o v.
    let h : c.loop-taken.taken + 1 ≤ n = omega arith in
    let g : c.loop-taken.taken ≤ n = omega arith in
    let more = replicate (n - (c.loop-taken.taken + 1)) (edit k w) ++ ds in
    sym (c.loop-taken.invariant.same n w ds g v)
    ∙ ap (λ (l : List Descriptor). behind c.loop-taken.out.items (pass l (items_of c.args.texts.now (items_left c.loop-taken.left)) 0)) (one_of n c.loop-taken.taken (edit k w) ds h)
    ∙ ap (λ (l : List Item). behind c.loop-taken.out.items (pass (edit k w ∷ more) (items_of c.args.texts.now l) 0)) split
    ∙ c.in_ok-push_field.ensures.puts w more (items_of c.args.texts.now (items_left c.in-Some.rest)) v
    ∙ ap (λ (t : Bool). cond t (behind c.push_field.new.out.items (pass more (items_of c.args.texts.now (items_left c.in-Some.rest)) 0)) wrong) c.if-not-branch.true

pub loop-taken-preserved : goal.loop-taken-preserved
loop-taken-preserved c =
    let split : (items_left c.loop-taken.left) ≡ c.in-Some.first ∷ (items_left c.in-Some.rest) = search rules in
    let k = c.args.fields.kind in
    record {
      within = omega arith;
      gone = λ k.
          let ahead = ap values_ahead split ∙ one_ahead c.in-Some.first (items_left c.in-Some.rest) (c.in_ok-push_field.ensures.values c.if-not-branch.false k) in
          let before = c.loop-taken.invariant.gone k in
          omega arith;
      same = λ n w ds h v.
          let g : c.loop-taken.taken ≤ n = omega arith in
          let more = replicate (n - (c.loop-taken.taken + 1)) (edit k w) ++ ds in
          ap (λ (t : Bool). cond t (behind c.push_field.new.out.items (pass more (items_of c.args.texts.now (items_left c.in-Some.rest)) 0)) wrong) (sym c.if-not-branch.false)
          ∙ sym (c.in_ok-push_field.ensures.puts w more (items_of c.args.texts.now (items_left c.in-Some.rest)) v)
          ∙ ap (λ (l : List Item). behind c.loop-taken.out.items (pass (edit k w ∷ more) (items_of c.args.texts.now l) 0)) (sym split)
          ∙ ap (λ (l : List Descriptor). behind c.loop-taken.out.items (pass l (items_of c.args.texts.now (items_left c.loop-taken.left)) 0)) (sym (one_of n c.loop-taken.taken (edit k w) ds h))
          ∙ c.loop-taken.invariant.same n w ds g v;
    }

use Rattle.std.proofs.Common.{◌≡◌, [], ◌∷◌, ◌++◌, length, ap, sym, ◌∙◌, subst, arith}
use Rattle.std.proofs.lemmas.List.{length-append}
use Rattle.object_rules.specs.Happenings.{numbers_of}
use Rattle.wait_chain.specs.Links.{last_of, IsOpen, ComesBehind}
use Rattle.wait_chain.specs.Reports.{as_waits}
use Rattle.wait_chain.proofs.Reporting.{open_more, last_link_more, links_few}
use Rattle.wait_chain.proofs.chain.why_from.Goals as goal

pub loop-count-init : goal.loop-count-init
loop-count-init c =
    let one = c.in_ok-links.ensures in
    let size = ap length one in record {
      open_ = subst (λ z. IsOpen c.args.n c.args.before.now (as_waits c.args.waits.now) (numbers_of z)) (sym one) c.requires;
      last = ap (λ z. last_of (numbers_of z)) one;
      size = omega arith;
    }

pub loop-count-preserved : goal.loop-count-preserved
loop-count-preserved c =
    let more : c.push.new.self ≡ c.loop-count.links ++ c.in-Next.image ∷ [] = c.in_ok-push-in-Next.ensures.pushed in
    let size = ap length more ∙ length-append c.loop-count.links (c.in-Next.image ∷ []) in
    let was = c.loop-count.invariant.size in
    let links = subst (λ z. ComesBehind c.args.n c.args.before.now (as_waits c.args.waits.now) (numbers_of z) c.in_ok-image.field-0) c.as_slice.ensures c.in_ok-image.ensures in
    let next = subst (ComesBehind c.args.n c.args.before.now (as_waits c.args.waits.now) (numbers_of c.loop-count.links)) c.in-Next.is links in record {
      open_ = subst (λ z. IsOpen c.args.n c.args.before.now (as_waits c.args.waits.now) (numbers_of z)) (sym more) (open_more c.args.n c.args.before.now (as_waits c.args.waits.now) c.loop-count.links c.in-Next.image next);
      last = ap (λ z. last_of (numbers_of z)) more ∙ last_link_more c.loop-count.links c.in-Next.image;
      size = omega arith;
    }

pub unreachable-requires : goal.unreachable-requires
unreachable-requires c =
    let few = links_few c.args.n c.args.before.now (as_waits c.args.waits.now) c.loop-count.links c.loop-count.invariant.open_ in
    let size = c.loop-count.invariant.size in
    let end = c.loop-count-test.false in
    absurd (omega arith)

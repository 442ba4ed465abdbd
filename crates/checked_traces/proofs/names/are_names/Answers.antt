use Rattle.std.proofs.Common.{◌≡◌, ◌+◌, ◌<◌, ◌≤◌, length, refl, ap, sym, ◌∙◌, subst, arith, true, false, true≢false, Some, slice_get}
use Rattle.std.proofs.lemmas.Option.{slice_get_read}
use Rattle.checked_traces.proofs.Differ.{one_name_more, all_names, name_there, new_there}
use Rattle.checked_traces.proofs.names.are_names.Goals as goal

pub loop-k-preserved : goal.loop-k-preserved
loop-k-preserved c =
    let texts = c.args.texts.now in
    let at = slice_get_read texts _ c.loop-k.k c.index-texts-k.result refl c.loop-k-test.true c.index-texts-k.is ∙ ap Some (sym c.as_slice-text.ensures) in
    one_name_more c.loop-k.k texts c.as_slice-text.result.now at (c.is_name.ensures.0 c.if-not-is_name.false) (c.is_new.ensures.0 c.if-not-is_new.false) c.loop-k.invariant

pub returns : goal.returns
returns c = (λ yes. all_names c.loop-k.k c.args.texts.now (omega arith) c.loop-k.invariant, λ are. refl)

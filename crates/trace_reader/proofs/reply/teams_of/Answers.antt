use Rattle.trace_forms.specs.Ranges.{FormedHasText}
use Rattle.trace_fields.proofs.Items.{step, done}
use Rattle.trace_fields.proofs.Parts.{empty_is, some_is}
use Rattle.trace_reader.specs.Kinds.{formed_text}
use Rattle.trace_reader.proofs.Replies.{formed_items}
use Rattle.trace_reader.proofs.reply.teams_of.Goals as goal

pub loop-rest-preserved : goal.loop-rest-preserved
loop-rest-preserved c all each e =
    step FormedHasText 32 formed_text formed_items _ _ all (some_is _ c.loop-rest-test.ensures)
    (c.loop-rest.invariant all each e) _ _ c.cut_at.ensures _ c.in_ok-team.ensures _ c.in_ok-push.ensures.items

pub returns : goal.returns
returns c all each e = done FormedHasText 32 formed_text formed_items _ _ all (empty_is _ c.loop-rest-test.ensures)
    (c.loop-rest.invariant all each e)

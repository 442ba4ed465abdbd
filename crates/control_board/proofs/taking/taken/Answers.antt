use Rattle.std.proofs.Common.{rules, ◌≡◌, ◌≤◌, true, false, length, ap, sym, subst, ◌∙◌, to_z, of_z, w32}
use Rattle.std.specs.Prelude.{pos}
use Rattle.std.specs.Ordering.{int_eq}
use Rattle.std.proofs.lemmas.Bool.Decides.{Decides-int_eq}
use Rattle.caf_events.specs.declared.reply.Reply.TheVariants as replies
use Rattle.object_rules.specs.BoardTeams.{teams_after, members_at}
use Rattle.failure_status.specs.Endings.{AreWithin}
use Rattle.team_tree.specs.KnownTeams.{team_of}
use Rattle.control_board.specs.Boards.{values_of, table_of, taken_of}
use Rattle.control_board.proofs.Members.{member_there, tables_there, known_there, known_within}
use Rattle.control_board.proofs.Replying.{closed_there}
use Rattle.control_board.proofs.Departures.{taken_parts}
use Rattle.control_board.proofs.Collecting.{all_there, departs}
use Rattle.control_board.proofs.taking.taken.Goals as goal

pub result-status-requires-clause-team : goal.result-status-requires-clause-team
result-status-requires-clause-team c =
    let q = c.requires in
    let j = taken_parts q.images q.history c.args.image.0 c.args.team c.args.round q.ready in
    let t = member_there q.images q.history c.args.parts.now q.board true c.args.team.0 c.args.image.0 j.0 in
    (t.0, t.1)

pub result-status-requires-clause-round : goal.result-status-requires-clause-round
result-status-requires-clause-round c = let q = c.requires in (taken_parts q.images q.history c.args.image.0 c.args.team c.args.round q.ready).1

pub result-status-requires-clause-closed : goal.result-status-requires-clause-closed
result-status-requires-clause-closed c =
    let q = c.requires in
    let j = taken_parts q.images q.history c.args.image.0 c.args.team c.args.round q.ready in
    let t = member_there q.images q.history c.args.parts.now q.board true c.args.team.0 c.args.image.0 j.0 in
    closed_there q.images q.history c.args.parts.now q.board c.args.team.0 c.args.round t.0 j.1 true j.2

pub returns-then-not-is_fine : goal.returns-then-not-is_fine
returns-then-not-is_fine c n h b ready =
    let j = taken_parts n h c.args.image.0 c.args.team c.args.round ready in
    let e : to_z w32 (of_z w32 c.result-status.result) ≡ c.result-status.result = search rules in
    let d = departs n h c.args.parts.now b c.args.image.0 c.args.round j.1 c.result-status.result c.args.team.0 j.0 j.2 c.result-status.ensures in
    let fine = c.is_fine.ensures ∙ ap (λ z. int_eq z (pos 0)) e in
    ap (λ s. replies.Taken s c.new.result) e
    ∙ ap (replies.Taken c.result-status.result) c.new.ensures
    ∙ d.missed (λ z. (let w : true ≡ false = sym ((Decides-int_eq c.result-status.result (pos 0)).1 z) ∙ sym fine ∙ c.if-not-is_fine.true in absurd (cc)))

pub combined-requires : goal.combined-requires
combined-requires c =
    let q = c.requires in
    let j = taken_parts q.images q.history c.args.image.0 c.args.team c.args.round q.ready in
    let t = member_there q.images q.history c.args.parts.now q.board true c.args.team.0 c.args.image.0 j.0 in
    let e : to_z w32 (of_z w32 c.result-status.result) ≡ c.result-status.result = search rules in
    let d = departs q.images q.history c.args.parts.now q.board c.args.image.0 c.args.round j.1 c.result-status.result c.args.team.0 j.0 j.2 c.result-status.ensures in
    let fine = c.is_fine.ensures ∙ ap (λ z. int_eq z (pos 0)) e in
    let zero_status = (Decides-int_eq c.result-status.result (pos 0)).0 (sym fine ∙ c.if-not-is_fine.false) in
    record {
      low = t.0;
      high = t.2;
      rounds = t.1;
      table = tables_there q.images q.history c.args.parts.now q.board c.args.team.0 t.0 t.2;
      first = j.1;
      images = subst (λ m. AreWithin m (team_of c.args.parts.now.teams.teams c.args.team.0).members) (sym (q.board.bringers c.args.team.0 t.0 (tables_there q.images q.history c.args.parts.now q.board c.args.team.0 t.0 t.2))) (known_within q.images q.history c.args.parts.now q.board c.args.team.0 t.0 t.2);
      there = all_there (team_of c.args.parts.now.teams.teams c.args.team.0).members (members_at (teams_after q.images q.history) c.args.team.0) (λ m. c.args.round ≤ length (values_of (table_of c.args.parts.now.brought.items c.args.team.0) m))
          (known_there q.images q.history c.args.parts.now q.board c.args.team.0 t.0 t.2) (d.came zero_status);
    }

pub returns : goal.returns
returns c n h b ready =
    let j = taken_parts n h c.args.image.0 c.args.team c.args.round ready in
    let e : to_z w32 (of_z w32 c.result-status.result) ≡ c.result-status.result = search rules in
    let d = departs n h c.args.parts.now b c.args.image.0 c.args.round j.1 c.result-status.result c.args.team.0 j.0 j.2 c.result-status.ensures in
    let fine = c.is_fine.ensures ∙ ap (λ z. int_eq z (pos 0)) e in
    let zero_status = (Decides-int_eq c.result-status.result (pos 0)).0 (sym fine ∙ c.if-not-is_fine.false) in
    c.taken_by.ensures ∙ ap taken_of (c.in_ok-values.ensures n h b) ∙ d.taken zero_status

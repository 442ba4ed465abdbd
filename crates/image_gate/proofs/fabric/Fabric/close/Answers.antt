use Rattle.std.proofs.Common.{◌≡◌, ◌∙◌, subst, sym, ap, length, refl, List, []}
use Rattle.std.proofs.lemmas.List.{length-map}
use Rattle.trace_theory.specs.Entries.{Each}
use Rattle.turn_gate.specs.Known.{Known}
use Rattle.turn_gate.specs.Closings.{Shutting}
use Rattle.image_gate.specs.Fabrics.{images_to}
use Rattle.image_gate.specs.Closings.{closing_of, IsTaker, HaveBack}
use Rattle.image_gate.proofs.Ends.{takers, board_whole, all_whole, ended, so_many_end}
use Rattle.image_gate.proofs.fabric.Fabric.close.Goals as goal

pub take_all-requires : goal.take_all-requires
take_all-requires g c =
    let n = length c.args.self.gates.memories.items in
    let b : c.closing-board.result ≡ closing_of (images_to n) c.args.self.gates.board = c.closing-board.ensures ∙ ap (λ (p : Known). record { gate = c.args.self.gates.board; images = p.images; back = [] }) c.args.self.board_split in
    subst (λ (z : Shutting g.row.B.Denot × List (Shutting g.row.O.Denot)). Each (IsTaker z.0 z.1) c.args.passes.items) (λ i. (sym b i, sym c.in_ok-closings.ensures i))
    (takers c.args.self.gates.board c.args.self.gates.memories.items n c.args.passes.items refl c.requires.count c.requires.passes)

pub finish_all-requires : goal.finish_all-requires
finish_all-requires g c =
    let n = length c.args.self.gates.memories.items in
    let b : c.closing-board.result ≡ closing_of (images_to n) c.args.self.gates.board = c.closing-board.ensures ∙ ap (λ (p : Known). record { gate = c.args.self.gates.board; images = p.images; back = [] }) c.args.self.board_split in
    let h = subst (λ (z : Shutting g.row.B.Denot × List (Shutting g.row.O.Denot)). HaveBack c.args.passes.items z.0 z.1 c.take_all.new.board c.take_all.new.closings.items) (λ i. (b i, c.in_ok-closings.ensures i)) c.take_all.ensures in
    all_whole c.args.self.gates.board c.args.self.gates.memories.items n c.args.passes.items refl c.requires.count c.requires.passes c.take_all.new.board c.take_all.new.closings.items h

pub finish-requires : goal.finish-requires
finish-requires g c =
    let n = length c.args.self.gates.memories.items in
    let b : c.closing-board.result ≡ closing_of (images_to n) c.args.self.gates.board = c.closing-board.ensures ∙ ap (λ (p : Known). record { gate = c.args.self.gates.board; images = p.images; back = [] }) c.args.self.board_split in
    let h = subst (λ (z : Shutting g.row.B.Denot × List (Shutting g.row.O.Denot)). HaveBack c.args.passes.items z.0 z.1 c.take_all.new.board c.take_all.new.closings.items) (λ i. (b i, c.in_ok-closings.ensures i)) c.take_all.ensures in
    board_whole c.args.self.gates.board c.args.self.gates.memories.items n c.args.passes.items refl c.requires.count c.requires.passes c.take_all.new.board c.take_all.new.closings.items h

pub returns-clause-count : goal.returns-clause-count
returns-clause-count g c =
    let n = length c.args.self.gates.memories.items in
    let b : c.closing-board.result ≡ closing_of (images_to n) c.args.self.gates.board = c.closing-board.ensures ∙ ap (λ (p : Known). record { gate = c.args.self.gates.board; images = p.images; back = [] }) c.args.self.board_split in
    let h = subst (λ (z : Shutting g.row.B.Denot × List (Shutting g.row.O.Denot)). HaveBack c.args.passes.items z.0 z.1 c.take_all.new.board c.take_all.new.closings.items) (λ i. (b i, c.in_ok-closings.ensures i)) c.take_all.ensures in
    so_many_end g.O.Object c.take_all.new.closings.items c.in_ok-memories.memories.items c.in_ok-memories.ensures ∙ h.wide ∙ length-map c.args.self.gates.memories.items (closing_of (images_to n))

pub returns-clause-memories : goal.returns-clause-memories
returns-clause-memories g c k gate o a b' =
    let n = length c.args.self.gates.memories.items in
    let b : c.closing-board.result ≡ closing_of (images_to n) c.args.self.gates.board = c.closing-board.ensures ∙ ap (λ (p : Known). record { gate = c.args.self.gates.board; images = p.images; back = [] }) c.args.self.board_split in
    let h = subst (λ (z : Shutting g.row.B.Denot × List (Shutting g.row.O.Denot)). HaveBack c.args.passes.items z.0 z.1 c.take_all.new.board c.take_all.new.closings.items) (λ i. (b i, c.in_ok-closings.ensures i)) c.take_all.ensures in
    ended c.args.self.gates.board c.args.self.gates.memories.items n c.args.passes.items refl c.requires.count c.requires.passes c.take_all.new.board c.take_all.new.closings.items h g.O.Object c.in_ok-memories.memories.items k gate o c.in_ok-memories.ensures a b'

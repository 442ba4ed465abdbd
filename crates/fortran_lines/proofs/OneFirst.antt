-- Of some faults one is the first.
use Rattle.std.proofs.Common.{◌≡◌, ℕ, List, false, ap, ◌∙◌, arith}
use Rattle.std.proofs.lemmas.List.Elements.{All-contains}
use Rattle.caf_base.specs.declared.place.Pos.{Pos}
use Rattle.fortran_lines.specs.declared.fault.LineFault.{LineFault}
use Rattle.fortran_lines.specs.declared.fault.LineFault.TheVariants.{NotAscii, LineTooLong, DanglingContinuation, OpenLiteral}
use Rattle.fortran_lines.specs.Faults.{is_before, IsFirst, fault_place, rank_of}
use Rattle.fortran_lines.proofs.FirstFaults.{NotBefore, not_before}

same_numbers : (a b c x y z : ℕ) → NotBefore a b c x y z → NotBefore x y z a b c → (a ≡ x) × (b ≡ y) × (c ≡ z)
same_numbers a b c x y z h k = (grind arith, grind arith, grind arith)

same_place : (p q : Pos) → p.line ≡ q.line → p.col ≡ q.col → p ≡ q
same_place p q a b = ap (λ l. let r : Pos = record { line = l; col = p.col } in r) a ∙ ap (λ c. let r : Pos = record { line = q.line; col = c } in r) b

-- a fault is known by its place and its rank
same_fault : (f g : LineFault) → fault_place f ≡ fault_place g → rank_of f ≡ rank_of g → f ≡ g
same_fault (NotAscii p) (NotAscii q) e r = ap NotAscii e
same_fault (LineTooLong p) (LineTooLong q) e r = ap LineTooLong e
same_fault (DanglingContinuation p) (DanglingContinuation q) e r = ap DanglingContinuation e
same_fault (OpenLiteral p) (OpenLiteral q) e r = ap OpenLiteral e
same_fault (NotAscii p) (LineTooLong q) e r = absurd (omega arith)
same_fault (NotAscii p) (DanglingContinuation q) e r = absurd (omega arith)
same_fault (NotAscii p) (OpenLiteral q) e r = absurd (omega arith)
same_fault (LineTooLong p) (NotAscii q) e r = absurd (omega arith)
same_fault (LineTooLong p) (DanglingContinuation q) e r = absurd (omega arith)
same_fault (LineTooLong p) (OpenLiteral q) e r = absurd (omega arith)
same_fault (DanglingContinuation p) (NotAscii q) e r = absurd (omega arith)
same_fault (DanglingContinuation p) (LineTooLong q) e r = absurd (omega arith)
same_fault (DanglingContinuation p) (OpenLiteral q) e r = absurd (omega arith)
same_fault (OpenLiteral p) (NotAscii q) e r = absurd (omega arith)
same_fault (OpenLiteral p) (LineTooLong q) e r = absurd (omega arith)
same_fault (OpenLiteral p) (DanglingContinuation q) e r = absurd (omega arith)

pub one_first : (faults : List LineFault) (f g : LineFault) → IsFirst faults f → IsFirst faults g → f ≡ g
one_first faults f g h k =
    let later = All-contains (λ z. is_before z f ≡ false) faults g h.first k.one in
    let earlier = All-contains (λ z. is_before z g ≡ false) faults f k.first h.one in
    let one = not_before (fault_place f).line (fault_place f).col (rank_of f) (fault_place g).line (fault_place g).col (rank_of g) earlier in
    let two = not_before (fault_place g).line (fault_place g).col (rank_of g) (fault_place f).line (fault_place f).col (rank_of f) later in
    let same = same_numbers (fault_place f).line (fault_place f).col (rank_of f) (fault_place g).line (fault_place g).col (rank_of g) one two in
    same_fault f g (same_place (fault_place f) (fault_place g) same.0 same.1) same.2

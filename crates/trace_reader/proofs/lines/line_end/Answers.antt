use Rattle.std.proofs.Common.{◌≡◌, ℕ, suc, ◌+◌, List, [], ◌∷◌, length, take, drop, refl, ap, sym}
use Rattle.std.proofs.Common.{◌∙◌, arith, take_all}
use Rattle.trace_forms.specs.Files.{lines_of}
use Rattle.trace_reader.proofs.Feeds.{feed_here, no_feed}
use Rattle.trace_reader.proofs.lines.line_end.Goals as goal

drop_all : (xs : List ℕ) → drop (length xs) xs ≡ []
drop_all [] = refl
drop_all (x ∷ xs) = drop_all xs

next : (bytes : List ℕ) (k : ℕ) → take (suc k) bytes ∷ lines_of (drop (suc k) bytes)
    ≡ take (k + 1) bytes ∷ lines_of (drop (k + 1) bytes)
next bytes k = let e : suc k ≡ k + 1 = omega arith in ap (λ j. take j bytes ∷ lines_of (drop j bytes)) e

pub returns-clause-first : goal.returns-clause-first
returns-clause-first c =
    let bytes = c.args.bytes.now in
    no_feed bytes c.requires (λ j l. c.loop-k.invariant j (omega arith)) ∙ (λ i. sym (take_all
    (length bytes) bytes (omega arith)) i ∷ lines_of (sym (drop_all bytes) i))

pub returns-then-bytes-k-eq10-clause-first : goal.returns-then-bytes-k-eq10-clause-first
returns-then-bytes-k-eq10-clause-first c =
    let bytes = c.args.bytes.now in
    let k = c.loop-k.k in
    feed_here bytes k (omega arith) c.if-bytes-k-eq10.true c.loop-k.invariant ∙ next bytes k

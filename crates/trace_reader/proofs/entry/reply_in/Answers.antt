use Rattle.std.proofs.Common.{◌≡◌, ℕ, suc, ◌-◌, List, [], ◌∷◌, ◌++◌, length, take, drop, refl, ap}
use Rattle.std.proofs.Common.{◌∙◌, arith, codes, length-append}
use Rattle.trace_text.specs.TraceText.{reply_text}
use Rattle.trace_reader.proofs.entry.reply_in.Goals as goal

take_front : (xs ys : List ℕ) (k : ℕ) → k ≡ length xs → take k (xs ++ ys) ≡ xs
take_front [] ys k is = ap (λ j. take j ys) is
take_front (x ∷ xs) ys k is = ap (λ j. take j ((x ∷ xs) ++ ys)) is ∙ ap (λ z. x ∷ z) (take_front xs ys (length xs) refl)

-- between the sign and the line feed
between : (text end : List ℕ) → end ≡ codes "> " ++ text ++ codes "\n"
    → take ((length end - 1) - 2) (drop 2 end) ≡ text
between text end e =
    let n : length end ≡ suc (suc (length (text ++ codes "\n"))) = ap length e in
    let m : (length end - 1) - 2 ≡ length text = omega (arith, n, length-append text (codes "\n")) in
    ap (λ z. take ((length end - 1) - 2) (drop 2 z)) e ∙ take_front text (codes "\n") ((length end - 1) - 2) m

pub returns-then-end-lt3 : goal.returns-then-end-lt3
returns-then-end-lt3 c reply e =
    let n : length c.args.end.now ≡ suc (suc (length (reply_text reply ++ codes "\n"))) = ap length e in
    absurd (omega (arith, n, length-append (reply_text reply) (codes "\n")))

pub returns : goal.returns
returns c reply e = between (reply_text reply) c.args.end.now e

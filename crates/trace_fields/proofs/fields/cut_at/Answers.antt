use Rattle.std.proofs.Common.{◌≡◌, ℕ, suc, ◌+◌, ◌-◌, ◌<◌, ◌∷◌, ◌++◌, inl, inr, List, [], length, take, drop}
use Rattle.std.proofs.Common.{get_or, refl, ap, sym, ◌∙◌, arith, length-drop, take_all}
use Rattle.std.specs.List.{list_all}
use Rattle.trace_fields.specs.Cutting.{other}
use Rattle.trace_fields.proofs.Cut.{around}
use Rattle.trace_fields.proofs.fields.cut_at.Goals as goal

rest_is : (t : List ℕ) (k : ℕ) → k < length t → take (length t - (k + 1)) (drop (k + 1) t) ≡ drop (suc k) t
rest_is t k h =
    let e : k + 1 ≡ suc k = omega arith in
    let n : length t - (k + 1) ≡ length (drop (k + 1) t) = sym (length-drop (k + 1) t) in
    ap (λ j. take j (drop (k + 1) t)) n ∙ take_all (length (drop (k + 1) t)) (drop (k + 1) t) (omega arith) ∙ ap
    (λ j. drop j t) e

-- a byte of the text, with what is around it
pub at_byte : (byte : ℕ) (text : List ℕ) (k : ℕ) → k < length text → get_or text k 0 ≡ byte → text
    ≡ take k text ++ (byte ∷ take (length text - (k + 1)) (drop (k + 1) text))
at_byte byte text k h is = sym (around text k h) ∙ ap (λ b. take k text ++ (b ∷ drop (suc k) text)) is ∙ ap
    (λ z. take k text ++ (byte ∷ z)) (sym (rest_is text k h))

none_left : (text : List ℕ) → take (length text - length text) (drop (length text) text) ≡ []
none_left [] = refl
none_left (x ∷ xs) = let n : length (x ∷ xs) - length (x ∷ xs) ≡ 0 = omega arith in ap (λ j. take j (drop (length
    (x ∷ xs)) (x ∷ xs))) n

pub returns-then-text-k : goal.returns-then-text-k
returns-then-text-k c =
    let text = c.args.text.now in
    let k = c.loop-k.k in
    record { clean = c.loop-k.invariant; place = inl (at_byte c.args.byte text k (omega arith) c.if-text-k.true) }

pub returns : goal.returns
returns c =
    let text = c.args.text.now in
    let all : take c.loop-k.k text ≡ text = take_all c.loop-k.k text c.loop-k-test.false in
    record {
      clean = ap (list_all (other c.args.byte)) (sym all) ∙ c.loop-k.invariant;
      place = inr
          (refl, none_left text);
    }

-- What comparisons say of lists and records.
use Rattle.std.proofs.Common.{◌≡◌, ℕ, ℤ, Bool, true, false, ◌&&◌, nat_eq, refl, ap, sym, ◌∙◌, true≢false, Decides}
use Rattle.std.specs.Ordering.{int_eq}
use Rattle.std.specs.Cmp.Lexicographic.{pointwise, pointwise_decides}
use Rattle.std.specs.Cmp.{unsigned_Decides, signed_Decides}
use Rattle.caf_base.specs.declared.place.ImageNo.{ImageNo}
use Rattle.caf_base.specs.declared.span.Span.{Span}
use Rattle.caf_base.specs.declared.value.Value.{Value}
use Rattle.caf_base.specs.declared.value.Value.TheVariants as values
use Rattle.caf_base.specs.contracts.value.ValuePartialEq.TheImpl.{ghosts as value_ghosts}
use Rattle.caf_base.specs.contracts.span.SpanPartialEq.TheImpl.{ghosts as span_ghosts}
use Rattle.caf_base.specs.contracts.place.ImageNoPartialEq.TheImpl.{ghosts as image_ghosts}
use Rattle.caf_events.specs.declared.round.Allotted.{Allotted}
use Rattle.caf_events.specs.contracts.round.AllottedPartialEq.TheImpl.{ghosts as allotted_ghosts}

first : (a b : Bool) → (a && b) ≡ true → a ≡ true
first true b h = refl
first false b h = h

second : (a b : Bool) → (a && b) ≡ true → b ≡ true
second true b h = h
second false b h = absurd (true≢false (sym h))

both : (a b : Bool) → a ≡ true → b ≡ true → (a && b) ≡ true
both a b p q = ap (λ x. x && b) p ∙ q

bool_decides : (a b : Bool) → Decides (value_ghosts.eq (values.Bool a) (values.Bool b))
    (values.Bool a ≡ values.Bool b)
bool_decides true true = (λ h. refl, λ h. refl)
bool_decides false false = (λ h. refl, λ h. refl)
bool_decides true false = (λ h. absurd (true≢false (sym h)), λ h. absurd (cc))
bool_decides false true = (λ h. absurd (true≢false (sym h)), λ h. absurd (cc))

pub value_decides : (a b : Value) → Decides (value_ghosts.eq a b) (a ≡ b)
value_decides (values.Int x) (values.Int y) = let d = signed_Decides x y in
    (λ h. ap values.Int (d.0 h), λ e. let k : x ≡ y = cc in d.1 k)
value_decides (values.Bool a) (values.Bool b) = bool_decides a b
value_decides (values.Int x) (values.Bool b) = (λ h. absurd (true≢false (sym h)), λ e. absurd (cc))
value_decides (values.Bool a) (values.Int y) = (λ h. absurd (true≢false (sym h)), λ e. absurd (cc))

pub image_decides : (a b : ImageNo) → Decides (image_ghosts.eq a b) (a ≡ b)
image_decides a b = let d = unsigned_Decides a.0 b.0 in
    (λ h. (let k = d.0 h in λ i. record { 0 = k i }), λ e. d.1 (ap (λ x. x.0) e))

dim_decides : (a b : ℕ × ℤ) → Decides (nat_eq a.0 b.0 && int_eq a.1 b.1) (a ≡ b)
dim_decides a b =
    let d = unsigned_Decides a.0 b.0 in
    let f = signed_Decides a.1 b.1 in (
      λ h. (let x = d.0 (first (nat_eq a.0 b.0) _ h) in let y = f.0 (second (nat_eq a.0 b.0) _ h) in λ i. (x i, y i)),
      λ e. both (nat_eq a.0 b.0) (int_eq a.1 b.1) (d.1 (ap (λ x. x.0) e)) (f.1 (ap (λ x. x.1) e)),
    )

pub span_decides : (a b : Span) → Decides (span_ghosts.eq a b) (a ≡ b)
span_decides a b =
    let c = unsigned_Decides a.coarray b.coarray in
    let s = unsigned_Decides a.start b.start in
    let d = pointwise_decides dim_decides a.dims b.dims in (
      λ h. (
          let x = c.0 (first (nat_eq a.coarray b.coarray) _ h) in
          let t = second (nat_eq a.coarray b.coarray) _ h in
          let y = s.0 (first (nat_eq a.start b.start) _ t) in
          let z = d.0 (second (nat_eq a.start b.start) _ t) in
          λ i. record { coarray = x i; start = y i; dims = z i }),
      λ e. both (nat_eq a.coarray b.coarray) _ (c.1 (ap (λ x. x.coarray) e))
          (both (nat_eq a.start b.start) _ (s.1 (ap (λ x. x.start) e)) (d.1 (ap (λ x. x.dims) e))),
    )

bound_decides : (a b : ℤ × ℤ) → Decides (int_eq a.0 b.0 && int_eq a.1 b.1) (a ≡ b)
bound_decides a b =
    let d = signed_Decides a.0 b.0 in
    let f = signed_Decides a.1 b.1 in (
      λ h. (let x = d.0 (first (int_eq a.0 b.0) _ h) in let y = f.0 (second (int_eq a.0 b.0) _ h) in λ i. (x i, y i)),
      λ e. both (int_eq a.0 b.0) (int_eq a.1 b.1) (d.1 (ap (λ x. x.0) e)) (f.1 (ap (λ x. x.1) e)),
    )

pub allotted_decides : (a b : Allotted) → Decides (allotted_ghosts.eq a b) (a ≡ b)
allotted_decides a b =
    let c = unsigned_Decides a.coarray b.coarray in
    let d = pointwise_decides bound_decides a.dims b.dims in
    let k = pointwise_decides bound_decides a.codims b.codims in
    let l = signed_Decides a.last b.last in (
      λ h. (
          let x = c.0 (first (nat_eq a.coarray b.coarray) _ h) in
          let t = second (nat_eq a.coarray b.coarray) _ h in
          let y = d.0 (first (pointwise _ a.dims b.dims) _ t) in
          let u = second (pointwise _ a.dims b.dims) _ t in
          let z = k.0 (first (pointwise _ a.codims b.codims) _ u) in
          let w = l.0 (second (pointwise _ a.codims b.codims) _ u) in
          λ i. record { coarray = x i; dims = y i; codims = z i; last = w i }),
      λ e. both (nat_eq a.coarray b.coarray) _ (c.1 (ap (λ x. x.coarray) e))
          (both (pointwise _ a.dims b.dims) _ (d.1 (ap (λ x. x.dims) e))
          (both (pointwise _ a.codims b.codims) _ (k.1 (ap (λ x. x.codims) e)) (l.1 (ap (λ x. x.last) e)))),
    )

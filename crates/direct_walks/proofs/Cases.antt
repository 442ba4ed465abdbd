-- The tests of case value ranges (ISO/IEC 1539-1:2018, 11.1.9.2) on a value that stands in a cell.
use Rattle.std.proofs.Common.{◌≡◌, refl, ap, sym, subst, ◌∙◌, ℕ, ℤ, pos, Bool, true, false, ◌&&◌, ◌||◌, int_le, List, [], ◌∷◌, ◌++◌, Option, Some}
use Rattle.std.specs.Ordering.{int_eq}
use Rattle.caf_base.specs.Arithmetic.{truth, is_true}
use Rattle.checked_tree.specs.declared.statement.CaseRange.{CaseRange}
use Rattle.checked_tree.specs.declared.statement.CaseRange.TheVariants as ranges
use Rattle.image_acts.specs.Acts as a
use Rattle.image_acts.specs.Acts.{Act, here, constant, variable, operator}
use Rattle.image_acts.specs.Core.{Core, pushed}
use Rattle.image_acts.specs.Frames.{cell_in}
use Rattle.image_acts.specs.Taking.{given, giving}
use Rattle.image_acts.specs.Meaning.{settled, effect_of}
use Rattle.tree_meaning.specs.Sequences.{doing}
use Rattle.tree_meaning.specs.Forms as walk
use Rattle.tree_meaning.specs.Forms.{compared, in_more_ranges, in_ranges}
use Rattle.direct_meaning.specs.Outcomes.{Outcome, done, faults as faulty, asks as asked, over, unsaid, and_then}
use Rattle.direct_meaning.specs.Told.{of_effect, told}
use Rattle.direct_meaning.specs.Statements.{in_range, in_some}

-- truth values as numbers
pub true_back : (b : Bool) → is_true (truth b) ≡ b
true_back true = refl
true_back false = refl

or_none : (b : Bool) → b ≡ (b || false)
or_none true = refl
or_none false = refl

or_more : (a b d : Bool) → ((a || b) || d) ≡ (a || (b || d))
or_more true b d = refl
or_more false b d = refl

-- acts that come to a core, and then others
acts_from : (xs ys : List Act) (l : ℕ) (d : Core) (o : Outcome Core)
    → ((c : Core) → told (doing xs) l c ≡ done d → told (doing (xs ++ ys)) l c ≡ told (doing ys) l d)
    → and_then o (told (doing xs) l) ≡ done d → and_then o (told (doing (xs ++ ys)) l) ≡ told (doing ys) l d
acts_from xs ys l d (done c) more h = more c h
acts_from xs ys l d (faulty k j z) more h = absurd (cc)
acts_from xs ys l d (asked q j z f) more h = absurd (cc)
acts_from xs ys l d (over z) more h = absurd (cc)
acts_from xs ys l d unsaid more h = absurd (cc)

acts_then : (xs ys : List Act) (l : ℕ) (d c : Core) → told (doing xs) l c ≡ done d → told (doing (xs ++ ys)) l c ≡ told (doing ys) l d
acts_then [] ys l d c h = ap (λ o. and_then o (told (doing ys) l)) h
acts_then (x ∷ xs) ys l d c h = acts_from xs ys l d (of_effect l c (effect_of x c)) (acts_then xs ys l d) h

module _ (x : ℕ) (v : ℤ) (l : ℕ) where
  -- the value is put down
  value_then : (k : Core → Outcome Core) (c : Core) → cell_in here x c ≡ Some v
      → and_then (of_effect l c (effect_of (variable (a.cell here x)) c)) k ≡ k (pushed v c)
  value_then k c h = ap (λ o. and_then (of_effect l c (settled (variable (a.cell here x)) (given o (λ w. giving w c)))) k) h

  compared_equal : (w : ℤ) (c : Core) → cell_in here x c ≡ Some v
      → told (doing (compared x w a.equal)) l c ≡ done (pushed (truth (int_eq v w)) c)
  compared_equal w c h = value_then (told (doing (constant w ∷ operator a.equal ∷ [])) l) c h

  compared_least : (w : ℤ) (c : Core) → cell_in here x c ≡ Some v
      → told (doing (compared x w a.at_least)) l c ≡ done (pushed (truth (int_le w v)) c)
  compared_least w c h = value_then (told (doing (constant w ∷ operator a.at_least ∷ [])) l) c h

  compared_most : (w : ℤ) (c : Core) → cell_in here x c ≡ Some v
      → told (doing (compared x w a.at_most)) l c ≡ done (pushed (truth (int_le v w)) c)
  compared_most w c h = value_then (told (doing (constant w ∷ operator a.at_most ∷ [])) l) c h

  range_told : (r : CaseRange) (c : Core) → cell_in here x c ≡ Some v
      → told (doing (walk.in_range x r)) l c ≡ done (pushed (truth (in_range v r)) c)
  range_told (ranges.Value w) c h = compared_equal w c h
  range_told (ranges.AtLeast w) c h = compared_least w c h
  range_told (ranges.AtMost w) c h = compared_most w c h
  range_told (ranges.Between w u) c h =
      let B : List Act = operator a.both ∷ [] in
      acts_then (compared x w a.at_least) (compared x u a.at_most ++ B) l (pushed (truth (int_le w v)) c) c (compared_least w c h)
      ∙ acts_then (compared x u a.at_most) B l (pushed (truth (int_le v u)) (pushed (truth (int_le w v)) c)) (pushed (truth (int_le w v)) c)
      (compared_most u (pushed (truth (int_le w v)) c) h)
      ∙ ap (λ b. done (pushed (truth (b && is_true (truth (int_le v u)))) c)) (true_back (int_le w v))
      ∙ ap (λ b. done (pushed (truth (int_le w v && b)) c)) (true_back (int_le v u))

  more_told : (rs : List CaseRange) (b : Bool) (c : Core) → cell_in here x c ≡ Some v
      → told (doing (in_more_ranges x rs)) l (pushed (truth b) c) ≡ done (pushed (truth (b || in_some v rs)) c)
  more_told [] b c h = ap (λ d. done (pushed (truth d) c)) (or_none b)
  more_told (r ∷ rs) b c h =
      let q : Bool = in_range v r in
      acts_then (walk.in_range x r) (operator a.any_of ∷ in_more_ranges x rs) l (pushed (truth q) (pushed (truth b) c)) (pushed (truth b) c)
      (range_told r (pushed (truth b) c) h)
      ∙ ap (λ d. told (doing (in_more_ranges x rs)) l (pushed (truth (d || is_true (truth q))) c)) (true_back b)
      ∙ ap (λ d. told (doing (in_more_ranges x rs)) l (pushed (truth (b || d)) c)) (true_back q)
      ∙ more_told rs (b || q) c h
      ∙ ap (λ d. done (pushed (truth d) c)) (or_more b q (in_some v rs))

  -- whether a value is in some of the ranges
  pub ranges_told : (rs : List CaseRange) (c : Core) → cell_in here x c ≡ Some v
      → told (doing (in_ranges x rs)) l c ≡ done (pushed (truth (in_some v rs)) c)
  ranges_told [] c h = refl
  ranges_told (r ∷ rs) c h =
      acts_then (walk.in_range x r) (in_more_ranges x rs) l (pushed (truth (in_range v r)) c) c (range_told r c h)
      ∙ more_told rs (in_range v r) c h

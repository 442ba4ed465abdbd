-- Parts that are judged together under the same rules.
use Rattle.std.proofs.Common.{◌≡◌, refl, ap, ◌∙◌, sym}
use Rattle.std.specs.Prelude.{Bool, true, false, cond, List, ◌++◌, Option, Some, None}
use Rattle.std.proofs.lemmas.List.{append_assoc}
use Rattle.rule_definitions.specs.declared.broken.Broken.{Broken}
use Rattle.rule_definitions.specs.Judgements.{Judgement, is_nothing, ruled, both, three, made_of_both, made_of_three}
use Rattle.rule_definitions.specs.IntrinsicSubroutines.{four}

module _ {A C D P R : Type 0} (pair : C → D → P) (f : A → C → D → R) (g : A → P → R) (is_f : (x : A) (y : C) (z : D) → g x (pair y z) ≡ f x y z) where
  three_as_both : (h : Bool) (x : Option A) (y : Option C) (z : Option D) → cond h (three f x y z) None ≡ both g x (cond h (both pair y z) None)
  three_as_both true (Some x) (Some y) (Some z) = sym (ap Some (is_f x y z))
  three_as_both true (Some x) (Some y) None = refl
  three_as_both true (Some x) None z = refl
  three_as_both true None y z = refl
  three_as_both false (Some x) y z = refl
  three_as_both false None y z = refl

  -- three parts, of which the last two are judged together
  pub three_breaks : (a : Judgement A) (c : Judgement C) (d : Judgement D) (bs : List Broken)
      → (ruled (made_of_three f a c d) bs).breaks ≡ (made_of_both g a (ruled (made_of_both pair c d) bs)).breaks
  three_breaks a c d bs = append_assoc a.breaks (c.breaks ++ d.breaks) bs

  pub three_meaning : (a : Judgement A) (c : Judgement C) (d : Judgement D) (bs : List Broken)
      → (ruled (made_of_three f a c d) bs).meaning ≡ (made_of_both g a (ruled (made_of_both pair c d) bs)).meaning
  three_meaning a c d bs = three_as_both (is_nothing bs) a.meaning c.meaning d.meaning

module _ {A B C D P R : Type 0} (pair : C → D → P) (f : A → B → C → D → R) (g : A → B → P → R) (is_f : (w : A) (x : B) (y : C) (z : D) → g w x (pair y z) ≡ f w x y z) where
  four_as_three : (h : Bool) (w : Option A) (x : Option B) (y : Option C) (z : Option D)
      → cond h (both (λ k z'. k z') (three f w x y) z) None ≡ three g w x (cond h (both pair y z) None)
  four_as_three true (Some w) (Some x) (Some y) (Some z) = sym (ap Some (is_f w x y z))
  four_as_three true (Some w) (Some x) (Some y) None = refl
  four_as_three true (Some w) (Some x) None z = refl
  four_as_three true (Some w) None y z = refl
  four_as_three true None x y z = refl
  four_as_three false (Some w) (Some x) y z = refl
  four_as_three false (Some w) None y z = refl
  four_as_three false None x y z = refl

  -- four parts, of which the last two are judged together
  pub four_breaks : (a : Judgement A) (b : Judgement B) (c : Judgement C) (d : Judgement D) (bs : List Broken)
      → (ruled (four f a b c d) bs).breaks ≡ (made_of_three g a b (ruled (made_of_both pair c d) bs)).breaks
  four_breaks a b c d bs =
      append_assoc (a.breaks ++ (b.breaks ++ c.breaks)) d.breaks bs
      ∙ append_assoc a.breaks (b.breaks ++ c.breaks) (d.breaks ++ bs)
      ∙ ap (λ xs. a.breaks ++ xs) (append_assoc b.breaks c.breaks (d.breaks ++ bs) ∙ ap (λ xs. b.breaks ++ xs) (sym (append_assoc c.breaks d.breaks bs)))

  pub four_meaning : (a : Judgement A) (b : Judgement B) (c : Judgement C) (d : Judgement D) (bs : List Broken)
      → (ruled (four f a b c d) bs).meaning ≡ (made_of_three g a b (ruled (made_of_both pair c d) bs)).meaning
  four_meaning a b c d bs = four_as_three (is_nothing bs) a.meaning b.meaning c.meaning d.meaning

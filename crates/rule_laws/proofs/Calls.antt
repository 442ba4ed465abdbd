-- Expressions that reference no function of the program, or stand in a scope where each has a typed result.
use Rattle.std.proofs.Common.{◌≡◌, Bool, true, false, ◌⊎◌, inl, inr, refl}
use Rattle.std.specs.Prelude.{not, ◌&&◌, ◌||◌}
use Rattle.fortran_tree.specs.Expressions as f
use Rattle.rule_definitions.specs.Names.{Scope, denotes}
use Rattle.rule_definitions.specs.Declarations.{is_function, has_brackets, is_huge, is_argument_inquired, is_subscript_inquired, lacks_value, designator_lacks_value, argument_lacks_value, item_lacks_value, subscript_lacks_value, part_lacks_value, bound_lacks_value, selector_lacks_value, specifier_lacks_value}
use Rattle.rule_laws.proofs.Known.{IsTypedScope}

abbrev mutual
  pub calls : Scope → f.Expression → Bool
  calls s (f.number n k p) = false
  calls s (f.logical b p) = false
  calls s (f.designator d) = designator_calls s d
  calls s (f.function_reference n xs) = is_function (denotes s n.text) || argument_calls s xs
  calls s (f.parenthesized e p) = calls s e
  calls s (f.array_constructor es p) = item_calls s es
  calls s (f.prefix o e p) = calls s e
  calls s (f.binary o a b p) = calls s a || calls s b

  pub designator_calls : Scope → f.Designator → Bool
  designator_calls s (f.part_ref n ss c) = (is_function (denotes s n.text) && has_brackets ss) || (subscript_calls s ss || selector_calls s c)

  pub argument_calls : Scope → f.Arguments → Bool
  argument_calls s f.no_arguments = false
  argument_calls s (f.more_arguments k e rest) = calls s e || argument_calls s rest

  pub item_calls : Scope → f.Expressions → Bool
  item_calls s f.no_expressions = false
  item_calls s (f.more_expressions e rest) = calls s e || item_calls s rest

  pub subscript_calls : Scope → f.SectionSubscripts → Bool
  subscript_calls s f.no_section_subscripts = false
  subscript_calls s (f.more_section_subscripts x rest) = part_calls s x || subscript_calls s rest

  pub part_calls : Scope → f.SectionSubscript → Bool
  part_calls s (f.subscript e) = calls s e
  part_calls s (f.triplet a b c p) = bound_calls s a || (bound_calls s b || bound_calls s c)

  pub bound_calls : Scope → f.OptionalExpression → Bool
  bound_calls s f.missing = false
  bound_calls s (f.given e) = calls s e

  pub selector_calls : Scope → f.ImageSelector → Bool
  selector_calls s f.no_image_selector = false
  selector_calls s (f.image_selector es ps) = item_calls s es || specifier_calls s ps

  pub specifier_calls : Scope → f.Specifiers → Bool
  specifier_calls s f.no_specifiers = false
  specifier_calls s (f.more_specifiers n e rest) = calls s e || specifier_calls s rest

abbrev pub IsFree : Scope → Bool → Type 0
IsFree s b = (b ≡ false) ⊎ IsTypedScope s

pub or_left : (a b : Bool) → a || b ≡ false → a ≡ false
or_left true true e = e
or_left true false e = e
or_left false b e = refl

pub or_right : (a b : Bool) → a || b ≡ false → b ≡ false
or_right true true e = e
or_right false true e = e
or_right a false e = refl

pub free_left : (s : Scope) (a b : Bool) → IsFree s (a || b) → IsFree s a
free_left s a b (inl e) = inl (or_left a b e)
free_left s a b (inr t) = inr t

pub free_right : (s : Scope) (a b : Bool) → IsFree s (a || b) → IsFree s b
free_right s a b (inl e) = inl (or_right a b e)
free_right s a b (inr t) = inr t

or_none : (a b : Bool) → a ≡ false → b ≡ false → a || b ≡ false
or_none true b e f = e
or_none false true e f = f
or_none false false e f = refl

-- what lacks no value references no function of the program
mutual
  pub lacks_calls : (s : Scope) (e : f.Expression) → lacks_value s e ≡ false → calls s e ≡ false
  lacks_calls s (f.number n k p) h = refl
  lacks_calls s (f.logical b p) h = refl
  lacks_calls s (f.designator d) h = designator_lacks s d h
  lacks_calls s (f.function_reference n xs) h =
      let b = is_function (denotes s n.text) in
      let c = is_huge (denotes s n.text) && not (is_argument_inquired s xs) in
      or_none b (argument_calls s xs) (or_left b c (or_left (b || c) (argument_lacks_value s xs) h)) (arguments_lack s xs (or_right (b || c) (argument_lacks_value s xs) h))
  lacks_calls s (f.parenthesized e p) h = lacks_calls s e h
  lacks_calls s (f.array_constructor es p) h = items_lack s es h
  lacks_calls s (f.prefix o e p) h = lacks_calls s e h
  lacks_calls s (f.binary o a b p) h = or_none (calls s a) (calls s b) (lacks_calls s a (or_left (lacks_value s a) (lacks_value s b) h)) (lacks_calls s b (or_right (lacks_value s a) (lacks_value s b) h))

  designator_lacks : (s : Scope) (d : f.Designator) → designator_lacks_value s d ≡ false → designator_calls s d ≡ false
  designator_lacks s (f.part_ref n ss c) h =
      let a = is_function (denotes s n.text) && has_brackets ss in
      let b = is_huge (denotes s n.text) && not (is_subscript_inquired s ss) in
      let x = subscript_lacks_value s ss in
      let y = selector_lacks_value s c in
      let r = or_right (a || b) (x || y) h in
      or_none a (subscript_calls s ss || selector_calls s c) (or_left a b (or_left (a || b) (x || y) h)) (or_none (subscript_calls s ss) (selector_calls s c) (subscripts_lack s ss (or_left x y r)) (selector_lacks s c (or_right x y r)))

  arguments_lack : (s : Scope) (xs : f.Arguments) → argument_lacks_value s xs ≡ false → argument_calls s xs ≡ false
  arguments_lack s f.no_arguments h = refl
  arguments_lack s (f.more_arguments k e rest) h = or_none (calls s e) (argument_calls s rest) (lacks_calls s e (or_left (lacks_value s e) (argument_lacks_value s rest) h)) (arguments_lack s rest (or_right (lacks_value s e) (argument_lacks_value s rest) h))

  items_lack : (s : Scope) (es : f.Expressions) → item_lacks_value s es ≡ false → item_calls s es ≡ false
  items_lack s f.no_expressions h = refl
  items_lack s (f.more_expressions e rest) h = or_none (calls s e) (item_calls s rest) (lacks_calls s e (or_left (lacks_value s e) (item_lacks_value s rest) h)) (items_lack s rest (or_right (lacks_value s e) (item_lacks_value s rest) h))

  subscripts_lack : (s : Scope) (ss : f.SectionSubscripts) → subscript_lacks_value s ss ≡ false → subscript_calls s ss ≡ false
  subscripts_lack s f.no_section_subscripts h = refl
  subscripts_lack s (f.more_section_subscripts x rest) h = or_none (part_calls s x) (subscript_calls s rest) (part_lacks s x (or_left (part_lacks_value s x) (subscript_lacks_value s rest) h)) (subscripts_lack s rest (or_right (part_lacks_value s x) (subscript_lacks_value s rest) h))

  part_lacks : (s : Scope) (x : f.SectionSubscript) → part_lacks_value s x ≡ false → part_calls s x ≡ false
  part_lacks s (f.subscript e) h = lacks_calls s e h
  part_lacks s (f.triplet a b c p) h =
      let x = bound_lacks_value s a in
      let y = bound_lacks_value s b in
      let z = bound_lacks_value s c in
      let r = or_right x (y || z) h in
      or_none (bound_calls s a) (bound_calls s b || bound_calls s c) (bound_lacks s a (or_left x (y || z) h)) (or_none (bound_calls s b) (bound_calls s c) (bound_lacks s b (or_left y z r)) (bound_lacks s c (or_right y z r)))

  bound_lacks : (s : Scope) (o : f.OptionalExpression) → bound_lacks_value s o ≡ false → bound_calls s o ≡ false
  bound_lacks s f.missing h = refl
  bound_lacks s (f.given e) h = lacks_calls s e h

  selector_lacks : (s : Scope) (c : f.ImageSelector) → selector_lacks_value s c ≡ false → selector_calls s c ≡ false
  selector_lacks s f.no_image_selector h = refl
  selector_lacks s (f.image_selector es ps) h = or_none (item_calls s es) (specifier_calls s ps) (items_lack s es (or_left (item_lacks_value s es) (specifier_lacks_value s ps) h)) (specifiers_lack s ps (or_right (item_lacks_value s es) (specifier_lacks_value s ps) h))

  specifiers_lack : (s : Scope) (ps : f.Specifiers) → specifier_lacks_value s ps ≡ false → specifier_calls s ps ≡ false
  specifiers_lack s f.no_specifiers h = refl
  specifiers_lack s (f.more_specifiers n e rest) h = or_none (calls s e) (specifier_calls s rest) (lacks_calls s e (or_left (lacks_value s e) (specifier_lacks_value s rest) h)) (specifiers_lack s rest (or_right (lacks_value s e) (specifier_lacks_value s rest) h))

-- No statement that begins with a keyword has `=` behind its first token and the bracket groups there; an assignment
-- has. So no text is both.
use Rattle.std.proofs.Common.{◌≡◌, ℕ, zero, suc, Bool, true, false, cond, codes, List, [], ◌∷◌, ◌++◌, Option, Some, None, inl, inr, refl, ap, sym, ◌∙◌, subst}
use Rattle.std.proofs.lemmas.Bool.{true≢false, false≢true}
use Rattle.reader_theory.specs.Words.{Mark, bare}
use Rattle.reader_theory.specs.Levels.{mark}
use Rattle.reader_theory.proofs.Marks.{regroup}
use Rattle.fortran_tokens.specs.declared.token.Sign.TheVariants as sign
use Rattle.fortran_tree.specs.declared.name.Name.{Name}
use Rattle.fortran_tree.specs.declared.expr.Operator.{Operator}
use Rattle.fortran_tree.specs.declared.expr.Operator.TheVariants as operators
use Rattle.fortran_tree.specs.declared.expr.PrefixOperator.{PrefixOperator}
use Rattle.fortran_tree.specs.declared.expr.PrefixOperator.TheVariants as prefixes
use Rattle.fortran_tree.specs.Expressions as s
use Rattle.fortran_tree.specs.Expressions.{Expression, Designator, SectionSubscripts, ImageSelector, Specifiers}
use Rattle.fortran_tree.specs.Statements as st
use Rattle.fortran_tree.specs.Statements.{ActionStatement, Bounds, Dimension, CoarraySpec, Allocation, Format, Item}
use Rattle.fortran_grammar.specs.Tokens as t
use Rattle.fortran_grammar.specs.Tokens.{Tok, Token}
use Rattle.fortran_grammar.specs.Phrases as p
use Rattle.fortran_grammar.specs.Phrases.{Phrase, Words, ◌▸◌}
use Rattle.fortran_grammar.specs.ExpressionGrammar as g
use Rattle.fortran_grammar.specs.ActionGrammar as a
use Rattle.expr_reader.specs.Tests.{is_sign, is_sign_tok}
use Rattle.statement_reader.specs.Keywords.{is_keyword_action}
use Rattle.statement_reader.specs.Skipping.{opens_tok, groups, begins_equals, assigns_first}
use Rattle.statement_reader.proofs.Skipping.{Skipped, none, flat, joint, sign_flat, round_group, square_group, expr, exprs, designator, more_specifiers, operator_flat, prefix_flat, truth_flat, assignment_assigns}

-- What stands in brackets is skipped whole.
pub name_flat : (n : Name) (l d : ℕ) (w : List (Mark Token)) → Words (p.name n) l d w → Skipped w
name_flat n l d w h = flat l d (record { tok = t.word n.text; at = n.at }) w h refl refl

pub skipped_lower : (o : Option Expression) (l d : ℕ) (w : List (Mark Token)) → Words (p.optional a.lower_bound o) l d w → Skipped w
skipped_lower None l d w h = none w h
skipped_lower (Some e) l d w (u, v, h, c, split) = joint u v w (expr e l d u h) (sign_flat l d sign.Colon v refl refl c) split

pub skipped_bounds : (b : Bounds) (l d : ℕ) (w : List (Mark Token)) → Words (a.bounds b) l d w → Skipped w
skipped_bounds b l d w (u, v, h, k, split) = joint u v w (skipped_lower b.lower l d u h) (expr b.upper l d v k) split

pub skipped_dimension : (x : Dimension) (l d : ℕ) (w : List (Mark Token)) → Words (a.dimension x) l d w → Skipped w
skipped_dimension (st.explicit b) l d w h = skipped_bounds b l d w h
skipped_dimension (st.deferred at) l d w (f, h) = sign_flat l d sign.Colon w refl refl h

module _ {A : Type 0} (X : A → Phrase) (l d : ℕ) (x : (b : A) (w : List (Mark Token)) → Words (X b) l d w → Skipped w) where
  skipped_followed : (bs : List A) (w : List (Mark Token)) → Words (p.followed X bs) l d w → Skipped w
  skipped_followed [] w h = none w h
  skipped_followed (b ∷ bs) w (u, v, c, (i, j, h, k, split2), split) = joint u v w (sign_flat l d sign.Comma u refl refl c) (joint i j v (x b i h) (skipped_followed bs j k) split2) split

  skipped_listed : (bs : List A) (w : List (Mark Token)) → Words (p.listed X bs) l d w → Skipped w
  skipped_listed [] w h = none w h.1
  skipped_listed (b ∷ bs) w (u, v, h, k, split) = joint u v w (x b u h) (skipped_followed bs v k) split

pub skipped_shape : (ds : List Dimension) (l d : ℕ) (w : List (Mark Token)) → Words (a.maybe_dimensions ds) l d w → Skipped w
skipped_shape [] l d w h = none w h
skipped_shape (x ∷ xs) l d w h = λ n. round_group l d (p.listed a.dimension (x ∷ xs)) (λ v k. skipped_listed a.dimension l (suc d) (λ b w o. skipped_dimension b l (suc d) w o) (x ∷ xs) v k) w h (suc n)

pub skipped_colons : (n l d : ℕ) (w : List (Mark Token)) → Words (a.more_colons n) l d w → Skipped w
skipped_colons zero l d w h = none w h
skipped_colons (suc n) l d w (u, v, c, (i, j, k, r, split2), split) = joint u v w (sign_flat l d sign.Comma u refl refl c) (joint i j v (sign_flat l d sign.Colon i refl refl k) (skipped_colons n l d j r) split2) split

pub skipped_cobounds : (bs : List Bounds) (l d : ℕ) (w : List (Mark Token)) → Words (p.repeated a.cobound bs) l d w → Skipped w
skipped_cobounds [] l d w h = none w h
skipped_cobounds (b ∷ bs) l d w (u, v, (i, j, h, c, split2), k, split) = joint u v w (joint i j u (skipped_bounds b l d i h) (sign_flat l d sign.Comma j refl refl c) split2) (skipped_cobounds bs l d v k) split

pub skipped_coshape : (x : CoarraySpec) (l d : ℕ) (w : List (Mark Token)) → Words (a.coarray_spec x) l d w → Skipped w
skipped_coshape (st.deferred_coshape zero) l d w h = none w h.1
skipped_coshape (st.deferred_coshape (suc n)) l d w (u, v, c, k, split) = joint u v w (sign_flat l d sign.Colon u refl refl c) (skipped_colons n l d v k) split
skipped_coshape (st.explicit_coshape bs o) l d w (u, v, h, (i, j, k, c, split2), split) = joint u v w (skipped_cobounds bs l d u h) (joint i j v (skipped_lower o l d i k) (sign_flat l d sign.Star j refl refl c) split2) split

pub skipped_bracketed : (o : Option CoarraySpec) (l d : ℕ) (w : List (Mark Token)) → Words (p.optional a.bracketed_coarray_spec o) l d w → Skipped w
skipped_bracketed None l d w h = none w h
skipped_bracketed (Some x) l d w h = λ n. square_group l d (a.coarray_spec x) (λ v k. skipped_coshape x l (suc d) v k) w h (suc n)

pub skipped_allocation : (x : Allocation) (l d : ℕ) (w : List (Mark Token)) → Words (a.allocation x) l d w → Skipped w
skipped_allocation x l d w (u, v, h, (i, j, k, r, split2), split) = joint u v w (name_flat x.name l d u h) (joint i j v (skipped_shape x.bounds l d i k) (skipped_bracketed x.cobounds l d j r) split2) split

-- Behind which tokens no `=` stands, unless one stands behind what follows.
abbrev pub Quiet : List (Mark Token) → Type 0
Quiet w = (rest : List Token) → begins_equals (groups 0 rest) ≡ false → begins_equals (groups 0 (bare w ++ rest)) ≡ false

pub quiet_none : (w : List (Mark Token)) → w ≡ [] → Quiet w
quiet_none w e rest h = subst (λ z. begins_equals (groups 0 (bare z ++ rest)) ≡ false) (sym e) h

pub quiet_joint : (u v w : List (Mark Token)) → Quiet u → Quiet v → w ≡ u ++ v → Quiet w
quiet_joint u v w h k e rest o = subst (λ z. begins_equals (groups 0 z) ≡ false) (sym (ap (λ z. bare z ++ rest) e ∙ sym (regroup u v rest))) (h (bare v ++ rest) (k rest o))

-- the first token is neither a bracket nor `=`
pub quiet_first : (l d : ℕ) (y : Token) (u v w : List (Mark Token)) → u ≡ mark l d y ∷ [] → w ≡ u ++ v → opens_tok y.tok ≡ false → is_sign sign.Assign y ≡ false → Quiet w
quiet_first l d y u v w e split o f rest h = ap (λ z. begins_equals (groups 0 (bare z ++ rest))) (split ∙ ap (λ z. z ++ v) e) ∙ (ap (λ b. begins_equals (cond b (groups 1 (bare v ++ rest)) (y ∷ (bare v ++ rest)))) o ∙ f)

pub quiet_round : (l d : ℕ) (P : Phrase) → ((v : List (Mark Token)) → Words P l (suc d) v → Skipped v) → (w : List (Mark Token)) → Words (p.round P) l d w → Quiet w
quiet_round l d P s w h rest o = ap begins_equals (round_group l d P s w h 0 rest) ∙ o

pub quiet_square : (l d : ℕ) (P : Phrase) → ((v : List (Mark Token)) → Words P l (suc d) v → Skipped v) → (w : List (Mark Token)) → Words (p.square P) l d w → Quiet w
quiet_square l d P s w h rest o = ap begins_equals (square_group l d P s w h 0 rest) ∙ o

pub only_one : (u : List (Mark Token)) → u ≡ u ++ []
only_one [] = refl
only_one (m ∷ u) = ap (λ z. m ∷ z) (only_one u)

operator_quiet : (o : Operator) → is_sign_tok sign.Assign (t.sign (g.operator_sign o)) ≡ false
operator_quiet operators.Power = refl
operator_quiet o = refl

prefix_quiet : (o : PrefixOperator) → is_sign_tok sign.Assign (t.sign (g.prefix_sign o)) ≡ false
prefix_quiet prefixes.Not = refl
prefix_quiet o = refl

truth_quiet : (b : Bool) → is_sign_tok sign.Assign (t.sign (g.truth_sign b)) ≡ false
truth_quiet true = refl
truth_quiet false = refl

pub quiet_expr : (e : Expression) (l d : ℕ) (w : List (Mark Token)) → Words (g.expr e) l d w → Quiet w
quiet_expr (s.number n k at) l d w h = quiet_first l d _ w [] w h (only_one w) refl refl
quiet_expr (s.logical b at) l d w h = quiet_first l d _ w [] w h (only_one w) (truth_flat b).0 (truth_quiet b)
quiet_expr (s.designator (s.part_ref n xs c)) l d w (u, v, h, k, split) = quiet_first l d _ u v w h split refl refl
quiet_expr (s.function_reference f args) l d w (c, (u, v, h, k, split)) = quiet_first l d _ u v w h split refl refl
quiet_expr (s.parenthesized e at) l d w (f, h) = quiet_round l d (g.expr e) (λ z q. expr e l (suc d) z q) w h
quiet_expr (s.array_constructor es at) l d w (f, h) = quiet_square l d (g.exprs es) (λ z q. exprs es l (suc d) z q) w h
quiet_expr (s.prefix o e at) l d w (c, (u, v, h, k, split)) = quiet_first l d _ u v w h split (prefix_flat o).0 (prefix_quiet o)
quiet_expr (s.binary o x y at) l d w (c, (f, (u, v, h, (i, j, (at2, q), k, split2), split))) = quiet_joint u v w (quiet_expr x l d u h) (quiet_first l d _ i j v q split2 (operator_flat o).0 (operator_quiet o)) split

-- what stands behind a keyword
pub quiet_comma : {A : Type 0} (X : A → Phrase) (bs : List A) (l d : ℕ) (w : List (Mark Token)) → Words (p.followed X bs) l d w → Quiet w
quiet_comma X [] l d w h = quiet_none w h
quiet_comma X (b ∷ bs) l d w (u, v, (at, q), k, split) = quiet_first l d _ u v w q split refl refl

pub quiet_items : (is : List Item) (l d : ℕ) (w : List (Mark Token)) → Words (p.maybe_listed a.item is) l d w → Quiet w
quiet_items [] l d w h = quiet_none w h
quiet_items (st.quoted x ∷ is) l d w (u, v, h, k, split) = quiet_first l d _ u v w h split refl refl
quiet_items (st.value e ∷ is) l d w (u, v, h, k, split) = quiet_joint u v w (quiet_expr e l d u h) (quiet_comma a.item is l d v k) split

pub skipped_format : (f : Format) (l d : ℕ) (w : List (Mark Token)) → Words (a.format f) l d w → Skipped w
skipped_format st.free l d w h = sign_flat l d sign.Star w refl refl h
skipped_format (st.written x) l d w h = flat l d _ w h refl refl

pub quiet_format : (f : Format) (l d : ℕ) (u v w : List (Mark Token)) → Words (a.format f) l d u → w ≡ u ++ v → Quiet w
quiet_format st.free l d u v w (at, h) split = quiet_first l d _ u v w h split refl refl
quiet_format (st.written x) l d u v w h split = quiet_first l d _ u v w h split refl refl

pub quiet_name : (n : Option Name) (l d : ℕ) (w : List (Mark Token)) → Words (p.optional p.name n) l d w → Quiet w
quiet_name None l d w h = quiet_none w h
quiet_name (Some n) l d w h = quiet_first l d _ w [] w h (only_one w) refl refl

pub quiet_value : (o : Option Expression) (l d : ℕ) (w : List (Mark Token)) → Words (p.optional g.expr o) l d w → Quiet w
quiet_value None l d w h = quiet_none w h
quiet_value (Some e) l d w h = quiet_expr e l d w h

pub quiet_key : (k : List ℕ) (P : Phrase) (l d : ℕ) (w : List (Mark Token)) → Words (p.key k ▸ P) l d w → Quiet w
quiet_key k P l d w (u, v, (at, q), h, split) = quiet_first l d _ u v w q split refl refl

pub quiet_object : (x : Designator) (ps : Specifiers) (l d : ℕ) (w : List (Mark Token)) → Words (a.object x ps) l d w → Quiet w
quiet_object x ps l d w h = quiet_round l d (g.designator x ▸ g.more_specifiers ps) (λ z (u, v, k, q, split). joint u v z (designator x l (suc d) u k) (more_specifiers ps l (suc d) v q) split) w h

-- behind the first keyword
pub starts_with : (k : List ℕ) (l d : ℕ) (u v w : List (Mark Token)) (rest : List Token) → Words (p.key k) l d u → w ≡ u ++ v → Quiet v → begins_equals (groups 0 rest) ≡ false → assigns_first (bare w ++ rest) ≡ false
starts_with k l d u v w rest (at, q) split h o = ap (λ z. assigns_first (bare z ++ rest)) (split ∙ ap (λ z. z ++ v) q) ∙ h rest o

pub keyword_quiet : (f : ActionStatement) (l d : ℕ) (w : List (Mark Token)) (rest : List Token) → is_keyword_action f ≡ true → Words (a.action_statement f) l d w → begins_equals (groups 0 rest) ≡ false → assigns_first (bare w ++ rest) ≡ false
keyword_quiet (st.assignment x e) l d w rest f h o = absurd (false≢true f)
keyword_quiet (st.if_statement e x at) l d w rest f h o = absurd (false≢true f)
keyword_quiet (st.call n args) l d w rest f (u, v, k, (i, j, h, r, split2), split) o = starts_with (codes "call") l d u v w rest k split (quiet_first l d _ i j v h split2 refl refl) o
keyword_quiet (st.print x is) l d w rest f (inl (u, v, k, (i, j, h, r, split2), split)) o = starts_with (codes "print") l d u v w rest k split (quiet_format x l d i j v h split2) o
keyword_quiet (st.print x is) l d w rest f (inr (u, v, k, (i, j, h, r, split2), split)) o = starts_with (codes "write") l d u v w rest k split
    (quiet_joint i j v (quiet_round l d (p.sign sign.Star ▸ p.sign sign.Comma ▸ a.format x) (λ z (m, n, q, (y, b, c, e, split4), split3). joint m n z (sign_flat l (suc d) sign.Star m refl refl q) (joint y b n (sign_flat l (suc d) sign.Comma y refl refl c) (skipped_format x l (suc d) b e) split4) split3) i h) (quiet_items is l d j r) split2) o
keyword_quiet (st.exit n) l d w rest f (u, v, k, h, split) o = starts_with (codes "exit") l d u v w rest k split (quiet_name n l d v h) o
keyword_quiet (st.cycle n) l d w rest f (u, v, k, h, split) o = starts_with (codes "cycle") l d u v w rest k split (quiet_name n l d v h) o
keyword_quiet st.return l d w rest f h o = starts_with (codes "return") l d w [] w rest h (only_one w) (quiet_none [] refl) o
keyword_quiet (st.stop e) l d w rest f (u, v, k, h, split) o = starts_with (codes "stop") l d u v w rest k split (quiet_value e l d v h) o
keyword_quiet (st.error_stop e) l d w rest f (u, v, k, h, split) o = starts_with (codes "error") l d u v w rest k split (quiet_key (codes "stop") (p.optional g.expr e) l d v h) o
keyword_quiet st.fail_image l d w rest f (u, v, k, (at, h), split) o = starts_with (codes "fail") l d u v w rest k split (quiet_first l d _ v [] v h (only_one v) refl refl) o
keyword_quiet (st.allocate os ps) l d w rest f (u, v, k, h, split) o = starts_with (codes "allocate") l d u v w rest k split
    (quiet_round l d (p.listed a.allocation os ▸ g.more_specifiers ps) (λ z (i, j, q, r, split2). joint i j z (skipped_listed a.allocation l (suc d) (λ b w c. skipped_allocation b l (suc d) w c) os i q) (more_specifiers ps l (suc d) j r) split2) v h) o
keyword_quiet (st.deallocate ns ps) l d w rest f (u, v, k, h, split) o = starts_with (codes "deallocate") l d u v w rest k split
    (quiet_round l d (p.listed p.name ns ▸ g.more_specifiers ps) (λ z (i, j, q, r, split2). joint i j z (skipped_listed p.name l (suc d) (λ b w c. name_flat b l (suc d) w c) ns i q) (more_specifiers ps l (suc d) j r) split2) v h) o
keyword_quiet (st.sync_all ps) l d w rest f (u, v, k, h, split) o = starts_with (codes "sync") l d u v w rest k split (quiet_key (codes "all") (p.optional a.bracketed_specifiers ps) l d v h) o
keyword_quiet (st.sync_memory ps) l d w rest f (u, v, k, h, split) o = starts_with (codes "sync") l d u v w rest k split (quiet_key (codes "memory") (p.optional a.bracketed_specifiers ps) l d v h) o
keyword_quiet (st.sync_images i ps) l d w rest f (u, v, k, h, split) o = starts_with (codes "sync") l d u v w rest k split (quiet_key (codes "images") (a.synchronized i ps) l d v h) o
keyword_quiet (st.sync_team e ps) l d w rest f (u, v, k, h, split) o = starts_with (codes "sync") l d u v w rest k split (quiet_key (codes "team") (a.team e ps) l d v h) o
keyword_quiet (st.form_team e n ps) l d w rest f (u, v, k, h, split) o = starts_with (codes "form") l d u v w rest k split (quiet_key (codes "team") (a.new_team e n ps) l d v h) o
keyword_quiet (st.lock x ps) l d w rest f (u, v, k, h, split) o = starts_with (codes "lock") l d u v w rest k split (quiet_object x ps l d v h) o
keyword_quiet (st.unlock x ps) l d w rest f (u, v, k, h, split) o = starts_with (codes "unlock") l d u v w rest k split (quiet_object x ps l d v h) o
keyword_quiet (st.event_post x ps) l d w rest f (u, v, k, h, split) o = starts_with (codes "event") l d u v w rest k split (quiet_key (codes "post") (a.object x ps) l d v h) o
keyword_quiet (st.event_wait x ps) l d w rest f (u, v, k, h, split) o = starts_with (codes "event") l d u v w rest k split (quiet_key (codes "wait") (a.object x ps) l d v h) o

-- the end of a statement, whatever follows it
pub over_quiet : (l d : ℕ) (w : List (Mark Token)) → Words p.over l d w → (rest : List Token) → begins_equals (groups 0 (bare w ++ rest)) ≡ false
over_quiet l d w (at, q) rest = ap (λ z. begins_equals (groups 0 (bare z ++ rest))) q

-- No text begins with an assignment and with a statement that begins with a keyword, whatever follows either.
pub assignment_or_keyword : (x : Designator) (e : Expression) (f : ActionStatement) (l d m c : ℕ) (u v w : List (Mark Token)) (r q : List Token) → Words (a.action_statement (st.assignment x e)) l d u → is_keyword_action f ≡ true → Words (a.action_statement f ▸ p.over) m c w → bare u ++ r ≡ bare w ++ q → ⊥
assignment_or_keyword x e f l d m c u v w r q h is (i, j, k, o, split) same =
    let one = assignment_assigns x e l d u r h in
    let two = keyword_quiet f m c i (bare j ++ q) is k (over_quiet m c j o q) in
    true≢false (sym one ∙ (ap assigns_first (same ∙ (ap (λ z. bare z ++ q) split ∙ sym (regroup i j q))) ∙ two))

-- nor with an assignment and with the prefix of a one-line IF before a name, or IF ( expr ) THEN
pub assignment_or_if : (x : Designator) (e y : Expression) (l d m c : ℕ) (u w : List (Mark Token)) (r q : List Token) → Words (a.action_statement (st.assignment x e)) l d u → Words (p.key (codes "if") ▸ p.round (g.expr y)) m c w → begins_equals (groups 0 q) ≡ false → bare u ++ r ≡ bare w ++ q → ⊥
assignment_or_if x e y l d m c u w r q h (i, j, k, o, split) quiet same =
    true≢false (sym (assignment_assigns x e l d u r h) ∙ (ap assigns_first same ∙ starts_with (codes "if") m c i j w q k split (quiet_round m c (g.expr y) (λ z n. expr y m (suc c) z n) j o) quiet))

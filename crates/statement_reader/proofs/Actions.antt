-- The parts of actions that begin with a keyword are read exactly at every level.
use Rattle.std.proofs.Common.{◌≡◌, ℕ, suc, ◌≤◌, Bool, true, false, cond, nat_lt, List, [], ◌∷◌, ◌++◌, Some, None, inl, inr, refl, ap, sym, ◌∙◌, subst, arith}
use Rattle.std.proofs.lemmas.Bool.{false≢true, le-ltb, ltb-false}
use Rattle.caf_base.specs.declared.place.Pos.{Pos}
use Rattle.reader_theory.specs.Words.{Mark, bare, found}
use Rattle.reader_theory.specs.Levels.{One}
use Rattle.reader_theory.specs.Readers.{token, both, both_by, mapped, optional, pair, behind}
use Rattle.reader_theory.specs.Exactness.{Stops, never, Heads}
use Rattle.reader_theory.specs.Languages.{Or, By, Nothing}
use Rattle.reader_theory.proofs.Marks.{never_stops}
use Rattle.reader_theory.proofs.Sequence.{exact_by}
use Rattle.reader_theory.proofs.Single.{relabel, exact_mapped, exact_nothing}
use Rattle.reader_theory.proofs.Choice.{exact_pick}
use Rattle.fortran_tokens.specs.declared.token.Sign.TheVariants as sign
use Rattle.fortran_tree.specs.Expressions as e
use Rattle.fortran_tree.specs.Expressions.{Expression, Designator, Specifiers, Arguments}
use Rattle.fortran_tree.specs.Statements as s
use Rattle.fortran_tree.specs.Statements.{ActionStatement, Format, Item, ImageSet}
use Rattle.fortran_grammar.specs.Tokens as t
use Rattle.fortran_grammar.specs.Tokens.{Tok, Token}
use Rattle.fortran_grammar.specs.Phrases as p
use Rattle.fortran_grammar.specs.Phrases.{Phrase, Words, ◌▸◌}
use Rattle.fortran_grammar.specs.ExpressionGrammar as g
use Rattle.fortran_grammar.specs.ActionGrammar as a
use Rattle.expr_reader.specs.Openings.{opens, goes, grip}
use Rattle.expr_reader.specs.Tests.{is_sign, is_word, a_name, followed_by}
use Rattle.expr_reader.specs.Pieces.{Piece, value, range, named, keyed, allowed, more_pieces, next_mode, piece_in, pieces_after, arguments_of}
use Rattle.expr_reader.specs.Selectors.{choices, chosen_phrase}
use Rattle.expr_reader.specs.Designators.{subscript_pieces, subscript_list}
use Rattle.statement_reader.specs.Statements.{is_literal, format_reader, item_reader}
use Rattle.statement_reader.specs.Families.{Family, rounded, squared, an_expression, maybe_list}
use Rattle.statement_reader.specs.Actions.{Assigned, assigned, a_specifier, specifiers_from, further_specifiers, any_specifiers, maybe_specifiers, a_designator, an_object, a_team, a_new_team, every_image, an_image_set, some_images, argument_pieces, arguments_list, some_arguments, a_call, begins_item, written_format, a_write, a_print, maybe_name, maybe_expression}
use Rattle.expr_reader.proofs.Phrases.{Of, exact_sign, sign_in, sign_out, or_comma}
use Rattle.expr_reader.proofs.Pieces.{either_of, stops_first, stops_second, colon_more, exact_piece}
use Rattle.expr_reader.proofs.Lists.{exact_after, apart, in_three, out_three, plain_in, plain_out, keyword_in, keyword_out, into_args, from_args}
use Rattle.expr_reader.proofs.Selectors.{spec_in, spec_out, exact_choices}
use Rattle.expr_reader.proofs.Designators.{exact_subscript_list, exact_designator}
use Rattle.statement_reader.proofs.Statements.{exact_format, exact_item, exact_print_list}
use Rattle.statement_reader.proofs.Families.{Everywhere, each_expression, each_name, each_behind_sign, each_round, each_square, each_followed, each_maybe, each_mapped, each_pair, each_maybe_listed, sign_heads, sign_stops, expression_heads, heads_stop}

-- what goes on behind specifiers
abbrev pub specifier_more : Token → Bool
specifier_more = or_comma (goes 0)

pub each_specifier : Everywhere (Of assigned) (goes 0) a_specifier
each_specifier = each_pair p.name (λ v. p.sign sign.Assign ▸ g.expr v) never (goes 0) (λ left. a_name) (λ left. behind (is_sign sign.Assign) (an_expression left)) each_name
    (each_behind_sign g.expr (goes 0) an_expression each_expression sign.Assign) (λ l d b w rest h st. never_stops (bare w ++ rest))

pub specifier_heads : (l d : ℕ) (q : Assigned) (w : List (Mark Token)) → Words (assigned q) l d w → Heads is_word w
specifier_heads l d q w (u, v, h, k, split) = subst (Heads is_word) (sym (split ∙ ap (λ z. z ++ v) h)) refl

module _ (l d : ℕ) where
  into_specifiers : (qs : List Assigned) (w : List (Mark Token)) → Words (p.followed assigned qs) l d w → Words (g.more_specifiers (specifiers_from qs)) l d w
  into_specifiers [] w h = h
  into_specifiers (q ∷ qs) w (u, v, c, (i, j, h, rest, split2), split) = (u, v, c, spec_in l d q.0 q.1 (g.more_specifiers (specifiers_from qs)) v (i, j, h, into_specifiers qs j rest, split2), split)

  from_specifiers : (ps : Specifiers) (w : List (Mark Token)) → Words (g.more_specifiers ps) l d w → (qs : List Assigned) × (ps ≡ specifiers_from qs) × Words (p.followed assigned qs) l d w
  from_specifiers e.no_specifiers w h = ([], refl, h)
  from_specifiers (e.more_specifiers n x ps) w (u, v, c, h, split) =
      let k = spec_out l d n x (g.more_specifiers ps) v h in
      let z = from_specifiers ps k.1 k.3 in
      ((n, x) ∷ z.0, ap (e.more_specifiers n x) z.1, (u, v, c, (k.0, k.1, k.2, z.2, k.4), split))

  into_any : (qs : List Assigned) (w : List (Mark Token)) → Words (p.maybe_listed assigned qs) l d w → Words (a.specifiers (specifiers_from qs)) l d w
  into_any [] w h = h
  into_any (q ∷ qs) w (i, j, h, rest, split2) = spec_in l d q.0 q.1 (g.more_specifiers (specifiers_from qs)) w (i, j, h, into_specifiers qs j rest, split2)

  from_any : (ps : Specifiers) (w : List (Mark Token)) → Words (a.specifiers ps) l d w → (qs : List Assigned) × (ps ≡ specifiers_from qs) × Words (p.maybe_listed assigned qs) l d w
  from_any e.no_specifiers w h = ([], refl, h)
  from_any (e.more_specifiers n x ps) w h =
      let k = spec_out l d n x (g.more_specifiers ps) w h in
      let z = from_specifiers ps k.1 k.3 in
      ((n, x) ∷ z.0, ap (e.more_specifiers n x) z.1, (k.0, k.1, k.2, z.2, k.4))

pub each_further : Everywhere (Of g.more_specifiers) specifier_more further_specifiers
each_further = each_mapped specifiers_from (p.followed assigned) g.more_specifiers specifier_more (λ left. followed_by (a_specifier left))
    (each_followed assigned (goes 0) a_specifier each_specifier (λ at. refl)) into_specifiers from_specifiers

-- behind something that goes on with neither a comma nor what goes on behind specifiers
pub further_apart : (more : Token → Bool) → ((at : Pos) → more (record { tok = t.sign sign.Comma; at = at }) ≡ false) → ((rest : List Token) → Stops specifier_more rest → Stops more rest) → (l d : ℕ) (ps : Specifiers) (w : List (Mark Token)) (rest : List Token) → Words (g.more_specifiers ps) l d w → Stops specifier_more rest → Stops more (bare w ++ rest)
further_apart more comma wide l d e.no_specifiers w rest h st = subst (λ z. Stops more (bare z ++ rest)) (sym h) (wide rest st)
further_apart more comma wide l d (e.more_specifiers n x ps) w rest h st = sign_stops sign.Comma (p.name n ▸ p.sign sign.Assign ▸ g.expr x ▸ g.more_specifiers ps) l d w rest more comma h

pub specifier_goes : (rest : List Token) → Stops specifier_more rest → Stops (goes 0) rest
specifier_goes = stops_second (is_sign sign.Comma) (goes 0)

-- [ "(" [ specifiers ] ")" ]
each_any : Everywhere (Of a.specifiers) (either_of is_word specifier_more) any_specifiers
each_any = each_mapped specifiers_from (p.maybe_listed assigned) a.specifiers (either_of is_word specifier_more) (λ left. maybe_list is_word (a_specifier left))
    (each_maybe_listed assigned (goes 0) is_word a_specifier each_specifier specifier_heads (λ at. refl)) into_any from_any

-- in round brackets, or nothing
module _ {A : Type 0} (X : A → Phrase) (more : Token → Bool) (r : Family A) (x : Everywhere (Of X) more r) where
  round_heads : (l d : ℕ) (b : A) (w : List (Mark Token)) → Words (p.round (X b)) l d w → Heads (is_sign sign.OpenRound) w
  round_heads l d b w h = sign_heads sign.OpenRound (X b ▸ p.sign sign.CloseRound) l (suc d) w (is_sign sign.OpenRound) (λ at. refl) h

  pub each_maybe_round : ((at : Pos) → more (record { tok = t.sign sign.CloseRound; at = at }) ≡ false) → Everywhere (Of (p.optional (λ b. p.round (X b)))) (is_sign sign.OpenRound) (λ left. optional (is_sign sign.OpenRound) (rounded r left))
  each_maybe_round stops = each_maybe (λ b. p.round (X b)) never (rounded r) (each_round X more r x stops) (is_sign sign.OpenRound) (is_sign sign.OpenRound) round_heads (λ rest h. never_stops rest) (λ rest h. h)

pub each_maybe_specifiers : Everywhere (Of (p.optional a.bracketed_specifiers)) (is_sign sign.OpenRound) maybe_specifiers
each_maybe_specifiers = each_maybe_round a.specifiers (either_of is_word specifier_more) any_specifiers each_any (λ at. refl)

-- designators
abbrev list_more : Token → Bool
list_more = either_of (is_sign sign.Comma) (either_of (is_sign sign.Assign) colon_more)

each_subscript_list : Everywhere (Of subscript_pieces) list_more (λ left. subscript_list (an_expression left))
each_subscript_list limit left level h = exact_subscript_list limit level (omega arith) (an_expression left) (each_expression limit left level h)

each_choices : Everywhere (Of chosen_phrase) list_more (λ left. choices (an_expression left))
each_choices limit left level h = exact_choices limit level (omega arith) (an_expression left) (each_expression limit left level h)

pub each_designator : Everywhere (Of g.designator) (goes 8) a_designator
each_designator limit left level h = exact_designator limit level (omega arith) (rounded (λ l. subscript_list (an_expression l)) left) (squared (λ l. choices (an_expression l)) left)
    (each_round subscript_pieces list_more (λ l. subscript_list (an_expression l)) each_subscript_list (λ at. refl) limit left level h)
    (each_square chosen_phrase list_more (λ l. choices (an_expression l)) each_choices (λ at. refl) (λ at. refl) limit left level h)

tighter : (rest : List Token) → Stops specifier_more rest → Stops (goes 8) rest
tighter rest st = by_rest rest (specifier_goes rest st)
  where
    by_grip : (n : ℕ) → nat_lt 0 n ≡ false → nat_lt 8 n ≡ false
    by_grip n h = let k = ltb-false 0 n h in le-ltb 8 n (omega arith)

    by_rest : (rest : List Token) → Stops (goes 0) rest → Stops (goes 8) rest
    by_rest [] h = tt
    by_rest (y ∷ rest) h = by_grip (grip y.tok) h

pub each_object : Everywhere (Of (λ q. g.designator q.0 ▸ g.more_specifiers q.1)) specifier_more an_object
each_object = each_pair g.designator g.more_specifiers (goes 8) specifier_more a_designator further_specifiers each_designator each_further (further_apart (goes 8) (λ at. refl) tighter)

pub each_team : Everywhere (Of (λ q. g.expr q.0 ▸ g.more_specifiers q.1)) specifier_more a_team
each_team = each_pair g.expr g.more_specifiers (goes 0) specifier_more an_expression further_specifiers each_expression each_further (further_apart (goes 0) (λ at. refl) specifier_goes)

pub each_new_team : Everywhere (Of (λ q. g.expr q.0 ▸ p.sign sign.Comma ▸ p.name q.1.0 ▸ g.more_specifiers q.1.1)) specifier_more a_new_team
each_new_team = each_pair g.expr (λ q. p.sign sign.Comma ▸ p.name q.0 ▸ g.more_specifiers q.1) (goes 0) specifier_more an_expression (λ left. behind (is_sign sign.Comma) (both pair a_name (further_specifiers left))) each_expression
    (each_behind_sign (λ q. p.name q.0 ▸ g.more_specifiers q.1) specifier_more (λ left. both pair a_name (further_specifiers left))
    (each_pair p.name g.more_specifiers never specifier_more (λ left. a_name) further_specifiers each_name each_further (λ l d b w rest h st. never_stops (bare w ++ rest))) sign.Comma)
    (λ l d q w rest h st. sign_stops sign.Comma (p.name q.0 ▸ g.more_specifiers q.1) l d w rest (goes 0) (λ at. refl) h)

-- the images of SYNC IMAGES
opens_no_star : (y : Token) → opens 1 y ≡ true → is_sign sign.Star y ≡ false
opens_no_star y h = by_tok y.tok h
  where
    by_tok : (k : Tok) → opens 1 (record { tok = k; at = y.at }) ≡ true → is_sign sign.Star (record { tok = k; at = y.at }) ≡ false
    by_tok (t.sign sign.Star) h = absurd (false≢true h)
    by_tok (t.sign z) h = refl
    by_tok k h = refl

abbrev All : ℕ → ℕ → ImageSet → List (Mark Token) → Type 0
All l d f w = (f ≡ s.all_images) × Words (p.sign sign.Star) l d w

abbrev Given : ℕ → ℕ → ImageSet → List (Mark Token) → Type 0
Given l d f w = (z : Expression) × (f ≡ s.images z) × Words (g.expr z) l d w

pub each_image_set : Everywhere (Of a.image_set) (goes 0) an_image_set
each_image_set limit left level h = let here : level ≤ limit = omega arith in
    relabel (Or (All limit level) (Given limit level)) (Of a.image_set limit level) (an_image_set left) (goes 0) (goes 0)
    (exact_pick (is_sign sign.Star) (All limit level) (Given limit level) (mapped every_image (token (is_sign sign.Star))) (mapped s.images (an_expression left)) never (goes 0)
    (exact_mapped every_image (One (is_sign sign.Star) limit level) (All limit level) (token (is_sign sign.Star)) never never (exact_sign limit level here sign.Star)
    (λ y w o. (refl, sign_in limit level sign.Star y w o)) (λ f w (is, o). let k = sign_out limit level sign.Star w o in (k.0, is, k.1)) (λ rest o. o))
    (exact_mapped s.images (Of g.expr limit level) (Given limit level) (an_expression left) (goes 0) (goes 0) (each_expression limit left level h) (λ z w o. (z, refl, o)) (λ f w o. o) (λ rest o. o)) (goes 0)
    (λ f w (is, (at, o)). subst (Heads (is_sign sign.Star)) (sym o) refl)
    (λ f w rest (z, is, o) st. heads_stop (opens 1) (is_sign sign.Star) opens_no_star w rest (expression_heads limit level z w o)) (λ rest o. never_stops rest) (λ rest o. o))
    into from (λ rest o. o)
  where
    into : (f : ImageSet) (w : List (Mark Token)) → Or (All limit level) (Given limit level) f w → Words (a.image_set f) limit level w
    into f w (inl (is, o)) = subst (λ z. Words (a.image_set z) limit level w) (sym is) o
    into f w (inr (z, is, o)) = subst (λ z. Words (a.image_set z) limit level w) (sym is) o

    from : (f : ImageSet) (w : List (Mark Token)) → Words (a.image_set f) limit level w → Or (All limit level) (Given limit level) f w
    from s.all_images w o = inl (refl, o)
    from (s.images z) w o = inr (z, refl, o)

pub each_images : Everywhere (Of (λ q. a.image_set q.0 ▸ g.more_specifiers q.1)) specifier_more some_images
each_images = each_pair a.image_set g.more_specifiers (goes 0) specifier_more an_image_set further_specifiers each_image_set each_further (further_apart (goes 0) (λ at. refl) specifier_goes)

-- formats and items
each_item : Everywhere (Of a.item) (goes 0) (λ left. item_reader (an_expression left))
each_item limit left level h = exact_item limit level (omega arith) (an_expression left) (each_expression limit left level h)

each_format : Everywhere (Of a.format) never (λ left. format_reader)
each_format limit left level h = exact_format limit level (omega arith)

item_heads : (l d : ℕ) (i : Item) (w : List (Mark Token)) → Words (a.item i) l d w → Heads begins_item w
item_heads l d (s.quoted q) w h = subst (Heads begins_item) (sym h) refl
item_heads l d (s.value z) w h = by_opening w (expression_heads l d z w h)
  where
    by_opening : (w : List (Mark Token)) → Heads (opens 1) w → Heads begins_item w
    by_opening [] h = h
    by_opening (m ∷ w) h = by_test (is_literal m.token) h
      where
        by_test : (b : Bool) → opens 1 m.token ≡ true → cond b true (opens 1 m.token) ≡ true
        by_test true h = refl
        by_test false h = h

pub each_print : Everywhere (Of (λ q. a.format q.0 ▸ p.followed a.item q.1)) specifier_more a_print
each_print limit left level h = exact_print_list limit level (omega arith) (an_expression left) (each_expression limit left level h)

abbrev pub write_more : Token → Bool
write_more = either_of begins_item specifier_more

pub each_write : Everywhere (Of (λ q. p.round (p.sign sign.Star ▸ p.sign sign.Comma ▸ a.format q.0) ▸ p.maybe_listed a.item q.1)) write_more a_write
each_write = each_pair (λ f. p.round (p.sign sign.Star ▸ p.sign sign.Comma ▸ a.format f)) (p.maybe_listed a.item) never write_more (rounded written_format) (λ left. maybe_list begins_item (item_reader (an_expression left)))
    (each_round (λ f. p.sign sign.Star ▸ p.sign sign.Comma ▸ a.format f) never written_format
    (each_behind_sign (λ f. p.sign sign.Comma ▸ a.format f) never (λ left. behind (is_sign sign.Comma) format_reader) (each_behind_sign a.format never (λ left. format_reader) each_format sign.Comma) sign.Star) (λ at. refl))
    (each_maybe_listed a.item (goes 0) begins_item (λ left. item_reader (an_expression left)) each_item item_heads (λ at. refl))
    (λ l d b w rest h st. never_stops (bare w ++ rest))

-- [ NAME ] and [ expr ]
pub each_maybe_name : Everywhere (Of (p.optional p.name)) is_word maybe_name
each_maybe_name = each_maybe p.name never (λ left. a_name) each_name is_word is_word (λ l d n w h. subst (Heads is_word) (sym h) refl) (λ rest h. never_stops rest) (λ rest h. h)

abbrev pub stop_more : Token → Bool
stop_more = either_of (opens 1) (goes 0)

pub each_maybe_expression : Everywhere (Of (p.optional g.expr)) stop_more maybe_expression
each_maybe_expression = each_maybe g.expr (goes 0) an_expression each_expression (opens 1) stop_more expression_heads (stops_second (opens 1) (goes 0)) (stops_first (opens 1) (goes 0))

-- arguments
abbrev Several : ℕ → ℕ → List Piece → List (Mark Token) → Type 0
Several l d = By (λ b es. b ∷ es) (Of (allowed keyed) l d) (λ b es w. Words (more_pieces (next_mode keyed b) es) l d w)

each_pieces : Everywhere (Of argument_pieces) (either_of (opens 1) list_more) (λ left. arguments_list (an_expression left))
each_pieces limit left level h = let here : level ≤ limit = omega arith in let r = an_expression left in let x = each_expression limit left level h in
    relabel (Or (Several limit level) (Nothing [])) (Of argument_pieces limit level) (arguments_list r) (either_of (opens 1) list_more) (either_of (opens 1) list_more)
    (exact_pick (opens 1) (Several limit level) (Nothing []) (both_by (λ b es. b ∷ es) (piece_in keyed r) (λ b. pieces_after r (next_mode keyed b))) (found []) list_more never
    (exact_by (λ b es. b ∷ es) (Of (allowed keyed) limit level) (λ b es w. Words (more_pieces (next_mode keyed b) es) limit level w) (piece_in keyed r) (λ b. pieces_after r (next_mode keyed b))
    (either_of (is_sign sign.Assign) colon_more) list_more (exact_piece limit level here r x keyed) (λ b. exact_after limit level here r x (next_mode keyed b)) (λ b. apart limit level here r x (next_mode keyed b)))
    (exact_nothing []) (either_of (opens 1) list_more)
    (λ es w (b, bs, is, (u, v, o, k, split)). in_front u v w (piece_heads b u o) split)
    (λ es w rest o st. subst (λ z. Stops (opens 1) (bare z ++ rest)) (sym o.1) (stops_first (opens 1) list_more rest st))
    (stops_second (opens 1) list_more) (λ rest st. never_stops rest))
    into from (λ rest o. o)
  where
    in_front : (u v w : List (Mark Token)) → Heads (opens 1) u → w ≡ u ++ v → Heads (opens 1) w
    in_front [] v w h k = absurd h
    in_front (m ∷ u) v w h k = subst (Heads (opens 1)) (sym k) h

    piece_heads : (b : Piece) (w : List (Mark Token)) → Words (allowed keyed b) limit level w → Heads (opens 1) w
    piece_heads (value z) w o = expression_heads limit level z w o.1
    piece_heads (range x1 x2 x3 at) w o = absurd (false≢true o.0)
    piece_heads (named n z) w (f, (u, v, o, k, split)) = subst (Heads (opens 1)) (sym (split ∙ ap (λ q. q ++ v) o)) refl

    into : (es : List Piece) (w : List (Mark Token)) → Or (Several limit level) (Nothing []) es w → Words (argument_pieces es) limit level w
    into es w (inl (b, bs, is, o)) = subst (λ z. Words (argument_pieces z) limit level w) (sym is) o
    into es w (inr o) = subst (λ z. Words (argument_pieces z) limit level w) (sym o.0) o.1

    from : (es : List Piece) (w : List (Mark Token)) → Words (argument_pieces es) limit level w → Or (Several limit level) (Nothing []) es w
    from [] w o = inr (refl, o)
    from (b ∷ es) w o = inl (b, es, refl, o)

module _ (l d : ℕ) where
  into_arguments : (es : List Piece) (w : List (Mark Token)) → Words (argument_pieces es) l d w → Words (g.arguments (arguments_of es)) l d w
  into_arguments [] w h = h
  into_arguments (value x ∷ es) w (i, j, (f, k), rest, split) =
      in_three l d (g.expr x) (g.keyword None) (g.expr x) (g.more_arguments (arguments_of es)) (plain_in l d x) w (i, j, k, into_args l d keyed es j (inl refl) rest, split)
  into_arguments (range x1 x2 x3 at ∷ es) w (i, j, (f, k), rest, split) = absurd (false≢true f)
  into_arguments (named n x ∷ es) w (i, j, (f, k), rest, split) =
      in_three l d (g.specifier n x) (g.keyword (Some n)) (g.expr x) (g.more_arguments (arguments_of es)) (keyword_in l d n x) w (i, j, k, into_args l d keyed es j (inl refl) rest, split)

  from_arguments : (args : Arguments) (w : List (Mark Token)) → Words (g.arguments args) l d w → (es : List Piece) × (args ≡ arguments_of es) × Words (argument_pieces es) l d w
  from_arguments e.no_arguments w h = ([], refl, h)
  from_arguments (e.more_arguments None x args) w h =
      let k = out_three l d (g.expr x) (g.keyword None) (g.expr x) (g.more_arguments args) (plain_out l d x) w h in
      let z = from_args l d keyed refl args k.1 k.3 in
      (value x ∷ z.0, ap (e.more_arguments None x) z.1, (k.0, k.1, (refl, k.2), z.3, k.4))
  from_arguments (e.more_arguments (Some n) x args) w h =
      let k = out_three l d (g.specifier n x) (g.keyword (Some n)) (g.expr x) (g.more_arguments args) (keyword_out l d n x) w h in
      let z = from_args l d keyed refl args k.1 k.3 in
      (named n x ∷ z.0, ap (e.more_arguments (Some n) x) z.1, (k.0, k.1, (refl, k.2), z.3, k.4))

each_arguments : Everywhere (Of g.arguments) (either_of (opens 1) list_more) some_arguments
each_arguments = each_mapped arguments_of argument_pieces g.arguments (either_of (opens 1) list_more) (λ left. arguments_list (an_expression left)) each_pieces into_arguments from_arguments

pub each_call : Everywhere (Of (λ q. p.name q.0 ▸ p.optional a.bracketed_arguments q.1)) (is_sign sign.OpenRound) a_call
each_call = each_pair p.name (p.optional a.bracketed_arguments) never (is_sign sign.OpenRound) (λ left. a_name) (λ left. optional (is_sign sign.OpenRound) (rounded some_arguments left)) each_name
    (each_maybe_round g.arguments (either_of (opens 1) list_more) some_arguments each_arguments (λ at. refl)) (λ l d b w rest h st. never_stops (bare w ++ rest))

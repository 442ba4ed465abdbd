-- A text as far as it is laid: the lines that are ended, and what stands in the last one.
use Rattle.std.proofs.Common.{◌≡◌, ℕ, zero, suc, ◌+◌, ◌-◌, ◌≤◌, Bool, true, false, cond, ◌&&◌, not, ◌||◌, nat_eq, List, [], ◌∷◌, ◌++◌, length, map, take, None, refl, ap, sym, ◌∙◌, subst, arith, append_assoc, append-nil}
use Rattle.std.specs.Prelude.{slice_get, slice_index, flat_map}
use Rattle.std.specs.List.{list_all, slice_split, onto_first}
use Rattle.std.specs.Str.Lines.{lines, lines_of_parts, strip_carriage_return}
use Rattle.std.proofs.lemmas.Bool.{and_parts, and_from}
use Rattle.std.proofs.lemmas.Bool.Decides.{nat_tests}
use Rattle.std.proofs.lemmas.List.{map-append, length-append}
use Rattle.std.proofs.lemmas.List.Folds.{list_all-append}
use Rattle.std.proofs.lemmas.List.Sums.{fold-append}
use Rattle.fortran_lines.specs.declared.placed_byte.PlacedByte.{PlacedByte}
use Rattle.fortran_lines.specs.declared.context.Context.{Context}
use Rattle.fortran_lines.specs.declared.context.Context.TheVariants.{Outside}
use Rattle.fortran_lines.specs.declared.context.Before.{Before}
use Rattle.fortran_lines.specs.declared.context.Before.TheVariants.{Start, Continued}
use Rattle.fortran_lines.specs.PlacedBytes.{placed_from, numbered, all_blank, blank_at, physical_lines}
use Rattle.fortran_lines.specs.Contexts.{is_inside, behind, context_behind}
use Rattle.fortran_lines.specs.Lines.{code_part, part_of, part_from, joined, pieces, statements_of}
use Rattle.fortran_lines.specs.Faults.{faults_from, faults_of}
use Rattle.fortran_lines.proofs.LineLemmas.{not_all_blank}
use Rattle.fortran_tokens.specs.Bytes as bytes
use Rattle.fortran_tokens.specs.Bytes.{is_printing}
use Rattle.print_again.proofs.Joining.{Runs, runs_none, runs_both, runs_end, runs_on, fine, sound, sound_append, code_sound, one_piece, is_ascii, none_above, Last, last_inked, ends_part, goes_part, leading, Head, head_more, head_start, head_spaced, head_resumed}
use Rattle.print_again.proofs.Bytes.{codes_of, codes_append, codes_placed, placed_append, length_placed, ascii_placed, Mode, clear, free, In, clear_is, free_outside, Step}

-- Lines and line feeds.

-- lines, each with its line feed
abbrev pub fed : List (List ℕ) → List ℕ
fed [] = []
fed (l ∷ ls) = l ++ 10 ∷ fed ls

fed_append : (ls ms : List (List ℕ)) → fed (ls ++ ms) ≡ fed ls ++ fed ms
fed_append [] ms = refl
fed_append (l ∷ ls) ms = ap (λ z. l ++ 10 ∷ z) (fed_append ls ms) ∙ sym (append_assoc l (10 ∷ fed ls) (fed ms))

no_feed : (b : ℕ) → is_printing b ≡ true → nat_eq b 10 ≡ false
no_feed b h = grind (arith, nat_tests)

no_return : (b : ℕ) → is_printing b ≡ true → nat_eq b 13 ≡ false
no_return b h = grind (arith, nat_tests)

abbrev feed : ℕ → Bool
feed b = nat_eq b 10

split_line : (l r : List ℕ) → list_all is_printing l ≡ true → slice_split feed (l ++ 10 ∷ r) ≡ l ∷ slice_split feed r
split_line [] r h = refl
split_line (b ∷ l) r h =
    let p = and_parts (is_printing b) (list_all is_printing l) h in
    ap (λ z. cond z ([] ∷ slice_split feed (l ++ 10 ∷ r)) (onto_first b (slice_split feed (l ++ 10 ∷ r)))) (no_feed b p.0) ∙ ap (onto_first b) (split_line l r p.1)

no_return_at : (l : List ℕ) (i : ℕ) → list_all is_printing l ≡ true → nat_eq (slice_index l i) 13 ≡ false
no_return_at [] i h = refl
no_return_at (b ∷ l) zero h = no_return b (and_parts (is_printing b) (list_all is_printing l) h).0
no_return_at (b ∷ l) (suc i) h = no_return_at l i (and_parts (is_printing b) (list_all is_printing l) h).1

some_part : (x : List ℕ) (r : List ℕ) → lines_of_parts (x ∷ slice_split feed r) ≡ strip_carriage_return x ∷ lines_of_parts (slice_split feed r)
some_part x [] = refl
some_part x (b ∷ r) = by_case (feed b) (slice_split feed r)
  where
    by_case : (e : Bool) (ps : List (List ℕ)) → lines_of_parts (x ∷ cond e ([] ∷ ps) (onto_first b ps)) ≡ strip_carriage_return x ∷ lines_of_parts (cond e ([] ∷ ps) (onto_first b ps))
    by_case true ps = refl
    by_case false [] = refl
    by_case false (p ∷ ps) = refl

lines_fed : (ls : List (List ℕ)) → list_all (list_all is_printing) ls ≡ true → lines (fed ls) ≡ ls
lines_fed [] h = refl
lines_fed (l ∷ ls) h =
    let p = and_parts (list_all is_printing l) (list_all (list_all is_printing) ls) h in
    ap lines_of_parts (split_line l (fed ls) p.0) ∙ (some_part l (fed ls)
    ∙ (ap (λ z. z ∷ lines (fed ls)) (ap (λ z. cond z (take (length l - 1) l) l) (no_return_at l (length l - 1) p.0)) ∙ ap (λ z. l ∷ z) (lines_fed ls p.1)))

numbered_append : (n : ℕ) (a b : List (List ℕ)) → numbered n (a ++ b) ≡ numbered n a ++ numbered (n + length a) b
numbered_append n [] b = ap (λ z. numbered z b) (omega arith)
numbered_append n (l ∷ a) b = ap (λ z. placed_from n 1 l ∷ z) (numbered_append (n + 1) a b ∙ ap (λ z. numbered (n + 1) a ++ numbered z b) (omega arith))

beyond : {A : Type 0} (l : List A) (n : ℕ) → length l ≤ n → slice_get l n ≡ None
beyond [] n h = refl
beyond (a ∷ l) zero h = absurd (omega arith)
beyond (a ∷ l) (suc n) h = beyond l n (omega arith)

-- Bytes at the two ends of a token.

pub record First (x : List ℕ) : Type 0 where
  pub byte : ℕ
  pub rest : List ℕ
  pub split : x ≡ byte ∷ rest
  pub ink : bytes.is_blank byte ≡ false
  pub no_mark : nat_eq byte 33 ≡ false
  pub no_amp : nat_eq byte 38 ≡ false

pub record Final (x : List ℕ) : Type 0 where
  pub front : List ℕ
  pub byte : ℕ
  pub split : x ≡ front ++ byte ∷ []
  pub ink : bytes.is_blank byte ≡ false
  pub no_amp : nat_eq byte 38 ≡ false

last_placed : (n c : ℕ) (x : List ℕ) → Final x → Last (placed_from n c x)
last_placed n c x f = record {
  front = placed_from n c f.front;
  byte = record { code = f.byte; at = record { line = n; col = c + length f.front } };
  split = ap (placed_from n c) f.split ∙ placed_append n c f.front (f.byte ∷ []);
  ink = f.ink;
  no_amp = f.no_amp;
}

last_behind : (a l : List PlacedByte) → Last l → Last (a ++ l)
last_behind a l e = record { front = a ++ e.front; byte = e.byte; split = ap (λ z. a ++ z) e.split ∙ sym (append_assoc a e.front (e.byte ∷ [])); ink = e.ink; no_amp = e.no_amp }

-- bytes that a line or a statement may begin with
pub record Inked (x : List ℕ) (m : Mode) (closed : Bool) : Type 0 where
  pub first : First x
  pub printing : list_all is_printing x ≡ true
  pub step : Step clear x m
  pub last : closed ≡ true → Final x

-- A text of whole statements.
pub record Fresh (text : List ℕ) (done : List (List ℕ)) : Type 0 where
  pub full : List (List ℕ)
  pub is : text ≡ fed full
  pub printing : list_all (list_all is_printing) full ≡ true
  pub outs : List (List PlacedByte)
  pub runs : Runs (numbered 1 full) Start [] outs Start []
  pub ended : map codes_of (flat_map pieces outs) ≡ done

-- A text of whole lines, of which the last goes on.
pub record Gap (text : List ℕ) (done : List (List ℕ)) (part : List ℕ) (m : Mode) : Type 0 where
  pub full : List (List ℕ)
  pub is : text ≡ fed full
  pub printing : list_all (list_all is_printing) full ≡ true
  pub outs : List (List PlacedByte)
  pub amp : PlacedByte
  pub context : Context
  pub taken : List PlacedByte
  pub runs : Runs (numbered 1 full) Start [] outs (Continued amp context) taken
  pub ended : map codes_of (flat_map pieces outs) ≡ done
  pub behind_taken : context_behind Outside taken ≡ context
  pub here : In m context
  pub whole : sound Outside taken ≡ true
  pub codes : codes_of taken ≡ part

-- A text whose last line is begun: the texts of the whole statements, and that of the statement that is begun.
pub record Row (text : List ℕ) (size : ℕ) (done : List (List ℕ)) (part : List ℕ) (m : Mode) (closed : Bool) : Type 0 where
  pub full : List (List ℕ)
  pub line : List ℕ
  pub is : text ≡ fed full ++ line
  pub short : length line ≤ size
  pub printing : list_all (list_all is_printing) full ≡ true
  pub printing_line : list_all is_printing line ≡ true
  pub outs : List (List PlacedByte)
  pub before : Before
  pub taken : List PlacedByte
  pub runs : Runs (numbered 1 full) Start [] outs before taken
  pub ended : map codes_of (flat_map pieces outs) ≡ done
  pub context : Context
  pub lead : List PlacedByte
  pub body : List PlacedByte
  pub head : Head before (placed_from (1 + length full) 1 line) context lead body
  pub joint : context_behind Outside (taken ++ lead) ≡ context
  pub whole : sound Outside (taken ++ (lead ++ body)) ≡ true
  pub plain : sound context body ≡ true
  pub here : In m (context_behind context body)
  pub ascii : list_all is_ascii body ≡ true
  pub last : closed ≡ true → Last body
  pub codes : codes_of (taken ++ (lead ++ body)) ≡ part

-- the context behind all that is taken and the line's body
behind_all : (taken lead body : List PlacedByte) (k : Context) → context_behind Outside (taken ++ lead) ≡ k → context_behind Outside (taken ++ (lead ++ body)) ≡ context_behind k body
behind_all taken lead body k e = ap (context_behind Outside) (sym (append_assoc taken lead body)) ∙ (fold-append behind Outside (taken ++ lead) body ∙ ap (λ z. context_behind z body) e)

pub row_more : (text : List ℕ) (size wider : ℕ) (done : List (List ℕ)) (part : List ℕ) (m n : Mode) (closed ends : Bool) → Row text size done part m closed
    → (x : List ℕ) → list_all is_printing x ≡ true → Step m x n → (ends ≡ true → Final x) → size + length x ≤ wider → Row (text ++ x) wider done (part ++ x) n ends
row_more text size wider done part m n closed ends r x p s f w =
    let at = 1 + length r.full in
    let more = placed_from at (1 + length r.line) x in
    let k = context_behind r.context r.body in
    let t = r.taken ++ (r.lead ++ r.body) in
    let next = s k r.here more (codes_placed at (1 + length r.line) x) in
    let grown : r.taken ++ (r.lead ++ (r.body ++ more)) ≡ t ++ more = ap (λ z. r.taken ++ z) (sym (append_assoc r.lead r.body more)) ∙ sym (append_assoc r.taken (r.lead ++ r.body) more) in
    let all = behind_all r.taken r.lead r.body r.context r.joint in
    record {
      full = r.full;
      line = r.line ++ x;
      is = ap (λ z. z ++ x) r.is ∙ append_assoc (fed r.full) r.line x;
      short = let a = length-append r.line x in let b = r.short in omega arith;
      printing = r.printing;
      printing_line = list_all-append is_printing r.line x ∙ and_from (list_all is_printing r.line) (list_all is_printing x) r.printing_line p;
      outs = r.outs;
      before = r.before;
      taken = r.taken;
      runs = r.runs;
      ended = r.ended;
      context = r.context;
      lead = r.lead;
      body = r.body ++ more;
      head = subst (λ z. Head r.before z r.context r.lead (r.body ++ more)) (sym (placed_append at 1 r.line x)) (head_more r.before (placed_from at 1 r.line) r.context r.lead r.body more r.head);
      joint = r.joint;
      whole = ap (sound Outside) grown ∙ (sound_append Outside t more ∙ and_from (sound Outside t) (sound (context_behind Outside t) more) r.whole (ap (λ z. sound z more) all ∙ next.0));
      plain = sound_append r.context r.body more ∙ and_from (sound r.context r.body) (sound k more) r.plain next.0;
      here = subst (In n) (sym (fold-append behind r.context r.body more)) next.1;
      ascii = list_all-append is_ascii r.body more ∙ and_from (list_all is_ascii r.body) (list_all is_ascii more) r.ascii (ascii_placed at (1 + length r.line) x p);
      last = λ e. last_behind r.body more (last_placed at (1 + length r.line) x (f e));
      codes = ap codes_of grown ∙ (codes_append t more ∙ λ i. r.codes i ++ codes_placed at (1 + length r.line) x i);
    }

-- no line has more than any greater number of bytes
pub row_wide : (text : List ℕ) (size wider : ℕ) (done : List (List ℕ)) (part : List ℕ) (m : Mode) (closed : Bool) → Row text size done part m closed → size ≤ wider → Row text wider done part m closed
row_wide text size wider done part m closed r w = record {
  full = r.full;
  line = r.line;
  is = r.is;
  short = let n = r.short in omega arith;
  printing = r.printing;
  printing_line = r.printing_line;
  outs = r.outs;
  before = r.before;
  taken = r.taken;
  runs = r.runs;
  ended = r.ended;
  context = r.context;
  lead = r.lead;
  body = r.body;
  head = r.head;
  joint = r.joint;
  whole = r.whole;
  plain = r.plain;
  here = r.here;
  ascii = r.ascii;
  last = r.last;
  codes = r.codes;
}

-- lines and one more
all_more : (ls : List (List ℕ)) (l : List ℕ) → list_all (list_all is_printing) ls ≡ true → list_all is_printing l ≡ true → list_all (list_all is_printing) (ls ++ l ∷ []) ≡ true
all_more ls l h k = list_all-append (list_all is_printing) ls (l ∷ []) ∙ and_from (list_all (list_all is_printing) ls) (list_all is_printing l && true) h (and_from (list_all is_printing l) true k refl)

one_more : (full : List (List ℕ)) (line : List ℕ) (b c : Before) (t u : List PlacedByte) (o p : List (List PlacedByte)) → Runs (numbered 1 full) Start [] o b t → Runs (placed_from (1 + length full) 1 line ∷ []) b t p c u → Runs (numbered 1 (full ++ line ∷ [])) Start [] (o ++ p) c u
one_more full line b c t u o p h k = subst (λ z. Runs z Start [] (o ++ p) c u) (sym (numbered_append 1 full (line ∷ []))) (runs_both (numbered 1 full) (placed_from (1 + length full) 1 line ∷ []) Start b c [] t u o p h k)

-- an `&` and a line feed
pub row_break : (text : List ℕ) (size : ℕ) (done : List (List ℕ)) (part : List ℕ) (m : Mode) (closed : Bool) → Row text size done part m closed → size ≤ 999 → Gap (text ++ 38 ∷ 10 ∷ []) done part m
row_break text size done part m closed r w =
    let at = 1 + length r.full in
    let a : PlacedByte = record { code = 38; at = record { line = at; col = 1 + length r.line } } in
    let l = placed_from at 1 r.line in
    let k = context_behind r.context r.body in
    let all : sound r.context (r.body ++ a ∷ []) ≡ true = sound_append r.context r.body (a ∷ []) ∙ and_from (sound r.context r.body) (fine k a && true) r.plain (by_inside (is_inside k)) in
    let code = code_sound r.context (r.body ++ a ∷ []) all in
    let inked = ap all_blank code ∙ not_all_blank r.body a true refl in
    let part_is = r.head.part (a ∷ []) inked ∙ ap (leading r.lead) (goes_part r.context r.body a r.plain refl) in
    let size_line = length-append l (a ∷ []) in
    let size_placed = length_placed at 1 r.line in
    let narrow = r.short in
    let high : list_all is_ascii (r.body ++ a ∷ []) ≡ true = list_all-append is_ascii r.body (a ∷ []) ∙ and_from (list_all is_ascii r.body) true r.ascii refl in
    let run = runs_on (l ++ a ∷ []) r.before r.taken (r.body ++ a ∷ []) (r.lead ++ r.body) a k (r.head.thing (a ∷ [])) (beyond (l ++ a ∷ []) 1000 (omega arith)) (none_above (r.body ++ a ∷ []) high) part_is in
    let placed : l ++ a ∷ [] ≡ placed_from at 1 (r.line ++ 38 ∷ []) = sym (placed_append at 1 r.line (38 ∷ [])) in
    let runs = one_more r.full (r.line ++ 38 ∷ []) r.before (Continued a k) r.taken (r.taken ++ (r.lead ++ r.body)) r.outs [] r.runs (subst (λ z. Runs (z ∷ []) r.before r.taken [] (Continued a k) (r.taken ++ (r.lead ++ r.body))) placed run) in
    record {
      full = r.full ++ (r.line ++ 38 ∷ []) ∷ [];
      is = ap (λ z. z ++ 38 ∷ 10 ∷ []) r.is ∙ (append_assoc (fed r.full) r.line (38 ∷ 10 ∷ []) ∙ (ap (λ z. fed r.full ++ z) (sym (append_assoc r.line (38 ∷ []) (10 ∷ []))) ∙ sym (fed_append r.full ((r.line ++ 38 ∷ []) ∷ []))));
      printing = all_more r.full (r.line ++ 38 ∷ []) r.printing (list_all-append is_printing r.line (38 ∷ []) ∙ and_from (list_all is_printing r.line) true r.printing_line refl);
      outs = r.outs;
      amp = a;
      context = k;
      taken = r.taken ++ (r.lead ++ r.body);
      runs = subst (λ z. Runs (numbered 1 (r.full ++ (r.line ++ 38 ∷ []) ∷ [])) Start [] z (Continued a k) (r.taken ++ (r.lead ++ r.body))) (append-nil r.outs) runs;
      ended = r.ended;
      behind_taken = behind_all r.taken r.lead r.body r.context r.joint;
      here = r.here;
      whole = r.whole;
      codes = r.codes;
    }
  where
    by_inside : (i : Bool) → ((i || (not (nat_eq 38 33) && not (nat_eq 38 59))) && true) ≡ true
    by_inside true = refl
    by_inside false = refl

-- a line feed ends the statement
pub row_end : (text : List ℕ) (size : ℕ) (done : List (List ℕ)) (part : List ℕ) → Row text size done part free true → size ≤ 1000 → Fresh (text ++ 10 ∷ []) (done ++ part ∷ [])
row_end text size done part r w =
    let at = 1 + length r.full in
    let l = placed_from at 1 r.line in
    let k = context_behind r.context r.body in
    let e = r.last refl in
    let t = r.taken ++ (r.lead ++ r.body) in
    let code = code_sound r.context r.body r.plain in
    let same = append-nil r.body in
    let inked = ap (λ z. all_blank (code_part r.context z)) same ∙ (ap all_blank code ∙ last_inked r.body e) in
    let part_is : part_of r.before (l ++ []) ≡ record { code = r.body; text = r.lead ++ r.body; next = Start; left_open = None } =
    r.head.part [] inked ∙ (ap (λ z. leading r.lead (part_from r.context z)) same ∙ ap (leading r.lead) (ends_part r.context r.body r.plain e (free_outside k r.here))) in
    let size_placed = length_placed at 1 r.line in
    let narrow = r.short in
    let size_line = length-append l [] in
    let run = runs_end (l ++ []) r.before r.taken r.body (r.lead ++ r.body) (r.head.thing []) (beyond (l ++ []) 1000 (omega arith)) (none_above r.body r.ascii) part_is in
    let full_ink : all_blank t ≡ false = last_inked t (last_behind r.taken (r.lead ++ r.body) (last_behind r.lead r.body e)) in
    record {
      full = r.full ++ r.line ∷ [];
      is = ap (λ z. z ++ 10 ∷ []) r.is ∙ (append_assoc (fed r.full) r.line (10 ∷ []) ∙ sym (fed_append r.full (r.line ∷ [])));
      printing = all_more r.full r.line r.printing r.printing_line;
      outs = r.outs ++ t ∷ [];
      runs = one_more r.full r.line r.before Start r.taken [] r.outs (t ∷ []) r.runs (subst (λ z. Runs (z ∷ []) r.before r.taken (t ∷ []) Start []) (append-nil l) run);
      ended =
          ap (map codes_of) (flat_more r.outs t)
          ∙ (map-append codes_of (flat_map pieces r.outs) (pieces t) ∙ λ i. r.ended i ++ map codes_of (one_piece t r.whole full_ink i))
          ∙ ap (λ z. done ++ z ∷ []) r.codes;
    }
  where
    flat_more : (xs : List (List PlacedByte)) (y : List PlacedByte) → flat_map pieces (xs ++ y ∷ []) ≡ flat_map pieces xs ++ pieces y
    flat_more [] y = append-nil (pieces y)
    flat_more (x ∷ xs) y = ap (λ z. pieces x ++ z) (flat_more xs y) ∙ sym (append_assoc (pieces x) (flat_map pieces xs) (pieces y))

-- the first token of a statement
pub row_first : (text : List ℕ) (done : List (List ℕ)) (x : List ℕ) (m : Mode) (closed : Bool) → Fresh text done → Inked x m closed → Row (text ++ x) (length x) done x m closed
row_first text done x m closed g h =
    let at = 1 + length g.full in
    let l = placed_from at 1 x in
    let f = h.first in
    let byte : PlacedByte = record { code = f.byte; at = record { line = at; col = 1 } } in
    let split : l ≡ byte ∷ placed_from at 2 f.rest = ap (placed_from at 1) f.split in
    let next = h.step Outside tt l (codes_placed at 1 x) in
    record {
      full = g.full;
      line = x;
      is = ap (λ z. z ++ x) g.is;
      short = omega arith;
      printing = g.printing;
      printing_line = h.printing;
      outs = g.outs;
      before = Start;
      taken = [];
      runs = g.runs;
      ended = g.ended;
      context = Outside;
      lead = [];
      body = l;
      head = subst (λ z. Head Start z Outside [] z) (sym split) (head_start byte (placed_from at 2 f.rest) f.ink f.no_mark);
      joint = refl;
      whole = next.0;
      plain = next.0;
      here = next.1;
      ascii = ascii_placed at 1 x h.printing;
      last = λ e. last_placed at 1 x (h.last e);
      codes = codes_placed at 1 x;
    }

-- a token that begins a line
pub row_behind : (text : List ℕ) (done : List (List ℕ)) (part x : List ℕ) (m : Mode) (closed : Bool) → Gap text done part clear → Inked x m closed → Row (text ++ x) (length x) done (part ++ 32 ∷ x) m closed
row_behind text done part x m closed g h =
    let at = 1 + length g.full in
    let l = placed_from at 1 x in
    let f = h.first in
    let byte : PlacedByte = record { code = f.byte; at = record { line = at; col = 1 } } in
    let split : l ≡ byte ∷ placed_from at 2 f.rest = ap (placed_from at 1) f.split in
    let next = h.step Outside tt l (codes_placed at 1 x) in
    let outside = clear_is g.context g.here in
    let gone = g.behind_taken ∙ outside in
    record {
      full = g.full;
      line = x;
      is = ap (λ z. z ++ x) g.is;
      short = omega arith;
      printing = g.printing;
      printing_line = h.printing;
      outs = g.outs;
      before = Continued g.amp g.context;
      taken = g.taken;
      runs = g.runs;
      ended = g.ended;
      context = Outside;
      lead = blank_at g.amp ∷ [];
      body = l;
      head = subst (λ z. Head (Continued g.amp g.context) z Outside (blank_at g.amp ∷ []) z) (sym split) (head_spaced g.amp g.context byte (placed_from at 2 f.rest) (ap is_inside outside) f.ink f.no_mark f.no_amp);
      joint = fold-append behind Outside g.taken (blank_at g.amp ∷ []) ∙ ap (λ z. behind z (blank_at g.amp)) gone;
      whole = sound_append Outside g.taken (blank_at g.amp ∷ l) ∙ and_from (sound Outside g.taken) (sound (context_behind Outside g.taken) (blank_at g.amp ∷ l)) g.whole (ap (λ z. sound z (blank_at g.amp ∷ l)) gone ∙ next.0);
      plain = next.0;
      here = next.1;
      ascii = ascii_placed at 1 x h.printing;
      last = λ e. last_placed at 1 x (h.last e);
      codes = codes_append g.taken (blank_at g.amp ∷ l) ∙ λ i. g.codes i ++ 32 ∷ codes_placed at 1 x i;
    }

-- a literal that goes on behind an `&`
pub row_resumed : (text : List ℕ) (done : List (List ℕ)) (part : List ℕ) (m n : Mode) (closed : Bool) → Gap text done part m → (x : List ℕ) → list_all is_printing x ≡ true → Step m x n → (closed ≡ true → Final x)
    → (wider : ℕ) → 1 + length x ≤ wider → Row (text ++ 38 ∷ x) wider done (part ++ x) n closed
row_resumed text done part m n closed g x p s f wider w =
    let at = 1 + length g.full in
    let l = placed_from at 2 x in
    let a : PlacedByte = record { code = 38; at = record { line = at; col = 1 } } in
    let next = s g.context g.here l (codes_placed at 2 x) in
    record {
      full = g.full;
      line = 38 ∷ x;
      is = ap (λ z. z ++ 38 ∷ x) g.is;
      short = omega arith;
      printing = g.printing;
      printing_line = p;
      outs = g.outs;
      before = Continued g.amp g.context;
      taken = g.taken;
      runs = g.runs;
      ended = g.ended;
      context = g.context;
      lead = [];
      body = l;
      head = head_resumed g.amp g.context a l refl;
      joint = ap (context_behind Outside) (append-nil g.taken) ∙ g.behind_taken;
      whole = sound_append Outside g.taken l ∙ and_from (sound Outside g.taken) (sound (context_behind Outside g.taken) l) g.whole (ap (λ z. sound z l) g.behind_taken ∙ next.0);
      plain = next.0;
      here = next.1;
      ascii = ascii_placed at 2 x p;
      last = λ e. last_placed at 2 x (f e);
      codes = codes_append g.taken l ∙ λ i. g.codes i ++ codes_placed at 2 x i;
    }

-- Whole statements are those of the file, and no line breaks a rule.
pub fresh_blank : Fresh [] []
fresh_blank = record { full = []; is = refl; printing = refl; outs = []; runs = runs_none Start []; ended = refl }

pub fresh_statements : (text : List ℕ) (done : List (List ℕ)) → Fresh text done → (faults_of text ≡ []) × (map codes_of (statements_of text) ≡ done)
fresh_statements text done g =
    let here : physical_lines text ≡ numbered 1 g.full ++ [] = ap physical_lines g.is ∙ (ap (numbered 1) (lines_fed g.full g.printing) ∙ sym (append-nil (numbered 1 g.full))) in (
      ap (λ z. faults_from z Start) here ∙ g.runs.clean [],
      ap (λ z. map codes_of (flat_map pieces (joined z Start []))) here ∙ (ap (λ z. map codes_of (flat_map pieces z)) (g.runs.joins [] ∙ append-nil g.outs) ∙ g.ended),
    )

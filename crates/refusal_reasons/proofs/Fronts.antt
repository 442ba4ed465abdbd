-- Behind whole statements that are read, each word that begins with their tokens, whatever its levels, has these
-- statements first: so what is behind them tells which tokens are too deep.
use Rattle.std.proofs.Common.{◌≡◌, ℕ, zero, suc, ◌+◌, ◌≤◌, true, List, [], ◌∷◌, ◌++◌, length, Option, Some, None, inl, inr, refl, ap, sym, ◌∙◌, subst, arith, append_assoc}
use Rattle.std.proofs.lemmas.Bool.{false≢true, true≢false}
use Rattle.std.proofs.lemmas.List.{append_cancel_right, length-append}
use Rattle.reader_theory.specs.Words.{Mark, bare, Shallow}
use Rattle.reader_theory.specs.Levels.{ShallowFor, Moved}
use Rattle.reader_theory.specs.Limits.{SinksAt, FirstSunk, shifted}
use Rattle.reader_theory.specs.Texts.{AnyOf}
use Rattle.reader_theory.proofs.Marks.{bare_append, bare_length, shallow_append, shallow_front, shallow_back, regroup, never_stops, judge_all, judge_found}
use Rattle.fortran_grammar.specs.Tokens.{Token}
use Rattle.fortran_grammar.specs.Phrases.{Words}
use Rattle.statement_reader.specs.Parts.{Part, Form, formed}
use Rattle.statement_reader.specs.Forms.{Place, part_reader}
use Rattle.statement_reader.specs.Laws.{Part_at}
use Rattle.statement_reader.proofs.Places.{exact_part}
use Rattle.program_reader.specs.Sequence as q
use Rattle.program_reader.specs.Sequence.{State, forms, next, may_end, Rest_of_file}
use Rattle.program_reader.specs.Unfinished.{Parts_from, behind}
use Rattle.program_reader.proofs.Steps.{which}
use Rattle.refusal_reasons.specs.Reasons.{levels_at}
use Rattle.refusal_reasons.proofs.Moving.{any_longer, part_moved}
use Rattle.refusal_reasons.proofs.Apart.{Continues, Begun, same_form}

all_shallow : (n : ℕ) (w : List (Mark Token)) → length w ≤ n → ShallowFor n w → Shallow w
all_shallow n [] l h = tt
all_shallow zero (m ∷ w) l h = absurd (omega arith)
all_shallow (suc n) (m ∷ w) l h = (h.0, all_shallow n w (omega arith) h.1)

moved_shallow : (Q : List (Mark Token) → Type 0) (w : List (Mark Token)) (x : Moved Q (length w) w) → Shallow x.moved
moved_shallow Q w x = all_shallow (length w) x.moved (let i = sym (bare_length x.moved) ∙ (ap length x.same ∙ bare_length w) in omega arith) x.shallow

module _ (limit : ℕ) where
  continues_moved : (also : ℕ) (s : State) (x : List Token) → Continues limit s x → Continues also s x
  continues_moved also s x (inl e) = inl e
  continues_moved also s x (inr z) = inr (by_moved (part_moved limit also z.form s.conditions (length s.blocks) 0 z.part z.front z.is_word (λ k. absurd (omega arith))))
    where
      by_moved : Moved (Words (formed z.form s.conditions z.part) also (length s.blocks)) 0 z.front → Begun also s x
      by_moved m = record { part = z.part; form = z.form; front = m.moved; back = z.back; may = z.may; is_word = m.is_word; split = z.split ∙ ap (λ u. u ++ z.back) (sym m.same) }

  abbrev placed : State → Form → Place
  placed s i = record { form = i; level = length s.blocks; conditions = s.conditions }

  -- what is told of two parts that begin the same tokens, the first of them read
  record One (b c : Part) (u v : List (Mark Token)) (x y : List Token) : Type 0 where
    same_part : b ≡ c
    same_tokens : bare u ≡ bare v
    shallow : Shallow v
    same_rest : x ≡ y

  one_part : (s : State) (b c : Part) (u v : List (Mark Token)) (x y : List Token) → AnyOf (Part_at limit) (forms s) b u → AnyOf (Part_at limit) (forms s) c v → Shallow u → Continues limit (next s b) x → Continues limit (next s c) y → bare u ++ x ≡ bare v ++ y → One b c u v x y
  one_part s b c u v x y hb hc sh rx ry same =
      let (i, m, h) = which limit (q.allowed s) (length s.blocks) s.conditions b u hb in
      let (j, n, k) = which limit (q.allowed s) (length s.blocks) s.conditions c v hc in
      let far = levels_at s + (length u + length v) in
      let mu = part_moved limit far i s.conditions (length s.blocks) (length u) b u h (λ z. omega arith) in
      let mv = part_moved limit far j s.conditions (length s.blocks) (length v) c v k (λ z. omega arith) in
      let is = same_form far s b c mu.moved mv.moved x y (continues_moved far (next s b) x rx) (continues_moved far (next s c) y ry)
      (moved_shallow (Words (formed i s.conditions b) far (length s.blocks)) u mu) (moved_shallow (Words (formed j s.conditions c) far (length s.blocks)) v mv)
      (ap (λ z. z ++ x) mu.same ∙ (same ∙ ap (λ z. z ++ y) (sym mv.same))) i j m n mu.is_word mv.is_word in
      let first = (exact_part limit (placed s i)).given b u x h (never_stops x) ∙ judge_all b u x sh in
      let second = (exact_part limit (placed s i)).given c v y (subst (λ z. Words (formed z s.conditions c) limit (length s.blocks) v) (sym is) k) (never_stops y) in
      let o = judge_found v c b y x (sym second ∙ (ap (part_reader limit (placed s i)) (sym same) ∙ first)) in
      record { same_part = sym o.same_tree; same_tokens = append_cancel_right (bare u) (bare v) y (ap (λ z. bare u ++ z) o.same_rest ∙ same); shallow = o.shallow; same_rest = sym o.same_rest }

  -- what stands behind a part goes on as its next place asks
  goes_on : (s : State) (es : List Part) (v : List (Mark Token)) (r : List Token) → Parts_from limit s es v → (behind s es).conditions ≡ 0 → Continues limit s (bare v ++ r)
  goes_on s [] v r h z = inl z
  goes_on s (b ∷ es) v r (u, w, hb, hr, split) z =
      let (i, m, h) = which limit (q.allowed s) (length s.blocks) s.conditions b u hb in
      inr (record { part = b; form = i; front = u; back = bare w ++ r; may = m; is_word = h; split = ap (λ y. bare y ++ r) split ∙ sym (regroup u w r) })

  no_conditions : (n : ℕ) (os : List q.Open) (k : q.Scope) → q.is_over n os k ≡ true → n ≡ 0
  no_conditions zero os k e = refl
  no_conditions (suc n) os k e = absurd (false≢true e)

  follows : (s : State) (fs : List Part) (v : List (Mark Token)) → Rest_of_file limit s fs v → Continues limit s (bare v)
  follows s [] v h = inl (no_conditions s.conditions s.blocks s.scope h.0)
  follows s (b ∷ fs) v (u, w, hb, hr, split) =
      let (i, m, h) = which limit (q.allowed s) (length s.blocks) s.conditions b u hb in
      inr (record { part = b; form = i; front = u; back = bare w; may = m; is_word = h; split = ap bare split ∙ bare_append u w })

  -- a word that begins with the tokens of these parts, behind which no condition waits for its action
  record Parted (s : State) (es : List Part) (w all : List (Mark Token)) (r : List Token) : Type 0 where
    left : List Part
    word : List (Mark Token)
    rest : List (Mark Token)
    splits : all ≡ word ++ rest
    same : bare word ≡ bare w
    shallow : Shallow word
    is_rest : Rest_of_file limit (behind s es) left rest
    over : bare rest ≡ r

  same_parts : (es fs : List Part) (s : State) (w all : List (Mark Token)) (r : List Token) → Parts_from limit s es w → Shallow w → (behind s es).conditions ≡ 0 → Rest_of_file limit s fs all → bare all ≡ bare w ++ r → Parted s es w all r
  same_parts [] fs s w all r h sh z k e = record { left = fs; word = []; rest = all; splits = refl; same = sym (ap bare h); shallow = tt; is_rest = k; over = e ∙ ap (λ y. bare y ++ r) h }
  same_parts (b ∷ es) [] s w all r (u, v, hb, hr, split) sh z k e =
      let some = any_longer limit (forms s) b u hb in
      let size = sym (ap length (ap bare k.1)) ∙ (ap length (e ∙ (ap (λ y. bare y ++ r) split ∙ sym (regroup u v r))) ∙ length-append (bare u) (bare v ++ r)) in
      absurd (let i = bare_length u in omega arith)
  same_parts (b ∷ es) (c ∷ fs) s w all r (u, v, hb, hr, split) sh z (i, j, hc, k, cut) e =
      let flat = subst Shallow split sh in
      let o = one_part s b c u i (bare v ++ r) (bare j) hb hc (shallow_front u v flat) (goes_on (next s b) es v r hr z) (follows (next s c) fs j k)
      (regroup u v r ∙ (ap (λ y. bare y ++ r) (sym split) ∙ (sym e ∙ (ap bare cut ∙ bare_append i j)))) in
      let m = same_parts es fs (next s b) v j r hr (shallow_back u v flat) z (subst (λ d. Rest_of_file limit (next s d) fs j) (sym o.same_part) k) (sym o.same_rest) in
      record {
        left = m.left;
        word = i ++ m.word;
        rest = m.rest;
        splits = cut ∙ (ap (λ y. i ++ y) m.splits ∙ sym (append_assoc i m.word m.rest));
        same = bare_append i m.word ∙ (ap (λ y. y ++ bare m.word) (sym o.same_tokens) ∙ (ap (λ y. bare u ++ y) m.same ∙ (sym (bare_append u v) ∙ ap bare (sym split))));
        shallow = shallow_append i m.word o.shallow m.shallow;
        is_rest = m.is_rest;
        over = m.over;
      }

  parts_then : (es fs : List Part) (s : State) (w x : List (Mark Token)) → Parts_from limit s es w → Rest_of_file limit (behind s es) fs x → Rest_of_file limit s (es ++ fs) (w ++ x)
  parts_then [] fs s w x h k = subst (λ y. Rest_of_file limit s fs (y ++ x)) (sym h) k
  parts_then (b ∷ es) fs s w x (u, v, hb, hr, split) k = (u, v ++ x, hb, parts_then es fs (next s b) v x hr k, ap (λ y. y ++ x) split ∙ append_assoc u v x)

-- a token that is too deep stands behind a front without one
deep_behind : (f r u t : List (Mark Token)) (m : Mark Token) → f ++ m ∷ r ≡ u ++ t → Shallow u → m.deep ≡ true → (g : List (Mark Token)) × (f ≡ u ++ g) × (t ≡ g ++ m ∷ r)
deep_behind f r [] t m e sh d = (f, refl, sym e)
deep_behind [] r (n ∷ u) t m e sh d = absurd (let k : m ≡ n = cc in true≢false (sym d ∙ (ap (λ z. z.deep) k ∙ sh.0)))
deep_behind (k ∷ f) r (n ∷ u) t m e sh d =
    let same : k ≡ n = cc in
    let rest : f ++ m ∷ r ≡ u ++ t = cc in
    let z = deep_behind f r u t m rest sh.1 d in
    (z.0, ap (λ y. y ∷ f) same ∙ ap (λ y. n ∷ y) z.1, z.2)

cancel_front : (f r s : List Token) → f ++ r ≡ f ++ s → r ≡ s
cancel_front [] r s e = e
cancel_front (x ∷ f) r s e = cancel_front f r s (cc)

module _ (limit : ℕ) (s : State) (es : List Part) (w : List (Mark Token)) (us : List Token) (h : Parts_from limit s es w) (sh : Shallow w) (z : (behind s es).conditions ≡ 0) where
  sinks_back : (d : ℕ) → SinksAt (λ fs v. Rest_of_file limit s fs v) (bare w ++ us) d → (e : ℕ) × (d ≡ length w + e) × SinksAt (λ fs v. Rest_of_file limit (behind s es) fs v) us e
  sinks_back d (fs, f, g, v, m, word, here, flat, deep, l) =
      let c = same_parts limit es fs s w ((f ++ m ∷ g) ++ v) (us ++ bare v) h sh z word (bare_append (f ++ m ∷ g) v ∙ (ap (λ y. y ++ bare v) (sym here) ∙ append_assoc (bare w) us (bare v))) in
      let k = deep_behind f (g ++ v) c.word c.rest m (sym (append_assoc f (m ∷ g) v) ∙ c.splits) c.shallow deep in
      let split : bare w ++ us ≡ bare w ++ bare (k.0 ++ m ∷ g) = here ∙ (ap (λ y. bare (y ++ m ∷ g)) k.1 ∙ (ap bare (append_assoc c.word k.0 (m ∷ g)) ∙ (bare_append c.word (k.0 ++ m ∷ g) ∙ ap (λ y. y ++ bare (k.0 ++ m ∷ g)) c.same))) in (
        length k.0,
        (let size = ap length k.1 ∙ length-append c.word k.0 in let same = sym (bare_length c.word) ∙ (ap length c.same ∙ bare_length w) in omega arith),
        (c.left, k.0, g, v, m, subst (λ y. Rest_of_file limit (behind s es) c.left y) (k.2 ∙ sym (append_assoc k.0 (m ∷ g) v)) c.is_rest, cancel_front (bare w) us (bare (k.0 ++ m ∷ g)) split, shallow_back c.word k.0 (subst Shallow k.1 flat), deep, refl),
      )

  sinks_on : (e : ℕ) → SinksAt (λ fs v. Rest_of_file limit (behind s es) fs v) us e → SinksAt (λ fs v. Rest_of_file limit s fs v) (bare w ++ us) (length w + e)
  sinks_on e (fs, f, g, v, m, word, here, flat, deep, l) =
      let joins : w ++ ((f ++ m ∷ g) ++ v) ≡ ((w ++ f) ++ m ∷ g) ++ v = sym (append_assoc w (f ++ m ∷ g) v) ∙ ap (λ y. y ++ v) (sym (append_assoc w f (m ∷ g))) in (
        es ++ fs,
        w ++ f,
        g,
        v,
        m,
        subst (λ y. Rest_of_file limit s (es ++ fs) y) joins (parts_then limit es fs s w ((f ++ m ∷ g) ++ v) h word),
        ap (λ y. bare w ++ y) here ∙ (sym (bare_append w (f ++ m ∷ g)) ∙ ap bare (sym (append_assoc w f (m ∷ g)))),
        shallow_append w f sh flat,
        deep,
        length-append w f ∙ ap (λ n. length w + n) l,
      )

  pub first_behind : (o : Option ℕ) → FirstSunk (λ fs v. Rest_of_file limit (behind s es) fs v) us o → FirstSunk (λ fs v. Rest_of_file limit s fs v) (bare w ++ us) (shifted (length w) o)
  first_behind None k = λ d i. let (e, is, x) = sinks_back d i in k e x
  first_behind (Some e) k = (sinks_on e k.0, λ d l i. let (n, is, x) = sinks_back d i in k.1 n (omega arith) x)

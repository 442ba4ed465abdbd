-- What a text of parts is answered, its faults by their place alone; what several forms at a place answer together.
use Rattle.std.specs.Prelude.{ℕ, suc, ◌≡◌, ◌+◌, true, cond, nat_lt, ◌≤◌, ◌⊎◌, List, [], ◌∷◌, length, Option, Some, None}
use Rattle.reader_theory.specs.Words.{Cause, Verdict, found, fault}
use Rattle.reader_theory.specs.Readers.{worse}
use Rattle.fortran_grammar.specs.Tokens.{Token}
use Rattle.expr_reader.specs.Tests.{is_word}
use Rattle.expr_reader.specs.Results.{cause_of}
use Rattle.expr_reader.specs.declared.error.Stop.{Stop}
use Rattle.expr_reader.specs.declared.error.ReadError.{ReadError}
use Rattle.expr_reader.specs.declared.error.ReadError.TheVariants as errors
use Rattle.statement_reader.specs.Parts as f
use Rattle.statement_reader.specs.Parts.{Part, Form, is_of}
use Rattle.statement_reader.specs.Forms.{Place, part_reader}
use Rattle.action_reader.specs.Beginnings.{begins}
use Rattle.program_reader.specs.Sequence.{State, next, allowed, rest_reader}
use Rattle.sequence_reader.specs.Statements.{Before_the_end}

-- the parts, or why and before how many tokens reading stops
pub data Answer : Type 0 where
  read : List Part → Answer
  stopped : Cause → ℕ → Answer

abbrev pub answer_of : Verdict Token (List Part) → Answer
answer_of (found es rest) = read es
answer_of (fault c rest) = stopped c (length rest)

abbrev pub stop_of : Stop → Answer
stop_of s = stopped (cause_of s.cause) s.left

-- what was read; else the fault further on; at one place, that a level is too deep
abbrev pub further : Cause → ℕ → Cause → ℕ → Answer
further c m d n = cond (nat_lt m n) (stopped c m) (cond (nat_lt n m) (stopped d n) (stopped (worse c d) m))

abbrev pub better : Answer → Answer → Answer
better (read es) v = read es
better (stopped c m) (read es) = read es
better (stopped c m) (stopped d n) = further c m d n

-- with parts before it
abbrev pub behind_part : Part → Answer → Answer
behind_part b (read es) = read (b ∷ es)
behind_part b (stopped c m) = stopped c m

abbrev pub behind_parts : List Part → Answer → Answer
behind_parts [] v = v
behind_parts (b ∷ bs) v = behind_part b (behind_parts bs v)

-- the form at this place
abbrev pub placed : State → Form → Place
placed s i = record { form = i; level = length s.blocks; conditions = s.conditions }

-- a part, and what the rest of the text is answered
abbrev pub goes : ℕ → ℕ → State → Part → List Token → Answer
goes limit n s b r = behind_part b (answer_of (rest_reader limit n (next s b) r))

abbrev pub follow : ℕ → ℕ → State → Verdict Token Part → Answer
follow limit n s (found b r) = goes limit n s b r
follow limit n s (fault c r) = stopped c (length r)

-- the better one of an answer and those of the forms, one behind the other
abbrev pub gathered : ℕ → ℕ → State → List Token → Answer → List Form → Answer
gathered limit n s ts v [] = v
gathered limit n s ts v (i ∷ is) = gathered limit n s ts (better v (follow limit n s (part_reader limit (placed s i) ts))) is

-- what the forms that were tried make: the part that one of them reads, and the furthest fault of the others
abbrev pub value : {X : Type 0} → (X → Part × List Token) → ℕ → ℕ → State → Option X → Stop → Answer
value look limit n s None e = stop_of e
value look limit n s (Some x) e = better (goes limit n s (look x).0 (look x).1) (stop_of e)

-- the form is one of these
abbrev pub Among : Form → List Form → Type 0
Among i [] = ⊥
Among i (j ∷ js) = (i ≡ j) ⊎ Among i js

-- each of the ones is one of the others
abbrev pub Part_of : List Form → List Form → Type 0
Part_of is js = (i : Form) → Among i is → Among i js

-- a form of the place reads this part; behind the condition of a one-line IF stands a word
pub record Came (limit : ℕ) (s : State) (ts : List Token) (b : Part) (r : List Token) : Type 0 where
  pub form : Form
  pub may : Among form (allowed s)
  pub reads : part_reader limit (placed s form) ts ≡ found b r
  pub word : is_of f.condition_form b ≡ true → begins is_word r ≡ true

abbrev pub Comes : {X : Type 0} → (X → Part × List Token) → ℕ → State → List Token → Option X → Type 0
Comes look limit s ts None = Unit {0}
Comes look limit s ts (Some x) = Came limit s ts (look x).0 (look x).1

-- there are no more tokens than that, and one
abbrev pub Enough : List Token → ℕ → Type 0
Enough ts n = length ts ≤ suc n

-- what the forms that were tried make, for every number of parts that may follow: a form of the place reads what was
-- found, and no fault stands just past whole statements
pub record Tries {X : Type 0} (look : X → Part × List Token) (limit : ℕ) (s : State) (ts : List Token) (v : ℕ → Answer) (tried : Option X) (e : Stop) : Type 0 where
  pub came : Comes look limit s ts tried
  pub late : Before_the_end ts e
  pub makes : (n : ℕ) → Enough ts n → value look limit n s tried e ≡ v n

-- how many levels are open
abbrev pub depth : State → ℕ
depth s = s.conditions + length s.blocks

-- what a whole text is answered, from the parts read so far, the furthest fault so far, and a place from which the rest
-- is to be read
pub record Reached (limit : ℕ) (all : Answer) (s : State) (bs : List Part) (e : Stop) (ts : List Token) : Type 0 where
  pub fuel : ℕ
  pub enough : length ts ≤ fuel
  pub is : all ≡ better (behind_parts bs (answer_of (rest_reader limit fuel s ts))) (stop_of e)

-- this is why the whole text isn't read, unless memory ran out
abbrev pub Ends : ReadError → Answer → Type 0
Ends errors.Memory v = Unit {0}
Ends (errors.Stopped s) v = v ≡ stop_of s

-- Asks at the control board and of an image alone, by their words.
use Rattle.std.proofs.Common.{◌≡◌, ℕ, ◌<◌, ℤ, Bool, true, false, List, [], ◌∷◌, ◌++◌, length, drop, get_or, refl, ap}
use Rattle.std.proofs.Common.{sym}
use Rattle.std.proofs.Common.{◌∙◌, subst, arith, codes, true≢false}
use Rattle.std.specs.List.{list_all}
use Rattle.caf_base.specs.declared.place.ImageNo.{ImageNo}
use Rattle.caf_base.specs.declared.place.Place.{Place}
use Rattle.caf_base.specs.declared.place.Place.TheVariants.{Memory, Board, Own}
use Rattle.caf_base.specs.declared.place.TeamNo.{TeamNo}
use Rattle.caf_base.specs.declared.value.Kind.{Kind}
use Rattle.caf_base.specs.declared.value.Value.{Value}
use Rattle.caf_events.specs.Answers.{Answers}
use Rattle.caf_events.specs.Asks.{place_of}
use Rattle.caf_events.specs.declared.ask.Ask.{Ask}
use Rattle.caf_events.specs.declared.ask.Ask.TheVariants as asks
use Rattle.caf_events.specs.declared.fault.FaultKind.{FaultKind}
use Rattle.caf_events.specs.declared.fault.FaultKind.TheVariants as faults
use Rattle.caf_events.specs.declared.reply.Reply.{Reply}
use Rattle.caf_events.specs.declared.reply.Reply.TheVariants as replies
use Rattle.caf_events.specs.declared.round.Arriving.{Arriving}
use Rattle.caf_events.specs.declared.round.GatherOp.{GatherOp}
use Rattle.trace_text.specs.TraceText.{number_text, image_text, place_word, operands_text}
use Rattle.trace_text.specs.Words.{ask_word, fault_word}
use Rattle.trace_forms.specs.Ranges.{IsLong, AskHasText}
use Rattle.trace_forms.specs.Replies.{HasForm}
use Rattle.trace_fields.specs.Cutting.{other}
use Rattle.trace_fields.specs.Words.{board_by, own_by, limit_by, fault_by}
use Rattle.trace_fields.specs.declared.words.BoardWord.{BoardWord}
use Rattle.trace_fields.specs.declared.words.BoardWord.TheVariants as board
use Rattle.trace_fields.specs.declared.words.LimitWord.{LimitWord}
use Rattle.trace_fields.specs.declared.words.LimitWord.TheVariants as limits
use Rattle.trace_fields.specs.declared.words.OwnWord.{OwnWord}
use Rattle.trace_fields.specs.declared.words.OwnWord.TheVariants as own
use Rattle.trace_fields.proofs.Parts.{digits_clean}
use Rattle.trace_reader.specs.Reading.{PlaceHasText, limit_ask, limit_name}

abbrev is_board : Place → Bool
is_board Board = true
is_board place = false

abbrev is_own : Place → Bool
is_own Own = true
is_own place = false

-- ---- the asks that a word begins
abbrev pub BoardOf : BoardWord → Ask → Type 0
BoardOf board.Arrive ask = (team : TeamNo) × (x : Arriving) × (ask ≡ asks.Arrive team x)
BoardOf board.Leave ask = (team : TeamNo) × (round : ℕ) × (ask ≡ asks.Leave team round)
BoardOf board.Gather ask = (team : TeamNo) × (op : GatherOp) × (root : ℕ) × (kind : Kind) × (vs : List Value)
    × (ask ≡ asks.Gather team op root kind vs)
BoardOf board.Take ask = (team : TeamNo) × (round : ℕ) × (ask ≡ asks.Take team round)
BoardOf board.Pair ask = (images : List ImageNo) × (ask ≡ asks.Pair images)
BoardOf board.Unpair ask = ask ≡ asks.Unpair
BoardOf board.Enter ask = (construct : ℕ) × (ask ≡ asks.Enter construct)
BoardOf board.Exit ask = (construct : ℕ) × (ask ≡ asks.Exit construct)
BoardOf board.Gone ask = ask ≡ asks.Gone
BoardOf board.Stop ask = (code : ℤ) × (ask ≡ asks.Stop code)
BoardOf board.Failed ask = (team : TeamNo) × (ask ≡ asks.Failed team)
BoardOf board.Stopped ask = (team : TeamNo) × (ask ≡ asks.Stopped team)
BoardOf board.Status ask = (team : TeamNo) × (index : ℕ) × (ask ≡ asks.Status team index)

board_of : (ask : Ask) → place_of ask ≡ Board → BoardOf (board_by (ask_word ask)) ask
board_of (asks.Arrive team x) at = (team, x, refl)
board_of (asks.Leave team round) at = (team, round, refl)
board_of (asks.Gather team op root kind vs) at = (team, op, root, kind, vs, refl)
board_of (asks.Take team round) at = (team, round, refl)
board_of (asks.Pair images) at = (images, refl)
board_of asks.Unpair at = refl
board_of (asks.Enter construct) at = (construct, refl)
board_of (asks.Exit construct) at = (construct, refl)
board_of asks.Gone at = refl
board_of (asks.Stop code) at = (code, refl)
board_of (asks.Failed team) at = (team, refl)
board_of (asks.Stopped team) at = (team, refl)
board_of (asks.Status team index) at = (team, index, refl)
board_of ask at = absurd (true≢false (sym (ap is_board at)))

pub on_board : (which told : BoardWord) (word : List ℕ) (ask : Ask) → told ≡ board_by word → told ≡ which
    → word ≡ ask_word ask → place_of ask ≡ Board → BoardOf which ask
on_board which told word ask by is at place = subst (λ w. BoardOf w ask) (sym (ap board_by at) ∙ sym by ∙ is)
    (board_of ask place)

abbrev pub OwnOf : OwnWord → Ask → Type 0
OwnOf own.Print ask = (text : List ℕ) × (ask ≡ asks.Print text)
OwnOf own.Memory ask = ask ≡ asks.Memory
OwnOf own.Fail ask = ask ≡ asks.Fail
OwnOf own.ErrorStop ask = (code : ℤ) × (ask ≡ asks.ErrorStop code)
OwnOf own.Fault ask = (kind : FaultKind) × (ask ≡ asks.Fault kind)
OwnOf own.Limit ask = (limit : LimitWord) × (number : ℕ) × (ask ≡ limit_ask limit number)

own_of : (ask : Ask) → place_of ask ≡ Own → OwnOf (own_by (ask_word ask)) ask
own_of (asks.Print text) at = (text, refl)
own_of asks.Memory at = refl
own_of asks.Fail at = refl
own_of (asks.ErrorStop code) at = (code, refl)
own_of (asks.Fault kind) at = (kind, refl)
own_of (asks.LimitStatements number) at = (limits.Statements, number, refl)
own_of (asks.LimitWords number) at = (limits.Words, number, refl)
own_of (asks.LimitStamp number) at = (limits.Stamp, number, refl)
own_of ask at = absurd (true≢false (sym (ap is_own at)))

pub on_own : (which told : OwnWord) (word : List ℕ) (ask : Ask) → told ≡ own_by word → told ≡ which
    → word ≡ ask_word ask → place_of ask ≡ Own → OwnOf which ask
on_own which told word ask by is at place = subst (λ w. OwnOf w ask) (sym (ap own_by at) ∙ sym by ∙ is)
    (own_of ask place)

-- ---- limits and faults
pub limit_back : (limit : LimitWord) → limit_by (limit_name limit) ≡ limit
limit_back limits.Statements = refl
limit_back limits.Words = refl
limit_back limits.Stamp = refl

pub limit_clean : (limit : LimitWord) → list_all (other 32) (limit_name limit) ≡ true
limit_clean limits.Statements = refl
limit_clean limits.Words = refl
limit_clean limits.Stamp = refl

pub limit_text : (of_team : ℕ → List ℕ) (names : List (List ℕ)) (limit : LimitWord) (number : ℕ) (tail : List ℕ)
    → operands_text of_team names (limit_ask limit number) ++ (32 ∷ tail)
    ≡ 32 ∷ (limit_name limit ++ (32 ∷ (number_text number ++ (32 ∷ tail))))
limit_text of_team names limits.Statements number tail = refl
limit_text of_team names limits.Words number tail = refl
limit_text of_team names limits.Stamp number tail = refl

pub limit_long : (names : List (List ℕ)) (limit : LimitWord) (number : ℕ)
    → AskHasText names (limit_ask limit number) → IsLong number
limit_long names limits.Statements number h = h
limit_long names limits.Words number h = h
limit_long names limits.Stamp number h = h

pub fault_back : (kind : FaultKind) → fault_by (fault_word kind) ≡ kind
fault_back faults.Overflow = refl
fault_back faults.DivideByZero = refl
fault_back faults.Bounds = refl
fault_back faults.ZeroStep = refl
fault_back faults.CoBounds = refl
fault_back faults.NotAllocated = refl
fault_back faults.NotEstablished = refl
fault_back faults.NoTeam = refl
fault_back faults.Cells = refl
fault_back faults.Depth = refl
fault_back faults.Room = refl
fault_back faults.Shape = refl
fault_back faults.Format = refl

-- a printed text is answered that there is nothing to tell
pub print_done : (text : List ℕ) (r : Reply) → HasForm (asks.Print text) r → r ≡ replies.Done
print_done text r form = by r form.answers
  where
    by : (s : Reply) → Answers (asks.Print text) s → s ≡ replies.Done
    by replies.Done h = refl
    by s h = absurd h

-- ---- what stands behind the word of an ask is empty, or begins with a blank
pub led : (of_team : ℕ → List ℕ) (names : List (List ℕ)) (ask : Ask) (tail : List ℕ)
    → operands_text of_team names ask ++ (32 ∷ tail) ≡ 32 ∷ drop 1 (operands_text of_team names ask ++ (32 ∷ tail))
led of_team names (asks.Read owner span) tail = refl
led of_team names (asks.Write owner span vs) tail = refl
led of_team names (asks.Create owner coarray cells) tail = refl
led of_team names (asks.Delete owner coarray) tail = refl
led of_team names (asks.Atomic owner op span x y) tail = refl
led of_team names (asks.Lock owner span) tail = refl
led of_team names (asks.TryLock owner span) tail = refl
led of_team names (asks.Unlock owner span) tail = refl
led of_team names (asks.Post owner span) tail = refl
led of_team names (asks.Wait owner span threshold) tail = refl
led of_team names (asks.Query owner span) tail = refl
led of_team names (asks.Mark owner) tail = refl
led of_team names (asks.Free owner span) tail = refl
led of_team names (asks.Arrive team arriving) tail = refl
led of_team names (asks.Leave team round) tail = refl
led of_team names (asks.Gather team op root kind vs) tail = refl
led of_team names (asks.Take team round) tail = refl
led of_team names (asks.Pair images) tail = refl
led of_team names asks.Unpair tail = refl
led of_team names (asks.Enter construct) tail = refl
led of_team names (asks.Exit construct) tail = refl
led of_team names asks.Gone tail = refl
led of_team names (asks.Stop code) tail = refl
led of_team names (asks.Failed team) tail = refl
led of_team names (asks.Stopped team) tail = refl
led of_team names (asks.Status team index) tail = refl
led of_team names (asks.Print text) tail = refl
led of_team names asks.Memory tail = refl
led of_team names asks.Fail tail = refl
led of_team names (asks.ErrorStop code) tail = refl
led of_team names (asks.Fault kind) tail = refl
led of_team names (asks.LimitStatements number) tail = refl
led of_team names (asks.LimitWords number) tail = refl
led of_team names (asks.LimitStamp number) tail = refl

-- ---- objects
pub place_clean : (place : Place) → PlaceHasText place → list_all (other 32) (place_word place) ≡ true
place_clean (Memory owner) h = digits_clean 32 owner.0 refl (omega arith)
place_clean Board h = refl
place_clean Own h = refl

pub place_fits : (names : List (List ℕ)) (ask : Ask) → AskHasText names ask → PlaceHasText (place_of ask)
place_fits names (asks.Read owner span) h = h.0
place_fits names (asks.Write owner span vs) h = h.0
place_fits names (asks.Create owner coarray cells) h = h.0
place_fits names (asks.Delete owner coarray) h = h.0
place_fits names (asks.Atomic owner op span x y) h = h.0
place_fits names (asks.Lock owner span) h = h.0
place_fits names (asks.TryLock owner span) h = h.0
place_fits names (asks.Unlock owner span) h = h.0
place_fits names (asks.Post owner span) h = h.0
place_fits names (asks.Wait owner span threshold) h = h.0
place_fits names (asks.Query owner span) h = h.0
place_fits names (asks.Mark owner) h = h
place_fits names (asks.Free owner span) h = h.0
place_fits names (asks.Arrive team arriving) h = tt
place_fits names (asks.Leave team round) h = tt
place_fits names (asks.Gather team op root kind vs) h = tt
place_fits names (asks.Take team round) h = tt
place_fits names (asks.Pair images) h = tt
place_fits names asks.Unpair h = tt
place_fits names (asks.Enter construct) h = tt
place_fits names (asks.Exit construct) h = tt
place_fits names asks.Gone h = tt
place_fits names (asks.Stop code) h = tt
place_fits names (asks.Failed team) h = tt
place_fits names (asks.Stopped team) h = tt
place_fits names (asks.Status team index) h = tt
place_fits names (asks.Print text) h = tt
place_fits names asks.Memory h = tt
place_fits names asks.Fail h = tt
place_fits names (asks.ErrorStop code) h = tt
place_fits names (asks.Fault kind) h = tt
place_fits names (asks.LimitStatements number) h = tt
place_fits names (asks.LimitWords number) h = tt
place_fits names (asks.LimitStamp number) h = tt

-- the first byte tells the object
pub at_memory : (place : Place) (first : ℕ) (rest : List ℕ) → first ∷ rest ≡ place_word place → first ≡ 109
    → (owner : ImageNo) × (rest ≡ number_text owner.0) × (place ≡ Memory owner)
at_memory (Memory owner) first rest e is = (owner, ap (drop 1) e, refl)
at_memory Board first rest e is = let b : first ≡ 98 = ap (λ z. get_or z 0 0) e in absurd (omega arith)
at_memory Own first rest e is = let o : first ≡ 111 = ap (λ z. get_or z 0 0) e in absurd (omega arith)

pub at_board : (place : Place) (first : ℕ) (rest : List ℕ) → first ∷ rest ≡ place_word place → first ≡ 98
    → Board ≡ place
at_board (Memory owner) first rest e is = let m : first ≡ 109 = ap (λ z. get_or z 0 0) e in absurd (omega arith)
at_board Board first rest e is = refl
at_board Own first rest e is = let o : first ≡ 111 = ap (λ z. get_or z 0 0) e in absurd (omega arith)

pub at_own : (place : Place) (first : ℕ) (rest : List ℕ) → first ∷ rest ≡ place_word place → (first ≡ 109 → ⊥)
    → (first ≡ 98 → ⊥) → Own ≡ place
at_own (Memory owner) first rest e m b = absurd (m (ap (λ z. get_or z 0 0) e))
at_own Board first rest e m b = absurd (b (ap (λ z. get_or z 0 0) e))
at_own Own first rest e m b = refl

empty : (xs : List ℕ) → 0 < length xs → [] ≡ xs → ⊥
empty [] some e = omega arith
empty (x ∷ xs) some e = cc

pub no_place : (place : Place) → [] ≡ place_word place → ⊥
no_place (Memory owner) e = empty (109 ∷ image_text owner) (omega arith) e
no_place Board e = empty (codes "board") (omega arith) e
no_place Own e = empty (codes "own") (omega arith) e

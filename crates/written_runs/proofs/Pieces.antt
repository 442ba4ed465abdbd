-- The parts of the line of an entry have no line feed, where the names of the coarrays have none.
use Rattle.std.proofs.Common.{◌≡◌, ℕ, zero, suc, Bool, true, false, not, ◌==◌, cond, ℤ, pos, List, [], ◌∷◌, ◌++◌}
use Rattle.std.proofs.Common.{flat_map, refl, ap, sym, codes}
use Rattle.std.specs.Ordering.{int_eq}
use Rattle.std.specs.Prelude.{Option, None, Some, slice_get}
use Rattle.std.proofs.lemmas.Bool.{and_from}
use Rattle.caf_base.specs.declared.place.ImageNo.{ImageNo}
use Rattle.caf_base.specs.declared.place.Place.{Place}
use Rattle.caf_base.specs.declared.place.Place.TheVariants.{Memory, Board, Own}
use Rattle.caf_base.specs.declared.span.Span.{Span}
use Rattle.caf_base.specs.declared.value.AtomicOp.{AtomicOp}
use Rattle.caf_base.specs.declared.value.AtomicOp.TheVariants as operations
use Rattle.caf_base.specs.declared.value.Kind.{Kind}
use Rattle.caf_base.specs.declared.value.Kind.TheVariants as kinds
use Rattle.caf_base.specs.declared.value.Value.{Value}
use Rattle.caf_base.specs.declared.value.Value.TheVariants as values
use Rattle.caf_text.specs.Numbers.{decimal_text}
use Rattle.caf_events.specs.declared.ask.Ask.{Ask}
use Rattle.caf_events.specs.declared.ask.Ask.TheVariants as asks
use Rattle.caf_events.specs.declared.event.Entry.{Entry}
use Rattle.caf_events.specs.declared.fault.FaultKind.{FaultKind}
use Rattle.caf_events.specs.declared.fault.FaultKind.TheVariants as faults
use Rattle.caf_events.specs.declared.reply.Reply.{Reply}
use Rattle.caf_events.specs.declared.reply.Reply.TheVariants as replies
use Rattle.caf_events.specs.declared.reply.FormedTeam.{FormedTeam}
use Rattle.caf_events.specs.declared.round.Allotted.{Allotted}
use Rattle.caf_events.specs.declared.round.Arriving.{Arriving}
use Rattle.caf_events.specs.declared.round.Arriving.TheVariants as arrivings
use Rattle.caf_events.specs.declared.round.GatherOp.{GatherOp}
use Rattle.caf_events.specs.declared.round.GatherOp.TheVariants as gathers
use Rattle.trace_theory.specs.Entries.{Each}
use Rattle.trace_text.specs.Forms.{Form, First, Second, team_number_text, number_behind, asked_team}
use Rattle.trace_text.specs.TraceText.{joined, spaced, number_text, value_text, values_text, image_text, name_in, name_text, dimension_text, span_text}
use Rattle.trace_text.specs.TraceText.{atomic_word, gather_word, kind_word, bounds_text, shape_text, cobound_text, allotted_text, spaced_name, arriving_text}
use Rattle.trace_text.specs.TraceText.{escaped, operands_text, ask_text, team_text, teams_text, indices_text, taken_values, reply_text, place_word}
use Rattle.trace_text.specs.Words.{fault_word, ask_word}
use Rattle.written_runs.proofs.Clean.{no_feed, Clean, clean_both, clean_flat, clean_joined, clean_number, clean_signed, clean_logical}

-- ---- words
pub clean_fault : (kind : FaultKind) → Clean (fault_word kind)
clean_fault faults.Overflow = refl
clean_fault faults.DivideByZero = refl
clean_fault faults.Bounds = refl
clean_fault faults.ZeroStep = refl
clean_fault faults.CoBounds = refl
clean_fault faults.NotAllocated = refl
clean_fault faults.NotEstablished = refl
clean_fault faults.NoTeam = refl
clean_fault faults.Cells = refl
clean_fault faults.Depth = refl
clean_fault faults.Room = refl
clean_fault faults.Shape = refl
clean_fault faults.Format = refl

pub clean_word : (ask : Ask) → Clean (ask_word ask)
clean_word (asks.Read owner span) = refl
clean_word (asks.Write owner span vs) = refl
clean_word (asks.Create owner coarray cells) = refl
clean_word (asks.Delete owner coarray) = refl
clean_word (asks.Atomic owner op span x y) = refl
clean_word (asks.Lock owner span) = refl
clean_word (asks.TryLock owner span) = refl
clean_word (asks.Unlock owner span) = refl
clean_word (asks.Post owner span) = refl
clean_word (asks.Wait owner span threshold) = refl
clean_word (asks.Query owner span) = refl
clean_word (asks.Mark owner) = refl
clean_word (asks.Free owner span) = refl
clean_word (asks.Arrive team arriving) = refl
clean_word (asks.Leave team round) = refl
clean_word (asks.Gather team op root kind vs) = refl
clean_word (asks.Take team round) = refl
clean_word (asks.Pair images) = refl
clean_word asks.Unpair = refl
clean_word (asks.Enter construct) = refl
clean_word (asks.Exit construct) = refl
clean_word asks.Gone = refl
clean_word (asks.Stop code) = refl
clean_word (asks.Failed team) = refl
clean_word (asks.Stopped team) = refl
clean_word (asks.Status team index) = refl
clean_word (asks.Print text) = refl
clean_word asks.Memory = refl
clean_word asks.Fail = refl
clean_word (asks.ErrorStop code) = refl
clean_word (asks.Fault kind) = refl
clean_word (asks.LimitStatements number) = refl
clean_word (asks.LimitWords number) = refl
clean_word (asks.LimitStamp number) = refl

clean_atomic : (op : AtomicOp) → Clean (atomic_word op)
clean_atomic operations.Define = refl
clean_atomic operations.Ref = refl
clean_atomic operations.Add = refl
clean_atomic operations.And = refl
clean_atomic operations.Or = refl
clean_atomic operations.Xor = refl
clean_atomic operations.Cas = refl

clean_gather : (op : GatherOp) → Clean (gather_word op)
clean_gather gathers.Sum = refl
clean_gather gathers.Min = refl
clean_gather gathers.Max = refl
clean_gather gathers.Broadcast = refl

clean_kind : (kind : Kind) → Clean (kind_word kind)
clean_kind kinds.I4 = refl
clean_kind kinds.I8 = refl
clean_kind kinds.L4 = refl

-- ---- values, images and names
pub clean_value : (v : Value) → Clean (value_text v)
clean_value (values.Int z) = clean_signed z
clean_value (values.Bool b) = clean_logical b

pub clean_values : (vs : List Value) → Clean (values_text vs)
clean_values vs = clean_joined (codes ",") value_text refl clean_value vs

clean_image : (image : ImageNo) → Clean (image_text image)
clean_image image = clean_number image.0

clean_option : (names : List (List ℕ)) → Each Clean names → (k : ℕ) → Clean (name_in (slice_get names k))
clean_option [] h k = refl
clean_option (n ∷ ns) h zero = h.0
clean_option (n ∷ ns) h (suc k) = clean_option ns h.1 k

pub clean_name : (names : List (List ℕ)) → Each Clean names → (k : ℕ) → Clean (name_text names k)
clean_name names h k = clean_option names h k

clean_bounds : (b : ℤ × ℤ) → Clean (bounds_text b)
clean_bounds b = clean_both (decimal_text b.0 ++ codes ":") (decimal_text b.1)
    (clean_both (decimal_text b.0) (codes ":") (clean_signed b.0) refl) (clean_signed b.1)

clean_cobound : (b : ℤ × ℤ) → Clean (cobound_text b)
clean_cobound b = clean_both (bounds_text b) (codes ",") (clean_bounds b) refl

clean_shape : (ds : List (ℤ × ℤ)) → Clean (shape_text ds)
clean_shape [] = refl
clean_shape (d ∷ ds) =
    let inner = joined (codes ",") bounds_text (d ∷ ds) in
    clean_both (codes "(" ++ inner) (codes ")") (clean_both (codes "(") inner refl (clean_joined (codes ",") bounds_text refl clean_bounds (d ∷ ds))) refl

clean_dimension : (d : ℕ × ℤ) → Clean (dimension_text d)
clean_dimension d =
    let front = codes ":" ++ number_text d.0 in
    clean_both (front ++ codes "*") (decimal_text d.1)
    (clean_both front (codes "*") (clean_both (codes ":") (number_text d.0) refl (clean_number d.0)) refl) (clean_signed d.1)

clean_escaped : (b : ℕ) → Clean (escaped b)
clean_escaped b = by_test (b == 10) (b == 92) refl
  where
    by_test : (t u : Bool) → t ≡ (b == 10) → Clean (cond t (codes "\\n") (cond u (codes "\\\\") (b ∷ [])))
    by_test true u e = refl
    by_test false true e = refl
    by_test false false e = and_from (no_feed b) true (sym (ap not e)) refl

clean_number_option : (o : Option ℤ) → Clean (team_number_text o)
clean_number_option None = refl
clean_number_option (Some z) = clean_signed z

pub clean_team : (form : Form) (before : List Entry) (team : ℕ) → Clean (asked_team form before team)
clean_team First before team = clean_number team
clean_team Second before team =
    let number = number_behind before team in
    clean_both (number_text team ++ codes "/") (team_number_text number)
    (clean_both (number_text team) (codes "/") (clean_number team) refl) (clean_number_option number)

-- ---- asks
module _ (of_team : ℕ → List ℕ) (teams : (t : ℕ) → Clean (of_team t)) (names : List (List ℕ)) (clean : Each Clean names) where
  clean_span : (s : Span) → Clean (span_text names s)
  clean_span s =
      let name = name_text names s.coarray in
      let front = (name ++ codes ":") ++ number_text s.start in
      clean_both front (flat_map dimension_text s.dims)
      (clean_both (name ++ codes ":") (number_text s.start) (clean_both name (codes ":") (clean_name names clean s.coarray) refl) (clean_number s.start))
      (clean_flat dimension_text clean_dimension s.dims)

  clean_allotted : (a : Allotted) → Clean (allotted_text names a)
  clean_allotted a =
      let name = name_text names a.coarray in
      let one = codes " " ++ name in
      let two = one ++ shape_text a.dims in
      let three = two ++ codes "[" in
      let four = three ++ flat_map cobound_text a.codims in
      let five = four ++ decimal_text a.last in
      clean_both five (codes ":*]")
      (clean_both four (decimal_text a.last)
      (clean_both three (flat_map cobound_text a.codims)
      (clean_both two (codes "[")
      (clean_both one (shape_text a.dims) (clean_both (codes " ") name refl (clean_name names clean a.coarray)) (clean_shape a.dims)) refl)
      (clean_flat cobound_text clean_cobound a.codims)) (clean_signed a.last)) refl

  clean_arriving : (a : Arriving) → Clean (arriving_text names a)
  clean_arriving arrivings.Sync = refl
  clean_arriving (arrivings.Form number new_index) =
      let front = codes " form " ++ decimal_text number in
      clean_both (front ++ codes " ") (decimal_text new_index)
      (clean_both front (codes " ") (clean_both (codes " form ") (decimal_text number) refl (clean_signed number)) refl) (clean_signed new_index)
  clean_arriving arrivings.Change = refl
  clean_arriving arrivings.End = refl
  clean_arriving (arrivings.Allocate list) = clean_both (codes " allocate") (flat_map (allotted_text names) list) refl (clean_flat (allotted_text names) clean_allotted list)
  clean_arriving (arrivings.Deallocate list) =
      clean_both (codes " deallocate") (flat_map (spaced_name names) list) refl (clean_flat (spaced_name names) (λ k. clean_name names clean k) list)

  clean_operands : (a : Ask) → Clean (operands_text of_team names a)
  clean_operands (asks.Read owner span) = clean_span span
  clean_operands (asks.Write owner span vs) = clean_both (spaced (span_text names span)) (spaced (values_text vs)) (clean_span span) (clean_values vs)
  clean_operands (asks.Create owner coarray cells) = clean_both (spaced_name names coarray) (spaced (number_text cells)) (clean_name names clean coarray) (clean_number cells)
  clean_operands (asks.Delete owner coarray) = clean_name names clean coarray
  clean_operands (asks.Atomic owner op span x y) =
      let one = spaced (atomic_word op) in
      let two = one ++ spaced (span_text names span) in
      let three = two ++ spaced (value_text x) in
      clean_both three (spaced (value_text y))
      (clean_both two (spaced (value_text x)) (clean_both one (spaced (span_text names span)) (clean_atomic op) (clean_span span)) (clean_value x)) (clean_value y)
  clean_operands (asks.Lock owner span) = clean_span span
  clean_operands (asks.TryLock owner span) = clean_span span
  clean_operands (asks.Unlock owner span) = clean_span span
  clean_operands (asks.Post owner span) = clean_span span
  clean_operands (asks.Wait owner span threshold) = clean_both (spaced (span_text names span)) (spaced (number_text threshold)) (clean_span span) (clean_number threshold)
  clean_operands (asks.Query owner span) = clean_span span
  clean_operands (asks.Mark owner) = refl
  clean_operands (asks.Free owner span) = clean_span span
  clean_operands (asks.Arrive team arriving) = clean_both (spaced (of_team team.0)) (arriving_text names arriving) (teams team.0) (clean_arriving arriving)
  clean_operands (asks.Leave team round) = clean_both (spaced (of_team team.0)) (spaced (number_text round)) (teams team.0) (clean_number round)
  clean_operands (asks.Gather team op root kind vs) =
      let one = spaced (of_team team.0) in
      let two = one ++ spaced (gather_word op) in
      let three = two ++ spaced (number_text root) in
      let four = three ++ spaced (kind_word kind) in
      clean_both four (spaced (values_text vs))
      (clean_both three (spaced (kind_word kind))
      (clean_both two (spaced (number_text root)) (clean_both one (spaced (gather_word op)) (teams team.0) (clean_gather op)) (clean_number root)) (clean_kind kind)) (clean_values vs)
  clean_operands (asks.Take team round) = clean_both (spaced (of_team team.0)) (spaced (number_text round)) (teams team.0) (clean_number round)
  clean_operands (asks.Pair images) = clean_joined (codes ",") image_text refl clean_image images
  clean_operands asks.Unpair = refl
  clean_operands (asks.Enter construct) = clean_number construct
  clean_operands (asks.Exit construct) = clean_number construct
  clean_operands asks.Gone = refl
  clean_operands (asks.Stop code) = clean_signed code
  clean_operands (asks.Failed team) = teams team.0
  clean_operands (asks.Stopped team) = teams team.0
  clean_operands (asks.Status team index) = clean_both (spaced (of_team team.0)) (spaced (number_text index)) (teams team.0) (clean_number index)
  clean_operands (asks.Print text) = clean_flat escaped clean_escaped text
  clean_operands asks.Memory = refl
  clean_operands asks.Fail = refl
  clean_operands (asks.ErrorStop code) = clean_signed code
  clean_operands (asks.Fault kind) = clean_fault kind
  clean_operands (asks.LimitStatements number) = clean_both (codes " statements ") (number_text number) refl (clean_number number)
  clean_operands (asks.LimitWords number) = clean_both (codes " words ") (number_text number) refl (clean_number number)
  clean_operands (asks.LimitStamp number) = clean_both (codes " stamp ") (number_text number) refl (clean_number number)

  pub clean_ask : (a : Ask) → Clean (ask_text of_team names a)
  clean_ask a = clean_both (ask_word a) (operands_text of_team names a) (clean_word a) (clean_operands a)

-- ---- replies
clean_formed : (t : FormedTeam) → Clean (team_text t)
clean_formed t =
    let one = spaced (number_text t.team.0) in
    let two = one ++ codes "/" in
    let three = two ++ decimal_text t.number in
    let four = three ++ codes ":" in
    clean_both four (joined (codes ".") image_text t.members)
    (clean_both three (codes ":") (clean_both two (decimal_text t.number) (clean_both one (codes "/") (clean_number t.team.0) refl) (clean_signed t.number)) refl)
    (clean_joined (codes ".") image_text refl clean_image t.members)

clean_formed_all : (ts : List FormedTeam) → Clean (teams_text ts)
clean_formed_all [] = refl
clean_formed_all (t ∷ ts) = clean_both (codes " teams") (flat_map team_text (t ∷ ts)) refl (clean_flat team_text clean_formed (t ∷ ts))

clean_indices : (is : List ℕ) → Clean (indices_text is)
clean_indices [] = refl
clean_indices (i ∷ is) = clean_joined (codes ",") number_text refl clean_number (i ∷ is)

clean_taken : (b : Bool) (vs : List Value) → Clean (taken_values b vs)
clean_taken true vs = clean_values vs
clean_taken false vs = refl

pub clean_reply : (r : Reply) → Clean (reply_text r)
clean_reply replies.Done = refl
clean_reply replies.Dead = refl
clean_reply replies.Absent = refl
clean_reply replies.Overflow = refl
clean_reply replies.Busy = refl
clean_reply (replies.Values vs) = clean_values vs
clean_reply (replies.Old value) = clean_value value
clean_reply (replies.Number status) = clean_signed status
clean_reply (replies.Count count) = clean_number count
clean_reply (replies.Round round) = clean_both (codes "round ") (number_text round) refl (clean_number round)
clean_reply (replies.Clash image line) =
    let front = codes "clash " ++ image_text image in
    clean_both front (spaced (number_text line)) (clean_both (codes "clash ") (image_text image) refl (clean_image image)) (clean_number line)
clean_reply (replies.Indices indices) = clean_indices indices
clean_reply (replies.Taken status vs) =
    clean_both (decimal_text status) (taken_values (int_eq status (pos 0)) vs) (clean_signed status) (clean_taken (int_eq status (pos 0)) vs)
clean_reply (replies.Left status teams) = clean_both (decimal_text status) (teams_text teams) (clean_signed status) (clean_formed_all teams)

pub clean_place : (x : Place) → Clean (place_word x)
clean_place (Memory owner) = clean_both (codes "m") (image_text owner) refl (clean_image owner)
clean_place Board = refl
clean_place Own = refl

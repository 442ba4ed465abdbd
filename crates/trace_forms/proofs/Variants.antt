-- The first word of an ask tells its variant.
use Rattle.std.proofs.Common.{◌≡◌, ℕ, true, cond, ℤ, List, ◌⊎◌, inl, inr, refl, ap, sym, ◌∙◌, subst, codes, bytes_eq}
use Rattle.std.specs.List.{list_all}
use Rattle.caf_base.specs.declared.place.ImageNo.{ImageNo}
use Rattle.caf_base.specs.declared.place.TeamNo.{TeamNo}
use Rattle.caf_base.specs.declared.span.Span.{Span}
use Rattle.caf_base.specs.declared.value.Value.{Value}
use Rattle.caf_base.specs.declared.value.AtomicOp.{AtomicOp}
use Rattle.caf_base.specs.declared.value.Kind.{Kind}
use Rattle.caf_events.specs.declared.round.GatherOp.{GatherOp}
use Rattle.caf_events.specs.declared.round.Arriving.{Arriving}
use Rattle.caf_events.specs.declared.fault.FaultKind.{FaultKind}
use Rattle.caf_events.specs.declared.ask.Ask.{Ask}
use Rattle.caf_events.specs.declared.ask.Ask.TheVariants as asks
use Rattle.trace_text.specs.Words.{ask_word}
use Rattle.trace_forms.proofs.Fields.{is_field}

pub data Variant : Type 0 where
  read_ask : Variant
  write_ask : Variant
  create_ask : Variant
  delete_ask : Variant
  atomic_ask : Variant
  lock_ask : Variant
  try_lock_ask : Variant
  unlock_ask : Variant
  post_ask : Variant
  wait_ask : Variant
  query_ask : Variant
  mark_ask : Variant
  free_ask : Variant
  arrive_ask : Variant
  leave_ask : Variant
  gather_ask : Variant
  take_ask : Variant
  pair_ask : Variant
  unpair_ask : Variant
  enter_ask : Variant
  exit_ask : Variant
  gone_ask : Variant
  stop_ask : Variant
  failed_ask : Variant
  stopped_ask : Variant
  status_ask : Variant
  print_ask : Variant
  memory_ask : Variant
  fail_ask : Variant
  error_stop_ask : Variant
  fault_ask : Variant
  limit_ask : Variant

abbrev pub variant_of : Ask → Variant
variant_of (asks.Read owner span) = read_ask
variant_of (asks.Write owner span vs) = write_ask
variant_of (asks.Create owner coarray cells) = create_ask
variant_of (asks.Delete owner coarray) = delete_ask
variant_of (asks.Atomic owner op span x y) = atomic_ask
variant_of (asks.Lock owner span) = lock_ask
variant_of (asks.TryLock owner span) = try_lock_ask
variant_of (asks.Unlock owner span) = unlock_ask
variant_of (asks.Post owner span) = post_ask
variant_of (asks.Wait owner span threshold) = wait_ask
variant_of (asks.Query owner span) = query_ask
variant_of (asks.Mark owner) = mark_ask
variant_of (asks.Free owner span) = free_ask
variant_of (asks.Arrive team arriving) = arrive_ask
variant_of (asks.Leave team round) = leave_ask
variant_of (asks.Gather team op root kind vs) = gather_ask
variant_of (asks.Take team round) = take_ask
variant_of (asks.Pair images) = pair_ask
variant_of asks.Unpair = unpair_ask
variant_of (asks.Enter construct) = enter_ask
variant_of (asks.Exit construct) = exit_ask
variant_of asks.Gone = gone_ask
variant_of (asks.Stop code) = stop_ask
variant_of (asks.Failed team) = failed_ask
variant_of (asks.Stopped team) = stopped_ask
variant_of (asks.Status team index) = status_ask
variant_of (asks.Print text) = print_ask
variant_of asks.Memory = memory_ask
variant_of asks.Fail = fail_ask
variant_of (asks.ErrorStop code) = error_stop_ask
variant_of (asks.Fault kind) = fault_ask
variant_of (asks.LimitStatements number) = limit_ask
variant_of (asks.LimitWords number) = limit_ask
variant_of (asks.LimitStamp number) = limit_ask

pub variant_by : List ℕ → Variant
variant_by w =
    cond (bytes_eq w (codes "read")) read_ask
    (cond (bytes_eq w (codes "write")) write_ask
    (cond (bytes_eq w (codes "create")) create_ask
    (cond (bytes_eq w (codes "delete")) delete_ask
    (cond (bytes_eq w (codes "atomic")) atomic_ask
    (cond (bytes_eq w (codes "lock")) lock_ask
    (cond (bytes_eq w (codes "trylock")) try_lock_ask
    (cond (bytes_eq w (codes "unlock")) unlock_ask
    (cond (bytes_eq w (codes "post")) post_ask
    (cond (bytes_eq w (codes "wait")) wait_ask
    (cond (bytes_eq w (codes "query")) query_ask
    (cond (bytes_eq w (codes "mark")) mark_ask
    (cond (bytes_eq w (codes "free")) free_ask
    (cond (bytes_eq w (codes "arrive")) arrive_ask
    (cond (bytes_eq w (codes "leave")) leave_ask
    (cond (bytes_eq w (codes "gather")) gather_ask
    (cond (bytes_eq w (codes "take")) take_ask
    (cond (bytes_eq w (codes "pair")) pair_ask
    (cond (bytes_eq w (codes "unpair")) unpair_ask
    (cond (bytes_eq w (codes "enter")) enter_ask
    (cond (bytes_eq w (codes "exit")) exit_ask
    (cond (bytes_eq w (codes "gone")) gone_ask
    (cond (bytes_eq w (codes "stop")) stop_ask
    (cond (bytes_eq w (codes "failed")) failed_ask
    (cond (bytes_eq w (codes "stopped")) stopped_ask
    (cond (bytes_eq w (codes "status")) status_ask
    (cond (bytes_eq w (codes "print")) print_ask
    (cond (bytes_eq w (codes "memory")) memory_ask
    (cond (bytes_eq w (codes "fail")) fail_ask
    (cond (bytes_eq w (codes "errorstop")) error_stop_ask
    (cond (bytes_eq w (codes "fault")) fault_ask limit_ask))))))))))))))))))))))))))))))

pub variant_of_word : (a : Ask) → variant_by (ask_word a) ≡ variant_of a
unfolding variant_by
variant_of_word (asks.Read owner span) = refl
variant_of_word (asks.Write owner span vs) = refl
variant_of_word (asks.Create owner coarray cells) = refl
variant_of_word (asks.Delete owner coarray) = refl
variant_of_word (asks.Atomic owner op span x y) = refl
variant_of_word (asks.Lock owner span) = refl
variant_of_word (asks.TryLock owner span) = refl
variant_of_word (asks.Unlock owner span) = refl
variant_of_word (asks.Post owner span) = refl
variant_of_word (asks.Wait owner span threshold) = refl
variant_of_word (asks.Query owner span) = refl
variant_of_word (asks.Mark owner) = refl
variant_of_word (asks.Free owner span) = refl
variant_of_word (asks.Arrive team arriving) = refl
variant_of_word (asks.Leave team round) = refl
variant_of_word (asks.Gather team op root kind vs) = refl
variant_of_word (asks.Take team round) = refl
variant_of_word (asks.Pair images) = refl
variant_of_word asks.Unpair = refl
variant_of_word (asks.Enter construct) = refl
variant_of_word (asks.Exit construct) = refl
variant_of_word asks.Gone = refl
variant_of_word (asks.Stop code) = refl
variant_of_word (asks.Failed team) = refl
variant_of_word (asks.Stopped team) = refl
variant_of_word (asks.Status team index) = refl
variant_of_word (asks.Print text) = refl
variant_of_word asks.Memory = refl
variant_of_word asks.Fail = refl
variant_of_word (asks.ErrorStop code) = refl
variant_of_word (asks.Fault kind) = refl
variant_of_word (asks.LimitStatements number) = refl
variant_of_word (asks.LimitWords number) = refl
variant_of_word (asks.LimitStamp number) = refl

pub word_inside : (a : Ask) → list_all is_field (ask_word a) ≡ true
word_inside (asks.Read owner span) = refl
word_inside (asks.Write owner span vs) = refl
word_inside (asks.Create owner coarray cells) = refl
word_inside (asks.Delete owner coarray) = refl
word_inside (asks.Atomic owner op span x y) = refl
word_inside (asks.Lock owner span) = refl
word_inside (asks.TryLock owner span) = refl
word_inside (asks.Unlock owner span) = refl
word_inside (asks.Post owner span) = refl
word_inside (asks.Wait owner span threshold) = refl
word_inside (asks.Query owner span) = refl
word_inside (asks.Mark owner) = refl
word_inside (asks.Free owner span) = refl
word_inside (asks.Arrive team arriving) = refl
word_inside (asks.Leave team round) = refl
word_inside (asks.Gather team op root kind vs) = refl
word_inside (asks.Take team round) = refl
word_inside (asks.Pair images) = refl
word_inside asks.Unpair = refl
word_inside (asks.Enter construct) = refl
word_inside (asks.Exit construct) = refl
word_inside asks.Gone = refl
word_inside (asks.Stop code) = refl
word_inside (asks.Failed team) = refl
word_inside (asks.Stopped team) = refl
word_inside (asks.Status team index) = refl
word_inside (asks.Print text) = refl
word_inside asks.Memory = refl
word_inside asks.Fail = refl
word_inside (asks.ErrorStop code) = refl
word_inside (asks.Fault kind) = refl
word_inside (asks.LimitStatements number) = refl
word_inside (asks.LimitWords number) = refl
word_inside (asks.LimitStamp number) = refl

abbrev pub HasVariant : Variant → Ask → Type 0
HasVariant read_ask b = (owner : ImageNo) × (span : Span) × (b ≡ (asks.Read owner span))
HasVariant write_ask b = (owner : ImageNo) × (span : Span) × (vs : List Value) × (b ≡ (asks.Write owner span vs))
HasVariant create_ask b = (owner : ImageNo) × (coarray : ℕ) × (cells : ℕ) × (b ≡ (asks.Create owner coarray cells))
HasVariant delete_ask b = (owner : ImageNo) × (coarray : ℕ) × (b ≡ (asks.Delete owner coarray))
HasVariant atomic_ask b = (owner : ImageNo) × (op : AtomicOp) × (span : Span) × (x : Value) × (y : Value)
    × (b ≡ (asks.Atomic owner op span x y))
HasVariant lock_ask b = (owner : ImageNo) × (span : Span) × (b ≡ (asks.Lock owner span))
HasVariant try_lock_ask b = (owner : ImageNo) × (span : Span) × (b ≡ (asks.TryLock owner span))
HasVariant unlock_ask b = (owner : ImageNo) × (span : Span) × (b ≡ (asks.Unlock owner span))
HasVariant post_ask b = (owner : ImageNo) × (span : Span) × (b ≡ (asks.Post owner span))
HasVariant wait_ask b = (owner : ImageNo) × (span : Span) × (threshold : ℕ) × (b ≡ (asks.Wait owner span threshold))
HasVariant query_ask b = (owner : ImageNo) × (span : Span) × (b ≡ (asks.Query owner span))
HasVariant mark_ask b = (owner : ImageNo) × (b ≡ (asks.Mark owner))
HasVariant free_ask b = (owner : ImageNo) × (span : Span) × (b ≡ (asks.Free owner span))
HasVariant arrive_ask b = (team : TeamNo) × (arriving : Arriving) × (b ≡ (asks.Arrive team arriving))
HasVariant leave_ask b = (team : TeamNo) × (round : ℕ) × (b ≡ (asks.Leave team round))
HasVariant gather_ask b = (team : TeamNo) × (op : GatherOp) × (root : ℕ) × (kind : Kind) × (vs : List Value)
    × (b ≡ (asks.Gather team op root kind vs))
HasVariant take_ask b = (team : TeamNo) × (round : ℕ) × (b ≡ (asks.Take team round))
HasVariant pair_ask b = (images : List ImageNo) × (b ≡ (asks.Pair images))
HasVariant unpair_ask b = b ≡ asks.Unpair
HasVariant enter_ask b = (construct : ℕ) × (b ≡ (asks.Enter construct))
HasVariant exit_ask b = (construct : ℕ) × (b ≡ (asks.Exit construct))
HasVariant gone_ask b = b ≡ asks.Gone
HasVariant stop_ask b = (code : ℤ) × (b ≡ (asks.Stop code))
HasVariant failed_ask b = (team : TeamNo) × (b ≡ (asks.Failed team))
HasVariant stopped_ask b = (team : TeamNo) × (b ≡ (asks.Stopped team))
HasVariant status_ask b = (team : TeamNo) × (index : ℕ) × (b ≡ (asks.Status team index))
HasVariant print_ask b = (text : List ℕ) × (b ≡ (asks.Print text))
HasVariant memory_ask b = b ≡ asks.Memory
HasVariant fail_ask b = b ≡ asks.Fail
HasVariant error_stop_ask b = (code : ℤ) × (b ≡ (asks.ErrorStop code))
HasVariant fault_ask b = (kind : FaultKind) × (b ≡ (asks.Fault kind))
HasVariant limit_ask b = (number : ℕ)
    × ((b ≡ asks.LimitStatements number) ⊎ ((b ≡ asks.LimitWords number) ⊎ (b ≡ asks.LimitStamp number)))

pub has_variant : (b : Ask) → HasVariant (variant_of b) b
has_variant (asks.Read owner span) = (owner, span, refl)
has_variant (asks.Write owner span vs) = (owner, span, vs, refl)
has_variant (asks.Create owner coarray cells) = (owner, coarray, cells, refl)
has_variant (asks.Delete owner coarray) = (owner, coarray, refl)
has_variant (asks.Atomic owner op span x y) = (owner, op, span, x, y, refl)
has_variant (asks.Lock owner span) = (owner, span, refl)
has_variant (asks.TryLock owner span) = (owner, span, refl)
has_variant (asks.Unlock owner span) = (owner, span, refl)
has_variant (asks.Post owner span) = (owner, span, refl)
has_variant (asks.Wait owner span threshold) = (owner, span, threshold, refl)
has_variant (asks.Query owner span) = (owner, span, refl)
has_variant (asks.Mark owner) = (owner, refl)
has_variant (asks.Free owner span) = (owner, span, refl)
has_variant (asks.Arrive team arriving) = (team, arriving, refl)
has_variant (asks.Leave team round) = (team, round, refl)
has_variant (asks.Gather team op root kind vs) = (team, op, root, kind, vs, refl)
has_variant (asks.Take team round) = (team, round, refl)
has_variant (asks.Pair images) = (images, refl)
has_variant asks.Unpair = refl
has_variant (asks.Enter construct) = (construct, refl)
has_variant (asks.Exit construct) = (construct, refl)
has_variant asks.Gone = refl
has_variant (asks.Stop code) = (code, refl)
has_variant (asks.Failed team) = (team, refl)
has_variant (asks.Stopped team) = (team, refl)
has_variant (asks.Status team index) = (team, index, refl)
has_variant (asks.Print text) = (text, refl)
has_variant asks.Memory = refl
has_variant asks.Fail = refl
has_variant (asks.ErrorStop code) = (code, refl)
has_variant (asks.Fault kind) = (kind, refl)
has_variant (asks.LimitStatements number) = (number, inl refl)
has_variant (asks.LimitWords number) = (number, inr (inl refl))
has_variant (asks.LimitStamp number) = (number, inr (inr refl))

-- an ask with the same first word has the same variant
pub same_variant : (a b : Ask) → ask_word a ≡ ask_word b → HasVariant (variant_of a) b
same_variant a b e = subst (λ t. HasVariant t b) (sym (sym (variant_of_word a) ∙ ap variant_by e ∙ variant_of_word b))
    (has_variant b)

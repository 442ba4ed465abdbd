-- The replies of the board that are a status, a round or a clash.
use Rattle.std.proofs.Common.{◌≡◌, ℕ, Bool, true, false, ◌&&◌, not, cond, List, [], ◌∷◌, refl}
use Rattle.std.specs.Prelude.{pos, Option, Some, None}
use Rattle.std.specs.List.{list_any}
use Rattle.caf_base.specs.declared.place.ImageNo.{ImageNo}
use Rattle.caf_events.specs.declared.reply.Reply.{Reply}
use Rattle.caf_events.specs.declared.reply.Reply.TheVariants as replies
use Rattle.caf_events.specs.declared.round.RoundKind.{RoundKind}
use Rattle.object_rules.specs.Happenings.{Happening, has_stopped, has_failed}
use Rattle.object_rules.specs.TeamRounds.{Opening, status_of}
use Rattle.object_rules.specs.ImagePairs.{has_partner, last_named}
use Rattle.object_rules.specs.Constructs.{Hold, free, held, left_by}
use Rattle.object_rules.specs.Kinds.{same_kind}
use Rattle.object_rules.specs.BoardRules.{joined_or_clash, unpair_status, enter_status, image_status}
use Rattle.object_rules.specs.Answering.{is_one_of}

-- what is true of each round and of each clash is true of what an arrival is told
pub joined : (P : Reply → Type 0) (kind : RoundKind) (round : ℕ) (o : Option Opening) → ((r : ℕ) → P (replies.Round r)) → ((image : ImageNo) (line : ℕ) → P (replies.Clash image line)) → P (joined_or_clash kind round o)
joined P kind round None f g = f round
joined P kind round (Some o) f g = elim (same_kind kind o.kind) as (λ b. P (cond b (replies.Round round) (replies.Clash (record { 0 = o.image }) o.line))) [ true ↦ f round | false ↦ g (record { 0 = o.image }) o.line ]

status_is : (stopped failed : Bool) → is_one_of (pos 0 ∷ pos 6000 ∷ pos 6001 ∷ []) (status_of stopped failed) ≡ true
status_is true failed = refl
status_is false true = refl
status_is false false = refl

pub unpair_is : (i : ℕ) (f : Option (List Happening)) → is_one_of (pos 0 ∷ pos 6000 ∷ pos 6001 ∷ []) (unpair_status i f) ≡ true
unpair_is i None = refl
unpair_is i (Some f) = status_is (list_any (λ j. has_stopped j f && not (has_partner i f j)) (last_named i f)) (list_any (λ j. has_failed j f) (last_named i f))

pub enter_is : (s : Hold) → is_one_of (pos 0 ∷ pos 6001 ∷ []) (enter_status s) ≡ true
enter_is free = refl
enter_is (held j) = refl
enter_is (left_by j) = refl

pub image_is : (hs : List Happening) (m : Option ℕ) → is_one_of (pos 0 ∷ pos 6000 ∷ pos 6001 ∷ []) (image_status hs m) ≡ true
image_is hs None = refl
image_is hs (Some m) = status_is (has_stopped m hs) (has_failed m hs)

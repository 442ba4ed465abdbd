-- A run at the end of steps that images made at the same time: each image's walk, each object's history, and what the
-- images have seen of the objects.
use Rattle.std.specs.Prelude.{ℕ, suc, ◌≡◌, List, [], length, map, Some}
use Rattle.trace_theory.specs.Entries.{Each}
use Rattle.trace_theory.specs.Machines.{WalkTo, Rests}
use Rattle.caf_base.specs.declared.place.Place.TheVariants.{Own}
use Rattle.caf_events.specs.declared.event.Event.{Event}
use Rattle.caf_events.specs.declared.reply.Reply.TheVariants as replies
use Rattle.caf_events.specs.Asks.{place_of}
use Rattle.caf_events.specs.Histories.{Served}
use Rattle.core_runs.specs.Lists.{image_of, key_of, stamp_of, said, list_at, entries_of, history_of}
use Rattle.core_runs.specs.Moments.{Rules, Moment, item_at}
use Rattle.core_runs.specs.Beginnings.{Beginning, IsImage, IsPlace, numbers_to}
use Rattle.core_runs.specs.CoreRuns.{IsFit}
use Rattle.worker_laws.specs.Links.{AllClosed}

-- the events are a walk of the image's program to where it stands, at an ask or its end; each stands at a place of the
-- run, and the image's own are done
pub record HasCome {C M B : Type 0} (r : Rules C M B) (b : Beginning C M B) (i : ℕ) (es : List Event) (c : C) : Type 0 where
  pub walks : WalkTo r.step (b.first i) (map said es) c
  pub rests : Rests (r.step c)
  pub places : Each (λ e. IsPlace b (place_of e.ask)) es
  pub alone : Each (λ e. place_of e.ask ≡ Own → e.reply ≡ replies.Done) es

-- the images of a run that is fit have come where they stand, each object served its history, and what the images have
-- seen of the objects makes their lists one
pub record AreTogether {C M B : Type 0} (r : Rules C M B) (b : Beginning C M B) (m : Moment C M B) : Type 0 where
  pub fit : IsFit r b
  pub count : length m.configs ≡ b.images
  pub event_count : length m.events ≡ b.images
  pub history_count : length m.histories ≡ b.images
  pub memories : m.memories ≡ map b.memory (numbers_to b.images)
  pub board : m.board ≡ b.board
  pub linked : AllClosed image_of key_of stamp_of (suc b.images) (entries_of m.events) (history_of m.board_history m.histories)
  pub memories_served : (i : ℕ) → IsImage b i → Served (r.memory_ready (b.memory i)) (r.memory_reply (b.memory i)) [] (list_at m.histories i)
  pub board_served : Served (r.board_ready b.board) (r.board_reply b.board) [] m.board_history
  pub come : (i : ℕ) (c : C) → item_at m.configs i ≡ Some c → HasCome r b i (list_at m.events i) c

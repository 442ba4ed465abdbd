-- The images that are gone, and in which rounds of the initial team they are missed (ISO/IEC 1539-1:2018, 11.6.11).
use Rattle.std.specs.Prelude.{ℕ, ◌<◌, ◌≡◌, Bool, ◌&&◌, nat_eq, nat_lt, List}
use Rattle.std.specs.List.{list_any}
use Rattle.caf_events.specs.declared.event.Entry.{Entry}
use Rattle.order_axioms.specs.Closes.{round_closed, gone_by}
use Rattle.race_watch.specs.Recorded.{IsRecorded}
use Rattle.race_search.specs.declared.failures.Failure.{Failure}
use Rattle.race_search.specs.declared.told.Watcher.{Watcher}

-- a failure of the image before this round of the initial team had closed
abbrev pub is_missing : ℕ → ℕ → Failure → Bool
is_missing round image f = nat_eq f.image image && nat_lt f.closed round

-- these failures tell of each round of the initial team which images were gone by its close
abbrev pub AreFailures : ℕ → List Entry → List Failure → Type 0
AreFailures n g fs = (k j : ℕ) → 0 < k → list_any (is_missing k j) fs ≡ gone_by (round_closed n 1 k) g j

-- all that is kept of these entries
pub record IsWatched (n : ℕ) (g : List Entry) (w : Watcher) : Type 0 where
  pub recorded : IsRecorded n g w.recorder
  pub failures : AreFailures n g w.failures.items

-- Teams in a row, from the newest one on.
use Rattle.std.proofs.Common.{◌≡◌, ℕ, ℤ, Bool, true, false, ◌&&◌, cond, List, [], ◌∷◌, ◌++◌, ap, sym, subst, ◌∙◌}
use Rattle.std.specs.Prelude.{map, nat_eq, Option, Some}
use Rattle.std.specs.Ordering.{int_eq}
use Rattle.std.proofs.lemmas.List.{reverse-append}
use Rattle.image_acts.specs.Core.{Team}
use Rattle.image_acts.specs.Teams.{is_in, team_in, sibling_in}
use Rattle.team_tables.specs.Entries.{AreWithin, IsWithin, known_in, members_at, team_at}
use Rattle.team_tables.specs.Tables.{team_with}
use Rattle.team_tables.specs.declared.entries.Entry.{Entry}

pub within_front : (n : ℕ) (e : Entry) (es : List Entry) → AreWithin n (es ++ e ∷ []) → AreWithin n es
within_front n e [] h = tt
within_front n e (x ∷ es) h = (h.0, within_front n e es h.1)

pub within_last : (n : ℕ) (e : Entry) (es : List Entry) → AreWithin n (es ++ e ∷ []) → IsWithin n e
within_last n e [] h = h.0
within_last n e (x ∷ es) h = within_last n e es h.1

module _ (left older : List Entry) (e : Entry) (split : left ≡ older ++ e ∷ []) where
  pub known_split : (ms : List ℕ) → known_in ms left ≡ team_at ms e ∷ known_in ms older
  known_split ms = ap (known_in ms) split ∙ ap (map (team_at ms)) (reverse-append older (e ∷ []))

  pub found_older : (ms : List ℕ) (t : ℕ) (o : Option Team) → team_in t (known_in ms left) ≡ o → nat_eq e.team t ≡ false → team_in t (known_in ms older) ≡ o
  found_older ms t o h f = sym (ap (λ b. cond b (Some (team_at ms e)) (team_in t (known_in ms older))) f) ∙ sym (ap (team_in t) (known_split ms)) ∙ h

  abbrev pub is_next : Team → ℤ → Bool
  is_next k v = nat_eq e.parent k.parent && (nat_eq e.round k.round && int_eq e.number v)

  pub sibling_here : (ms : List ℕ) (k : Team) (v : ℤ) (o : Option Team) → sibling_in k v (known_in ms left) ≡ o → is_next k v ≡ true → Some (team_at ms e) ≡ o
  sibling_here ms k v o h f = sym (ap (λ b. cond b (Some (team_at ms e)) (sibling_in k v (known_in ms older))) f) ∙ sym (ap (sibling_in k v) (known_split ms)) ∙ h

  pub sibling_older : (ms : List ℕ) (k : Team) (v : ℤ) (o : Option Team) → sibling_in k v (known_in ms left) ≡ o → is_next k v ≡ false → sibling_in k v (known_in ms older) ≡ o
  sibling_older ms k v o h f = sym (ap (λ b. cond b (Some (team_at ms e)) (sibling_in k v (known_in ms older))) f) ∙ sym (ap (sibling_in k v) (known_split ms)) ∙ h

  pub own_here : (ms : List ℕ) (me : ℕ) (o : Option Team) → team_with me (known_in ms left) ≡ o → is_in me (members_at ms e) ≡ true → Some (team_at ms e) ≡ o
  own_here ms me o h f = sym (ap (λ b. cond b (Some (team_at ms e)) (team_with me (known_in ms older))) f) ∙ sym (ap (team_with me) (known_split ms)) ∙ h

  pub own_older : (ms : List ℕ) (me : ℕ) (o : Option Team) → team_with me (known_in ms left) ≡ o → is_in me (members_at ms e) ≡ false → team_with me (known_in ms older) ≡ o
  own_older ms me o h f = sym (ap (λ b. cond b (Some (team_at ms e)) (team_with me (known_in ms older))) f) ∙ sym (ap (team_with me) (known_split ms)) ∙ h

  pub within_older : (n : ℕ) → AreWithin n left → AreWithin n older
  within_older n h = within_front n e older (let P : List Entry → Type 0 = λ es. AreWithin n es in subst P split h)

  pub within_here : (n : ℕ) → AreWithin n left → IsWithin n e
  within_here n h = within_last n e older (let P : List Entry → Type 0 = λ es. AreWithin n es in subst P split h)

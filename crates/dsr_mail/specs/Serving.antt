-- The clients that a replica took something from and has not posted to since, the one that it proposed last, and how its seat knows both (this
-- project).
use Rattle.std.specs.Prelude.{◌≡◌, ◌↔◌, ℕ, ◌<◌, ◌==◌, true, false, Bool, List, [], ◌∷◌, Option, None, Some, if◌then◌else◌, replicate, reverse, slice_index_or, slice_set}
use Rattle.dsr_names.specs.declared.actor.Actor.{Actor}
use Rattle.dsr_names.specs.declared.actor.Actor.TheVariants.{Replica, Client}
use Rattle.dsr_envelope.specs.declared.entry.Entry.{Entry}
use Rattle.dsr_envelope.specs.declared.entry.Entry.TheVariants.{Post, Take}
use Rattle.dsr_envelope.specs.declared.pick.Pick.{Pick}
use Rattle.dsr_envelope.specs.declared.pick.Pick.TheVariants.{Plain, From, Begin}
use Rattle.dsr_run.specs.Eager.{first_or}

-- the newest entry of the log with this client is a take
abbrev pub is_unanswered : ℕ → List Entry → Bool
is_unanswered c [] = false
is_unanswered c (Post (Replica q) x ∷ log) = is_unanswered c log
is_unanswered c (Take (Replica q) x ∷ log) = is_unanswered c log
is_unanswered c (Post (Client d) x ∷ log) = if d == c then false else is_unanswered c log
is_unanswered c (Take (Client d) x ∷ log) = if d == c then true else is_unanswered c log

-- the replica of this log has taken something from the client since it last posted to it
abbrev pub IsUnanswered : ℕ → List Entry → Type 0
IsUnanswered c log = is_unanswered c log ≡ true

-- no client is marked
abbrev pub nobody : List Bool
nobody = replicate 32 false

-- the client is marked
abbrev pub IsMarked : List Bool → ℕ → Type 0
IsMarked marks c = slice_index_or marks c false ≡ true

-- a client is marked exactly if it is unanswered
abbrev pub AreUnanswered : List Entry → List Bool → Type 0
AreUnanswered log marks = (c : ℕ) → c < 32 → IsMarked marks c ↔ IsUnanswered c log

-- the marks after a post to the actor or a take from it, which sets a client's mark to `mark`
abbrev pub marks_after : Bool → Actor → List Bool → List Bool
marks_after mark (Replica q) marks = marks
marks_after mark (Client c) marks = slice_set marks c mark

-- the client picked last, after a post by a choice: the last client that the choice names, if any
abbrev pub picked_after : Pick → Option ℕ → Option ℕ
picked_after Plain before = before
picked_after (From clients) before = first_or before (reverse clients)
picked_after (Begin op) before = before

-- the marks, and the client picked last
pub record Served : Type 0 where
  pub marks : List Bool
  pub picked : Option ℕ

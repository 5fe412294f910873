-- How a client's seat knows which replicas it asked (this project).
use Rattle.std.specs.Prelude.{◌≡◌, ◌↔◌, ℕ, ◌<◌, true, false, Bool, List, Option, None, Some, replicate, slice_index_or, slice_set}
use Rattle.dsr_names.specs.Shape.{Shape}
use Rattle.dsr_names.specs.declared.actor.Actor.{Actor}
use Rattle.dsr_names.specs.declared.actor.Actor.TheVariants.{Replica, Client}
use Rattle.dsr_ledger.specs.declared.reply.Reply.{Reply as AReply}
use Rattle.dsr_envelope.specs.declared.entry.Entry.{Entry}
use Rattle.dsr_envelope.specs.declared.pick.Pick.{Pick}
use Rattle.dsr_envelope.specs.declared.pick.Pick.TheVariants.{Plain, From, Begin}
use Rattle.dsr_mail.specs.Refusals.{HasAsked}

-- no replica is marked
abbrev pub none_marked : List Bool
none_marked = replicate 16 false

-- the replica is marked
abbrev pub IsMarked : List Bool → ℕ → Type 0
IsMarked marks q = slice_index_or marks q false ≡ true

-- a replica is marked exactly if the client asked it for the outstanding request
abbrev pub AreAsked : Shape → List Entry → List Bool → Type 0
AreAsked shape log marks = (q : ℕ) → q < 16 → IsMarked marks q ↔ HasAsked shape log q

-- the marks after a post by a choice: a new request clears the marks of all other replicas
abbrev pub marks_posted : Actor → Pick → List Bool → List Bool
marks_posted (Replica q) Plain marks = slice_set marks q true
marks_posted (Replica q) (From clients) marks = slice_set marks q true
marks_posted (Replica q) (Begin op) marks = slice_set none_marked q true
marks_posted (Client c) pick marks = marks

-- the marks after a take: after an accepted reply nothing is outstanding
abbrev pub marks_taken : Option AReply → List Bool → List Bool
marks_taken None marks = marks
marks_taken (Some reply) marks = none_marked

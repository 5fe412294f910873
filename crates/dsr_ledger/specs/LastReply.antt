-- The last reply of each client, and which number comes after it (this project).
use Rattle.std.specs.Prelude.{ℕ, ◌<◌, List, Option, None, Some, slice_index_or}
use Rattle.dsr_ledger.specs.declared.reply.Reply.{Reply}

-- the client's last reply; `None` before its first
abbrev pub last_reply : List (Option Reply) → ℕ → Option Reply
last_reply replies client = slice_index_or replies client None

-- a number under which a request acts after this reply: a greater one; before the first reply any from 1 on
abbrev pub Acts : Option Reply → ℕ → Type 0
Acts None number = 0 < number
Acts (Some reply) number = reply.number < number

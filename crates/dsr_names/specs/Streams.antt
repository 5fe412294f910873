-- What contracts see of sources and sinks, and what went through them (this project).
use Rattle.std.specs.Prelude.{ℕ, ◌<◌, ◌≤◌, ◌⊎◌, List, length, take, Option, None, IfSome}
use Rattle.std.specs.Io.KnownBytes.{Appends}
use Rattle.dsr_names.specs.Limits.{most_bytes, most_calls}

-- a source: the bytes that are left to give, if they are known; whether it is steady, and so never fails; and the
-- number of calls that it counts, 0 if it counts none
pub record Input : Type 1 where
  pub left : Option (List ℕ)
  pub is_steady : Type 0
  pub calls : ℕ

-- a sink: the bytes that were taken, and how many more it takes all at once, if they are known; whether it is steady: it
-- never fails, and takes at least one byte if there is one; and the number of calls that it counts, 0 if it counts none
pub record Output : Type 1 where
  pub contents : Option (List ℕ)
  pub room : Option ℕ
  pub is_steady : Type 0
  pub calls : ℕ

-- a source about which nothing is known
abbrev pub unknown_input : Input
unknown_input = record { left = None; is_steady = ⊥; calls = 0 }

-- a sink about which nothing is known
abbrev pub unknown_output : Output
unknown_output = record { contents = None; room = None; is_steady = ⊥; calls = 0 }

-- reading all of it may fail: if the source is steady and what is left is known, that is too many bytes
abbrev pub CanFailToGive : Input → Type 0
CanFailToGive input = input.is_steady → IfSome input.left (λ bytes. most_bytes < length bytes)

-- writing `count` bytes may fail: if the room is known, it is less; and if the sink is steady, the calls could run out
abbrev pub CanFailToTake : ℕ → Output → Type 0
CanFailToTake count output = IfSome output.room (λ most. most < count) × (output.is_steady → most_calls < count)

-- all of the bytes went out, and nothing else
abbrev pub SentAll : List ℕ → Output → Output → Type 0
SentAll bytes before after = Appends before.contents after.contents bytes

-- some prefix of the bytes went out, and nothing else
pub record SentPrefix (bytes : List ℕ) (before after : Output) : Type 0 where
  pub sent : ℕ
  pub within : sent ≤ length bytes
  pub appended : Appends before.contents after.contents (take sent bytes)

-- all of the bytes went out, or, if writing them may fail, a prefix of them
abbrev pub Sent : List ℕ → Output → Output → Type 0
Sent bytes before after = SentAll bytes before after ⊎ (SentPrefix bytes before after × CanFailToTake (length bytes) before)

-- what a call that reads a source and writes a sink finds and leaves: the source before it, and the sink before and
-- after it
pub record Streams : Type 1 where
  pub input : Input
  pub output : Output
  pub written : Output

-- the streams with these three
abbrev pub streams : Input → Output → Output → Streams
streams input output written = record { input = input; output = output; written = written }

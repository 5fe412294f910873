-- The number of envelopes that a loyal replica has posted and taken at each point of a round (this project).
use Rattle.std.specs.Prelude.{◌≡◌, ℕ, suc, ◌<◌, nat_lt, List, length, if◌then◌else◌}
use Rattle.dsr_names.specs.Shape.{Shape}
use Rattle.dsr_names.specs.declared.actor.Actor.TheVariants.{Replica}
use Rattle.dsr_envelope.specs.declared.entry.Entry.{Entry}
use Rattle.dsr_envelope.specs.declared.due.Due.{Due}
use Rattle.dsr_envelope.specs.declared.due.Due.TheVariants.{Post as PostTo, Take as TakeFrom}
use Rattle.dsr_envelope.specs.Log.{posted_to, taken_from, due}

-- what is due is a post to or a take from a replica below n
abbrev pub IsInside : ℕ → Due → Type 0
IsInside n (PostTo q) = q < n
IsInside n (TakeFrom p) = p < n

-- the number of posts to replica q if t rounds are closed: t, or one more after this round's post to q
abbrev pub posts_at : Due → ℕ → ℕ → ℕ
posts_at (PostTo next) t q = if nat_lt q next then suc t else t
posts_at (TakeFrom next) t q = suc t

-- the number of takes from replica p if t rounds are closed: t, or one more after this round's take from p
abbrev pub takes_at : Due → ℕ → ℕ → ℕ
takes_at (PostTo next) t p = t
takes_at (TakeFrom next) t p = if nat_lt p next then suc t else t

-- the counts of a log in which t rounds are closed
pub record HasCounts (shape : Shape) (log : List Entry) (t : ℕ) : Type 0 where
  pub inside : IsInside shape.n (due shape log)
  pub posts : (q : ℕ) → q < shape.n → length (posted_to (Replica q) log) ≡ posts_at (due shape log) t q
  pub takes : (p : ℕ) → p < shape.n → length (taken_from (Replica p) log) ≡ takes_at (due shape log) t p

-- How far the replies of each client are judged. The head of a client is a place in the list of accepted replies: the replies to this
-- client before that place are done with.
use Rattle.std.specs.Prelude.{◌≡◌, ℕ, ◌≤◌, List, length, take, slice_get, slice_index_or, Some, ◌⊎◌}
use Rattle.dsr_base.specs.Member.{In}
use Rattle.dsr_request.specs.Request.{Request}
use Rattle.dsr_ledger.specs.declared.reply.Reply.{Reply}
use Rattle.dsr_history.specs.History.{IsReplyTo}

-- the head of this client
abbrev pub head_of : List ℕ → ℕ → ℕ
head_of heads client = slice_index_or heads client 0

-- `here` is the first place from `from` on with a reply to the client, or the end of the list if no such reply follows
pub record IsNext (accepted : List (ℕ × Reply)) (client from here : ℕ) : Type 0 where
  pub after : from ≤ here
  pub within : here ≤ length accepted
  pub between : (reply : Reply) → In (client, reply) (take here accepted) → In (client, reply) (take from accepted)
  pub own : (entry : ℕ × Reply) → slice_get accepted here ≡ Some entry → entry.0 ≡ client

-- the client's replies before its head are right, and its head is at a reply of its own, or at the end
pub record IsHead (history : List Request) (accepted : List (ℕ × Reply)) (client head : ℕ) : Type 0 where
  pub right : (reply : Reply) → In (client, reply) (take head accepted) → IsReplyTo history client reply
  pub within : head ≤ length accepted
  pub own : (entry : ℕ × Reply) → slice_get accepted head ≡ Some entry → entry.0 ≡ client

-- the head passed this reply, or stayed: then it is at another reply, or at the end
pub record HasMoved (accepted : List (ℕ × Reply)) (client : ℕ) (reply : Reply) (head moved : ℕ) : Type 0 where
  pub within : moved ≤ length accepted
  pub after : head ≤ moved
  pub between : (other : Reply) → In (client, other) (take moved accepted) → In (client, other) (take head accepted) ⊎ (other ≡ reply)
  pub own : (entry : ℕ × Reply) → slice_get accepted moved ≡ Some entry → entry.0 ≡ client
  pub stays : moved ≡ head → (entry : ℕ × Reply) → slice_get accepted head ≡ Some entry → ¬ (entry.1 ≡ reply)

-- after a walk along these oldest requests of the history: the client's head is still one, and if it did not move,
-- the reply at it answers none of these requests
pub record HasWalked (history walked : List Request) (accepted : List (ℕ × Reply)) (client before head : ℕ) : Type 0 where
  pub good : IsHead history accepted client head
  pub after : before ≤ head
  pub stays : head ≡ before → (reply : Reply) → slice_get accepted head ≡ Some (client, reply) → ¬ IsReplyTo walked client reply

-- The heads of clients, among the accepted replies.
use Rattle.std.proofs.Common.{◌≡◌, ◌⊎◌, inl, inr, ℕ, suc, zero, ◌+◌, ◌<◌, ◌≤◌, List, [], ◌∷◌, length, take, get_or, slice_get, Some, refl, sym, ◌∙◌, ap, subst, arith}
use Rattle.std.proofs.lemmas.List.{take_more, take_all}
use Rattle.dsr_base.specs.Member.{In}
use Rattle.dsr_base.proofs.MemberLemmas.{In-append_cases, In-one, In-from_place}
use Rattle.dsr_request.specs.Request.{Request}
use Rattle.dsr_ledger.specs.declared.reply.Reply.{Reply}
use Rattle.dsr_history.specs.History.{IsReplyTo}
use Rattle.dsr_check.specs.Support.Heads.{head_of, IsNext, IsHead, HasMoved, HasWalked}

abbrev pub Accepted : Type 0
Accepted = List (ℕ × Reply)

-- an entry that is read at its place
pub entry_read : (accepted : Accepted) (place : ℕ) (d entry : ℕ × Reply) → place < length accepted → slice_get accepted place ≡ Some entry → get_or accepted place d ≡ entry
entry_read [] place d entry within at = absurd (omega arith)
entry_read (e ∷ es) zero d entry within at = cc
entry_read (e ∷ es) (suc place) d entry within at = entry_read es place d entry (omega arith) at

-- one more entry
pub in_more : (accepted : Accepted) (place : ℕ) (d : ℕ × Reply) (entry : ℕ × Reply) → place < length accepted → In entry (take (place + 1) accepted)
    → In entry (take place accepted) ⊎ (get_or accepted place d ≡ entry)
in_more accepted place d entry within inside =
    elim (In-append_cases entry (take place accepted) (get_or accepted place d ∷ []) (subst (In entry) (take_more accepted place d within) inside)) [
      | inl earlier ↦ inl earlier
      | inr last ↦ inr (In-one entry (get_or accepted place d) last)
    ]

pub in_all : (accepted : Accepted) (place : ℕ) (entry : ℕ × Reply) → length accepted ≤ place → In entry accepted → In entry (take place accepted)
in_all accepted place entry le inside = subst (In entry) (sym (take_all place accepted le)) inside

past_end : (accepted : Accepted) (place : ℕ) (entry : ℕ × Reply) → slice_get accepted place ≡ Some entry → place < length accepted
past_end [] place entry at = cc
past_end (e ∷ es) zero entry at = omega arith
past_end (e ∷ es) (suc place) entry at = let rest = past_end es place entry at in omega (arith, rest)

entry_at : (accepted : Accepted) (place : ℕ) → place < length accepted → (entry : ℕ × Reply) × (slice_get accepted place ≡ Some entry)
entry_at [] place within = absurd (omega arith)
entry_at (e ∷ es) zero within = (e, refl)
entry_at (e ∷ es) (suc place) within = entry_at es place (omega arith)

-- a search for the next reply to the client

pub next_more : (accepted : Accepted) (client from place number : ℕ) (entry : ℕ × Reply) → place < length accepted → entry ≡ get_or accepted place entry
    → number ≡ entry.0 → ¬ (number ≡ client)
    → ((reply : Reply) → In (client, reply) (take place accepted) → In (client, reply) (take from accepted))
    → (reply : Reply) → In (client, reply) (take (place + 1) accepted) → In (client, reply) (take from accepted)
next_more accepted client from place number entry within read is other so_far reply inside =
    elim (in_more accepted place entry (client, reply) within inside) [
      | inl earlier ↦ so_far reply earlier
      | inr last ↦ absurd (other (is ∙ ap (λ (e : ℕ × Reply). e.0) (read ∙ last)))
    ]

pub next_here : (accepted : Accepted) (client from place number : ℕ) (entry : ℕ × Reply) → from ≤ place → place < length accepted
    → entry ≡ get_or accepted place entry → number ≡ entry.0 → number ≡ client
    → ((reply : Reply) → In (client, reply) (take place accepted) → In (client, reply) (take from accepted)) → IsNext accepted client from place
next_here accepted client from place number entry after within read is same so_far = record {
  after = after;
  within = omega arith;
  between = so_far;
  own = λ other at. ap (λ (e : ℕ × Reply). e.0) (sym (read ∙ entry_read accepted place entry other within at)) ∙ sym is ∙ same;
}

pub next_end : (accepted : Accepted) (client from place : ℕ) → from ≤ length accepted → length accepted ≤ place → place ≤ length accepted
    → ((reply : Reply) → In (client, reply) (take place accepted) → In (client, reply) (take from accepted)) → IsNext accepted client from (length accepted)
next_end accepted client from place after le ge so_far = record {
  after = after;
  within = omega arith;
  between = λ reply inside. so_far reply (subst (λ n. In (client, reply) (take n accepted)) {y = place} (omega arith) inside);
  own = λ entry at. absurd (omega (arith, past_end accepted (length accepted) entry at));
}

-- a head and the reply that comes to it

pub moved_past : (accepted : Accepted) (client : ℕ) (reply : Reply) (head moved : ℕ) (entry : ℕ × Reply) → head < length accepted
    → entry ≡ get_or accepted head entry → entry.1 ≡ reply → IsNext accepted client (head + 1) moved → HasMoved accepted client reply head moved
moved_past accepted client reply head moved entry within read is next = record {
  within = next.within;
  after = omega (arith, next.after);
  between = λ other inside. elim (in_more accepted head entry (client, other) within (next.between other inside)) [
    | inl earlier ↦ inl earlier
    | inr last ↦ inr (ap (λ (e : ℕ × Reply). e.1) (sym (read ∙ last)) ∙ is)
  ];
  own = next.own;
  stays = λ same. absurd (omega (arith, next.after, same));
}

pub moved_not : (accepted : Accepted) (client : ℕ) (reply : Reply) (head : ℕ) → head ≤ length accepted
    → ((entry : ℕ × Reply) → slice_get accepted head ≡ Some entry → entry.0 ≡ client)
    → ((entry : ℕ × Reply) → slice_get accepted head ≡ Some entry → ¬ (entry.1 ≡ reply)) → HasMoved accepted client reply head head
moved_not accepted client reply head within own other = record {
  within = within;
  after = omega arith;
  between = λ reply inside. inl inside;
  own = own;
  stays = λ same. other;
}

pub at_end : (accepted : Accepted) (reply : Reply) (head : ℕ) → length accepted ≤ head → (entry : ℕ × Reply) → slice_get accepted head ≡ Some entry → ¬ (entry.1 ≡ reply)
at_end accepted reply head end entry at same = omega (arith, past_end accepted head entry at, end)

pub other_reply : (accepted : Accepted) (reply : Reply) (head : ℕ) (read : ℕ × Reply) → head < length accepted → read ≡ get_or accepted head read → ¬ (read.1 ≡ reply)
    → (entry : ℕ × Reply) → slice_get accepted head ≡ Some entry → ¬ (entry.1 ≡ reply)
other_reply accepted reply head read within is other entry at same =
    other (ap (λ (e : ℕ × Reply). e.1) (is ∙ entry_read accepted head read entry within at) ∙ same)

-- heads at the end

pub done_more : (accepted : Accepted) (heads : List ℕ) (place number : ℕ) (entry : ℕ × Reply) → place < length accepted → entry ≡ get_or accepted place entry
    → number ≡ entry.0 → number < 32 → length accepted ≤ head_of heads number
    → ((client : ℕ) (reply : Reply) → In (client, reply) (take place accepted) → (client < 32) × (length accepted ≤ head_of heads client))
    → (client : ℕ) (reply : Reply) → In (client, reply) (take (place + 1) accepted) → (client < 32) × (length accepted ≤ head_of heads client)
done_more accepted heads place number entry within read is small end so_far client reply inside =
    elim (in_more accepted place entry (client, reply) within inside) [
      | inl earlier ↦ so_far client reply earlier
      | inr last ↦ subst (λ c. (c < 32) × (length accepted ≤ head_of heads c)) (is ∙ ap (λ (e : ℕ × Reply). e.0) (read ∙ last)) (small, end)
    ]

-- before the first walk
pub first_head : (history : List Request) (accepted : Accepted) (client head : ℕ) → IsNext accepted client 0 head → IsHead history accepted client head
first_head history accepted client head next = record {
  right = λ reply inside. elim (next.between reply inside) [ ];
  within = next.within;
  own = next.own;
}

-- a head that did not move in a walk along the whole history is at a reply that is not right
pub stuck : (history : List Request) (accepted : Accepted) (client before head : ℕ) → head < length accepted → head ≡ before
    → HasWalked history history accepted client before head → ¬ ((reply : Reply) → In (client, reply) accepted → IsReplyTo history client reply)
stuck history accepted client before head within same walked right =
    let entry = entry_at accepted head within in
    let at : slice_get accepted head ≡ Some (client, entry.0.1) = entry.1 ∙ ap (λ c. Some (c, entry.0.1)) (walked.good.own entry.0 entry.1) in
    walked.stays same entry.0.1 at (right entry.0.1 (In-from_place (client, entry.0.1) accepted head at))

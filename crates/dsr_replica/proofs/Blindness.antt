-- Nothing that a loyal replica keeps, holds, decides or posts depends on who is a traitor.
use Rattle.std.proofs.Common.{◌≡◌, ◌<◌, ℕ, zero, suc, ◌+◌, ◌-◌, ◌==◌, ◌&&◌, not, nat_lt, Bool, true, false, List, [], ◌∷◌, length, Option, None, Some, if◌then◌else◌, refl, ap, ap₂, sym, ◌∙◌, subst}
use Rattle.std.specs.Prelude.{map, slice_get}
use Rattle.std.specs.Option.{option_map}
use Rattle.dsr_names.specs.Shape.{Shape, AgreeButForTraitors}
use Rattle.dsr_names.specs.declared.actor.Actor.{Actor}
use Rattle.dsr_names.specs.declared.actor.Actor.TheVariants.{Replica, Client}
use Rattle.dsr_names.specs.Support.ActorEquality.{actor_eq}
use Rattle.dsr_history.specs.History.{reply}
use Rattle.dsr_rotation.specs.Calendar.{first_round, last_round, closed_slots}
use Rattle.dsr_rotation.proofs.Lemmas.{begins_blind, closed_blind}
use Rattle.dsr_desk.specs.Signature.{signed}
use Rattle.dsr_desk.specs.Support.SignatureEquality.{signature_eq}
use Rattle.dsr_desk.specs.declared.statement.Statement.TheVariants.{Ask as Asks}
use Rattle.dsr_chain.specs.Content.{requests_in}
use Rattle.dsr_chain.specs.Proper.{sender_of}
use Rattle.dsr_chain.specs.declared.signed_request.SignedRequest.{SignedRequest}
use Rattle.dsr_chain.specs.declared.slot_value.SlotValue.{SlotValue}
use Rattle.dsr_chain.proofs.Lemmas.{sender_blind}
use Rattle.dsr_slot.specs.Broadcast.{from_each}
use Rattle.dsr_slot.specs.Conduct.{posted}
use Rattle.dsr_slot.specs.Decision.{decision}
use Rattle.dsr_slot.proofs.Lemmas.{after_same, kept_blind, posted_blind, decided_blind}
use Rattle.dsr_envelope.specs.declared.envelope.Envelope.{Envelope}
use Rattle.dsr_envelope.specs.declared.envelope.Envelope.TheVariants.{Empty, Round, Ask, Reply, Seen}
use Rattle.dsr_envelope.specs.declared.entry.Entry.{Entry}
use Rattle.dsr_envelope.specs.declared.entry.Entry.TheVariants.{Post, Take}
use Rattle.dsr_envelope.specs.declared.due.Due.TheVariants.{Post as PostTo, Take as TakeFrom}
use Rattle.dsr_envelope.specs.declared.pick.Pick.{Pick}
use Rattle.dsr_envelope.specs.declared.pick.Pick.TheVariants.{Plain, From, Begin}
use Rattle.dsr_replica.specs.Conduct.{slot_part, chains_posted, from_held, proposed, envelope_with, chosen, is_due, envelope_to, reply_to, IsNext, IsLoyalLog}
use Rattle.dsr_replica.specs.Decided.{sent, slot_read, slot_kept, slot_decided, values, decided_values}
use Rattle.dsr_envelope.specs.Envelope.{round_envelope}
use Rattle.dsr_replica.specs.Held.{is_own_ask, gives_way, held_with, held, put_before, all_held}
use Rattle.dsr_envelope.specs.Log.{posted_to, taken_from, due, rounds}
use Rattle.dsr_replica.proofs.Saying.{reply_made, from_sender, from_another}

module _ (shape other : Shape) (agree : AgreeButForTraitors shape other) where
  -- ---- what is due

  pub due_blind : (log : List Entry) → due shape log ≡ due other log
  due_blind [] = refl
  due_blind (Post (Replica q) envelope ∷ older) = ap (λ n. if suc q == n then TakeFrom 0 else PostTo (suc q)) agree.replicas
  due_blind (Post (Client c) envelope ∷ older) = due_blind older
  due_blind (Take (Replica p) envelope ∷ older) = ap (λ n. if suc p == n then PostTo 0 else TakeFrom (suc p)) agree.replicas
  due_blind (Take (Client c) envelope ∷ older) = due_blind older

  pub rounds_blind : (log : List Entry) → rounds shape log ≡ rounds other log
  rounds_blind log = ap (λ n. length (taken_from (Replica (n - 1)) log)) agree.replicas

  -- ---- what is kept and decided

  slot_read_blind : (log : List Entry) (slot round : ℕ) → slot_read shape log slot round ≡ slot_read other log slot round
  slot_read_blind log slot zero = refl
  slot_read_blind log slot (suc r) =
      ap₂ (λ n first. from_each n (sent log (first + r))) agree.replicas (begins_blind shape other slot)

  pub slot_kept_blind : (log : List Entry) (slot r : ℕ) → slot_kept shape log slot r ≡ slot_kept other log slot r
  slot_kept_blind log slot r =
      kept_blind shape other agree slot (slot_read shape log slot) r
      ∙ after_same other slot (slot_read shape log slot) (slot_read other log slot) r (λ round some within. slot_read_blind log slot round)

  slot_decided_blind : (log : List Entry) (slot : ℕ) → slot_decided shape log slot ≡ slot_decided other log slot
  slot_decided_blind log slot =
      decided_blind shape other agree slot (slot_read shape log slot)
      ∙ ap decision (after_same other slot (slot_read shape log slot) (slot_read other log slot) (suc other.f) (λ round some within. slot_read_blind log slot round))

  values_blind : (log : List Entry) (count : ℕ) → values (slot_decided shape log) count ≡ values (slot_decided other log) count
  values_blind log zero = refl
  values_blind log (suc count) = ap₂ (λ v vs. v ∷ vs) (slot_decided_blind log count) (values_blind log count)

  pub decided_values_blind : (log : List Entry) → decided_values shape log ≡ decided_values other log
  decided_values_blind log =
      values_blind log (closed_slots shape (rounds shape log))
      ∙ ap (values (slot_decided other log)) (closed_blind shape other agree (rounds shape log) ∙ ap (closed_slots other) (rounds_blind log))

  -- ---- what is held

  own_blind : (client : ℕ) (ask : SignedRequest) → is_own_ask shape client ask ≡ is_own_ask other client ask
  own_blind client ask =
      ap (λ m. (ask.request.client == client)
      && (nat_lt ask.request.client m && signature_eq ask.signature (signed (Client ask.request.client) (Asks ask.request))))
      agree.clients

  with_blind : (client : ℕ) (before : Option SignedRequest) (envelope : Envelope) → held_with shape client before envelope ≡ held_with other client before envelope
  with_blind client before Empty = refl
  with_blind client before (Round round chains) = refl
  with_blind client before (Ask ask) =
      ap (λ b. if b && gives_way before ask.request.number then Some ask else before) (own_blind client ask)
  with_blind client before (Reply reply) = refl
  with_blind client before (Seen front) = refl

  pub held_blind : (client : ℕ) (log : List Entry) → held shape client log ≡ held other client log
  held_blind client [] = refl
  held_blind client (Post to envelope ∷ older) = held_blind client older
  held_blind client (Take (Replica p) envelope ∷ older) = held_blind client older
  held_blind client (Take (Client c) envelope ∷ older) =
      ap₂ (λ x y. if c == client then x else y)
      (with_blind client (held shape client older) envelope ∙ ap (λ h. held_with other client h envelope) (held_blind client older))
      (held_blind client older)

  all_held_blind : (log : List Entry) (clients : List ℕ) → all_held shape log clients ≡ all_held other log clients
  all_held_blind log [] = refl
  all_held_blind log (client ∷ clients) = ap₂ put_before (held_blind client log) (all_held_blind log clients)

  -- ---- what is posted

  part_blind : (me : Actor) (log : List Entry) (t : ℕ) (value : SlotValue) (slot : ℕ) → slot_part shape me log t value slot ≡ slot_part other me log t value slot
  part_blind me log t value slot =
      (λ i. if not (nat_lt t (begins_blind shape other slot i)) && not (nat_lt (begins_blind shape other slot i + agree.most_traitors i) t)
      then posted shape slot me value (suc (t - begins_blind shape other slot i)) (slot_kept shape log slot (t - begins_blind shape other slot i))
      else [])
      ∙ ap (λ chains. if not (nat_lt t (first_round other slot)) && not (nat_lt (last_round other slot) t) then chains else [])
      (posted_blind shape other agree slot me value (suc (t - first_round other slot)) (slot_kept shape log slot (t - first_round other slot))
      ∙ ap (posted other slot me value (suc (t - first_round other slot))) (slot_kept_blind log slot (t - first_round other slot)))

  chains_blind : (me : Actor) (log : List Entry) (t : ℕ) (value : SlotValue) → chains_posted shape me log t value ≡ chains_posted other me log t value
  chains_blind me log t value = λ i. from_each (suc t) (λ slot. part_blind me log t value slot i)

  envelope_blind : (me : Actor) (log : List Entry) (value : SlotValue) → envelope_with shape me log value ≡ envelope_with other me log value
  envelope_blind me log value =
      ap (λ t. round_envelope t (chains_posted shape me log t value)) (rounds_blind log)
      ∙ ap (round_envelope (rounds other log)) (chains_blind me log (rounds other log) value)

  from_blind : (me : Actor) (round : ℕ) (asks : Option (List SignedRequest)) → from_held shape me round asks ≡ from_held other me round asks
  from_blind me round asks = by_sender (actor_eq me (sender_of shape round)) refl
    where
      same : actor_eq me (sender_of shape round) ≡ actor_eq me (sender_of other round)
      same = ap (actor_eq me) (sender_blind shape other agree round)

      by_sender : (b : Bool) → actor_eq me (sender_of shape round) ≡ b → from_held shape me round asks ≡ from_held other me round asks
      by_sender true own = from_sender shape me round asks own ∙ sym (from_sender other me round asks (sym same ∙ own))
      by_sender false another = from_another shape me round asks another ∙ sym (from_another other me round asks (sym same ∙ another))

  proposed_blind : (me : Actor) (log : List Entry) (pick : Pick) → proposed shape me log pick ≡ proposed other me log pick
  proposed_blind me log Plain = refl
  proposed_blind me log (From clients) =
      ap₂ (from_held shape me) (rounds_blind log) (all_held_blind log clients) ∙ from_blind me (rounds other log) (all_held other log clients)
  proposed_blind me log (Begin op) = refl

  chosen_blind : (me : Actor) (log : List Entry) (q : ℕ) (pick : Pick) → chosen shape me log q pick ≡ chosen other me log q pick
  chosen_blind me log zero pick =
      (λ i. option_map (λ value. envelope_blind me log value i) (proposed shape me log pick))
      ∙ ap (option_map (envelope_with other me log)) (proposed_blind me log pick)
  chosen_blind me log (suc q) Plain = ap (slice_get (posted_to (Replica 0) log)) (rounds_blind log)
  chosen_blind me log (suc q) (From clients) = refl
  chosen_blind me log (suc q) (Begin op) = refl

  pub envelope_to_blind : (me : Actor) (log : List Entry) (q : ℕ) (pick : Pick) → envelope_to shape me log q pick ≡ envelope_to other me log q pick
  envelope_to_blind me log q pick =
      ap₂ (λ d o. if is_due d q then o else None) (due_blind log) (chosen_blind me log q pick)

  pub reply_to_blind : (log : List Entry) (client : ℕ) → reply_to shape log client ≡ reply_to other log client
  reply_to_blind log client =
      reply_made shape log client ∙ (ap (λ vs. option_map Reply (reply (map requests_in vs) client)) (decided_values_blind log) ∙ sym (reply_made other log client))

  pub next_blind : (me : Actor) (log : List Entry) (entry : Entry) → IsNext shape me log entry → IsNext other me log entry
  next_blind me log (Post (Replica q) envelope) next = (next.0, next.1, sym (envelope_to_blind me log q next.0) ∙ next.2)
  next_blind me log (Post (Client c) envelope) next = (subst (λ m. c < m) agree.clients next.0, sym (reply_to_blind log c) ∙ next.1)
  next_blind me log (Take (Replica p) envelope) next = sym (due_blind log) ∙ next
  next_blind me log (Take (Client c) envelope) next = subst (λ m. c < m) agree.clients next

  pub loyal_blind : (me : Actor) (log : List Entry) → IsLoyalLog shape me log → IsLoyalLog other me log
  loyal_blind me [] loyal = tt
  loyal_blind me (entry ∷ older) loyal = (loyal_blind me older loyal.0, next_blind me older entry loyal.1)

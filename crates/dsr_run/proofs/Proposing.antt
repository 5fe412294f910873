-- The value that a loyal sender posted for its slot: there is one, it is the only one, and it is decided.
use Rattle.std.proofs.Common.{◌≡◌, ℕ, suc, ◌+◌, ◌<◌, List, [], Some, inl, inr, refl, ap, sym, ◌∙◌, subst, arith}
use Rattle.std.specs.Prelude.{slice_get}
use Rattle.dsr_base.specs.Member.{In}
use Rattle.dsr_names.specs.Shape.{Shape, IsLoyal, sender}
use Rattle.dsr_names.specs.declared.actor.Actor.TheVariants.{Replica}
use Rattle.dsr_rotation.specs.Calendar.{first_round, last_round}
use Rattle.dsr_rotation.proofs.Lemmas.{begins_no_earlier}
use Rattle.dsr_chain.specs.Chain.{Chain, started}
use Rattle.dsr_chain.specs.Proper.{sender_of}
use Rattle.dsr_chain.specs.declared.slot_value.SlotValue.{SlotValue}
use Rattle.dsr_slot.specs.Conduct.{posted}
use Rattle.dsr_slot.proofs.Lemmas.{posted_from, start_posted, in_each, from_one}
use Rattle.dsr_envelope.specs.declared.envelope.Envelope.{Envelope}
use Rattle.dsr_replica.specs.Conduct.{slot_part, chains_posted}
use Rattle.dsr_replica.specs.Decided.{slot_decided}
use Rattle.dsr_envelope.specs.Envelope.{chains_for}
use Rattle.dsr_envelope.specs.Log.{posted_to, rounds}
use Rattle.dsr_replica.proofs.Lemmas.{equal_posts}
use Rattle.dsr_run.specs.Agreement.{HasProposed}
use Rattle.dsr_run.specs.Run.{IsRun}
use Rattle.dsr_run.specs.Step.{Step, log_of}
use Rattle.dsr_run.proofs.Agreeing.{some_value, decided_value}
use Rattle.dsr_run.proofs.Family.{loyal_log, took, was_posted}
use Rattle.dsr_run.proofs.Posts.{IsValue, part_at, part_of_slot, for_round}

module _ (shape : Shape) (run : List Step) (is : IsRun shape run) (slot : ℕ) (sends : IsLoyal shape (sender_of shape slot)) where
  abbrev first : ℕ
  first = first_round shape slot

  -- the sender's part of the slot in its first round
  first_part : (value : SlotValue) → slot_part shape (sender_of shape slot) (log_of run (sender_of shape slot)) first value slot
      ≡ posted shape slot (sender_of shape slot) value 1 []
  first_part value =
      let at : first ≡ first + 0 = omega arith in
      ap (λ t. slot_part shape (sender_of shape slot) (log_of run (sender_of shape slot)) t value slot) at
      ∙ part_at shape (sender_of shape slot) (log_of run (sender_of shape slot)) slot value 0 (omega arith)

  -- if the sender's part for one value has the start of another, the two values are the same
  only_start : (value made_for : SlotValue) → In (started slot value (sender_of shape slot)) (posted shape slot (sender_of shape slot) made_for 1 [])
      → made_for ≡ value
  only_start value made_for h = elim (posted_from shape slot (sender_of shape slot) made_for 1 [] (started slot value (sender_of shape slot)) h) [
    | inl relay ↦ elim relay.kept_then [ ]
    | inr start ↦ ap (λ (c : Chain). c.value) start.is
  ]

  module _ (value : SlotValue) (its : IsValue shape (log_of run (sender_of shape slot)) slot value) where
    -- the chains of any post of the first round
    first_chains : (q : ℕ) → q < shape.n → (x : Envelope) → slice_get (posted_to (Replica q) (log_of run (sender_of shape slot))) first ≡ Some x
        → chains_for first x ≡ chains_posted shape (sender_of shape slot) (log_of run (sender_of shape slot)) first value
    first_chains q inside x e =
        let some : 0 < shape.n = omega (arith, inside) in
        let to_first =
        equal_posts shape (sender_of shape slot) some (log_of run (sender_of shape slot)) (loyal_log shape run is slot (sender shape slot) sends) q inside
        first x e in
        ap (chains_for first) (its.is sends x to_first)
        ∙ for_round first (chains_posted shape (sender_of shape slot) (log_of run (sender_of shape slot)) first value)

    -- what the sender proposed is its value
    proposed_is : (proposed : SlotValue) → HasProposed shape (sender_of shape slot) (log_of run (sender_of shape slot)) slot proposed → value ≡ proposed
    proposed_is proposed h =
        let start = started slot proposed (sender_of shape slot) in
        let part = slot_part shape (sender_of shape slot) (log_of run (sender_of shape slot)) first value in
        let found = from_one start (suc first) part (subst (In start) (first_chains h.to h.inside h.envelope h.posted) h.start) in
        let same : slot ≡ found.0 =
        part_of_slot shape (sender shape slot) sends.0 (log_of run (sender_of shape slot)) first value its.asked found.0 start found.2 in
        only_start proposed value (subst (In start) (first_part value) (subst (λ k. In start (part k)) (sym same) found.2))

    -- a post of the first round proposes it
    proposes : (q : ℕ) → q < shape.n → (x : Envelope) → slice_get (posted_to (Replica q) (log_of run (sender_of shape slot))) first ≡ Some x
        → HasProposed shape (sender_of shape slot) (log_of run (sender_of shape slot)) slot value
    proposes q inside x e =
        let start = started slot value (sender_of shape slot) in
        let part = slot_part shape (sender_of shape slot) (log_of run (sender_of shape slot)) first value in
        let low = begins_no_earlier shape slot in
        let stands : In start (part slot) = subst (In start) (sym (first_part value)) (start_posted shape slot (sender_of shape slot) value [] refl) in
        record {
          to = q;
          inside = inside;
          envelope = x;
          posted = e;
          start = subst (In start) (sym (first_chains q inside x e)) (in_each start (suc first) part slot (omega (arith, low)) stands);
        }

  -- what the sender proposed is decided by each loyal replica that has closed the slot
  pub as_proposed : (p : ℕ) → IsLoyal shape (Replica p) → last_round shape slot < rounds shape (log_of run (Replica p)) → (proposed : SlotValue)
      → HasProposed shape (sender_of shape slot) (log_of run (sender_of shape slot)) slot proposed
      → slot_decided shape (log_of run (Replica p)) slot ≡ proposed
  as_proposed p loyal closed proposed h =
      let v = some_value shape run is slot in
      decided_value shape run is slot sends p loyal closed v.0 v.1 ∙ proposed_is v.0 v.1 proposed h

  -- and the sender proposed what is decided
  pub decided_was_proposed : (p : ℕ) → IsLoyal shape (Replica p) → last_round shape slot < rounds shape (log_of run (Replica p))
      → HasProposed shape (sender_of shape slot) (log_of run (sender_of shape slot)) slot (slot_decided shape (log_of run (Replica p)) slot)
  decided_was_proposed p loyal closed =
      let v = some_value shape run is slot in
      let x = took shape run is slot p loyal (sender shape slot) sends.0 first (omega (arith, closed)) in
      subst (HasProposed shape (sender_of shape slot) (log_of run (sender_of shape slot)) slot)
      (sym (decided_value shape run is slot sends p loyal closed v.0 v.1))
      (proposes v.0 v.1 p loyal.0 x.0 (was_posted shape run is slot (sender shape slot) p first x.0 x.1))

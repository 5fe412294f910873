-- What the requests of a replica's history come from: each was asked, and the client's signature beside it was taken.
use Rattle.std.proofs.Common.{◌≡◌, ℕ, zero, suc, List, inl, inr, sym, subst}
use Rattle.dsr_base.specs.Member.{In, here, there}
use Rattle.dsr_base.proofs.MemberLemmas.{In-all}
use Rattle.dsr_names.specs.Shape.{Shape}
use Rattle.dsr_request.specs.Request.{Request}
use Rattle.dsr_history.specs.History.{acted}
use Rattle.dsr_history.proofs.Lemmas.{In-acted}
use Rattle.dsr_rotation.specs.Calendar.{closed_slots}
use Rattle.dsr_chain.specs.Content.{signed_in, requests_in}
use Rattle.dsr_chain.specs.Proper.{IsAsked}
use Rattle.dsr_chain.specs.declared.signed_request.SignedRequest.{SignedRequest}
use Rattle.dsr_chain.specs.declared.slot_value.SlotValue.{SlotValue}
use Rattle.dsr_slot.specs.Keeping.{kept_after}
use Rattle.dsr_slot.specs.declared.kept.Kept.{Kept}
use Rattle.dsr_slot.proofs.Lemmas.{in_map, from_map, after_came, decision_from}
use Rattle.dsr_envelope.specs.declared.entry.Entry.{Entry}
use Rattle.dsr_replica.specs.Decided.{slot_read, slot_decided, values, decided_values, decided_requests}
use Rattle.dsr_envelope.specs.Log.{rounds}
use Rattle.dsr_replica.specs.Posts.{WasTaken}
use Rattle.dsr_replica.proofs.Sources.{slot_taken}

-- a value of a list by slots is one of a slot
of_slot : (of : ℕ → SlotValue) (count : ℕ) (value : SlotValue) → In value (values of count) → (slot : ℕ) × (of slot ≡ value)
of_slot of zero value h = elim h [ ]
of_slot of (suc slot) value (here e) = (slot, e)
of_slot of (suc slot) value (there h) = of_slot of slot value h

module _ (shape : Shape) (log : List Entry) where
  -- a request of what is decided for a slot was asked, and its client's signature was taken
  slot_source : (slot : ℕ) (s : SignedRequest) → In s (signed_in (slot_decided shape log slot)) → IsAsked shape s × WasTaken log s.signature
  slot_source slot s h = elim (decision_from (kept_after shape slot (slot_read shape log slot) (suc shape.f))) [
    | inl idle ↦ elim (subst (λ v. In s (signed_in v)) idle h) [ ]
    | inr kept ↦ from_kept kept.0 kept.1 (subst (λ v. In s (signed_in v)) (sym kept.2) h)
  ]
    where
      from_kept : (k : Kept) → In k (kept_after shape slot (slot_read shape log slot) (suc shape.f)) → In s (signed_in k.chain.value)
          → IsAsked shape s × WasTaken log s.signature
      from_kept k inside h =
          let came = after_came shape slot (slot_read shape log slot) (suc shape.f) k inside in (
            In-all (IsAsked shape) s (signed_in k.chain.value) came.proper.asked h,
            slot_taken shape log slot k.round k.chain s.signature came.was_read (inr (in_map (λ (r : SignedRequest). r.signature) s (signed_in k.chain.value) h)),
          )

  -- a request of the history was asked, and its client's signature was taken
  pub acted_source : (q : Request) → In q (acted (decided_requests shape log))
      → (s : SignedRequest) × (s.request ≡ q) × IsAsked shape s × WasTaken log s.signature
  acted_source q h =
      let value = In-acted q (decided_requests shape log) h in
      let decided = from_map requests_in value.0 (decided_values shape log) value.1 in
      let signed = from_map (λ (s : SignedRequest). s.request) q (signed_in decided.0) (subst (In q) (sym decided.2) value.2) in
      let slot = of_slot (slot_decided shape log) (closed_slots shape (rounds shape log)) decided.0 decided.1 in
      let source = slot_source slot.0 signed.0 (subst (λ v. In signed.0 (signed_in v)) (sym slot.1) signed.1) in
      (signed.0, signed.2, source.0, source.1)

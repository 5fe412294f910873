-- The history of a loyal log whose takes are within the limits: at most 8 requests for each closed round, each within the limits; so
-- are the replies.
use Rattle.std.proofs.Common.{◌≡◌, ℕ, zero, suc, ◌*◌, ◌^◌, ◌<◌, ◌≤◌, true, false, List, [], ◌∷◌, length, Option, None, Some, if◌then◌else◌, inl, inr, refl, ap, sym, ◌∙◌, subst, arith}
use Rattle.std.specs.Prelude.{All, map, reverse}
use Rattle.std.specs.Option.{option_map}
use Rattle.std.proofs.lemmas.List.{length-map, length-append, length-reverse}
use Rattle.std.proofs.lemmas.List.Elements.{All-nil}
use Rattle.std.proofs.lemmas.Option.{none-some, same_Some}
use Rattle.dsr_base.specs.Member.{In, here, there}
use Rattle.dsr_base.proofs.MemberLemmas.{In-all, In-append_right}
use Rattle.dsr_names.specs.Shape.{Shape, IsAllowed}
use Rattle.dsr_names.specs.declared.actor.Actor.{Actor}
use Rattle.dsr_names.specs.declared.actor.Actor.TheVariants.{Replica, Client}
use Rattle.dsr_request.specs.Request.{Request}
use Rattle.dsr_request.specs.RequestText.{IsRequest}
use Rattle.dsr_ledger.specs.declared.reply.Reply.{Reply as AReply}
use Rattle.dsr_history.specs.History.{requests_of, rises_above, acting, acted, reply}
use Rattle.dsr_history.proofs.Lemmas.{In-acted, reply_stands}
use Rattle.dsr_rotation.specs.Calendar.{closed_slots}
use Rattle.dsr_rotation.proofs.Lemmas.{closed_slots_count}
use Rattle.dsr_chain.specs.Content.{signed_in, requests_in}
use Rattle.dsr_chain.specs.declared.signed_request.SignedRequest.{SignedRequest}
use Rattle.dsr_chain.specs.declared.slot_value.SlotValue.{SlotValue}
use Rattle.dsr_slot.proofs.Lemmas.{decision_from, after_came, from_map}
use Rattle.dsr_envelope.specs.declared.envelope.Envelope.{Envelope}
use Rattle.dsr_envelope.specs.declared.envelope.Envelope.TheVariants.{Reply}
use Rattle.dsr_envelope.specs.declared.entry.Entry.{Entry}
use Rattle.dsr_envelope.specs.declared.entry.Entry.TheVariants.{Post, Take}
use Rattle.dsr_replica.specs.Conduct.{reply_to, IsNext, IsLoyalLog}
use Rattle.dsr_replica.specs.Decided.{slot_read, slot_kept, slot_decided, values, decided_values, decided_requests}
use Rattle.dsr_envelope.specs.Limits.{IsSigned, IsEnvelope, IsReply}
use Rattle.dsr_envelope.specs.Log.{rounds}
use Rattle.dsr_replica.proofs.Fitting.{read_fits, of_round_fits}
use Rattle.dsr_replica.proofs.Posting.{next_of_round}
use Rattle.dsr_replica.proofs.Saying.{reply_made}

-- ---- counting

acting_few : (requests : List Request) → length (acting requests) ≤ length requests
acting_few [] = omega arith
acting_few (r ∷ older) =
    let before = acting_few older in
    elim (rises_above r older) as (λ b. length (if b then r ∷ acting older else acting older) ≤ suc (length older)) [
      | true ↦ omega (arith, before)
      | false ↦ omega (arith, before)
    ]

-- a value of at most 8 requests, each within the limits
pub record IsValueWithin (value : SlotValue) : Type 0 where
  pub few : length (signed_in value) ≤ 8
  pub each : All IsSigned (signed_in value)

requests_few : (of : ℕ → SlotValue) → ((slot : ℕ) → IsValueWithin (of slot)) → (count : ℕ)
    → length (requests_of (map requests_in (values of count))) ≤ 8 * count
requests_few of fits zero = omega arith
requests_few of fits (suc count) =
    let before = requests_few of fits count in
    let few = (fits count).few in
    let mapped = length-map (signed_in (of count)) (λ s. s.request) in
    let turned = length-reverse (requests_in (of count)) in
    let joined = length-append (reverse (requests_in (of count))) (requests_of (map requests_in (values of count))) in
    omega (arith, before, few, mapped, turned, joined)

in_values : (of : ℕ → SlotValue) (count : ℕ) (v : SlotValue) → In v (values of count) → (slot : ℕ) × (of slot ≡ v)
in_values of zero v h = elim h [ ]
in_values of (suc count) v (here e) = (count, e)
in_values of (suc count) v (there h) = in_values of count v h

module _ (shape : Shape) (log : List Entry) (took : (from : Actor) (x : Envelope) → In (Take from x) log → IsEnvelope x) where
  -- what is decided was read within the limits
  decided_fits : (slot : ℕ) → IsValueWithin (slot_decided shape log slot)
  decided_fits slot = elim (decision_from (slot_kept shape log slot (suc shape.f))) [
    | inl idle ↦ subst IsValueWithin (sym idle) (record { few = omega arith; each = All-nil IsSigned })
    | inr found ↦
        let came = after_came shape slot (slot_read shape log slot) (suc shape.f) found.0 found.1 in
        let fits = read_fits shape log took slot found.0.round found.0.chain came.was_read in
        subst IsValueWithin found.2 (record { few = fits.few_requests; each = fits.requests })
  ]

  -- at most 8 requests for each closed round
  pub history_few : length (acted (decided_requests shape log)) ≤ 8 * rounds shape log
  history_few =
      let most = acting_few (requests_of (decided_requests shape log)) in
      let all = requests_few (slot_decided shape log) decided_fits (closed_slots shape (rounds shape log)) in
      let closed = closed_slots_count shape (rounds shape log) in
      omega (arith, most, all, closed)

  -- each request of the history is within the limits
  pub history_fits : (q : Request) → In q (acted (decided_requests shape log)) → IsRequest q
  history_fits q h =
      let found = In-acted q (decided_requests shape log) h in
      let value = from_map requests_in found.0 (decided_values shape log) found.1 in
      let slot = in_values (slot_decided shape log) (closed_slots shape (rounds shape log)) value.0 value.1 in
      let fits = subst IsValueWithin slot.1 (decided_fits slot.0) in
      let ask = from_map (λ (s : SignedRequest). s.request) q (signed_in value.0) (subst (In q) (sym value.2) found.2) in
      subst IsRequest ask.2 (In-all IsSigned ask.0 (signed_in value.0) fits.each ask.1).request

  -- so is each reply, in rounds up to 2^36
  pub reply_fits : rounds shape log ≤ 2 ^ 36 → (client : ℕ) (x : Envelope) → reply_to shape log client ≡ Some x → IsEnvelope x
  reply_fits low client x e = found (reply (decided_requests shape log) client) refl (sym (reply_made shape log client) ∙ e)
    where
      is_reply : (r : AReply) → reply (decided_requests shape log) client ≡ Some r → IsReply r
      is_reply r is =
          let h = reply_stands (acted (decided_requests shape log)) client r is in
          let stands = h.stands in
          let inside : In h.request (acted (decided_requests shape log)) =
          subst (In h.request) (sym stands.parts) (In-append_right h.request stands.newer (h.request ∷ stands.older) (here refl)) in
          let fits = history_fits h.request inside in
          let some = fits.some_number in
          let small = fits.small_number in
          let number = h.number_is in
          let few = history_few in
          let place = stands.place_is in
          let parts = ap length stands.parts in
          let joined = length-append stands.newer (h.request ∷ stands.older) in
          record {
            some_number = omega (arith, some, number);
            number = omega (arith, small, number);
            place = omega (arith, few, place, parts, joined, low);
          }

      found : (o : Option AReply) → reply (decided_requests shape log) client ≡ o → option_map Reply o ≡ Some x → IsEnvelope x
      found None is e = absurd (none-some x e)
      found (Some r) is e = subst IsEnvelope (same_Some (Reply r) x e) (is_reply r is)

-- ---- what comes next

-- what a loyal replica posts next is within the limits
pub next_fits : (shape : Shape) → IsAllowed shape → (p : ℕ) → p < shape.n → (log : List Entry) → IsLoyalLog shape (Replica p) log
    → ((from : Actor) (x : Envelope) → In (Take from x) log → IsEnvelope x) → rounds shape log ≤ 2 ^ 36 → (to : Actor) (x : Envelope)
    → IsNext shape (Replica p) log (Post to x) → IsEnvelope x
next_fits shape allowed p inside log loyal took low (Client c) x next = reply_fits shape log took low c x next.1
next_fits shape allowed p inside log loyal took low (Replica q) x next =
    of_round_fits shape allowed p inside log took (rounds shape log) x low
    (next_of_round shape (Replica p) allowed.some_replica log loyal q next.0 x next.1 next.2)

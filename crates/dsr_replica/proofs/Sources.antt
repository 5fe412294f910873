-- What is on a loyal replica's posts: each chain is its part of some slot's round and proper for it, and each signature is its
-- own or was taken before.
use Rattle.std.proofs.Common.{◌≡◌, ℕ, zero, suc, ◌+◌, ◌-◌, ◌≤◌, ◌==◌, ◌&&◌, not, nat_lt, Bool, true, false, List, [], ◌∷◌, ◌++◌, Option, None, Some, if◌then◌else◌, ◌⊎◌, inl, inr, refl, ap, sym, subst, arith}
use Rattle.std.specs.Prelude.{slice_get}
use Rattle.std.proofs.lemmas.Bool.Decides.{nat_tests}
use Rattle.dsr_base.specs.Member.{In, here, there}
use Rattle.dsr_base.proofs.MemberLemmas.{In-append_cases, In-one, In-from_place}
use Rattle.dsr_names.specs.Shape.{Shape}
use Rattle.dsr_names.specs.declared.actor.Actor.{Actor}
use Rattle.dsr_names.specs.declared.actor.Actor.TheVariants.{Replica, Client}
use Rattle.dsr_names.specs.Support.ActorEquality.{actor_eq, actor_eq-Decides}
use Rattle.dsr_rotation.specs.Calendar.{first_round, last_round}
use Rattle.dsr_desk.specs.Signature.{Signature, signed}
use Rattle.dsr_desk.specs.declared.statement.Statement.{Statement}
use Rattle.dsr_chain.specs.Chain.{Chain, link_after, signers_of}
use Rattle.dsr_chain.specs.Content.{signed_in}
use Rattle.dsr_chain.specs.Proper.{IsReplica}
use Rattle.dsr_chain.specs.declared.signed_request.SignedRequest.{SignedRequest}
use Rattle.dsr_chain.specs.declared.slot_value.SlotValue.{SlotValue}
use Rattle.dsr_slot.specs.Conduct.{posted}
use Rattle.dsr_slot.proofs.Lemmas.{by_test, from_one, from_map, post_proper, post_cases, WasRelayed, IsStart}
use Rattle.dsr_envelope.specs.declared.envelope.Envelope.{Envelope}
use Rattle.dsr_envelope.specs.declared.envelope.Envelope.TheVariants.{Empty, Round, Ask, Reply, Seen}
use Rattle.dsr_envelope.specs.declared.entry.Entry.{Entry}
use Rattle.dsr_envelope.specs.declared.entry.Entry.TheVariants.{Post, Take}
use Rattle.dsr_replica.specs.Conduct.{slot_part, chains_posted}
use Rattle.dsr_replica.specs.Decided.{chains_of, sent, read_in, slot_read, slot_kept}
use Rattle.dsr_envelope.specs.Envelope.{chains_for, round_envelope, IsOn, Carries}
use Rattle.dsr_envelope.specs.Log.{taken_from}
use Rattle.dsr_replica.specs.Posts.{MayPropose, IsOfRound, WasTaken, IsPosted}

-- ---- what was taken

-- an envelope among those taken from an actor is of an entry
pub taken_entry : (a : Actor) (log : List Entry) (envelope : Envelope) → In envelope (taken_from a log) → In (Take a envelope) log
taken_entry a [] envelope h = elim h [ ]
taken_entry a (Post to x ∷ older) envelope h = there (taken_entry a older envelope h)
taken_entry a (Take from x ∷ older) envelope h = elim (by_test (actor_eq from a) (actor_eq-Decides from a) (taken_from a older ++ x ∷ []) (taken_from a older)) [
  | inl same ↦ elim (In-append_cases envelope (taken_from a older) (x ∷ []) (subst (In envelope) same.1 h)) [
    | inl old ↦ there (taken_entry a older envelope old)
    | inr new ↦ here (λ i. Take (same.0 i) (In-one envelope x new i))
  ]
  | inr other ↦ there (taken_entry a older envelope (subst (In envelope) other.1 h))
]

pub in_some : (t : ℕ) (o : Option Envelope) (chain : Chain) → In chain (chains_of t o) → (envelope : Envelope) × (o ≡ Some envelope) × In chain (chains_for t envelope)
in_some t None chain h = elim h [ ]
in_some t (Some envelope) chain h = (envelope, refl, h)

in_if : (b : Bool) (chain : Chain) (chains : List Chain) → In chain (if b then chains else []) → In chain chains
in_if true chain chains h = h
in_if false chain chains h = elim h [ ]

pub carried_for : (t : ℕ) (envelope : Envelope) (chain : Chain) (s : Signature) → In chain (chains_for t envelope) → IsOn s chain → Carries envelope s
carried_for t Empty chain s h on = elim h [ ]
carried_for t (Round round chains) chain s h on = (chain, in_if (round == t) chain chains h, on)
carried_for t (Ask ask) chain s h on = elim h [ ]
carried_for t (Reply reply) chain s h on = elim h [ ]
carried_for t (Seen front) chain s h on = elim h [ ]

-- a signature on a chain that was read was taken
read_taken : (shape : Shape) (log : List Entry) (t : ℕ) (chain : Chain) (s : Signature) → In chain (read_in shape log t) → IsOn s chain → WasTaken log s
read_taken shape log t chain s h on =
    let by = from_one chain shape.n (sent log t) h in
    let found = in_some t (slice_get (taken_from (Replica by.0) log) t) chain by.2 in
    record {
      from = Replica by.0;
      envelope = found.0;
      taken = taken_entry (Replica by.0) log found.0 (In-from_place found.0 (taken_from (Replica by.0) log) t found.1);
      carried = carried_for t found.0 chain s found.2 on;
    }

pub slot_taken : (shape : Shape) (log : List Entry) (slot r : ℕ) (chain : Chain) (s : Signature) → In chain (slot_read shape log slot r) → IsOn s chain
    → WasTaken log s
slot_taken shape log slot zero chain s h on = elim h [ ]
slot_taken shape log slot (suc r) chain s h on = read_taken shape log (first_round shape slot + r) chain s h on

-- ---- what is posted for one slot

module _ (shape : Shape) (me : Actor) (log : List Entry) where
  -- a signature on a chain of the replica's part is its own, or was taken
  part_source : (slot earlier : ℕ) (value : SlotValue) → MayPropose shape log value → (chain : Chain) (s : Signature)
      → In chain (posted shape slot me value (suc earlier) (slot_kept shape log slot earlier)) → IsOn s chain
      → (s.signer ≡ me) ⊎ WasTaken log s
  part_source slot earlier value may chain s h on = elim (post_cases shape slot (slot_read shape log slot) me value earlier chain h) [
    | inl relay ↦ relay_source relay on
    | inr start ↦ start_source start on
  ]
    where
      own_or : (before : List Signature) (statement : Statement) → In s (before ++ signed me statement ∷ []) → (s.signer ≡ me) ⊎ In s before
      own_or before statement h = elim (In-append_cases s before (signed me statement ∷ []) h) [
        | inl old ↦ inr old
        | inr new ↦ inl (ap (λ z. z.signer) (sym (In-one s (signed me statement) new)))
      ]

      relay_source : WasRelayed shape slot (slot_read shape log slot) me value earlier chain → IsOn s chain → (s.signer ≡ me) ⊎ WasTaken log s
      relay_source relay on = elim (subst (IsOn s) (sym relay.is) on) [
        | inl link ↦ elim (own_or relay.chain.signatures (link_after relay.chain.slot relay.chain.value (signers_of relay.chain.signatures)) link) [
          | inl own ↦ inl own
          | inr old ↦ inr (slot_taken shape log slot earlier relay.chain s relay.read_then (inl old))
        ]
        | inr beside ↦ inr (slot_taken shape log slot earlier relay.chain s relay.read_then (inr beside))
      ]

      start_source : IsStart shape slot me value (suc earlier) chain → IsOn s chain → (s.signer ≡ me) ⊎ WasTaken log s
      start_source start on = elim (subst (IsOn s) (sym start.is) on) [
        | inl link ↦ elim (own_or [] (link_after slot value []) link) [
          | inl own ↦ inl own
          | inr old ↦ elim old [ ]
        ]
        | inr beside ↦
            let found = from_map (λ (r : SignedRequest). r.signature) s (signed_in value) beside in
            inr (record {
              from = Client found.0.request.client;
              envelope = Ask found.0;
              taken = may.taken found.0 found.1;
              carried = found.2;
            })
      ]

  -- ---- what is posted in a round

  -- a chain that is posted in a round is the part of a slot in flight
  pub in_part : (round slot : ℕ) (value : SlotValue) (chain : Chain) → In chain (slot_part shape me log round value slot)
      → (first_round shape slot ≤ round) × (round ≤ last_round shape slot)
      × In chain (posted shape slot me value (suc (round - first_round shape slot)) (slot_kept shape log slot (round - first_round shape slot)))
  in_part round slot value chain h =
      let parts = guarded_in (not (nat_lt round (first_round shape slot)) && not (nat_lt (last_round shape slot) round)) chain
      (posted shape slot me value (suc (round - first_round shape slot)) (slot_kept shape log slot (round - first_round shape slot))) h in
      let bounds = in_flight round (first_round shape slot) (last_round shape slot) parts.0 in
      (bounds.0, bounds.1, parts.1)
    where
      guarded_in : (b : Bool) (chain : Chain) (chains : List Chain) → In chain (if b then chains else []) → (b ≡ true) × In chain chains
      guarded_in true chain chains h = (refl, h)
      guarded_in false chain chains h = elim h [ ]

      in_flight : (t first last : ℕ) → (not (nat_lt t first) && not (nat_lt last t)) ≡ true → (first ≤ t) × (t ≤ last)
      in_flight t first last e = (grind (arith, nat_tests), grind (arith, nat_tests))

  pub chain_posted : IsReplica shape me → (round : ℕ) (value : SlotValue) → MayPropose shape log value → (chain : Chain)
      → In chain (chains_posted shape me log round value) → IsPosted shape me log round chain
  chain_posted replica round value may chain h =
      let by = from_one chain (suc round) (slot_part shape me log round value) h in
      let part = in_part round by.0 value chain by.2 in
      let begun = part.0 in
      let unfinished = part.1 in
      record {
        value = value;
        may = may;
        slot = by.0;
        earlier = round - first_round shape by.0;
        round_is = omega (arith, begun);
        within = omega (arith, begun, unfinished);
        stands = part.2;
        proper = post_proper shape by.0 (slot_read shape log by.0) me value replica may.asked (round - first_round shape by.0) chain part.2;
      }

  -- a signature in a round's envelope is the replica's own, or was taken
  pub round_source : (round : ℕ) (envelope : Envelope) → IsOfRound shape me log round envelope → (s : Signature) → Carries envelope s
      → (s.signer ≡ me) ⊎ WasTaken log s
  round_source round envelope h s carried =
      let found = in_round round (chains_posted shape me log round h.value) (subst (λ e. Carries e s) h.is carried) in
      let by = from_one found.0 (suc round) (slot_part shape me log round h.value) found.1 in
      let part = in_part round by.0 h.value found.0 by.2 in
      part_source by.0 (round - first_round shape by.0) h.value h.may found.0 s part.2 found.2
    where
      in_round : (round : ℕ) (chains : List Chain) → Carries (round_envelope round chains) s → (chain : Chain) × In chain chains × IsOn s chain
      in_round round [] carried = elim carried [ ]
      in_round round (c ∷ cs) carried = carried

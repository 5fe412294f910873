-- How many links of a slot a loyal replica signs: one for each chain that it keeps, and one if it is the sender; so at most two,
-- and at most one if the sender is loyal.
use Rattle.std.proofs.Common.{◌≡◌, ◌≢◌, ℕ, zero, suc, ◌+◌, ◌≤◌, List, [], ◌∷◌, length, map, ◌⊎◌, inl, inr, refl, ap, sym, ◌∙◌, subst, arith}
use Rattle.std.specs.Prelude.{slice_get}
use Rattle.std.proofs.lemmas.Bool.{false≢true}
use Rattle.std.proofs.lemmas.List.{length-map}
use Rattle.dsr_base.specs.Member.{In, here, there}
use Rattle.dsr_base.proofs.MemberLemmas.{In-append_left, In-one, In-from_place}
use Rattle.dsr_names.specs.Shape.{Shape, IsLoyal, sender}
use Rattle.dsr_names.specs.declared.actor.Actor.{Actor}
use Rattle.dsr_names.specs.declared.actor.Actor.TheVariants.{Replica}
use Rattle.dsr_names.specs.Support.ActorEquality.{actor_eq, actor_eq-Decides}
use Rattle.dsr_rotation.specs.Calendar.{first_round}
use Rattle.dsr_desk.specs.Signature.{Signature, signed}
use Rattle.dsr_desk.specs.declared.statement.Statement.{Statement}
use Rattle.dsr_chain.specs.Chain.{Chain, signers_of, link_after}
use Rattle.dsr_chain.specs.Content.{content}
use Rattle.dsr_chain.specs.Proper.{sender_of}
use Rattle.dsr_chain.specs.declared.slot_value.SlotValue.{SlotValue}
use Rattle.dsr_chain.proofs.Lemmas.{signer_in, own_place, first_link, link_parts}
use Rattle.dsr_slot.specs.Broadcast.{IsLinkOf}
use Rattle.dsr_slot.specs.Conduct.{posted}
use Rattle.dsr_slot.specs.Keeping.{content_of}
use Rattle.dsr_slot.specs.declared.kept.Kept.{Kept}
use Rattle.dsr_slot.proofs.Lemmas.{HasSigned, IsRelay, IsStart, posted_from, Apart, after_few, after_apart, after_came, after_stays, holds_or_not, in_map, from_one}
use Rattle.dsr_envelope.specs.declared.entry.Entry.{Entry}
use Rattle.dsr_envelope.specs.declared.entry.Entry.TheVariants.{Take}
use Rattle.dsr_replica.specs.Decided.{sent, slot_read, slot_kept}
use Rattle.dsr_envelope.specs.Log.{taken_from}
use Rattle.dsr_replica.proofs.Lemmas.{taken_entry, in_some, carried_for}
use Rattle.dsr_run.specs.Agreement.{HasFewLinks}
use Rattle.dsr_run.specs.Run.{IsTraitor, HasPosted, IsMadeOrPosted, IsRun}
use Rattle.dsr_run.specs.Step.{Step, log_of}
use Rattle.dsr_run.proofs.Agreeing.{some_value}
use Rattle.dsr_run.proofs.Family.{log, Loyal, loyal_log}
use Rattle.dsr_run.proofs.Forging.{all_made}
use Rattle.dsr_run.proofs.Posts.{IsValue}
use Rattle.dsr_run.proofs.Signing.{IsSigned, link_signed}

-- the link that a replica signs when it relays a kept chain
abbrev link_of : ℕ → Kept → Statement
link_of slot k = link_after slot k.chain.value (signers_of k.chain.signatures)

module _ (shape : Shape) (me : Actor) (log : List Entry) (slot : ℕ) (value : SlotValue) where
  -- the replica signed the link when it relayed a chain that it keeps, one without its signature
  pub record IsRelayed (s : Signature) : Type 0 where
    pub from : Kept
    pub kept : In from (slot_kept shape log slot (suc shape.f))
    pub unsigned : ¬ HasSigned me from.chain
    pub link : link_of slot from ≡ s.statement

  -- or when it started its own chain
  pub record IsStarted (s : Signature) : Type 0 where
    pub sender : me ≡ sender_of shape slot
    pub link : link_after slot value [] ≡ s.statement

  stays : (r : ℕ) → r ≤ suc shape.f → (k : Kept) → In k (slot_kept shape log slot r) → In k (slot_kept shape log slot (suc shape.f))
  stays r within k h =
      let grown = after_stays shape slot (slot_read shape log slot) r (suc shape.f) within in
      subst (In k) (sym grown.1) (In-append_left k (slot_kept shape log slot r) grown.0 h)

  -- the source of a link that the replica signed
  pub own_link : (s : Signature) → s.signer ≡ me → IsSigned shape me log slot value s → IsRelayed s ⊎ IsStarted s
  own_link s own h = elim (posted_from shape slot me value (suc h.round) (slot_kept shape log slot h.round) h.chain h.stands) [
    | inl relay ↦ inl (relayed relay)
    | inr start ↦ inr (started_by start)
  ]
    where
      relayed : IsRelay me (suc h.round) (slot_kept shape log slot h.round) h.chain → IsRelayed s
      relayed relay =
          let came = after_came shape slot (slot_read shape log slot) h.round relay.from relay.kept_then in
          let small = h.within in
          let is =
          own_place shape slot relay.from.round relay.from.chain me s came.proper relay.relay.unsigned (subst (λ c. In s c.signatures) (sym relay.is) h.signed) own in
          record {
            from = relay.from;
            kept = stays h.round (omega (arith, small)) relay.from relay.kept_then;
            unsigned = relay.relay.unsigned;
            link = ap (λ z. z.statement) (sym is);
          }

      started_by : IsStart shape slot me value (suc h.round) h.chain → IsStarted s
      started_by start = record {
        sender = start.sender;
        link = ap (λ z. z.statement)
            (In-one s (signed me (link_after slot value [])) (subst (λ c. In s c.signatures) (sym start.is) h.signed));
      }

  -- the sender has signed each chain that it keeps, so it relays none
  pub sender_relays_none : (s : Signature) → me ≡ sender_of shape slot → ¬ IsRelayed s
  sender_relays_none s sends h =
      let came = after_came shape slot (slot_read shape log slot) (suc shape.f) h.from h.kept in
      let first = first_link shape slot h.from.round h.from.chain came.proper in
      h.unsigned (subst (λ a. HasSigned a h.from.chain) (first.2 ∙ sym sends) (signer_in first.0 h.from.chain.signatures first.1))

-- if all of these have one content, they are at most one
one_kept : (value : SlotValue) (ks : List Kept) → Apart ks → ((k : Kept) → In k ks → content_of k ≡ content value) → length ks ≤ 1
one_kept value [] apart only = omega arith
one_kept value (k ∷ []) apart only = omega arith
one_kept value (k ∷ l ∷ rest) apart only =
    absurd (apart.0 (l, here refl, only l (there (here refl)) ∙ sym (only k (here refl))))

module _ (shape : Shape) (run : List Step) (is : IsRun shape run) (slot : ℕ) where
  -- a loyal replica's links are those of the chains that it keeps, and of the one that it starts
  links_from : (l : ℕ) (loyal : Loyal shape run is slot l) (value : SlotValue) → IsValue shape (log shape run is slot (sender shape slot)) slot value
      → (s : Signature) → HasPosted (log shape run is slot l) s → s.signer ≡ Replica l → IsLinkOf slot s.statement
      → IsRelayed shape (Replica l) (log shape run is slot l) slot value s ⊎ IsStarted shape (Replica l) (log shape run is slot l) slot value s
  links_from l loyal value its s h own link =
      own_link shape (Replica l) (log shape run is slot l) slot value s own
      (link_signed shape (log shape run is slot) (loyal_log shape run is slot) slot value its l loyal s own link h)

  -- the sender signs only one link
  sender_links : (l : ℕ) → Loyal shape run is slot l → Replica l ≡ sender_of shape slot → HasFewLinks (Replica l) (log shape run is slot l) slot 1
  sender_links l loyal sends =
      let v = some_value shape run is slot in
      record {
        links = link_after slot v.0 [] ∷ [];
        few = omega arith;
        all = λ s h own link. elim (links_from l loyal v.0 v.1 s h own link) [
          | inl relayed ↦ absurd (sender_relays_none shape (Replica l) (log shape run is slot l) slot v.0 s sends relayed)
          | inr start ↦ here start.link
        ];
      }

  -- another replica signs one link for each chain that it keeps
  other_links : (l : ℕ) → Loyal shape run is slot l → Replica l ≢ sender_of shape slot → (most : ℕ)
      → length (slot_kept shape (log shape run is slot l) slot (suc shape.f)) ≤ most → HasFewLinks (Replica l) (log shape run is slot l) slot most
  other_links l loyal other most few =
      let v = some_value shape run is slot in
      let kept = slot_kept shape (log shape run is slot l) slot (suc shape.f) in
      let count = length-map kept (link_of slot) in
      record {
        links = map (link_of slot) kept;
        few = omega (arith, few, count);
        all = λ s h own link. elim (links_from l loyal v.0 v.1 s h own link) [
          | inl relayed ↦ subst (λ z. In z (map (link_of slot) kept)) relayed.link (in_map (link_of slot) relayed.from kept relayed.kept)
          | inr start ↦ absurd (other start.sender)
        ];
      }

  -- a signature on a chain that was read is a traitor's, or its signer has posted it
  was_read : (l r : ℕ) (c : Chain) (s : Signature) → In c (slot_read shape (log shape run is slot l) slot r) → In s c.signatures
      → IsMadeOrPosted shape (log_of run) s
  was_read l zero c s h stands = elim h [ ]
  was_read l (suc r) c s h stands =
      let t = first_round shape slot + r in
      let by = from_one c shape.n (sent (log shape run is slot l) t) h in
      let found = in_some t (slice_get (taken_from (Replica by.0) (log shape run is slot l)) t) c by.2 in
      all_made shape run is (Replica l) (Take (Replica by.0) found.0)
      (taken_entry (Replica by.0) (log shape run is slot l) found.0
      (In-from_place found.0 (taken_from (Replica by.0) (log shape run is slot l)) t found.1)) s (carried_for t found.0 c s found.2 (inl stands))

  -- with a loyal sender, what a loyal replica keeps has only the sender's content
  only_its_own : (l : ℕ) → Loyal shape run is slot l → (sends : IsLoyal shape (sender_of shape slot)) → (value : SlotValue)
      → IsValue shape (log shape run is slot (sender shape slot)) slot value
      → (k : Kept) → In k (slot_kept shape (log shape run is slot l) slot (suc shape.f)) → content_of k ≡ content value
  only_its_own l loyal sends value its k h =
      let came = after_came shape slot (slot_read shape (log shape run is slot l) slot) (suc shape.f) k h in
      let first = first_link shape slot k.round k.chain came.proper in
      let was = was_read l k.round k.chain first.0 came.was_read first.1 in
      let by = not_traitor first.0 sends (subst (λ a. IsTraitor shape a ⊎ HasPosted (log_of run a) first.0) first.2 was) in
      let link : IsLinkOf slot first.0.statement = subst (IsLinkOf slot) (sym first.3) refl in
      elim (links_from (sender shape slot) sends value its first.0 by first.2 link) [
        | inl relayed ↦
            absurd (sender_relays_none shape (sender_of shape slot) (log shape run is slot (sender shape slot)) slot value first.0 refl relayed)
        | inr start ↦ sym (link_parts slot slot value k.chain.value [] [] (start.link ∙ first.3)).1
      ]
    where
      not_traitor : (s : Signature) → IsLoyal shape (sender_of shape slot) → (IsTraitor shape (sender_of shape slot) ⊎ HasPosted (log_of run (sender_of shape slot)) s)
          → HasPosted (log_of run (sender_of shape slot)) s
      not_traitor s loyal (inl traitor) = absurd (false≢true (sym loyal.1 ∙ traitor.1))
      not_traitor s loyal (inr posted) = posted

  pub two_links : (l : ℕ) → Loyal shape run is slot l → HasFewLinks (Replica l) (log shape run is slot l) slot 2
  two_links l loyal = elim (holds_or_not (actor_eq (Replica l) (sender_of shape slot)) (actor_eq-Decides (Replica l) (sender_of shape slot))) [
    | inl sends ↦
        let one = sender_links l loyal sends in
        let few = one.few in
        record { links = one.links; few = omega (arith, few); all = one.all }
    | inr other ↦ other_links l loyal other 2 (after_few shape slot (slot_read shape (log shape run is slot l) slot) (suc shape.f))
  ]

  pub one_link : (l : ℕ) → Loyal shape run is slot l → IsLoyal shape (sender_of shape slot)
      → HasFewLinks (Replica l) (log shape run is slot l) slot 1
  one_link l loyal loyal_sender =
      let v = some_value shape run is slot in
      elim (holds_or_not (actor_eq (Replica l) (sender_of shape slot)) (actor_eq-Decides (Replica l) (sender_of shape slot))) [
        | inl sends ↦ sender_links l loyal sends
        | inr other ↦
            other_links l loyal other 1
            (one_kept v.0 (slot_kept shape (log shape run is slot l) slot (suc shape.f))
            (after_apart shape slot (slot_read shape (log shape run is slot l) slot) (suc shape.f))
            (λ k h. only_its_own l loyal loyal_sender v.0 v.1 k h))
      ]

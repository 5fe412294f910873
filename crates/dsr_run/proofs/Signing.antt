-- Where the links that a loyal replica signed are: in its part of the link's slot.
use Rattle.std.proofs.Common.{◌≡◌, ℕ, suc, ◌-◌, ◌<◌, ◌≤◌, List, [], ◌∷◌, ◌++◌, Option, None, Some, inl, inr, ap, sym, ◌∙◌, subst, arith}
use Rattle.std.specs.Prelude.{All, map, slice_get}
use Rattle.std.specs.Option.{option_map}
use Rattle.std.proofs.lemmas.Option.{none-some, same_Some}
use Rattle.dsr_base.specs.Member.{In, here, there}
use Rattle.dsr_base.proofs.MemberLemmas.{In-append_left, In-append_right, In-place, In-all}
use Rattle.dsr_names.specs.Shape.{Shape, IsLoyal, sender}
use Rattle.dsr_names.specs.declared.actor.Actor.{Actor}
use Rattle.dsr_names.specs.declared.actor.Actor.TheVariants.{Replica, Client}
use Rattle.dsr_names.specs.Support.ActorEquality.{actor_eq, actor_eq-Decides}
use Rattle.dsr_ledger.specs.declared.reply.Reply.{Reply as AReply}
use Rattle.dsr_history.specs.History.{reply}
use Rattle.dsr_rotation.specs.Calendar.{first_round}
use Rattle.dsr_desk.specs.Signature.{Signature}
use Rattle.dsr_chain.specs.Chain.{Chain}
use Rattle.dsr_chain.specs.Content.{signed_in}
use Rattle.dsr_chain.specs.Proper.{IsAsked}
use Rattle.dsr_chain.specs.declared.signed_request.SignedRequest.{SignedRequest}
use Rattle.dsr_chain.specs.declared.slot_value.SlotValue.{SlotValue}
use Rattle.dsr_chain.proofs.Lemmas.{link_at}
use Rattle.dsr_slot.specs.Broadcast.{IsLinkOf}
use Rattle.dsr_slot.specs.Conduct.{posted}
use Rattle.dsr_slot.proofs.Lemmas.{by_test, from_one, from_map, post_proper}
use Rattle.dsr_envelope.specs.declared.envelope.Envelope.{Envelope}
use Rattle.dsr_envelope.specs.declared.envelope.Envelope.TheVariants.{Reply}
use Rattle.dsr_envelope.specs.declared.entry.Entry.{Entry}
use Rattle.dsr_envelope.specs.declared.entry.Entry.TheVariants.{Post, Take}
use Rattle.dsr_replica.specs.Conduct.{slot_part, chains_posted, IsNext, IsLoyalLog}
use Rattle.dsr_replica.specs.Counts.{IsInside}
use Rattle.dsr_replica.specs.Decided.{slot_read, slot_kept, decided_requests}
use Rattle.dsr_envelope.specs.Envelope.{round_envelope, Carries, IsOn}
use Rattle.dsr_envelope.specs.Log.{posted_to}
use Rattle.dsr_replica.proofs.Lemmas.{post_due, counts, in_part}
use Rattle.dsr_run.specs.Run.{HasPosted}
use Rattle.dsr_run.proofs.Posts.{IsValue, IsOfSlot, post_of_slot}

-- ---- posts in a loyal log

-- each entry of a loyal log was next for the log before it
pub record WasNext (shape : Shape) (me : Actor) (entry : Entry) : Type 0 where
  pub older : List Entry
  pub loyal : IsLoyalLog shape me older
  pub next : IsNext shape me older entry

pub was_next : (shape : Shape) (me : Actor) (log : List Entry) → IsLoyalLog shape me log → (entry : Entry) → In entry log → WasNext shape me entry
was_next shape me [] loyal entry h = elim h [ ]
was_next shape me (x ∷ older) loyal entry (here e) = record { older = older; loyal = loyal.0; next = subst (IsNext shape me older) e loyal.1 }
was_next shape me (x ∷ older) loyal entry (there h) = was_next shape me older loyal.0 entry h

-- what is posted to a client is a reply
pub client_post : (shape : Shape) (me : Actor) (c : ℕ) (x : Envelope) → WasNext shape me (Post (Client c) x) → (r : AReply) × (Reply r ≡ x)
client_post shape me c x h = found (reply (decided_requests shape h.older) c) h.next.1
  where
    found : (o : Option AReply) → option_map Reply o ≡ Some x → (r : AReply) × (Reply r ≡ x)
    found None e = absurd (none-some x e)
    found (Some r) e = (r, same_Some (Reply r) x e)

-- a post to a replica is to one of the shape
pub post_inside : (shape : Shape) (me : Actor) (q : ℕ) (x : Envelope) → 0 < shape.n → WasNext shape me (Post (Replica q) x) → q < shape.n
post_inside shape me q x some h =
    subst (IsInside shape.n) (post_due shape me h.older q h.next.0 x h.next.2) (counts shape me some h.older h.loyal).inside

-- what was posted is among what was posted to its taker
pub entry_posted : (a : Actor) (log : List Entry) (x : Envelope) → In (Post a x) log → In x (posted_to a log)
entry_posted a [] x h = elim h [ ]
entry_posted a (Take from y ∷ older) x (here e) = absurd cc
entry_posted a (Take from y ∷ older) x (there h) = entry_posted a older x h
entry_posted a (Post to y ∷ older) x (here e) =
    elim (by_test (actor_eq to a) (actor_eq-Decides to a) (posted_to a older ++ y ∷ []) (posted_to a older)) [
      | inl same ↦ subst (In x) (sym same.1) (In-append_right x (posted_to a older) (y ∷ []) (here (envelopes e)))
      | inr other ↦ absurd (other.0 (actors e))
    ]
  where
    envelopes : Post to y ≡ Post a x → y ≡ x
    envelopes e = cc

    actors : Post to y ≡ Post a x → to ≡ a
    actors e = cc
entry_posted a (Post to y ∷ older) x (there h) =
    elim (by_test (actor_eq to a) (actor_eq-Decides to a) (posted_to a older ++ y ∷ []) (posted_to a older)) [
      | inl same ↦ subst (In x) (sym same.1) (In-append_left x (posted_to a older) (y ∷ []) (entry_posted a older x h))
      | inr other ↦ subst (In x) (sym other.1) (entry_posted a older x h)
    ]

-- ---- signatures on links

in_round : (s : Signature) (round : ℕ) (chains : List Chain) → Carries (round_envelope round chains) s
    → (chain : Chain) × In chain chains × IsOn s chain
in_round s round [] carried = elim carried [ ]
in_round s round (c ∷ cs) carried = carried

-- no replica's signature is beside a request that was asked
not_beside : (shape : Shape) (l : ℕ) (s : Signature) (value : SlotValue) → All (IsAsked shape) (signed_in value) → s.signer ≡ Replica l
    → In s (map (λ r. r.signature) (signed_in value)) → ⊥
not_beside shape l s value asked signer h =
    let found = from_map (λ (r : SignedRequest). r.signature) s (signed_in value) h in
    let its = In-all (IsAsked shape) found.0 (signed_in value) asked found.1 in
    differ found.0.request.client (ap (λ z. z.signer) (sym its.signature) ∙ (ap (λ z. z.signer) found.2 ∙ signer))
  where
    differ : (c : ℕ) → Client c ≡ Replica l → ⊥
    differ c e = cc

-- a signature is in the replica's part of a round of the slot
pub record IsSigned (shape : Shape) (me : Actor) (log : List Entry) (slot : ℕ) (value : SlotValue) (s : Signature) : Type 0 where
  pub round : ℕ
  pub within : round ≤ shape.f
  pub taker : ℕ
  pub inside : taker < shape.n
  pub chain : Chain
  pub stands : In chain (posted shape slot me value (suc round) (slot_kept shape log slot round))
  pub signed : In s chain.signatures

module _ (shape : Shape) (log : ℕ → List Entry) (loyal_log : (p : ℕ) → IsLoyal shape (Replica p) → IsLoyalLog shape (Replica p) (log p))
    (slot : ℕ) (value : SlotValue) (its : IsValue shape (log (sender shape slot)) slot value) (l : ℕ) (loyal : IsLoyal shape (Replica l)) where
  -- a chain of the replica's part of a slot, on which it signed a link of this slot, is for this slot
  in_slot : (q t k : ℕ) (x : Envelope) (h : IsOfSlot shape (Replica l) (log l) slot value t x) → q < shape.n → (chain : Chain)
      → In chain (slot_part shape (Replica l) (log l) t h.made_for k) → (s : Signature) → IsLinkOf slot s.statement → In s chain.signatures
      → IsSigned shape (Replica l) (log l) slot value s
  in_slot q t k x h inside chain stands s link signed =
      let part = in_part shape (Replica l) (log l) t k h.made_for chain stands in
      let proper = post_proper shape k (slot_read shape (log l) k) (Replica l) h.made_for loyal.0 h.asked (t - first_round shape k) chain part.2 in
      let on = link_at shape k (suc (t - first_round shape k)) chain s proper signed in
      let same : k ≡ slot = subst (IsLinkOf slot) on.statement link in
      let its_part : In chain (slot_part shape (Replica l) (log l) t value slot) =
      subst (In chain) h.part (subst (λ j. In chain (slot_part shape (Replica l) (log l) t h.made_for j)) same stands) in
      let found = in_part shape (Replica l) (log l) t slot value chain its_part in
      let begun = found.0 in
      let unfinished = found.1 in
      record {
        round = t - first_round shape slot;
        within = omega (arith, begun, unfinished);
        taker = q;
        inside = inside;
        chain = chain;
        stands = found.2;
        signed = signed;
      }

  in_post : (q t : ℕ) (x : Envelope) → q < shape.n → slice_get (posted_to (Replica q) (log l)) t ≡ Some x → (s : Signature)
      → s.signer ≡ Replica l → IsLinkOf slot s.statement → Carries x s → IsSigned shape (Replica l) (log l) slot value s
  in_post q t x inside e s signer link carried =
      let h = post_of_slot shape log loyal_log slot value its l loyal q inside t x e in
      let found = in_round s t (chains_posted shape (Replica l) (log l) t h.made_for) (subst (λ z. Carries z s) h.is carried) in
      let by = from_one found.0 (suc t) (slot_part shape (Replica l) (log l) t h.made_for) found.1 in
      elim found.2 [
        | inl signed ↦ in_slot q t by.0 x h inside found.0 by.2 s link signed
        | inr beside ↦
            let part = in_part shape (Replica l) (log l) t by.0 h.made_for found.0 by.2 in
            let proper =
            post_proper shape by.0 (slot_read shape (log l) by.0) (Replica l) h.made_for loyal.0 h.asked (t - first_round shape by.0) found.0 part.2 in
            absurd (not_beside shape l s found.0.value proper.asked signer beside)
      ]

  -- a link of the slot that the replica signed and posted is in its part of a round of the slot
  pub link_signed : (s : Signature) → s.signer ≡ Replica l → IsLinkOf slot s.statement → HasPosted (log l) s
      → IsSigned shape (Replica l) (log l) slot value s
  link_signed s signer link h = by_taker h.to h.envelope h.posted h.carried
    where
      by_taker : (to : Actor) (x : Envelope) → In (Post to x) (log l) → Carries x s → IsSigned shape (Replica l) (log l) slot value s
      by_taker (Client c) x h carried =
          let r = client_post shape (Replica l) c x (was_next shape (Replica l) (log l) (loyal_log l loyal) (Post (Client c) x) h) in
          elim (subst (λ e. Carries e s) (sym r.1) carried) [ ]
      by_taker (Replica q) x h carried =
          let some : 0 < shape.n = let low = loyal.0 in omega (arith, low) in
          let inside = post_inside shape (Replica l) q x some (was_next shape (Replica l) (log l) (loyal_log l loyal) (Post (Replica q) x) h) in
          let place = In-place x (posted_to (Replica q) (log l)) (entry_posted (Replica q) (log l) x h) in
          in_post q place.0 x inside place.1 s signer link carried

-- What the signatures in a client's posts come from: they are the client's own, in its asks.
use Rattle.std.proofs.Common.{◌≡◌, ℕ, List, [], ◌∷◌, Option, None, Some, ap, sym, ◌∙◌, subst}
use Rattle.std.specs.Option.{option_map}
use Rattle.std.proofs.lemmas.Option.{none-some, same_Some}
use Rattle.dsr_base.specs.Member.{In, here, there}
use Rattle.dsr_names.specs.Shape.{Shape}
use Rattle.dsr_names.specs.declared.actor.Actor.{Actor}
use Rattle.dsr_names.specs.declared.actor.Actor.TheVariants.{Replica, Client}
use Rattle.dsr_desk.specs.Signature.{Signature, signed}
use Rattle.dsr_desk.specs.declared.statement.Statement.TheVariants.{Ask as OnAsk}
use Rattle.dsr_chain.specs.declared.signed_request.SignedRequest.{SignedRequest}
use Rattle.dsr_envelope.specs.declared.envelope.Envelope.{Envelope}
use Rattle.dsr_envelope.specs.declared.envelope.Envelope.TheVariants.{Ask}
use Rattle.dsr_envelope.specs.declared.entry.Entry.{Entry}
use Rattle.dsr_envelope.specs.declared.entry.Entry.TheVariants.{Post}
use Rattle.dsr_envelope.specs.Envelope.{Carries}
use Rattle.dsr_client.specs.Conduct.{IsNext, IsClientLog, chosen_beside, next_number}
use Rattle.dsr_client.specs.State.{outstanding}
use Rattle.dsr_client.proofs.Numbers.{IsOwn, numbered}

-- an ask that a client posted, of this request and with this signature
pub record WasAsked (me : ℕ) (log : List Entry) (s : Signature) : Type 0 where
  pub to : ℕ
  pub ask : SignedRequest
  pub posted : In (Post (Replica to) (Ask ask)) log
  pub carried : ask.signature ≡ s
  pub own : signed (Client me) (OnAsk ask.request) ≡ s

ask_alone : (o : Option SignedRequest) (envelope : Envelope) → option_map Ask o ≡ Some envelope → (ask : SignedRequest) × (Ask ask ≡ envelope)
ask_alone None envelope e = absurd (none-some envelope e)
ask_alone (Some ask) envelope e = (ask, same_Some (Ask ask) envelope e)

module _ (shape : Shape) (me : ℕ) where
  -- what a client posts to replicas is asks, and what it posts to clients carries no signature
  posts_ask : (older : List Entry) (to : Actor) (envelope : Envelope) → IsNext shape me older (Post to envelope) → (s : Signature) → Carries envelope s
      → (q : ℕ) × (ask : SignedRequest) × (Post to envelope ≡ Post (Replica q) (Ask ask)) × (ask.signature ≡ s)
  posts_ask older (Client c) envelope next s carried = elim (subst (λ e. Carries e s) next.2 carried) [ ]
  posts_ask older (Replica q) envelope next s carried =
      let found = ask_alone (chosen_beside (outstanding shape older) me (next_number shape older) next.1.0) envelope next.1.1 in
      (q, found.0, ap (Post (Replica q)) (sym found.1), subst (λ e. Carries e s) (sym found.1) carried)

  asked_in : (log : List Entry) → IsClientLog shape me log → (to : Actor) (envelope : Envelope) → In (Post to envelope) log → (s : Signature)
      → Carries envelope s → (q : ℕ) × (ask : SignedRequest) × In (Post (Replica q) (Ask ask)) log × (ask.signature ≡ s)
  asked_in [] loyal to envelope h s carried = elim h [ ]
  asked_in (entry ∷ older) loyal to envelope (here e) s carried =
      let found = posts_ask older to envelope (subst (IsNext shape me older) e loyal.1) s carried in
      (found.0, found.1, here (e ∙ found.2), found.3)
  asked_in (entry ∷ older) loyal to envelope (there later) s carried =
      let found = asked_in older loyal.0 to envelope later s carried in
      (found.0, found.1, there found.2, found.3)

  -- each signature that a client posts is its own, and is beside a request that it asked
  pub client_posted : (log : List Entry) → IsClientLog shape me log → (to : Actor) (envelope : Envelope) → In (Post to envelope) log → (s : Signature)
      → Carries envelope s → WasAsked me log s
  client_posted log loyal to envelope h s carried =
      let found = asked_in log loyal to envelope h s carried in
      let own = ((numbered shape me log loyal).posted found.0 found.1 found.2).0 in
      record {
        to = found.0;
        ask = found.1;
        posted = found.2;
        carried = found.3;
        own = own_signature found.1 own ∙ found.3;
      }
    where
      own_signature : (ask : SignedRequest) → IsOwn me ask → signed (Client me) (OnAsk ask.request) ≡ ask.signature
      own_signature ask own =
          let made = ap (λ z. z.signature) own.is in
          let request = ap (λ z. z.request) own.is in
          ap (λ r. signed (Client me) (OnAsk r)) (sym request) ∙ made

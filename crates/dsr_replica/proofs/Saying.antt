-- What the definitions of proposed asks and of replies say. The other lemmas look no further into these two.
use Rattle.std.proofs.Common.{◌≡◌, ℕ, Bool, true, false, List, Option, None, Some, if◌then◌else◌, refl, ap, sym, ◌∙◌}
use Rattle.std.specs.Option.{option_map}
use Rattle.std.proofs.lemmas.Option.{none-some, same_Some}
use Rattle.dsr_names.specs.Shape.{Shape}
use Rattle.dsr_names.specs.declared.actor.Actor.{Actor}
use Rattle.dsr_names.specs.Support.ActorEquality.{actor_eq}
use Rattle.dsr_chain.specs.Proper.{sender_of}
use Rattle.dsr_chain.specs.declared.signed_request.SignedRequest.{SignedRequest}
use Rattle.dsr_chain.specs.declared.slot_value.SlotValue.{SlotValue}
use Rattle.dsr_chain.specs.declared.slot_value.SlotValue.TheVariants.{Act}
use Rattle.dsr_history.specs.History.{reply}
use Rattle.dsr_envelope.specs.declared.envelope.Envelope.TheVariants.{Reply}
use Rattle.dsr_envelope.specs.declared.entry.Entry.{Entry}
use Rattle.dsr_replica.specs.Conduct.{from_held, reply_to}
use Rattle.dsr_replica.specs.Decided.{decided_requests}

-- the envelope for a client has the reply to its last request that acted
pub reply_made : (shape : Shape) (log : List Entry) (client : ℕ) → reply_to shape log client ≡ option_map Reply (reply (decided_requests shape log) client)
reply_made shape log client = refl

module _ (shape : Shape) (me : Actor) (round : ℕ) (asks : Option (List SignedRequest)) where
  -- the sender proposes the asks
  pub from_sender : actor_eq me (sender_of shape round) ≡ true → from_held shape me round asks ≡ option_map Act asks
  from_sender own = ap (λ b. if b then option_map Act asks else None) own

  -- no one else proposes any
  pub from_another : actor_eq me (sender_of shape round) ≡ false → from_held shape me round asks ≡ None
  from_another other = ap (λ b. if b then option_map Act asks else None) other

  -- who proposes asks, and which
  pub record IsFrom (value : SlotValue) : Type 0 where
    pub own : actor_eq me (sender_of shape round) ≡ true
    pub list : List SignedRequest
    pub are : asks ≡ Some list
    pub is : Act list ≡ value

  pub from_parts : (value : SlotValue) → from_held shape me round asks ≡ Some value → IsFrom value
  from_parts value e = by_sender (actor_eq me (sender_of shape round)) refl
    where
      some_asks : (o : Option (List SignedRequest)) → option_map Act o ≡ Some value → (list : List SignedRequest) × (o ≡ Some list) × (Act list ≡ value)
      some_asks None made = absurd (none-some value made)
      some_asks (Some list) made = (list, refl, same_Some (Act list) value made)

      by_sender : (b : Bool) → actor_eq me (sender_of shape round) ≡ b → IsFrom value
      by_sender true own =
          let found = some_asks asks (sym (from_sender own) ∙ e) in
          record { own = own; list = found.0; are = found.1; is = found.2 }
      by_sender false other = absurd (none-some value (sym (from_another other) ∙ e))

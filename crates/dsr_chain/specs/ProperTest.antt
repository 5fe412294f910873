-- Tests of chains that definitions branch on: whether one is proper, fact by fact in the order of that definition,
-- whether two contents are the same, and whether an actor signed (this project).
use Rattle.std.specs.Prelude.{ℕ, Bool, true, false, not, ◌&&◌, ◌==◌, nat_lt, List, [], ◌∷◌, ◌++◌, Option, length}
use Rattle.std.specs.List.{list_all, list_any}
use Rattle.std.specs.Option.{option_eq}
use Rattle.dsr_names.specs.Shape.{Shape}
use Rattle.dsr_names.specs.declared.actor.Actor.{Actor}
use Rattle.dsr_names.specs.declared.actor.Actor.TheVariants.{Replica, Client}
use Rattle.dsr_request.specs.Request.{Request}
use Rattle.dsr_request.specs.Support.RequestEquality.{requests_eq}
use Rattle.dsr_desk.specs.Signature.{Signature, signed}
use Rattle.dsr_names.specs.Support.ActorEquality.{actor_eq}
use Rattle.dsr_desk.specs.Support.StatementEquality.{statement_eq}
use Rattle.dsr_desk.specs.Support.SignatureEquality.{signature_eq}
use Rattle.dsr_desk.specs.declared.statement.Statement.TheVariants.{Ask}
use Rattle.dsr_chain.specs.Content.{signed_in}
use Rattle.dsr_chain.specs.Chain.{Chain, signers_of, link_after}
use Rattle.dsr_chain.specs.Proper.{sender_of}
use Rattle.dsr_chain.specs.declared.signed_request.SignedRequest.{SignedRequest}
use Rattle.dsr_chain.specs.declared.slot_value.SlotValue.{SlotValue}

-- whether two contents are the same
abbrev pub same_content : Option (List Request) → Option (List Request) → Bool
same_content = option_eq requests_eq

-- whether one of the signatures is this actor's
abbrev pub has_signed : Actor → List Signature → Bool
has_signed a signatures = list_any (λ s. actor_eq s.signer a) signatures

-- whether this actor is one of the chain's signers
abbrev pub is_signer : Actor → Chain → Bool
is_signer a chain = has_signed a chain.signatures

-- whether the list begins with this actor
abbrev pub begins_with : Actor → List Actor → Bool
begins_with a [] = false
begins_with a (b ∷ rest) = actor_eq b a

-- whether the actor is a replica of the shape
abbrev pub is_replica : Shape → Actor → Bool
is_replica shape (Replica r) = nat_lt r shape.n
is_replica shape (Client c) = false

-- whether no actor is in the list twice
abbrev pub are_distinct : List Actor → Bool
are_distinct [] = true
are_distinct (a ∷ rest) = not (list_any (λ b. actor_eq b a) rest) && are_distinct rest

-- whether each signature is on the link after the signers before it, if `before` signed before the first
abbrev pub links_fit : ℕ → SlotValue → List Signature → List Actor → Bool
links_fit slot value [] before = true
links_fit slot value (s ∷ rest) before =
    statement_eq s.statement (link_after slot value before) && links_fit slot value rest (before ++ s.signer ∷ [])

-- whether the request's client is in the shape, and the signature beside it is that client's on it
abbrev pub is_asked : Shape → SignedRequest → Bool
is_asked shape s = nat_lt s.request.client shape.m && signature_eq s.signature (signed (Client s.request.client) (Ask s.request))

-- whether the chain is proper for this round of this slot
abbrev pub is_proper : Shape → ℕ → ℕ → Chain → Bool
is_proper shape slot round chain =
    (chain.slot == slot)
    && ((length chain.signatures == round)
    && (begins_with (sender_of shape slot) (signers_of chain.signatures)
    && (list_all (is_replica shape) (signers_of chain.signatures)
    && (are_distinct (signers_of chain.signatures)
    && (links_fit chain.slot chain.value chain.signatures []
    && list_all (is_asked shape) (signed_in chain.value))))))

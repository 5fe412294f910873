-- Whether a chain is proper does not depend on who is a traitor.
use Rattle.std.proofs.Common.{◌≡◌, ℕ, ◌&&◌, ◌==◌, nat_lt, [], length, refl, ap, sym, ◌∙◌, subst}
use Rattle.std.specs.Prelude.{◌<◌, ◌%◌}
use Rattle.std.specs.List.{list_all}
use Rattle.dsr_names.specs.Shape.{Shape, AgreeButForTraitors}
use Rattle.dsr_names.specs.declared.actor.Actor.{Actor}
use Rattle.dsr_names.specs.declared.actor.Actor.TheVariants.{Replica, Client}
use Rattle.dsr_desk.specs.Signature.{signed}
use Rattle.dsr_desk.specs.Support.SignatureEquality.{signature_eq}
use Rattle.dsr_desk.specs.declared.statement.Statement.TheVariants.{Ask}
use Rattle.dsr_chain.specs.Content.{signed_in}
use Rattle.dsr_chain.specs.Chain.{Chain, signers_of}
use Rattle.dsr_chain.specs.Proper.{IsAsked, IsProper, sender_of}
use Rattle.dsr_chain.specs.ProperTest.{begins_with, is_replica, are_distinct, links_fit, is_asked, is_proper}
use Rattle.dsr_chain.specs.declared.signed_request.SignedRequest.{SignedRequest}
use Rattle.dsr_chain.proofs.ProperDecides.{is_proper-Decides}

module _ (shape other : Shape) (agree : AgreeButForTraitors shape other) where
  pub sender_blind : (slot : ℕ) → sender_of shape slot ≡ sender_of other slot
  sender_blind slot = ap (λ n. Replica (slot % n)) agree.replicas

  replica_blind : (a : Actor) → is_replica shape a ≡ is_replica other a
  replica_blind (Replica r) = ap (nat_lt r) agree.replicas
  replica_blind (Client c) = refl

  asked_test_blind : (s : SignedRequest) → is_asked shape s ≡ is_asked other s
  asked_test_blind s =
      ap (λ m. nat_lt s.request.client m && signature_eq s.signature (signed (Client s.request.client) (Ask s.request))) agree.clients

  -- the test of a chain gives the same
  pub is_proper_blind : (slot round : ℕ) (chain : Chain) → is_proper shape slot round chain ≡ is_proper other slot round chain
  is_proper_blind slot round chain =
      let signers = signers_of chain.signatures in
      λ i. (chain.slot == slot)
      && ((length chain.signatures == round)
      && (begins_with (sender_blind slot i) signers
      && (list_all (λ a. replica_blind a i) signers
      && (are_distinct signers
      && (links_fit chain.slot chain.value chain.signatures [] && list_all (λ s. asked_test_blind s i) (signed_in chain.value))))))

  -- so a chain that is proper for the one shape is proper for the other
  pub proper_blind : (slot round : ℕ) (chain : Chain) → IsProper shape slot round chain → IsProper other slot round chain
  proper_blind slot round chain h =
      (is_proper-Decides other slot round chain).0 (sym (is_proper_blind slot round chain) ∙ (is_proper-Decides shape slot round chain).1 h)

  pub asked_blind : (s : SignedRequest) → IsAsked shape s → IsAsked other s
  asked_blind s h = record { client = subst (λ m. s.request.client < m) agree.clients h.client; signature = h.signature }

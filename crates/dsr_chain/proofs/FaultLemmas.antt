-- A chain is proper exactly if no fault holds: every part of the definition can be decided.
use Rattle.std.proofs.Common.{◌≡◌, ◌≢◌, ℕ, ◌<◌, Bool, true, false, List, Some, None, Option, length, get_or, refl, ap, sym, ◌∙◌, subst, eqb, inl, inr, arith}
use Rattle.std.specs.Prelude.{All, AllPairs, Any, slice_get}
use Rattle.std.specs.Bool.{Decides}
use Rattle.std.proofs.lemmas.Bool.{cases_lt}
use Rattle.std.proofs.lemmas.Bool.Decides.{Decides-eqb}
use Rattle.std.proofs.lemmas.List.{get_or_default}
use Rattle.std.proofs.lemmas.Option.{slice_get_within, get_or_from_slice_get, slice_get-get_or}
use Rattle.dsr_names.specs.Shape.{Shape}
use Rattle.dsr_names.specs.declared.actor.Actor.{Actor}
use Rattle.dsr_names.specs.declared.actor.Actor.TheVariants.{Replica, Client}
use Rattle.dsr_desk.specs.Signature.{Signature, signed}
use Rattle.dsr_names.specs.Support.ActorEquality.{actor_eq, actor_eq-Decides}
use Rattle.dsr_desk.specs.Support.StatementEquality.{statement_eq, statement_eq-Decides}
use Rattle.dsr_desk.specs.Support.SignatureEquality.{signature_eq, signature_eq-Decides}
use Rattle.dsr_desk.specs.declared.statement.Statement.TheVariants.{Ask}
use Rattle.dsr_chain.specs.Content.{signed_in}
use Rattle.dsr_chain.specs.Chain.{Chain, signers_of}
use Rattle.dsr_chain.specs.Proper.{IsReplica, IsAsked, IsProper, sender_of, fitting_at}
use Rattle.dsr_chain.specs.Faults.{StandsTwice, HasMisfit, HasNoFault}
use Rattle.dsr_chain.specs.declared.fault.ChainFault.TheVariants.{OtherSlot, WrongCount, WrongSender, NoReplica, SignedTwice, Misfit, BadRequest}
use Rattle.dsr_chain.specs.declared.signed_request.SignedRequest.{SignedRequest}

-- what can be decided, and is not false, holds
by_decision : {P : Type 0} (b : Bool) → Decides b P → ¬ (¬ P) → P
by_decision true d h = d.0 refl
by_decision false d h = absurd (h (λ p. let e : false ≡ true = d.1 p in cc))

same_number : (m n : ℕ) → ¬ (m ≢ n) → m ≡ n
same_number m n h = by_decision (eqb m n) (Decides-eqb m n) h

below : (m n : ℕ) → ¬ (¬ (m < n)) → m < n
below m n h = elim (cases_lt m n) [ inl lt ↦ lt | inr le ↦ absurd (h (λ lt. omega arith)) ]

same_first : (a : Option Actor) (b : Actor) → ¬ (a ≢ Some b) → a ≡ Some b
same_first None b h = absurd (h (λ e. cc))
same_first (Some a) b h = ap Some (by_decision (actor_eq a b) (actor_eq-Decides a b) (λ differ. h (λ e. differ cc)))

replica_stable : (shape : Shape) (a : Actor) → ¬ (¬ IsReplica shape a) → IsReplica shape a
replica_stable shape (Replica r) h = below r shape.n h
replica_stable shape (Client c) h = h (λ e. e)

asked_stable : (shape : Shape) (s : SignedRequest) → ¬ (¬ IsAsked shape s) → IsAsked shape s
asked_stable shape s h =
    record {
      client = below s.request.client shape.m (λ fails. h (λ asked. fails asked.client));
      signature =
          let own = signed (Client s.request.client) (Ask s.request) in
          by_decision (signature_eq s.signature own) (signature_eq-Decides s.signature own) (λ fails. h (λ asked. fails asked.signature));
    }

all_from_none : {X : Type 0} (P : X → Type 0) → ((x : X) → ¬ (¬ P x) → P x) → (xs : List X) → ¬ Any (λ x. ¬ P x) xs → All P xs
all_from_none P stable xs none k d inside =
    stable (get_or xs k d) (λ fails. none (k, get_or xs k d, inside, get_or_default xs k (get_or xs k d) d inside, fails))

none_from_all : {X : Type 0} (P : X → Type 0) (xs : List X) → All P xs → ¬ Any (λ x. ¬ P x) xs
none_from_all P xs all (k, x, inside, is, fails) = fails (subst P is (all k x inside))

distinct_from_once : (xs : List Actor) → ¬ StandsTwice xs → AllPairs (λ a b. a ≢ b) xs
distinct_from_once xs once i j d apart inside same =
    let first_inside : i < length xs = omega arith in
    once
    (record {
      first = i;
      second = j;
      apart = apart;
      signer = get_or xs i d;
      at_first = slice_get-get_or xs i d first_inside;
      at_second = slice_get-get_or xs j d inside ∙ ap Some (sym same);
    })

once_from_distinct : (xs : List Actor) → AllPairs (λ a b. a ≢ b) xs → ¬ StandsTwice xs
once_from_distinct xs distinct h =
    distinct h.first h.second h.signer h.apart (slice_get_within xs h.second h.signer h.at_second)
    (get_or_from_slice_get xs h.first h.signer h.signer h.at_first
    ∙ sym (get_or_from_slice_get xs h.second h.signer h.signer h.at_second))

fits_from_none : (chain : Chain) → ¬ HasMisfit chain → (place : ℕ) (s : Signature) → slice_get chain.signatures place ≡ Some s
    → s.statement ≡ fitting_at chain place
fits_from_none chain none place s stands =
    by_decision (statement_eq s.statement (fitting_at chain place)) (statement_eq-Decides s.statement (fitting_at chain place))
    (λ differ. none (record { place = place; signature = s; stands = stands; misfits = differ }))

pub without_fault : (shape : Shape) (slot round : ℕ) (chain : Chain) → IsProper shape slot round chain → HasNoFault shape slot round chain
without_fault shape slot round chain h OtherSlot = λ fault. fault h.of_slot
without_fault shape slot round chain h WrongCount = λ fault. fault h.count
without_fault shape slot round chain h WrongSender = λ fault. fault h.sender_first
without_fault shape slot round chain h NoReplica = none_from_all (IsReplica shape) (signers_of chain.signatures) h.replicas
without_fault shape slot round chain h SignedTwice = once_from_distinct (signers_of chain.signatures) h.distinct
without_fault shape slot round chain h Misfit = λ fault. fault.misfits (h.fitting fault.place fault.signature fault.stands)
without_fault shape slot round chain h BadRequest = none_from_all (IsAsked shape) (signed_in chain.value) h.asked

pub proper_from_none : (shape : Shape) (slot round : ℕ) (chain : Chain) → HasNoFault shape slot round chain → IsProper shape slot round chain
proper_from_none shape slot round chain none =
    record {
      of_slot = same_number chain.slot slot (none OtherSlot);
      count = same_number (length chain.signatures) round (none WrongCount);
      sender_first = same_first (slice_get (signers_of chain.signatures) 0) (sender_of shape slot) (none WrongSender);
      replicas = all_from_none (IsReplica shape) (replica_stable shape) (signers_of chain.signatures) (none NoReplica);
      distinct = distinct_from_once (signers_of chain.signatures) (none SignedTwice);
      fitting = fits_from_none chain (none Misfit);
      asked = all_from_none (IsAsked shape) (asked_stable shape) (signed_in chain.value) (none BadRequest);
    }

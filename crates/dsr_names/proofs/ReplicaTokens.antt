-- Actors that are replicas, read by their tokens.
use Rattle.std.proofs.Common.{◌≡◌, ℕ, ◌<◌, List, Option, None, Some}
use Rattle.dsr_base.specs.Reads.{Reads}
use Rattle.dsr_base.proofs.ReadsLemmas.{reads_none, reads_some, not_read, was_read, only_read}
use Rattle.dsr_names.specs.declared.actor.Actor.{Actor}
use Rattle.dsr_names.specs.declared.actor.Actor.TheVariants.{Replica, Client}
use Rattle.dsr_names.specs.Actor.{IsNumbered, actor_text, replica_text}

abbrev pub ReadsActor : List ℕ → Option Actor → Type 0
ReadsActor = Reads IsNumbered actor_text

abbrev pub ReadsReplica : List ℕ → Option ℕ → Type 0
ReadsReplica = Reads (λ (r : ℕ). r < 16) replica_text

same_replica : (r s : ℕ) → Replica r ≡ Replica s → r ≡ s
same_replica r s e = cc

client_is_replica : (r s : ℕ) → Client r ≡ Replica s → ⊥
client_is_replica r s e = cc

pub no_actor : (bytes : List ℕ) → ReadsActor bytes None → ReadsReplica bytes None
no_actor bytes reads = reads_none (λ (r : ℕ). r < 16) replica_text bytes (λ r small e. not_read IsNumbered actor_text bytes reads (Replica r) small e)

pub a_client : (bytes : List ℕ) (c : ℕ) → ReadsActor bytes (Some (Client c)) → ReadsReplica bytes None
a_client bytes c reads =
    reads_none (λ (r : ℕ). r < 16) replica_text bytes
    (λ r small e. client_is_replica c r (only_read IsNumbered actor_text bytes (Client c) reads (Replica r) small e))

pub a_replica : (bytes : List ℕ) (r : ℕ) → ReadsActor bytes (Some (Replica r)) → ReadsReplica bytes (Some r)
a_replica bytes r reads =
    let read = was_read IsNumbered actor_text bytes (Replica r) reads in
    reads_some (λ (s : ℕ). s < 16) replica_text bytes r read.0 read.1
    (λ s small e. same_replica r s (only_read IsNumbered actor_text bytes (Replica r) reads (Replica s) small e))

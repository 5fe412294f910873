-- A client is read if the actor that is read is one.
use Rattle.std.proofs.Common.{◌≡◌, ℕ, ◌<◌, List, Option, None, Some}
use Rattle.dsr_base.specs.Reads.{Reads}
use Rattle.dsr_base.proofs.ReadsLemmas.{reads_none, reads_some, not_read, was_read, only_read}
use Rattle.dsr_names.specs.Actor.{IsNumbered, actor_text, client_text}
use Rattle.dsr_names.specs.declared.actor.Actor.{Actor}
use Rattle.dsr_names.specs.declared.actor.Actor.TheVariants.{Replica, Client}

abbrev IsClient : ℕ → Type 0
IsClient client = client < 32

abbrev pub ReadsActor : List ℕ → Option Actor → Type 0
ReadsActor = Reads IsNumbered actor_text

abbrev pub ReadsClient : List ℕ → Option ℕ → Type 0
ReadsClient = Reads IsClient client_text

same_client : (c d : ℕ) → Client c ≡ Client d → c ≡ d
same_client c d e = cc

replica_is_client : (r c : ℕ) → Replica r ≡ Client c → ⊥
replica_is_client r c e = cc

pub no_actor : (bytes : List ℕ) → ReadsActor bytes None → ReadsClient bytes None
no_actor bytes reads = reads_none IsClient client_text bytes (λ c small e. not_read IsNumbered actor_text bytes reads (Client c) small e)

pub a_replica : (bytes : List ℕ) (r : ℕ) → ReadsActor bytes (Some (Replica r)) → ReadsClient bytes None
a_replica bytes r reads =
    reads_none IsClient client_text bytes
    (λ c small e. replica_is_client r c (only_read IsNumbered actor_text bytes (Replica r) reads (Client c) small e))

pub a_client : (bytes : List ℕ) (c : ℕ) → ReadsActor bytes (Some (Client c)) → ReadsClient bytes (Some c)
a_client bytes c reads =
    let read = was_read IsNumbered actor_text bytes (Client c) reads in
    reads_some IsClient client_text bytes c read.0 read.1
    (λ d small e. same_client c d (only_read IsNumbered actor_text bytes (Client c) reads (Client d) small e))

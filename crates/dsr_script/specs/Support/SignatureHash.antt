-- What is hashed for a signature: its signer, and all of its statement.
use Rattle.std.specs.Prelude.{◌≡◌, Option, None, Some, List, [], true, ◌++◌, ◌+◌, flat_map}
use Rattle.std.specs.Hash as fed
use Rattle.std.proofs.Common.{ap}
use Rattle.dsr_names.specs.declared.actor.Actor.{Actor}
use Rattle.dsr_names.specs.declared.actor.Actor.TheVariants.{Replica, Client}
use Rattle.dsr_request.specs.declared.op.Op.{Op}
use Rattle.dsr_request.specs.declared.op.Op.TheVariants.{Read, Write, Swap, Remove}
use Rattle.dsr_request.specs.Register.{register_of}
use Rattle.dsr_request.specs.Request.{Request}
use Rattle.dsr_desk.specs.Signature.{Signature}
use Rattle.dsr_desk.specs.declared.statement.Statement.{Statement}
use Rattle.dsr_desk.specs.declared.statement.Statement.TheVariants.{Ask, Link}
use Rattle.dsr_script.specs.Support.SignatureEquality.{signature_eq, signature_eq-Decides}

-- the actor: a replica's number, or a client's after those of replicas
abbrev pub actor_fed : Actor → fed.HashWrites
actor_fed (Replica r) = fed.u8 r
actor_fed (Client c) = fed.u8 (c + 16)

-- the operation's kind and its values
abbrev pub verb_fed : Op → fed.HashWrites
verb_fed (Read name) = fed.u8 0
verb_fed (Write name value) = fed.u8 1 ++ fed.u64 value
verb_fed (Swap name from to) = fed.u8 2 ++ (fed.option fed.u64 from ++ fed.u64 to)
verb_fed (Remove name) = fed.u8 3

-- the operation, its register first
abbrev pub op_fed : Op → fed.HashWrites
op_fed op = fed.slice fed.u8 (register_of op) ++ verb_fed op

-- the request
abbrev pub request_fed : Request → fed.HashWrites
request_fed request = fed.u8 request.client ++ (fed.u64 request.number ++ op_fed request.op)

-- the content of a slot's value
abbrev pub content_fed : Option (List Request) → fed.HashWrites
content_fed None = []
content_fed (Some requests) = flat_map request_fed requests

-- the statement
abbrev pub statement_fed : Statement → fed.HashWrites
statement_fed (Ask request) = request_fed request
statement_fed (Link slot value before) = fed.u64 slot ++ (content_fed value ++ flat_map actor_fed before)

-- what is hashed
abbrev pub signature_fed : Signature → fed.HashWrites
signature_fed s = actor_fed s.signer ++ statement_fed s.statement

-- equal ones are hashed alike
pub signature_fed_alike : (a b : Signature) → signature_eq a b ≡ true → signature_fed a ≡ signature_fed b
signature_fed_alike a b h = ap signature_fed ((signature_eq-Decides a b).0 h)

-- What a cause says refuses the event, over plain variables.
use Rattle.std.proofs.Common.{◌≡◌, ℕ, true, List, Option, None, Some, inl, inr, refl, ap}
use Rattle.std.proofs.lemmas.Bool.{false≢true}
use Rattle.std.specs.Prelude.{IfSome, IfNone}
use Rattle.std.specs.Option.{is_none}
use Rattle.dsr_names.specs.Shape.{Shape, IsActor}
use Rattle.dsr_names.specs.declared.actor.Actor.TheVariants.{Replica, Client}
use Rattle.dsr_envelope.specs.declared.entry.Entry.{Entry}
use Rattle.dsr_envelope.specs.declared.pick.Pick.{Pick}
use Rattle.dsr_node.specs.Conduct.{post_of, is_traitor_of}
use Rattle.dsr_desk.specs.Signature.{signed}
use Rattle.dsr_names.specs.declared.actor.Actor.{Actor}
use Rattle.dsr_envelope.specs.declared.envelope.Envelope.{Envelope}
use Rattle.dsr_envelope.specs.declared.entry.Entry.TheVariants.{Post as PostEntry}
use Rattle.dsr_play.specs.declared.event.Event.{Event}
use Rattle.dsr_play.specs.declared.event.Event.TheVariants.{Post, Plant, Take, Tell}
use Rattle.dsr_run.specs.Run.{IsTraitor, ForgesNothing}
use Rattle.dsr_run.specs.Step.{Logs}
use Rattle.dsr_world.specs.Event.{refusal_of, IsRefusedBy, MayBeDone}
use Rattle.dsr_facts.specs.Cause.{refusal_by, tested_as, IsWhy, HoldsCause}
use Rattle.dsr_facts.specs.declared.cause.Cause.{Cause}
use Rattle.dsr_facts.specs.declared.cause.Cause.TheVariants.{NoActor, WrongRole, NotDue, Exhausted, BoxFull, BoxEmpty, Forged}
use Rattle.dsr_facts.specs.Undue.{IsUndueRound}
use Rattle.dsr_facts.specs.declared.undue.Undue.{Undue}
use Rattle.dsr_facts.proofs.UndueLemmas.{undue_refuses}

pub undue_none : (shape : Shape) (log : List Entry) (p q : ℕ) (pick : Pick) (o : Option Undue) → IfSome o (IsUndueRound shape (Replica p) log q pick)
    → IfSome o (λ why. is_none (post_of shape log (Replica p) (Replica q) pick) ≡ true)
undue_none shape log p q pick None some = tt
undue_none shape log p q pick (Some why) some = ap is_none (undue_refuses shape (Replica p) log q pick why some)

-- who is a traitor is one of the replicas
pub traitor_at : (shape : Shape) (a : Actor) → IsActor shape a → is_traitor_of shape a ≡ true → (p : ℕ) × IsTraitor shape (Replica p)
traitor_at shape (Replica p) inside traitor = (p, (inside, traitor))
traitor_at shape (Client c) inside traitor = absurd (false≢true traitor)

-- a cause refuses
tested : (shape : Shape) (logs : Logs) (event : Event) (cause : Cause) → refusal_of shape logs event ≡ tested_as cause → IsWhy shape logs event cause
    → IsRefusedBy shape logs event (refusal_by cause)
tested shape logs event (NoActor actor) refused why = inl refused
tested shape logs event (WrongRole part) refused why = inl refused
tested shape logs event (NotDue undue) refused why = inl refused
tested shape logs event (Exhausted limit) refused why = inl refused
tested shape logs event BoxFull refused why = inl refused
tested shape logs event BoxEmpty refused why = inl refused
tested shape logs (Post from to pick) (Forged s) refused why = elim why [ ]
tested shape logs (Plant from to draft) (Forged s) refused why =
    inr (inl (refl, (refused, λ forges. why.1 (forges (signed s.signer s.statement) why.0))))
tested shape logs (Take at from) (Forged s) refused why = elim why [ ]
tested shape logs (Tell from to) (Forged s) refused why = elim why [ ]

pub cause_refuses : (shape : Shape) (logs : Logs) (event : Event) (cause : Cause) → HoldsCause shape logs event cause
    → IsRefusedBy shape logs event (refusal_by cause)
cause_refuses shape logs event cause holds = tested shape logs event cause holds.refused holds.why

-- what nothing refuses, and forges nothing, may be done
pub none_done : {X : Type 0} → (shape : Shape) (logs : Logs) (from to : Actor) (draft : Envelope) (o : Option X)
    → IfNone o (refusal_of shape logs (Plant from to draft) ≡ None) → IfNone o (ForgesNothing shape logs (PostEntry to draft))
    → IfNone o (MayBeDone shape logs (Plant from to draft))
none_done shape logs from to draft None none forges = (none, λ forged. forged forges)
none_done shape logs from to draft (Some x) none forges = tt

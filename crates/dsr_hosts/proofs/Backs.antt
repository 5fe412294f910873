-- What is known about a seat that came back.
use Rattle.std.proofs.Common.{◌≡◌, Bool, [], ◌++◌, Option, Some, inl, inr, refl, sym, subst, ap, ◌∙◌}
use Rattle.std.specs.Prelude.{Result, Ok, Err, IfErr, OnOk, OnErr}
use Rattle.std.specs.Result.{result_err}
use Rattle.std.proofs.lemmas.List.{append-nil}
use Rattle.dsr_names.specs.Shape.{IsActor}
use Rattle.dsr_names.specs.declared.actor.Actor.{Actor}
use Rattle.dsr_names.specs.declared.refusal.Refusal.{Refusal}
use Rattle.dsr_names.specs.declared.refusal.Refusal.TheVariants.{NoThread}
use Rattle.dsr_script.specs.Script.{Script}
use Rattle.dsr_boxes.specs.Pass.{SharedBoxes, Pass, IsPassOf}
use Rattle.dsr_calls.specs.Calls.{GoesOn}
use Rattle.dsr_run.specs.Eager.{IsEager}
use Rattle.dsr_rounds.specs.Eagerness.{WasEager}
use Rattle.dsr_rounds.specs.Ends.{HostEnd}
use Rattle.dsr_rounds.specs.declared.end.End.{End}
use Rattle.dsr_rounds.specs.declared.end.End.TheVariants.{Told, Fault}
use Rattle.dsr_rounds.specs.Replicas.{AreOwed, AnswersOwed}
use Rattle.dsr_rounds.specs.Traitors.{ArePlanned, Follows}
use Rattle.dsr_hosts.specs.declared.any_seat.AnySeat.{AnySeat}
use Rattle.dsr_hosts.specs.declared.any_seat.AnySeat.TheVariants.{Loyal, Traitor, OfClient}
use Rattle.dsr_hosts.specs.declared.back.Back.{Back}
use Rattle.dsr_hosts.specs.Causes.{ClientRefusal, IsUnserved, SeatRefusal}
use Rattle.dsr_hosts.specs.Hosted.{ComesBack, ClientEnd, IsEnding, IsServed, HasPostedOwed, WasAlwaysEager, HasPostedPlanned, HasPostedWell}
use Rattle.dsr_hosts.specs.Seats.{pass_of, IsSeatOf, IsAgain, IsBack}

-- it is a seat of the mail
pub back_of : (mail : SharedBoxes) (seat again : AnySeat) → IsBack mail seat again → IsSeatOf mail (pass_of again)
back_of mail (Loyal seat) (Loyal again) same = same.0
back_of mail (Loyal seat) (Traitor again) same = absurd same
back_of mail (Loyal seat) (OfClient again) same = absurd same
back_of mail (Traitor seat) (Loyal again) same = absurd same
back_of mail (Traitor seat) (Traitor again) same = same.0
back_of mail (Traitor seat) (OfClient again) same = absurd same
back_of mail (OfClient seat) (Loyal again) same = absurd same
back_of mail (OfClient seat) (Traitor again) same = absurd same
back_of mail (OfClient seat) (OfClient again) same = same.0

-- it comes back too if its host ended because no thread could be started
pub refused_back : (may : Actor → Type 0) (mail : SharedBoxes) (script : Script) (seat : AnySeat) (back refused : Back)
    → ComesBack may mail script seat back → refused.seat ≡ back.seat → refused.end ≡ Some (Fault NoThread) → ComesBack may mail script seat refused
refused_back may mail script seat back refused comes same end = record {
  same = subst (IsBack mail seat) (sym same) comes.same;
  ends = subst (IsEnding may script refused.seat) (sym end) (inr (inr refl));
  posted = subst (HasPostedWell script) (sym same) comes.posted;
}

-- what comes back, if the seat before is known by another name
pub comes_at : (may : Actor → Type 0) (mail : SharedBoxes) (script : Script) (seat same : AnySeat) (back : Back) → same ≡ seat
    → ComesBack may mail script seat back → ComesBack may mail script same back
comes_at may mail script seat same back is comes = subst (λ s. ComesBack may mail script s back) (sym is) comes

-- ---- how the host of a client ended

-- a refusal of a client's call, if the client is not served
refused_client : (may : Actor → Type 0) (script : Script) (seat : Pass) (refusal : Refusal) → ClientRefusal may seat refusal → IsUnserved script seat
    → SeatRefusal may script seat refusal
refused_client may script seat refusal (inl host) left = inl host
refused_client may script seat refusal (inr is) left = inr (inl (is, left))

pub client_ended : (may : Actor → Type 0) (script : Script) (seat : AnySeat) (client : Pass) (end : End) → seat ≡ OfClient client
    → ClientEnd may client end → IsUnserved script client → IsEnding may script seat (Some end)
client_ended may script seat client Told is why left = subst (λ s. IsEnding may script s (Some Told)) (sym is) left
client_ended may script seat client (Fault refusal) is why left =
    subst (λ s. IsEnding may script s (Some (Fault refusal))) (sym is) (refused_client may script client refusal why left)

pub client_ending : (may : Actor → Type 0) (script : Script) (client : Pass) (done : Result (Unit {0}) End) (end : Option End) → end ≡ result_err done
    → OnOk done (IsServed script client) → OnErr done (IsUnserved script client) → IfErr done (ClientEnd may client)
    → IsEnding may script (OfClient client) end
client_ending may script client (Ok nothing) end is served left why = subst (IsEnding may script (OfClient client)) (sym is) served
client_ending may script client (Err e) end is served left why =
    subst (IsEnding may script (OfClient client)) (sym is) (client_ended may script (OfClient client) client e refl why left)

-- and that of a replica or a traitor
replica_ended : (may : Actor → Type 0) (script : Script) (serves : Bool) (seat : Pass) (end : End) → HostEnd may serves seat end
    → IsEnding may script (Loyal seat) (Some end)
replica_ended may script serves seat Told why = tt
replica_ended may script serves seat (Fault refusal) why = inl why

pub replica_ending : (may : Actor → Type 0) (script : Script) (serves : Bool) (seat : Pass) (done : Result (Unit {0}) End) (end : Option End)
    → end ≡ result_err done → IfErr done (HostEnd may serves seat) → IsEnding may script (Loyal seat) end
replica_ending may script serves seat (Ok nothing) end is why = subst (IsEnding may script (Loyal seat)) (sym is) tt
replica_ending may script serves seat (Err e) end is why =
    subst (IsEnding may script (Loyal seat)) (sym is) (replica_ended may script serves seat e why)

traitor_ended : (may : Actor → Type 0) (script : Script) (serves : Bool) (seat : Pass) (end : End) → HostEnd may serves seat end
    → IsEnding may script (Traitor seat) (Some end)
traitor_ended may script serves seat Told why = tt
traitor_ended may script serves seat (Fault refusal) why = inl why

pub traitor_ending : (may : Actor → Type 0) (script : Script) (serves : Bool) (seat : Pass) (done : Result (Unit {0}) End) (end : Option End)
    → end ≡ result_err done → IfErr done (HostEnd may serves seat) → IsEnding may script (Traitor seat) end
traitor_ending may script serves seat (Ok nothing) end is why = subst (IsEnding may script (Traitor seat)) (sym is) tt
traitor_ending may script serves seat (Err e) end is why =
    subst (IsEnding may script (Traitor seat)) (sym is) (traitor_ended may script serves seat e why)

-- ---- the seat goes on

pub again_of : (mail : SharedBoxes) (old new : Pass) (actor : Actor) → IsPassOf mail old → GoesOn new old → actor ≡ new.actor → IsActor new.shape actor
    → IsAgain mail old new
again_of mail old new actor at goes is inside =
    let shape : new.shape ≡ mail.shape = goes.shape ∙ at.1 in
    (((goes.id ∙ at.0, shape), subst (λ s. IsActor s new.actor) shape (subst (IsActor new.shape) is inside)), goes.actor)

-- ---- what was posted from the first entry on

pub owed_all : (new old : Pass) → old.log ≡ [] → AnswersOwed new old → HasPostedOwed new
owed_all new old none answers =
    let all : new.log ≡ answers.added = answers.log ∙ (ap (λ l. answers.added ++ l) none ∙ append-nil answers.added) in
    subst (AreOwed new.shape []) (sym all)
    (subst (λ s. AreOwed s [] answers.added) (sym answers.shape) (subst (λ l. AreOwed old.shape l answers.added) none answers.owed))

pub eager_all : (new old : Pass) → old.log ≡ [] → new.shape ≡ old.shape → new.actor ≡ old.actor → WasEager new old → WasAlwaysEager new
eager_all new old none shape actor way =
    let added = way.0 in
    let all : new.log ≡ added = way.1 ∙ (ap (λ l. added ++ l) none ∙ append-nil added) in
    subst (IsEager new.shape new.actor []) (sym all)
    (subst (λ a. IsEager new.shape a [] added) (sym actor)
    (subst (λ s. IsEager s old.actor [] added) (sym shape)
    (subst (λ l. IsEager old.shape old.actor l added) none way.2)))

pub planned_all : (script : Script) (new old : Pass) → old.log ≡ [] → Follows script old new → HasPostedPlanned script new
planned_all script new old none follows =
    let way = follows.2 in
    let all : new.log ≡ way.added = way.log ∙ (ap (λ l. way.added ++ l) none ∙ append-nil way.added) in
    subst (ArePlanned script new.shape new.actor []) (sym all)
    (subst (λ a. ArePlanned script new.shape a [] way.added) (sym way.actor)
    (subst (λ s. ArePlanned script s old.actor [] way.added) (sym way.shape)
    (subst (λ l. ArePlanned script old.shape old.actor l way.added) none way.planned)))

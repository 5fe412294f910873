-- What the hosts of all seats leave, once the mail is closed.
use Rattle.std.proofs.Common.{◌≡◌, ℕ, zero, suc, ◌<◌, not, Bool, true, false, ◌++◌, List, [], ◌∷◌, Option, None, Some, inl, inr, refl, sym, subst, ap, ◌∙◌, length, arith}
use Rattle.std.specs.Prelude.{All, IfSome, map}
use Rattle.std.proofs.lemmas.Bool.{cases_eq}
use Rattle.std.proofs.lemmas.List.Elements.{All-cons, All-nil}
use Rattle.std.proofs.lemmas.Option.{none-some}
use Rattle.dsr_base.specs.Member.{In, here, there}
use Rattle.dsr_base.proofs.MemberLemmas.{In-append_left, In-append_right, In-append_cases, In-all}
use Rattle.dsr_names.specs.Places.{size, place_of, actor_at}
use Rattle.dsr_names.specs.Shape.{Shape, IsActor, IsLoyal}
use Rattle.dsr_names.specs.declared.actor.Actor.{Actor}
use Rattle.dsr_names.specs.declared.actor.Actor.TheVariants.{Replica, Client}
use Rattle.dsr_names.specs.declared.refusal.Refusal.{Refusal}
use Rattle.dsr_names.specs.declared.refusal.Refusal.TheVariants.{BadShape, BadName, BadNumber, Busy, NotDue, BoxFull, BoxEmpty, Forged, Exhausted, Stopped, Unanswered, NoMemory, BadText, NotARun, NoActor, WrongRole, ReadFailed, WriteFailed, NoThread}
use Rattle.dsr_names.proofs.PlaceLemmas.{actor_of_place}
use Rattle.dsr_client.specs.State.{accepted}
use Rattle.dsr_script.specs.Script.{Script, ops_of}
use Rattle.dsr_run.specs.Run.{IsTraitor}
use Rattle.dsr_run.specs.Eager.{IsEager}
use Rattle.dsr_boxes.specs.Pass.{SharedBoxes, Pass, IsPassOf, new_pass}
use Rattle.dsr_mail.specs.Logs.{Logs, logs_of}
use Rattle.dsr_mail.specs.Seats.{is_loyal_replica, is_traitor_replica, is_client, actor_if, actors_below, actors_of, AreSeatsOf}
use Rattle.dsr_mail.specs.declared.seats.Seats.{Seats}
use Rattle.dsr_calls.specs.Calls.{number_of}
use Rattle.dsr_rounds.specs.Ends.{HostRefusal}
use Rattle.dsr_rounds.specs.Replicas.{AreOwed}
use Rattle.dsr_rounds.specs.Traitors.{ArePlanned}
use Rattle.dsr_hosts.specs.declared.ends.Fault.{Fault}
use Rattle.dsr_hosts.specs.declared.ran.Ran.{Ran}
use Rattle.dsr_hosts.specs.Causes.{CauseOf, HasUnserved, IsUnserved}
use Rattle.dsr_hosts.specs.Hosted.{IsServed, HasPostedOwed, WasAlwaysEager, HasPostedPlanned}
use Rattle.dsr_hosts.specs.Posted.{AreAllOwed, AreAllEager, AreAllPlanned}
use Rattle.dsr_hosts.specs.Ranks.{cause_of}
use Rattle.dsr_hosts.specs.Returns.{WasRefused, AreSomeUnserved, HaveRun}
use Rattle.dsr_hosts.specs.Seats.{IsNewSeat, IsSeatOf, AreNew, AreAgain, all_of}
use Rattle.dsr_hosts.specs.Served.{HasAll}

abbrev actor_of : Pass → Actor
actor_of seat = seat.actor

-- new seats are seats at which nothing was done
all_new : (mail : SharedBoxes) (actors : List Actor) → All (IsNewSeat mail) (map (new_pass mail) actors)
all_new mail [] = All-nil (IsNewSeat mail)
all_new mail (a ∷ rest) =
    All-cons (IsNewSeat mail) (new_pass mail a) (map (new_pass mail) rest) ((refl, refl), refl) (all_new mail rest)

-- and those of these actors
actors_of_new : (mail : SharedBoxes) (actors : List Actor) → map actor_of (map (new_pass mail) actors) ≡ actors
actors_of_new mail [] = refl
actors_of_new mail (a ∷ rest) = ap (λ l. a ∷ l) (actors_of_new mail rest)

pub are_new : (mail : SharedBoxes) (seats : Seats) → seats.replicas.items ≡ map (new_pass mail) (actors_of is_loyal_replica mail.shape)
    → seats.traitors.items ≡ map (new_pass mail) (actors_of is_traitor_replica mail.shape)
    → seats.clients.items ≡ map (new_pass mail) (actors_of is_client mail.shape) → AreNew mail seats
are_new mail seats replicas traitors clients = record {
  replicas = subst (All (IsNewSeat mail)) (sym replicas) (all_new mail (actors_of is_loyal_replica mail.shape));
  traitors = subst (All (IsNewSeat mail)) (sym traitors) (all_new mail (actors_of is_traitor_replica mail.shape));
  clients = subst (All (IsNewSeat mail)) (sym clients) (all_new mail (actors_of is_client mail.shape));
}

-- so the seats of a kind that came back are all of this kind
pub are_seats_of : (mail : SharedBoxes) (kind : Shape → Actor → Bool) (seats again : List Pass)
    → seats ≡ map (new_pass mail) (actors_of kind mail.shape) → AreAgain mail seats again → AreSeatsOf mail kind again
are_seats_of mail kind seats again are_new are = (
  λ k d below. (are.0 k d below).0,
  are.1 ∙ (ap (map actor_of) are_new ∙ actors_of_new mail (actors_of kind mail.shape)),
)

-- the actor of a lower place is among the actors of its kind
in_actors : (kind : Shape → Actor → Bool) (shape : Shape) (end place : ℕ) → place < end → kind shape (actor_at shape place) ≡ true
    → In (actor_at shape place) (actors_below kind shape end)
in_actors kind shape zero place below is = absurd (omega (arith, below))
in_actors kind shape (suc end) place below is = elim (cases_eq place end) [
  | inl same ↦
      let there_if : In (actor_at shape place) (actor_if (kind shape (actor_at shape place)) (actor_at shape place)) =
      subst (λ b. In (actor_at shape place) (actor_if b (actor_at shape place))) (sym is) (here refl) in
      In-append_right (actor_at shape place) (actors_below kind shape end) (actor_if (kind shape (actor_at shape end)) (actor_at shape end))
      (subst (λ p. In (actor_at shape place) (actor_if (kind shape (actor_at shape p)) (actor_at shape p))) same there_if)
  | inr other ↦
      In-append_left (actor_at shape place) (actors_below kind shape end) (actor_if (kind shape (actor_at shape end)) (actor_at shape end))
      (in_actors kind shape end place (omega (arith, below, other)) is)
]

-- what is among the actors of seats is the actor of one
from_actors : (a : Actor) (seats : List Pass) → In a (map actor_of seats) → (seat : Pass) × In seat seats × (seat.actor ≡ a)
from_actors a [] h = elim h [ ]
from_actors a (seat ∷ seats) (here is) = (seat, here refl, is)
from_actors a (seat ∷ seats) (there h) = let found = from_actors a seats h in (found.0, there found.1, found.2)

-- the place of an actor is one of the shape's
pub place_inside : (shape : Shape) (a : Actor) → IsActor shape a → place_of shape a < size shape
place_inside shape (Replica p) inside = omega (arith, inside)
place_inside shape (Client c) inside = omega (arith, inside)

-- each actor of a kind has a seat among those of the kind
seat_of_kind : (mail : SharedBoxes) (kind : Shape → Actor → Bool) (seats : List Pass) (a : Actor) → AreSeatsOf mail kind seats → IsActor mail.shape a
    → kind mail.shape a ≡ true → (seat : Pass) × In seat seats × (seat.actor ≡ a)
seat_of_kind mail kind seats a are inside kind_is =
    let shape = mail.shape in
    let is : actor_at shape (place_of shape a) ≡ a = actor_of_place shape a inside in
    let found : In a (actors_of kind shape) =
    subst (λ b. In b (actors_of kind shape)) is
    (in_actors kind shape (size shape) (place_of shape a) (place_inside shape a inside) (ap (kind shape) is ∙ kind_is)) in
    from_actors a seats (subst (In a) (sym are.1) found)

-- if each seat of a client is served, each client has the replies to all its operations
pub all_served : (mail : SharedBoxes) (script : Script) (seats : Seats) (logs : Logs) → AreSeatsOf mail is_client seats.clients.items
    → All (IsServed script) seats.clients.items → logs.shape ≡ mail.shape
    → ((seat : Pass) → In seat (all_of seats) → logs_of logs seat.actor ≡ seat.log)
    → (c : ℕ) → c < logs.shape.m → HasAll logs.shape c (logs_of logs (Client c)) (ops_of script c)
all_served mail script seats logs are served same own c inside =
    let found = seat_of_kind mail is_client seats.clients.items (Client c) are (subst (λ s. c < s.m) same inside) refl in
    let seat = found.0 in
    let among : In seat (all_of seats) =
    In-append_right seat seats.replicas.items (seats.traitors.items ++ seats.clients.items)
    (In-append_right seat seats.traitors.items seats.clients.items found.1) in
    let here_is : IsPassOf mail seat = In-all (IsPassOf mail) seat seats.clients.items are.0 found.1 in
    let all : IsServed script seat = In-all (IsServed script) seat seats.clients.items served found.1 in
    let log : seat.log ≡ logs_of logs (Client c) = sym (own seat among) ∙ ap (logs_of logs) found.2 in
    subst (λ s. HasAll s c (logs_of logs (Client c)) (ops_of script c)) (here_is.1 ∙ sym same)
    (subst (λ l. HasAll seat.shape c l (ops_of script c)) log
    (subst (λ a. HasAll seat.shape (number_of a) seat.log (ops_of script (number_of a))) found.2 all))

-- if each seat of a loyal replica has posted to clients only what they were owed, so has each loyal replica
pub all_owed : (mail : SharedBoxes) (seats : Seats) (logs : Logs) → AreSeatsOf mail is_loyal_replica seats.replicas.items
    → All HasPostedOwed seats.replicas.items → logs.shape ≡ mail.shape
    → ((seat : Pass) → In seat (all_of seats) → logs_of logs seat.actor ≡ seat.log) → AreAllOwed logs
all_owed mail seats logs are owed same own p loyal =
    let honest : IsLoyal mail.shape (Replica p) = subst (λ s. IsLoyal s (Replica p)) same loyal in
    let found = seat_of_kind mail is_loyal_replica seats.replicas.items (Replica p) are honest.0 (ap not honest.1) in
    let seat = found.0 in
    let among : In seat (all_of seats) = In-append_left seat seats.replicas.items (seats.traitors.items ++ seats.clients.items) found.1 in
    let here_is : IsPassOf mail seat = In-all (IsPassOf mail) seat seats.replicas.items are.0 found.1 in
    let posted : HasPostedOwed seat = In-all HasPostedOwed seat seats.replicas.items owed found.1 in
    let log : seat.log ≡ logs_of logs (Replica p) = sym (own seat among) ∙ ap (logs_of logs) found.2 in
    subst (λ s. AreOwed s [] (logs_of logs (Replica p))) (here_is.1 ∙ sym same) (subst (AreOwed seat.shape []) log posted)

-- if each seat of a loyal replica was always eager, so was each loyal replica
pub all_eager : (mail : SharedBoxes) (seats : Seats) (logs : Logs) → AreSeatsOf mail is_loyal_replica seats.replicas.items
    → All WasAlwaysEager seats.replicas.items → logs.shape ≡ mail.shape
    → ((seat : Pass) → In seat (all_of seats) → logs_of logs seat.actor ≡ seat.log) → AreAllEager logs
all_eager mail seats logs are eager same own p loyal =
    let honest : IsLoyal mail.shape (Replica p) = subst (λ s. IsLoyal s (Replica p)) same loyal in
    let found = seat_of_kind mail is_loyal_replica seats.replicas.items (Replica p) are honest.0 (ap not honest.1) in
    let seat = found.0 in
    let among : In seat (all_of seats) = In-append_left seat seats.replicas.items (seats.traitors.items ++ seats.clients.items) found.1 in
    let here_is : IsPassOf mail seat = In-all (IsPassOf mail) seat seats.replicas.items are.0 found.1 in
    let way : WasAlwaysEager seat = In-all WasAlwaysEager seat seats.replicas.items eager found.1 in
    let log : seat.log ≡ logs_of logs (Replica p) = sym (own seat among) ∙ ap (logs_of logs) found.2 in
    subst (λ s. IsEager s (Replica p) [] (logs_of logs (Replica p))) (here_is.1 ∙ sym same)
    (subst (λ a. IsEager seat.shape a [] (logs_of logs (Replica p))) found.2
    (subst (IsEager seat.shape seat.actor []) log way))

-- and if each seat of a traitor has posted only what the script says, so has each traitor
pub all_planned : (mail : SharedBoxes) (script : Script) (seats : Seats) (logs : Logs) → AreSeatsOf mail is_traitor_replica seats.traitors.items
    → All (HasPostedPlanned script) seats.traitors.items → logs.shape ≡ mail.shape
    → ((seat : Pass) → In seat (all_of seats) → logs_of logs seat.actor ≡ seat.log) → AreAllPlanned script logs
all_planned mail script seats logs are planned same own p traitor =
    let false_one : IsTraitor mail.shape (Replica p) = subst (λ s. IsTraitor s (Replica p)) same traitor in
    let found = seat_of_kind mail is_traitor_replica seats.traitors.items (Replica p) are false_one.0 false_one.1 in
    let seat = found.0 in
    let among : In seat (all_of seats) =
    In-append_right seat seats.replicas.items (seats.traitors.items ++ seats.clients.items)
    (In-append_left seat seats.traitors.items seats.clients.items found.1) in
    let here_is : IsPassOf mail seat = In-all (IsPassOf mail) seat seats.traitors.items are.0 found.1 in
    let posted : HasPostedPlanned script seat = In-all (HasPostedPlanned script) seat seats.traitors.items planned found.1 in
    let log : seat.log ≡ logs_of logs (Replica p) = sym (own seat among) ∙ ap (logs_of logs) found.2 in
    subst (λ s. ArePlanned script s (Replica p) [] (logs_of logs (Replica p))) (here_is.1 ∙ sym same)
    (subst (λ a. ArePlanned script seat.shape a [] (logs_of logs (Replica p))) found.2
    (subst (ArePlanned script seat.shape seat.actor []) log posted))

-- empty logs have no posts
pub none_owed : (logs : Logs) → ((a : Actor) → logs_of logs a ≡ []) → AreAllOwed logs
none_owed logs none p loyal = subst (AreOwed logs.shape []) (sym (none (Replica p))) tt

pub none_eager : (logs : Logs) → ((a : Actor) → logs_of logs a ≡ []) → AreAllEager logs
none_eager logs none p loyal = subst (IsEager logs.shape (Replica p) []) (sym (none (Replica p))) tt

pub none_planned : (script : Script) (logs : Logs) → ((a : Actor) → logs_of logs a ≡ []) → AreAllPlanned script logs
none_planned script logs none p traitor = subst (ArePlanned script logs.shape (Replica p) []) (sym (none (Replica p))) tt

-- a client that is not served at its seat is not served by the logs
unserved_by : (script : Script) (logs : Logs) (seat : Pass) → seat.shape ≡ logs.shape → IsActor logs.shape seat.actor
    → logs_of logs seat.actor ≡ seat.log → IsUnserved script seat → HasUnserved script logs
unserved_by script logs seat shape inside log left = record {
  client = left.client;
  inside = subst (IsActor logs.shape) left.is inside;
  fewer = subst (λ l. length (accepted logs.shape l) < length (ops_of script left.client)) (sym log ∙ ap (logs_of logs) left.is)
      (subst (λ s. length (accepted s seat.log) < length (ops_of script left.client)) shape left.fewer);
}

-- what refused a host is a cause, by the logs
host_cause : (may : Actor → Type 0) (script : Script) (logs : Logs) (seat : Pass) (refusal : Refusal) → seat.shape ≡ logs.shape → IsActor logs.shape seat.actor
    → logs_of logs seat.actor ≡ seat.log → HostRefusal may seat refusal → CauseOf may script logs refusal
host_cause may script logs seat Exhausted shape inside log is = record { seat = seat; shape = shape; inside = inside; log = log; past = is }
host_cause may script logs seat Stopped shape inside log is = (seat.actor, inside, is)
host_cause may script logs seat Unanswered shape inside log is = absurd is
host_cause may script logs seat NoMemory shape inside log is = tt
host_cause may script logs seat NoThread shape inside log is = absurd is
host_cause may script logs seat BadShape shape inside log is = is
host_cause may script logs seat BadName shape inside log is = is
host_cause may script logs seat BadNumber shape inside log is = is
host_cause may script logs seat Busy shape inside log is = is
host_cause may script logs seat NotDue shape inside log is = is
host_cause may script logs seat BoxFull shape inside log is = is
host_cause may script logs seat BoxEmpty shape inside log is = is
host_cause may script logs seat Forged shape inside log is = is
host_cause may script logs seat (BadText line) shape inside log is = is
host_cause may script logs seat (NotARun line) shape inside log is = is
host_cause may script logs seat NoActor shape inside log is = is
host_cause may script logs seat WrongRole shape inside log is = is
host_cause may script logs seat ReadFailed shape inside log is = is
host_cause may script logs seat WriteFailed shape inside log is = is

-- each seat that came back is one of the mail, for an actor of the shape
all_again : (mail : SharedBoxes) (a b c d e f : List Pass) → AreAgain mail a d → AreAgain mail b e → AreAgain mail c f
    → (seat : Pass) → In seat (d ++ (e ++ f)) → IsSeatOf mail seat
all_again mail a b c d e f first second third seat h = elim (In-append_cases seat d (e ++ f) h) [
  | inl one ↦ In-all (IsSeatOf mail) seat d first.0 one
  | inr more ↦ elim (In-append_cases seat e f more) [
    | inl two ↦ In-all (IsSeatOf mail) seat e second.0 two
    | inr three ↦ In-all (IsSeatOf mail) seat f third.0 three
  ]
]

some_same : {A : Type 0} (x y : A) → Some x ≡ Some y → x ≡ y
some_same x y e = cc

-- what refused the host of a seat is a cause
pub cause_from : (may : Actor → Type 0) (mail : SharedBoxes) (script : Script) (seats : Seats) (ran : Ran) (logs : Logs) (refusal : Refusal)
    → HaveRun may mail script seats ran → logs.shape ≡ mail.shape
    → ((seat : Pass) → In seat (all_of ran.seats) → logs_of logs seat.actor ≡ seat.log)
    → WasRefused may script (all_of ran.seats) refusal → CauseOf may script logs refusal
cause_from may mail script seats ran logs refusal run same own was =
    let seat = was.0 in
    let again : IsSeatOf mail seat = all_again mail _ _ _ ran.seats.replicas.items ran.seats.traitors.items ran.seats.clients.items
    run.replicas run.traitors run.clients seat was.1 in
    let shape : seat.shape ≡ logs.shape = again.0.1 ∙ sym same in
    let inside : IsActor logs.shape seat.actor = subst (λ s. IsActor s seat.actor) (sym same) again.1 in
    elim was.2 [
      | inl host ↦ host_cause may script logs seat refusal shape inside (own seat was.1) host
      | inr other ↦ elim other [
        | inl left ↦ subst (CauseOf may script logs) (sym left.0) (unserved_by script logs seat shape inside (own seat was.1) left.1)
        | inr is ↦ subst (CauseOf may script logs) (sym is) tt
      ]
    ]

-- if no host was refused, and not all clients are served, one is not
cause_left : (may : Actor → Type 0) (mail : SharedBoxes) (script : Script) (seats : Seats) (ran : Ran) (logs : Logs)
    → HaveRun may mail script seats ran → logs.shape ≡ mail.shape
    → ((seat : Pass) → In seat (all_of ran.seats) → logs_of logs seat.actor ≡ seat.log)
    → AreSomeUnserved script ran.seats.clients.items → HasUnserved script logs
cause_left may mail script seats ran logs run same own left =
    let seat = left.0 in
    let among : In seat (all_of ran.seats) =
    In-append_right seat ran.seats.replicas.items (ran.seats.traitors.items ++ ran.seats.clients.items)
    (In-append_right seat ran.seats.traitors.items ran.seats.clients.items left.1) in
    let again : IsSeatOf mail seat = In-all (IsSeatOf mail) seat ran.seats.clients.items run.clients.0 left.1 in
    unserved_by script logs seat (again.0.1 ∙ sym same) (subst (λ s. IsActor s seat.actor) (sym same) again.1) (own seat among) left.2

-- and so is what the ends of all hosts have for a cause
pub some_cause : (may : Actor → Type 0) (mail : SharedBoxes) (script : Script) (seats : Seats) (ran : Ran) (logs : Logs) (refusal : Refusal)
    → HaveRun may mail script seats ran → logs.shape ≡ mail.shape
    → ((seat : Pass) → In seat (all_of ran.seats) → logs_of logs seat.actor ≡ seat.log)
    → Some refusal ≡ cause_of ran.ends.first ran.ends.served → CauseOf may script logs refusal
some_cause may mail script seats ran logs refusal run same own is = by ran.ends.first ran.ends.served refl refl is
  where
    by : (first : Option Fault) (served : Bool) → ran.ends.first ≡ first → ran.ends.served ≡ served → Some refusal ≡ cause_of first served
        → CauseOf may script logs refusal
    by (Some fault) served first_is served_is is =
        let was : WasRefused may script (all_of ran.seats) fault.refusal =
        subst (λ o. IfSome o (λ f. WasRefused may script (all_of ran.seats) f.refusal)) first_is run.refused in
        subst (CauseOf may script logs) (sym (some_same refusal fault.refusal is))
        (cause_from may mail script seats ran logs fault.refusal run same own was)
    by None true first_is served_is is = absurd (none-some refusal (sym is))
    by None false first_is served_is is =
        subst (CauseOf may script logs) (sym (some_same refusal Unanswered is))
        (cause_left may mail script seats ran logs run same own (run.unserved first_is served_is))

-- a service without a cause has served all
pub none_cause : (first : Option Fault) (served : Bool) → None ≡ cause_of first served → served ≡ true
none_cause (Some fault) served is = absurd (none-some fault.refusal is)
none_cause None true is = refl
none_cause None false is = absurd (none-some Unanswered is)

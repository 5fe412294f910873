-- No bound that is smaller by a round holds: with one replica and nine clients the ninth has not acted a round earlier.
use Rattle.std.proofs.Common.{◌≡◌, ℕ, zero, suc, ◌<◌, ◌^◌, List, [], ◌∷◌, ◌++◌, length, refl, ap, sym, ◌∙◌, subst, arith}
use Rattle.std.specs.Prelude.{All, IsTrue}
use Rattle.std.proofs.lemmas.List.Elements.{All-nil, All-cons}
use Rattle.dsr_base.specs.Member.{In, here, there}
use Rattle.dsr_names.specs.Shape.{Shape, shape_of, IsAllowed, IsLoyal, HasFewTraitors}
use Rattle.dsr_names.specs.declared.actor.Actor.TheVariants.{Replica, Client}
use Rattle.dsr_request.specs.declared.op.Op.TheVariants.{Read}
use Rattle.dsr_request.specs.NameText.{is_name_byte, IsName}
use Rattle.dsr_rotation.specs.Calendar.{first_round, closed_slots}
use Rattle.dsr_chain.specs.Content.{value_of}
use Rattle.dsr_chain.specs.declared.signed_request.SignedRequest.{SignedRequest}
use Rattle.dsr_chain.specs.declared.slot_value.SlotValue.TheVariants.{Idle}
use Rattle.dsr_envelope.specs.declared.envelope.Envelope.{Envelope}
use Rattle.dsr_envelope.specs.declared.envelope.Envelope.TheVariants.{Ask}
use Rattle.dsr_envelope.specs.declared.entry.Entry.TheVariants.{Post, Take}
use Rattle.dsr_envelope.specs.declared.pick.Pick.TheVariants.{Plain, From, Begin}
use Rattle.dsr_envelope.specs.Log.{posted_to, taken_from, rounds}
use Rattle.dsr_replica.specs.Conduct.{envelope_with}
use Rattle.dsr_client.specs.Conduct.{ask_of, IsNext as IsNextOfClient}
use Rattle.dsr_run.specs.Answered.{IsHeldEagerly, rounds_to_act, HasActed, ActsWithin}
use Rattle.std.proofs.lemmas.Bool.{false≢true}
use Rattle.dsr_request.specs.Request.{Request}
use Rattle.dsr_history.specs.History.{acted}
use Rattle.dsr_envelope.specs.Limits.{IsEnvelope}
use Rattle.dsr_replica.specs.Conduct.{IsNext}
use Rattle.dsr_replica.specs.Decided.{decided_requests}
use Rattle.dsr_run.specs.Eager.{next_proposed}
use Rattle.dsr_run.proofs.Offering.{next_are_clients}
use Rattle.dsr_run.proofs.Within.{loyal_next_within}
use Rattle.dsr_run.specs.Run.{IsRun, IsNextStep}
use Rattle.dsr_run.specs.Step.{Step, log_of}

-- one replica, nine clients
abbrev one : Shape
one = shape_of 1 0 9 0

-- what each client asks for
abbrev ask : ℕ → SignedRequest
ask c = ask_of c 1 (Read (97 ∷ []))

-- slot 0 is idle; then all clients ask; slot 1 has the first eight of them, and the ninth is left for slot 2
abbrev first : Envelope
first = envelope_with one (Replica 0) [] Idle

abbrev begun_run : List Step
begun_run = (Replica 0, Post (Replica 0) first) ∷ []

abbrev asked_run : ℕ → List Step
asked_run zero = begun_run
asked_run (suc c) = (Replica 0, Take (Client c) (Ask (ask c))) ∷ (Client c, Post (Replica 0) (Ask (ask c))) ∷ asked_run c

abbrev one_closed : List Step
one_closed = (Replica 0, Take (Replica 0) first) ∷ asked_run 9

abbrev second : Envelope
second = envelope_with one (Replica 0) (log_of one_closed (Replica 0))
    (value_of (ask 0 ∷ ask 1 ∷ ask 2 ∷ ask 3 ∷ ask 4 ∷ ask 5 ∷ ask 6 ∷ ask 7 ∷ []))

abbrev two_closed : List Step
two_closed = (Replica 0, Take (Replica 0) second) ∷ (Replica 0, Post (Replica 0) second) ∷ one_closed

few : HasFewTraitors one
few = omega arith

loyal : IsLoyal one (Replica 0)
loyal = (omega arith, refl)

allowed : IsAllowed one
allowed = record {
  some_replica = omega arith;
  few_replicas = omega arith;
  most_loyal = omega arith;
  some_client = omega arith;
  few_clients = omega arith;
  replicas_alone = omega arith;
  few_traitors = few;
}

-- ---- steps

posts : (run : List Step) → IsRun one run → (x : Envelope) → IsNext one (Replica 0) (log_of run (Replica 0)) (Post (Replica 0) x)
    → rounds one (log_of run (Replica 0)) < 2 ^ 36 → posted_to (Replica 0) (log_of run (Replica 0)) ≡ taken_from (Replica 0) (log_of run (Replica 0))
    → suc (length (posted_to (Replica 0) (log_of run (Replica 0)))) < 2 ^ 40 → IsNextStep one (log_of run) (Replica 0, Post (Replica 0) x)
posts run is x next early empty left = record {
  actor = omega arith;
  other = omega arith;
  box = empty;
  limits = (loyal_next_within one allowed run is 0 loyal (Replica 0) x next, left);
  conduct = (λ l. (next, early), λ traitor. absurd (false≢true traitor));
}

takes : (run : List Step) (x : Envelope) → IsNext one (Replica 0) (log_of run (Replica 0)) (Take (Replica 0) x)
    → posted_to (Replica 0) (log_of run (Replica 0)) ≡ taken_from (Replica 0) (log_of run (Replica 0)) ++ x ∷ []
    → IsNextStep one (log_of run) (Replica 0, Take (Replica 0) x)
takes run x next full = record {
  actor = omega arith;
  other = omega arith;
  box = full;
  limits = tt;
  conduct = (λ l. (next, tt), λ traitor. tt);
}

is_read : All (λ b. IsTrue (is_name_byte b)) (97 ∷ [])
is_read = All-cons (λ b. IsTrue (is_name_byte b)) 97 [] refl (All-nil (λ b. IsTrue (is_name_byte b)))

fits : (c : ℕ) → c < 9 → IsEnvelope (Ask (ask c))
fits c inside = record {
  request = record { client_exists = omega (arith, inside); some_number = omega arith; small_number = omega arith; is_op = name };
  signature = record {
    signer = omega (arith, inside);
    statement = record { client_exists = omega (arith, inside); some_number = omega arith; small_number = omega arith; is_op = name };
  };
}
  where
    name : IsName (97 ∷ [])
    name = record { some = omega arith; few = omega arith; allowed = is_read }

asks : (run : List Step) (c : ℕ) → c < 9 → log_of run (Client c) ≡ [] → taken_from (Client c) (log_of run (Replica 0)) ≡ []
    → IsNextStep one (log_of run) (Client c, Post (Replica 0) (Ask (ask c)))
asks run c inside none empty = record {
  actor = inside;
  other = omega arith;
  box = ap (posted_to (Replica 0)) none ∙ sym empty;
  limits = (fits c inside, subst (λ l. suc (length (posted_to (Replica 0) l)) < 2 ^ 40) (sym none) (omega arith));
  conduct = subst (λ l. IsNextOfClient one c l (Post (Replica 0) (Ask (ask c)))) (sym none) (omega arith, (Begin (Read (97 ∷ [])), refl));
}

hears : (run : List Step) (c : ℕ) → c < 9
    → posted_to (Replica 0) (log_of run (Client c)) ≡ taken_from (Client c) (log_of run (Replica 0)) ++ Ask (ask c) ∷ []
    → IsNextStep one (log_of run) (Replica 0, Take (Client c) (Ask (ask c)))
hears run c inside full = record {
  actor = omega arith;
  other = inside;
  box = full;
  limits = tt;
  conduct = (λ l. (inside, tt), λ traitor. tt);
}

-- ---- the run

begun_is : IsRun one begun_run
begun_is = (tt, posts [] tt first (Plain, tt, refl) (omega arith) refl (omega arith))

asked_1 : IsRun one (asked_run 1)
asked_1 = ((begun_is, asks (asked_run 0) 0 (omega arith) refl refl), hears ((Client 0, Post (Replica 0) (Ask (ask 0))) ∷ asked_run 0) 0 (omega arith) refl)

asked_2 : IsRun one (asked_run 2)
asked_2 = ((asked_1, asks (asked_run 1) 1 (omega arith) refl refl), hears ((Client 1, Post (Replica 0) (Ask (ask 1))) ∷ asked_run 1) 1 (omega arith) refl)

asked_3 : IsRun one (asked_run 3)
asked_3 = ((asked_2, asks (asked_run 2) 2 (omega arith) refl refl), hears ((Client 2, Post (Replica 0) (Ask (ask 2))) ∷ asked_run 2) 2 (omega arith) refl)

asked_4 : IsRun one (asked_run 4)
asked_4 = ((asked_3, asks (asked_run 3) 3 (omega arith) refl refl), hears ((Client 3, Post (Replica 0) (Ask (ask 3))) ∷ asked_run 3) 3 (omega arith) refl)

asked_5 : IsRun one (asked_run 5)
asked_5 = ((asked_4, asks (asked_run 4) 4 (omega arith) refl refl), hears ((Client 4, Post (Replica 0) (Ask (ask 4))) ∷ asked_run 4) 4 (omega arith) refl)

asked_6 : IsRun one (asked_run 6)
asked_6 = ((asked_5, asks (asked_run 5) 5 (omega arith) refl refl), hears ((Client 5, Post (Replica 0) (Ask (ask 5))) ∷ asked_run 5) 5 (omega arith) refl)

asked_7 : IsRun one (asked_run 7)
asked_7 = ((asked_6, asks (asked_run 6) 6 (omega arith) refl refl), hears ((Client 6, Post (Replica 0) (Ask (ask 6))) ∷ asked_run 6) 6 (omega arith) refl)

asked_8 : IsRun one (asked_run 8)
asked_8 = ((asked_7, asks (asked_run 7) 7 (omega arith) refl refl), hears ((Client 7, Post (Replica 0) (Ask (ask 7))) ∷ asked_run 7) 7 (omega arith) refl)

asked_9 : IsRun one (asked_run 9)
asked_9 = ((asked_8, asks (asked_run 8) 8 (omega arith) refl refl), hears ((Client 8, Post (Replica 0) (Ask (ask 8))) ∷ asked_run 8) 8 (omega arith) refl)

closed_is : IsRun one one_closed
closed_is = (asked_9, takes (asked_run 9) first refl refl)

two_is : IsRun one two_closed
unfolding closed_slots first_round
two_is = (
  (
    closed_is,
    posts one_closed closed_is second
        (From (next_proposed one (log_of one_closed (Replica 0))), next_are_clients one (log_of one_closed (Replica 0)) (omega arith) (omega arith), refl)
        (omega arith) refl (omega arith),
  ),
  takes ((Replica 0, Post (Replica 0) second) ∷ one_closed) second refl refl,
)

-- ---- what has acted

abbrev IsOther : Request → List Request → Type 0
IsOther r [] = Unit {0}
IsOther r (x ∷ rs) = (¬ (x.client ≡ r.client)) × IsOther r rs

not_there : (r : Request) (rs : List Request) → IsOther r rs → ¬ In r rs
not_there r [] other h = elim h [ ]
not_there r (x ∷ rs) other (here e) = other.0 (ap (λ (z : Request). z.client) e)
not_there r (x ∷ rs) other (there h) = not_there r rs other.1 h

abbrev eight : List Request
eight = (ask 7).request ∷ (ask 6).request ∷ (ask 5).request ∷ (ask 4).request ∷ (ask 3).request ∷ (ask 2).request ∷ (ask 1).request ∷ (ask 0).request ∷ []

acted_then : acted (decided_requests one (log_of two_closed (Replica 0))) ≡ eight
unfolding closed_slots first_round
acted_then = refl

late : ¬ HasActed one (log_of two_closed (Replica 0)) (ask 8).request
late h =
    not_there (ask 8).request eight
    (λ e. omega (arith, e), (λ e. omega (arith, e), (λ e. omega (arith, e), (λ e. omega (arith, e), (λ e. omega (arith, e), (λ e. omega (arith, e), (λ e. omega (arith, e), (λ e. omega (arith, e), tt))))))))
    (subst (In (ask 8).request) acted_then h)

held_eagerly : IsHeldEagerly one (log_of two_closed) (ask 8) 0
unfolding closed_slots first_round
held_eagerly = record {
  replica = 0;
  loyal = loyal;
  added = Take (Replica 0) second ∷ Post (Replica 0) second ∷ Take (Replica 0) first ∷ [];
  base = log_of (asked_run 9) (Replica 0);
  parts = refl;
  round = refl;
  holds = refl;
  eager = (tt, λ own. (ask 0 ∷ ask 1 ∷ ask 2 ∷ ask 3 ∷ ask 4 ∷ ask 5 ∷ ask 6 ∷ ask 7 ∷ [], refl, refl));
}

pub not_sooner : (rounds_to_act one ≡ 3) × ¬ ActsWithin one 2
not_sooner = (refl, λ law. late (law two_closed two_is (ask 8) 0 held_eagerly 0 loyal (omega arith)))

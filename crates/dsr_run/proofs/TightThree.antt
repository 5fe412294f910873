-- With three replicas, f = 1 and one client, a request may not have acted a round before the bound.
use Rattle.std.proofs.Common.{◌≡◌, ℕ, suc, ◌<◌, ◌^◌, List, [], ◌∷◌, ◌++◌, length, refl, sym, ◌∙◌, subst, arith}
use Rattle.std.specs.Prelude.{IsTrue}
use Rattle.std.proofs.lemmas.List.Elements.{All-nil, All-cons}
use Rattle.dsr_base.specs.Member.{In}
use Rattle.dsr_names.specs.Shape.{Shape, shape_of, IsAllowed, IsLoyal, HasFewTraitors}
use Rattle.dsr_names.specs.declared.actor.Actor.TheVariants.{Replica, Client}
use Rattle.dsr_request.specs.declared.op.Op.TheVariants.{Read}
use Rattle.dsr_request.specs.NameText.{is_name_byte, IsName}
use Rattle.dsr_rotation.specs.Calendar.{first_round, closed_slots}
use Rattle.dsr_chain.specs.declared.signed_request.SignedRequest.{SignedRequest}
use Rattle.dsr_chain.specs.declared.slot_value.SlotValue.TheVariants.{Idle, Act}
use Rattle.dsr_envelope.specs.declared.envelope.Envelope.{Envelope}
use Rattle.dsr_envelope.specs.declared.envelope.Envelope.TheVariants.{Empty, Round, Ask}
use Rattle.dsr_envelope.specs.declared.entry.Entry.TheVariants.{Post, Take}
use Rattle.dsr_envelope.specs.declared.pick.Pick.TheVariants.{Plain, From, Begin}
use Rattle.dsr_envelope.specs.Log.{posted_to, taken_from, rounds}
use Rattle.dsr_client.specs.Conduct.{ask_of}
use Rattle.dsr_run.specs.Answered.{IsHeldEagerly, rounds_to_act, HasActed, ActsWithin}
use Rattle.std.proofs.lemmas.Bool.{false≢true}
use Rattle.dsr_history.specs.History.{acted}
use Rattle.dsr_envelope.specs.Limits.{IsEnvelope}
use Rattle.dsr_replica.specs.Conduct.{IsNext}
use Rattle.dsr_replica.specs.Decided.{decided_requests}
use Rattle.dsr_run.specs.Eager.{next_proposed, IsEager}
use Rattle.dsr_run.proofs.Offering.{next_are_clients}
use Rattle.dsr_run.proofs.Within.{loyal_next_within}
use Rattle.dsr_run.specs.Run.{IsRun, IsNextStep}
use Rattle.dsr_run.specs.Step.{Step, log_of}
use Rattle.dsr_chain.specs.Chain.{started, extended}

abbrev three : Shape
three = shape_of 3 1 1 0

-- what the client asks for, once replica 0 has begun slot 0
abbrev ask : SignedRequest
ask = ask_of 0 1 (Read (97 ∷ []))

-- what each replica sends in each round: slots 0 to 2 are idle, and slot 3 has the request
abbrev sent_0_0 : Envelope
sent_0_0 = Round 0 (started 0 Idle (Replica 0) ∷ [])

abbrev sent_0_1 : Envelope
sent_0_1 = Empty

abbrev sent_0_2 : Envelope
sent_0_2 = Empty

abbrev sent_1_0 : Envelope
sent_1_0 = Empty

abbrev sent_1_1 : Envelope
sent_1_1 = Round 1 (extended (started 0 Idle (Replica 0)) (Replica 1) ∷ started 1 Idle (Replica 1) ∷ [])

abbrev sent_1_2 : Envelope
sent_1_2 = Round 1 (extended (started 0 Idle (Replica 0)) (Replica 2) ∷ [])

abbrev sent_2_0 : Envelope
sent_2_0 = Round 2 (extended (started 1 Idle (Replica 1)) (Replica 0) ∷ [])

abbrev sent_2_1 : Envelope
sent_2_1 = Empty

abbrev sent_2_2 : Envelope
sent_2_2 = Round 2 (extended (started 1 Idle (Replica 1)) (Replica 2) ∷ started 2 Idle (Replica 2) ∷ [])

abbrev sent_3_0 : Envelope
sent_3_0 = Round 3 (extended (started 2 Idle (Replica 2)) (Replica 0) ∷ started 3 (Act (ask ∷ [])) (Replica 0) ∷ [])

abbrev sent_3_1 : Envelope
sent_3_1 = Round 3 (extended (started 2 Idle (Replica 2)) (Replica 1) ∷ [])

abbrev sent_3_2 : Envelope
sent_3_2 = Empty

-- the run, step by step: in each round all post to all, and then all take from all
abbrev run_0 : List Step
run_0 = []

abbrev run_1 : List Step
run_1 = (Replica 0, Post (Replica 0) sent_0_0) ∷ run_0

abbrev run_2 : List Step
run_2 = (Client 0, Post (Replica 0) (Ask ask)) ∷ run_1

abbrev run_3 : List Step
run_3 = (Replica 0, Take (Client 0) (Ask ask)) ∷ run_2

abbrev run_4 : List Step
run_4 = (Replica 0, Post (Replica 1) sent_0_0) ∷ run_3

abbrev run_5 : List Step
run_5 = (Replica 0, Post (Replica 2) sent_0_0) ∷ run_4

abbrev run_6 : List Step
run_6 = (Replica 1, Post (Replica 0) sent_0_1) ∷ run_5

abbrev run_7 : List Step
run_7 = (Replica 1, Post (Replica 1) sent_0_1) ∷ run_6

abbrev run_8 : List Step
run_8 = (Replica 1, Post (Replica 2) sent_0_1) ∷ run_7

abbrev run_9 : List Step
run_9 = (Replica 2, Post (Replica 0) sent_0_2) ∷ run_8

abbrev run_10 : List Step
run_10 = (Replica 2, Post (Replica 1) sent_0_2) ∷ run_9

abbrev run_11 : List Step
run_11 = (Replica 2, Post (Replica 2) sent_0_2) ∷ run_10

abbrev run_12 : List Step
run_12 = (Replica 0, Take (Replica 0) sent_0_0) ∷ run_11

abbrev run_13 : List Step
run_13 = (Replica 0, Take (Replica 1) sent_0_1) ∷ run_12

abbrev run_14 : List Step
run_14 = (Replica 0, Take (Replica 2) sent_0_2) ∷ run_13

abbrev run_15 : List Step
run_15 = (Replica 1, Take (Replica 0) sent_0_0) ∷ run_14

abbrev run_16 : List Step
run_16 = (Replica 1, Take (Replica 1) sent_0_1) ∷ run_15

abbrev run_17 : List Step
run_17 = (Replica 1, Take (Replica 2) sent_0_2) ∷ run_16

abbrev run_18 : List Step
run_18 = (Replica 2, Take (Replica 0) sent_0_0) ∷ run_17

abbrev run_19 : List Step
run_19 = (Replica 2, Take (Replica 1) sent_0_1) ∷ run_18

abbrev run_20 : List Step
run_20 = (Replica 2, Take (Replica 2) sent_0_2) ∷ run_19

abbrev run_21 : List Step
run_21 = (Replica 0, Post (Replica 0) sent_1_0) ∷ run_20

abbrev run_22 : List Step
run_22 = (Replica 0, Post (Replica 1) sent_1_0) ∷ run_21

abbrev run_23 : List Step
run_23 = (Replica 0, Post (Replica 2) sent_1_0) ∷ run_22

abbrev run_24 : List Step
run_24 = (Replica 1, Post (Replica 0) sent_1_1) ∷ run_23

abbrev run_25 : List Step
run_25 = (Replica 1, Post (Replica 1) sent_1_1) ∷ run_24

abbrev run_26 : List Step
run_26 = (Replica 1, Post (Replica 2) sent_1_1) ∷ run_25

abbrev run_27 : List Step
run_27 = (Replica 2, Post (Replica 0) sent_1_2) ∷ run_26

abbrev run_28 : List Step
run_28 = (Replica 2, Post (Replica 1) sent_1_2) ∷ run_27

abbrev run_29 : List Step
run_29 = (Replica 2, Post (Replica 2) sent_1_2) ∷ run_28

abbrev run_30 : List Step
run_30 = (Replica 0, Take (Replica 0) sent_1_0) ∷ run_29

abbrev run_31 : List Step
run_31 = (Replica 0, Take (Replica 1) sent_1_1) ∷ run_30

abbrev run_32 : List Step
run_32 = (Replica 0, Take (Replica 2) sent_1_2) ∷ run_31

abbrev run_33 : List Step
run_33 = (Replica 1, Take (Replica 0) sent_1_0) ∷ run_32

abbrev run_34 : List Step
run_34 = (Replica 1, Take (Replica 1) sent_1_1) ∷ run_33

abbrev run_35 : List Step
run_35 = (Replica 1, Take (Replica 2) sent_1_2) ∷ run_34

abbrev run_36 : List Step
run_36 = (Replica 2, Take (Replica 0) sent_1_0) ∷ run_35

abbrev run_37 : List Step
run_37 = (Replica 2, Take (Replica 1) sent_1_1) ∷ run_36

abbrev run_38 : List Step
run_38 = (Replica 2, Take (Replica 2) sent_1_2) ∷ run_37

abbrev run_39 : List Step
run_39 = (Replica 0, Post (Replica 0) sent_2_0) ∷ run_38

abbrev run_40 : List Step
run_40 = (Replica 0, Post (Replica 1) sent_2_0) ∷ run_39

abbrev run_41 : List Step
run_41 = (Replica 0, Post (Replica 2) sent_2_0) ∷ run_40

abbrev run_42 : List Step
run_42 = (Replica 1, Post (Replica 0) sent_2_1) ∷ run_41

abbrev run_43 : List Step
run_43 = (Replica 1, Post (Replica 1) sent_2_1) ∷ run_42

abbrev run_44 : List Step
run_44 = (Replica 1, Post (Replica 2) sent_2_1) ∷ run_43

abbrev run_45 : List Step
run_45 = (Replica 2, Post (Replica 0) sent_2_2) ∷ run_44

abbrev run_46 : List Step
run_46 = (Replica 2, Post (Replica 1) sent_2_2) ∷ run_45

abbrev run_47 : List Step
run_47 = (Replica 2, Post (Replica 2) sent_2_2) ∷ run_46

abbrev run_48 : List Step
run_48 = (Replica 0, Take (Replica 0) sent_2_0) ∷ run_47

abbrev run_49 : List Step
run_49 = (Replica 0, Take (Replica 1) sent_2_1) ∷ run_48

abbrev run_50 : List Step
run_50 = (Replica 0, Take (Replica 2) sent_2_2) ∷ run_49

abbrev run_51 : List Step
run_51 = (Replica 1, Take (Replica 0) sent_2_0) ∷ run_50

abbrev run_52 : List Step
run_52 = (Replica 1, Take (Replica 1) sent_2_1) ∷ run_51

abbrev run_53 : List Step
run_53 = (Replica 1, Take (Replica 2) sent_2_2) ∷ run_52

abbrev run_54 : List Step
run_54 = (Replica 2, Take (Replica 0) sent_2_0) ∷ run_53

abbrev run_55 : List Step
run_55 = (Replica 2, Take (Replica 1) sent_2_1) ∷ run_54

abbrev run_56 : List Step
run_56 = (Replica 2, Take (Replica 2) sent_2_2) ∷ run_55

abbrev run_57 : List Step
run_57 = (Replica 0, Post (Replica 0) sent_3_0) ∷ run_56

abbrev run_58 : List Step
run_58 = (Replica 0, Post (Replica 1) sent_3_0) ∷ run_57

abbrev run_59 : List Step
run_59 = (Replica 0, Post (Replica 2) sent_3_0) ∷ run_58

abbrev run_60 : List Step
run_60 = (Replica 1, Post (Replica 0) sent_3_1) ∷ run_59

abbrev run_61 : List Step
run_61 = (Replica 1, Post (Replica 1) sent_3_1) ∷ run_60

abbrev run_62 : List Step
run_62 = (Replica 1, Post (Replica 2) sent_3_1) ∷ run_61

abbrev run_63 : List Step
run_63 = (Replica 2, Post (Replica 0) sent_3_2) ∷ run_62

abbrev run_64 : List Step
run_64 = (Replica 2, Post (Replica 1) sent_3_2) ∷ run_63

abbrev run_65 : List Step
run_65 = (Replica 2, Post (Replica 2) sent_3_2) ∷ run_64

abbrev run_66 : List Step
run_66 = (Replica 0, Take (Replica 0) sent_3_0) ∷ run_65

abbrev run_67 : List Step
run_67 = (Replica 0, Take (Replica 1) sent_3_1) ∷ run_66

abbrev run_68 : List Step
run_68 = (Replica 0, Take (Replica 2) sent_3_2) ∷ run_67

abbrev run_69 : List Step
run_69 = (Replica 1, Take (Replica 0) sent_3_0) ∷ run_68

abbrev run_70 : List Step
run_70 = (Replica 1, Take (Replica 1) sent_3_1) ∷ run_69

abbrev run_71 : List Step
run_71 = (Replica 1, Take (Replica 2) sent_3_2) ∷ run_70

abbrev run_72 : List Step
run_72 = (Replica 2, Take (Replica 0) sent_3_0) ∷ run_71

abbrev run_73 : List Step
run_73 = (Replica 2, Take (Replica 1) sent_3_1) ∷ run_72

abbrev run_74 : List Step
run_74 = (Replica 2, Take (Replica 2) sent_3_2) ∷ run_73

few : HasFewTraitors three
few = omega arith

loyal_0 : IsLoyal three (Replica 0)
loyal_0 = (omega arith, refl)

loyal_1 : IsLoyal three (Replica 1)
loyal_1 = (omega arith, refl)

loyal_2 : IsLoyal three (Replica 2)
loyal_2 = (omega arith, refl)

allowed : IsAllowed three
allowed = record {
  some_replica = omega arith;
  few_replicas = omega arith;
  most_loyal = omega arith;
  some_client = omega arith;
  few_clients = omega arith;
  replicas_alone = omega arith;
  few_traitors = few;
}

-- ---- steps

posts : (run : List Step) → IsRun three run → (p : ℕ) → IsLoyal three (Replica p) → (q : ℕ) → q < 3 → (x : Envelope)
    → IsNext three (Replica p) (log_of run (Replica p)) (Post (Replica q) x)
    → rounds three (log_of run (Replica p)) < 2 ^ 36 → posted_to (Replica q) (log_of run (Replica p)) ≡ taken_from (Replica p) (log_of run (Replica q))
    → suc (length (posted_to (Replica q) (log_of run (Replica p)))) < 2 ^ 40 → IsNextStep three (log_of run) (Replica p, Post (Replica q) x)
posts run is p loyal q inside x next early empty left = record {
  actor = loyal.0;
  other = inside;
  box = empty;
  limits = (loyal_next_within three allowed run is p loyal (Replica q) x next, left);
  conduct = (λ l. (next, early), λ traitor. absurd (false≢true (sym loyal.1 ∙ traitor)));
}

takes : (run : List Step) (p q : ℕ) → p < 3 → q < 3 → (x : Envelope) → IsNext three (Replica p) (log_of run (Replica p)) (Take (Replica q) x)
    → posted_to (Replica p) (log_of run (Replica q)) ≡ taken_from (Replica q) (log_of run (Replica p)) ++ x ∷ []
    → IsNextStep three (log_of run) (Replica p, Take (Replica q) x)
takes run p q inside low x next full = record {
  actor = inside;
  other = low;
  box = full;
  limits = tt;
  conduct = (λ l. (next, tt), λ traitor. tt);
}

is_name : IsName (97 ∷ [])
is_name = record { some = omega arith; few = omega arith; allowed = All-cons (λ b. IsTrue (is_name_byte b)) 97 [] refl (All-nil (λ b. IsTrue (is_name_byte b))) }

fits : IsEnvelope (Ask ask)
fits = record {
  request = record { client_exists = omega arith; some_number = omega arith; small_number = omega arith; is_op = is_name };
  signature = record {
    signer = omega arith;
    statement = record { client_exists = omega arith; some_number = omega arith; small_number = omega arith; is_op = is_name };
  };
}

-- ---- each beginning of it is a run

is_0 : IsRun three run_0
is_0 = tt

is_1 : IsRun three run_1
unfolding closed_slots first_round
is_1 = (is_0, posts run_0 is_0 0 loyal_0 0 (omega arith) sent_0_0 (Plain, tt, refl) (omega arith) refl (omega arith))

is_2 : IsRun three run_2
unfolding closed_slots first_round
is_2 = (is_1, record { actor = omega arith; other = omega arith; box = refl; limits = (fits, omega arith); conduct = (omega arith, (Begin (Read (97 ∷ [])), refl)) })

is_3 : IsRun three run_3
unfolding closed_slots first_round
is_3 = (is_2, record { actor = omega arith; other = omega arith; box = refl; limits = tt; conduct = (λ l. (omega arith, tt), λ traitor. tt) })

is_4 : IsRun three run_4
unfolding closed_slots first_round
is_4 = (is_3, posts run_3 is_3 0 loyal_0 1 (omega arith) sent_0_0 (Plain, tt, refl) (omega arith) refl (omega arith))

is_5 : IsRun three run_5
unfolding closed_slots first_round
is_5 = (is_4, posts run_4 is_4 0 loyal_0 2 (omega arith) sent_0_0 (Plain, tt, refl) (omega arith) refl (omega arith))

is_6 : IsRun three run_6
unfolding closed_slots first_round
is_6 = (is_5, posts run_5 is_5 1 loyal_1 0 (omega arith) sent_0_1 (Plain, tt, refl) (omega arith) refl (omega arith))

is_7 : IsRun three run_7
unfolding closed_slots first_round
is_7 = (is_6, posts run_6 is_6 1 loyal_1 1 (omega arith) sent_0_1 (Plain, tt, refl) (omega arith) refl (omega arith))

is_8 : IsRun three run_8
unfolding closed_slots first_round
is_8 = (is_7, posts run_7 is_7 1 loyal_1 2 (omega arith) sent_0_1 (Plain, tt, refl) (omega arith) refl (omega arith))

is_9 : IsRun three run_9
unfolding closed_slots first_round
is_9 = (is_8, posts run_8 is_8 2 loyal_2 0 (omega arith) sent_0_2 (Plain, tt, refl) (omega arith) refl (omega arith))

is_10 : IsRun three run_10
unfolding closed_slots first_round
is_10 = (is_9, posts run_9 is_9 2 loyal_2 1 (omega arith) sent_0_2 (Plain, tt, refl) (omega arith) refl (omega arith))

is_11 : IsRun three run_11
unfolding closed_slots first_round
is_11 = (is_10, posts run_10 is_10 2 loyal_2 2 (omega arith) sent_0_2 (Plain, tt, refl) (omega arith) refl (omega arith))

is_12 : IsRun three run_12
unfolding closed_slots first_round
is_12 = (is_11, takes run_11 0 0 (omega arith) (omega arith) sent_0_0 refl refl)

is_13 : IsRun three run_13
unfolding closed_slots first_round
is_13 = (is_12, takes run_12 0 1 (omega arith) (omega arith) sent_0_1 refl refl)

is_14 : IsRun three run_14
unfolding closed_slots first_round
is_14 = (is_13, takes run_13 0 2 (omega arith) (omega arith) sent_0_2 refl refl)

is_15 : IsRun three run_15
unfolding closed_slots first_round
is_15 = (is_14, takes run_14 1 0 (omega arith) (omega arith) sent_0_0 refl refl)

is_16 : IsRun three run_16
unfolding closed_slots first_round
is_16 = (is_15, takes run_15 1 1 (omega arith) (omega arith) sent_0_1 refl refl)

is_17 : IsRun three run_17
unfolding closed_slots first_round
is_17 = (is_16, takes run_16 1 2 (omega arith) (omega arith) sent_0_2 refl refl)

is_18 : IsRun three run_18
unfolding closed_slots first_round
is_18 = (is_17, takes run_17 2 0 (omega arith) (omega arith) sent_0_0 refl refl)

is_19 : IsRun three run_19
unfolding closed_slots first_round
is_19 = (is_18, takes run_18 2 1 (omega arith) (omega arith) sent_0_1 refl refl)

is_20 : IsRun three run_20
unfolding closed_slots first_round
is_20 = (is_19, takes run_19 2 2 (omega arith) (omega arith) sent_0_2 refl refl)

is_21 : IsRun three run_21
unfolding closed_slots first_round
is_21 = (is_20, posts run_20 is_20 0 loyal_0 0 (omega arith) sent_1_0 (Plain, tt, refl) (omega arith) refl (omega arith))

is_22 : IsRun three run_22
unfolding closed_slots first_round
is_22 = (is_21, posts run_21 is_21 0 loyal_0 1 (omega arith) sent_1_0 (Plain, tt, refl) (omega arith) refl (omega arith))

is_23 : IsRun three run_23
unfolding closed_slots first_round
is_23 = (is_22, posts run_22 is_22 0 loyal_0 2 (omega arith) sent_1_0 (Plain, tt, refl) (omega arith) refl (omega arith))

is_24 : IsRun three run_24
unfolding closed_slots first_round
is_24 = (is_23, posts run_23 is_23 1 loyal_1 0 (omega arith) sent_1_1 (Plain, tt, refl) (omega arith) refl (omega arith))

is_25 : IsRun three run_25
unfolding closed_slots first_round
is_25 = (is_24, posts run_24 is_24 1 loyal_1 1 (omega arith) sent_1_1 (Plain, tt, refl) (omega arith) refl (omega arith))

is_26 : IsRun three run_26
unfolding closed_slots first_round
is_26 = (is_25, posts run_25 is_25 1 loyal_1 2 (omega arith) sent_1_1 (Plain, tt, refl) (omega arith) refl (omega arith))

is_27 : IsRun three run_27
unfolding closed_slots first_round
is_27 = (is_26, posts run_26 is_26 2 loyal_2 0 (omega arith) sent_1_2 (Plain, tt, refl) (omega arith) refl (omega arith))

is_28 : IsRun three run_28
unfolding closed_slots first_round
is_28 = (is_27, posts run_27 is_27 2 loyal_2 1 (omega arith) sent_1_2 (Plain, tt, refl) (omega arith) refl (omega arith))

is_29 : IsRun three run_29
unfolding closed_slots first_round
is_29 = (is_28, posts run_28 is_28 2 loyal_2 2 (omega arith) sent_1_2 (Plain, tt, refl) (omega arith) refl (omega arith))

is_30 : IsRun three run_30
unfolding closed_slots first_round
is_30 = (is_29, takes run_29 0 0 (omega arith) (omega arith) sent_1_0 refl refl)

is_31 : IsRun three run_31
unfolding closed_slots first_round
is_31 = (is_30, takes run_30 0 1 (omega arith) (omega arith) sent_1_1 refl refl)

is_32 : IsRun three run_32
unfolding closed_slots first_round
is_32 = (is_31, takes run_31 0 2 (omega arith) (omega arith) sent_1_2 refl refl)

is_33 : IsRun three run_33
unfolding closed_slots first_round
is_33 = (is_32, takes run_32 1 0 (omega arith) (omega arith) sent_1_0 refl refl)

is_34 : IsRun three run_34
unfolding closed_slots first_round
is_34 = (is_33, takes run_33 1 1 (omega arith) (omega arith) sent_1_1 refl refl)

is_35 : IsRun three run_35
unfolding closed_slots first_round
is_35 = (is_34, takes run_34 1 2 (omega arith) (omega arith) sent_1_2 refl refl)

is_36 : IsRun three run_36
unfolding closed_slots first_round
is_36 = (is_35, takes run_35 2 0 (omega arith) (omega arith) sent_1_0 refl refl)

is_37 : IsRun three run_37
unfolding closed_slots first_round
is_37 = (is_36, takes run_36 2 1 (omega arith) (omega arith) sent_1_1 refl refl)

is_38 : IsRun three run_38
unfolding closed_slots first_round
is_38 = (is_37, takes run_37 2 2 (omega arith) (omega arith) sent_1_2 refl refl)

is_39 : IsRun three run_39
unfolding closed_slots first_round
is_39 = (is_38, posts run_38 is_38 0 loyal_0 0 (omega arith) sent_2_0 (Plain, tt, refl) (omega arith) refl (omega arith))

is_40 : IsRun three run_40
unfolding closed_slots first_round
is_40 = (is_39, posts run_39 is_39 0 loyal_0 1 (omega arith) sent_2_0 (Plain, tt, refl) (omega arith) refl (omega arith))

is_41 : IsRun three run_41
unfolding closed_slots first_round
is_41 = (is_40, posts run_40 is_40 0 loyal_0 2 (omega arith) sent_2_0 (Plain, tt, refl) (omega arith) refl (omega arith))

is_42 : IsRun three run_42
unfolding closed_slots first_round
is_42 = (is_41, posts run_41 is_41 1 loyal_1 0 (omega arith) sent_2_1 (Plain, tt, refl) (omega arith) refl (omega arith))

is_43 : IsRun three run_43
unfolding closed_slots first_round
is_43 = (is_42, posts run_42 is_42 1 loyal_1 1 (omega arith) sent_2_1 (Plain, tt, refl) (omega arith) refl (omega arith))

is_44 : IsRun three run_44
unfolding closed_slots first_round
is_44 = (is_43, posts run_43 is_43 1 loyal_1 2 (omega arith) sent_2_1 (Plain, tt, refl) (omega arith) refl (omega arith))

is_45 : IsRun three run_45
unfolding closed_slots first_round
is_45 = (is_44, posts run_44 is_44 2 loyal_2 0 (omega arith) sent_2_2 (Plain, tt, refl) (omega arith) refl (omega arith))

is_46 : IsRun three run_46
unfolding closed_slots first_round
is_46 = (is_45, posts run_45 is_45 2 loyal_2 1 (omega arith) sent_2_2 (Plain, tt, refl) (omega arith) refl (omega arith))

is_47 : IsRun three run_47
unfolding closed_slots first_round
is_47 = (is_46, posts run_46 is_46 2 loyal_2 2 (omega arith) sent_2_2 (Plain, tt, refl) (omega arith) refl (omega arith))

is_48 : IsRun three run_48
unfolding closed_slots first_round
is_48 = (is_47, takes run_47 0 0 (omega arith) (omega arith) sent_2_0 refl refl)

is_49 : IsRun three run_49
unfolding closed_slots first_round
is_49 = (is_48, takes run_48 0 1 (omega arith) (omega arith) sent_2_1 refl refl)

is_50 : IsRun three run_50
unfolding closed_slots first_round
is_50 = (is_49, takes run_49 0 2 (omega arith) (omega arith) sent_2_2 refl refl)

is_51 : IsRun three run_51
unfolding closed_slots first_round
is_51 = (is_50, takes run_50 1 0 (omega arith) (omega arith) sent_2_0 refl refl)

is_52 : IsRun three run_52
unfolding closed_slots first_round
is_52 = (is_51, takes run_51 1 1 (omega arith) (omega arith) sent_2_1 refl refl)

is_53 : IsRun three run_53
unfolding closed_slots first_round
is_53 = (is_52, takes run_52 1 2 (omega arith) (omega arith) sent_2_2 refl refl)

is_54 : IsRun three run_54
unfolding closed_slots first_round
is_54 = (is_53, takes run_53 2 0 (omega arith) (omega arith) sent_2_0 refl refl)

is_55 : IsRun three run_55
unfolding closed_slots first_round
is_55 = (is_54, takes run_54 2 1 (omega arith) (omega arith) sent_2_1 refl refl)

is_56 : IsRun three run_56
unfolding closed_slots first_round
is_56 = (is_55, takes run_55 2 2 (omega arith) (omega arith) sent_2_2 refl refl)

is_57 : IsRun three run_57
unfolding closed_slots first_round
is_57 = (is_56, posts run_56 is_56 0 loyal_0 0 (omega arith) sent_3_0 (From (next_proposed three (log_of run_56 (Replica 0))), next_are_clients three (log_of run_56 (Replica 0)) (omega arith) (omega arith), refl) (omega arith) refl (omega arith))

is_58 : IsRun three run_58
unfolding closed_slots first_round
is_58 = (is_57, posts run_57 is_57 0 loyal_0 1 (omega arith) sent_3_0 (Plain, tt, refl) (omega arith) refl (omega arith))

is_59 : IsRun three run_59
unfolding closed_slots first_round
is_59 = (is_58, posts run_58 is_58 0 loyal_0 2 (omega arith) sent_3_0 (Plain, tt, refl) (omega arith) refl (omega arith))

is_60 : IsRun three run_60
unfolding closed_slots first_round
is_60 = (is_59, posts run_59 is_59 1 loyal_1 0 (omega arith) sent_3_1 (Plain, tt, refl) (omega arith) refl (omega arith))

is_61 : IsRun three run_61
unfolding closed_slots first_round
is_61 = (is_60, posts run_60 is_60 1 loyal_1 1 (omega arith) sent_3_1 (Plain, tt, refl) (omega arith) refl (omega arith))

is_62 : IsRun three run_62
unfolding closed_slots first_round
is_62 = (is_61, posts run_61 is_61 1 loyal_1 2 (omega arith) sent_3_1 (Plain, tt, refl) (omega arith) refl (omega arith))

is_63 : IsRun three run_63
unfolding closed_slots first_round
is_63 = (is_62, posts run_62 is_62 2 loyal_2 0 (omega arith) sent_3_2 (Plain, tt, refl) (omega arith) refl (omega arith))

is_64 : IsRun three run_64
unfolding closed_slots first_round
is_64 = (is_63, posts run_63 is_63 2 loyal_2 1 (omega arith) sent_3_2 (Plain, tt, refl) (omega arith) refl (omega arith))

is_65 : IsRun three run_65
unfolding closed_slots first_round
is_65 = (is_64, posts run_64 is_64 2 loyal_2 2 (omega arith) sent_3_2 (Plain, tt, refl) (omega arith) refl (omega arith))

is_66 : IsRun three run_66
unfolding closed_slots first_round
is_66 = (is_65, takes run_65 0 0 (omega arith) (omega arith) sent_3_0 refl refl)

is_67 : IsRun three run_67
unfolding closed_slots first_round
is_67 = (is_66, takes run_66 0 1 (omega arith) (omega arith) sent_3_1 refl refl)

is_68 : IsRun three run_68
unfolding closed_slots first_round
is_68 = (is_67, takes run_67 0 2 (omega arith) (omega arith) sent_3_2 refl refl)

is_69 : IsRun three run_69
unfolding closed_slots first_round
is_69 = (is_68, takes run_68 1 0 (omega arith) (omega arith) sent_3_0 refl refl)

is_70 : IsRun three run_70
unfolding closed_slots first_round
is_70 = (is_69, takes run_69 1 1 (omega arith) (omega arith) sent_3_1 refl refl)

is_71 : IsRun three run_71
unfolding closed_slots first_round
is_71 = (is_70, takes run_70 1 2 (omega arith) (omega arith) sent_3_2 refl refl)

is_72 : IsRun three run_72
unfolding closed_slots first_round
is_72 = (is_71, takes run_71 2 0 (omega arith) (omega arith) sent_3_0 refl refl)

is_73 : IsRun three run_73
unfolding closed_slots first_round
is_73 = (is_72, takes run_72 2 1 (omega arith) (omega arith) sent_3_1 refl refl)

is_74 : IsRun three run_74
unfolding closed_slots first_round
is_74 = (is_73, takes run_73 2 2 (omega arith) (omega arith) sent_3_2 refl refl)

-- ---- after four rounds nothing has acted

acted_then : acted (decided_requests three (log_of run_74 (Replica 0))) ≡ []
unfolding closed_slots first_round
acted_then = refl

late : ¬ HasActed three (log_of run_74 (Replica 0)) ask.request
late h = elim (subst (In ask.request) acted_then h) [ ]

held_eagerly : IsHeldEagerly three (log_of run_74) ask 0
unfolding closed_slots first_round
held_eagerly = record {
  replica = 0;
  loyal = loyal_0;
  added = Take (Replica 2) sent_3_2 ∷ Take (Replica 1) sent_3_1 ∷ Take (Replica 0) sent_3_0 ∷ Post (Replica 2) sent_3_0 ∷ Post (Replica 1) sent_3_0 ∷ Post (Replica 0) sent_3_0 ∷ Take (Replica 2) sent_2_2 ∷ Take (Replica 1) sent_2_1 ∷ Take (Replica 0) sent_2_0 ∷ Post (Replica 2) sent_2_0 ∷ Post (Replica 1) sent_2_0 ∷ Post (Replica 0) sent_2_0 ∷ Take (Replica 2) sent_1_2 ∷ Take (Replica 1) sent_1_1 ∷ Take (Replica 0) sent_1_0 ∷ Post (Replica 2) sent_1_0 ∷ Post (Replica 1) sent_1_0 ∷ Post (Replica 0) sent_1_0 ∷ Take (Replica 2) sent_0_2 ∷ Take (Replica 1) sent_0_1 ∷ Take (Replica 0) sent_0_0 ∷ Post (Replica 2) sent_0_0 ∷ Post (Replica 1) sent_0_0 ∷ [];
  base = log_of run_3 (Replica 0);
  parts = refl;
  round = refl;
  holds = refl;
  eager = eager;
}
  where
    eager : IsEager three (Replica 0) (log_of run_3 (Replica 0)) (Take (Replica 2) sent_3_2 ∷ Take (Replica 1) sent_3_1 ∷ Take (Replica 0) sent_3_0 ∷ Post (Replica 2) sent_3_0 ∷ Post (Replica 1) sent_3_0 ∷ Post (Replica 0) sent_3_0 ∷ Take (Replica 2) sent_2_2 ∷ Take (Replica 1) sent_2_1 ∷ Take (Replica 0) sent_2_0 ∷ Post (Replica 2) sent_2_0 ∷ Post (Replica 1) sent_2_0 ∷ Post (Replica 0) sent_2_0 ∷ Take (Replica 2) sent_1_2 ∷ Take (Replica 1) sent_1_1 ∷ Take (Replica 0) sent_1_0 ∷ Post (Replica 2) sent_1_0 ∷ Post (Replica 1) sent_1_0 ∷ Post (Replica 0) sent_1_0 ∷ Take (Replica 2) sent_0_2 ∷ Take (Replica 1) sent_0_1 ∷ Take (Replica 0) sent_0_0 ∷ Post (Replica 2) sent_0_0 ∷ Post (Replica 1) sent_0_0 ∷ [])
    eager = (((tt, λ own. absurd cc), λ own. absurd cc), λ own. (ask ∷ [], refl, refl))

pub not_sooner_of_three : (rounds_to_act three ≡ 5) × ¬ ActsWithin three 4
not_sooner_of_three = (refl, λ law. late (law run_74 is_74 ask 0 held_eagerly 0 loyal_0 (omega arith)))

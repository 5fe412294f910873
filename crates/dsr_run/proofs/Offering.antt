-- The clients that are next are held, different and at most 8, so an eager replica can always begin its slot as one, and only so.
use Rattle.std.proofs.Common.{◌≡◌, ◌≢◌, ℕ, zero, suc, ◌<◌, ◌≤◌, true, List, [], ◌∷◌, length, Option, None, Some, if◌then◌else◌, inl, inr, refl, ap, ap₂, sym, ◌∙◌, subst, arith}
use Rattle.std.specs.Prelude.{All, AllPairs, filter, take}
use Rattle.std.specs.Option.{option_map}
use Rattle.std.proofs.lemmas.Bool.Decides.{nat_tests}
use Rattle.std.proofs.lemmas.List.{get_or-take, length-take}
use Rattle.std.proofs.lemmas.List.Elements.{All-nil, All-cons}
use Rattle.std.proofs.lemmas.List.Kept.{AllPairs-cons, AllPairs-filter}
use Rattle.dsr_base.specs.Member.{In, here, there}
use Rattle.dsr_names.specs.Shape.{Shape}
use Rattle.dsr_names.specs.declared.actor.Actor.{Actor}
use Rattle.dsr_names.specs.declared.actor.Actor.TheVariants.{Replica}
use Rattle.dsr_names.specs.Support.ActorEquality.{actor_eq, actor_eq-Decides}
use Rattle.dsr_ledger.specs.declared.reply.Reply.{Reply as AReply}
use Rattle.dsr_history.specs.History.{reply}
use Rattle.dsr_chain.specs.Proper.{sender_of}
use Rattle.dsr_chain.specs.declared.signed_request.SignedRequest.{SignedRequest}
use Rattle.dsr_chain.specs.declared.slot_value.SlotValue.TheVariants.{Idle, Act}
use Rattle.dsr_slot.proofs.Lemmas.{holds_or_not, from_filter}
use Rattle.dsr_envelope.specs.declared.envelope.Envelope.{Envelope}
use Rattle.dsr_envelope.specs.declared.entry.Entry.{Entry}
use Rattle.dsr_envelope.specs.declared.entry.Entry.TheVariants.{Post}
use Rattle.dsr_envelope.specs.declared.due.Due.TheVariants.{Post as PostTo}
use Rattle.dsr_envelope.specs.declared.pick.Pick.{Pick}
use Rattle.dsr_envelope.specs.declared.pick.Pick.TheVariants.{Plain, From}
use Rattle.dsr_envelope.specs.Log.{due, rounds}
use Rattle.dsr_envelope.specs.Pick.{IsClients}
use Rattle.dsr_replica.specs.Conduct.{envelope_with, chosen, is_due, IsNext}
use Rattle.dsr_replica.specs.Decided.{decided_requests}
use Rattle.dsr_replica.specs.Held.{held, put_before, all_held}
use Rattle.dsr_run.specs.Eager.{is_newer, is_waiting, next_client, in_turn, first_in_turn, last_proposed, next_proposed, ProposesNext}
use Rattle.dsr_run.proofs.Turning.{ahead, next_below, first_below}

-- ---- different clients

all_from : {A : Type 0} (P : A → Type 0) (xs : List A) → ((x : A) → In x xs → P x) → All P xs
all_from P [] each = All-nil P
all_from P (x ∷ xs) each = All-cons P x xs (each x (here refl)) (all_from P xs (λ y h. each y (there h)))

in_taken : {A : Type 0} (k : ℕ) (xs : List A) (x : A) → In x (take k xs) → In x xs
in_taken zero xs x h = elim h [ ]
in_taken (suc k) [] x h = elim h [ ]
in_taken (suc k) (y ∷ xs) x (here e) = here e
in_taken (suc k) (y ∷ xs) x (there h) = there (in_taken k xs x h)

few_taken : (k : ℕ) (xs : List ℕ) → AllPairs (λ a b. a ≢ b) xs → AllPairs (λ a b. a ≢ b) (take k xs)
few_taken k xs apart = λ i j d before inside e.
    let count = length-take k xs in
    apart i j d before (omega (arith, inside, count))
    (sym (get_or-take k xs i d (omega (arith, before, inside, count))) ∙ (e ∙ get_or-take k xs j d (omega (arith, inside, count))))

ahead_step : (m y a : ℕ) → y < m → a < m → ahead m y a ≤ suc (ahead m y (next_client m a))
ahead_step m y a inside low = grind (arith, nat_tests)

ahead_round : (m a : ℕ) → a < m → m ≤ suc (ahead m a (next_client m a))
ahead_round m a low = grind (arith, nat_tests)

-- each of `count` clients in turn is fewer than `count` places on
within_turn : (m count a y : ℕ) → a < m → In y (in_turn m count a) → (y < m) × (ahead m y a < count)
within_turn m zero a y low h = elim h [ ]
within_turn m (suc count) a y low (here e) =
    (omega (arith, low, e), subst (λ z. ahead m z a < suc count) e (none_ahead m a count))
  where
    none_ahead : (m a count : ℕ) → ahead m a a < suc count
    none_ahead m a count = grind (arith, nat_tests)
within_turn m (suc count) a y low (there h) =
    let later = within_turn m count (next_client m a) y (next_below m a (omega (arith, low))) h in
    let few = later.1 in
    let step = ahead_step m y a later.0 low in
    (later.0, omega (arith, few, step))

-- a round of turns has each client once
turns_apart : (m count a : ℕ) → a < m → count ≤ m → AllPairs (λ a b. a ≢ b) (in_turn m count a)
turns_apart m zero a low most = λ i j d before inside. absurd (omega (arith, inside))
turns_apart m (suc count) a low most =
    let next = next_below m a (omega (arith, low)) in
    AllPairs-cons (λ a b. a ≢ b) a (in_turn m count (next_client m a))
    (all_from (λ y. a ≢ y) (in_turn m count (next_client m a)) (λ y h e. again y e (within_turn m count (next_client m a) y next h).1))
    (turns_apart m count (next_client m a) next (omega (arith, most)))
  where
    again : (y : ℕ) → a ≡ y → ahead m y (next_client m a) < count → ⊥
    again y e few =
        let round = subst (λ z. m ≤ suc (ahead m z (next_client m a))) e (ahead_round m a low) in
        omega (arith, few, round, most)

-- ---- held clients

waits_held : (asked : Option SignedRequest) (last : Option AReply) → is_newer asked last ≡ true → (s : SignedRequest) × (asked ≡ Some s)
waits_held None last e = absurd cc
waits_held (Some s) last e = (s, refl)

held_each : (shape : Shape) (log : List Entry) (clients : List ℕ) → ((c : ℕ) → In c clients → (s : SignedRequest) × (held shape c log ≡ Some s))
    → (asks : List SignedRequest) × (all_held shape log clients ≡ Some asks) × (length asks ≡ length clients)
held_each shape log [] each = ([], refl, refl)
held_each shape log (c ∷ clients) each =
    let first = each c (here refl) in
    let rest = held_each shape log clients (λ d h. each d (there h)) in
    (first.0 ∷ rest.0, ap₂ put_before first.1 rest.1, ap suc rest.2)

module _ (shape : Shape) (log : List Entry) where
  next_waits : (c : ℕ) → In c (next_proposed shape log) → is_waiting shape log c ≡ true
  next_waits c h =
      let ring = in_turn shape.m shape.m (first_in_turn shape.m (last_proposed shape log)) in
      (from_filter (is_waiting shape log) c ring (in_taken 8 (filter (is_waiting shape log) ring) c h)).1

  -- the clients that are next may be picked, unless the list is empty
  pub next_are_clients : 0 < shape.m → 0 < length (next_proposed shape log) → IsClients (next_proposed shape log)
  next_are_clients some any =
      let first = first_in_turn shape.m (last_proposed shape log) in
      let ring = in_turn shape.m shape.m first in
      record {
        some = any;
        few = let count = length-take 8 (filter (is_waiting shape log) ring) in omega (arith, count);
        distinct = few_taken 8 (filter (is_waiting shape log) ring)
            (AllPairs-filter (λ a b. a ≢ b) (is_waiting shape log) ring
            (turns_apart shape.m shape.m first (first_below shape.m (last_proposed shape log) some) (omega arith)));
      }

  pub next_held : (asks : List SignedRequest) × (all_held shape log (next_proposed shape log) ≡ Some asks) × (length asks ≡ length (next_proposed shape log))
  next_held =
      held_each shape log (next_proposed shape log)
      (λ c h. waits_held (held shape c log) (reply (decided_requests shape log) c) (next_waits c h))

  -- ---- the envelope

  -- an envelope that lets an eager replica go on
  pub record GoesOn (me : Actor) : Type 0 where
    pub envelope : Envelope
    pub next : IsNext shape me log (Post (Replica 0) envelope)
    pub eager : ProposesNext shape me log envelope

  module _ (me : Actor) (is : due shape log ≡ PostTo 0) where
    -- what a choice gives if the post is due
    given : (pick : Pick) (envelope : Envelope) → chosen shape me log 0 pick ≡ Some envelope
        → (if is_due (due shape log) 0 then chosen shape me log 0 pick else None) ≡ Some envelope
    given pick envelope e = ap (λ d. if is_due d 0 then chosen shape me log 0 pick else None) is ∙ e

    not_own : ¬ (me ≡ sender_of shape (rounds shape log)) → GoesOn me
    not_own other = record {
      envelope = envelope_with shape me log Idle;
      next = (Plain, tt, given Plain (envelope_with shape me log Idle) refl);
      eager = λ own. absurd (other own);
    }

    in_own : 0 < shape.m → me ≡ sender_of shape (rounds shape log) → (asks : List SignedRequest)
        → all_held shape log (next_proposed shape log) ≡ Some asks → length asks ≡ length (next_proposed shape log) → GoesOn me
    in_own some own [] are count = record {
      envelope = envelope_with shape me log Idle;
      next = (Plain, tt, given Plain (envelope_with shape me log Idle) refl);
      eager = λ e. ([], are, refl);
    }
    in_own some own (s ∷ ss) are count = record {
      envelope = envelope_with shape me log (Act (s ∷ ss));
      next = (
        From (next_proposed shape log),
        next_are_clients some (omega (arith, count)),
        given (From (next_proposed shape log)) (envelope_with shape me log (Act (s ∷ ss)))
            (ap₂ (λ b o. option_map (envelope_with shape me log) (if b then option_map Act o else None))
            ((actor_eq-Decides me (sender_of shape (rounds shape log))).1 own) are),
      );
      eager = λ e. (s ∷ ss, are, refl);
    }

    pub goes_on : 0 < shape.m → GoesOn me
    goes_on some = elim (holds_or_not (actor_eq me (sender_of shape (rounds shape log))) (actor_eq-Decides me (sender_of shape (rounds shape log)))) [
      | inl own ↦ let h = next_held in in_own some own h.0 h.1 h.2
      | inr other ↦ not_own other
    ]

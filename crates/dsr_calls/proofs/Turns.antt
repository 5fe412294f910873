-- What the turns of a call do with the seat.
use Rattle.std.proofs.Common.{◌≡◌, ℕ, ◌<◌, ◌≤◌, ◌+◌, length, List, [], ◌∷◌, ◌++◌, Option, None, Some, append_assoc, inl, inr, refl, ap, sym, ◌∙◌, subst}
use Rattle.std.specs.Prelude.{IsSome, is_some, Result, Ok, Err, IfOk, OnErr}
use Rattle.std.specs.Option.{option_map}
use Rattle.std.proofs.lemmas.Bool.{false≢true}
use Rattle.std.proofs.lemmas.Option.{same_Some}
use Rattle.dsr_base.proofs.MemberLemmas.{In-one, In-append_cases}
use Rattle.dsr_names.specs.Shape.{Shape}
use Rattle.dsr_names.specs.declared.actor.Actor.TheVariants.{Replica, Client}
use Rattle.dsr_names.specs.declared.refusal.Refusal.{Refusal}
use Rattle.dsr_request.specs.declared.op.Op.{Op}
use Rattle.dsr_ledger.specs.declared.reply.Reply.{Reply as AReply}
use Rattle.dsr_chain.specs.declared.signed_request.SignedRequest.{SignedRequest}
use Rattle.dsr_envelope.specs.declared.envelope.Envelope.{Envelope}
use Rattle.dsr_envelope.specs.declared.envelope.Envelope.TheVariants.{Ask}
use Rattle.dsr_envelope.specs.declared.entry.Entry.{Entry}
use Rattle.dsr_envelope.specs.declared.entry.Entry.TheVariants.{Post, Take}
use Rattle.dsr_client.specs.Conduct.{IsClientLog}
use Rattle.dsr_client.specs.State.{outstanding, accepted}
use Rattle.dsr_node.specs.Conduct.{post_of, AcceptsBy}
use Rattle.dsr_boxes.specs.Pass.{SharedBoxes, Pass, IsPassOf, with_entry}
use Rattle.dsr_calls.specs.Calls.{GoesOn, number_of, awaited, IsAwaited, IsAnswered, IsTurn, IsByTurns, Awaits, AddsTurns}
use Rattle.dsr_calls.specs.Course.{IsCourse}
use Rattle.dsr_calls.specs.Visits.{pick_beside, HasAskTurn, HasTakeTurn, Keeps, Becomes}
use Rattle.dsr_calls.proofs.Awaiting.{given_is, still_awaited, awaited_first, awaited_posted, awaited_taken, answered_taken}

-- ---- seats that go on

pub goes_same : (seat : Pass) → GoesOn seat seat
goes_same seat = record { id = refl; shape = refl; actor = refl; log = ([], refl) }

pub goes_then : (new mid old : Pass) → GoesOn new mid → GoesOn mid old → GoesOn new old
goes_then new mid old later earlier = record {
  id = later.id ∙ earlier.id;
  shape = later.shape ∙ earlier.shape;
  actor = later.actor ∙ earlier.actor;
  log = (later.log.0 ++ earlier.log.0, later.log.1 ∙ (ap (λ l. later.log.0 ++ l) earlier.log.1 ∙ sym (append_assoc later.log.0 earlier.log.0 old.log)));
}

pub goes_with : (new old : Pass) (entry : Entry) → new ≡ with_entry old entry → GoesOn new old
goes_with new old entry made = record {
  id = ap (λ s. s.id) made;
  shape = ap (λ s. s.shape) made;
  actor = ap (λ s. s.actor) made;
  log = (entry ∷ [], ap (λ s. s.log) made);
}

pub goes_is : (new old : Pass) → new ≡ old → GoesOn new old
goes_is new old same = subst (λ s. GoesOn s old) (sym same) (goes_same old)

pub still_own : (boxes : SharedBoxes) (new old : Pass) → GoesOn new old → IsPassOf boxes old → IsPassOf boxes new
still_own boxes new old goes own = (goes.id ∙ own.0, goes.shape ∙ own.1)

-- ---- what is awaited

pub some_of : {A : Type 0} (o : Option A) → IsSome o → (x : A) × (o ≡ Some x)
some_of None is = absurd (false≢true is)
some_of (Some x) is = (x, refl)

-- a call that led to a seat waits for the same there
pub still_due : (first seat : Pass) (op : Option Op) → GoesOn seat first → Awaits first op seat
    → IsSome (awaited first.shape (number_of first.actor) first.log op) → IsSome (awaited seat.shape (number_of seat.actor) seat.log op)
still_due first seat op goes waits due =
    let ask = some_of (awaited first.shape (number_of first.actor) first.log op) due in
    let same = still_awaited first.shape (number_of first.actor) first.log seat.log op ask.0 ask.1 (waits ask.0 ask.1) in
    subst (λ s. IsSome (awaited s (number_of seat.actor) seat.log op)) (sym goes.shape)
    (subst (λ a. IsSome (awaited first.shape (number_of a) seat.log op)) (sym goes.actor) (ap (λ o. is_some o) same))

-- ---- at first

pub waits_first : (seat : Pass) (me : ℕ) (op : Option Op) → seat.actor ≡ Client me → IsClientLog seat.shape me seat.log → Awaits seat op seat
waits_first seat me op is loyal ask e =
    awaited_first seat.shape me seat.log op ask loyal (subst (λ a. awaited seat.shape (number_of a) seat.log op ≡ Some ask) is e)

-- ---- turns

pub keeps_same : (op : Option Op) (seat new : Pass) → new ≡ seat → Keeps op seat new
keeps_same op seat new same first goes waits = subst (Awaits first op) (sym same) waits

-- the ask that is posted to a replica is what is awaited
posted_is : (shape : Shape) (me : ℕ) (log : List Entry) (q : ℕ) (op : Option Op) (x : Envelope) (ask : SignedRequest)
    → post_of shape log (Client me) (Replica q) (pick_beside (outstanding shape log) op) ≡ Some x → awaited shape me log op ≡ Some ask → x ≡ Ask ask
posted_is shape me log q op x ask given e =
    same_Some x (Ask ask) (sym given ∙ ap (option_map Ask) (given_is (outstanding shape log) me _ op ∙ e))

pub keeps_posted : (op : Option Op) (seat new : Pass) (me q : ℕ) (x : Envelope) → seat.actor ≡ Client me
    → post_of seat.shape seat.log seat.actor (Replica q) (pick_beside (outstanding seat.shape seat.log) op) ≡ Some x
    → new ≡ with_entry seat (Post (Replica q) x) → Keeps op seat new
keeps_posted op seat new me q x is given made first goes waits ask e =
    let own : first.actor ≡ Client me = sym goes.actor ∙ is in
    let due = subst (λ a. awaited first.shape (number_of a) first.log op ≡ Some ask) own e in
    let before = waits ask e in
    let now = still_awaited first.shape me first.log seat.log op ask due before in
    let post = subst (λ a. post_of first.shape seat.log a (Replica q) (pick_beside (outstanding first.shape seat.log) op) ≡ Some x) is
    (subst (λ s. post_of s seat.log seat.actor (Replica q) (pick_beside (outstanding s seat.log) op) ≡ Some x) goes.shape given) in
    let asks = posted_is first.shape me seat.log q op x ask post now in
    subst (λ s. IsAwaited first.shape ask first.log s.log) (sym made)
    (subst (λ y. IsAwaited first.shape ask first.log (Post (Replica q) y ∷ seat.log)) (sym asks)
    (awaited_posted first.shape ask first.log seat.log q before))

pub becomes_taken : (op : Option Op) (seat new : Pass) (p : ℕ) (x : Envelope) (reply : Option AReply)
    → new ≡ with_entry seat (Take (Replica p) x) → AcceptsBy reply (accepted new.shape new.log) (accepted seat.shape seat.log)
    → Becomes op seat new reply
becomes_taken op seat new p x None made by = λ first goes waits ask e.
    subst (λ s. IsAwaited first.shape ask first.log s.log) (sym made)
    (awaited_taken first.shape ask first.log seat.log p x
    (subst (λ s. accepted s (Take (Replica p) x ∷ seat.log) ≡ accepted s seat.log) goes.shape
    (subst (λ s. accepted s.shape s.log ≡ accepted seat.shape seat.log) made by)) (waits ask e))
becomes_taken op seat new p x (Some reply) made by = λ first goes waits ask e.
    subst (λ s. IsAnswered first.shape ask first.log s.log reply) (sym made)
    (answered_taken first.shape ask first.log seat.log p x reply
    (subst (λ s. accepted s (Take (Replica p) x ∷ seat.log) ≡ reply ∷ accepted s seat.log) goes.shape
    (subst (λ s. accepted s.shape s.log ≡ reply ∷ accepted seat.shape seat.log) made by)) (waits ask e))

pub goes_asked : (op : Option Op) (q : ℕ) (seat new : Pass) → HasAskTurn op q seat new → GoesOn new seat
goes_asked op q seat new turn = elim turn [
  | inl same ↦ goes_is new seat same
  | inr posted ↦ goes_with new seat (Post (Replica q) posted.0) posted.2
]

pub goes_taken : (p : ℕ) (seat new : Pass) (reply : Option AReply) → HasTakeTurn p seat new reply → GoesOn new seat
goes_taken p seat new reply turn = elim turn [
  | inl same ↦ goes_is new seat same.0
  | inr taken ↦ goes_with new seat (Take (Replica p) taken.0) taken.1
]

pub keeps_asked : (op : Option Op) (me q : ℕ) (seat new : Pass) → seat.actor ≡ Client me → HasAskTurn op q seat new → Keeps op seat new
keeps_asked op me q seat new is turn = elim turn [
  | inl same ↦ keeps_same op seat new same
  | inr posted ↦ keeps_posted op seat new me q posted.0 is posted.1 posted.2
]

pub becomes_by_turn : (op : Option Op) (p : ℕ) (seat new : Pass) (reply : Option AReply) → HasTakeTurn p seat new reply → Becomes op seat new reply
becomes_by_turn op p seat new reply turn = elim turn [
  | inl same ↦ subst (Becomes op seat new) (sym same.1) (keeps_same op seat new same.0)
  | inr taken ↦ becomes_taken op seat new p taken.0 reply taken.1 taken.2
]

-- one after the other
pub becomes_then : (op : Option Op) (seat mid new : Pass) (reply : Option AReply) → GoesOn mid seat → Keeps op seat mid → Becomes op mid new reply
    → Becomes op seat new reply
becomes_then op seat mid new None on keeps later = λ first goes waits. later first (goes_then mid seat first on goes) (keeps first goes waits)
becomes_then op seat mid new (Some reply) on keeps later = λ first goes waits. later first (goes_then mid seat first on goes) (keeps first goes waits)

pub keeps_then_same : (op : Option Op) (seat mid new : Pass) → Keeps op seat mid → new ≡ mid → Keeps op seat new
keeps_then_same op seat mid new keeps same = subst (Keeps op seat) (sym same) keeps

-- what a visit is that ends in a take
pub visit_ok : (op : Option Op) (q : ℕ) (seat mid new : Pass) → (result : Result (Option AReply) Refusal) → GoesOn mid seat → Keeps op seat mid
    → IfOk result (HasTakeTurn q mid new) → IfOk result (Becomes op seat new)
visit_ok op q seat mid new (Ok reply) on keeps turn = becomes_then op seat mid new reply on keeps (becomes_by_turn op q mid new reply turn)
visit_ok op q seat mid new (Err refusal) on keeps turn = tt

pub visit_err : (op : Option Op) (seat mid new : Pass) (result : Result (Option AReply) Refusal) → Keeps op seat mid → OnErr result (new ≡ mid)
    → OnErr result (Keeps op seat new)
visit_err op seat mid new (Ok reply) keeps same = tt
visit_err op seat mid new (Err refusal) keeps same = keeps_then_same op seat mid new keeps same

pub visit_goes : (q : ℕ) (seat mid new : Pass) (result : Result (Option AReply) Refusal) → GoesOn mid seat → IfOk result (HasTakeTurn q mid new)
    → OnErr result (new ≡ mid) → GoesOn new seat
visit_goes q seat mid new (Ok reply) on turn same = goes_then new mid seat (goes_taken q mid new reply turn) on
visit_goes q seat mid new (Err refusal) on turn same = goes_then new mid seat (goes_is new mid same) on

-- ---- what is added

by_none : (ask : SignedRequest) (log : List Entry) → IsByTurns ask log log
by_none ask log = record { newer = []; is = refl; each = λ entry inside. elim inside [ ] }

by_one : (ask : SignedRequest) (log : List Entry) (entry : Entry) → IsTurn ask entry → IsByTurns ask log (entry ∷ log)
by_one ask log entry turn = record {
  newer = entry ∷ [];
  is = refl;
  each = λ other inside. subst (IsTurn ask) (In-one other entry inside) turn;
}

by_both : (ask : SignedRequest) (older mid log : List Entry) → IsByTurns ask older mid → IsByTurns ask mid log → IsByTurns ask older log
by_both ask older mid log first second = record {
  newer = second.newer ++ first.newer;
  is = second.is ∙ (ap (λ l. second.newer ++ l) first.is ∙ sym (append_assoc second.newer first.newer older));
  each = λ entry inside. elim (In-append_cases entry second.newer first.newer inside) [
    | inl late ↦ second.each entry late
    | inr early ↦ first.each entry early
  ];
}

pub adds_none : (op : Option Op) (seat new : Pass) → new ≡ seat → AddsTurns seat op new
adds_none op seat new same ask e = subst (λ s. IsByTurns ask seat.log s.log) (sym same) (by_none ask seat.log)

pub adds_asked : (op : Option Op) (me q : ℕ) (seat new : Pass) → seat.actor ≡ Client me → HasAskTurn op q seat new → AddsTurns seat op new
adds_asked op me q seat new is turn ask e = elim turn [
  | inl same ↦ adds_none op seat new same ask e
  | inr posted ↦
      let given = subst (λ a. post_of seat.shape seat.log a (Replica q) (pick_beside (outstanding seat.shape seat.log) op) ≡ Some posted.0) is posted.1 in
      let due = subst (λ a. awaited seat.shape (number_of a) seat.log op ≡ Some ask) is e in
      subst (λ s. IsByTurns ask seat.log s.log) (sym posted.2)
      (by_one ask seat.log (Post (Replica q) posted.0) (posted_is seat.shape me seat.log q op posted.0 ask given due))
]

adds_taken : (op : Option Op) (p : ℕ) (seat new : Pass) (reply : Option AReply) → HasTakeTurn p seat new reply → AddsTurns seat op new
adds_taken op p seat new reply turn ask e = elim turn [
  | inl same ↦ adds_none op seat new same.0 ask e
  | inr taken ↦ subst (λ s. IsByTurns ask seat.log s.log) (sym taken.1) (by_one ask seat.log (Take (Replica p) taken.0) tt)
]

-- one call's turns after another's
pub adds_then : (op : Option Op) (first seat new : Pass) → GoesOn seat first → Awaits first op seat → AddsTurns first op seat → AddsTurns seat op new
    → AddsTurns first op new
adds_then op first seat new goes waits early late ask e =
    let same = still_awaited first.shape (number_of first.actor) first.log seat.log op ask e (waits ask e) in
    let now = subst (λ s. awaited s (number_of seat.actor) seat.log op ≡ Some ask) (sym goes.shape)
    (subst (λ a. awaited first.shape (number_of a) seat.log op ≡ Some ask) (sym goes.actor) same) in
    by_both ask first.log seat.log new.log (early ask e) (late ask now)

pub visit_adds : (op : Option Op) (q : ℕ) (seat mid new : Pass) (result : Result (Option AReply) Refusal) → GoesOn mid seat → Awaits seat op mid
    → AddsTurns seat op mid → IfOk result (HasTakeTurn q mid new) → OnErr result (new ≡ mid) → AddsTurns seat op new
visit_adds op q seat mid new (Ok reply) on waits early turn same = adds_then op seat mid new on waits early (adds_taken op q mid new reply turn)
visit_adds op q seat mid new (Err refusal) on waits early turn same = adds_then op seat mid new on waits early (adds_none op mid new same)

-- ---- the end of a call

-- nothing more is accepted if what was awaited is still awaited
pub accepted_same : (first new : Pass) (op : Option Op) → GoesOn new first → IsSome (awaited first.shape (number_of first.actor) first.log op)
    → Awaits first op new → accepted new.shape new.log ≡ accepted first.shape first.log
accepted_same first new op goes due waits =
    let ask = some_of (awaited first.shape (number_of first.actor) first.log op) due in
    ap (λ s. accepted s new.log) goes.shape ∙ elim (waits ask.0 ask.1) [
      | inl un ↦ un.same
      | inr begun ↦ begun.same
    ]

-- ---- the loop of a call

-- the seat is on the way: what the call waits for is not answered, and the next replica is one of the shape
pub record IsOnTheWay (boxes : SharedBoxes) (first seat : Pass) (op : Option Op) (number n left turns : ℕ) : Type 0 where
  pub goes : GoesOn seat first
  pub waits : Awaits first op seat
  pub added : AddsTurns first op seat
  pub short : length seat.log + left ≤ length first.log + turns
  pub own : IsPassOf boxes seat
  pub all : n ≡ seat.shape.n
  pub few : n ≤ 16
  pub inside : number < n
  pub course : (visits : ℕ) × IsCourse op first.shape.n visits first turns number seat left

-- When a loyal replica has an envelope for a choice, and when none.
use Rattle.std.proofs.Common.{◌≡◌, ℕ, zero, suc, ◌+◌, ◌<◌, Bool, true, false, nat_lt, List, [], ◌∷◌, length, Option, None, Some, if◌then◌else◌, refl, ap, sym, ◌∙◌, subst, arith}
use Rattle.std.specs.Prelude.{IsSome, IfNone, slice_get}
use Rattle.std.specs.Option.{is_some, option_map}
use borrow.Author.Count.{below_more}
use Rattle.std.proofs.lemmas.Bool.{true≢false, false≢true}
use Rattle.std.proofs.lemmas.Bool.Decides.{Decides-eqb, nat_tests}
use Rattle.std.proofs.lemmas.Option.{none-some, same_Some}
use Rattle.dsr_names.specs.Shape.{Shape, sender}
use Rattle.dsr_names.specs.declared.actor.Actor.{Actor}
use Rattle.dsr_names.specs.declared.actor.Actor.TheVariants.{Replica as ReplicaNumber}
use Rattle.dsr_names.specs.Support.ActorEquality.{actor_eq}
use Rattle.dsr_request.specs.declared.op.Op.{Op}
use Rattle.dsr_chain.specs.Proper.{sender_of}
use Rattle.dsr_chain.specs.declared.signed_request.SignedRequest.{SignedRequest}
use Rattle.dsr_chain.specs.declared.slot_value.SlotValue.TheVariants.{Act}
use Rattle.dsr_envelope.specs.declared.entry.Entry.{Entry}
use Rattle.dsr_envelope.specs.declared.due.Due.{Due}
use Rattle.dsr_envelope.specs.declared.due.Due.TheVariants.{Post as PostTo, Take as TakeFrom}
use Rattle.dsr_envelope.specs.declared.pick.Pick.{Pick}
use Rattle.dsr_envelope.specs.declared.pick.Pick.TheVariants.{Plain, From, Begin}
use Rattle.dsr_envelope.specs.Log.{posted_to, due, rounds}
use Rattle.dsr_replica.specs.Counts.{posts_at}
use Rattle.dsr_replica.specs.Conduct.{from_held, envelope_with, chosen, is_due, envelope_to}
use Rattle.dsr_replica.specs.Held.{held, put_before, all_held}
use Rattle.dsr_replica.specs.Replica.{Replica, IsLaterPost, StandsFor}
use Rattle.dsr_facts.specs.Undue.{IsFirstUnheld, IsUndueRound}
use Rattle.dsr_facts.specs.declared.undue.Undue.{Undue}
use Rattle.dsr_facts.specs.declared.undue.Undue.TheVariants.{First, ChosenBefore, OtherSender, NothingHeld, BeginsNothing}

-- ---- asks

put_none : {A : Type 0} (o : Option A) → put_before o None ≡ None
put_none None = refl
put_none (Some x) = refl

put_some : {A : Type 0} (o : Option A) (os : Option (List A)) → IsSome o → IsSome os → IsSome (put_before o os)
put_some None os one more = absurd (false≢true one)
put_some (Some x) None one more = absurd (false≢true more)
put_some (Some x) (Some xs) one more = refl

-- the replica holds the asks of all clients if it holds one for each place
pub each_place_held : (shape : Shape) (log : List Entry) (clients : List ℕ)
    → ((i c : ℕ) → slice_get clients i ≡ Some c → IsSome (held shape c log)) → IsSome (all_held shape log clients)
each_place_held shape log [] each = refl
each_place_held shape log (client ∷ more) each =
    put_some (held shape client log) (all_held shape log more) (each 0 client refl) (each_place_held shape log more (λ i. each (suc i)))

-- and not those of all if it holds none of one client
pub unheld_none : (shape : Shape) (log : List Entry) (clients : List ℕ) (place client : ℕ) → slice_get clients place ≡ Some client
    → held shape client log ≡ None → all_held shape log clients ≡ None
unheld_none shape log [] place client at none = absurd (none-some client at)
unheld_none shape log (first ∷ more) zero client at none =
    ap (λ o. put_before o (all_held shape log more)) (ap (λ c. held shape c log) (same_Some first client at) ∙ none)
unheld_none shape log (first ∷ more) (suc place) client at none =
    ap (put_before (held shape first log)) (unheld_none shape log more place client at none) ∙ put_none (held shape first log)

-- each client before the next place has its ask held, if the one at this place has
pub next_held : (shape : Shape) (log : List Entry) (clients : List ℕ) (k client : ℕ) → slice_get clients k ≡ Some client → IsSome (held shape client log)
    → ((i c : ℕ) → i < k → slice_get clients i ≡ Some c → IsSome (held shape c log))
    → (i c : ℕ) → i < k + 1 → slice_get clients i ≡ Some c → IsSome (held shape c log)
next_held shape log clients k client here some each i c below =
    below_more (λ j. slice_get clients j ≡ Some c → IsSome (held shape c log)) k (λ j less. each j c less)
    (λ e. subst (λ d. IsSome (held shape d log)) (same_Some client c (sym here ∙ e)) some) i below

-- an option is some exactly if the mapped one is
pub mapped_some : {A B : Type 0} (f : A → B) (o : Option A) (r : Option B) (b : Bool) → r ≡ option_map f o → is_some r ≡ b → is_some o ≡ b
mapped_some f None r b e is = sym (ap is_some e) ∙ is
mapped_some f (Some x) r b e is = sym (ap is_some e) ∙ is

pub not_some : {A : Type 0} (o : Option A) → is_some o ≡ false → o ≡ None
not_some None e = refl
not_some (Some x) e = absurd (true≢false e)

-- if the mapped value is `None`, so is the value
pub none_mapped : {A B : Type 0} (f : A → B) (o : Option A) → option_map f o ≡ None → o ≡ None
none_mapped f None e = refl
none_mapped f (Some x) e = absurd (none-some (f x) (sym e))

some_mapped : {A B : Type 0} (f : A → B) (o : Option A) → IsSome o → IsSome (option_map f o)
some_mapped f None some = some
some_mapped f (Some x) some = refl

-- ---- what is due

-- if the post is due, its envelope is what is chosen
pub due_here : (shape : Shape) (me : Actor) (log : List Entry) (q : ℕ) (pick : Pick) → due shape log ≡ PostTo q
    → envelope_to shape me log q pick ≡ chosen shape me log q pick
due_here shape me log q pick e =
    ap (λ b. if b then chosen shape me log q pick else None) (ap (λ d. is_due d q) e ∙ (Decides-eqb q q).1 refl)

-- if the post is not due, it has no envelope
pub not_due_here : (shape : Shape) (me : Actor) (log : List Entry) (q : ℕ) (pick : Pick) (next : Due) → due shape log ≡ next → is_due next q ≡ false
    → envelope_to shape me log q pick ≡ None
not_due_here shape me log q pick next e undue =
    ap (λ b. if b then chosen shape me log q pick else None) (ap (λ d. is_due d q) e ∙ undue)

pub is_due_post : (d : Due) (q : ℕ) → is_due d q ≡ true → d ≡ PostTo q
is_due_post (PostTo k) q e = ap PostTo ((Decides-eqb k q).0 e)
is_due_post (TakeFrom p) q e = absurd (false≢true e)

-- if the post is due, as many envelopes were posted there as rounds are closed
posts_before : (t q : ℕ) → posts_at (PostTo q) t q ≡ t
posts_before t q = let no : nat_lt q q ≡ false = grind (arith, nat_tests) in ap (λ b. if b then suc t else t) no

pub posts_are_rounds : (r : Replica) (log : List Entry) (q posts : ℕ) → StandsFor r log → q < r.shape.n → r.next ≡ PostTo q
    → posts ≡ length (posted_to (ReplicaNumber q) log) → r.round ≡ posts
posts_are_rounds r log q posts stands inside next same =
    sym (same ∙ (stands.counts.posts q inside ∙ (ap (λ d. posts_at d r.round q) (sym stands.due_is ∙ next) ∙ posts_before r.round q)))

-- the plain choice has an envelope if the post is due
plain_chosen : (r : Replica) (log : List Entry) (q : ℕ) → StandsFor r log → r.next ≡ PostTo q → rounds r.shape log ≡ r.round
    → IsSome (chosen r.shape r.me log q Plain)
plain_chosen r log zero stands next round = refl
plain_chosen r log (suc q) stands next round =
    let later : IsLaterPost r.next = subst IsLaterPost (sym next) (omega arith) in
    subst IsSome (sym (ap (slice_get (posted_to (ReplicaNumber 0) log)) round ∙ stands.posted later)) refl

pub plain_there : (r : Replica) (log : List Entry) (q : ℕ) → StandsFor r log → r.next ≡ PostTo q → rounds r.shape log ≡ r.round
    → IsSome (envelope_to r.shape r.me log q Plain)
plain_there r log q stands next round =
    subst IsSome (sym (due_here r.shape r.me log q Plain (sym stands.due_is ∙ next))) (plain_chosen r log q stands next round)

-- a replica that is not the sender proposes nothing
from_other : (shape : Shape) (me : Actor) (round : ℕ) (asks : Option (List SignedRequest)) → actor_eq me (sender_of shape round) ≡ false
    → from_held shape me round asks ≡ None
from_other shape me round asks other = ap (λ b. if b then option_map Act asks else None) other

from_sender : (shape : Shape) (me : Actor) (round : ℕ) (asks : Option (List SignedRequest)) → actor_eq me (sender_of shape round) ≡ true
    → IsSome asks → IsSome (from_held shape me round asks)
from_sender shape me round asks own some =
    subst IsSome (sym (ap (λ b. if b then option_map Act asks else None) own)) (some_mapped Act asks some)

from_none : (shape : Shape) (me : Actor) (round : ℕ) → from_held shape me round None ≡ None
from_none shape me round = by_sender (actor_eq me (sender_of shape round))
  where
    by_sender : (b : Bool) → (if b then option_map Act None else None) ≡ None
    by_sender true = refl
    by_sender false = refl

-- the sender has an envelope if it holds all asks
pub own_there : (shape : Shape) (me : Actor) (log : List Entry) (clients : List ℕ) → due shape log ≡ PostTo 0
    → actor_eq me (sender_of shape (rounds shape log)) ≡ true → IsSome (all_held shape log clients)
    → IsSome (envelope_to shape me log 0 (From clients))
own_there shape me log clients here own some =
    subst IsSome (sym (due_here shape me log 0 (From clients) here))
    (some_mapped (envelope_with shape me log) (from_held shape me (rounds shape log) (all_held shape log clients))
    (from_sender shape me (rounds shape log) (all_held shape log clients) own some))

-- a choice by another replica than the sender, by the sender that does not hold all asks, and by the sender that does
module _ (shape : Shape) (me : Actor) (log : List Entry) (q : ℕ) (clients : List ℕ) (round other : ℕ) (here : due shape log ≡ PostTo q) (first : q ≡ 0)
    (same : rounds shape log ≡ round) (is : other ≡ sender shape round) where
  pub by_another : actor_eq me (ReplicaNumber other) ≡ false → IsUndueRound shape me log q (From clients) (OtherSender round other)
  by_another apart = (here, first, sym same, is, apart)

  own_slot : actor_eq me (ReplicaNumber other) ≡ true → actor_eq me (sender_of shape (rounds shape log)) ≡ true
  own_slot own = subst (λ k. actor_eq me (ReplicaNumber k) ≡ true) (is ∙ ap (sender shape) (sym same)) own

  pub unheld_by : (client : ℕ) → actor_eq me (ReplicaNumber other) ≡ true → IsFirstUnheld shape log clients client
      → IsUndueRound shape me log q (From clients) (NothingHeld client)
  unheld_by client own unheld = (here, first, own_slot own, unheld)

  pub held_by : actor_eq me (ReplicaNumber other) ≡ true → IsSome (all_held shape log clients) → IsSome (envelope_to shape me log q (From clients))
  held_by own some =
      subst (λ k. IsSome (envelope_to shape me log k (From clients))) (sym first)
      (own_there shape me log clients (here ∙ ap PostTo first) (own_slot own) some)

-- ---- a cause refuses

chosen_later : (shape : Shape) (me : Actor) (log : List Entry) (q : ℕ) (clients : List ℕ) → 0 < q → chosen shape me log q (From clients) ≡ None
chosen_later shape me log zero clients later = absurd (omega (arith, later))
chosen_later shape me log (suc q) clients later = refl

chosen_begun : (shape : Shape) (me : Actor) (log : List Entry) (q : ℕ) (op : Op) → chosen shape me log q (Begin op) ≡ None
chosen_begun shape me log zero op = refl
chosen_begun shape me log (suc q) op = refl

-- a choice for which there is a cause has no envelope
pub undue_refuses : (shape : Shape) (me : Actor) (log : List Entry) (q : ℕ) (pick : Pick) (why : Undue) → IsUndueRound shape me log q pick why
    → envelope_to shape me log q pick ≡ None
undue_refuses shape me log q pick (First next) is = not_due_here shape me log q pick next is.0 is.1
undue_refuses shape me log q (Begin op) BeginsNothing is = due_here shape me log q (Begin op) is ∙ chosen_begun shape me log q op
undue_refuses shape me log q (From clients) ChosenBefore is = due_here shape me log q (From clients) is.0 ∙ chosen_later shape me log q clients is.1
undue_refuses shape me log q (From clients) (NothingHeld client) is =
    due_here shape me log q (From clients) is.0
    ∙ subst (λ k. chosen shape me log k (From clients) ≡ None) (sym is.1)
    (ap (option_map (envelope_with shape me log))
    (ap (from_held shape me (rounds shape log)) (unheld_none shape log clients is.3.place client is.3.at is.3.none) ∙ from_none shape me (rounds shape log)))
undue_refuses shape me log q (From clients) (OtherSender slot other) is =
    let apart = subst (λ k. actor_eq me (ReplicaNumber k) ≡ false) (is.3 ∙ ap (sender shape) is.2) is.4 in
    due_here shape me log q (From clients) is.0
    ∙ subst (λ k. chosen shape me log k (From clients) ≡ None) (sym is.1)
    (ap (option_map (envelope_with shape me log)) (from_other shape me (rounds shape log) (all_held shape log clients) apart))
undue_refuses shape me log q pick why is = elim is [ ]

-- ---- options

pub where_none : {X : Type 0} → (o : Option X) (A : Type 0) → o ≡ None → IfNone o A → A
where_none None A e h = h
where_none (Some x) A e h = absurd (none-some x (sym e))

-- What an actor has just posted to a replica it posts to another: a replica its envelope of the round in progress, and a client its ask.
use Rattle.std.proofs.Common.{◌≡◌, ◌==◌, ℕ, zero, suc, ◌-◌, ◌<◌, ◌++◌, List, [], ◌∷◌, length, reverse, Bor, Option, None, Some, if◌then◌else◌, refl, ap, sym, ◌∙◌, arith}
use Rattle.std.specs.Option.{IfSome, is_none, option_copied, option_map}
use Rattle.std.specs.Prelude.{slice_get}
use Rattle.std.proofs.lemmas.Bool.{ne_eqb}
use Rattle.std.proofs.lemmas.Bool.Decides.{nat_tests}
use Rattle.std.proofs.lemmas.List.{length_push, reverse-append}
use Rattle.std.proofs.lemmas.Option.{none-some, same_Some}
use Rattle.dsr_names.specs.Shape.{Shape, IsAllowed}
use Rattle.dsr_names.specs.declared.actor.Actor.{Actor}
use Rattle.dsr_names.specs.declared.actor.Actor.TheVariants.{Replica, Client}
use Rattle.dsr_names.specs.declared.refusal.Refusal.TheVariants.{NotDue, Exhausted}
use Rattle.dsr_chain.specs.declared.signed_request.SignedRequest.{SignedRequest}
use Rattle.dsr_envelope.specs.declared.due.Due.TheVariants.{Post as PostTo, Take as TakeFrom}
use Rattle.dsr_envelope.specs.declared.entry.Entry.{Entry}
use Rattle.dsr_envelope.specs.declared.entry.Entry.TheVariants.{Post}
use Rattle.dsr_envelope.specs.declared.envelope.Envelope.{Envelope}
use Rattle.dsr_envelope.specs.declared.envelope.Envelope.TheVariants.{Ask}
use Rattle.dsr_envelope.specs.declared.pick.Pick.{Pick}
use Rattle.dsr_envelope.specs.declared.pick.Pick.TheVariants.{Plain, Begin}
use Rattle.dsr_envelope.specs.Log.{posted_to, rounds}
use Rattle.dsr_replica.specs.Conduct.{envelope_to, IsLoyalLog}
use Rattle.dsr_replica.specs.Counts.{posts_at}
use Rattle.dsr_replica.proofs.Lemmas.{chosen_then, counts, post_due}
use Rattle.dsr_client.specs.Conduct.{chosen_beside, next_number}
use Rattle.dsr_client.specs.State.{outstanding}
use Rattle.dsr_node.specs.Conduct.{post_of, is_exhausted}
use Rattle.dsr_node.specs.Node.{post_refusal}
use Rattle.dsr_mail.specs.Seats.{KeepsLog}

-- ---- the newest entry

last_of : {X : Type 0} (older : List X) (x : X) → slice_get (older ++ x ∷ []) (length older) ≡ Some x
last_of [] x = refl
last_of (y ∷ older) x = last_of older x

-- if the entries of a log are listed oldest first, and the last is a post to a replica, that is the newest entry of the log
pub newest_post : (log lent : List Entry) (found : Option (Bor Entry)) (last : Bor Entry) (to : Actor) (q : ℕ) (x y : Envelope) → lent ≡ reverse log
    → option_copied found ≡ slice_get lent (length lent - 1) → found ≡ Some last → last.now ≡ Post to y → to ≡ Replica q → x ≡ y
    → (older : List Entry) × (log ≡ Post (Replica q) x ∷ older)
newest_post [] lent found last to q x y turned at is post replica envelope = absurd cc
newest_post (entry ∷ older) lent found last to q x y turned at is post replica envelope =
    let order = reverse-append (entry ∷ []) older in
    let place : length (reverse older ++ entry ∷ []) - 1 ≡ length (reverse older) = omega (arith, length_push (reverse older) entry) in
    let end = last_of (reverse older) entry in
    let same : entry ≡ Post (Replica q) x = cc in
    (older, ap (λ first. first ∷ older) same)

-- ---- a post repeats the one before

-- a replica
module _ (shape : Shape) (some : 0 < shape.n) (me : Actor) (older : List Entry) (loyal : IsLoyalLog shape me older) (x : Envelope) where
  -- in the round in progress it has posted this to replica 0
  first_is : (q : ℕ) (pick : Pick) → envelope_to shape me older q pick ≡ Some x
      → slice_get (posted_to (Replica 0) (Post (Replica q) x ∷ older)) (rounds shape older) ≡ Some x
  first_is zero pick given =
      let counted : length (posted_to (Replica 0) older) ≡ rounds shape older =
      (counts shape me some older loyal).posts 0 some ∙ ap (λ d. posts_at d (rounds shape older) 0) (post_due shape me older 0 pick x given) in
      rw (← counted) (last_of (posted_to (Replica 0) older) x)
  first_is (suc q) Plain given = rw (ne_eqb (suc q) 0 (omega arith)) (chosen_then shape me older (suc q) Plain x given)
  first_is (suc q) pick given = absurd (none-some x (chosen_then shape me older (suc q) pick x given))

  not_first : (q n : ℕ) → (if suc q == n then TakeFrom 0 else PostTo (suc q)) ≡ PostTo 0 → ⊥
  not_first q n e = grind (arith, nat_tests)

  -- the next post to a replica is to another than replica 0
  reposted : (q r : ℕ) (before pick : Pick) (y : Envelope) → envelope_to shape me older q before ≡ Some x
      → envelope_to shape me (Post (Replica q) x ∷ older) r pick ≡ Some y → y ≡ x
  reposted q zero before pick y given now = absurd (not_first q shape.n (post_due shape me (Post (Replica q) x ∷ older) 0 pick y now))
  reposted q (suc r) before Plain y given now =
      let first = first_is q before given in
      let again = chosen_then shape me (Post (Replica q) x ∷ older) (suc r) Plain y now in
      cc
  reposted q (suc r) before pick y given now = absurd (none-some y (chosen_then shape me (Post (Replica q) x ∷ older) (suc r) pick y now))

-- a client: once it has asked, whatever the choice was, its ask is outstanding
is_current : (shape : Shape) (c : ℕ) (older : List Entry) (q : ℕ) (x : Envelope) (o : Option SignedRequest) (choice : Pick) → outstanding shape older ≡ o
    → option_map Ask (chosen_beside o c (next_number shape older) choice) ≡ Some x → option_map Ask (outstanding shape (Post (Replica q) x ∷ older)) ≡ Some x
is_current shape c older q x (Some ask) Plain is given = let same = same_Some (Ask ask) x given in cc
is_current shape c older q x None (Begin op) is given = cc
is_current shape c older q x o choice is given = absurd (none-some x given)

-- and the only one that it can post
one_ask : (c number : ℕ) (o : Option SignedRequest) (pick : Pick) (x y : Envelope) → option_map Ask o ≡ Some x
    → option_map Ask (chosen_beside o c number pick) ≡ Some y → y ≡ x
one_ask c number (Some ask) Plain x y is now = cc
one_ask c number (Some ask) pick x y is now = absurd (none-some y now)
one_ask c number None pick x y is now = absurd (none-some x is)

-- a loyal actor that has just posted an envelope to a replica posts it again to the next
posted_again : (shape : Shape) → IsAllowed shape → (me : Actor) (older : List Entry) (q r : ℕ) (x y : Envelope) (pick : Pick)
    → KeepsLog shape me (Post (Replica q) x ∷ older) → post_of shape (Post (Replica q) x ∷ older) me (Replica r) pick ≡ Some y → y ≡ x
posted_again shape allowed (Replica p) older q r x y pick (before, (choice, good, posted)) now =
    reposted shape allowed.some_replica (Replica p) older before x q r choice pick y posted now
posted_again shape allowed (Client c) older q r x y pick (before, (inside, (choice, posted))) now =
    let log = Post (Replica q) x ∷ older in
    one_ask c (next_number shape log) (outstanding shape log) pick x y (is_current shape c older q x (outstanding shape older) choice refl posted) now

-- what the newest entry posted, if that is a post to a replica
pub posted_last : (shape : Shape) → IsAllowed shape → (me : Actor) (log : List Entry) (to : Actor) (r : ℕ) (pick : Pick) (last : Option (Bor Envelope))
    → KeepsLog shape me log → to ≡ Replica r → post_refusal shape log me to pick ≡ None
    → IfSome last (λ x. (q : ℕ) × (older : List Entry) × (log ≡ Post (Replica q) x.now ∷ older))
    → IfSome last (λ x. post_of shape log me to pick ≡ Some x.now)
posted_last shape allowed me log to r pick None keeps is none entry = tt
posted_last shape allowed me log to r pick (Some x) keeps is none (q, older, log_is) = by_post (post_of shape log me to pick) refl none
  where
    by_post : (o : Option Envelope) → post_of shape log me to pick ≡ o
        → (if is_none o then Some NotDue else if is_exhausted shape log me to pick then Some Exhausted else None) ≡ None
        → post_of shape log me to pick ≡ Some x.now
    by_post None e refused = absurd (none-some NotDue (sym refused))
    by_post (Some y) e refused = e ∙ ap Some (posted_again shape allowed me older q r x.now y pick (rw log_is at keeps) (rw (log_is, is) at e))

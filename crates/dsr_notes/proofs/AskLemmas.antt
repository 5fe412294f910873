-- What a replica takes from a client is the client's own ask, with a number that is not below that of the ask which it holds; so it then holds this one.
use Rattle.std.proofs.Common.{◌≡◌, ◌≢◌, ℕ, ◌<◌, ◌≤◌, ◌&&◌, not, nat_lt, true, List, [], ◌∷◌, ◌++◌, Option, None, Some, length, if◌then◌else◌, inl, inr, refl, ap, ap₂, sym, ◌∙◌, subst, arith}
use Rattle.std.specs.Prelude.{slice_get}
use Rattle.std.proofs.lemmas.Bool.Decides.{Decides-eqb, nat_tests}
use Rattle.std.proofs.lemmas.Option.{none-some, same_Some, slice_get_within}
use Rattle.dsr_base.specs.Member.{In, here, there}
use Rattle.dsr_base.proofs.MemberLemmas.{In-append_left, In-append_right}
use Rattle.dsr_names.specs.Shape.{Shape}
use Rattle.dsr_names.specs.Support.ActorEquality.{actor_eq, actor_eq-Decides}
use Rattle.dsr_names.specs.declared.actor.Actor.{Actor}
use Rattle.dsr_names.specs.declared.actor.Actor.TheVariants.{Replica, Client}
use Rattle.dsr_chain.specs.Proper.{IsAsked}
use Rattle.dsr_chain.specs.declared.signed_request.SignedRequest.{SignedRequest}
use Rattle.dsr_chain.proofs.Lemmas.{asked-Decides}
use Rattle.dsr_slot.proofs.Lemmas.{by_test}
use Rattle.dsr_envelope.specs.Log.{posted_to, taken_from}
use Rattle.dsr_envelope.specs.declared.entry.Entry.{Entry}
use Rattle.dsr_envelope.specs.declared.entry.Entry.TheVariants.{Post, Take}
use Rattle.dsr_envelope.specs.declared.envelope.Envelope.{Envelope}
use Rattle.dsr_envelope.specs.declared.envelope.Envelope.TheVariants.{Ask}
use Rattle.dsr_envelope.specs.declared.pick.Pick.{Pick}
use Rattle.dsr_envelope.specs.declared.pick.Pick.TheVariants.{Plain, From, Begin}
use Rattle.dsr_replica.specs.Held.{is_own_ask, gives_way, held_with, held}
use Rattle.dsr_replica.proofs.Lemmas.{held_from}
use Rattle.dsr_client.specs.Conduct.{ask_of, next_number, chosen_beside, ask_to, IsNext, IsClientLog}
use Rattle.dsr_client.specs.State.{state_after, outstanding}
use Rattle.dsr_client.proofs.Lemmas.{chosen_ask, IsOwn, IsNumbered, numbered}
use Rattle.dsr_run.specs.Run.{IsRun}
use Rattle.dsr_run.specs.Step.{Step, log_of}
use Rattle.dsr_run.proofs.Lemmas.{log_client, posted_entry, IsBox, boxes}
use Rattle.dsr_world.specs.Event.{in_box}
use Rattle.dsr_notes.specs.Ask.{AreAskNotes}
use Rattle.dsr_notes.specs.declared.note.Note.TheVariants.{Held}

-- ---- lists

module _ {A : Type 0} where
  not_empty : (xs : List A) (x : A) → [] ≡ xs ++ x ∷ [] → ⊥
  not_empty [] x e = cc
  not_empty (y ∷ ys) x e = cc

  -- equal lists have equal last items, and the same items before it
  last_parts : (xs ys : List A) (x y : A) → xs ++ x ∷ [] ≡ ys ++ y ∷ [] → (xs ≡ ys) × (x ≡ y)
  last_parts [] [] x y e = (refl, cc)
  last_parts [] (z ∷ zs) x y e = let empty : [] ≡ zs ++ y ∷ [] = cc in absurd (not_empty zs y empty)
  last_parts (w ∷ ws) [] x y e = let empty : [] ≡ ws ++ x ∷ [] = cc in absurd (not_empty ws x empty)
  last_parts (w ∷ ws) (z ∷ zs) x y e =
      let first : w ≡ z = cc in
      let later : ws ++ x ∷ [] ≡ zs ++ y ∷ [] = cc in
      let more = last_parts ws zs x y later in
      (λ i. first i ∷ more.0 i, more.1)

  past_end : (ys xs : List A) → slice_get (ys ++ xs) (length ys) ≡ slice_get xs 0
  past_end [] xs = refl
  past_end (y ∷ ys) xs = past_end ys xs

-- ---- the box

-- a box that holds an envelope has all others taken
box_parts : (posted taken : List Envelope) (x : Envelope) → IsBox posted taken → slice_get posted (length taken) ≡ Some x → posted ≡ taken ++ x ∷ []
box_parts posted taken x (inl all) holds =
    let below = slice_get_within posted (length taken) x holds in
    let same = ap length all in
    absurd (omega (arith, below, same))
box_parts posted taken x (inr left) holds =
    let found : Some left.0 ≡ Some x = sym (ap (λ l. slice_get l (length taken)) left.1 ∙ past_end taken (left.0 ∷ [])) ∙ holds in
    left.1 ∙ ap (λ y. taken ++ y ∷ []) (same_Some left.0 x found)

-- what was taken is among what was taken from its actor
taken_listed : (a : Actor) (log : List Entry) (x : Envelope) → In (Take a x) log → In x (taken_from a log)
taken_listed a [] x h = elim h [ ]
taken_listed a (Post to y ∷ older) x (here e) = absurd cc
taken_listed a (Post to y ∷ older) x (there h) = taken_listed a older x h
taken_listed a (Take from y ∷ older) x (here e) =
    let same : from ≡ a = cc in
    let is : y ≡ x = cc in
    subst (In x) (sym (ap (λ b. if b then taken_from a older ++ y ∷ [] else taken_from a older) ((actor_eq-Decides from a).1 same)))
    (In-append_right x (taken_from a older) (y ∷ []) (here is))
taken_listed a (Take from y ∷ older) x (there h) =
    elim (by_test (actor_eq from a) (actor_eq-Decides from a) (taken_from a older ++ y ∷ []) (taken_from a older)) [
      | inl same ↦ subst (In x) (sym same.1) (In-append_left x (taken_from a older) (y ∷ []) (taken_listed a older x h))
      | inr other ↦ subst (In x) (sym other.1) (taken_listed a older x h)
    ]

-- ---- what a client posts to a replica

-- an own ask of the client, with a number that is not below those of the asks before it
record IsNewest (me : ℕ) (before : List Envelope) (x : Envelope) : Type 0 where
  pub ask : SignedRequest
  pub is : x ≡ Ask ask
  pub own : IsOwn me ask
  pub most : (other : SignedRequest) → In (Ask other) before → other.request.number ≤ ask.request.number

module _ (shape : Shape) (me : ℕ) where
  -- a client asks for the next number: for what is outstanding, or for a new request
  chosen_number : (log : List Entry) → IsNumbered me log (state_after shape log) → (o : Option SignedRequest) → outstanding shape log ≡ o
      → (pick : Pick) (ask : SignedRequest) → chosen_beside o me (next_number shape log) pick ≡ Some ask
      → IsOwn me ask × (ask.request.number ≡ next_number shape log)
  chosen_number log h (Some current) is Plain ask e =
      let next = h.next ask (is ∙ e) in
      (next.1, next.0)
  chosen_number log h None is Plain ask e = absurd (none-some ask e)
  chosen_number log h (Some current) is (Begin op) ask e = absurd (none-some ask e)
  chosen_number log h None is (Begin op) ask e =
      let made : ask_of me (next_number shape log) op ≡ ask = same_Some (ask_of me (next_number shape log) op) ask e in
      let number : ask.request.number ≡ next_number shape log = ap (λ (s : SignedRequest). s.request.number) (sym made) in
      (record { op = op; is = ap (λ k. ask_of me k op) number ∙ made }, number)
  chosen_number log h o is (From clients) ask e = absurd (none-some ask e)

  newest_now : (q : ℕ) (older : List Entry) → IsClientLog shape me older → (pick : Pick) (x : Envelope) → ask_to shape me older pick ≡ Some x
      → IsNewest me (posted_to (Replica q) older) x
  newest_now q older loyal pick x e =
      let known = numbered shape me older loyal in
      let parts = chosen_ask (chosen_beside (outstanding shape older) me (next_number shape older) pick) x e in
      let chosen = chosen_number older known (outstanding shape older) refl pick parts.0 parts.1 in
      record {
        ask = parts.0;
        is = sym parts.2;
        own = chosen.0;
        most = λ other inside. most known other parts.0 chosen.1 (posted_entry (Replica q) older (Ask other) inside);
      }
    where
      most : IsNumbered me older (state_after shape older) → (other ask : SignedRequest) → ask.request.number ≡ next_number shape older
          → In (Post (Replica q) (Ask other)) older → other.request.number ≤ ask.request.number
      most known other ask number inside = elim (known.posted q other inside).1 [
        | inl low ↦ omega (arith, low, number)
        | inr now ↦ let same = (known.next other now).0 in omega (arith, same, number)
      ]

  -- the last envelope of all that a client posted to a replica
  last_newest : (q : ℕ) (log : List Entry) → IsClientLog shape me log → (before : List Envelope) (x : Envelope)
      → posted_to (Replica q) log ≡ before ++ x ∷ [] → IsNewest me before x
  last_newest q [] loyal before x e = absurd (not_empty before x e)
  last_newest q (Take from y ∷ older) loyal before x e = last_newest q older loyal.0 before x e
  last_newest q (Post to y ∷ older) loyal before x e =
      elim (by_test (actor_eq to (Replica q)) (actor_eq-Decides to (Replica q)) (posted_to (Replica q) older ++ y ∷ []) (posted_to (Replica q) older)) [
        | inl same ↦
            let next = subst (λ a. IsNext shape me older (Post a y)) same.0 loyal.1 in
            let parts = last_parts (posted_to (Replica q) older) before y x (sym same.1 ∙ e) in
            subst (λ z. IsNewest me z x) parts.0
            (subst (IsNewest me (posted_to (Replica q) older)) parts.1 (newest_now q older loyal.0 next.1.0 y next.1.1))
        | inr other ↦ last_newest q older loyal.0 before x (sym other.1 ∙ e)
      ]

-- ---- what is held

module _ (shape : Shape) (client : ℕ) where
  own_test : (ask : SignedRequest) → client < shape.m → IsOwn client ask → is_own_ask shape client ask ≡ true
  own_test ask inside own =
      let signed_so : IsAsked shape (ask_of client ask.request.number own.op) = record { client = inside; signature = refl } in
      ap₂ (λ b c. b && c) ((Decides-eqb ask.request.client client).1 (ap (λ (s : SignedRequest). s.request.client) (sym own.is)))
      ((asked-Decides shape ask).1 (subst (IsAsked shape) own.is signed_so))

  way_test : (before : Option SignedRequest) (number : ℕ) → ((ask : SignedRequest) → before ≡ Some ask → ask.request.number ≤ number)
      → gives_way before number ≡ true
  way_test None number most = refl
  way_test (Some ask) number most = let below = most ask refl in not_below number ask.request.number below
    where
      not_below : (a b : ℕ) → b ≤ a → not (nat_lt a b) ≡ true
      not_below a b below = grind (arith, nat_tests)

  own_take : (x : Envelope) (log : List Entry) → held shape client (Take (Client client) x ∷ log) ≡ held_with shape client (held shape client log) x
  own_take x log =
      ap (λ b. if b then held_with shape client (held shape client log) x else held shape client log) ((Decides-eqb client client).1 refl)

  -- an own ask is held once it is taken, if its number is not below that of what is held
  newest_held : (log : List Entry) (ask : SignedRequest) → client < shape.m → IsOwn client ask
      → ((before : SignedRequest) → held shape client log ≡ Some before → before.request.number ≤ ask.request.number)
      → held shape client (Take (Client client) (Ask ask) ∷ log) ≡ Some ask
  newest_held log ask inside own most =
      own_take (Ask ask) log
      ∙ ap₂ (λ b c. if b && c then Some ask else held shape client log) (own_test ask inside own)
      (way_test (held shape client log) ask.request.number most)

-- an ask, which is held once the envelope is taken
record WillHold (shape : Shape) (client : ℕ) (log : List Entry) (x : Envelope) : Type 0 where
  pub ask : SignedRequest
  pub is_ask : x ≡ Ask ask
  pub is_held : held shape client (Take (Client client) x ∷ log) ≡ Some ask

module _ (shape : Shape) (run : List Step) (is : IsRun shape run) (client replica : ℕ) (inside : client < shape.m) (x : Envelope)
    (holds : in_box (log_of run) (Client client) (Replica replica) ≡ Some x) where
  -- what lies in the box from a client to a replica
  box_will_hold : WillHold shape client (log_of run (Replica replica)) x
  box_will_hold =
      let log = log_of run (Replica replica) in
      let taken = taken_from (Client client) log in
      let posted = posted_to (Replica replica) (log_of run (Client client)) in
      let parts = box_parts posted taken x (boxes shape run is (Client client) (Replica replica)) holds in
      let newest = last_newest shape client replica (log_of run (Client client)) (log_client shape client run is) taken x parts in
      record {
        ask = newest.ask;
        is_ask = newest.is;
        is_held =
            ap (λ z. held shape client (Take (Client client) z ∷ log)) newest.is
            ∙ newest_held shape client log newest.ask inside newest.own
            (λ before e. newest.most before (taken_listed (Client client) log (Ask before) (held_from shape client log before e).taken));
      }

  -- is an ask
  pub box_asks : (y : Envelope) → y ≡ x → ((ask : SignedRequest) → y ≢ Ask ask) → ⊥
  box_asks y same none = none box_will_hold.ask (same ∙ box_will_hold.is_ask)

  -- and the notes are that it is held
  pub box_held : (ask : SignedRequest) → x ≡ Ask ask → AreAskNotes shape (log_of run (Replica replica)) client x (Held ask.request ∷ [])
  box_held ask asks = record {
    ask = box_will_hold.ask;
    is_ask = box_will_hold.is_ask;
    is_held = box_will_hold.is_held;
    are = ap (λ (a : SignedRequest). Held a.request ∷ []) (same_ask ask box_will_hold.ask (sym asks ∙ box_will_hold.is_ask));
  }
    where
      same_ask : (one other : SignedRequest) → Ask one ≡ Ask other → one ≡ other
      same_ask one other e = cc

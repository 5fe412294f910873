-- What a walk along a history finds of the replies at the heads of the clients.
use Rattle.std.proofs.Common.{◌≡◌, ◌≢◌, ◌⊎◌, inl, inr, ℕ, ◌+◌, ◌<◌, List, [], ◌∷◌, ◌++◌, length, take, drop, get_or, set, reverse, slice_get, Some, refl, sym, ◌∙◌, ap, subst, arith}
use Rattle.std.proofs.lemmas.List.{reverse-append, take_more, take-append-drop, length-reverse, length-take-le, get_or-set_same, get_or-set_other}
use Rattle.std.proofs.lemmas.Bool.{cases_eq}
use Rattle.dsr_request.specs.Request.{Request}
use Rattle.dsr_request.specs.declared.answer.Answer.{Answer}
use Rattle.dsr_register.specs.Values.{answer_after}
use Rattle.dsr_ledger.specs.declared.reply.Reply.{Reply}
use Rattle.dsr_history.specs.History.{operations, IsReplyTo}
use Rattle.dsr_check.specs.Support.Heads.{head_of, IsHead, HasMoved, HasWalked}

-- the list turned round, about one of its places

pub turned_more : {X : Type 0} (xs : List X) (i : ℕ) (d : X) → i < length xs → reverse (take (i + 1) xs) ≡ get_or xs i d ∷ reverse (take i xs)
turned_more xs i d within = ap reverse (take_more xs i d within) ∙ reverse-append (take i xs) (get_or xs i d ∷ [])

pub turned_parts : {X : Type 0} (xs : List X) (i : ℕ) (d : X) → i < length xs
    → reverse xs ≡ reverse (drop (i + 1) xs) ++ get_or xs i d ∷ reverse (take i xs)
turned_parts xs i d within =
    ap reverse (sym (take-append-drop (i + 1) xs)) ∙ reverse-append (take (i + 1) xs) (drop (i + 1) xs)
    ∙ ap (λ older. reverse (drop (i + 1) xs) ++ older) (turned_more xs i d within)

-- about an element that was read there
pub turned_step : {X : Type 0} (xs : List X) (i : ℕ) (x : X) → i < length xs → x ≡ get_or xs i x → reverse (take (i + 1) xs) ≡ x ∷ reverse (take i xs)
turned_step xs i x within read = turned_more xs i x within ∙ ap (λ y. y ∷ reverse (take i xs)) (sym read)

pub turned_at : {X : Type 0} (xs : List X) (i : ℕ) (x : X) → i < length xs → x ≡ get_or xs i x → reverse xs ≡ reverse (drop (i + 1) xs) ++ x ∷ reverse (take i xs)
turned_at xs i x within read = turned_parts xs i x within ∙ ap (λ y. reverse (drop (i + 1) xs) ++ y ∷ reverse (take i xs)) (sym read)

-- the reply to a request after these older ones
abbrev pub reply_to : Request → List Request → Reply
reply_to request older = record { number = request.number; place = length older; answer = answer_after (operations older) request.op }

-- it is right in each history in which the request comes right after these
pub stands_right : (history newer older : List Request) (request : Request) (client : ℕ) → history ≡ newer ++ request ∷ older → request.client ≡ client
    → IsReplyTo history client (reply_to request older)
stands_right history newer older request client parts own = record {
  request = request;
  stands = record { newer = newer; older = older; parts = parts; place_is = refl; answer_is = refl };
  client_is = own;
  number_is = refl;
}

-- nothing answers a request of no history
pub no_reply : (client : ℕ) (reply : Reply) → ¬ IsReplyTo [] client reply
no_reply client reply h = by h.stands.newer h.stands.parts
  where
    by : (newer : List Request) → [] ≡ newer ++ h.request ∷ h.stands.older → ⊥
    by [] e = cc
    by (r ∷ newer) e = cc

-- what answers one of the requests answers the newest, or one of the older ones
pub reply_cases : (request : Request) (older : List Request) (client : ℕ) (reply : Reply) → IsReplyTo (request ∷ older) client reply
    → ((request.client ≡ client) × (reply ≡ reply_to request older)) ⊎ IsReplyTo older client reply
reply_cases request older client reply h = by h.stands.newer h.stands.parts
  where
    by : (newer : List Request) → request ∷ older ≡ newer ++ h.request ∷ h.stands.older
        → ((request.client ≡ client) × (reply ≡ reply_to request older)) ⊎ IsReplyTo older client reply
    by [] e =
        let first : h.request ≡ request = sym (ap (λ xs. get_or xs 0 request) e) in
        let rest : h.stands.older ≡ older = sym (ap (drop 1) e) in
        inl (
          ap (λ (r : Request). r.client) (sym first) ∙ h.client_is,
          (λ i. record {
            number = (sym h.number_is ∙ ap (λ (r : Request). r.number) first) i;
            place = (h.stands.place_is ∙ ap (λ rs. length rs) rest) i;
            answer = (h.stands.answer_is ∙ (λ j. answer_after (operations (rest j)) ((first j).op))) i;
          }),
        )
    by (r ∷ newer) e = inr (record {
      request = h.request;
      stands = record {
        newer = newer;
        older = h.stands.older;
        parts = ap (drop 1) e;
        place_is = h.stands.place_is;
        answer_is = h.stands.answer_is;
      };
      client_is = h.client_is;
      number_is = h.number_is;
    })

-- one more request

-- of another client
pub walked_by : (history older : List Request) (request : Request) (accepted : List (ℕ × Reply)) (client before head : ℕ)
    → ¬ (request.client ≡ client) → HasWalked history older accepted client before head → HasWalked history (request ∷ older) accepted client before head
walked_by history older request accepted client before head other walked = record {
  good = walked.good;
  after = walked.after;
  stays = λ same reply at answers. elim (reply_cases request older client reply answers) [
    | inl newest ↦ other newest.0
    | inr earlier ↦ walked.stays same reply at earlier
  ];
}

-- of this client, whose head passed the reply to it if the head was at that
pub walked_on : (history newer older : List Request) (request : Request) (accepted : List (ℕ × Reply)) (client before head moved : ℕ)
    → history ≡ newer ++ request ∷ older → request.client ≡ client → HasWalked history older accepted client before head
    → HasMoved accepted client (reply_to request older) head moved → HasWalked history (request ∷ older) accepted client before moved
walked_on history newer older request accepted client before head moved parts own walked move = record {
  good = record {
    right = λ reply inside. elim (move.between reply inside) [
      | inl earlier ↦ walked.good.right reply earlier
      | inr this ↦ subst (IsReplyTo history client) (sym this) (stands_right history newer older request client parts own)
    ];
    within = move.within;
    own = move.own;
  };
  after = omega (arith, walked.after, move.after);
  stays = λ same reply at answers.
      let head_same : head ≡ before = omega (arith, walked.after, move.after, same) in
      let moved_same : moved ≡ head = omega (arith, head_same, same) in
      let at_head : slice_get accepted head ≡ Some (client, reply) = subst (λ p. slice_get accepted p ≡ Some (client, reply)) moved_same at in
      elim (reply_cases request older client reply answers) [
        | inl newest ↦ move.stays moved_same (client, reply) at_head newest.1
        | inr earlier ↦ walked.stays head_same reply at_head earlier
      ];
}

-- before the first request
pub walked_none : (history : List Request) (accepted : List (ℕ × Reply)) (client head : ℕ) → IsHead history accepted client head
    → HasWalked history [] accepted client head head
walked_none history accepted client head good = record { good = good; after = omega arith; stays = λ same reply at. no_reply client reply }

-- the next request of a history, at its place, and the heads of all clients
pub walked_step : (history : List Request) (i : ℕ) (request : Request) → i < length history → request ≡ get_or history i request
    → (accepted : List (ℕ × Reply)) (heads moved : List ℕ) (client number passed : ℕ) (answer : Answer) → length moved ≡ 32 → client ≡ request.client
    → client < 32 → number ≡ request.number → answer ≡ answer_after (operations (reverse (take i history))) request.op
    → ((c : ℕ) → c < 32 → HasWalked (reverse history) (reverse (take i history)) accepted c (head_of heads c) (head_of moved c))
    → HasMoved accepted client (record { number = number; place = i; answer = answer }) (head_of moved client) passed
    → (c : ℕ) → c < 32 → HasWalked (reverse history) (reverse (take (i + 1) history)) accepted c (head_of heads c) (head_of (set moved client passed) c)
walked_step history i request within read accepted heads moved client number passed answer size own few is told walked move c small =
    subst (λ walked. HasWalked (reverse history) walked accepted c (head_of heads c) (head_of (set moved client passed) c)) (sym (turned_step history i request within read))
    (by (cases_eq c client))
  where
    older : List Request
    older = reverse (take i history)

    place_is : i ≡ length older
    place_is = sym (length-reverse (take i history) ∙ length-take-le i history (omega arith))

    reply_is : ◌≡◌ {A = Reply} (record { number = number; place = i; answer = answer }) (reply_to request older)
    reply_is j = record { number = is j; place = place_is j; answer = told j }

    by : (c ≡ client) ⊎ (c ≢ client) → HasWalked (reverse history) (request ∷ older) accepted c (head_of heads c) (head_of (set moved client passed) c)
    by (inl same) =
        subst (λ k. HasWalked (reverse history) (request ∷ older) accepted k (head_of heads k) (head_of (set moved client passed) k)) (sym same)
        (subst (λ h. HasWalked (reverse history) (request ∷ older) accepted client (head_of heads client) h)
        (sym (get_or-set_same moved client passed 0 (omega (arith, size, few))))
        (walked_on (reverse history) (reverse (drop (i + 1) history)) older request accepted client (head_of heads client) (head_of moved client) passed
        (turned_at history i request within read) (sym own) (walked client few) (subst (λ r. HasMoved accepted client r (head_of moved client) passed) reply_is move)))
    by (inr other) =
        subst (λ h. HasWalked (reverse history) (request ∷ older) accepted c (head_of heads c) h) (sym (get_or-set_other moved client c passed 0 other))
        (walked_by (reverse history) older request accepted c (head_of heads c) (head_of moved c) (λ e. other (sym e ∙ sym own)) (walked c small))

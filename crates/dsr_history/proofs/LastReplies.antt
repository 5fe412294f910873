-- The last request of each client has a reply.
use Rattle.std.proofs.Common.{◌≡◌, ◌≢◌, ℕ, ◌<◌, ◌≤◌, ◌==◌, Bool, true, false, List, [], ◌∷◌, ◌++◌, length, None, Some, if◌then◌else◌, refl, ap, sym, ◌∙◌, arith}
use Rattle.std.proofs.lemmas.Bool.{false_from_ne_true, false≢true}
use Rattle.std.proofs.lemmas.Bool.Decides.{Decides-eqb}
use Rattle.dsr_base.specs.Member.{In, here, there}
use Rattle.dsr_request.specs.Request.{Request}
use Rattle.dsr_request.specs.declared.answer.Answer.{Answer}
use Rattle.dsr_register.specs.Values.{answer_after}
use Rattle.dsr_ledger.specs.declared.reply.Reply.{Reply}
use Rattle.dsr_history.specs.History.{operations, reply_in, StandsAt, IsLegal}

-- the reply to a request with these older ones
abbrev reply_after : Request → List Request → Reply
reply_after r older = record { number = r.number; place = length older; answer = answer_after (operations older) r.op }

own_step : (r : Request) (older : List Request) (client : ℕ) → r.client ≡ client → reply_in (r ∷ older) client ≡ Some (reply_after r older)
own_step r older client is =
    ap (λ b. if b then Some (reply_after r older) else reply_in older client) ((Decides-eqb r.client client).1 is)

other_step : (r : Request) (older : List Request) (client : ℕ) → r.client ≢ client → reply_in (r ∷ older) client ≡ reply_in older client
other_step r older client other =
    ap (λ b. if b then Some (reply_after r older) else reply_in older client)
    (false_from_ne_true (r.client == client) (λ e. other ((Decides-eqb r.client client).0 e)))

reply_last_of : (newer older : List Request) (r : Request) → ((q : Request) → In q newer → q.client ≢ r.client)
    → reply_in (newer ++ r ∷ older) r.client ≡ Some (reply_after r older)
reply_last_of [] older r none = own_step r older r.client refl
reply_last_of (q ∷ newer) older r none =
    other_step q (newer ++ r ∷ older) r.client (none q (here refl)) ∙ reply_last_of newer older r (λ x inside. none x (there inside))

-- a client without a request in a history has no reply
pub reply_none : (history : List Request) (client : ℕ) → ((r : Request) → In r history → r.client ≢ client) → reply_in history client ≡ None
reply_none [] client none = refl
reply_none (r ∷ older) client none =
    other_step r older client (none r (here refl)) ∙ reply_none older client (λ x inside. none x (there inside))

-- a reply of no smaller number than the request's
pub record HasReply (history : List Request) (r : Request) : Type 0 where
  pub reply : Reply
  pub is : reply_in history r.client ≡ Some reply
  pub most : r.number ≤ reply.number

reply_step : (x : Request) (older : List Request) (r : Request) → (In r older → HasReply older r)
    → ((q : Request) → In q older → q.client ≡ x.client → q.number < x.number)
    → (b : Bool) → (x.client == r.client) ≡ b → In r (x ∷ older) → HasReply (x ∷ older) r
reply_step x older r before legal true e (here same) =
    let number = ap (λ (z : Request). z.number) same in
    record {
      reply = reply_after x older;
      is = own_step x older r.client ((Decides-eqb x.client r.client).0 e);
      most = omega (arith, number);
    }
reply_step x older r before legal true e (there later) =
    let client = (Decides-eqb x.client r.client).0 e in
    let below = legal r later (sym client) in
    record {
      reply = reply_after x older;
      is = own_step x older r.client client;
      most = omega (arith, below);
    }
reply_step x older r before legal false e (here same) =
    absurd (false≢true (sym e ∙ (Decides-eqb x.client r.client).1 (ap (λ (z : Request). z.client) same)))
reply_step x older r before legal false e (there later) =
    let h = before later in
    record {
      reply = h.reply;
      is = ap (λ b. if b then Some (reply_after x older) else reply_in older r.client) e ∙ h.is;
      most = h.most;
    }

-- the client of each request of a history has a reply, to that request or to a later one
pub reply_some : (history : List Request) → IsLegal history → (r : Request) → In r history → HasReply history r
reply_some [] legal r inside = elim inside [ ]
reply_some (x ∷ older) legal r inside = reply_step x older r (reply_some older legal.1 r) legal.0 (x.client == r.client) refl inside

-- the last request of a client is replied to, at its place
pub reply_last : (history : List Request) (place : ℕ) (r : Request) (answer : Answer) → (stands : StandsAt history place r answer)
    → ((q : Request) → In q stands.newer → q.client ≢ r.client)
    → reply_in history r.client ≡ Some (record { number = r.number; place = place; answer = answer })
reply_last history place r answer stands none =
    let made : reply_after r stands.older ≡ record { number = r.number; place = place; answer = answer } =
    λ i. record { number = r.number; place = (sym stands.place_is) i; answer = (sym stands.answer_is) i } in
    ap (λ h. reply_in h r.client) stands.parts ∙ (reply_last_of stands.newer stands.older r none ∙ ap (λ (x : Reply). Some x) made)

-- What is at the places of a history.
use Rattle.std.proofs.Common.{◌≡◌, ℕ, ◌<◌, Bool, true, false, cond, nat_eq, List, [], ◌∷◌, ◌++◌, length, reverse, Option, None, Some, IfSome, refl, sym, ◌∙◌, ap, subst, arith, append_assoc, length-append, eq-eqb, inl, inr}
use Rattle.std.proofs.lemmas.Bool.{ne_eqb}
use Rattle.std.proofs.lemmas.List.{reverse-append}
use Rattle.std.proofs.lemmas.Option.{same_Some, none-some}
use borrow.Author.Tests.{eqb-true}
use Rattle.dsr_base.specs.Member.{In, here, there}
use Rattle.dsr_base.proofs.MemberLemmas.{In-append_right, In-append_cases, In-one}
use Rattle.dsr_request.specs.Request.{Request}
use Rattle.dsr_request.specs.declared.answer.Answer.{Answer}
use Rattle.dsr_register.specs.Values.{answer_after}
use Rattle.dsr_ledger.specs.declared.reply.Reply.{Reply}
use Rattle.dsr_base.specs.Growth.{Extends}
use Rattle.dsr_history.specs.History.{requests_of, rises_above, acting, acted, operations, answer_at, reply_in, StandsAt, IsReplyTo, IsLegal}

-- what is in a history was asked for

In-reverse : (q : Request) (rs : List Request) → In q (reverse rs) → In q rs
In-reverse q [] h = h
In-reverse q (r ∷ rs) h =
    elim (In-append_cases q (reverse rs) (r ∷ []) (subst (In q) (reverse-append (r ∷ []) rs) h)) [
      | inl later ↦ there (In-reverse q rs later)
      | inr first ↦ here (In-one q r first)
    ]

acting_from : (b : Bool) (q r : Request) (older : List Request) → (In q (acting older) → In q older) → In q (cond b (r ∷ acting older) (acting older)) → In q (r ∷ older)
acting_from true q r older rest (here e) = here e
acting_from true q r older rest (there h) = there (rest h)
acting_from false q r older rest h = there (rest h)

pub In-acting : (q : Request) (rs : List Request) → In q (acting rs) → In q rs
In-acting q [] h = h
In-acting q (r ∷ older) h = acting_from (rises_above r older) q r older (In-acting q older) h

In-requests : (q : Request) (values : List (List Request)) → In q (requests_of values) → (requests : List Request) × In requests values × In q requests
In-requests q [] h = elim h [ ]
In-requests q (v ∷ older) h =
    elim (In-append_cases q (reverse v) (requests_of older) h) [
      | inl newest ↦ (v, here refl, In-reverse q v newest)
      | inr rest ↦ let found = In-requests q older rest in (found.0, there found.1, found.2)
    ]

-- each request of the history is in one of the values
pub In-acted : (q : Request) (values : List (List Request)) → In q (acted values) → (requests : List Request) × In requests values × In q requests
In-acted q values h = In-requests q values (In-acting q (requests_of values) h)

-- what is in the history is at a place of it
pub In-stands : (q : Request) (h : List Request) → In q h → (place : ℕ) × (answer : Answer) × StandsAt h place q answer
In-stands q [] inside = elim inside [ ]
In-stands q (r ∷ older) (here e) = (
  length older,
  answer_after (operations older) q.op,
  record { newer = []; older = older; parts = ap (λ x. x ∷ older) e; place_is = refl; answer_is = refl },
)
In-stands q (r ∷ older) (there inside) =
    let found = In-stands q older inside in (
      found.0,
      found.1,
      record {
        newer = r ∷ found.2.newer;
        older = found.2.older;
        parts = ap (λ xs. r ∷ xs) found.2.parts;
        place_is = found.2.place_is;
        answer_is = found.2.answer_is;
      },
    )

-- the answer at the place is the answer there

answer_past : (newer : List Request) (q : Request) (older : List Request) → answer_at (newer ++ q ∷ older) (length older) ≡ Some (answer_after (operations older) q.op)
answer_past [] q older =
    ap (λ same. cond same (Some (answer_after (operations older) q.op)) (answer_at older (length older))) (eq-eqb (length older) (length older) refl)
answer_past (r ∷ newer) q older =
    ap (λ same. cond same (Some (answer_after (operations (newer ++ q ∷ older)) r.op)) (answer_at (newer ++ q ∷ older) (length older)))
    (ne_eqb (length (newer ++ q ∷ older)) (length older) (λ e. omega (arith, length-append newer (q ∷ older))))
    ∙ answer_past newer q older

pub stands_answered : (h : List Request) (place : ℕ) (q : Request) (answer : Answer) → StandsAt h place q answer → answer_at h place ≡ Some answer
stands_answered h place q answer s =
    ap (λ xs. answer_at xs place) s.parts
    ∙ (ap (answer_at (s.newer ++ q ∷ s.older)) s.place_is ∙ (answer_past s.newer q s.older ∙ ap Some (sym s.answer_is)))

-- what is at a place stays there
pub stands_later : (later earlier : List Request) (place : ℕ) (q : Request) (answer : Answer) → Extends later earlier → StandsAt earlier place q answer → StandsAt later place q answer
stands_later later earlier place q answer grew s =
    record {
      newer = grew.0 ++ s.newer;
      older = s.older;
      parts = grew.1 ∙ (ap (λ xs. grew.0 ++ xs) s.parts ∙ sym (append_assoc grew.0 s.newer (q ∷ s.older)));
      place_is = s.place_is;
      answer_is = s.answer_is;
    }

-- the part of a longer list up to a place below the shorter one's length
before_parts : (more earlier newer older : List Request) (q : Request) → more ++ earlier ≡ newer ++ q ∷ older → length older < length earlier
    → (front : List Request) × (earlier ≡ front ++ q ∷ older)
before_parts [] earlier newer older q e short = (newer, e)
before_parts (m ∷ more) earlier [] older q e short =
    let tails : more ++ earlier ≡ older = cc in
    absurd (omega (arith, ap length tails, length-append more earlier))
before_parts (m ∷ more) earlier (n ∷ newer) older q e short =
    let tails : more ++ earlier ≡ newer ++ q ∷ older = cc in
    before_parts more earlier newer older q tails short

-- what is at a place below the earlier length was there before
pub stood_before : (later earlier : List Request) (place : ℕ) (q : Request) (answer : Answer) → Extends later earlier → place < length earlier
    → StandsAt later place q answer → StandsAt earlier place q answer
stood_before later earlier place q answer grew below s =
    let found = before_parts grew.0 earlier s.newer s.older q (sym grew.1 ∙ s.parts) (omega (arith, s.place_is)) in
    record { newer = found.0; older = s.older; parts = found.1; place_is = s.place_is; answer_is = s.answer_is }

-- one client's number is at one place alone

one_part : (h newer older other before : List Request) (q r : Request) → IsLegal h → h ≡ newer ++ q ∷ older → h ≡ other ++ r ∷ before
    → q.client ≡ r.client → q.number ≡ r.number → (q ≡ r) × (older ≡ before)
one_part [] [] older other before q r legal e f client number = cc
one_part [] (n ∷ newer) older other before q r legal e f client number = cc
one_part (x ∷ h) [] older [] before q r legal e f client number = (cc, cc)
one_part (x ∷ h) [] older (o ∷ other) before q r legal e f client number =
    let first : x ≡ q = cc in
    let rest : h ≡ other ++ r ∷ before = cc in
    let inside : In r h = subst (In r) (sym rest) (In-append_right r other (r ∷ before) (here refl)) in
    let less = legal.0 r inside (sym client ∙ ap (λ y. y.client) (sym first)) in
    absurd (omega (arith, less, number, ap (λ y. y.number) first))
one_part (x ∷ h) (n ∷ newer) older [] before q r legal e f client number =
    let first : x ≡ r = cc in
    let rest : h ≡ newer ++ q ∷ older = cc in
    let inside : In q h = subst (In q) (sym rest) (In-append_right q newer (q ∷ older) (here refl)) in
    let less = legal.0 q inside (client ∙ ap (λ y. y.client) (sym first)) in
    absurd (omega (arith, less, number, ap (λ y. y.number) first))
one_part (x ∷ h) (n ∷ newer) older (o ∷ other) before q r legal e f client number =
    let rest : h ≡ newer ++ q ∷ older = cc in
    let more : h ≡ other ++ r ∷ before = cc in
    one_part h newer older other before q r legal.1 rest more client number

pub stands_once : (h : List Request) (place other : ℕ) (q r : Request) (answer told : Answer) → IsLegal h → StandsAt h place q answer → StandsAt h other r told
    → q.client ≡ r.client → q.number ≡ r.number → (q ≡ r) × (place ≡ other) × (answer ≡ told)
stands_once h place other q r answer told legal s t client number =
    let same = one_part h s.newer s.older t.newer t.older q r legal s.parts t.parts client number in (
      same.0,
      s.place_is ∙ (ap length same.1 ∙ sym t.place_is),
      s.answer_is ∙ (ap (λ older. answer_after (operations older) q.op) same.1 ∙ (ap (λ y. answer_after (operations t.older) y.op) same.0 ∙ sym t.answer_is)),
    )

-- the last reply is the answer to a request of its client, at the request's place

reply_step : (b : Bool) (r : Request) (older : List Request) (client : ℕ) → b ≡ nat_eq r.client client
    → ((reply : Reply) → reply_in older client ≡ Some reply → IsReplyTo older client reply)
    → (reply : Reply) → cond b (Some (record { number = r.number; place = length older; answer = answer_after (operations older) r.op })) (reply_in older client) ≡ Some reply
    → IsReplyTo (r ∷ older) client reply
reply_step true r older client e rest reply is =
    let made = same_Some (record { number = r.number; place = length older; answer = answer_after (operations older) r.op }) reply is in
    record {
      request = r;
      stands = record {
        newer = [];
        older = older;
        parts = refl;
        place_is = sym (ap (λ x. x.place) made);
        answer_is = sym (ap (λ x. x.answer) made);
      };
      client_is = eqb-true r.client client (sym e);
      number_is = ap (λ x. x.number) made;
    }
reply_step false r older client e rest reply is =
    let found = rest reply is in
    record {
      request = found.request;
      stands = stands_later (r ∷ older) older reply.place found.request reply.answer (r ∷ [], refl) found.stands;
      client_is = found.client_is;
      number_is = found.number_is;
    }

pub reply_stands : (h : List Request) (client : ℕ) (reply : Reply) → reply_in h client ≡ Some reply → IsReplyTo h client reply
reply_stands [] client reply is = absurd (none-some reply is)
reply_stands (r ∷ older) client reply is = reply_step (nat_eq r.client client) r older client refl (reply_stands older client) reply is

pub reply_if : (h : List Request) (client : ℕ) (kept : Option Reply) → kept ≡ reply_in h client → IfSome kept (IsReplyTo h client)
reply_if h client None is = tt
reply_if h client (Some reply) is = reply_stands h client reply (sym is)

pub answered_if : (h : List Request) (client : ℕ) (kept : Option Reply) → kept ≡ reply_in h client → IfSome kept (λ last. answer_at h last.place ≡ Some last.answer)
answered_if h client None is = tt
answered_if h client (Some reply) is =
    let found = reply_stands h client reply (sym is) in stands_answered h reply.place found.request reply.answer found.stands

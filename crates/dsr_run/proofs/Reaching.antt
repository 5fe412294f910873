-- A request that is decided acts, or its client has acted with as great a number; and what has acted has acted in all that is decided
-- later.
use Rattle.std.proofs.Common.{◌≡◌, ℕ, zero, suc, ◌<◌, ◌≤◌, ◌==◌, ◌&&◌, ◌||◌, not, nat_lt, Bool, true, false, List, [], ◌∷◌, reverse, Some, if◌then◌else◌, inl, inr, refl, ap, sym, ◌∙◌, subst, arith}
use Rattle.std.proofs.lemmas.Bool.{cases_lt}
use Rattle.std.proofs.lemmas.Bool.Decides.{Decides-eqb, nat_tests}
use Rattle.dsr_base.specs.Growth.{Extends}
use Rattle.dsr_base.specs.Member.{In, here, there}
use Rattle.dsr_base.proofs.MemberLemmas.{In-append_left, In-append_right}
use Rattle.dsr_names.specs.Shape.{Shape}
use Rattle.dsr_request.specs.Request.{Request}
use Rattle.dsr_ledger.specs.declared.reply.Reply.{Reply}
use Rattle.dsr_history.specs.History.{requests_of, rises_above, acting, acted, reply_in, reply, IsLegal}
use Rattle.dsr_history.proofs.Lemmas.{legal_acting, reply_some, reply_stands}
use Rattle.dsr_rotation.specs.Calendar.{closed_slots}
use Rattle.dsr_chain.specs.Content.{requests_in}
use Rattle.dsr_chain.specs.declared.slot_value.SlotValue.{SlotValue}
use Rattle.dsr_slot.proofs.Lemmas.{in_map}
use Rattle.dsr_envelope.specs.declared.entry.Entry.{Entry}
use Rattle.dsr_envelope.specs.Log.{rounds}
use Rattle.dsr_replica.specs.Decided.{slot_decided, values, decided_values, decided_requests}
use Rattle.dsr_run.proofs.Accepting.{stands_in}
use Rattle.dsr_run.proofs.Histories.{acted_on}
use Rattle.dsr_run.proofs.Righting.{In-reversed}

-- at the replica of this log the client's request with this number has acted, or a later one of the client
pub record IsReached (shape : Shape) (log : List Entry) (client number : ℕ) : Type 0 where
  pub last : Reply
  pub is : reply (decided_requests shape log) client ≡ Some last
  pub reaches : number ≤ last.number

-- ---- what is in the requests of some values

in_requests : (r : Request) (requests : List Request) (lists : List (List Request)) → In r requests → In requests lists → In r (requests_of lists)
in_requests r requests [] h inside = elim inside [ ]
in_requests r requests (first ∷ older) h (here e) =
    In-append_left r (reverse first) (requests_of older) (In-reversed r first (subst (In r) (sym e) h))
in_requests r requests (first ∷ older) h (there later) =
    In-append_right r (reverse first) (requests_of older) (in_requests r requests older h later)

in_values : (of : ℕ → SlotValue) (slot count : ℕ) → slot < count → In (of slot) (values of count)
in_values of slot zero below = absurd (omega (arith, below))
in_values of slot (suc count) below = elim (cases_lt slot count) [
  | inl lower ↦ there (in_values of slot count lower)
  | inr upper ↦ let last : count ≡ slot = omega (arith, below, upper) in here (ap of last)
]

-- ---- what acts

-- among these requests one of the client has this number or a greater one
record Reaches (requests : List Request) (client number : ℕ) : Type 0 where
  request : Request
  stands : In request requests
  is_client : request.client ≡ client
  reaches : number ≤ request.number

-- what does not rise above older requests is reached by one of them
reached : (r : Request) (older : List Request) → rises_above r older ≡ false → Reaches older r.client r.number
reached r [] e = absurd cc
reached r (x ∷ older) e =
    by_tests (λ not_above. reached r older not_above) (x.client == r.client) (nat_lt x.number r.number) (rises_above r older) refl refl refl e
  where
    later : Reaches older r.client r.number → Reaches (x ∷ older) r.client r.number
    later h = record { request = h.request; stands = there h.stands; is_client = h.is_client; reaches = h.reaches }

    not_below : (a b : ℕ) → nat_lt a b ≡ false → b ≤ a
    not_below a b e = grind (arith, nat_tests)

    by_tests : (rises_above r older ≡ false → Reaches older r.client r.number) → (same below rest : Bool) → (x.client == r.client) ≡ same
        → nat_lt x.number r.number ≡ below → rises_above r older ≡ rest → ((not same || below) && rest) ≡ false → Reaches (x ∷ older) r.client r.number
    by_tests before same below false client number rises e = later (before rises)
    by_tests before false below true client number rises e = absurd cc
    by_tests before true true true client number rises e = absurd cc
    by_tests before true false true client number rises e = record {
      request = x;
      stands = here refl;
      is_client = (Decides-eqb x.client r.client).0 client;
      reaches = not_below x.number r.number number;
    }

-- each request acts, or is reached by one that does
acts_or_reached : (requests : List Request) (client number : ℕ) → Reaches requests client number → Reaches (acting requests) client number
acts_or_reached [] client number h = elim h.stands [ ]
acts_or_reached (x ∷ older) client number h = by_place (λ k. acts_or_reached older client number k) (rises_above x older) refl h.request h.stands h.is_client h.reaches
  where
    past : (b : Bool) → Reaches (acting older) client number → Reaches (if b then x ∷ acting older else acting older) client number
    past true k = record { request = k.request; stands = there k.stands; is_client = k.is_client; reaches = k.reaches }
    past false k = k

    by_place : (Reaches older client number → Reaches (acting older) client number) → (b : Bool) → rises_above x older ≡ b → (r : Request)
        → In r (x ∷ older) → r.client ≡ client → number ≤ r.number → Reaches (if b then x ∷ acting older else acting older) client number
    by_place before b e r (there later) is reaches =
        past b (before (record { request = r; stands = later; is_client = is; reaches = reaches }))
    by_place before true e r (here same) is reaches = record { request = r; stands = here same; is_client = is; reaches = reaches }
    by_place before false e r (here same) is reaches =
        let found = reached x older e in
        let low = found.reaches in
        let number_is = ap (λ (z : Request). z.number) same in
        before (record {
          request = found.request;
          stands = found.stands;
          is_client = found.is_client ∙ (ap (λ (z : Request). z.client) same ∙ is);
          reaches = omega (arith, reaches, low, number_is);
        })

-- a client with a request in a history has a reply whose number is not smaller
replied_to : (history : List Request) → IsLegal history → (client number : ℕ) → Reaches history client number
    → (last : Reply) × (reply_in history client ≡ Some last) × (number ≤ last.number)
replied_to history legal client number h =
    let found = reply_some history legal h.request h.stands in
    let most = found.most in
    let low = h.reaches in
    (found.reply, subst (λ c. reply_in history c ≡ Some found.reply) h.is_client found.is, omega (arith, most, low))

module _ (shape : Shape) (log : List Entry) (client number : ℕ) where
  has_acted : Reaches (acted (decided_requests shape log)) client number → IsReached shape log client number
  has_acted h =
      let found = replied_to (acted (decided_requests shape log)) (legal_acting (requests_of (decided_requests shape log))) client number h in
      record { last = found.0; is = found.1; reaches = found.2 }

  -- a request of a value that is decided has acted, or a later one of its client
  pub decided_acted : (slot : ℕ) → slot < closed_slots shape (rounds shape log) → (r : Request) → In r (requests_in (slot_decided shape log slot))
      → r.client ≡ client → number ≤ r.number → IsReached shape log client number
  decided_acted slot closed r stands is reaches =
      let value = slot_decided shape log slot in
      let decided = in_values (slot_decided shape log) slot (closed_slots shape (rounds shape log)) closed in
      let inside = in_requests r (requests_in value) (decided_requests shape log) stands (in_map requests_in value (decided_values shape log) decided) in
      has_acted (acts_or_reached (requests_of (decided_requests shape log)) client number
      (record { request = r; stands = inside; is_client = is; reaches = reaches }))

  -- what has acted by a log has acted by each log whose decided values are those and perhaps later ones
  pub acted_later : (before : List Entry) → Extends (decided_values shape log) (decided_values shape before)
      → IsReached shape before client number → IsReached shape log client number
  acted_later before grown h =
      let earlier = acted (decided_requests shape before) in
      let reply = reply_stands earlier client h.last h.is in
      let found = stands_in earlier h.last.place reply.request h.last.answer reply.stands in
      let grew = acted_on (decided_values shape log) (decided_values shape before) grown in
      let low = h.reaches in
      let same = reply.number_is in
      has_acted (record {
        request = reply.request;
        stands = subst (In reply.request) (sym grew.1) (In-append_right reply.request grew.0 earlier found);
        is_client = reply.client_is;
        reaches = omega (arith, low, same);
      })

-- What a service holds, one request later.
use Rattle.std.proofs.Common.{◌≡◌, ◌⊎◌, inl, inr, ℕ, ◌+◌, ◌<◌, ◌≤◌, Bool, true, false, cond, not, ◌&&◌, ◌||◌, nat_eq, nat_lt, List, [], ◌∷◌, length, get_or, set, Option, None, Some, max, refl, sym, ◌∙◌, ap, subst, arith}
use Rattle.std.proofs.lemmas.Bool.Decides.{nat_tests}
use Rattle.std.proofs.lemmas.Bool.{eqb-false}
use Rattle.std.proofs.lemmas.List.{get_or-set_same, get_or-set_other}
use borrow.Author.Tests.{ltb-true, eqb-true}
use Rattle.dsr_request.specs.declared.op.Op.{Op}
use Rattle.dsr_request.specs.declared.answer.Answer.{Answer}
use Rattle.dsr_register.specs.Values.{answer_after}
use Rattle.dsr_ledger.specs.declared.reply.Reply.{Reply}
use Rattle.dsr_ledger.specs.LastReply.{last_reply, Acts}
use Rattle.dsr_request.specs.Request.{Request}
use Rattle.dsr_history.specs.History.{rises_above, acting, operations, reply_in}
use Rattle.dsr_register.specs.Table.{StandsFor}
use Rattle.dsr_history.specs.Support.Service.{Service, IsAfter}

-- the client's greatest number among the requests, or 0
top : List Request → ℕ → ℕ
top [] client = 0
top (r ∷ older) client = cond (nat_eq r.client client) (max r.number (top older client)) (top older client)

rises_step : (same below rest : Bool) (number n t : ℕ) → below ≡ nat_lt number n → ((not same || below) && rest) ≡ true → (rest ≡ true → (t < n) ⊎ (t ≡ 0))
    → (cond same (max number t) t < n) ⊎ (cond same (max number t) t ≡ 0)
rises_step true true true number n t e h ih =
    let lt : number < n = ltb-true number n (sym e) in
    elim (ih refl) [ inl less ↦ inl (omega arith) | inr none ↦ inl (omega arith) ]
rises_step true true false number n t e h ih = cc
rises_step true false rest number n t e h ih = cc
rises_step false below true number n t e h ih = ih refl
rises_step false below false number n t e h ih = cc

-- a request that rises has a number above the greatest
above_top : (request : Request) (older : List Request) → rises_above request older ≡ true → (top older request.client < request.number) ⊎ (top older request.client ≡ 0)
unfolding top
above_top request [] h = inr refl
above_top request (r ∷ older) h =
    rises_step (nat_eq r.client request.client) (nat_lt r.number request.number) (rises_above request older) r.number request.number
    (top older request.client) refl h (above_top request older)

falls_step : (same below rest : Bool) (number n t : ℕ) → below ≡ nat_lt number n → ((not same || below) && rest) ≡ false → (rest ≡ false → n ≤ t)
    → n ≤ cond same (max number t) t
falls_step true true true number n t e h ih = cc
falls_step true true false number n t e h ih = let le : n ≤ t = ih refl in omega arith
falls_step true false rest number n t e h ih =
    let le : n ≤ number = grind (arith, nat_tests) in omega arith
falls_step false below true number n t e h ih = cc
falls_step false below false number n t e h ih = ih refl

-- one that does not rise has no greater number
below_top : (request : Request) (older : List Request) → rises_above request older ≡ false → request.number ≤ top older request.client
unfolding top
below_top request [] h = cc
below_top request (r ∷ older) h =
    falls_step (nat_eq r.client request.client) (nat_lt r.number request.number) (rises_above request older) r.number request.number
    (top older request.client) refl h (below_top request older)

-- the number of a reply, or 0
last : Option Reply → ℕ
last None = 0
last (Some r) = r.number

last_step : (rises same : Bool) (request : Request) (older : List Request) (client : ℕ) → rises ≡ rises_above request older → same ≡ nat_eq request.client client
    → last (reply_in (acting older) client) ≡ top older client
    → last (reply_in (cond rises (request ∷ acting older) (acting older)) client) ≡ cond same (max request.number (top older client)) (top older client)
unfolding last
last_step true true request older client e same ih =
    let here : request.client ≡ client = eqb-true request.client client (sym same) in
    let top_here : top older request.client ≡ top older client = ap (top older) here in
    rw (← same) (elim (above_top request older (sym e)) [ inl less ↦ omega arith | inr none ↦ omega arith ])
last_step true false request older client e same ih = rw (← same) ih
last_step false true request older client e same ih =
    let here : request.client ≡ client = eqb-true request.client client (sym same) in
    let le : request.number ≤ top older request.client = below_top request older (sym e) in
    let top_here : top older request.client ≡ top older client = ap (top older) here in
    omega arith
last_step false false request older client e same ih = ih

-- the last reply has the greatest number
last_is_top : (requests : List Request) (client : ℕ) → last (reply_in (acting requests) client) ≡ top requests client
unfolding top last
last_is_top [] client = refl
last_is_top (r ∷ older) client =
    last_step (rises_above r older) (nat_eq r.client client) r older client refl refl (last_is_top older client)

acts_by_last : (kept : Option Reply) (number : ℕ) → Acts kept number → last kept < number
unfolding last
acts_by_last None number h = h
acts_by_last (Some r) number h = h

acts_from_last : (kept : Option Reply) (number : ℕ) → last kept < number → Acts kept number
unfolding last
acts_from_last None number h = h
acts_from_last (Some r) number h = h

rises_cases : (b : Bool) (request : Request) (older : List Request) → b ≡ rises_above request older → top older request.client < request.number → rises_above request older ≡ true
rises_cases true request older e h = sym e
rises_cases false request older e h = absurd (let le : request.number ≤ top older request.client = below_top request older (sym e) in omega arith)

-- the ledger says for each request whether it is to act
pub rises_from_acts : (request : Request) (older : List Request) (kept : Option Reply) → kept ≡ reply_in (acting older) request.client → Acts kept request.number
    → rises_above request older ≡ true
rises_from_acts request older kept is acts =
    let less : last kept < request.number = acts_by_last kept request.number acts in
    let same : last kept ≡ top older request.client = ap last is ∙ last_is_top older request.client in
    rises_cases (rises_above request older) request older refl (omega arith)

falls_cases : (b : Bool) (request : Request) (older : List Request) (kept : Option Reply) → b ≡ rises_above request older → 0 < request.number
    → last kept ≡ top older request.client → (Acts kept request.number → ⊥) → rises_above request older ≡ false
falls_cases true request older kept e some same idle =
    absurd (idle (acts_from_last kept request.number (elim (above_top request older (sym e)) [ inl less ↦ omega arith | inr none ↦ omega arith ])))
falls_cases false request older kept e some same idle = sym e

pub falls_from_idle : (request : Request) (older : List Request) (kept : Option Reply) → 0 < request.number → kept ≡ reply_in (acting older) request.client
    → (Acts kept request.number → ⊥) → rises_above request older ≡ false
falls_from_idle request older kept some is idle =
    falls_cases (rises_above request older) request older kept refl some (ap last is ∙ last_is_top older request.client) idle

-- the parts after a request that acted

replies_step : (b : Bool) (ledger : List (Option Reply)) (h : List Request) (request : Request) (new : Reply) (client : ℕ) → b ≡ nat_eq request.client client
    → request.client < length ledger → new ≡ record { number = request.number; place = length h; answer = answer_after (operations h) request.op }
    → last_reply ledger client ≡ reply_in h client
    → last_reply (set ledger request.client (Some new)) client
    ≡ cond b (Some (record { number = request.number; place = length h; answer = answer_after (operations h) request.op })) (reply_in h client)
replies_step true ledger h request new client e within is same =
    let here : client ≡ request.client = sym (eqb-true request.client client (sym e)) in
    ap (λ c. get_or (set ledger request.client (Some new)) c None) here
    ∙ (get_or-set_same ledger request.client (Some new) None within ∙ ap Some is)
replies_step false ledger h request new client e within is same =
    get_or-set_other ledger request.client client (Some new) None (λ here. eqb-false request.client client (sym e) (sym here)) ∙ same

pub replies_after : (ledger : List (Option Reply)) (h : List Request) (request : Request) (new : Reply) (client : ℕ)
    → request.client < length ledger
    → new ≡ record { number = request.number; place = length h; answer = answer_after (operations h) request.op }
    → ((c : ℕ) → last_reply ledger c ≡ reply_in h c)
    → last_reply (set ledger request.client (Some new)) client ≡ reply_in (request ∷ h) client
replies_after ledger h request new client within is same =
    replies_step (nat_eq request.client client) ledger h request new client refl within is (same client)

pub reply_made : (number place : ℕ) (answer : Answer) (request : Request) (h : List Request) → number ≡ request.number → place ≡ length h
    → answer ≡ answer_after (operations h) request.op
    → ◌≡◌ {A = Reply} (record { number = number; place = place; answer = answer }) (record { number = request.number; place = length h; answer = answer_after (operations h) request.op })
reply_made number place answer request h a b c = λ i. record { number = a i; place = b i; answer = c i }

-- a service after a request that acted
pub service_after : (old new : Service) (history : List Request) (request : Request) (answer : Answer) (number place client : ℕ) → IsAfter old history
    → number ≡ request.number → client ≡ request.client → request.client < length old.replies → place ≡ old.count
    → ((ops : List Op) → StandsFor old.registers ops → answer ≡ answer_after ops request.op)
    → ((ops : List Op) → StandsFor old.registers ops → StandsFor new.registers (request.op ∷ ops))
    → new.replies ≡ set old.replies client (Some (record { number = number; place = place; answer = answer }))
    → new.count ≡ old.count + 1 → IsAfter new (request ∷ history)
service_after old new history request answer number place client m same_number same_client within same_place answers change ledger counted =
    let given : answer ≡ answer_after (operations history) request.op = answers (operations history) m.registers in
    let noted : new.replies ≡ set old.replies request.client (Some (record { number = number; place = place; answer = answer })) =
    ledger ∙ ap (λ c. set old.replies c (Some (record { number = number; place = place; answer = answer }))) same_client in
    record {
      registers = change (operations history) m.registers;
      replies =
          λ c.
          ap (λ l. last_reply l c) noted
          ∙ replies_after old.replies history request (record { number = number; place = place; answer = answer }) c within
          (reply_made number place answer request history same_number (same_place ∙ m.count) given) m.replies;
      count = omega (arith, counted, m.count);
    }

-- a request that is to act, or not, among the requests that the service has processed

pub stays_after : (service : Service) (request : Request) (older : List Request) → IsAfter service (acting older)
    → rises_above request older ≡ false → IsAfter service (acting (request ∷ older))
stays_after service request older m falls = rw falls m

pub comes_after : (service : Service) (request : Request) (older : List Request) → IsAfter service (request ∷ acting older)
    → rises_above request older ≡ true → IsAfter service (acting (request ∷ older))
comes_after service request older m rises = rw rises m

pub service_rises : (service : Service) (request : Request) (older : List Request) (client number : ℕ) → client ≡ request.client → number ≡ request.number
    → Acts (last_reply service.replies client) number → IsAfter service (acting older) → rises_above request older ≡ true
service_rises service request older client number same_client same_number acts m =
    rises_from_acts request older (last_reply service.replies client) (m.replies client ∙ ap (reply_in (acting older)) same_client)
    (subst (Acts (last_reply service.replies client)) same_number acts)

pub service_falls : (service : Service) (request : Request) (older : List Request) (client number : ℕ) → client ≡ request.client → number ≡ request.number
    → 0 < number → (Acts (last_reply service.replies client) number → ⊥) → IsAfter service (acting older) → rises_above request older ≡ false
service_falls service request older client number same_client same_number some idle m =
    falls_from_idle request older (last_reply service.replies client) (subst (λ n. 0 < n) same_number some)
    (m.replies client ∙ ap (reply_in (acting older)) same_client)
    (λ acts. idle (subst (Acts (last_reply service.replies client)) (sym same_number) acts))

-- What a machine's parts hold, one request later.
use Rattle.std.proofs.Common.{◌≡◌, ◌≢◌, ℕ, zero, suc, Bool, true, false, cond, nat_eq, List, [], ◌∷◌, ◌++◌, length, reverse, Option, Some, refl, sym, ◌∙◌, ap, subst, arith, slice_get}
use Rattle.std.proofs.lemmas.Bool.{eqb-false}
use Rattle.std.proofs.lemmas.List.{reverse-append, reverse-reverse, length-reverse}
use borrow.Author.Tests.{eqb-true}
use Rattle.dsr_request.specs.declared.answer.Answer.{Answer}
use Rattle.dsr_register.specs.Values.{answer_after}
use Rattle.dsr_request.specs.Request.{Request}
use Rattle.dsr_history.specs.History.{rises_above, acting, operations, answer_at}
use Rattle.dsr_history.specs.Support.Machine.{answers_of, IsMachine}
use Rattle.dsr_history.specs.Support.Service.{IsAfter}
use Rattle.dsr_history.specs.declared.machine.Machine.TheInside.{Inside}

pub pushed : {A : Type 0} (items new : List A) (x : A) → new ≡ items ++ x ∷ [] → reverse new ≡ x ∷ reverse items
pushed items new x e = ap reverse e ∙ reverse-append items (x ∷ [])

-- the answer at a place

length_answers : (h : List Request) → length (answers_of h) ≡ length h
length_answers [] = refl
length_answers (r ∷ older) = ap suc (length_answers older)

get_here : (xs : List Answer) (a : Answer) (place : ℕ) → length xs ≡ place → slice_get (xs ++ a ∷ []) place ≡ Some a
get_here [] a zero e = refl
get_here [] a (suc place) e = absurd (omega arith)
get_here (x ∷ xs) a zero e = absurd (omega arith)
get_here (x ∷ xs) a (suc place) e = get_here xs a place (omega arith)

get_other : (xs : List Answer) (a : Answer) (place : ℕ) → length xs ≢ place → slice_get (xs ++ a ∷ []) place ≡ slice_get xs place
get_other [] a zero e = absurd (e refl)
get_other [] a (suc place) e = refl
get_other (x ∷ xs) a zero e = refl
get_other (x ∷ xs) a (suc place) e = get_other xs a place (λ h. e (ap suc h))

at_step : (b : Bool) (xs : List Answer) (a : Answer) (n place : ℕ) (rest : Option Answer) → b ≡ nat_eq n place → length xs ≡ n → slice_get xs place ≡ rest
    → slice_get (xs ++ a ∷ []) place ≡ cond b (Some a) rest
at_step true xs a n place rest e long same = get_here xs a place (long ∙ eqb-true n place (sym e))
at_step false xs a n place rest e long same =
    get_other xs a place (λ h. eqb-false n place (sym e) (sym long ∙ h)) ∙ same

answer_in : (h : List Request) (place : ℕ) → slice_get (reverse (answers_of h)) place ≡ answer_at h place
answer_in [] place = refl
answer_in (r ∷ older) place =
    ap (λ xs. slice_get xs place) (reverse-append (answer_after (operations older) r.op ∷ []) (answers_of older))
    ∙ at_step (nat_eq (length older) place) (reverse (answers_of older)) (answer_after (operations older) r.op) (length older) place (answer_at older place) refl
    (length-reverse (answers_of older) ∙ length_answers older) (answer_in older place)

pub answer_kept_at : (items : List Answer) (h : List Request) (place : ℕ) → reverse items ≡ answers_of h → slice_get items place ≡ answer_at h place
answer_kept_at items h place e =
    ap (λ xs. slice_get xs place) (sym (reverse-reverse items) ∙ ap reverse e) ∙ answer_in h place

-- the history that accepting one more request leaves

pub acted_by : (request : Request) (h older : List Request) → h ≡ acting older → rises_above request older ≡ true
    → request ∷ h ≡ acting (request ∷ older)
acted_by request h older e rises =
    ap (λ l. request ∷ l) e ∙ ap (λ b. cond b (request ∷ acting older) (acting older)) (sym rises)

pub idle_by : (request : Request) (h older : List Request) → h ≡ acting older → rises_above request older ≡ false → h ≡ acting (request ∷ older)
idle_by request h older e falls = e ∙ ap (λ b. cond b (request ∷ acting older) (acting older)) (sym falls)

-- a machine after a request that acted
pub machine_after : (a b : Inside) (request : Request) (answer : Answer) → IsMachine a
    → IsAfter b.service (request ∷ reverse a.history.items) → answer ≡ answer_after (operations (reverse a.history.items)) request.op
    → b.history.items ≡ a.history.items ++ request ∷ [] → b.answers.items ≡ a.answers.items ++ answer ∷ [] → IsMachine b
machine_after a b request answer m after given history kept =
    let later : reverse b.history.items ≡ request ∷ reverse a.history.items = pushed a.history.items b.history.items request history in
    record {
      service = subst (IsAfter b.service) (sym later) after;
      answers =
          pushed a.answers.items b.answers.items answer kept
          ∙ (ap (λ x. x ∷ reverse a.answers.items) given
          ∙ (ap (λ xs. answer_after (operations (reverse a.history.items)) request.op ∷ xs) m.answers
          ∙ ap answers_of (sym later)));
    }

-- Laws over histories.
use Rattle.std.proofs.Common.{◌≡◌, ℕ, ◌<◌, Bool, true, false, cond, not, ◌&&◌, ◌||◌, nat_eq, nat_lt, List, [], ◌∷◌, ◌++◌, length, reverse, refl, sym, ◌∙◌, ap, subst, arith, append_assoc, length-append, eq-eqb}
use borrow.Author.Tests.{ltb-true}
use Rattle.std.proofs.lemmas.Bool.{ne_eqb}
use Rattle.dsr_base.specs.Member.{In, here, there}
use Rattle.dsr_base.specs.Growth.{Extends}
use Rattle.dsr_request.specs.Request.{Request}
use Rattle.dsr_history.specs.History.{requests_of, rises_above, acting, acted, answer_at, IsLegal}
use Rattle.dsr_history.proofs.Standing.{In-acting}

-- prefixes

pub requests-append : (newer older : List (List Request)) → requests_of (newer ++ older) ≡ requests_of newer ++ requests_of older
requests-append [] older = refl
requests-append (v ∷ newer) older = ap (λ rs. reverse v ++ rs) (requests-append newer older) ∙ sym (append_assoc (reverse v) (requests_of newer) (requests_of older))

acting_step : (b : Bool) (request : Request) (h earlier newer : List Request) → h ≡ newer ++ earlier
    → (more : List Request) × (cond b (request ∷ h) h ≡ more ++ earlier)
acting_step true request h earlier newer e = (request ∷ newer, ap (λ l. request ∷ l) e)
acting_step false request h earlier newer e = (newer, e)

acting-append : (newer older : List Request) → (more : List Request) × (acting (newer ++ older) ≡ more ++ acting older)
acting-append [] older = ([], refl)
acting-append (r ∷ newer) older =
    let rest = acting-append newer older in
    acting_step (rises_above r (newer ++ older)) r (acting (newer ++ older)) (acting older) rest.0 rest.1

answer_kept : (newer earlier : List Request) (place : ℕ) → place < length earlier → answer_at (newer ++ earlier) place ≡ answer_at earlier place
answer_kept [] earlier place h = refl
answer_kept (r ∷ newer) earlier place h =
    let other : nat_eq (length (newer ++ earlier)) place ≡ false =
    ne_eqb (length (newer ++ earlier)) place (λ e. omega (arith, length-append newer earlier)) in
    rw other (answer_kept newer earlier place h)

pub acted_extends : (newer values : List (List Request)) → Extends (acted (newer ++ values)) (acted values)
acted_extends newer values =
    let parts = acting-append (requests_of newer) (requests_of values) in
    (parts.0, ap acting (requests-append newer values) ∙ parts.1)

pub answers_kept : (newer values : List (List Request)) (place : ℕ) → place < length (acted values)
    → answer_at (acted (newer ++ values)) place ≡ answer_at (acted values) place
answers_kept newer values place h =
    let grew = acted_extends newer values in
    ap (λ later. answer_at later place) grew.1 ∙ answer_kept grew.0 (acted values) place h

-- numbers rise

both_true : (a b : Bool) → (a && b) ≡ true → (a ≡ true) × (b ≡ true)
both_true true b h = (refl, h)
both_true false b h = cc

number_above : (same below : Bool) → (not same || below) ≡ true → same ≡ true → below ≡ true
number_above true below h e = h
number_above false below h e = cc

ltb_holds : (a b : ℕ) → nat_lt a b ≡ true → a < b
ltb_holds a b h = ltb-true a b h

-- what rises above all older requests rises above each of them
rises_over : (request q : Request) (older : List Request) → rises_above request older ≡ true → In q older → q.client ≡ request.client → q.number < request.number
rises_over request q [] h inside = elim inside [ ]
rises_over request q (r ∷ older) h (here e) =
    let parts = both_true (not (nat_eq r.client request.client) || nat_lt r.number request.number) (rises_above request older) h in
    subst (λ x. x.client ≡ request.client → x.number < request.number) e
    (λ same. ltb_holds r.number request.number (number_above (nat_eq r.client request.client) (nat_lt r.number request.number) parts.0 (eq-eqb r.client request.client same)))
rises_over request q (r ∷ older) h (there inside) =
    let parts = both_true (not (nat_eq r.client request.client) || nat_lt r.number request.number) (rises_above request older) h in
    rises_over request q older parts.1 inside

legal_step : (b : Bool) (request : Request) (older : List Request) → b ≡ rises_above request older → IsLegal (acting older) → IsLegal (cond b (request ∷ acting older) (acting older))
legal_step true request older e h = (λ q inside. rises_over request q older (sym e) (In-acting q older inside), h)
legal_step false request older e h = h

pub legal_acting : (requests : List Request) → IsLegal (acting requests)
legal_acting [] = tt
legal_acting (r ∷ older) = legal_step (rises_above r older) r older refl (legal_acting older)

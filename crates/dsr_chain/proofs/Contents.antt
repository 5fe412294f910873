-- Lists of signed requests with the same requests, whatever signatures are beside them.
use Rattle.std.proofs.Common.{◌≡◌, ◌≤◌, ◌-◌, ◌↔◌, Bool, true, false, List, [], ◌∷◌, length, take, drop, get_or, map, arith, ap, ap₂, sym, ◌∙◌, refl, None, Some}
use Rattle.std.specs.Prelude.{IsTrue}
use Rattle.std.proofs.lemmas.Grind.{common_steps}
use Rattle.dsr_request.specs.Request.{Request}
use Rattle.std.proofs.lemmas.Option.{same_Some}
use Rattle.dsr_chain.specs.Content.{content, requests_in}
use Rattle.dsr_chain.specs.declared.signed_request.SignedRequest.{SignedRequest}
use Rattle.dsr_chain.specs.declared.slot_value.SlotValue.{SlotValue}
use Rattle.dsr_chain.specs.declared.slot_value.SlotValue.TheVariants.{Idle, Act}

abbrev requests : List SignedRequest → List Request
requests signed = map (λ s. s.request) signed

rest_is : (x : SignedRequest) (xs : List SignedRequest) → take (length (x ∷ xs) - 1) (drop 1 (x ∷ xs)) ≡ xs
rest_is x xs = grind (arith, common_steps)

-- the first requests are the same
pub decided_by_rest : (xs ys : List SignedRequest) (x y : SignedRequest) (rest : Bool) → 1 ≤ length xs → 1 ≤ length ys
    → x ≡ get_or xs 0 x → y ≡ get_or ys 0 y → x.request ≡ y.request
    → (IsTrue rest ↔ (requests (take (length xs - 1) (drop 1 xs)) ≡ requests (take (length ys - 1) (drop 1 ys))))
    → IsTrue rest ↔ (requests xs ≡ requests ys)
decided_by_rest [] ys x y rest some some_other x_is y_is same tests = absurd (omega arith)
decided_by_rest (a ∷ xs) [] x y rest some some_other x_is y_is same tests = absurd (omega arith)
decided_by_rest (a ∷ xs) (b ∷ ys) x y rest some some_other x_is y_is same tests =
    let first : a.request ≡ b.request = sym (ap (λ s. s.request) x_is) ∙ (same ∙ ap (λ s. s.request) y_is) in (
      λ t. ap₂ (λ z zs. z ∷ zs) first (ap requests (sym (rest_is a xs)) ∙ (tests.0 t ∙ ap requests (rest_is b ys))),
      λ e. let later : requests xs ≡ requests ys = cc in tests.1 (ap requests (rest_is a xs) ∙ (later ∙ ap requests (sym (rest_is b ys)))),
    )

-- the first requests differ
pub decided_by_first : (xs ys : List SignedRequest) (x y : SignedRequest) (first : Bool) → 1 ≤ length xs → 1 ≤ length ys
    → x ≡ get_or xs 0 x → y ≡ get_or ys 0 y → (IsTrue first ↔ (x.request ≡ y.request)) → first ≡ false
    → IsTrue first ↔ (requests xs ≡ requests ys)
decided_by_first [] ys x y first some some_other x_is y_is tests differ = absurd (omega arith)
decided_by_first (a ∷ xs) [] x y first some some_other x_is y_is tests differ = absurd (omega arith)
decided_by_first (a ∷ xs) (b ∷ ys) x y first some some_other x_is y_is tests differ = (
  λ t. let e : true ≡ false = sym t ∙ differ in cc,
  λ e. let heads : a.request ≡ b.request = cc in tests.1 (ap (λ s. s.request) x_is ∙ (heads ∙ sym (ap (λ s. s.request) y_is))),
)

-- what a content says about the requests

pub requests_of_content : (value : SlotValue) (them : List Request) → content value ≡ Some them → requests_in value ≡ them
requests_of_content Idle them e = cc
requests_of_content (Act batch) them e = same_Some (map (λ s. s.request) batch) them e

pub no_requests : (value : SlotValue) → content value ≡ None → requests_in value ≡ []
no_requests Idle e = refl
no_requests (Act batch) e = cc

-- Values with the same signed requests are equal, and `==` of two values decides whether they are.
use Rattle.std.proofs.Common.{◌≡◌, List, [], ◌∷◌, refl, ap, sym, ◌∙◌}
use Rattle.std.specs.Bool.{Decides}
use Rattle.std.proofs.lemmas.Bool.Decides.{Decides-like}
use Rattle.dsr_chain.specs.Support.BatchEquality.{batch_eq, batch_eq-Decides}
use Rattle.dsr_chain.specs.Support.SignedLists.{value_of}
use Rattle.dsr_chain.specs.declared.signed_request.SignedRequest.{SignedRequest}
use Rattle.dsr_chain.specs.declared.slot_value.SlotValue.{SlotValue}
use Rattle.dsr_chain.specs.declared.slot_value.SlotValue.TheVariants.{Idle, Act}
use Rattle.dsr_chain.specs.contracts.slot_value.SlotValuePartialEq.TheImpl.{ghosts}

same_lists : (xs ys : List SignedRequest) → value_of xs ≡ value_of ys → xs ≡ ys
same_lists [] [] e = refl
same_lists [] (y ∷ ys) e = cc
same_lists (x ∷ xs) [] e = cc
same_lists (x ∷ xs) (y ∷ ys) e = cc

pub same_value-Decides : (xs ys : List SignedRequest) (v w : SlotValue) → value_of xs ≡ v → value_of ys ≡ w → Decides (batch_eq xs ys) (v ≡ w)
same_value-Decides xs ys v w v_is w_is =
    Decides-like (batch_eq xs ys) (λ e. sym v_is ∙ (ap value_of e ∙ w_is)) (λ e. same_lists xs ys (v_is ∙ (e ∙ sym w_is))) (batch_eq-Decides xs ys)

pub slot_value_eq-Decides : (v w : SlotValue) → Decides (ghosts.eq v w) (v ≡ w)
slot_value_eq-Decides Idle Idle = (λ e. refl, λ e. refl)
slot_value_eq-Decides Idle (Act ys) = (λ e. cc, λ e. cc)
slot_value_eq-Decides (Act xs) Idle = (λ e. cc, λ e. cc)
slot_value_eq-Decides (Act xs) (Act ys) = Decides-like (batch_eq xs ys) (λ e. cc) (λ e. cc) (batch_eq-Decides xs ys)

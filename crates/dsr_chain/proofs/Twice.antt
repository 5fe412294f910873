-- When an actor is twice in a list that begins with x.
use Rattle.std.proofs.Common.{◌≡◌, ℕ, zero, suc, ◌<◌, ◌≤◌, ◌-◌, ◌↔◌, Bool, true, false, length, take, drop, get_or, subst, List, [], ◌∷◌, Some, arith, refl, ap, sym, ◌∙◌}
use Rattle.std.specs.Prelude.{Any, IsTrue, slice_get}
use Rattle.std.proofs.lemmas.Grind.{common_steps}
use Rattle.std.proofs.lemmas.Option.{slice_get_within, get_or_from_slice_get, slice_get-get_or}
use Rattle.dsr_names.specs.declared.actor.Actor.{Actor}
use Rattle.dsr_chain.specs.Faults.{StandsTwice}

pub none_twice : StandsTwice [] → ⊥
none_twice h = let inside = slice_get_within [] h.first h.signer h.at_first in omega arith

pub first_again : (x : Actor) (xs : List Actor) → Any (λ b. b ≡ x) xs → StandsTwice (x ∷ xs)
first_again x xs (k, b, inside, is, same) =
    record {
      first = 0;
      second = suc k;
      apart = omega arith;
      signer = x;
      at_first = refl;
      at_second = slice_get-get_or xs k b inside ∙ ap Some (is ∙ same);
    }

pub twice_later : (x : Actor) (xs : List Actor) → StandsTwice xs → StandsTwice (x ∷ xs)
twice_later x xs h =
    record {
      first = suc h.first;
      second = suc h.second;
      apart = omega (arith, h.apart);
      signer = h.signer;
      at_first = h.at_first;
      at_second = h.at_second;
    }

some_again : (x a : Actor) (xs : List Actor) (k : ℕ) → Some x ≡ Some a → slice_get xs k ≡ Some a → Any (λ b. b ≡ x) xs
some_again x a xs k same stands =
    (k, a, slice_get_within xs k a stands, get_or_from_slice_get xs k a a stands, cc)

places : (x : Actor) (xs : List Actor) (i j : ℕ) (a : Actor) → i < j → slice_get (x ∷ xs) i ≡ Some a → slice_get (x ∷ xs) j ≡ Some a
    → (Any (λ b. b ≡ x) xs → ⊥) → StandsTwice xs
places x xs zero zero a apart at_first at_second once = absurd (omega arith)
places x xs (suc i) zero a apart at_first at_second once = absurd (omega arith)
places x xs zero (suc j) a apart at_first at_second once = absurd (once (some_again x a xs j at_first at_second))
places x xs (suc i) (suc j) a apart at_first at_second once =
    record { first = i; second = j; apart = omega arith; signer = a; at_first = at_first; at_second = at_second }

pub only_later : (x : Actor) (xs : List Actor) → (Any (λ b. b ≡ x) xs → ⊥) → StandsTwice (x ∷ xs) → StandsTwice xs
only_later x xs once h = places x xs h.first h.second h.signer h.apart h.at_first h.at_second once

rest_is : (y : Actor) (ys : List Actor) → take (length (y ∷ ys) - 1) (drop 1 (y ∷ ys)) ≡ ys
rest_is y ys = grind (arith, common_steps)

-- the first signer is among the others
pub decided_by_first : (signers : List Actor) (x : Actor) (r : Bool) → 1 ≤ length signers → x ≡ get_or signers 0 x
    → (IsTrue r ↔ Any (λ a. a ≡ x) (take (length signers - 1) (drop 1 signers))) → r ≡ true → IsTrue r ↔ StandsTwice signers
decided_by_first [] x r some is tests is_true = absurd (omega arith)
decided_by_first (y ∷ ys) x r some is tests is_true =
    let again : Any (λ a. a ≡ y) ys = subst (λ z. Any (λ a. a ≡ z) ys) is (subst (λ l. Any (λ a. a ≡ x) l) (rest_is y ys) (tests.0 is_true)) in
    (λ _. first_again y ys again, λ _. is_true)

-- the first signer is not among the others
pub decided_by_rest : (signers : List Actor) (x : Actor) (r later : Bool) → 1 ≤ length signers → x ≡ get_or signers 0 x
    → (IsTrue r ↔ Any (λ a. a ≡ x) (take (length signers - 1) (drop 1 signers))) → r ≡ false
    → (IsTrue later ↔ StandsTwice (take (length signers - 1) (drop 1 signers))) → IsTrue later ↔ StandsTwice signers
decided_by_rest [] x r later some is tests is_false decides = absurd (omega arith)
decided_by_rest (y ∷ ys) x r later some is tests is_false decides =
    let once : Any (λ a. a ≡ y) ys → ⊥ = λ again.
    let is_true : r ≡ true = tests.1 (subst (λ l. Any (λ a. a ≡ x) l) (sym (rest_is y ys)) (subst (λ z. Any (λ a. a ≡ z) ys) (sym is) again)) in
    cc in (
      λ t. twice_later y ys (subst StandsTwice (rest_is y ys) (decides.0 t)),
      λ h. decides.1 (subst StandsTwice (sym (rest_is y ys)) (only_later y ys once h)),
    )

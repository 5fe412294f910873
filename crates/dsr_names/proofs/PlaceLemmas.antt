-- Each actor of a shape has a place of its own, and each place an actor.
use Rattle.std.proofs.Common.{◌≡◌, ℕ, ◌+◌, ◌-◌, ◌<◌, nat_lt, Bool, true, false, if◌then◌else◌, refl, ap, ◌∙◌, arith}
use Rattle.std.proofs.lemmas.Bool.Decides.{nat_tests}
use Rattle.dsr_names.specs.Places.{size, place_of, actor_at}
use Rattle.dsr_names.specs.Shape.{Shape, IsActor}
use Rattle.dsr_names.specs.declared.actor.Actor.{Actor}
use Rattle.dsr_names.specs.declared.actor.Actor.TheVariants.{Replica, Client}

pub place_below : (shape : Shape) (who : Actor) → IsActor shape who → place_of shape who < size shape
place_below shape (Replica p) inside = omega (arith, inside)
place_below shape (Client c) inside = omega (arith, inside)

pub same_place : (shape : Shape) (a b : Actor) → IsActor shape a → IsActor shape b → place_of shape a ≡ place_of shape b → a ≡ b
same_place shape (Replica p) (Replica q) inside too e = ap Replica e
same_place shape (Replica p) (Client c) inside too e = absurd (omega (arith, inside, e))
same_place shape (Client c) (Replica q) inside too e = absurd (omega (arith, too, e))
same_place shape (Client c) (Client d) inside too e = let same : c ≡ d = omega (arith, e) in ap Client same

below : (a b : ℕ) → a < b → nat_lt a b ≡ true
below a b less = grind (arith, nat_tests)

not_below : (n c : ℕ) → nat_lt (n + c) n ≡ false
not_below n c = grind (arith, nat_tests)

pub actor_of_place : (shape : Shape) (a : Actor) → IsActor shape a → actor_at shape (place_of shape a) ≡ a
actor_of_place shape (Replica p) inside = ap (λ b. if b then Replica p else Client (p - shape.n)) (below p shape.n inside)
actor_of_place shape (Client c) inside =
    let less : (shape.n + c) - shape.n ≡ c = omega arith in
    ap (λ b. if b then Replica (shape.n + c) else Client ((shape.n + c) - shape.n)) (not_below shape.n c) ∙ ap Client less

pub place_of_actor : (shape : Shape) (place : ℕ) → place < size shape → place_of shape (actor_at shape place) ≡ place
place_of_actor shape place inside = by_test (nat_lt place shape.n) refl
  where
    by_test : (b : Bool) → nat_lt place shape.n ≡ b → place_of shape (if b then Replica place else Client (place - shape.n)) ≡ place
    by_test true e = refl
    by_test false e = grind (arith, nat_tests)

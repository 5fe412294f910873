-- Seats stay those of the same actors at the same mail.
use Rattle.std.proofs.Common.{◌≡◌, ℕ, zero, suc, ◌<◌, Bool, List, [], ◌∷◌, refl, ap, sym, ◌∙◌, subst, arith, length, get_or, set}
use Rattle.std.proofs.Math.Seq.{map-set_same}
use Rattle.std.proofs.lemmas.List.Elements.{All-set}
use Rattle.std.specs.Prelude.{map}
use Rattle.dsr_names.specs.Shape.{Shape}
use Rattle.dsr_names.specs.declared.actor.Actor.{Actor}
use Rattle.dsr_boxes.specs.Pass.{SharedBoxes, Pass, IsPassOf, new_pass}
use Rattle.dsr_mail.specs.Seats.{actors_of, AreSeatsOf}
use Rattle.dsr_hosts_tests.specs.Same.{IsSameSeat}

-- seats stay those of a mail if one of them is replaced by the same seat
pub seats_stay : (mail : SharedBoxes) (kind : Shape → Actor → Bool) (xs : List Pass) (place : ℕ) (old new : Pass) → AreSeatsOf mail kind xs
    → place < length xs → old ≡ get_or xs place old → IsSameSeat old new → AreSeatsOf mail kind (set xs place new)
seats_stay mail kind xs place old new are below at same =
    let pass : IsPassOf mail (get_or xs place old) = are.0 place old below in (
      All-set (IsPassOf mail) xs place new
          (same.0 ∙ (ap (λ (seat : Pass). seat.id) at ∙ pass.0), same.1 ∙ (ap (λ (seat : Pass). seat.shape) at ∙ pass.1)) are.0,
      map-set_same (λ (seat : Pass). seat.actor) xs place new old (same.2 ∙ ap (λ (seat : Pass). seat.actor) at) ∙ are.1,
    )

-- new seats are those of their mail
pub all_new : (mail : SharedBoxes) (actors : List Actor) (k : ℕ) (d : Pass) → k < length (map (new_pass mail) actors)
    → IsPassOf mail (get_or (map (new_pass mail) actors) k d)
all_new mail [] k d below = absurd (omega (arith, below))
all_new mail (a ∷ rest) zero d below = (refl, refl)
all_new mail (a ∷ rest) (suc k) d below = all_new mail rest k d (omega (arith, below))

-- and of their actors
pub same_actors : (mail : SharedBoxes) (actors : List Actor) → map (λ (seat : Pass). seat.actor) (map (new_pass mail) actors) ≡ actors
same_actors mail [] = refl
same_actors mail (a ∷ rest) = ap (λ l. a ∷ l) (same_actors mail rest)

-- so they are the seats of a mail
pub new_seats : (mail : SharedBoxes) (kind : Shape → Actor → Bool) (xs : List Pass) → xs ≡ map (new_pass mail) (actors_of kind mail.shape)
    → AreSeatsOf mail kind xs
new_seats mail kind xs is =
    subst (AreSeatsOf mail kind) (sym is) (all_new mail (actors_of kind mail.shape), same_actors mail (actors_of kind mail.shape))

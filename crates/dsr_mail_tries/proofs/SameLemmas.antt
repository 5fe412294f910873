-- Seats stay those of the same actors at the same mail.
use Rattle.std.proofs.Common.{◌≡◌, ℕ, zero, suc, ◌<◌, Bool, List, [], ◌∷◌, ◌++◌, length, take, get_or, set, inl, inr, refl, ap, ap₂, sym, ◌∙◌, subst, arith, get_or-set_same, get_or-set_other, length-set}
use Rattle.std.proofs.lemmas.List.{get_or_default, take_at}
use Rattle.std.proofs.lemmas.Bool.{cases_eq}
use Rattle.std.specs.Prelude.{map}
use Rattle.dsr_names.specs.Shape.{Shape}
use Rattle.dsr_names.specs.declared.actor.Actor.{Actor}
use Rattle.dsr_boxes.specs.Pass.{SharedBoxes, Pass, new_pass}
use Rattle.dsr_mail.specs.Seats.{actors_of, AreSeatsOf}
use Rattle.dsr_mail_tries.specs.Same.{IsSameSeat, AreOfMail, AreSameSeats}

-- "the same seat" is transitive
pub same_twice : (one other last : Pass) → IsSameSeat one other → IsSameSeat other last → IsSameSeat one last
same_twice one other last first second = (second.0 ∙ first.0, second.1 ∙ first.1, second.2 ∙ first.2)

module _ {P : Type 0} (pass : P → Pass) where
  -- at first each seat is as it was
  pub same_at_first : (xs : List P) → AreSameSeats pass xs xs
  same_at_first xs = (refl, λ k d below. (refl, refl, refl))

  -- seats that are the same are of the same mail
  pub of_mail_on : (mail : SharedBoxes) (xs ys : List P) → AreSameSeats pass xs ys → AreOfMail pass mail xs → AreOfMail pass mail ys
  of_mail_on mail xs ys same are k d below =
      let short : k < length xs = omega (arith, same.0, below) in
      let s = same.1 k d short in
      let a = are k d short in
      (s.0 ∙ a.0, s.1 ∙ a.1)

  -- they stay the same if one of them is replaced by the same seat
  pub same_at : (xs ys : List P) (place : ℕ) (old new : P) → AreSameSeats pass xs ys → place < length ys
      → IsSameSeat (pass (get_or ys place old)) (pass new) → AreSameSeats pass xs (set ys place new)
  same_at xs ys place old new same below one = (
    length-set ys place new ∙ same.0,
    λ k d short. elim (cases_eq k place) [
      | inl is ↦
          let there : get_or ys k d ≡ get_or ys place old = ap (λ i. get_or ys i d) is ∙ get_or_default ys place d old below in
          let here_now : get_or (set ys place new) k d ≡ new =
          ap (λ i. get_or (set ys place new) i d) is ∙ get_or-set_same ys place new d below in
          subst (λ y. IsSameSeat (pass (get_or xs k d)) (pass y)) (sym here_now)
          (same_twice (pass (get_or xs k d)) (pass (get_or ys place old)) (pass new)
          (subst (λ y. IsSameSeat (pass (get_or xs k d)) (pass y)) there (same.1 k d short)) one)
      | inr apart ↦
          subst (λ y. IsSameSeat (pass (get_or xs k d)) (pass y)) (sym (get_or-set_other ys place k new d apart)) (same.1 k d short)
    ],
  )

-- new seats of a mail are seats of this mail
pub new_of_mail : (mail : SharedBoxes) (actors : List Actor) (xs : List Pass) → xs ≡ map (new_pass mail) actors → AreOfMail (λ seat. seat) mail xs
new_of_mail mail actors xs is = subst (AreOfMail (λ seat. seat) mail) (sym is) (all_new actors)
  where
    all_new : (actors : List Actor) → AreOfMail (λ seat. seat) mail (map (new_pass mail) actors)
    all_new [] k d below = absurd (omega (arith, below))
    all_new (a ∷ rest) zero d below = (refl, refl)
    all_new (a ∷ rest) (suc k) d below = all_new rest k d (omega (arith, below))

-- seats that are the same as new ones are those of the same actors
pub same_actors : (mail : SharedBoxes) (actors : List Actor) (ys : List Pass) → AreSameSeats (λ seat. seat) (map (new_pass mail) actors) ys
    → map (λ (seat : Pass). seat.actor) ys ≡ actors
same_actors mail [] [] same = refl
same_actors mail [] (y ∷ ys) same = absurd (omega (arith, same.0))
same_actors mail (a ∷ rest) [] same = absurd (omega (arith, same.0))
same_actors mail (a ∷ rest) (y ∷ ys) same =
    ap₂ (λ b bs. b ∷ bs) (same.1 0 y (omega arith)).2
    (same_actors mail rest ys (omega (arith, same.0), λ k d below. same.1 (suc k) d (omega (arith, below))))

-- so all seats come back
pub come_back : (mail : SharedBoxes) (kind : Shape → Actor → Bool) (xs ys : List Pass) → xs ≡ map (new_pass mail) (actors_of kind mail.shape)
    → AreSameSeats (λ seat. seat) xs ys → AreSeatsOf mail kind ys
come_back mail kind xs ys is same = (
  of_mail_on (λ seat. seat) mail xs ys same (new_of_mail mail (actors_of kind mail.shape) xs is),
  same_actors mail (actors_of kind mail.shape) ys (subst (λ l. AreSameSeats (λ seat. seat) l ys) is same),
)

-- also if a list of them was written through a slice
pub come_back_written : (mail : SharedBoxes) (kind : Shape → Actor → Bool) (xs ys zs : List Pass) (n : ℕ)
    → xs ≡ map (new_pass mail) (actors_of kind mail.shape) → length xs ≡ n → AreSameSeats (λ seat. seat) xs ys
    → AreSeatsOf mail kind (take n (ys ++ zs))
come_back_written mail kind xs ys zs n is long same =
    subst (AreSeatsOf mail kind) (sym (take_at ys zs n (same.0 ∙ long))) (come_back mail kind xs ys is same)

-- What two loyal replicas of three post in round 0, in which the traitor is the sender: the empty envelope. For the tests.
use Rattle.std.proofs.Common.{◌≡◌, ℕ, ◌<◌, ◌^◌, false, List, [], ◌∷◌, Some, ◌⊎◌, inl, inr, refl, sym, subst, ◌∙◌, arith}
use Rattle.std.proofs.lemmas.Bool.{false≢true}
use Rattle.std.proofs.lemmas.Bool.Decides.{nat_tests}
use Rattle.dsr_names.specs.Shape.{Shape, shape_of, is_traitor}
use Rattle.dsr_names.specs.declared.actor.Actor.{Actor}
use Rattle.dsr_names.specs.declared.actor.Actor.TheVariants.{Replica}
use Rattle.dsr_envelope.specs.declared.envelope.Envelope.TheVariants.{Empty}
use Rattle.dsr_envelope.specs.declared.entry.Entry.{Entry}
use Rattle.dsr_envelope.specs.declared.entry.Entry.TheVariants.{Post}
use Rattle.dsr_envelope.specs.declared.pick.Pick.TheVariants.{Plain}
use Rattle.dsr_envelope.specs.Log.{rounds}
use Rattle.dsr_node.specs.Conduct.{post_of}
use Rattle.dsr_run.specs.OwnStep.{MayPost}

abbrev small : Shape
small = shape_of 3 1 2 1

abbrev IsLoyalOfSmall : Actor → Type 0
IsLoyalOfSmall me = (me ≡ Replica 1) ⊎ (me ≡ Replica 2)

-- a loyal replica may post the envelope that its log gives
may_post : (p q : ℕ) (log : List Entry) → is_traitor small p ≡ false → post_of small log (Replica p) (Replica q) Plain ≡ Some Empty
    → rounds small log < 2 ^ 36 → MayPost small (Replica p) log (Replica q) Empty
may_post p q log loyal gives early = record {
  keeps = λ _. ((Plain, tt, gives), early);
  fits = λ is. absurd (false≢true (sym loyal ∙ is));
  forges = λ is s carries. absurd (false≢true (sym loyal ∙ is));
}

one_first : post_of small [] (Replica 1) (Replica 0) Plain ≡ Some Empty
one_first = grind (arith, nat_tests)

two_first : post_of small [] (Replica 2) (Replica 0) Plain ≡ Some Empty
two_first = grind (arith, nat_tests)

pub posts_first : (me : Actor) → IsLoyalOfSmall me → MayPost small me [] (Replica 0) Empty
posts_first me (inl is) = subst (λ a. MayPost small a [] (Replica 0) Empty) (sym is) (may_post 1 0 [] refl one_first (omega arith))
posts_first me (inr is) = subst (λ a. MayPost small a [] (Replica 0) Empty) (sym is) (may_post 2 0 [] refl two_first (omega arith))

abbrev after_one : List Entry
after_one = Post (Replica 0) Empty ∷ []

pub posts_second : (me : Actor) → IsLoyalOfSmall me → MayPost small me after_one (Replica 1) Empty
posts_second me (inl is) = subst (λ a. MayPost small a after_one (Replica 1) Empty) (sym is) (may_post 1 1 after_one refl refl (omega arith))
posts_second me (inr is) = subst (λ a. MayPost small a after_one (Replica 1) Empty) (sym is) (may_post 2 1 after_one refl refl (omega arith))

abbrev after_two : List Entry
after_two = Post (Replica 1) Empty ∷ after_one

pub posts_third : (me : Actor) → IsLoyalOfSmall me → MayPost small me after_two (Replica 2) Empty
posts_third me (inl is) = subst (λ a. MayPost small a after_two (Replica 2) Empty) (sym is) (may_post 1 2 after_two refl refl (omega arith))
posts_third me (inr is) = subst (λ a. MayPost small a after_two (Replica 2) Empty) (sym is) (may_post 2 2 after_two refl refl (omega arith))

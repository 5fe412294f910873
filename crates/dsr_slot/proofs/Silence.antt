-- There is a broadcast of every value whose requests were asked: the one in which traitors give nothing.
use Rattle.std.proofs.Common.{◌≡◌, ℕ, zero, suc, false, List, [], if◌then◌else◌, refl, ap, sym, ◌∙◌, subst}
use Rattle.std.specs.Prelude.{All}
use Rattle.std.proofs.lemmas.Bool.{cond-true, cond-false}
use Rattle.dsr_base.specs.Member.{In}
use Rattle.dsr_names.specs.Shape.{Shape, is_traitor}
use Rattle.dsr_names.specs.declared.actor.Actor.TheVariants.{Replica}
use Rattle.dsr_chain.specs.Content.{signed_in}
use Rattle.dsr_chain.specs.Proper.{IsAsked}
use Rattle.dsr_chain.specs.declared.slot_value.SlotValue.{SlotValue}
use Rattle.dsr_slot.specs.declared.kept.Kept.{Kept}
use Rattle.dsr_slot.specs.Keeping.{keep, kept_after}
use Rattle.dsr_slot.specs.Conduct.{posted}
use Rattle.dsr_slot.specs.Broadcast.{Exchange, IsBroadcast, AreTraitorsSilent, from_each, read_by}

nothing_in_none : {X P : Type 0} (x : X) (xs : List X) → xs ≡ [] → In x xs → P
nothing_in_none {P = P} x xs none h = empty (subst (In x) none h)
  where
    empty : In x [] → P
    empty h = elim h [ ]

module _ (shape : Shape) (slot : ℕ) (value : SlotValue) where
  -- what each replica keeps after the first rounds, reading only what the loyal ones post
  abbrev kept_by : ℕ → ℕ → List Kept
  kept_by zero p = []
  kept_by (suc r) p =
      keep shape slot (suc r) (kept_by r p)
      (from_each shape.n (λ q. if is_traitor shape q then [] else posted shape slot (Replica q) value (suc r) (kept_by r q)))

  -- what each replica gives in each round
  abbrev silent : Exchange
  silent zero poster taker = []
  silent (suc r) poster taker =
      if is_traitor shape poster then [] else posted shape slot (Replica poster) value (suc r) (kept_by r poster)

  kept_is : (p r : ℕ) → kept_after shape slot (read_by shape silent p) r ≡ kept_by r p
  kept_is p zero = refl
  kept_is p (suc r) = ap (λ ks. keep shape slot (suc r) ks (read_by shape silent p (suc r))) (kept_is p r)

  are_silent : AreTraitorsSilent shape silent
  are_silent zero poster taker traitor = refl
  are_silent (suc r) poster taker traitor =
      cond-true (is_traitor shape poster) [] (posted shape slot (Replica poster) value (suc r) (kept_by r poster)) traitor

  loyal_give : (r poster taker : ℕ) → is_traitor shape poster ≡ false
      → silent (suc r) poster taker ≡ posted shape slot (Replica poster) value (suc r) (kept_after shape slot (read_by shape silent poster) r)
  loyal_give r poster taker loyal =
      cond-false (is_traitor shape poster) [] (posted shape slot (Replica poster) value (suc r) (kept_by r poster)) loyal
      ∙ ap (posted shape slot (Replica poster) value (suc r)) (sym (kept_is poster r))

  pub silent_broadcast : All (IsAsked shape) (signed_in value) → (given : Exchange) × IsBroadcast shape slot value given × AreTraitorsSilent shape given
  silent_broadcast asked = (
    silent,
    record {
      asked = asked;
      loyal = λ r poster taker within loyal inside. loyal_give r poster taker loyal.1;
      unforged = λ r poster taker l chain s within below traitor inside stands signed loyal signer link.
          nothing_in_none chain (silent (suc r) poster taker) (are_silent (suc r) poster taker traitor) stands;
    },
    are_silent,
  )

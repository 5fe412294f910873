-- What a replica keeps, posts and decides for a slot does not depend on who is a traitor.
use Rattle.std.proofs.Common.{◌≡◌, ℕ, zero, suc, ◌&&◌, ◌==◌, not, nat_lt, List, [], ◌∷◌, ◌++◌, length, if◌then◌else◌, refl, ap, ◌∙◌}
use Rattle.std.specs.Prelude.{fold}
use Rattle.dsr_names.specs.Shape.{Shape, AgreeButForTraitors}
use Rattle.dsr_names.specs.declared.actor.Actor.{Actor}
use Rattle.dsr_names.specs.Support.ActorEquality.{actor_eq}
use Rattle.dsr_chain.specs.Content.{content}
use Rattle.dsr_chain.specs.Chain.{Chain, started}
use Rattle.dsr_chain.specs.declared.slot_value.SlotValue.{SlotValue}
use Rattle.dsr_chain.proofs.Lemmas.{sender_blind, is_proper_blind}
use Rattle.dsr_slot.specs.declared.kept.Kept.{Kept}
use Rattle.dsr_slot.specs.Keeping.{kept_in, is_kept, is_news, keep_one, keep, kept_after}
use Rattle.dsr_slot.specs.Conduct.{relayed, posted}
use Rattle.dsr_slot.specs.Decision.{decision, decided}

module _ (shape other : Shape) (agree : AgreeButForTraitors shape other) (slot : ℕ) where
  news_blind : (round : ℕ) (kept : List Kept) (chain : Chain) → is_news shape slot round kept chain ≡ is_news other slot round kept chain
  news_blind round kept chain =
      ap (λ b. b && (not (is_kept (content chain.value) kept) && nat_lt (length kept) 2)) (is_proper_blind shape other agree slot round chain)

  one_blind : (round : ℕ) (kept : List Kept) (chain : Chain) → keep_one shape slot round kept chain ≡ keep_one other slot round kept chain
  one_blind round kept chain = ap (λ b. if b then kept ++ kept_in round chain ∷ [] else kept) (news_blind round kept chain)

  keep_blind : (round : ℕ) (kept : List Kept) (chains : List Chain) → keep shape slot round kept chains ≡ keep other slot round kept chains
  keep_blind round kept chains = λ i. fold (λ ks c. one_blind round ks c i) kept chains

  pub kept_blind : (read : ℕ → List Chain) (rounds : ℕ) → kept_after shape slot read rounds ≡ kept_after other slot read rounds
  kept_blind read zero = refl
  kept_blind read (suc r) =
      keep_blind (suc r) (kept_after shape slot read r) (read (suc r)) ∙ ap (λ ks. keep other slot (suc r) ks (read (suc r))) (kept_blind read r)

  pub posted_blind : (me : Actor) (value : SlotValue) (round : ℕ) (kept : List Kept)
      → posted shape slot me value round kept ≡ posted other slot me value round kept
  posted_blind me value round kept =
      ap (λ sender. relayed me round kept ++ (if (round == 1) && actor_eq me sender then started slot value me ∷ [] else []))
      (sender_blind shape other agree slot)

  pub decided_blind : (read : ℕ → List Chain) → decided shape slot read ≡ decided other slot read
  decided_blind read =
      ap decision (ap (λ f. kept_after shape slot read (suc f)) agree.most_traitors ∙ kept_blind read (suc other.f))

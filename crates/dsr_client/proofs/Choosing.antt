-- What a client's choices ask for, and that the ask shows the choice.
use Rattle.std.proofs.Common.{◌≡◌, ℕ, List, Option, None, Some, refl, ap}
use Rattle.std.specs.Option.{option_map}
use Rattle.std.proofs.lemmas.Option.{none-some, same_Some}
use Rattle.dsr_names.specs.Shape.{Shape}
use Rattle.dsr_request.specs.declared.op.Op.{Op}
use Rattle.dsr_chain.specs.declared.signed_request.SignedRequest.{SignedRequest}
use Rattle.dsr_envelope.specs.declared.envelope.Envelope.{Envelope}
use Rattle.dsr_envelope.specs.declared.envelope.Envelope.TheVariants.{Ask}
use Rattle.dsr_envelope.specs.declared.entry.Entry.{Entry}
use Rattle.dsr_envelope.specs.declared.pick.Pick.{Pick}
use Rattle.dsr_envelope.specs.declared.pick.Pick.TheVariants.{Plain, From, Begin}
use Rattle.dsr_client.specs.Conduct.{ask_of, next_number, chosen_beside, ask_to, told_choice}
use Rattle.dsr_client.specs.State.{outstanding}

-- nothing but an ask is posted
pub chosen_ask : (o : Option SignedRequest) (envelope : Envelope) → option_map Ask o ≡ Some envelope → (ask : SignedRequest) × (o ≡ Some ask) × (Ask ask ≡ envelope)
chosen_ask None envelope e = absurd (none-some envelope e)
chosen_ask (Some ask) envelope e = (ask, refl, same_Some (Ask ask) envelope e)

same_ask : (o : Option SignedRequest) (ask : SignedRequest) → option_map Ask o ≡ Some (Ask ask) → o ≡ Some ask
same_ask None ask e = absurd (none-some (Ask ask) e)
same_ask (Some other) ask e = let same : Ask other ≡ Ask ask = same_Some (Ask other) (Ask ask) e in let is : other ≡ ask = cc in ap Some is

module _ (me number : ℕ) where
  told_beside : (o : Option SignedRequest) (pick : Pick) (ask : SignedRequest) → chosen_beside o me number pick ≡ Some ask → pick ≡ told_choice o ask
  told_beside (Some current) Plain ask e = refl
  told_beside None Plain ask e = absurd (none-some ask e)
  told_beside (Some current) (Begin op) ask e = absurd (none-some ask e)
  told_beside None (Begin op) ask e = ap (λ a. Begin a.request.op) (same_Some (ask_of me number op) ask e)
  told_beside o (From clients) ask e = absurd (none-some ask e)

  begun_beside : (o : Option SignedRequest) (op : Op) (ask : SignedRequest) → chosen_beside o me number (Begin op) ≡ Some ask → ask_of me number op ≡ ask
  begun_beside None op ask e = same_Some (ask_of me number op) ask e
  begun_beside (Some current) op ask e = absurd (none-some ask e)

  none_beside : (o : Option SignedRequest) (op : Op) (ask : SignedRequest) → chosen_beside o me number (Begin op) ≡ Some ask → o ≡ None
  none_beside None op ask e = refl
  none_beside (Some current) op ask e = absurd (none-some ask e)

  plain_beside : (o : Option SignedRequest) → chosen_beside o me number Plain ≡ o
  plain_beside None = refl
  plain_beside (Some ask) = refl

module _ (shape : Shape) (me : ℕ) (log : List Entry) where
  -- the ask shows the choice
  pub choice_told : (pick : Pick) (ask : SignedRequest) → ask_to shape me log pick ≡ Some (Ask ask) → pick ≡ told_choice (outstanding shape log) ask
  choice_told pick ask e =
      told_beside me (next_number shape log) (outstanding shape log) pick ask
      (same_ask (chosen_beside (outstanding shape log) me (next_number shape log) pick) ask e)

  -- a new ask has the operation of its choice
  pub operation_told : (op : Op) (ask : SignedRequest) → ask_to shape me log (Begin op) ≡ Some (Ask ask) → ask_of me (next_number shape log) op ≡ ask
  operation_told op ask e =
      begun_beside me (next_number shape log) (outstanding shape log) op ask
      (same_ask (chosen_beside (outstanding shape log) me (next_number shape log) (Begin op)) ask e)

  -- and nothing was outstanding before it
  pub none_told : (op : Op) (ask : SignedRequest) → ask_to shape me log (Begin op) ≡ Some (Ask ask) → outstanding shape log ≡ None
  none_told op ask e =
      none_beside me (next_number shape log) (outstanding shape log) op ask
      (same_ask (chosen_beside (outstanding shape log) me (next_number shape log) (Begin op)) ask e)

  -- the plain choice asks for what is outstanding
  pub plain_ask : ask_to shape me log Plain ≡ option_map Ask (outstanding shape log)
  plain_ask = ap (option_map Ask) (plain_beside me (next_number shape log) (outstanding shape log))

  -- a new ask, if nothing is outstanding
  pub new_ask : outstanding shape log ≡ None → (op : Op) → ask_to shape me log (Begin op) ≡ Some (Ask (ask_of me (next_number shape log) op))
  new_ask none op = ap (λ o. option_map Ask (chosen_beside o me (next_number shape log) (Begin op))) none

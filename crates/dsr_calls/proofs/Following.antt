-- Calls that follow each other are as one.
use Rattle.std.proofs.Common.{◌≡◌, List, ◌∷◌, Some, inl, inr, ap, sym, ◌∙◌}
use Rattle.std.proofs.lemmas.Option.{none-some}
use Rattle.dsr_names.specs.Shape.{Shape}
use Rattle.dsr_ledger.specs.declared.reply.Reply.{Reply as AReply}
use Rattle.dsr_chain.specs.declared.signed_request.SignedRequest.{SignedRequest}
use Rattle.dsr_envelope.specs.declared.entry.Entry.{Entry}
use Rattle.dsr_client.specs.State.{accepted}
use Rattle.dsr_calls.specs.Calls.{front_beside, IsUnbegun, WasBegun, IsBegun, IsAwaited, IsAnswered}

module _ (shape : Shape) (ask : SignedRequest) (older log later : List Entry) where
  -- begun after the second log, it was begun after the first
  unbegun_then : IsUnbegun shape ask.request.number older log → WasBegun shape ask log later → WasBegun shape ask older later
  unbegun_then un was = record {
    replica = was.replica;
    posted = was.posted;
    unissued = λ none. un.first;
    front = was.front;
    front_is =
        ap (λ o. front_beside shape o ask.request.number older) un.was
        ∙ (ap Some (sym un.seen_is) ∙ (sym (ap (λ o. front_beside shape o ask.request.number log) un.none) ∙ was.front_is));
    issued = was.issued;
  }

  begun_then : IsBegun shape ask older log → WasBegun shape ask log later → WasBegun shape ask older later
  begun_then begun was = record {
    replica = was.replica;
    posted = was.posted;
    unissued = begun.begun.unissued;
    front = was.front;
    front_is = begun.begun.front_is
        ∙ (sym begun.begun.issued ∙ (sym (ap (λ o. front_beside shape o ask.request.number log) begun.is) ∙ was.front_is));
    issued = was.issued;
  }

  was_then : IsAwaited shape ask older log → WasBegun shape ask log later → WasBegun shape ask older later
  was_then first was = elim first [
    | inl un ↦ unbegun_then un was
    | inr begun ↦ begun_then begun was
  ]

  same_then : IsAwaited shape ask older log → accepted shape log ≡ accepted shape older
  same_then first = elim first [
    | inl un ↦ un.same
    | inr begun ↦ begun.same
  ]

  both_unbegun : IsUnbegun shape ask.request.number older log → IsUnbegun shape ask.request.number log later
      → IsUnbegun shape ask.request.number older later
  both_unbegun first second = record {
    was = first.was;
    none = second.none;
    same = second.same ∙ first.same;
    seen_is = second.seen_is ∙ first.seen_is;
    first = first.first;
    unissued = second.unissued;
  }

  pub awaited_then : IsAwaited shape ask older log → IsAwaited shape ask log later → IsAwaited shape ask older later
  awaited_then first second = elim second [
    | inl un ↦ elim first [
      | inl before ↦ inl (both_unbegun before un)
      | inr begun ↦ absurd (none-some ask (sym un.was ∙ begun.is))
    ]
    | inr begun ↦ inr (record { begun = was_then first begun.begun; is = begun.is; same = begun.same ∙ same_then first })
  ]

  pub answered_then : (reply : AReply) → IsAwaited shape ask older log → IsAnswered shape ask log later reply → IsAnswered shape ask older later reply
  answered_then reply first second = record {
    begun = was_then first second.begun;
    last = second.last ∙ ap (λ l. reply ∷ l) (same_then first);
    done = second.done;
    number = second.number;
  }

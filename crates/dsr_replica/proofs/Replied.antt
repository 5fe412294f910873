-- What a loyal replica replies is in its history.
use Rattle.std.proofs.Common.{◌≡◌, ℕ, ◌<◌, List, [], ◌∷◌, Option, None, Some, refl, ap, sym, ◌∙◌, subst}
use Rattle.std.specs.Option.{option_map}
use Rattle.std.proofs.lemmas.Option.{none-some, same_Some}
use Rattle.dsr_base.specs.Growth.{Extends}
use Rattle.dsr_base.specs.Member.{In, here, there}
use Rattle.dsr_names.specs.Shape.{Shape}
use Rattle.dsr_names.specs.declared.actor.Actor.{Actor}
use Rattle.dsr_names.specs.declared.actor.Actor.TheVariants.{Client}
use Rattle.dsr_request.specs.Request.{Request}
use Rattle.dsr_ledger.specs.declared.reply.Reply.{Reply as AReply}
use Rattle.dsr_history.specs.History.{acted, reply, IsReplyTo}
use Rattle.dsr_history.proofs.Lemmas.{reply_stands, stands_later}
use Rattle.dsr_envelope.specs.declared.envelope.Envelope.TheVariants.{Reply}
use Rattle.dsr_envelope.specs.declared.entry.Entry.{Entry}
use Rattle.dsr_envelope.specs.declared.entry.Entry.TheVariants.{Post}
use Rattle.dsr_replica.specs.Conduct.{IsNext, IsLoyalLog}
use Rattle.dsr_replica.specs.Decided.{decided_requests}
use Rattle.dsr_replica.proofs.Later.{history_later}
use Rattle.dsr_replica.proofs.Saying.{reply_made}

-- a reply to a request of a history is one to a request of each history that grew from it
pub reply_later : (later earlier : List Request) (client : ℕ) (r : AReply) → Extends later earlier → IsReplyTo earlier client r → IsReplyTo later client r
reply_later later earlier client r grown h = record {
  request = h.request;
  stands = stands_later later earlier r.place h.request r.answer grown h.stands;
  client_is = h.client_is;
  number_is = h.number_is;
}

-- the envelope of a reply determines the reply
reply_is : (o : Option AReply) (r : AReply) → option_map Reply o ≡ Some (Reply r) → o ≡ Some r
reply_is None r e = absurd (none-some (Reply r) e)
reply_is (Some other) r e =
    let same : Reply other ≡ Reply r = same_Some (Reply other) (Reply r) e in
    let is : other ≡ r = cc in
    ap Some is

module _ (shape : Shape) (me : Actor) (some : 0 < shape.n) where
  just_replied : (entry : Entry) (older : List Entry) → IsNext shape me older entry → (client : ℕ) (r : AReply) → entry ≡ Post (Client client) (Reply r)
      → IsReplyTo (acted (decided_requests shape older)) client r
  just_replied entry older next client r e =
      let posted : IsNext shape me older (Post (Client client) (Reply r)) = subst (IsNext shape me older) e next in
      reply_stands (acted (decided_requests shape older)) client r (reply_is (reply (decided_requests shape older) client) r (sym (reply_made shape older client) ∙ posted.1))

  still_replied : (entry : Entry) (older : List Entry) → IsLoyalLog shape me (entry ∷ older) → (client : ℕ) (r : AReply)
      → IsReplyTo (acted (decided_requests shape older)) client r → IsReplyTo (acted (decided_requests shape (entry ∷ older))) client r
  still_replied entry older loyal client r h =
      reply_later (acted (decided_requests shape (entry ∷ older))) (acted (decided_requests shape older)) client r
      (history_later shape me some (entry ∷ older) older loyal (entry ∷ [], refl)) h

  -- each reply that a loyal replica posted is one to a request of its history
  pub replied : (log : List Entry) → IsLoyalLog shape me log → (client : ℕ) (r : AReply) → In (Post (Client client) (Reply r)) log
      → IsReplyTo (acted (decided_requests shape log)) client r
  replied [] loyal client r h = elim h [ ]
  replied (entry ∷ older) loyal client r (here e) = still_replied entry older loyal client r (just_replied entry older loyal.1 client r e)
  replied (entry ∷ older) loyal client r (there later) = still_replied entry older loyal client r (replied older loyal.0 client r later)

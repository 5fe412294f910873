-- What a loyal replica does with what it takes from a client (this project).
use Rattle.std.specs.Prelude.{◌≡◌, ℕ, List, [], ◌∷◌, Some}
use Rattle.dsr_names.specs.Shape.{Shape}
use Rattle.dsr_names.specs.declared.actor.Actor.TheVariants.{Client}
use Rattle.dsr_chain.specs.declared.signed_request.SignedRequest.{SignedRequest}
use Rattle.dsr_envelope.specs.declared.entry.Entry.{Entry}
use Rattle.dsr_envelope.specs.declared.entry.Entry.TheVariants.{Take}
use Rattle.dsr_envelope.specs.declared.envelope.Envelope.{Envelope}
use Rattle.dsr_envelope.specs.declared.envelope.Envelope.TheVariants.{Ask}
use Rattle.dsr_replica.specs.Held.{held}
use Rattle.dsr_notes.specs.declared.note.Note.{Note}
use Rattle.dsr_notes.specs.declared.note.Note.TheVariants.{Held}

-- the notes of a loyal replica's take from a client: it takes an ask, and then holds it
pub record AreAskNotes (shape : Shape) (log : List Entry) (client : ℕ) (envelope : Envelope) (notes : List Note) : Type 0 where
  pub ask : SignedRequest
  pub is_ask : envelope ≡ Ask ask
  pub is_held : held shape client (Take (Client client) envelope ∷ log) ≡ Some ask
  pub are : notes ≡ Held ask.request ∷ []

-- What the boxes of all actors hold (this project).
use Rattle.std.specs.Prelude.{◌≡◌, List, [], ◌∷◌, ◌++◌, Option, None, Some, length}
use Rattle.dsr_base.specs.declared.boxes.MailBox.{MailBox}
use Rattle.dsr_envelope.specs.declared.envelope.Envelope.{Envelope}

-- the envelope of a box as a list
abbrev pub held_in : Option Envelope → List Envelope
held_in None = []
held_in (Some envelope) = envelope ∷ []

-- the box is as these posts and takes have left it
pub record IsBoxOf (box : MailBox Envelope) (posted taken : List Envelope) : Type 0 where
  pub count : box.posts ≡ length posted
  pub holds : posted ≡ taken ++ held_in box.item

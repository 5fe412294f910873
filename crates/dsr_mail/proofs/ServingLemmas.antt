-- How a replica's seat goes on knowing which clients it has not answered, and which one it proposed last.
use Rattle.std.proofs.Common.{◌≡◌, ◌↔◌, ◌==◌, ℕ, zero, suc, ◌<◌, Bool, true, false, List, [], ◌∷◌, Option, Some, if◌then◌else◌, length, refl, ap, sym, ◌∙◌, arith}
use Rattle.std.specs.Prelude.{slice_set, reverse}
use Rattle.std.proofs.lemmas.Bool.{eqb-true, eqb-false, false≢true}
use Rattle.std.proofs.lemmas.List.{get_or-replicate, get_or-set_same, get_or-set_other}
use Rattle.std.proofs.lemmas.Option.{none-some}
use Rattle.dsr_names.specs.Shape.{Shape}
use Rattle.dsr_names.specs.declared.actor.Actor.{Actor}
use Rattle.dsr_names.specs.declared.actor.Actor.TheVariants.{Replica, Client}
use Rattle.dsr_envelope.specs.declared.envelope.Envelope.{Envelope}
use Rattle.dsr_envelope.specs.declared.entry.Entry.{Entry}
use Rattle.dsr_envelope.specs.declared.entry.Entry.TheVariants.{Post, Take}
use Rattle.dsr_envelope.specs.declared.pick.Pick.{Pick}
use Rattle.dsr_envelope.specs.declared.pick.Pick.TheVariants.{Plain, From}
use Rattle.dsr_replica.proofs.Lemmas.{chosen_then}
use Rattle.dsr_node.specs.Conduct.{post_of}
use Rattle.dsr_node.specs.Node.{IsReplicaNumber}
use Rattle.dsr_run.specs.Eager.{first_or, last_proposed}
use Rattle.dsr_run.proofs.Lemmas.{plain_last, picked_last}
use Rattle.dsr_mail.specs.Serving.{is_unanswered, IsMarked, AreUnanswered, nobody, marks_after, picked_after}

pub none_unanswered : AreUnanswered [] nobody
none_unanswered c small = (λ marked. absurd (false≢true (sym (get_or-replicate 32 c false false small) ∙ marked)), λ e. absurd (false≢true e))

module _ (log : List Entry) (marks : List Bool) (long : length marks ≡ 32) (are : AreUnanswered log marks) where
  -- one client's mark is set as the newest entry with it has it
  noted : (d : ℕ) (mark : Bool) (c : ℕ) → c < 32 → IsMarked (slice_set marks d mark) c ↔ ((if d == c then mark else is_unanswered c log) ≡ true)
  noted d mark c small = by_test (d == c) refl
    where
      by_test : (b : Bool) → (d == c) ≡ b → IsMarked (slice_set marks d mark) c ↔ ((if b then mark else is_unanswered c log) ≡ true)
      by_test true e = rw (eqb-true d c e, get_or-set_same marks c mark false (omega (arith, long, small))) (λ h. h, λ h. h)
      by_test false e = rw (get_or-set_other marks d c mark false (λ same. eqb-false d c e (sym same))) (are c small)

  pub unanswered_posted : (to : Actor) (x : Envelope) → AreUnanswered (Post to x ∷ log) (marks_after false to marks)
  unanswered_posted (Replica q) x = are
  unanswered_posted (Client d) x = noted d false

  pub unanswered_taken : (from : Actor) (x : Envelope) → AreUnanswered (Take from x ∷ log) (marks_after true from marks)
  unanswered_taken (Replica q) x = are
  unanswered_taken (Client d) x = noted d true

-- ---- the client that was proposed last

-- after a post that its conduct gives
pub picked_posted : (shape : Shape) (log : List Entry) (me to : Actor) (pick : Pick) (x : Envelope) (picked : Option ℕ) → IsReplicaNumber me
    → post_of shape log me to pick ≡ Some x → picked ≡ last_proposed shape log → picked_after pick picked ≡ last_proposed shape (Post to x ∷ log)
picked_posted shape log (Client c) to pick x picked replica e is = elim replica [ ]
picked_posted shape log (Replica p) (Replica zero) Plain x picked replica e is = is ∙ sym (plain_last shape (Replica p) log x e)
picked_posted shape log (Replica p) (Replica zero) (From clients) x picked replica e is =
    ap (λ before. first_or before (reverse clients)) is ∙ sym (picked_last shape (Replica p) log clients x e)
picked_posted shape log (Replica p) (Replica (suc q)) Plain x picked replica e is = is
picked_posted shape log (Replica p) (Replica q) pick x picked replica e is = absurd (none-some x (chosen_then shape (Replica p) log q pick x e))
picked_posted shape log (Replica p) (Client c) Plain x picked replica e is = is
picked_posted shape log (Replica p) (Client c) pick x picked replica e is = absurd (none-some x e)

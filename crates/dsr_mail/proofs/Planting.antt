-- What a traitor may post and send on, by its own log.
use Rattle.std.proofs.Common.{◌≡◌, ◌↔◌, List, [], ◌∷◌, ◌⊎◌, inl, inr, refl, sym, ◌∙◌, arith}
use Rattle.std.specs.Prelude.{Any}
use Rattle.std.proofs.lemmas.List.Quantifiers.{Any-push}
use Rattle.dsr_base.specs.Member.{In, here, there}
use Rattle.dsr_names.specs.Shape.{Shape}
use Rattle.dsr_names.specs.declared.actor.Actor.{Actor}
use Rattle.dsr_names.specs.declared.actor.Actor.TheVariants.{Replica, Client}
use Rattle.dsr_desk.specs.Signature.{Signature}
use Rattle.dsr_envelope.specs.declared.envelope.Envelope.{Envelope}
use Rattle.dsr_envelope.specs.declared.entry.Entry.{Entry}
use Rattle.dsr_envelope.specs.declared.entry.Entry.TheVariants.{Post, Take}
use Rattle.dsr_envelope.specs.Envelope.{Carries}
use Rattle.dsr_replica.specs.Posts.{WasTaken}
use Rattle.dsr_script.specs.Held.{IsUnforged}
use Rattle.dsr_run.specs.OwnStep.{ForgesNone}
use Rattle.dsr_run.specs.Run.{IsTraitor}
use Rattle.dsr_mail.specs.Traitor.{KnowsTaken}

the_one : (key a : Actor) → Any (λ holder. holder ≡ a) (key ∷ []) → key ≡ a
the_one key a (k, x, small, e, own) = let first : k ≡ 0 = omega arith in (rw first at e) ∙ own

-- what it forges none in is what is unforged by its key and what it took
pub forges_none : (shape : Shape) (me : Actor) (log : List Entry) (key : Actor) (known : List Signature) (x : Envelope) → key ≡ me → IsTraitor shape me
    → KnowsTaken log known → IsUnforged (key ∷ []) known x ↔ ForgesNone shape me log x
forges_none shape (Client c) log key known x own traitor knows = elim traitor [ ]
forges_none shape (Replica p) log key known x own traitor knows = (
  λ sound t s carried. elim (sound s carried) [
    | inl held ↦ inl (sym (the_one key s.signer held) ∙ own)
    | inr old ↦ inr ((knows s).0 old)
  ],
  λ none s carried. elim (none traitor.1 s carried) [
    | inl mine ↦ inl (Any-push (λ holder. holder ≡ s.signer) [] key (own ∙ sym mine))
    | inr taken ↦ inr ((knows s).1 taken)
  ],
)

-- ---- what it knows

taken_later : (entry : Entry) (log : List Entry) (s : Signature) → WasTaken log s → WasTaken (entry ∷ log) s
taken_later entry log s was = record { from = was.from; envelope = was.envelope; taken = there was.taken; carried = was.carried }

pub after_post : (log : List Entry) (known : List Signature) (to : Actor) (x : Envelope) → KnowsTaken log known → KnowsTaken (Post to x ∷ log) known
after_post log known to x knows s =
    (λ h. taken_later (Post to x) log s ((knows s).0 h), λ was. (knows s).1 (older was.from was.envelope was.taken was.carried))
  where
    older : (a : Actor) (y : Envelope) → In (Take a y) (Post to x ∷ log) → Carries y s → WasTaken log s
    older a y (here e) carried = absurd cc
    older a y (there h) carried = record { from = a; envelope = y; taken = h; carried = carried }

pub after_take : (log : List Entry) (known new : List Signature) (from : Actor) (x : Envelope) → KnowsTaken log known
    → ((s : Signature) → In s new ↔ (In s known ⊎ Carries x s)) → KnowsTaken (Take from x ∷ log) new
after_take log known new from x knows learned s = (
  λ h. elim ((learned s).0 h) [
    | inl old ↦ taken_later (Take from x) log s ((knows s).0 old)
    | inr carried ↦ record { from = from; envelope = x; taken = here refl; carried = carried }
  ],
  λ was. (learned s).1 (by_place was.from was.envelope was.taken was.carried),
)
  where
    by_place : (a : Actor) (y : Envelope) → In (Take a y) (Take from x ∷ log) → Carries y s → In s known ⊎ Carries x s
    by_place a y (here e) carried = let same : y ≡ x = cc in inr (rw same at carried)
    by_place a y (there h) carried = inl ((knows s).1 (record { from = a; envelope = y; taken = h; carried = carried }))

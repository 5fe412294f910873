use Rattle.std.proofs.Common.{◌≡◌, ◌<◌, ◌∙◌, ℕ, List, ◌∷◌, Option, Some, refl, subst, sym}
use Rattle.std.specs.Prelude.{IfSome, slice_index_or}
use Rattle.std.specs.Vec.{with_item}
use Rattle.std.proofs.lemmas.Option.{same_Some}
use Rattle.dsr_base.specs.Boxes.{box_at}
use Rattle.dsr_names.specs.Shape.{Shape, IsAllowed, IsLoyal}
use Rattle.dsr_names.specs.declared.actor.Actor.TheVariants.{Replica}
use Rattle.dsr_envelope.specs.declared.entry.Entry.{Entry}
use Rattle.dsr_envelope.specs.declared.entry.Entry.TheVariants.{Post}
use Rattle.dsr_envelope.specs.declared.envelope.Envelope.{Envelope}
use Rattle.dsr_envelope.specs.Pick.{IsPick}
use Rattle.dsr_envelope.specs.declared.pick.Pick.{Pick}
use Rattle.dsr_replica.specs.Conduct.{envelope_to}
use Rattle.dsr_run.specs.OwnStep.{KeepsOwn}
use Rattle.dsr_run.specs.Step.{Step, log_of}
use Rattle.dsr_run.proofs.Lemmas.{loyal_next_within}
use Rattle.dsr_check.specs.Support.Audit.{IsOpen, IsPosted, StandsFor}
use Rattle.dsr_check.specs.Support.Party.{CanPost, Plays}
use Rattle.dsr_check.specs.declared.audit.Audit.{Audit}
use Rattle.dsr_check.specs.declared.held.Held.{Held}
use Rattle.dsr_check.specs.declared.party.Party.{Party}
use Rattle.dsr_check.specs.declared.party.Chosen.{Chosen}
use Rattle.dsr_check.proofs.Auditing.{is_posted, loyal_forges_none, plays_at, posts_within}
use Rattle.dsr_check.proofs.Playing.{can_post_loyal}
use Rattle.dsr_check.proofs.audit.Audit.post_chosen.Goals as goal

-- what holds of the choice, if there is one, holds of this one
of_some : (o : Option Chosen) (x : Chosen) (P : Chosen → Type 0) → o ≡ Some x → IfSome o P → P x
of_some o x P is holds = subst (λ o. IfSome o P) is holds

posted_by : (a : Audit) (run : List Step) (p q : ℕ) (pick : Pick) (held : Held) (asked found party : Party) (k : ℕ) → StandsFor a run → IsAllowed a.shape → k ≡ p
    → asked ≡ slice_index_or a.parties.items k asked → found ≡ slice_index_or a.parties.items k found → p < a.shape.n → q < a.shape.n
    → IsOpen (box_at a.boxes p q) → CanPost asked q pick → IsPick pick → held.draft.now ≡ held.envelope
    → ((shape : Shape) (p : ℕ) (log : List Entry) → Plays shape (Replica p) log asked → envelope_to shape (Replica p) log q pick ≡ Some held.envelope)
    → ((shape : Shape) (p : ℕ) (log : List Entry) (x : Envelope) → Plays shape (Replica p) log found → IsPick pick
    → ((other : Envelope) → envelope_to shape (Replica p) log q pick ≡ Some other → x ≡ other)
    → KeepsOwn shape (Replica p) log (Post (Replica q) x) × Plays shape (Replica p) (Post (Replica q) x ∷ log) party)
    → IsPosted (record {
      shape = a.shape;
      parties = with_item a.parties k party;
      boxes = a.boxes;
      notary = a.notary;
      keys = a.keys;
      known = a.known;
      firsts = a.firsts;
    }) run a.parties.items (Replica p) (Replica q) held
posted_by a run p q pick held asked found party k are allowed at is_asked is_found inside other opened can good recorded given posts =
    let log = log_of run (Replica p) in
    let plays = plays_at a.shape run a.parties.items a.boxes a.notary.items a.keys.items a.known.signatures a.firsts.items are (Replica p) asked k at inside is_asked in
    let playing = plays_at a.shape run a.parties.items a.boxes a.notary.items a.keys.items a.known.signatures a.firsts.items are (Replica p) found k at inside is_found in
    let loyal : IsLoyal a.shape (Replica p) = (inside, can_post_loyal a.shape p q pick log asked plays can) in
    let gives = given a.shape p log plays in
    is_posted _ run a.parties.items (Replica p) (Replica q) held party k are at refl inside other opened recorded
    (loyal_next_within a.shape allowed run are.is_run p loyal (Replica q) held.envelope (pick, good, gives))
    (loyal_forges_none a.shape (log_of run) (Replica p) held.envelope loyal)
    (posts a.shape p log held.envelope playing good (λ x e. same_Some held.envelope x (sym gives ∙ e)))

pub chosen-requires : goal.chosen-requires
chosen-requires c =
    let a = c.args.self.now in
    let are = c.requires.stands.1 in
    let run = c.requires.stands.0 in
    let plays = plays_at a.shape run a.parties.items a.boxes a.notary.items a.keys.items a.known.signatures a.firsts.items are (Replica c.args.from) c.index.result.now
    c.number-poster.result c.number-poster.ensures.same c.requires.from c.index.ensures in
    posts_within a.shape run a.parties.items a.boxes a.notary.items a.keys.items a.known.signatures a.firsts.items are c.n-n.ensures.allowed c.args.from c.args.to c.requires.from
    c.index.result.now plays

pub deliver-requires : goal.deliver-requires
deliver-requires c =
    let a = c.args.self.now in
    let q = c.args.to in
    let chosen = c.in-Some.chosen in
    let made = chosen.envelope in
    let same = c.in_ok-envelope.ensures.made in
    let recorded : made ≡ c.args.draft.now = of_some c.in_ok-chosen.field-0 chosen (λ x. x.envelope ≡ c.args.draft.now) c.in-Some.is c.in_ok-chosen.ensures.recorded in (
      c.requires.stands.0,
      a.parties.items,
      posted_by a c.requires.stands.0 c.args.from q chosen.pick (record { envelope = c.in_ok-envelope.envelope; draft = c.args.draft }) c.index.result.now c.index_mut.result.now
          c.posted.new.self c.number-poster.result c.requires.stands.1 c.n-n.ensures.allowed c.number-poster.ensures.same c.index.ensures c.index_mut.ensures.value
          c.requires.from c.requires.to c.requires.open (of_some c.in_ok-chosen.field-0 chosen (λ x. CanPost c.index.result.now q x.pick) c.in-Some.is c.in_ok-chosen.ensures.can) (of_some c.in_ok-chosen.field-0 chosen (λ x. IsPick x.pick) c.in-Some.is c.in_ok-chosen.ensures.pick)
          (sym recorded ∙ sym same)
          (λ shape p log plays. subst (λ x. envelope_to shape (Replica p) log q chosen.pick ≡ Some x) (sym same)
          (of_some c.in_ok-chosen.field-0 chosen (λ x. envelope_to shape (Replica p) log q x.pick ≡ Some x.envelope) c.in-Some.is (c.in_ok-chosen.ensures.given shape p log plays)))
          c.posted.ensures.posts,
    )

pub returns-clause-next : goal.returns-clause-next
returns-clause-next c run are =
    let a = c.args.self.now in
    let q = c.args.to in
    let chosen = c.in-Some.chosen in
    let made = chosen.envelope in
    let same = c.in_ok-envelope.ensures.made in
    let recorded : made ≡ c.args.draft.now = of_some c.in_ok-chosen.field-0 chosen (λ x. x.envelope ≡ c.args.draft.now) c.in-Some.is c.in_ok-chosen.ensures.recorded in
    subst (λ e. StandsFor c.deliver.new.self ((Replica c.args.from, Post (Replica q) e) ∷ run)) (same ∙ recorded)
    (c.in_ok-deliver.ensures.next run a.parties.items
    (posted_by a run c.args.from q chosen.pick (record { envelope = c.in_ok-envelope.envelope; draft = c.args.draft }) c.index.result.now c.index_mut.result.now
    c.posted.new.self c.number-poster.result are c.n-n.ensures.allowed c.number-poster.ensures.same c.index.ensures c.index_mut.ensures.value
    c.requires.from c.requires.to c.requires.open (of_some c.in_ok-chosen.field-0 chosen (λ x. CanPost c.index.result.now q x.pick) c.in-Some.is c.in_ok-chosen.ensures.can) (of_some c.in_ok-chosen.field-0 chosen (λ x. IsPick x.pick) c.in-Some.is c.in_ok-chosen.ensures.pick)
    (sym recorded ∙ sym same)
    (λ shape p log plays. subst (λ x. envelope_to shape (Replica p) log q chosen.pick ≡ Some x) (sym same)
    (of_some c.in_ok-chosen.field-0 chosen (λ x. envelope_to shape (Replica p) log q x.pick ≡ Some x.envelope) c.in-Some.is (c.in_ok-chosen.ensures.given shape p log plays)))
    c.posted.ensures.posts))

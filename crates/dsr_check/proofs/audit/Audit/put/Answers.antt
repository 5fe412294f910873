use Rattle.std.proofs.Common.{◌≡◌, ℕ, true, Bool, List, ◌∷◌, refl, subst}
use Rattle.std.specs.Bool.{OnTrue}
use Rattle.std.specs.Prelude.{slice_index_or}
use Rattle.std.specs.Vec.{with_item}
use Rattle.dsr_names.specs.Places.{place_of}
use Rattle.dsr_names.specs.Shape.{Shape, IsActor}
use Rattle.dsr_names.specs.declared.actor.Actor.{Actor}
use Rattle.dsr_envelope.specs.Limits.{IsEnvelope}
use Rattle.dsr_envelope.specs.declared.entry.Entry.{Entry}
use Rattle.dsr_envelope.specs.declared.entry.Entry.TheVariants.{Post}
use Rattle.dsr_envelope.specs.declared.envelope.Envelope.{Envelope}
use Rattle.dsr_run.specs.OwnStep.{KeepsOwn}
use Rattle.dsr_run.specs.Step.{Step, log_of}
use Rattle.dsr_check.specs.Support.Audit.{ForgesNone, IsOpen, IsPosted, StandsFor, box_of}
use Rattle.dsr_check.specs.Support.Party.{Plays}
use Rattle.dsr_check.specs.declared.audit.Audit.{Audit}
use Rattle.dsr_check.specs.declared.held.Held.{Held}
use Rattle.dsr_check.specs.declared.party.Party.{Party}
use Rattle.dsr_check.proofs.Auditing.{is_posted, plays_at, where_true}
use Rattle.dsr_check.proofs.audit.Audit.put.Goals as goal

posted_by : (a : Audit) (run : List Step) (from to : Actor) (held : Held) (found party : Party) (k : ℕ) (next : Bool) (x : Envelope) → StandsFor a run
    → k ≡ place_of a.shape from → found ≡ slice_index_or a.parties.items k found → IsActor a.shape from → IsActor a.shape to → IsOpen (box_of a from to)
    → held.draft.now ≡ held.envelope → IsEnvelope held.envelope → ForgesNone a.shape (log_of run) from held.envelope → x ≡ held.envelope → next ≡ true
    → ((shape : Shape) (log : List Entry) → Plays shape from log found → IsActor shape to
    → OnTrue next (KeepsOwn shape from log (Post to x) × Plays shape from (Post to x ∷ log) party))
    → IsPosted (record {
      shape = a.shape;
      parties = with_item a.parties k party;
      boxes = a.boxes;
      notary = a.notary;
      keys = a.keys;
      known = a.known;
      firsts = a.firsts;
    }) run a.parties.items from to held
posted_by a run from to held found party k next x are at is actor other opened recorded within unforged same can posts =
    let log = log_of run from in
    let plays = plays_at a.shape run a.parties.items a.boxes a.notary.items a.keys.items a.known.signatures a.firsts.items are from found k at actor is in
    let posted = where_true next (KeepsOwn a.shape from log (Post to x) × Plays a.shape from (Post to x ∷ log) party) can (posts a.shape log plays other) in
    is_posted _ run a.parties.items from to held party k are at refl actor other opened recorded within unforged
    (subst (λ e. KeepsOwn a.shape from log (Post to e) × Plays a.shape from (Post to e ∷ log) party) same posted)

pub deliver-requires : goal.deliver-requires
deliver-requires c =
    let run = c.requires.stands.0 in (
      run,
      c.args.self.now.parties.items,
      posted_by c.args.self.now run c.args.from.now c.args.to.now c.args.held c.index_mut.result.now c.post.new.self c.place-poster.result c.in_ok-next.next c.envelope.result.now
          c.requires.stands.1 c.place-poster.ensures c.index_mut.ensures.value c.requires.from c.requires.to c.requires.open c.requires.recorded c.requires.within
          (c.requires.unforged run c.requires.stands.1) c.envelope.ensures c.if-not-next.false c.in_ok-next.ensures.posts,
    )

pub returns-clause-next : goal.returns-clause-next
returns-clause-next c run are =
    c.in_ok-deliver.ensures.next run c.args.self.now.parties.items
    (posted_by c.args.self.now run c.args.from.now c.args.to.now c.args.held c.index_mut.result.now c.post.new.self c.place-poster.result c.in_ok-next.next c.envelope.result.now
    are c.place-poster.ensures c.index_mut.ensures.value c.requires.from c.requires.to c.requires.open c.requires.recorded c.requires.within
    (c.requires.unforged run are) c.envelope.ensures c.if-not-next.false c.in_ok-next.ensures.posts)

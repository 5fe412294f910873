use Rattle.std.proofs.Common.{Option, None, Some, IfNone}
use Rattle.std.proofs.lemmas.Option.{IfSome_then}
use Rattle.dsr_desk.specs.Signature.{signed}
use Rattle.dsr_world.proofs.StageLemmas.{fields_of}
use Rattle.dsr_world.proofs.WorldPosts.{unforged_made, made_held}
use Rattle.dsr_world.proofs.stage.Stage.forged_in.Goals as goal

none_then : {A P Q : Type 0} (o : Option A) → IfNone o P → (P → Q) → IfNone o Q
none_then None h f = f h
none_then (Some a) h f = tt

pub returns-clause-forged : goal.returns-clause-forged
returns-clause-forged c p traitor =
    let parts = (fields_of c.self.inside c.self.view_is c.self.invariant).0 in
    IfSome_then c.forged_in.result c.forged_in.ensures.forged (λ f bad made. bad (rw c.as_slice.ensures.value
    (made_held _ _ _ _ _ _ parts p traitor (signed f.signer f.statement) made)))

pub returns-clause-none : goal.returns-clause-none
returns-clause-none c p traitor =
    let parts = (fields_of c.self.inside c.self.view_is c.self.invariant).0 in
    none_then c.forged_in.result c.forged_in.ensures.none (λ sound.
    unforged_made _ _ _ _ _ _ parts p traitor c.args.draft.now (rw c.as_slice.ensures.value at sound))

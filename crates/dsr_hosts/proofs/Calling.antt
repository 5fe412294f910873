-- How the calls of a client's host follow each other.
use Rattle.std.proofs.Common.{◌≡◌, ◌⊎◌, inl, ℕ, ◌+◌, ◌<◌, ◌≤◌, ◌++◌, List, [], ◌∷◌, get_or, take, length, refl, sym, subst, ap, ◌∙◌}
use Rattle.std.specs.Prelude.{Result, Ok, Err, IsErr, reverse}
use Rattle.std.proofs.lemmas.Bool.{false≢true}
use Rattle.std.proofs.lemmas.List.{reverse-append, take_all, take_more}
use Rattle.dsr_names.specs.declared.actor.Actor.{Actor}
use Rattle.dsr_names.specs.declared.actor.Actor.TheVariants.{Client}
use Rattle.dsr_names.specs.declared.refusal.Refusal.{Refusal}
use Rattle.dsr_names.specs.declared.refusal.Refusal.TheVariants.{Unanswered}
use Rattle.dsr_request.specs.declared.op.Op.{Op}
use Rattle.dsr_script.specs.Script.{Script, ops_of}
use Rattle.dsr_boxes.specs.Pass.{Pass}
use Rattle.dsr_calls.specs.Calls.{number_of}
use Rattle.dsr_rounds.specs.Ends.{turn_after}
use Rattle.dsr_rounds.specs.declared.end.End.{End}
use Rattle.dsr_rounds.specs.declared.end.End.TheVariants.{Told, Fault}
use Rattle.dsr_hosts.specs.Turns.{IsCall, CallsOnce, CallsLast, CallsFor, CallsForEach, StaysOut}

-- a host that stays at the gate makes no call
stays_at_gate : (may : Actor → ℕ → Type 0) (op : Op) (seat : Pass) (now next : ℕ) (end : End) → StaysOut seat seat now next
    → CallsLast may op seat seat now next (Err end)
stays_at_gate may op seat now next Told stays = stays
stays_at_gate may op seat now next (Fault refusal) stays = inl stays

pub ends_at_gate : (may : Actor → ℕ → Type 0) (op : Op) (seat : Pass) (now next : ℕ) (result : Result (Unit {0}) End) → IsErr result
    → (next ≡ now) ⊎ (next ≡ turn_after now) → CallsLast may op seat seat now next result
ends_at_gate may op seat now next (Ok done) is later = absurd (false≢true is)
ends_at_gate may op seat now next (Err end) is later = stays_at_gate may op seat now next end (refl, later)

-- a call that the gate let begin
pub calls_once : (may : Actor → ℕ → Type 0) (op : Op) (old new : Pass) (now next : ℕ) (actor : Actor) (result : Result (Unit {0}) Refusal)
    → actor ≡ old.actor → may actor now → next ≡ turn_after now → IsCall op old new result → CallsOnce may op old new now next result
calls_once may op old new now next actor result is passed turn call = (subst (λ a. may a now) is passed, turn, call)

-- such a call that was in vain
pub calls_in_vain : (may : Actor → ℕ → Type 0) (op : Op) (old new : Pass) (now next : ℕ) (actor : Actor) (refusal : Refusal) → actor ≡ old.actor
    → may actor now → next ≡ turn_after now → refusal ≡ Unanswered → IsCall op old new (Err refusal) → CallsOnce may op old new now next (Err Unanswered)
calls_in_vain may op old new now next actor refusal is passed turn vain call =
    calls_once may op old new now next actor (Err Unanswered) is passed turn (subst (λ r. IsCall op old new (Err r)) vain call)

-- the calls for one operation more
pub calls_more : (may : Actor → ℕ → Type 0) (first old new : Pass) (start now next : ℕ) (items : List Op) (i : ℕ) (op : Op) → i < length items
    → op ≡ get_or items i op → CallsForEach may (reverse (take i items)) first old start now → CallsFor may op old new now next (Ok tt)
    → CallsForEach may (reverse (take (i + 1) items)) first new start next
calls_more may first old new start now next items i op inside is before calls =
    let longer : take i items ++ op ∷ [] ≡ take (i + 1) items =
    ap (λ y. take i items ++ y ∷ []) is ∙ sym (take_more items i op inside) in
    subst (λ ops. CallsForEach may (reverse ops) first new start next) longer
    (subst (λ ops. CallsForEach may ops first new start next) (sym (reverse-append (take i items) (op ∷ []))) (old, now, before, calls))

-- so the calls for all of them, once none is left
pub calls_all : (may : Actor → ℕ → Type 0) (script : Script) (first new : Pass) (next : ℕ) (items : List Op) (i client : ℕ)
    → first.actor ≡ Client client → items ≡ ops_of script client → length items ≤ i → CallsForEach may (reverse (take i items)) first new 0 next
    → CallsForEach may (reverse (ops_of script (number_of first.actor))) first new 0 next
calls_all may script first new next items i client me items_are past calls =
    subst (λ a. CallsForEach may (reverse (ops_of script (number_of a))) first new 0 next) (sym me)
    (subst (λ ops. CallsForEach may (reverse ops) first new 0 next) (take_all i items past ∙ items_are) calls)

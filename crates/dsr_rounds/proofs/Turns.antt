-- How the turns of a host go on.
use Rattle.std.proofs.Common.{◌≡◌, ◌⊎◌, inl, inr, ℕ, ◌<◌, ◌≤◌, ◌^◌, ◌++◌, Bool, true, false, List, [], ◌∷◌, refl, ap, sym, ◌∙◌, subst, arith}
use Rattle.std.specs.Prelude.{Result, Ok, Err, IfOk, OnErr}
use Rattle.std.proofs.lemmas.Bool.Decides.{nat_tests}
use Rattle.dsr_names.specs.declared.actor.Actor.{Actor}
use Rattle.dsr_envelope.specs.declared.envelope.Envelope.{Envelope}
use Rattle.dsr_envelope.specs.declared.entry.Entry.{Entry}
use Rattle.dsr_envelope.specs.declared.entry.Entry.TheVariants.{Post}
use Rattle.dsr_boxes.specs.Pass.{Pass, with_entry}
use Rattle.dsr_rounds.specs.Ends.{HasTried, turn_after}
use Rattle.dsr_rounds.specs.declared.end.End.{End}
use Rattle.dsr_rounds.specs.declared.traitor.Planting.{Planting}
use Rattle.dsr_rounds.specs.declared.traitor.Planting.TheVariants.{Made, Forged, Full}
use Rattle.dsr_rounds.specs.Traitors.{HasPlanted}
use Rattle.dsr_rounds.specs.Turns.{AreInTurns, IsInTurns, HasTurns, KeepsTurns}

turn_on : (turn : ℕ) → turn ≤ turn_after turn
turn_on turn = grind (arith, nat_tests)

-- the last turn stays
after_last : (turn : ℕ) → turn < 2 ^ 40 → turn_after turn < 2 ^ 40
after_last turn low = grind (arith, nat_tests)

in_later : (may : ℕ → Type 0) (now next : ℕ) (entries : List Entry) → now ≤ next → AreInTurns may now entries → AreInTurns may next entries
in_later may now next [] less are = tt
in_later may now next (entry ∷ older) less are = let before = are.2 in (are.0, are.1, omega (arith, before, less), are.3)

-- the host did nothing, in one turn or in none
pub turns_pass : (may : Actor → ℕ → Type 0) (old new : Pass) (now next : ℕ) → new ≡ old → (next ≡ now) ⊎ (next ≡ turn_after now)
    → KeepsTurns may old new now next
turns_pass may old new now next same (inl is) first was =
    subst (λ (s : Pass). IsInTurns may first s next) (sym same) (subst (IsInTurns may first old) (sym is) was)
turns_pass may old new now next same (inr is) first was =
    subst (λ (s : Pass). IsInTurns may first s next) (sym same) (subst (IsInTurns may first old) (sym is) (record {
      actor = was.actor;
      added = was.added;
      log = was.log;
      turns = in_later (may first.actor) now (turn_after now) was.added (turn_on now) was.turns;
      last = after_last now was.last;
    }))

-- a host makes an entry in this turn
entry_turn : (may : Actor → ℕ → Type 0) (old new : Pass) (now : ℕ) (entry : Entry) → new ≡ with_entry old entry → may old.actor now
    → KeepsTurns may old new now (turn_after now)
entry_turn may old new now entry e passed first was = subst (λ (s : Pass). IsInTurns may first s (turn_after now)) (sym e) (record {
  actor = was.actor;
  added = entry ∷ was.added;
  log = ap (λ l. entry ∷ l) was.log;
  turns = (now, subst (λ a. may a now) was.actor passed, omega arith, was.turns);
  last = after_last now was.last;
})

try_turn : (may : Actor → ℕ → Type 0) (entry : Envelope → Entry) (old new : Pass) (now next : ℕ) (made : Bool) → may old.actor now
    → next ≡ turn_after now → HasTried entry old new made → KeepsTurns may old new now next
try_turn may entry old new now next true passed is tried =
    subst (KeepsTurns may old new now) (sym is) (entry_turn may old new now (entry tried.0) tried.1 passed)
try_turn may entry old new now next false passed is tried =
    turns_pass may old new now next tried (inr is)

-- a try that the gate let pass
pub tried_turn : (may : Actor → ℕ → Type 0) (entry : Envelope → Entry) (old new : Pass) (now next : ℕ) (result : Result Bool End) → may old.actor now
    → next ≡ turn_after now → IfOk result (HasTried entry old new) → OnErr result (new ≡ old) → KeepsTurns may old new now next
tried_turn may entry old new now next (Ok made) passed is tried err = try_turn may entry old new now next made passed is tried
tried_turn may entry old new now next (Err end) passed is tried err =
    turns_pass may old new now next err (inr is)

-- a traitor's post that the gate let pass
pub planted_turn : (may : Actor → ℕ → Type 0) (to : Actor) (draft : Envelope) (old new : Pass) (now next : ℕ) (planting : Planting) → may old.actor now
    → next ≡ turn_after now → HasPlanted old new to draft planting → KeepsTurns may old new now next
planted_turn may to draft old new now next Made passed is planted =
    subst (KeepsTurns may old new now) (sym is) (entry_turn may old new now (Post to draft) planted.0 passed)
planted_turn may to draft old new now next Forged passed is planted =
    turns_pass may old new now next planted.0 (inr is)
planted_turn may to draft old new now next Full passed is planted =
    turns_pass may old new now next planted (inr is)

-- a host's turns begin
pub first_turns : (may : Actor → ℕ → Type 0) (seat : Pass) (next : ℕ) → next ≡ 0 → IsInTurns may seat seat next
first_turns may seat next first = record { actor = refl; added = []; log = refl; turns = tt; last = omega (arith, first) }

pub turns_further : (may : Actor → ℕ → Type 0) (a b c : Pass) (i j k : ℕ) → KeepsTurns may a b i j → KeepsTurns may b c j k → KeepsTurns may a c i k
turns_further may a b c i j k was more first h = more first (was first h)

-- What is left after a play whose transcript was written, or could not be.
use Rattle.std.proofs.Common.{◌≡◌, ◌<◌, ◌≤◌, ◌⊎◌, ℕ, List, length, inl, inr, refl, ap, subst, sym}
use Rattle.std.specs.Prelude.{Option, None, Some, Result, Ok, Err, IfErr, IfOk, OnErr}
use Rattle.std.specs.Io.KnownBytes.{Keeps}
use Rattle.dsr_names.specs.Limits.{most_bytes}
use Rattle.dsr_names.specs.Streams.{Streams, CanFailToTake, SentAll, SentPrefix}
use Rattle.dsr_names.specs.declared.refusal.Refusal.{Refusal}
use Rattle.dsr_names.specs.declared.refusal.Refusal.TheVariants.{NoMemory, WriteFailed}
use Rattle.dsr_history.specs.Applied.{IsTextOf}
use Rattle.dsr_reports.specs.Played.{Form, HasPlayed, LeftAfterPlay, PlayedAll}

-- equal contents are kept
pub kept : (before after : Option (List ℕ)) → after ≡ before → Keeps before after
kept before after same = subst (λ contents. Keeps before contents) (sym same) (itself before)
  where
    itself : (contents : Option (List ℕ)) → Keeps contents contents
    itself None = tt
    itself (Some bytes) = refl

-- the refusal of a result, or another one
abbrev refusal_or : Refusal → Result ℕ Refusal → Refusal
refusal_or other (Ok refused) = other
refusal_or other (Err refusal) = refusal

module _ (Tells : Form) (s : Streams) (text : List ℕ) (refused starved : ℕ) (told : List ℕ) (short : length text ≤ most_bytes)
    (given : IsTextOf s.input.left text) (played : HasPlayed Tells text refused starved told) where
  -- all of it went out
  pub all_out : (r : Result ℕ Refusal) → IfOk r (λ n. (n ≡ refused) × (starved ≡ 0) × SentAll told s.output s.written)
      → IfOk r (λ n. PlayedAll Tells n s)
  all_out (Ok n) h = subst (λ k. PlayedAll Tells k s) (sym h.0)
      (record { text = text; short = short; given = given; starved = starved; none_starved = h.1; told = told; played = played; went_out = h.2 })
  all_out (Err refusal) h = tt

  -- memory ran out: before any of it was written, or only for some events
  starved_left : (s.written.contents ≡ s.output.contents) ⊎ ((0 < starved) × SentAll told s.output s.written) → LeftAfterPlay Tells NoMemory s
  starved_left (inl same) = inl (kept s.output.contents s.written.contents same)
  starved_left (inr h) =
      inr (record {
        text = text;
        short = short;
        given = given;
        refused = refused;
        starved = starved;
        some_starved = h.0;
        told = told;
        played = played;
        went_out = h.1;
      })

  -- writing failed
  part_left : CanFailToTake (length told) s.output × SentPrefix told s.output s.written → LeftAfterPlay Tells WriteFailed s
  part_left h = record {
    text = text;
    short = short;
    given = given;
    refused = refused;
    starved = starved;
    told = told;
    played = played;
    too_many = h.0;
    went_out = h.1;
  }

  -- what each of the two refusals left
  pub refused_left : (r : Result ℕ Refusal) → OnErr r ((r ≡ Err NoMemory) ⊎ (r ≡ Err WriteFailed))
      → (r ≡ Err NoMemory → (s.written.contents ≡ s.output.contents) ⊎ ((0 < starved) × SentAll told s.output s.written))
      → (r ≡ Err WriteFailed → CanFailToTake (length told) s.output × SentPrefix told s.output s.written)
      → IfErr r (λ refusal. LeftAfterPlay Tells refusal s)
  refused_left (Ok n) is none part = tt
  refused_left (Err refusal) (inl is) none part = subst (λ e. LeftAfterPlay Tells e s) (sym (ap (refusal_or refusal) is)) (starved_left (none is))
  refused_left (Err refusal) (inr is) none part = subst (λ e. LeftAfterPlay Tells e s) (sym (ap (refusal_or refusal) is)) (part_left (part is))

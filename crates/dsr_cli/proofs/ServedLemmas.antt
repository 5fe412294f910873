-- What is left after a service whose output was written, or could not be.
use Rattle.std.proofs.Common.{◌≡◌, ◌≤◌, ℕ, List, length, inl, inr, subst, sym}
use Rattle.std.specs.Prelude.{Option, None, Some, Result, Ok, Err, IfErr, OnOk}
use Rattle.dsr_names.specs.Limits.{most_bytes}
use Rattle.dsr_names.specs.Streams.{Streams, SentAll}
use Rattle.dsr_names.specs.declared.refusal.Refusal.{Refusal}
use Rattle.dsr_names.specs.declared.refusal.Refusal.TheVariants.{BadShape, BadName, BadNumber, Busy, NotDue, BoxFull, BoxEmpty, Forged, Exhausted, Stopped, Unanswered, NoMemory, BadText, NotARun, NoActor, WrongRole, ReadFailed, WriteFailed, NoThread}
use Rattle.dsr_history.specs.Applied.{IsTextOf}
use Rattle.dsr_cli.specs.Served.{HasServed, IsAfterTelling, LeftAfterService, ServedAll, ServiceForm, ToldService}
use Rattle.dsr_reports.proofs.PlayedLemmas.{kept}

-- the output of a service that this cause ended is what the refusal with that name leaves; other causes are impossible
ended_left : (Tells : ServiceForm) (s : Streams) (cause : Refusal) → ToldService Tells (Some cause) s → LeftAfterService Tells cause s
ended_left Tells s Exhausted h = h
ended_left Tells s Unanswered h = h
ended_left Tells s NoThread h = h
ended_left Tells s NoMemory h = inr h
ended_left Tells s Stopped h = absurd h.served.served.ended.2
ended_left Tells s BadShape h = absurd h.served.served.ended
ended_left Tells s BadName h = absurd h.served.served.ended
ended_left Tells s BadNumber h = absurd h.served.served.ended
ended_left Tells s Busy h = absurd h.served.served.ended
ended_left Tells s NotDue h = absurd h.served.served.ended
ended_left Tells s BoxFull h = absurd h.served.served.ended
ended_left Tells s BoxEmpty h = absurd h.served.served.ended
ended_left Tells s Forged h = absurd h.served.served.ended
ended_left Tells s (BadText line) h = absurd h.served.served.ended
ended_left Tells s (NotARun line) h = absurd h.served.served.ended
ended_left Tells s NoActor h = absurd h.served.served.ended
ended_left Tells s WrongRole h = absurd h.served.served.ended
ended_left Tells s ReadFailed h = absurd h.served.served.ended
ended_left Tells s WriteFailed h = absurd h.served.served.ended

module _ (Tells : ServiceForm) (s : Streams) (text : List ℕ) (cause : Option Refusal) (told : List ℕ) (short : length text ≤ most_bytes)
    (given : IsTextOf s.input.left text) (served : HasServed Tells text cause told) where
  -- all of it went out
  all_told : SentAll told s.output s.written → ToldService Tells cause s
  all_told out = record { text = text; short = short; given = given; told = told; served = served; went_out = out }

  -- all clients were served
  pub all_served : (r : Result (Unit {0}) Refusal) → OnOk r ((cause ≡ None) × SentAll told s.output s.written) → OnOk r (ServedAll Tells s)
  all_served (Ok nothing) h = subst (λ (c : Option Refusal). ToldService Tells c s) h.0 (all_told h.1)
  all_served (Err refusal) h = tt

  -- what each refusal left
  left : (refusal : Refusal) → IsAfterTelling told cause s.output s.written refusal → LeftAfterService Tells refusal s
  left refusal (inl all) = ended_left Tells s refusal (subst (λ (c : Option Refusal). ToldService Tells c s) all.0 (all_told all.1))
  left refusal (inr (inl part)) = subst (λ e. LeftAfterService Tells e s) (sym part.0) (record {
    text = text;
    short = short;
    given = given;
    cause = cause;
    told = told;
    served = served;
    too_many = part.1;
    went_out = part.2;
  })
  left refusal (inr (inr none)) =
      subst (λ e. LeftAfterService Tells e s) (sym none.0) (inl (kept s.output.contents s.written.contents none.1))

  pub service_left : (r : Result (Unit {0}) Refusal) → IfErr r (IsAfterTelling told cause s.output s.written)
      → IfErr r (λ refusal. LeftAfterService Tells refusal s)
  service_left (Ok nothing) h = tt
  service_left (Err refusal) h = left refusal h

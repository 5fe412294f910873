-- What went out of an explanation that goes out part after part, at each moment of it.
use Rattle.std.proofs.Common.{◌≡◌, ◌⊎◌, ◌++◌, ◌+◌, ◌<◌, ◌∙◌, ℕ, List, [], Bool, false, true, ap, inl, inr, length, refl, subst, sym, take, drop}
use Rattle.std.proofs.KnownBytes.{Appends-nil}
use Rattle.std.proofs.lemmas.List.{take-append-drop}
use Rattle.std.specs.Prelude.{IfErr, IfSome, IsOkUnless, IsTrue, OnErr, Result, Ok, Err, get_or}
use Rattle.dsr_names.specs.Shape.{Shape}
use Rattle.dsr_names.specs.Streams.{Output, CanFailToTake, SentAll, SentPrefix}
use Rattle.dsr_names.specs.declared.refusal.Refusal.{Refusal}
use Rattle.dsr_names.specs.declared.refusal.Refusal.TheVariants.{BadShape, BadName, BadNumber, Busy, NotDue, BoxFull, BoxEmpty, Forged, Exhausted, Stopped, Unanswered, NoMemory, BadText, NotARun, NoActor, WrongRole, ReadFailed, WriteFailed, NoThread}
use Rattle.dsr_play.specs.Play.{Play}
use Rattle.dsr_play.specs.declared.event.Event.{Event}
use Rattle.dsr_run.specs.Step.{Step}
use Rattle.dsr_explain.specs.Outlet.{HasGoneOut, IsUnsure}
use Rattle.dsr_explain.specs.Told.{HasBrokenOff, LeftOfExplanation, TellsEvent, TellsEvents, TellsPlay, TellsSome, first_line}
use Rattle.dsr_explain.specs.declared.wanted.Wanted.{Wanted}
use Rattle.dsr_explain.proofs.PartLemmas.{all_gone, gone_on, none_gone, prefix_gone}
use Rattle.dsr_explain.proofs.ToldLemmas.{told_next}

-- the first events are some of them
pub some_of : (wanted : Wanted) (shape : Shape) (run earlier : List Step) (events : List Event) (i : ℕ) (told : List ℕ)
    → TellsEvents wanted 0 shape run earlier (take i events) told → TellsSome wanted shape earlier events told
some_of wanted shape run earlier events i told each =
    record { run = run; first = take i events; rest = drop i events; of_events = sym (take-append-drop i events); each = each }

-- ---- one event more

-- the text about an event, for the filter and the shape with which the events began
pub for_start : (wanted filter : Wanted) (shape other : Shape) (number : ℕ) (later earlier : List Step) (event : Event) (out grown : List ℕ)
    → filter ≡ wanted → other ≡ shape
    → ((text : List ℕ) × TellsEvent filter number other later earlier event text × (grown ≡ out ++ text))
    → ((text : List ℕ) × TellsEvent wanted number shape later earlier event text × (grown ≡ out ++ text))
for_start wanted filter shape other number later earlier event out grown same_filter same_shape told =
    subst (λ w. (text : List ℕ) × TellsEvent w number shape later earlier event text × (grown ≡ out ++ text)) same_filter
    (subst (λ s. (text : List ℕ) × TellsEvent filter number s later earlier event text × (grown ≡ out ++ text)) same_shape told)

module _ (wanted : Wanted) (shape : Shape) (later mid earlier : List Step) (events : List Event) (i : ℕ) (event : Event) (in_parts : Bool)
    (start out grown : List ℕ) (s0 s1 : Output) (inside : i < length events) (is : event ≡ get_or events i event)
    (before : (told : List ℕ) × TellsEvents wanted 0 shape mid earlier (take i events) told × HasGoneOut in_parts (start ++ told) out s0 s1)
    (one : (text : List ℕ) × TellsEvent wanted i shape later mid event text × (grown ≡ out ++ text)) where
  -- the text about one event more
  next : (told : List ℕ) × TellsEvents wanted 0 shape later earlier (take (i + 1) events) told × ((start ++ before.0) ++ one.0 ≡ start ++ told)
  next =
      told_next wanted shape later mid earlier events i event start (start ++ before.0) ((start ++ before.0) ++ one.0) inside is
      (before.0, before.1, refl) (one.0, one.1, refl)

  -- before any of it goes out
  written : HasGoneOut in_parts (start ++ next.0) grown s0 s1
  written = subst (λ t. HasGoneOut in_parts t grown s0 s1) next.2
      (gone_on in_parts (start ++ before.0) out one.0 grown s0 s1 s1 before.2
      (subst (λ g. HasGoneOut in_parts (out ++ one.0) g s1 s1) (sym one.2) (none_gone in_parts (out ++ one.0) s1)))

  -- and after
  pub one_more : (left : List ℕ) (s2 : Output) → HasGoneOut in_parts grown left s1 s2
      → (told : List ℕ) × TellsEvents wanted 0 shape later earlier (take (i + 1) events) told × HasGoneOut in_parts (start ++ told) left s0 s2
  one_more left s2 now = (
    next.0,
    next.1,
    subst (λ t. HasGoneOut in_parts t left s0 s2) next.2
        (gone_on in_parts (start ++ before.0) out one.0 left s0 s1 s2 before.2 (subst (λ g. HasGoneOut in_parts g left s1 s2) one.2 now)),
  )

  -- what has gone out is that of some events
  pub still_some : (left : List ℕ) (s2 : Output) → HasGoneOut in_parts grown left s1 s2 → (s2 ≡ s1) ⊎ (left ≡ [])
      → HasBrokenOff wanted shape earlier events start NoMemory s0 s1 → HasBrokenOff wanted shape earlier events start NoMemory s0 s2
  still_some left s2 now (inl same) was = subst (λ s. HasBrokenOff wanted shape earlier events start NoMemory s0 s) (sym same) was
  still_some left s2 now (inr none) was =
      let gone = one_more left s2 now in
      let nothing : SentAll left s2 s2 = subst (λ t. SentAll t s2 s2) (sym none) (Appends-nil s2.contents) in
      inr (gone.0, some_of wanted shape later earlier events (i + 1) gone.0 gone.1, all_gone in_parts (start ++ gone.0) left s0 s2 s2 gone.2 nothing)

  -- a prefix of what there is went out
  pub prefix_some : (s2 : Output) → SentPrefix grown s1 s2 → HasBrokenOff wanted shape earlier events start WriteFailed s0 s2
  prefix_some s2 now =
      (next.0, some_of wanted shape later earlier events (i + 1) next.0 next.1, prefix_gone in_parts (start ++ next.0) grown s0 s1 s2 written now)

-- ---- the play

-- a sink of which nothing is known may not take a text
pub may_fail : (count : ℕ) (sink : Output) → IsUnsure sink → CanFailToTake count sink
may_fail count sink unsure =
    (subst (λ room. IfSome room (λ most. most < count)) (sym unsure.0) tt, λ steady. absurd (unsure.1 steady))

-- the events are those of the play, on a stage that begins with no step
pub of_play : (wanted w : Wanted) (play : Play) (shape : Shape) (run : List Step) (events : List Event) (out : List ℕ) (refusal : Refusal) (before after : Output)
    → w ≡ wanted → shape ≡ play.shape → run ≡ [] → events ≡ play.events → out ≡ first_line wanted.data play.shape
    → HasBrokenOff w shape run events out refusal before after
    → HasBrokenOff wanted play.shape [] play.events (first_line wanted.data play.shape) refusal before after
of_play wanted w play shape run events out refusal before after same_wanted same_shape none all begun h =
    subst (λ x. HasBrokenOff x play.shape [] play.events (first_line wanted.data play.shape) refusal before after) same_wanted
    (subst (λ x. HasBrokenOff w x [] play.events (first_line wanted.data play.shape) refusal before after) same_shape
    (subst (λ x. HasBrokenOff w shape x play.events (first_line wanted.data play.shape) refusal before after) none
    (subst (λ x. HasBrokenOff w shape run x (first_line wanted.data play.shape) refusal before after) all
    (subst (λ x. HasBrokenOff w shape run events x refusal before after) begun h))))

-- what went out before memory ran out
pub starved : (wanted : Wanted) (play : Play) (before after : Output) → HasBrokenOff wanted play.shape [] play.events (first_line wanted.data play.shape) NoMemory before after
    → LeftOfExplanation wanted play NoMemory before after
starved wanted play before after (inl none) = inl none
starved wanted play before after (inr (text, some, sent)) =
    inr (first_line wanted.data play.shape ++ text, record { events = text; some = some; told = refl }, sent)

-- what went out before writing failed
pub unwritten : (wanted : Wanted) (play : Play) (before after : Output) → IsUnsure before
    → HasBrokenOff wanted play.shape [] play.events (first_line wanted.data play.shape) WriteFailed before after → LeftOfExplanation wanted play WriteFailed before after
unwritten wanted play before after unsure (text, some, sent) =
    let all = first_line wanted.data play.shape ++ text in
    (all, inr (record { events = text; some = some; told = refl }), may_fail (length all) before unsure, sent)

-- what went out before the events broke off; a text that is to go out at once breaks off for lack of memory alone
pub left_broken : (wanted : Wanted) (play : Play) (before after : Output) (refusal : Refusal) (in_parts : Bool) → (IsTrue in_parts → IsUnsure before)
    → (in_parts ≡ false → refusal ≡ NoMemory) → HasBrokenOff wanted play.shape [] play.events (first_line wanted.data play.shape) refusal before after
    → LeftOfExplanation wanted play refusal before after
left_broken wanted play before after NoMemory in_parts unsure only h = starved wanted play before after h
left_broken wanted play before after WriteFailed true unsure only h = unwritten wanted play before after (unsure refl) h
left_broken wanted play before after WriteFailed false unsure only h = absurd (written_or_not (only refl))
  where
    written_or_not : WriteFailed ≡ NoMemory → ⊥
    written_or_not e = absurd cc
left_broken wanted play before after BadShape in_parts unsure only h = absurd h
left_broken wanted play before after BadName in_parts unsure only h = absurd h
left_broken wanted play before after BadNumber in_parts unsure only h = absurd h
left_broken wanted play before after Busy in_parts unsure only h = absurd h
left_broken wanted play before after NotDue in_parts unsure only h = absurd h
left_broken wanted play before after BoxFull in_parts unsure only h = absurd h
left_broken wanted play before after BoxEmpty in_parts unsure only h = absurd h
left_broken wanted play before after Forged in_parts unsure only h = absurd h
left_broken wanted play before after Exhausted in_parts unsure only h = absurd h
left_broken wanted play before after Stopped in_parts unsure only h = absurd h
left_broken wanted play before after Unanswered in_parts unsure only h = absurd h
left_broken wanted play before after NoActor in_parts unsure only h = absurd h
left_broken wanted play before after WrongRole in_parts unsure only h = absurd h
left_broken wanted play before after ReadFailed in_parts unsure only h = absurd h
left_broken wanted play before after NoThread in_parts unsure only h = absurd h
left_broken wanted play before after (BadText line) in_parts unsure only h = absurd h
left_broken wanted play before after (NotARun line) in_parts unsure only h = absurd h

-- what holds of a result that is bad
pub on_err : {T : Type 0} (result : Result T Refusal) (P Q : Refusal → Type 0) → ((refusal : Refusal) → P refusal → Q refusal) → IfErr result P → IfErr result Q
on_err (Ok x) P Q more p = tt
on_err (Err refusal) P Q more p = more refusal p

-- the rest of an explanation could not be written
pub unsent : {T : Type 0} (result : Result T Refusal) (wanted : Wanted) (play : Play) (in_parts : Bool) (total rest : List ℕ) (before middle after : Output)
    → (IsTrue in_parts → IsUnsure before) → (in_parts ≡ false → middle ≡ before) → TellsPlay wanted play total → HasGoneOut in_parts total rest before middle
    → IsOkUnless result WriteFailed → OnErr result (in_parts ≡ false → CanFailToTake (length rest) middle) → SentPrefix rest middle after
    → IfErr result (λ refusal. LeftOfExplanation wanted play refusal before after)
unsent (Ok x) wanted play in_parts total rest before middle after unsure at_once tells gone which failed prefix = tt
unsent (Err refusal) wanted play in_parts total rest before middle after unsure at_once tells gone which failed prefix =
    subst (λ e. LeftOfExplanation wanted play e before after) (sym which)
    (total, inl tells, by_parts in_parts refl, prefix_gone in_parts total rest before middle after gone prefix)
  where
    by_parts : (b : Bool) → in_parts ≡ b → CanFailToTake (length total) before
    by_parts true e = may_fail (length total) before (unsure e)
    by_parts false e =
        let all : total ≡ rest = gone.whole ∙ ap (λ first. first ++ rest) (gone.at_once e) in
        subst (λ sink. CanFailToTake (length total) sink) (at_once e) (subst (λ t. CanFailToTake (length t) middle) (sym all) (failed e))

-- How the text about events grows by the text about one more.
use Rattle.std.proofs.Common.{◌≡◌, ℕ, suc, ◌+◌, List, [], ◌∷◌, ◌++◌, length, refl, ap, sym, ◌∙◌, subst, append_assoc, append-nil, arith}
use Rattle.std.specs.Prelude.{Result, Ok, Err, OnOk}
use Rattle.std.specs.Prelude.{◌≢◌, filter, get_or, take}
use Rattle.std.proofs.Common.{◌<◌, ◌≤◌, Bool, true, false, if◌then◌else◌}
use Rattle.std.proofs.lemmas.List.{length-take-le, take_more}
use Rattle.dsr_names.specs.Shape.{Shape}
use Rattle.dsr_names.specs.declared.actor.Actor.{Actor}
use Rattle.dsr_chain.specs.Chain.{Chain}
use Rattle.dsr_run.specs.Step.{Logs}
use Rattle.dsr_notes.specs.declared.note.Note.{Note}
use Rattle.dsr_explain.specs.Lines.{note_line, note_lines}
use Rattle.dsr_explain.proofs.NoteLemmas.{lines_more}
use Rattle.dsr_play.specs.declared.event.Event.{Event}
use Rattle.dsr_run.specs.Step.{Step}
use Rattle.dsr_ledger.specs.declared.reply.Reply.{Reply as AReply}
use Rattle.dsr_names.specs.declared.refusal.Refusal.{Refusal}
use Rattle.dsr_names.specs.declared.refusal.Refusal.TheVariants.{NoMemory}
use Rattle.dsr_reasons.specs.Reason.{TellsCause, actor_of, other_of, reason_line}
use Rattle.dsr_run.specs.Step.{log_of}
use Rattle.dsr_world.specs.Event.{HasDone, IsRefusedBy, MayBeDone}
use Rattle.std.proofs.Common.{Option, inl, inr}
use Rattle.std.proofs.lemmas.Bool.{true≢false}
use Rattle.dsr_explain.specs.Waits.{AreBelow, TellsWaits}
use Rattle.dsr_play.specs.Play.{Play}
use Rattle.dsr_explain.specs.Wanted.{WantsRefused}
use Rattle.dsr_explain.specs.Told.{TellsEvent, TellsEvents, TellsPlay, TellsRefusal, first_line, refused_line}
use Rattle.dsr_explain.specs.declared.wanted.Wanted.{Wanted}

-- the text about these events, and then about one more, is the text about all of them
pub told_more : (wanted : Wanted) (n number : ℕ) (shape : Shape) (later mid earlier : List Step) (events : List Event) (event : Event) (first last : List ℕ)
    → number ≡ n + length events → TellsEvents wanted n shape mid earlier events first → TellsEvent wanted number shape later mid event last
    → TellsEvents wanted n shape later earlier (events ++ event ∷ []) (first ++ last)
told_more wanted n number shape later mid earlier [] event first last count before one =
    let same : number ≡ n = omega (arith, count) in (
      later,
      last,
      [],
      subst (λ run. TellsEvent wanted n shape later run event last) before.0 (subst (λ k. TellsEvent wanted k shape later mid event last) same one),
      (refl, refl),
      (ap (λ t. t ++ last) before.1 ∙ sym (append-nil last)),
    )
told_more wanted n number shape later mid earlier (e ∷ events) event first last count before one =
    let rest = told_more wanted (suc n) number shape later mid before.0 events event before.2 last (omega (arith, count)) before.4 one in
    (before.0, before.1, before.2 ++ last, before.3, rest, ap (λ t. t ++ last) before.5 ∙ append_assoc before.1 before.2 last)

-- what holds of a result that is good
pub on_ok : {T E : Type 0} (result : Result T E) (P Q : Type 0) → (P → Q) → OnOk result P → OnOk result Q
on_ok (Ok x) P Q more p = more p
on_ok (Err e) P Q more p = tt

-- ---- the wanted notes

-- one more item comes through the filter, or does not
filter_more : (wants : Note → Bool) (notes : List Note) (note : Note)
    → filter wants (notes ++ note ∷ []) ≡ (if wants note then filter wants notes ++ note ∷ [] else filter wants notes)
filter_more wants [] note = by_test (wants note)
  where
    by_test : (b : Bool) → (if b then note ∷ [] else []) ≡ (if b then [] ++ note ∷ [] else [])
    by_test true = refl
    by_test false = refl
filter_more wants (first ∷ notes) note = by_test (wants first) (wants note) (filter_more wants notes note)
  where
    by_test : (b c : Bool) → filter wants (notes ++ note ∷ []) ≡ (if c then filter wants notes ++ note ∷ [] else filter wants notes)
        → (if b then first ∷ filter wants (notes ++ note ∷ []) else filter wants (notes ++ note ∷ []))
        ≡ (if c then (if b then first ∷ filter wants notes else filter wants notes) ++ note ∷ [] else (if b then first ∷ filter wants notes else filter wants notes))
    by_test true true e = ap (λ l. first ∷ l) e
    by_test true false e = ap (λ l. first ∷ l) e
    by_test false true e = e
    by_test false false e = e

module _ (is_data : Bool) (shape : Shape) (logs : Logs) (at other : Actor) (chains : List Chain) (texts : List (List ℕ)) (wants : Note → Bool) where
  -- the lines of the wanted notes, with one more note
  pub wanted_more : (old mid new : List ℕ) (notes : List Note) (i : ℕ) (note : Note) → i < length notes → note ≡ get_or notes i note
      → mid ≡ old ++ note_lines is_data shape logs at other chains texts (filter wants (take i notes))
      → (wants note ≡ true → new ≡ mid ++ note_line is_data shape logs at other chains texts note)
      → (wants note ≡ false → new ≡ mid)
      → new ≡ old ++ note_lines is_data shape logs at other chains texts (filter wants (take (i + 1) notes))
  wanted_more old mid new notes i note inside is before some none =
      by_test (wants note) refl (ap (filter wants) (take_more notes i note inside ∙ ap (λ n. take i notes ++ n ∷ []) (sym is)) ∙ filter_more wants (take i notes) note)
    where
      by_test : (b : Bool) → wants note ≡ b
          → filter wants (take (i + 1) notes) ≡ (if b then filter wants (take i notes) ++ note ∷ [] else filter wants (take i notes))
          → new ≡ old ++ note_lines is_data shape logs at other chains texts (filter wants (take (i + 1) notes))
      by_test true e more =
          some e ∙ (ap (λ t. t ++ note_line is_data shape logs at other chains texts note) before
          ∙ (append_assoc old (note_lines is_data shape logs at other chains texts (filter wants (take i notes))) (note_line is_data shape logs at other chains texts note)
          ∙ ap (λ t. old ++ t) (sym (ap (note_lines is_data shape logs at other chains texts) more
          ∙ lines_more is_data shape logs at other chains texts (filter wants (take i notes)) note))))
      by_test false e more = none e ∙ (before ∙ ap (λ l. old ++ note_lines is_data shape logs at other chains texts l) (sym more))

-- ---- one event

-- the text of a refused event that is wanted
pub refusal_told : (wanted : Wanted) (number line : ℕ) (shape : Shape) (run : List Step) (event : Event) (refusal : Refusal) (old new : List ℕ)
    → WantsRefused wanted event
    → (shown : List ℕ) × TellsCause shape (log_of run) event wanted.data (old ++ refused_line wanted.data number line event refusal shown) new
    → (text : List ℕ) × TellsRefusal wanted number shape run event refusal text × (new ≡ old ++ text)
refusal_told wanted number line shape run event refusal old new wants cause =
    let head = refused_line wanted.data number line event refusal cause.0 in
    let said = reason_line wanted.data (actor_of event) (other_of event) cause.1.cause in (
      head ++ said,
      record {
        told = λ w. (line, cause.0, record { cause = cause.1.cause; holds = cause.1.holds; told = refl });
        other = λ no. absurd (no wants);
      },
      cause.1.told ∙ append_assoc old head said,
    )

-- an event that was done has no text if the filter wants only refused events
pub brief_told : (wanted : Wanted) (number : ℕ) (shape : Shape) (later earlier : List Step) (event : Event) (reply : Option AReply) (out : List ℕ)
    → wanted.refused ≡ true → MayBeDone shape (log_of earlier) event → HasDone shape later earlier event reply
    → (text : List ℕ) × TellsEvent wanted number shape later earlier event text × (out ≡ out ++ text)
brief_told wanted number shape later earlier event reply out refused may done =
    ([], inl (record { reply = reply; may = may; done = done; noted = λ all. absurd (true≢false (sym refused ∙ all)); unwanted = λ r. refl }), sym (append-nil out))

-- the text of an event that was refused
pub refused_told : {T E : Type 0} (result : Result T E) (wanted : Wanted) (number : ℕ) (shape : Shape) (later earlier : List Step) (event : Event)
    (refusal : Refusal) (old new : List ℕ) → IsRefusedBy shape (log_of earlier) event refusal → refusal ≢ NoMemory → later ≡ earlier
    → OnOk result ((text : List ℕ) × TellsRefusal wanted number shape earlier event refusal text × (new ≡ old ++ text))
    → OnOk result ((text : List ℕ) × TellsEvent wanted number shape later earlier event text × (new ≡ old ++ text))
refused_told (Ok x) wanted number shape later earlier event refusal old new refused fed same told =
    (told.0, inr (record { refusal = refusal; refused = refused; not_starved = fed; same = same; tells = told.1 }), told.2)
refused_told (Err e) wanted number shape later earlier event refusal old new refused fed same told = tt

-- the text of one event more
pub told_next : (wanted : Wanted) (shape : Shape) (later mid earlier : List Step) (events : List Event) (i : ℕ) (event : Event) (first middle last : List ℕ)
    → i < length events → event ≡ get_or events i event
    → (text : List ℕ) × TellsEvents wanted 0 shape mid earlier (take i events) text × (middle ≡ first ++ text)
    → (text : List ℕ) × TellsEvent wanted i shape later mid event text × (last ≡ middle ++ text)
    → (text : List ℕ) × TellsEvents wanted 0 shape later earlier (take (i + 1) events) text × (last ≡ first ++ text)
told_next wanted shape later mid earlier events i event first middle last inside is before one =
    let taken = take_more events i event inside ∙ ap (λ e. take i events ++ e ∷ []) (sym is) in
    let few : i ≤ length events = omega (arith, inside) in
    let count = length-take-le i events few in (
      before.0 ++ one.0,
      subst (λ es. TellsEvents wanted 0 shape later earlier es (before.0 ++ one.0)) (sym taken)
          (told_more wanted 0 i shape later mid earlier (take i events) event before.0 one.0 (omega (arith, count)) before.1 one.1),
      one.2 ∙ (ap (λ t. t ++ one.0) before.2 ∙ append_assoc first before.0 one.0),
    )

-- ---- the end

-- the text of one actor more
pub below_more : (is : ℕ → List ℕ → Type 0) (k : ℕ) (first middle last : List ℕ)
    → (text : List ℕ) × AreBelow is k text × (middle ≡ first ++ text) → (text : List ℕ) × is k text × (last ≡ middle ++ text)
    → (text : List ℕ) × AreBelow is (k + 1) text × (last ≡ first ++ text)
below_more is k first middle last before one =
    let next : suc k ≡ k + 1 = omega arith in (
      before.0 ++ one.0,
      subst (λ number. AreBelow is number (before.0 ++ one.0)) next (before.0, one.0, before.1, one.1, refl),
      one.2 ∙ (ap (λ t. t ++ one.0) before.2 ∙ append_assoc first before.0 one.0),
    )

-- the first line, the events and the end are the explanation of the play
pub told_whole : (wanted w1 w2 : Wanted) (play : Play) (s1 s2 : Shape) (events : List Event) (run r0 : List Step) (out0 out1 out2 : List ℕ)
    → w1 ≡ wanted → w2 ≡ w1 → s1 ≡ play.shape → s2 ≡ s1 → events ≡ play.events → r0 ≡ [] → out0 ≡ first_line wanted.data play.shape
    → (text : List ℕ) × TellsEvents w1 0 s1 run r0 events text × (out1 ≡ out0 ++ text)
    → (slots : List ℕ) × (waits : List ℕ) × (boxes : List ℕ) × TellsWaits w2 s2 (log_of run) waits
    × (w2.data ≡ true → (slots ≡ []) × (boxes ≡ [])) × (out2 ≡ out1 ++ (slots ++ (waits ++ boxes)))
    → TellsPlay wanted play out2
told_whole wanted w1 w2 play s1 s2 events run r0 out0 out1 out2 first second shape shape_2 all none begun told end =
    let each = subst (λ w. (text : List ℕ) × TellsEvents w 0 play.shape run [] play.events text × (out1 ≡ out0 ++ text)) first
    (subst (λ s. (text : List ℕ) × TellsEvents w1 0 s run [] play.events text × (out1 ≡ out0 ++ text)) shape
    (subst (λ r. (text : List ℕ) × TellsEvents w1 0 s1 run r play.events text × (out1 ≡ out0 ++ text)) none
    (subst (λ es. (text : List ℕ) × TellsEvents w1 0 s1 run r0 es text × (out1 ≡ out0 ++ text)) all told))) in
    let last = subst (λ w. (slots : List ℕ) × (waits : List ℕ) × (boxes : List ℕ) × TellsWaits w play.shape (log_of run) waits
    × (w.data ≡ true → (slots ≡ []) × (boxes ≡ [])) × (out2 ≡ out1 ++ (slots ++ (waits ++ boxes)))) (second ∙ first)
    (subst (λ s. (slots : List ℕ) × (waits : List ℕ) × (boxes : List ℕ) × TellsWaits w2 s (log_of run) waits
    × (w2.data ≡ true → (slots ≡ []) × (boxes ≡ [])) × (out2 ≡ out1 ++ (slots ++ (waits ++ boxes)))) (shape_2 ∙ shape) end) in
    let rest = last.0 ++ (last.1 ++ last.2) in
    record {
      run = run;
      events = each.0;
      slots = last.0;
      waits = last.1;
      boxes = last.2;
      each = each.1;
      end = last.3;
      as_data = last.4;
      told = last.5
          ∙ (ap (λ t. t ++ rest) (each.2 ∙ ap (λ t. t ++ each.0) begun)
          ∙ append_assoc (first_line wanted.data play.shape) each.0 rest);
    }

-- The line of an event by the parts that it has in common with others.
use Rattle.std.proofs.Common.{◌≡◌, ℕ, ◌++◌, ◌/◌, ◌<◌, Bool, true, false, List, append_assoc, refl}
use Rattle.std.specs.Prelude.{◌^◌, not}
use Rattle.std.specs.Bool.{then_some}
use Rattle.std.specs.Fmt.{decimal}
use Rattle.dsr_play.specs.declared.event.Event.{Event}
use Rattle.dsr_reasons.specs.Reason.{actor_of, other_of}
use Rattle.dsr_explain.specs.Heads.{done_name, last_text, start_text, text_after, text_before}
use Rattle.dsr_explain.specs.Told.{done_line, verb_of}
use Rattle.dsr_explain.proofs.StartLemmas.{start_is}

-- the line of an event that was done, of these parts
line_is : (is_data : Bool) (line number : ℕ) (event : Event) (shown : List ℕ)
    → (text_before (then_some (not is_data) line) ++ decimal number)
    ++ (text_after (then_some is_data line) (verb_of event) (actor_of event) ++ (done_name is_data (other_of event) ++ shown))
    ≡ done_line is_data number line event shown
line_is true line number event shown =
    simp append_assoc refl
line_is false line number event shown =
    simp append_assoc refl

-- the same, written part after part
pub line_of_parts : (is_data : Bool) (line hundreds number : ℕ) (event : Event) (shown old start last head done new : List ℕ)
    → hundreds ≡ number / 100 → number < 2 ^ 64
    → start ≡ old ++ start_text (then_some (not is_data) line) hundreds → last ≡ start ++ last_text hundreds number
    → head ≡ last ++ text_after (then_some is_data line) (verb_of event) (actor_of event)
    → done ≡ head ++ done_name is_data (other_of event) → new ≡ done ++ shown → new ≡ old ++ done_line is_data number line event shown
line_of_parts is_data line hundreds number event shown old start last head done new e fits s l h d n =
    rw (← line_is is_data line number event shown)
    (simp (append_assoc, n, d, h, start_is (then_some (not is_data) line) hundreds number old start last e fits s l) refl)

-- The texts that the lines of several events have in common; no public contract cites this (this project).
use Rattle.std.specs.Prelude.{◌==◌, ◌++◌, ℕ, Bool, true, false, List, [], Option, None, Some, codes, if◌then◌else◌}
use Rattle.std.specs.Fmt.{decimal}
use Rattle.dsr_names.specs.Actor.{actor_text}
use Rattle.dsr_names.specs.declared.actor.Actor.{Actor}
use Rattle.dsr_reasons.specs.Digits.{last_two}
use Rattle.dsr_reasons.specs.Reason.{one_of}
use Rattle.dsr_explain.specs.Told.{verb_text}
use Rattle.dsr_explain.specs.declared.shared.Shared.{Shared}
use Rattle.dsr_explain.specs.declared.shared.Shared.TheVariants.{Start, Between, Other, Chain}
use Rattle.dsr_explain.specs.declared.verb.Verb.{Verb}

-- ---- up to an event's number

-- the text before the number of an event; words name the line of the play here, and data do not
abbrev pub text_before : Option ℕ → List ℕ
text_before None = codes "event "
text_before (Some line) = codes "line " ++ (decimal line ++ codes ", event ")

-- the digits of a number before its last two, given its hundreds; empty if the number is below 100
abbrev pub hundreds_text : ℕ → List ℕ
hundreds_text hundreds = if hundreds == 0 then [] else decimal hundreds

-- the rest of the number: its last two digits, or all of it if it has no hundreds
abbrev pub last_text : ℕ → ℕ → List ℕ
last_text hundreds number = if hundreds == 0 then decimal number else last_two number

-- the beginning of the lines of all events whose numbers have these hundreds
abbrev pub start_text : Option ℕ → ℕ → List ℕ
start_text line hundreds = text_before line ++ hundreds_text hundreds

-- ---- after it

-- the text between the number of an event whose actor does this and the name of whom it concerns; data name the line of the play here, and words do not
abbrev pub text_after : Option ℕ → Verb → Actor → List ℕ
text_after None verb actor = codes ": " ++ (actor_text actor ++ verb_text false verb)
text_after (Some line) verb actor =
    codes " " ++ (decimal line ++ (codes " " ++ (verb_text true verb ++ (codes " " ++ (actor_text actor ++ codes " ")))))

-- the name of the other actor of an event that was done; in data, followed by "done"
abbrev pub done_name : Bool → Actor → List ℕ
done_name is_data other = actor_text other ++ one_of is_data (codes " done") []

-- ---- each of them

-- what a text that several lines share says
abbrev pub shared_text : Shared → List ℕ
shared_text (Start line hundreds) = start_text line hundreds
shared_text (Between line verb actor) = text_after line verb actor
shared_text (Other is_data actor) = done_name is_data actor
shared_text (Chain actor) = codes "chain " ++ actor_text actor

-- How texts write an answer (this project).
use Rattle.std.specs.Prelude.{ℕ, List, [], ◌++◌, codes, Option, None, Some}
use Rattle.dsr_names.specs.Token.{IsOld, old_text}
use Rattle.dsr_request.specs.declared.answer.Answer.{Answer}
use Rattle.dsr_request.specs.declared.answer.Answer.TheVariants.{Held, Written, Swapped, Kept, Full, Removed}

-- the text of an answer: a word, and after some words what the register held
abbrev pub answer_text : Answer → List ℕ
answer_text (Held old) = codes "held " ++ old_text old
answer_text Written = codes "written"
answer_text Swapped = codes "swapped"
answer_text (Kept old) = codes "kept " ++ old_text old
answer_text Full = codes "full"
answer_text (Removed old) = codes "removed " ++ old_text old

-- an answer that a text can write: a number in it is below 2 ^ 64
abbrev pub IsAnswer : Answer → Type 0
IsAnswer (Held old) = IsOld old
IsAnswer Written = Unit {0}
IsAnswer Swapped = Unit {0}
IsAnswer (Kept old) = IsOld old
IsAnswer Full = Unit {0}
IsAnswer (Removed old) = IsOld old

-- what an answer's text has after its word: what the register held, if the text has that
abbrev pub held_text : Option (Option ℕ) → List ℕ
held_text None = []
held_text (Some old) = old_text old

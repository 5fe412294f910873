-- The numbers, names and texts of the refusals (this project).
use Rattle.std.specs.Prelude.{◌≡◌, ◌⊎◌, ℕ, List, ◌++◌, codes}
use Rattle.std.specs.Fmt.{decimal}
use Rattle.dsr_names.specs.declared.refusal.Refusal.{Refusal}
use Rattle.dsr_names.specs.declared.refusal.Refusal.TheVariants.{BadShape, BadName, BadNumber, Busy, NotDue, BoxFull, BoxEmpty, Forged, Exhausted, Stopped, Unanswered, NoMemory, BadText, NotARun, NoActor, WrongRole, ReadFailed, WriteFailed, NoThread}

-- the number of a refusal; reports write it as E1 to E19
abbrev pub code_of : Refusal → ℕ
code_of BadShape = 1
code_of BadName = 2
code_of BadNumber = 3
code_of Busy = 4
code_of NotDue = 5
code_of BoxFull = 6
code_of BoxEmpty = 7
code_of Forged = 8
code_of Exhausted = 9
code_of Stopped = 10
code_of Unanswered = 11
code_of NoMemory = 12
code_of (BadText line) = 13
code_of (NotARun line) = 14
code_of NoActor = 15
code_of WrongRole = 16
code_of ReadFailed = 17
code_of WriteFailed = 18
code_of NoThread = 19

-- the name of a refusal
abbrev pub word_of : Refusal → List ℕ
word_of BadShape = codes "BadShape"
word_of BadName = codes "BadName"
word_of BadNumber = codes "BadNumber"
word_of Busy = codes "Busy"
word_of NotDue = codes "NotDue"
word_of BoxFull = codes "BoxFull"
word_of BoxEmpty = codes "BoxEmpty"
word_of Forged = codes "Forged"
word_of Exhausted = codes "Exhausted"
word_of Stopped = codes "Stopped"
word_of Unanswered = codes "Unanswered"
word_of NoMemory = codes "NoMemory"
word_of (BadText line) = codes "BadText"
word_of (NotARun line) = codes "NotARun"
word_of NoActor = codes "NoActor"
word_of WrongRole = codes "WrongRole"
word_of ReadFailed = codes "ReadFailed"
word_of WriteFailed = codes "WriteFailed"
word_of NoThread = codes "NoThread"

-- the text that a fault prints
abbrev pub refusal_text : Refusal → List ℕ
refusal_text BadShape = codes "the shape is not allowed"
refusal_text BadName = codes "not a register name"
refusal_text BadNumber = codes "number out of range"
refusal_text Busy = codes "a request is outstanding"
refusal_text NotDue = codes "not due"
refusal_text BoxFull = codes "the box is full"
refusal_text BoxEmpty = codes "the box is empty"
refusal_text Forged = codes "a signature is forged"
refusal_text Exhausted = codes "a counter is exhausted"
refusal_text Stopped = codes "stopped by the gate"
refusal_text Unanswered = codes "no answer within the turns"
refusal_text NoMemory = codes "no memory"
refusal_text (BadText line) = codes "bad text in line " ++ decimal line
refusal_text (NotARun line) = codes "not a run at line " ++ decimal line
refusal_text NoActor = codes "no such actor"
refusal_text WrongRole = codes "not that actor's part"
refusal_text ReadFailed = codes "reading failed"
refusal_text WriteFailed = codes "writing failed"
refusal_text NoThread = codes "no thread"

-- the line that reports a refusal: the program's name, the refusal's text and a line feed
abbrev pub refusal_line : Refusal → List ℕ
refusal_line refusal = codes "dsr: " ++ (refusal_text refusal ++ codes "\n")

-- a refusal of reading a whole input: the reader failed, or there was no memory
abbrev pub IsReadRefusal : Refusal → Type 0
IsReadRefusal e = (e ≡ ReadFailed) ⊎ (e ≡ NoMemory)

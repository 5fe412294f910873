-- The report of a play (this project): how its events ended, what clients accepted and have seen, what loyal replicas decided, and the
-- history.
use Rattle.std.specs.Prelude.{ℕ, zero, suc, List, [], ◌∷◌, ◌++◌, Option, None, Some, codes, length, if◌then◌else◌}
use Rattle.std.specs.Fmt.{decimal}
use Rattle.dsr_names.specs.Actor.{client_text, replica_text}
use Rattle.dsr_names.specs.Refusal.{code_of, word_of}
use Rattle.dsr_names.specs.Shape.{Shape, is_traitor}
use Rattle.dsr_names.specs.declared.refusal.Refusal.{Refusal}
use Rattle.dsr_request.specs.AnswerText.{answer_text}
use Rattle.dsr_request.specs.Request.{Request}
use Rattle.dsr_request.specs.RequestText.{request_token}
use Rattle.dsr_ledger.specs.declared.reply.Reply.{Reply}
use Rattle.dsr_desk.specs.ContentText.{content_text}
use Rattle.dsr_chain.specs.Content.{content}
use Rattle.dsr_chain.specs.declared.slot_value.SlotValue.{SlotValue}
use Rattle.dsr_run.specs.History.{accepted_by, seen_by, decided_at, history}
use Rattle.dsr_run.specs.Step.{Logs}
use Rattle.dsr_world.specs.declared.run_end.RunEnd.{RunEnd}

-- ---- lists of texts

-- the texts of the items of a list with the newest first, from the oldest item on; the text of an item may depend on how many are older
abbrev pub texts_of : {A : Type 0} → (ℕ → A → List ℕ) → List A → List ℕ
texts_of text [] = []
texts_of text (item ∷ older) = texts_of text older ++ text (length older) item

-- the texts of the numbers below this one, in rising order
abbrev pub texts_below : ℕ → (ℕ → List ℕ) → List ℕ
texts_below zero text = []
texts_below (suc k) text = texts_below k text ++ text k

-- ---- how the events ended

-- the line that names the first refused event, and why it was refused; nothing if no event was
abbrev pub first_text : Option (ℕ × Refusal) → List ℕ
first_text None = []
first_text (Some (index, refusal)) =
    codes "first " ++ (decimal index ++ (codes " E" ++ (decimal (code_of refusal) ++ (codes " " ++ (word_of refusal ++ codes "\n")))))

-- the first lines of a report: how many events were done, how many were refused, and the first refused one
abbrev pub end_text : RunEnd → List ℕ
end_text end =
    codes "done " ++ (decimal end.done ++ (codes "\nrefused " ++ (decimal end.refused ++ (codes "\n" ++ first_text end.first))))

-- ---- clients

-- the line of a reply that a client accepted
abbrev pub accepted_line : ℕ → Reply → List ℕ
accepted_line client reply =
    codes "accepted " ++ (client_text client ++ (codes " " ++ (decimal reply.number ++ (codes " " ++ (decimal reply.place ++ (codes " " ++ (answer_text reply.answer ++ codes "\n")))))))

-- the lines of the replies that a client accepted, in the order in which it accepted them; the list has the latest first
abbrev pub replies_text : ℕ → List Reply → List ℕ
replies_text client replies = texts_of (λ index reply. accepted_line client reply) replies

-- the lines of the replies that clients accepted, client by client
abbrev pub accepted_text : Shape → Logs → List ℕ
accepted_text shape logs = texts_below shape.m (λ c. replies_text c (accepted_by shape logs c))

-- the line of a client's seen front
abbrev pub seen_line : ℕ → ℕ → List ℕ
seen_line client front = codes "seen " ++ (client_text client ++ (codes " " ++ (decimal front ++ codes "\n")))

-- the lines of the clients' seen fronts
abbrev pub seen_text : Shape → Logs → List ℕ
seen_text shape logs = texts_below shape.m (λ c. seen_line c (seen_by shape logs c))

-- ---- replicas

-- a dash, if no slot is closed
abbrev pub dash_text : List SlotValue → List ℕ
dash_text [] = codes " -"
dash_text (value ∷ older) = []

-- the content of a slot, after a space
abbrev pub slot_text : ℕ → SlotValue → List ℕ
slot_text slot value = codes " " ++ content_text (content value)

-- what a replica decided, slot by slot
abbrev pub slots_text : List SlotValue → List ℕ
slots_text values = dash_text values ++ texts_of slot_text values

-- the line of what a replica decided
abbrev pub decided_line : ℕ → List SlotValue → List ℕ
decided_line replica values = codes "decided " ++ (replica_text replica ++ (slots_text values ++ codes "\n"))

-- the line of what a loyal replica decided; nothing for a traitor
abbrev pub decided_of : Shape → Logs → ℕ → List ℕ
decided_of shape logs p = if is_traitor shape p then [] else decided_line p (decided_at shape logs p)

-- the lines of what the loyal replicas decided
abbrev pub decided_text : Shape → Logs → List ℕ
decided_text shape logs = texts_below shape.n (λ p. decided_of shape logs p)

-- ---- the history

-- the line of a request that acted, after its place
abbrev pub place_line : ℕ → Request → List ℕ
place_line place request = decimal place ++ (codes " " ++ (request_token request ++ codes "\n"))

-- how many requests acted, and the line of each
abbrev pub history_text : List Request → List ℕ
history_text requests = codes "history " ++ (decimal (length requests) ++ (codes "\n" ++ texts_of place_line requests))

-- ---- the report

-- the report of these logs and this outcome of the events
abbrev pub report_text : Shape → Logs → RunEnd → List ℕ
report_text shape logs end =
    end_text end ++ (accepted_text shape logs ++ (seen_text shape logs ++ (decided_text shape logs ++ history_text (history shape logs))))

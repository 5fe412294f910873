-- A verdict on a run, written line by line, is the report on that run.
use Rattle.std.proofs.Common.{◌≡◌, ◌∙◌, ℕ, zero, suc, refl, sym, ap, ap₂, List, [], ◌∷◌, ◌++◌, append-nil, append_assoc, codes, map, reverse}
use Rattle.std.specs.Fmt.{decimal}
use Rattle.std.proofs.lemmas.List.{map-append, reverse-append, reverse-reverse}
use Rattle.dsr_names.specs.Shape.{Shape}
use Rattle.dsr_ledger.specs.declared.reply.Reply.{Reply}
use Rattle.dsr_request.specs.Request.{Request}
use Rattle.dsr_run.specs.History.{accepted_by, history}
use Rattle.dsr_run.specs.Step.{Step, Logs, log_of}
use Rattle.dsr_check.specs.Verdict.{Verdict, IsVerdict, accepted_of}
use Rattle.dsr_reports.specs.Checked.{run_text}
use Rattle.dsr_reports.specs.Report.{accepted_line, accepted_text, history_text, replies_text, texts_below, texts_of}

-- the lines of replies with their clients; the list has the latest first
abbrev pub pairs_text : List (ℕ × Reply) → List ℕ
pairs_text pairs = texts_of (λ index pair. accepted_line pair.0 pair.1) pairs

-- the lines of two lists, one after the other
pairs_text-append : (newer older : List (ℕ × Reply)) → pairs_text (newer ++ older) ≡ pairs_text older ++ pairs_text newer
pairs_text-append [] older = sym (append-nil (pairs_text older))
pairs_text-append (pair ∷ newer) older =
    ap (λ text. text ++ accepted_line pair.0 pair.1) (pairs_text-append newer older) ∙ append_assoc (pairs_text older) (pairs_text newer) (accepted_line pair.0 pair.1)

-- the lines for one client are the lines of its replies
pairs_text-map : (client : ℕ) (replies : List Reply) → pairs_text (map (λ reply. (client, reply)) replies) ≡ replies_text client replies
pairs_text-map client [] = refl
pairs_text-map client (reply ∷ older) = ap (λ text. text ++ accepted_line client reply) (pairs_text-map client older)

-- mapping commutes with reversing a list
reverse-map : {A B : Type 0} (f : A → B) (xs : List A) → reverse (map f xs) ≡ map f (reverse xs)
reverse-map f [] = refl
reverse-map f (x ∷ xs) =
    ap reverse (map-append f (x ∷ []) xs) ∙ reverse-append (f x ∷ []) (map f xs) ∙ ap (λ l. l ++ f x ∷ []) (reverse-map f xs)
    ∙ sym (map-append f (reverse xs) (x ∷ [])) ∙ sym (ap (map f) (reverse-append (x ∷ []) xs))

turned_twice : {A B : Type 0} (f : A → B) (xs : List A) → reverse (map f (reverse xs)) ≡ map f xs
turned_twice f xs = reverse-map f (reverse xs) ∙ ap (map f) (reverse-reverse xs)

-- the lines for all clients are the lines in the report of a play
pairs_text-accepted : (shape : Shape) (logs : Logs) (count : ℕ)
    → pairs_text (reverse (accepted_of shape logs count)) ≡ texts_below count (λ c. replies_text c (accepted_by shape logs c))
pairs_text-accepted shape logs zero = refl
pairs_text-accepted shape logs (suc client) =
    let replies = accepted_by shape logs client in
    let lower = accepted_of shape logs client in
    let own = map (λ reply. (client, reply)) (reverse replies) in
    ap pairs_text (reverse-append lower own) ∙ pairs_text-append (reverse own) (reverse lower)
    ∙ ap₂ (λ a b. a ++ b) (pairs_text-accepted shape logs client) (ap pairs_text (turned_twice (λ reply. (client, reply)) replies) ∙ pairs_text-map client replies)

-- the verdict's lines
pub verdict_told : (verdict : Verdict) (shape : Shape) (run : List Step) → IsVerdict shape run verdict
    → codes "run " ++ (decimal verdict.entries ++ (codes "\n" ++ (pairs_text (reverse verdict.accepted) ++ history_text (reverse verdict.history)))) ≡ run_text shape run
verdict_told verdict shape run is =
    let replies : pairs_text (reverse verdict.accepted) ≡ accepted_text shape (log_of run) =
    ap (λ pairs. pairs_text (reverse pairs)) is.accepted ∙ pairs_text-accepted shape (log_of run) shape.m in
    let requests : reverse verdict.history ≡ history shape (log_of run) = ap reverse is.history ∙ reverse-reverse (history shape (log_of run)) in
    rw (is.entries, replies, requests) refl

-- three texts that were written one after another are the verdict's lines
pub lines_written : (begun first second whole : List ℕ) (count : ℕ) (pairs : List (ℕ × Reply)) (requests : List Request) → begun ≡ []
    → first ≡ begun ++ (codes "run " ++ (decimal count ++ codes "\n")) → second ≡ first ++ pairs_text pairs → whole ≡ second ++ history_text requests
    → whole ≡ codes "run " ++ (decimal count ++ (codes "\n" ++ (pairs_text pairs ++ history_text requests)))
lines_written begun first second whole count pairs requests none run accepted acted =
    let line = codes "run " ++ (decimal count ++ codes "\n") in
    acted ∙ ap (λ text. text ++ history_text requests) (accepted ∙ ap (λ text. text ++ pairs_text pairs) (run ∙ ap (λ text. text ++ line) none))
    ∙ append_assoc line (pairs_text pairs) (history_text requests)
    ∙ ap (λ text. codes "run " ++ text) (append_assoc (decimal count) (codes "\n") (pairs_text pairs ++ history_text requests))

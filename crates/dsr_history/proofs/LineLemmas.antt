-- A text begins with the line of a request in at most one way.
use Rattle.std.proofs.Common.{◌≡◌, ℕ, ◌↔◌, List, [], ◌∷◌, ◌++◌, Option, None, Some, IfNone, refl, sym, ◌∙◌, subst, arith, append_assoc}
use Rattle.dsr_base.specs.Split.{IsAbsent}
use Rattle.dsr_base.proofs.Marks.{one_cut, not_absent}
use Rattle.dsr_request.specs.Request.{Request}
use Rattle.dsr_request.specs.RequestText.{request_text, IsRequest}
use Rattle.dsr_history.specs.Applied.{request_line, IsNoLine}
use Rattle.dsr_request.specs.Support.RequestToken.{text_without}

-- no line feed is in the text of a request
request_without : (request : Request) → IsRequest request → IsAbsent 10 (request_text 32 32 request)
request_without request h =
    let apart : ◌≡◌ {A = ℕ} 32 10 → ⊥ = λ (e : ◌≡◌ {A = ℕ} 32 10). omega arith in
    text_without 10 32 32 request refl apart apart h

regrouped : (request : Request) (after : List ℕ) → request_line request ++ after ≡ request_text 32 32 request ++ 10 ∷ after
regrouped request after = append_assoc (request_text 32 32 request) (10 ∷ []) after

-- a text without a line feed does not begin with the line of a request
pub no_feed : (text : List ℕ) → IsAbsent 10 text → IsNoLine text
no_feed text whole request after h e =
    not_absent 10 (request_text 32 32 request) after (subst (IsAbsent 10) (e ∙ regrouped request after) whole)

-- nor does a text if its first line does not read as a request
pub no_request : (text line after : List ℕ) → text ≡ line ++ 10 ∷ after → IsAbsent 10 line
    → ((request : Request) → (◌≡◌ {A = Option Request} None (Some request)) ↔ (IsRequest request × (line ≡ request_text 32 32 request))) → IsNoLine text
no_request text line after cut whole reads request rest h e =
    let same = one_cut 10 line after (request_text 32 32 request) rest whole (request_without request h) (sym cut ∙ (e ∙ regrouped request rest)) in
    let none : ◌≡◌ {A = Option Request} None (Some request) = (reads request).1 (h, same.0) in
    cc

pub if_none : {X : Type 0} {P : Type 0} (r : Option X) → P → IfNone r P
if_none None p = p
if_none (Some x) p = tt

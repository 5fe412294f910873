-- Signatures of a chain that are looked at one place after another.
use Rattle.std.proofs.Common.{◌≡◌, ℕ, suc, ◌+◌, List, [], ◌∷◌, ◌++◌, Option, Some, take, drop, refl, ap, sym, ◌∙◌, arith, append_assoc}
use Rattle.std.specs.Prelude.{slice_get}
use Rattle.std.proofs.Math.Seq.{take-suc}
use Rattle.std.proofs.lemmas.List.{drop_more}
use Rattle.std.proofs.lemmas.Option.{slice_get_within, get_or_from_slice_get}
use Rattle.dsr_names.specs.declared.actor.Actor.{Actor}
use Rattle.dsr_request.specs.Request.{Request}
use Rattle.dsr_desk.specs.Signature.{Signature}
use Rattle.dsr_desk.specs.declared.statement.Statement.TheVariants.{Link}
use Rattle.dsr_script.specs.ChainText.{spelled_links}
use Rattle.dsr_script.specs.SignatureText.{Spelled, spelled_at}
use Rattle.dsr_script.specs.Support.Noted.{noted, noted_all}

take_more : (xs : List Signature) (k : ℕ) (x : Signature) → slice_get xs k ≡ Some x → take (k + 1) xs ≡ take k xs ++ x ∷ []
take_more xs k x is =
    let one : k + 1 ≡ suc k = omega arith in
    ap (λ n. take n xs) one
    ∙ (take-suc xs k x (slice_get_within xs k x is) ∙ ap (λ y. take k xs ++ y ∷ []) (get_or_from_slice_get xs k x x is))

noted_push : (known xs : List Signature) (x : Signature) → noted_all known (xs ++ x ∷ []) ≡ noted (noted_all known xs) x
noted_push known [] x = refl
noted_push known (y ∷ ys) x = noted_push (noted known y) ys x

-- one more is noted
pub noted_more : (known now later signatures : List Signature) (k : ℕ) (s : Signature) → slice_get signatures k ≡ Some s
    → now ≡ noted_all known (take k signatures) → later ≡ noted now s → later ≡ noted_all known (take (k + 1) signatures)
noted_more known now later signatures k s stands now_is later_is =
    later_is
    ∙ (ap (λ xs. noted xs s) now_is
    ∙ (sym (noted_push known (take k signatures) s) ∙ ap (noted_all known) (sym (take_more signatures k s stands))))

-- what a text says about one more
pub said_more : (links after whole : List Spelled) (brief : Spelled) (slot : ℕ) (content : Option (List Request)) (before later : List Actor)
    (signatures : List Signature) (k : ℕ) (s : Signature) → slice_get signatures k ≡ Some s → after ≡ links ++ brief ∷ []
    → brief ≡ spelled_at (Link slot content before) s → later ≡ before ++ s.signer ∷ []
    → links ++ spelled_links slot content before (drop k signatures) ≡ whole → after ++ spelled_links slot content later (drop (k + 1) signatures) ≡ whole
said_more links after whole brief slot content before later signatures k s stands after_is brief_is later_is so_far =
    let here : drop k signatures ≡ s ∷ drop (k + 1) signatures =
    drop_more signatures k s (slice_get_within signatures k s stands)
    ∙ ap (λ x. x ∷ drop (k + 1) signatures) (get_or_from_slice_get signatures k s s stands) in
    let rest = spelled_links slot content (before ++ s.signer ∷ []) (drop (k + 1) signatures) in
    ap (λ ys. ys ++ spelled_links slot content later (drop (k + 1) signatures)) after_is
    ∙ (ap (λ b. (links ++ brief ∷ []) ++ spelled_links slot content b (drop (k + 1) signatures)) later_is
    ∙ (append_assoc links (brief ∷ []) rest
    ∙ (ap (λ b. links ++ (b ∷ rest)) brief_is ∙ (ap (λ xs. links ++ spelled_links slot content before xs) (sym here) ∙ so_far))))

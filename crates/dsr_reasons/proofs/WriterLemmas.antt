-- What was put, with one piece more.
use Rattle.std.proofs.Common.{◌≡◌, ◌∙◌, ◌++◌, ◌∷◌, [], ℕ, List, Bool, true, false, ap, append_assoc, append-nil, refl, sym}
use Rattle.std.specs.Prelude.{Result, Ok, Err, OnOk, if◌then◌else◌, string_bytes}
use Rattle.std.specs.Result.{is_ok}
use Rattle.std.proofs.lemmas.Bool.{true≢false}
use Rattle.std.specs.declared.string.String.{String}
use Rattle.dsr_reasons.specs.declared.writer.Piece.{Piece}
use Rattle.dsr_reasons.specs.Support.WriterFields.{piece_text, pieces_text}

pub one_more : {A : Type 0} (pieces : List (Piece × String A)) (piece : Piece) (text : String A)
    → pieces_text (pieces ++ (piece, text) ∷ []) ≡ pieces_text pieces ++ piece_text piece (string_bytes text)
one_more [] piece text = append-nil (piece_text piece (string_bytes text))
one_more ((first, shown) ∷ pieces) piece text =
    ap (λ t. piece_text first (string_bytes shown) ++ t) (one_more pieces piece text)
    ∙ sym (append_assoc (piece_text first (string_bytes shown)) (pieces_text pieces) (piece_text piece (string_bytes text)))

-- all that was put, after one piece more
pub put_more : {A : Type 0} (pieces items : List (Piece × String A)) (piece : Piece) (text : String A) (old word : List ℕ)
    → items ≡ pieces ++ (piece, text) ∷ [] → pieces_text pieces ≡ old → piece_text piece (string_bytes text) ≡ word → pieces_text items ≡ old ++ word
put_more pieces items piece text old word more was is =
    ap pieces_text more ∙ (one_more pieces piece text ∙ (ap (λ t. t ++ piece_text piece (string_bytes text)) was ∙ ap (λ t. old ++ t) is))

-- if the piece was put, the text is all that was put
pub whole_more : {A : Type 0} (pieces items : List (Piece × String A)) (piece : Piece) (text : String A) (before after word : List ℕ) (ok : Bool)
    → items ≡ pieces ++ (piece, text) ∷ [] → piece_text piece (string_bytes text) ≡ word → before ≡ pieces_text pieces
    → after ≡ (if ok then before ++ word else before) → ok ≡ true → after ≡ pieces_text items
whole_more pieces items piece text before after word true more is was grown put =
    grown ∙ (ap (λ t. t ++ word) was ∙ sym (put_more pieces items piece text (pieces_text pieces) word more refl is))
whole_more pieces items piece text before after word false more is was grown put = absurd (true≢false (sym put))

-- the same, if what was put is known of a good result alone
pub whole_on_ok : {A T E : Type 0} (result : Result T E) (pieces items : List (Piece × String A)) (piece : Piece) (text : String A) (before after word : List ℕ)
    → items ≡ pieces ++ (piece, text) ∷ [] → piece_text piece (string_bytes text) ≡ word → before ≡ pieces_text pieces
    → OnOk result (after ≡ before ++ word) → is_ok result ≡ true → after ≡ pieces_text items
whole_on_ok (Ok x) pieces items piece text before after word more is was grown put =
    whole_more pieces items piece text before after word true more is was grown refl
whole_on_ok (Err e) pieces items piece text before after word more is was grown put = absurd (true≢false (sym put))

-- One more line of a text that is a header and lines.
use Rattle.std.proofs.Common.{Bool, List, None, Some, [], ap, append_assoc, arith, inl, inr, length, length-append, refl, subst, sym, true, ℕ, ◌++◌, ◌+◌, ◌<◌, ◌∙◌, ◌∷◌, ◌≡◌, ◌≢◌, ◌⊎◌}
use Rattle.std.specs.Prelude.{◌==◌}
use Rattle.std.proofs.lemmas.Bool.{eqb-true}
use Rattle.std.proofs.lemmas.List.{append-nil}
use Rattle.dsr_base.specs.Reads.{Reads}
use Rattle.dsr_base.specs.Split.{IsAbsent}
use Rattle.dsr_base.proofs.Marks.{one_cut, not_absent}
use Rattle.dsr_base.proofs.ReadsLemmas.{not_read, was_read, only_read}
use Rattle.dsr_names.specs.Shape.{Shape}
use Rattle.dsr_names.specs.declared.refusal.Refusal.{Refusal}
use Rattle.dsr_text.specs.Header.{BeginsWithHeader, IsHeaderRefusal, HasBadShape, HasNoHeader}
use Rattle.dsr_text.specs.Lines.{TextKind, lines_text, AreLines, IsNext, BeginsWithLines, HasNoNext, IsBadAfter, IsTextRefusal}
use Rattle.dsr_text.specs.TakenLines.{HasTaken}

-- all lines of a text are these and more, whose text is the rest
pub record HasMore {Line : Type 0} (kind : TextKind Line) (lines : List Line) (rest : List ℕ) (all : List Line) : Type 0 where
  pub more : List Line
  pub same : all ≡ more ++ lines
  pub spelled : rest ≡ lines_text kind more

-- the lines before the rest were taken in, and the header is counted with them
pub record TakenSoFar {Line : Type 0} (kind : TextKind Line) (shape : Shape) (Gives : List Line → Type 0) (text rest : List ℕ) (number : ℕ)
    : Type 0 where
  pub lines : List Line
  pub begins : BeginsWithLines kind text shape lines rest
  pub gives : Gives lines
  pub counted : number ≡ length lines + 1
  pub only : (all : List Line) → AreLines kind shape all → text ≡ lines_text kind all → HasMore kind lines rest all

-- the first of these lines, and those after it
record Oldest {Line : Type 0} (kind : TextKind Line) (more : List Line) : Type 0 where
  pub first : Line
  pub later : List Line
  pub same : more ≡ later ++ first ∷ []
  pub text : lines_text kind more ≡ kind.line_text first ++ 10 ∷ lines_text kind later

-- if there is a rest, the first of those other lines can be the next one
record HasNext {Line : Type 0} (kind : TextKind Line) (shape : Shape) (lines : List Line) (rest : List ℕ) (all : List Line) : Type 0 where
  pub first : Line
  pub later : List Line
  pub next : IsNext kind shape lines first
  pub same : all ≡ later ++ first ∷ lines
  pub spelled : rest ≡ kind.line_text first ++ 10 ∷ lines_text kind later

-- a test for no rest
pub no_rest : (rest : List ℕ) (r : Bool) → r ≡ (length rest == 0) → r ≡ true → rest ≡ []
no_rest [] r is holds = refl
no_rest (b ∷ rest) r is holds = let none : ⊥ = omega (arith, eqb-true (length (b ∷ rest)) 0 (sym is ∙ holds)) in absurd none

-- a line has at least one byte
pub shorter : (rest bytes after : List ℕ) → rest ≡ bytes ++ 10 ∷ after → length after < length rest
shorter rest bytes after cut = subst (λ r. length after < length r) (sym cut) (omega (arith, length-append bytes (10 ∷ after)))

no_bytes : (bytes after : List ℕ) → bytes ++ 10 ∷ after ≡ [] → ⊥
no_bytes [] after e = cc
no_bytes (b ∷ bytes) after e = cc

module _ {Line : Type 0} (kind : TextKind Line) where
  ended : (line : Line) (after : List ℕ) → (kind.line_text line ++ 10 ∷ []) ++ after ≡ kind.line_text line ++ 10 ∷ after
  ended line after = append_assoc (kind.line_text line) (10 ∷ []) after

  -- ---- the first of several lines

  oldest : (more : List Line) → (more ≡ []) ⊎ Oldest kind more
  oldest [] = inl refl
  oldest (line ∷ earlier) = inr (elim (oldest earlier) [
    | inl none ↦ record {
      first = line;
      later = [];
      same = ap (λ xs. line ∷ xs) none;
      text = ap (λ xs. lines_text kind xs ++ (kind.line_text line ++ 10 ∷ [])) none;
    }
    | inr o ↦ record {
      first = o.first;
      later = line ∷ o.later;
      same = ap (λ xs. line ∷ xs) o.same;
      text =
          ap (λ xs. xs ++ (kind.line_text line ++ 10 ∷ [])) o.text
          ∙ append_assoc (kind.line_text o.first) (10 ∷ lines_text kind o.later) (kind.line_text line ++ 10 ∷ []);
    }
  ])

  earlier_lines : (shape : Shape) (later lines : List Line) → AreLines kind shape (later ++ lines) → AreLines kind shape lines
  earlier_lines shape [] lines each = each
  earlier_lines shape (line ∷ later) lines each = earlier_lines shape later lines each.1

  has_next : (shape : Shape) (lines : List Line) (rest : List ℕ) (all : List Line) → AreLines kind shape all → rest ≢ [] → HasMore kind lines rest all
      → HasNext kind shape lines rest all
  has_next shape lines rest all each some m = elim (oldest m.more) [
    | inl none ↦ absurd (some (m.spelled ∙ ap (lines_text kind) none))
    | inr o ↦
        let same : all ≡ o.later ++ o.first ∷ lines =
        m.same ∙ (ap (λ xs. xs ++ lines) o.same ∙ append_assoc o.later (o.first ∷ []) lines) in
        record {
          first = o.first;
          later = o.later;
          next = (earlier_lines shape o.later (o.first ∷ lines) (subst (AreLines kind shape) same each)).0;
          same = same;
          spelled = m.spelled ∙ o.text;
        }
  ]

  -- ---- the header

  -- a refusal of the header is one of the text
  pub header_refused : (title text : List ℕ) (e : Refusal) → title ≡ kind.title → IsHeaderRefusal title text e → IsTextRefusal kind text e
  header_refused title text e same (inl h) = subst (IsTextRefusal kind text) (sym h.0) (subst (λ t. HasBadShape t text) same h.1)
  header_refused title text e same (inr h) = subst (IsTextRefusal kind text) (sym h.0) (inl (refl, subst (λ t. HasNoHeader t text) same h.1))

  -- if one header is read, another one is that header, and lines after the other one are lines after it
  module _ (title text after : List ℕ) (shape : Shape) (titled : title ≡ kind.title)
      (only : (other : Shape) (rest : List ℕ) → BeginsWithHeader title text other rest → (shape ≡ other) × (after ≡ rest))
      (other : Shape) (rest : List ℕ) (header : BeginsWithHeader kind.title text other rest) where
    pub its_header : (shape ≡ other) × (after ≡ rest)
    its_header = only other rest (subst (λ t. BeginsWithHeader t text other rest) (sym titled) header)

    pub its_lines : (lines : List Line) → BeginsWithLines kind rest other lines [] → (first : Shape) → first ≡ shape
        → AreLines kind first lines × (after ≡ lines_text kind lines)
    its_lines lines begins first same = (
      subst (λ x. AreLines kind x lines) (sym (same ∙ its_header.0)) begins.each,
      its_header.1 ∙ (begins.cut ∙ append-nil (lines_text kind lines)),
    )

  -- ---- what begins a rest

  module _ (clean : (line : Line) → kind.IsLine line → IsAbsent 10 (kind.line_text line)) (shape : Shape) where
    -- without a line feed no line is at its beginning
    pub no_feed : (lines : List Line) (rest : List ℕ) → IsAbsent 10 rest → HasNoNext kind shape lines rest
    no_feed lines rest whole line after next e = not_absent 10 (kind.line_text line) after (subst (IsAbsent 10) (e ∙ ended line after) whole)

    module _ (lines : List Line) (rest bytes after : List ℕ) (cut : rest ≡ bytes ++ 10 ∷ after) (whole : IsAbsent 10 bytes) where
      first_is : (line : Line) (later : List ℕ) → kind.IsLine line → rest ≡ (kind.line_text line ++ 10 ∷ []) ++ later → bytes ≡ kind.line_text line
      first_is line later is e = (one_cut 10 bytes after (kind.line_text line) later whole (clean line is) (sym cut ∙ (e ∙ ended line later))).0

      -- if the first line is read as none
      pub none_read : Reads kind.IsLine kind.line_text bytes None → HasNoNext kind shape lines rest
      none_read reads line later next e =
          not_read kind.IsLine kind.line_text bytes reads line next.is_line (first_is line later next.is_line e)

      -- if it is read as one that cannot follow
      pub no_follower : (line : Line) → Reads kind.IsLine kind.line_text bytes (Some line) → (kind.CanFollow shape lines line → ⊥)
          → HasNoNext kind shape lines rest
      no_follower line reads cannot other later next e =
          cannot (subst (kind.CanFollow shape lines)
          (sym (only_read kind.IsLine kind.line_text bytes line reads other next.is_line (first_is other later next.is_line e))) next.follows)

    -- ---- lines taken in

    module _ (text : List ℕ) (Gives : List Line → Type 0) where
      pub none_yet : Gives [] → TakenSoFar kind shape Gives text text 1
      none_yet gives =
          record {
            lines = [];
            begins = record { each = tt; cut = refl };
            gives = gives;
            counted = refl;
            only = λ all each e. record { more = all; same = sym (append-nil all); spelled = e };
          }

      module _ (rest : List ℕ) (number : ℕ) (s : TakenSoFar kind shape Gives text rest number) where
        pub all_taken : rest ≡ [] → HasTaken kind shape Gives text
        all_taken e = record { lines = s.lines; begins = subst (BeginsWithLines kind text shape s.lines) e s.begins; gives = s.gives }

        -- if no rest is left, no other lines are the text
        pub only_lines : rest ≡ [] → (all : List Line) → AreLines kind shape all → text ≡ lines_text kind all → Gives all
        only_lines none all each e =
            let m = s.only all each e in
            elim (oldest m.more) [
              | inl no_more ↦ subst Gives (sym (m.same ∙ ap (λ xs. xs ++ s.lines) no_more)) s.gives
              | inr o ↦ absurd (no_bytes (kind.line_text o.first) (lines_text kind o.later) (sym o.text ∙ (sym m.spelled ∙ none)))
            ]

        -- if no line comes next, the next line is the first bad one
        pub bad_after : rest ≢ [] → HasNoNext kind shape s.lines rest → IsBadAfter kind shape text (number + 1)
        bad_after some none =
            record { lines = s.lines; rest = rest; begins = s.begins; some = some; none = none; counted = omega (arith, s.counted) }

        -- and no lines are the text
        pub no_lines : rest ≢ [] → HasNoNext kind shape s.lines rest
            → (all : List Line) → AreLines kind shape all → text ≡ lines_text kind all → ⊥
        no_lines some none all each e =
            let n = has_next shape s.lines rest all each some (s.only all each e) in
            none n.first (lines_text kind n.later) n.next (n.spelled ∙ sym (ended n.first (lines_text kind n.later)))

        -- one more line, which can follow
        pub one_more : (bytes after : List ℕ) → rest ≡ bytes ++ 10 ∷ after → IsAbsent 10 bytes
            → (line : Line) → Reads kind.IsLine kind.line_text bytes (Some line) → kind.CanFollow shape s.lines line
            → (Later : List Line → Type 0) → Later (line ∷ s.lines) → TakenSoFar kind shape Later text after (number + 1)
        one_more bytes after cut whole line reads follows Later later =
            let read = was_read kind.IsLine kind.line_text bytes line reads in
            let spelled : rest ≡ (kind.line_text line ++ 10 ∷ []) ++ after = cut ∙ (ap (λ xs. xs ++ 10 ∷ after) read.1 ∙ sym (ended line after)) in
            let text_is : text ≡ (lines_text kind s.lines ++ (kind.line_text line ++ 10 ∷ [])) ++ after =
            s.begins.cut
            ∙ (ap (λ xs. lines_text kind s.lines ++ xs) spelled
            ∙ sym (append_assoc (lines_text kind s.lines) (kind.line_text line ++ 10 ∷ []) after)) in
            record {
              lines = line ∷ s.lines;
              begins = record { each = (record { is_line = read.0; follows = follows }, s.begins.each); cut = text_is };
              gives = later;
              counted = omega (arith, s.counted);
              only = λ all each e.
                  let n = has_next shape s.lines rest all each (λ none. no_bytes bytes after (sym cut ∙ none)) (s.only all each e) in
                  let both = one_cut 10 bytes after (kind.line_text n.first) (lines_text kind n.later) whole (clean n.first n.next.is_line) (sym cut ∙ n.spelled) in
                  let first_is : line ≡ n.first = only_read kind.IsLine kind.line_text bytes line reads n.first n.next.is_line both.0 in
                  record {
                    more = n.later;
                    same = n.same ∙ ap (λ x. n.later ++ x ∷ s.lines) (sym first_is);
                    spelled = both.1;
                  };
            }
